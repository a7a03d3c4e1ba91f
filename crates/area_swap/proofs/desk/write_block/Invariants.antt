use Rattle.std.proofs.Common.{◌≡◌, ◌<◌}
use Rattle.area_swap.specs.Rule.{Moment}
use Rattle.area_swap.proofs.Deskwork.{writing_at}
use Rattle.area_swap.proofs.desk.write_block.Given as goal

abbrev pub invariant-words : goal.invariant-words
invariant-words l =
    record {
      table : l.place.table_id ≡ l.initial.place.table_id;
      seat : l.place.me ≡ writing_at l.initial.place.me l.j;
      rule : l.first < l.j → Moment l.place.me.0;
    }
