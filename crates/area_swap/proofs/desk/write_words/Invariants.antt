use Rattle.std.proofs.Common.{◌≡◌, ◌<◌, length}
use Rattle.area_swap.specs.Changes.{AreChanges}
use Rattle.area_swap.specs.Rule.{Moment}
use Rattle.area_swap.specs.Views.{stale_of}
use Rattle.area_swap.proofs.Deskwork.{writing_at}
use Rattle.area_swap.proofs.desk.write_words.Given as goal

abbrev pub invariant-listed : goal.invariant-listed
invariant-listed l =
    record {
      table : l.place.table_id ≡ l.initial.place.table_id;
      seat : l.place.me ≡ writing_at l.initial.place.me l.reached;
      changes : AreChanges (stale_of l.initial.place.me.0) l.words l.reached (length l.words) l.left;
      rule : 0 < l.reached → Moment l.place.me.0;
    }

abbrev pub decreases-listed : goal.decreases-listed
decreases-listed l = length l.left
