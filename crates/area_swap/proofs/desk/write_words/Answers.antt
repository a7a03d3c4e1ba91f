use Rattle.std.proofs.Common.{length}
use Rattle.area_swap.specs.Views.{stale_of}
use Rattle.area_swap.proofs.ChangeLemmas.{none_left}
use Rattle.area_swap.proofs.Deskwork.{alike_still}
use Rattle.area_swap.proofs.desk.write_words.Goals as goal

pub pass_over-requires-2-clause-alike : goal.pass_over-requires-2-clause-alike
pass_over-requires-2-clause-alike c =
    alike_still c.args.place.now.me c.listed.place.me c.args.words.now c.listed.reached c.listed.reached (length c.args.words.now) c.listed.invariant.seat
    (none_left (stale_of c.args.place.now.me.0) c.args.words.now c.listed.reached (length c.args.words.now) c.listed.left.now c.in_default.len_below
    c.listed.invariant.changes)
