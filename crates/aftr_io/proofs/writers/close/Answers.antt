use Rattle.std.proofs.Common.{refl}
use Rattle.aftr_io.specs.System.{WritePlace}
use Rattle.aftr_io.specs.declared.writers.Writer.{Writer}
use Rattle.aftr_io.proofs.HandleLemmas.{ends_removed, ends_same, named_handle, none_left, none_same}
use Rattle.aftr_io.proofs.writers.close.Given as given
use Rattle.aftr_io.proofs.writers.close.Goals as goal
use Rattle.std.proofs.Common.{string_bytes}

abbrev handle : (g : given.Over) → Writer g.row.S.Denot g.row.S-ReadHandle.Denot g.row.S-WriteHandle.Denot g.S.System → WritePlace
handle g w = g.S.System.writes w.file

pub returns-in-Some-clause-ends : goal.returns-in-Some-clause-ends
returns-in-Some-clause-ends g c told held ends =
    ends_same (handle g) held held _ _ refl c.remove.ensures.items (ends_removed (handle g) held c.args.writers.now.items c.in-Some.place ends)

pub returns-in-Some-clause-none : goal.returns-in-Some-clause-none
returns-in-Some-clause-none g c told held ends =
    none_same (handle g) c.args.name.now _ _ c.remove.ensures.items
    (none_left (handle g) held c.args.writers.now.items c.in-Some.place c.args.name.now (rw (← c.deref.ensures.value) c.in-Some.ensures.within)
    (named_handle (handle g) (λ w. string_bytes w.name) (λ w. w.of_name told) _ _ c.deref.ensures.value c.args.name.now c.in-Some.place c.in-Some.ensures.named) ends)
