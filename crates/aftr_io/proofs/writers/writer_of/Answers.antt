use Rattle.std.proofs.Common.{refl, ap}
use Rattle.aftr_io.specs.System.{WritePlace}
use Rattle.aftr_io.specs.declared.writers.Writer.{Writer}
use Rattle.aftr_io.proofs.HandleLemmas.{ends_same, ends_pushed, none_named, none_same, end_anywhere}
use Rattle.aftr_io.proofs.writers.writer_of.Given as given
use Rattle.aftr_io.proofs.writers.writer_of.Goals as goal
use Rattle.std.proofs.Common.{string_bytes}

abbrev handle : (g : given.Over) → Writer g.row.S.Denot g.row.S-ReadHandle.Denot g.row.S-WriteHandle.Denot g.S.System → WritePlace
handle g w = g.S.System.writes w.file

pub returns-in_err-file-clause-ends : goal.returns-in_err-file-clause-ends
returns-in_err-file-clause-ends g c told =
    ends_same (handle g) _ _ _ _ (c.in_err-file.ensures.same told) c.in_ok-reserve.ensures.items (c.requires told)

pub returns-clause-ends : goal.returns-clause-ends
returns-clause-ends g c told =
    let none = none_same (handle g) c.args.name.now _ _ c.in_ok-reserve.ensures.items
    (none_named (handle g) (λ w. string_bytes w.name) (λ w. w.of_name told) _ _ c.deref.ensures.value c.args.name.now c.in_default.ensures.none) in
    let ends = ends_same (handle g) _ _ _ _ (c.in_ok-file.ensures.same told) c.in_ok-reserve.ensures.items (c.requires told) in
    ends_same (handle g) _ _ _ _ refl c.in_ok-push.ensures.items
    (ends_pushed (handle g) _ _ _ c.args.name.now (ap (λ h. h.0) (c.in_ok-file.ensures.file told))
    (end_anywhere _ _ c.args.name.now (c.in_ok-file.ensures.file told)) none ends)
