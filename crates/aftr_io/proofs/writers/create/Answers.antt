use Rattle.std.proofs.Common.{refl, ap}
use Rattle.aftr_io.specs.System.{WritePlace}
use Rattle.aftr_io.specs.declared.writers.Writer.{Writer}
use Rattle.aftr_io.proofs.HandleLemmas.{ends_same, ends_pushed, ends_of_others, none_same, end_at_start}
use Rattle.aftr_io.proofs.writers.create.Given as given
use Rattle.aftr_io.proofs.writers.create.Goals as goal

abbrev handle : (g : given.Over) → Writer g.row.S.Denot g.row.S-ReadHandle.Denot g.row.S-WriteHandle.Denot g.S.System → WritePlace
handle g w = g.S.System.writes w.file

pub returns-in_err-reserve-clause-ends : goal.returns-in_err-reserve-clause-ends
returns-in_err-reserve-clause-ends g c told =
    ends_same (handle g) _ _ _ _ refl c.in_err-reserve.ensures.items (c.close.ensures.ends told _ (c.requires told))

pub returns-in_err-file-clause-ends : goal.returns-in_err-file-clause-ends
returns-in_err-file-clause-ends g c told =
    ends_same (handle g) _ _ _ _ (c.in_err-file.ensures.same told) c.in_ok-reserve.ensures.items (c.close.ensures.ends told _ (c.requires told))

pub returns-clause-ends : goal.returns-clause-ends
returns-clause-ends g c told =
    let none = none_same (handle g) c.args.name.now _ _ c.in_ok-reserve.ensures.items (c.close.ensures.none told _ (c.requires told)) in
    let ends = ends_same (handle g) _ _ _ _ refl c.in_ok-reserve.ensures.items (c.close.ensures.ends told _ (c.requires told)) in
    ends_same (handle g) _ _ _ _ refl c.in_ok-push.ensures.items
    (ends_pushed (handle g) _ _ _ c.args.name.now (ap (λ h. h.0) (c.in_ok-file.ensures.file told))
    (end_at_start _ _ _ c.args.name.now (c.in_ok-file.ensures.file told) (c.in_ok-file.ensures.made told)) none
    (ends_of_others (handle g) _ _ c.args.name.now _ _ (c.in_ok-file.ensures.made told) none ends))
