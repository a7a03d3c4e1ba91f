use Rattle.std.proofs.Common.{◌+◌, ◌≤◌, length, Option, Err, IfSome, refl, ◌∙◌, ap, subst}
use Rattle.std.proofs.lemmas.Result.{err_from_is_err_and}
use Rattle.pcapng_io.specs.declared.record.Found.{Found}
use Rattle.pcapng_io.specs.declared.walk.Sighted.{Sighted}
use Rattle.pcapng_io.specs.Seen.{seen_by}
use Rattle.pcapng_io.specs.Answers.{IsSoundSight}
use Rattle.capture_io.specs.Windows.{IsAtFront}
use Rattle.pcapng_io.proofs.FileLemmas.{passed_inside}
use Rattle.pcapng_io.proofs.FindLemmas.{found_told, sight_failed, sighted_at}
use Rattle.pcapng_io.proofs.ReadLemmas.{record_told}
use Rattle.pcapng_io.proofs.record.find_record.Goals as goal

pub returns-in_err-sighted-clause-told : goal.returns-in_err-sighted-clause-told
returns-in_err-sighted-clause-told g c =
    let e = err_from_is_err_and c.from_residual.result c.from_residual.ensures.1 in
    sight_failed (g.I.Reading.readable c.args.files.now).held c.args.name.now (seen_by c.args.known c.args.interfaces.now.items) c.args.number c.find_packet.new.interfaces.items c.from_residual.result c.in_err-sighted.field-0.0 (e.1 ∙ ap Err e.2) c.in_err-sighted.ensures.told

pub returns-in_err-sighted-clause-reads : goal.returns-in_err-sighted-clause-reads
returns-in_err-sighted-clause-reads g c =
    let e = err_from_is_err_and c.from_residual.result c.from_residual.ensures.1 in
    passed_inside (Option Sighted) (Option Found) c.from_residual.result c.in_err-sighted.field-0.0 c.args.name.now _ _ (g.I.Reading.readable c.args.files.now) (g.I.Reading.readable c.args.files.now) (g.I.Reading.readable c.find_packet.new.files)
    (e.1 ∙ ap Err e.2) refl (λ place within. within) c.in_err-sighted.ensures.reads

pub returns-in-Ok-clause-told : goal.returns-in-Ok-clause-told
returns-in-Ok-clause-told g c =
    let held = (g.I.Reading.readable c.args.files.now).held in
    let seen = seen_by c.args.known c.args.interfaces.now.items in
    let now = c.find_packet.new.interfaces.items in
    let s = c.in-Some.sighted in
    let window = c.find_packet.new.window in
    let sound : IsSoundSight s c.args.known c.args.number now = subst (λ (o : Option Sighted). IfSome o (λ x. IsSoundSight x c.args.known c.args.number now)) c.in-Some.is c.in_ok-sighted.ensures.sound in
    let stands : IsAtFront held c.args.name.now s.known.at window = subst (λ (o : Option Sighted). IfSome o (λ x. IsAtFront held c.args.name.now x.known.at window)) c.in-Some.is c.in_ok-sighted.ensures.stands in
    let there : s.packet.start + s.packet.count ≤ length window.bytes = subst (λ (o : Option Sighted). IfSome o (λ x. x.packet.start + x.packet.count ≤ length window.bytes)) c.in-Some.is c.in_ok-sighted.ensures.there in
    found_told held c.args.name.now seen c.args.number now s c.in-Ok.record c.behind_packet.result
    (sighted_at held c.args.name.now seen c.args.number now c.in_ok-sighted.field-0 s c.in-Some.is c.in_ok-sighted.ensures.told)
    (record_told held c.args.name.now s.known s.packet window c.as_slice.result.now c.in-Ok.record stands there c.as_slice.ensures c.in-Ok.ensures)
    c.behind_packet.ensures
