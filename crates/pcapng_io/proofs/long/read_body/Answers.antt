-- The fields in front and the end say what all bytes say.
use Rattle.std.proofs.Common.{◌∙◌, ap, length, subst, sym, Ok, Err, arith}
use Rattle.std.proofs.lemmas.Result.{err_from_is_err_and}
use Rattle.pcapng_io.specs.declared.block.Block.{Block}
use Rattle.std.proofs.lemmas.Bool.Decides.{nat_tests}
use Rattle.pcapng_io.specs.Long.{IsLonger}
use Rattle.pcapng_io.specs.Seen.{seen_by}
use Rattle.pcapng_io.proofs.LongBlockLemmas.{never_end, passed_size, with_fields, with_size}
use Rattle.pcapng_io.proofs.RefusalLemmas.{body_kind, passed_on}
use Rattle.pcapng_io.proofs.long.read_body.Goals as goal

pub returns-then-frame-eq-INTERFACE-clause-sound : goal.returns-then-frame-eq-INTERFACE-clause-sound
returns-then-frame-eq-INTERFACE-clause-sound g c = c.in_ok-block.ensures.sound c.args.sought.number

pub returns-in_ok-read_options-in-Packet-clause-told : goal.returns-in_ok-read_options-in-Packet-clause-told
returns-in_ok-read_options-in-Packet-clause-told g c =
    with_fields (g.I.Reading.readable c.args.files.now).held c.args.name.now (seen_by c.args.sought.known c.args.interfaces.now) c.args.window.now c.as_slice.result.now c.args.sought.number c.args.frame
    c.in_ok-read_options-in-Packet.field-0 c.body_of_fields.result (Ok c.in-Ok.block) (λ k. grind (arith, nat_tests)) c.requires.kept c.as_slice.ensures c.body_of_fields.ensures.says c.in-Ok.is c.in_ok-read_options-in-Packet.ensures.told

pub returns-in_ok-read_end-in-Passed-clause-told : goal.returns-in_ok-read_end-in-Passed-clause-told
returns-in_ok-read_end-in-Passed-clause-told g c =
    with_fields (g.I.Reading.readable c.args.files.now).held c.args.name.now (seen_by c.args.sought.known c.args.interfaces.now) c.args.window.now c.as_slice.result.now c.args.sought.number c.args.frame
    c.in_ok-read_end-in-Passed.field-0 c.body_of_fields.result (Ok c.in-Ok.block) (λ k. grind (arith, nat_tests)) c.requires.kept c.as_slice.ensures c.body_of_fields.ensures.says c.in-Ok.is c.in_ok-read_end-in-Passed.ensures.told

pub returns-in_ok-read_end-in-Passed-clause-stands : goal.returns-in_ok-read_end-in-Passed-clause-stands
returns-in_ok-read_end-in-Passed-clause-stands g c =
    with_size (g.I.Reading.readable c.args.files.now).held c.args.name.now c.args.sought.known.at c.args.frame.total c.args.window.now c.read_end-in-Passed.new.window c.in-Ok.block c.in-Passed.field-0 c.in-Passed.is
    (passed_size (seen_by c.args.sought.known c.args.interfaces.now) c.as_slice.result.now c.args.sought.number c.args.frame c.body_of_fields.result c.in-Ok.block c.in-Passed.field-0 c.body_of_fields.ensures.says c.in-Ok.is c.in-Passed.is)
    c.in_ok-read_end-in-Passed.ensures.stands

pub returns-in-End-clause-told : goal.returns-in-End-clause-told
returns-in-End-clause-told g c =
    absurd (never_end (seen_by c.args.sought.known c.args.interfaces.now) c.as_slice.result.now c.args.sought.number c.args.frame c.body_of_fields.result c.in-Ok.block c.body_of_fields.ensures.says c.in-Ok.is c.in-End.is)

pub returns-in-Err-clause-told : goal.returns-in-Err-clause-told
returns-in-Err-clause-told g c =
    with_fields (g.I.Reading.readable c.args.files.now).held c.args.name.now (seen_by c.args.sought.known c.args.interfaces.now) c.args.window.now c.as_slice.result.now c.args.sought.number c.args.frame
    c.in_ok-read_end-in-Err.field-0 c.body_of_fields.result (Err c.in-Err.refusal) (λ k. grind (arith, nat_tests)) c.requires.kept c.as_slice.ensures c.body_of_fields.ensures.says c.in-Err.is c.in_ok-read_end-in-Err.ensures.told

pub returns-in_err-read_end-in-Err-clause-refused : goal.returns-in_err-read_end-in-Err-clause-refused
returns-in_err-read_end-in-Err-clause-refused g c =
    let seen = seen_by c.args.sought.known c.args.interfaces.now in
    let e = err_from_is_err_and c.from_residual-in_err-read_end-in-Err.result c.from_residual-in_err-read_end-in-Err.ensures.1 in
    passed_on seen c.from_residual-in_err-read_end-in-Err.result c.in_err-read_end-in-Err.field-0.0 (e.1 ∙ ap Err e.2) (c.in_err-read_end-in-Err.ensures.refused seen)

pub returns-in_err-read_options-in-Packet-clause-refused : goal.returns-in_err-read_options-in-Packet-clause-refused
returns-in_err-read_options-in-Packet-clause-refused g c =
    let seen = seen_by c.args.sought.known c.args.interfaces.now in
    let e = err_from_is_err_and c.from_residual-in_err-read_options-in-Packet.result c.from_residual-in_err-read_options-in-Packet.ensures.1 in
    passed_on seen c.from_residual-in_err-read_options-in-Packet.result c.in_err-read_options-in-Packet.field-0.0 (e.1 ∙ ap Err e.2) (c.in_err-read_options-in-Packet.ensures.refused seen)

pub returns-in_err-read_end-in-Passed-clause-refused : goal.returns-in_err-read_end-in-Passed-clause-refused
returns-in_err-read_end-in-Passed-clause-refused g c =
    let seen = seen_by c.args.sought.known c.args.interfaces.now in
    let e = err_from_is_err_and c.from_residual-in_err-read_end-in-Passed.result c.from_residual-in_err-read_end-in-Passed.ensures.1 in
    passed_on seen c.from_residual-in_err-read_end-in-Passed.result c.in_err-read_end-in-Passed.field-0.0 (e.1 ∙ ap Err e.2) (c.in_err-read_end-in-Passed.ensures.refused seen)

pub returns-in-Err-clause-refused : goal.returns-in-Err-clause-refused
returns-in-Err-clause-refused g c =
    body_kind (seen_by c.args.sought.known c.args.interfaces.now) c.as_slice.result.now c.args.sought.number c.args.frame c.in-Err.refusal
    (sym c.body_of_fields.ensures.says ∙ c.in-Err.is)

pub returns-in_ok-read_end-in-Passed-clause-longer : goal.returns-in_ok-read_end-in-Passed-clause-longer
returns-in_ok-read_end-in-Passed-clause-longer g c =
    let size = passed_size (seen_by c.args.sought.known c.args.interfaces.now) c.as_slice.result.now c.args.sought.number c.args.frame c.body_of_fields.result c.in-Ok.block c.in-Passed.field-0 c.body_of_fields.ensures.says c.in-Ok.is c.in-Passed.is in
    let L : Block → Type 0 = IsLonger (length c.args.window.now.bytes) in
    subst L (sym c.in-Passed.is) (omega (arith, size, c.requires.less))
