-- The fixed fields, then the options, and what they give where the block is all there.
use Rattle.std.proofs.Common.{◌≡◌, ◌+◌, drop, Ok, Err, refl, sym, ◌∙◌, ap}
use Rattle.std.proofs.lemmas.Result.{err_from_is_err_and}
use Rattle.capture_io.specs.Answers.{Agrees}
use Rattle.pcapng_io.specs.Interfaces.{interface_in, option_bytes, options_in, resolution_of}
use Rattle.pcapng_io.specs.Long.{StandsAt, ended}
use Rattle.pcapng_io.specs.Seen.{seen_by}
use Rattle.pcapng_io.proofs.LongLemmas.{agrees_failed, fields_there, interface_failed, interface_refused, interface_told, with_begins, with_both, with_joined, with_passed}
use Rattle.pcapng_io.proofs.RefusalLemmas.{passed_on}
use Rattle.pcapng_io.proofs.long.read_interface.Goals as goal

pub returns-in-Err-clause-told : goal.returns-in-Err-clause-told
returns-in-Err-clause-told g c =
    let held = (g.I.Reading.readable c.args.files.now).held in
    let at = c.args.known.at in
    let seen = seen_by c.args.known c.args.interfaces.now in
    let first = c.args.window.now in
    with_both held c.args.name.now at first
    (λ all (s : StandsAt at first all) e. interface_refused seen (drop at all) c.args.frame c.in_ok-read_end-in-Err.field-0 c.start_of.result c.in-Err.refusal
    (fields_there seen c.args.frame c.as_slice.result.now (drop at all) first c.as_slice.ensures c.requires.fields s.start ∙ sym c.start_of.ensures) c.in-Err.is e)
    (with_begins held c.args.name.now at first) c.in_ok-read_end-in-Err.ensures.told

pub returns-in_err-found-clause-told : goal.returns-in_err-found-clause-told
returns-in_err-found-clause-told g c =
    let held = (g.I.Reading.readable c.args.files.now).held in
    let name = c.args.name.now in
    let at = c.args.known.at in
    let seen = seen_by c.args.known c.args.interfaces.now in
    let frame = c.args.frame in
    let first = c.args.window.now in
    let begins = with_begins held name at first in
    let passed = with_passed held name at first at first begins c.pass.new.self 16 (at + 16) c.requires.fields c.pass.ensures.bytes c.pass.ensures.last refl in
    let e = err_from_is_err_and c.from_residual-in_err-found.result c.from_residual-in_err-found.ensures.1 in
    let told = with_joined (λ all. Agrees (Err c.in_err-found.field-0.0) (ended frame (drop at all) at (resolution_of at (options_in frame.big (option_bytes frame (drop at all))))))
    held held name at first (at + 16) c.pass.new.self refl passed c.in_err-found.ensures.told in
    agrees_failed held name at first (λ all. ended frame (drop at all) at (interface_in seen (drop at all) frame)) c.from_residual-in_err-found.result c.in_err-found.field-0.0 (e.1 ∙ ap Err e.2)
    (with_both held name at first
    (λ all (s : StandsAt at first all) a. interface_failed seen (drop at all) frame c.in-Ok.start c.in_err-found.field-0.0
    (fields_there seen frame c.as_slice.result.now (drop at all) first c.as_slice.ensures c.requires.fields s.start ∙ (sym c.start_of.ensures ∙ c.in-Ok.is)) a)
    begins told)

pub returns-in-Ok-block_of-clause-told : goal.returns-in-Ok-block_of-clause-told
returns-in-Ok-block_of-clause-told g c =
    let held = (g.I.Reading.readable c.args.files.now).held in
    let name = c.args.name.now in
    let at = c.args.known.at in
    let seen = seen_by c.args.known c.args.interfaces.now in
    let frame = c.args.frame in
    let first = c.args.window.now in
    let begins = with_begins held name at first in
    let passed = with_passed held name at first at first begins c.pass.new.self 16 (at + 16) c.requires.fields c.pass.ensures.bytes c.pass.ensures.last refl in
    let told = with_joined (λ all. ended frame (drop at all) at (resolution_of at (options_in frame.big (option_bytes frame (drop at all)))) ≡ Ok c.in_ok-found.found)
    held held name at first (at + 16) c.pass.new.self refl passed c.in_ok-found.ensures.told in
    with_both held name at first
    (λ all (s : StandsAt at first all) e. interface_told seen (drop at all) frame c.start_of.result c.in-Ok.start c.in_ok-found.found c.block_of.result (Ok c.in-Ok-block_of.block)
    (fields_there seen frame c.as_slice.result.now (drop at all) first c.as_slice.ensures c.requires.fields s.start ∙ sym c.start_of.ensures) c.in-Ok.is e c.block_of.ensures.says c.in-Ok-block_of.is)
    begins told

pub returns-in-Err-block_of-clause-told : goal.returns-in-Err-block_of-clause-told
returns-in-Err-block_of-clause-told g c =
    let held = (g.I.Reading.readable c.args.files.now).held in
    let name = c.args.name.now in
    let at = c.args.known.at in
    let seen = seen_by c.args.known c.args.interfaces.now in
    let frame = c.args.frame in
    let first = c.args.window.now in
    let begins = with_begins held name at first in
    let passed = with_passed held name at first at first begins c.pass.new.self 16 (at + 16) c.requires.fields c.pass.ensures.bytes c.pass.ensures.last refl in
    let told = with_joined (λ all. ended frame (drop at all) at (resolution_of at (options_in frame.big (option_bytes frame (drop at all)))) ≡ Ok c.in_ok-found.found)
    held held name at first (at + 16) c.pass.new.self refl passed c.in_ok-found.ensures.told in
    with_both held name at first
    (λ all (s : StandsAt at first all) e. interface_told seen (drop at all) frame c.start_of.result c.in-Ok.start c.in_ok-found.found c.block_of.result (Err c.in-Err-block_of.refusal)
    (fields_there seen frame c.as_slice.result.now (drop at all) first c.as_slice.ensures c.requires.fields s.start ∙ sym c.start_of.ensures) c.in-Ok.is e c.block_of.ensures.says c.in-Err-block_of.is)
    begins told

pub returns-in-Ok-block_of-clause-stands : goal.returns-in-Ok-block_of-clause-stands
returns-in-Ok-block_of-clause-stands g c =
    let held = (g.I.Reading.readable c.args.files.now).held in
    let name = c.args.name.now in
    let at = c.args.known.at in
    let first = c.args.window.now in
    let passed = with_passed held name at first at first (with_begins held name at first) c.pass.new.self 16 (at + 16) c.requires.fields c.pass.ensures.bytes c.pass.ensures.last refl in
    with_joined (StandsAt (at + c.args.frame.total) c.read_resolution.new.window) held held name at first (at + 16) c.pass.new.self refl passed c.in_ok-found.ensures.stands

pub returns-in_err-read_end-in-Err-clause-refused : goal.returns-in_err-read_end-in-Err-clause-refused
returns-in_err-read_end-in-Err-clause-refused g c =
    let seen = seen_by c.args.known c.args.interfaces.now in
    let e = err_from_is_err_and c.from_residual.result c.from_residual.ensures.1 in
    passed_on seen c.from_residual.result c.in_err-read_end-in-Err.field-0.0 (e.1 ∙ ap Err e.2) (c.in_err-read_end-in-Err.ensures.refused seen)

pub returns-in_err-found-clause-refused : goal.returns-in_err-found-clause-refused
returns-in_err-found-clause-refused g c =
    let seen = seen_by c.args.known c.args.interfaces.now in
    let e = err_from_is_err_and c.from_residual-in_err-found.result c.from_residual-in_err-found.ensures.1 in
    passed_on seen c.from_residual-in_err-found.result c.in_err-found.field-0.0 (e.1 ∙ ap Err e.2) (c.in_err-found.ensures.refused seen)
