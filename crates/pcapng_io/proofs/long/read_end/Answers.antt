-- What is left of the window begins with the last four bytes.
use Rattle.std.proofs.Common.{◌+◌, ◌-◌, ◌≤◌, length, Ok, Err, ap, subst, arith}
use Rattle.pcapng_io.proofs.LongLemmas.{end_told, with_passed}
use Rattle.pcapng_io.proofs.long.read_end.Goals as goal

pub returns-in-Ok-clause-told : goal.returns-in-Ok-clause-told
returns-in-Ok-clause-told g c =
    end_told (g.I.Reading.readable c.args.files.now).held c.args.name.now c.args.from c.args.window.now c.args.frame c.args.at (c.args.at + c.from.result - 4) c.as_slice.result.now c.read_over.new.window.bytes
    c.end_of.result (Ok c.in-Ok.frame) (omega (arith, c.from.ensures)) (omega (arith, c.requires.inside, c.requires.behind)) c.as_slice.ensures c.end_of.ensures.says c.in-Ok.is c.in_ok-read_over.ensures.told

pub returns-in-Err-clause-told : goal.returns-in-Err-clause-told
returns-in-Err-clause-told g c =
    end_told (g.I.Reading.readable c.args.files.now).held c.args.name.now c.args.from c.args.window.now c.args.frame c.args.at (c.args.at + c.from.result - 4) c.as_slice.result.now c.read_over.new.window.bytes
    c.end_of.result (Err c.in-Err.refusal) (omega (arith, c.from.ensures)) (omega (arith, c.requires.inside, c.requires.behind)) c.as_slice.ensures c.end_of.ensures.says c.in-Err.is c.in_ok-read_over.ensures.told

pub returns-in-Ok-clause-stands : goal.returns-in-Ok-clause-stands
returns-in-Ok-clause-stands g c =
    let four = subst (λ n. 4 ≤ n) (ap length c.as_slice.ensures) c.in-Ok.ensures.there in
    with_passed (g.I.Reading.readable c.args.files.now).held c.args.name.now c.args.from c.args.window.now (c.args.at + c.from.result - 4) c.read_over.new.window
    (c.in_ok-read_over.ensures.stands four) c.pass.new.self 4 (c.args.at + c.args.frame.total) four c.pass.ensures.bytes c.pass.ensures.last (omega (arith, c.from.ensures, c.requires.inside, c.requires.behind))
