-- Each option, where it is all there, is that of all the bytes.
use Rattle.std.proofs.Common.{◌+◌, Ok, Err, refl, ◌∙◌, arith}
use Rattle.std.proofs.lemmas.Bool.Decides.{nat_tests}
use Rattle.pcapng_io.specs.Interfaces.{padded}
use Rattle.pcapng_io.proofs.OptionLemmas.{at_end, at_last, at_option, at_past}
use Rattle.pcapng_io.proofs.LongLemmas.{option_there, value_there}
use Rattle.pcapng_io.proofs.interface.walk_options.Goals as goal

pub returns-then-first-place-clause-says : goal.returns-then-first-place-clause-says
returns-then-first-place-clause-says c = λ bytes s whole. c.options.invariant.gives bytes s whole

pub returns-then-first-behind-clause-says : goal.returns-then-first-behind-clause-says
returns-then-first-behind-clause-says c = λ bytes s whole. c.options.invariant.gives bytes s whole

pub returns-then-option-eq-END_OF_OPTIONS-clause-says : goal.returns-then-option-eq-END_OF_OPTIONS-clause-says
returns-then-option-eq-END_OF_OPTIONS-clause-says c = λ bytes s whole.
    let o = c.option_of_front-option.result in
    let place = c.options.place in
    let head = option_there c.args.big c.args.first.now bytes place o s (grind (arith, nat_tests)) c.option_of_front-option.ensures in
    c.options.invariant.gives bytes s whole ∙ at_last c.args.big bytes c.args.at place c.args.end c.options.found o head whole (grind (arith, nat_tests)) (grind (arith, nat_tests))

pub returns-then-behind-end-clause-says : goal.returns-then-behind-end-clause-says
returns-then-behind-end-clause-says c = λ bytes s whole.
    let o = c.option_of_front-option.result in
    let place = c.options.place in
    let head = option_there c.args.big c.args.first.now bytes place o s (grind (arith, nat_tests)) c.option_of_front-option.ensures in
    c.options.invariant.gives bytes s whole ∙ at_past c.args.big bytes c.args.at place c.args.end c.options.found o head whole (grind (arith, nat_tests)) (grind (arith, nat_tests)) (grind (arith, nat_tests))

pub returns-in-Err-clause-says : goal.returns-in-Err-clause-says
returns-in-Err-clause-says c = λ bytes s whole.
    let o = c.option_of_front-option.result in
    let place = c.options.place in
    let head = option_there c.args.big c.args.first.now bytes place o s (grind (arith, nat_tests)) c.option_of_front-option.ensures in
    let value = value_there c.args.at c.options.found o c.args.first.now bytes (place + 4) (place + 4 + c.from.result) c.value_of.result (Err c.in-Err.refusal) s (omega arith) (grind (arith, nat_tests)) c.value_of.ensures c.in-Err.is in
    c.options.invariant.gives bytes s whole
    ∙ at_option c.args.big bytes c.args.at place c.args.end (place + (4 + padded o.count)) c.options.found o (Err c.in-Err.refusal) head whole (grind (arith, nat_tests)) (grind (arith, nat_tests)) refl value

pub options-preserved : goal.options-preserved
options-preserved c =
    let o = c.option_of_front-option.result in
    let place = c.options.place in
    record {
      behind = omega (arith, c.options.invariant.behind);
      inside = grind (arith, nat_tests, c.padded_len.ensures.few);
      gives = λ bytes s whole.
          let head = option_there c.args.big c.args.first.now bytes place o s (grind (arith, nat_tests)) c.option_of_front-option.ensures in
          let value = value_there c.args.at c.options.found o c.args.first.now bytes (place + 4) (place + 4 + c.from.result) c.value_of.result (Ok c.in-Ok.found) s (omega arith) (grind (arith, nat_tests)) c.value_of.ensures c.in-Ok.is in
          c.options.invariant.gives bytes s whole
          ∙ at_option c.args.big bytes c.args.at place c.args.end (place + (4 + c.padded_len.result)) c.options.found o (Ok c.in-Ok.found) head whole (grind (arith, nat_tests)) (grind (arith, nat_tests))
          (omega (arith, c.padded_len.ensures.is)) value;
    }

pub returns-clause-says : goal.returns-clause-says
returns-clause-says c = λ bytes s whole. c.options.invariant.gives bytes s whole ∙ at_end c.args.big bytes c.args.at c.options.place c.args.end c.options.found (grind (arith, nat_tests))
