-- What was kept, and what is still to be kept.
use Rattle.std.proofs.Common.{◌≡◌, ◌+◌, ◌-◌, ◌≤◌, length, take, drop, sym, ◌∙◌, ap, arith}
use Rattle.std.proofs.lemmas.List.{take_rest, length-drop, length-take-le}
use Rattle.fragmenter.specs.Kept.{ends, option_len}
use Rattle.fragmenter.proofs.KeptLemmas.{kept-on, kept-no-more}
use Rattle.fragmenter.proofs.options.copied.Goals as goal

pub options-preserved : goal.options-preserved
options-preserved c =
    let options = c.args.options.now in
    let at = c.options.at in
    let len = c.in-Some.len in
    let left = drop at options in
    let list = c.options.list in
    let now = c.push_if_copied.new.list in
    let option = take (at + len - at) left in
    let rest : take (length options - at) left ≡ left = take_rest options at in
    let within : len ≤ length left = omega (arith, c.in-Some.ensures.3, ap length rest) in
    let option_is : option ≡ take len left = ap (λ n. take n left) (omega arith) in
    record {
      kept = kept-on list now option options at len c.options.invariant.kept (ap ends (sym rest) ∙ c.in-Some.ensures.0)
          (c.in-Some.ensures.1 ∙ ap option_len rest) option_is c.push_if_copied.ensures;
      inside = omega (arith, within, length-drop at options, c.options.invariant.inside);
      no_more = kept-no-more list now option at len c.options.invariant.no_more (ap length option_is ∙ length-take-le len left within)
          c.push_if_copied.ensures;
    }
