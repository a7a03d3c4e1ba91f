use Rattle.std.proofs.Common.{refl, sym, ap, subst, ◌∙◌}
use Rattle.reassembly_lane.specs.Lanes.{part_of}
use Rattle.reassembly_lane.specs.Sound.{IsSound}
use Rattle.reassembly_lane.proofs.Steps.{ends_so, stays_so}
use Rattle.reassembly_lane.proofs.context.Context.take_new.Goals as goal

pub returns-in-Some-clause-turn : goal.returns-in-Some-clause-turn
returns-in-Some-clause-turn c = ends_so c.args.self.now (part_of c.args.fragment) c.place_of-place.result c.as_slice-parts.result.now c.in-Some.end c.in_ok-whole.field-0 (record {
  read = c.as_slice-parts.ensures.value ∙ ap (λ p. p.parts) c.self.view_is;
  not_refused = c.requires.not_refused;
  new = c.if-has_repeat.ensures;
  apart = c.if-has_clash.ensures;
  room = c.if-parts-ge-MOST_PARTS.false;
  sound = subst IsSound (sym c.as_slice-parts.ensures.value) c.self.invariant.0;
  place_is = c.place_of-place.ensures;
}) c.in-Some.ensures c.in_ok-whole.ensures

pub returns-clause-turn : goal.returns-clause-turn
returns-clause-turn c = stays_so c.args.self.now c.args.self.now c.keep.new.self (part_of c.args.fragment) c.place_of-place.result c.as_slice-parts.result.now c.keep.result (record {
  read = c.as_slice-parts.ensures.value ∙ ap (λ p. p.parts) c.self.view_is;
  not_refused = c.requires.not_refused;
  new = c.if-has_repeat.ensures;
  apart = c.if-has_clash.ensures;
  room = c.if-parts-ge-MOST_PARTS.false;
  sound = subst IsSound (sym c.as_slice-parts.ensures.value) c.self.invariant.0;
  place_is = c.place_of-place.ensures;
}) c.in_default.ensures refl c.keep.ensures.turn
