use Rattle.std.proofs.Common.{◌≡◌, List, [], ◌∷◌, ◌++◌, length, ap, sym, ◌∙◌, arith}
use Rattle.std.proofs.lemmas.List.FromFn.{length-map-range_with_len, map-range_with_len_more}
use Rattle.worker_gate.specs.declared.crew.Place.{Place}
use Rattle.worker_gate.specs.WholeRounds.{place_in}
use Rattle.worker_gate.proofs.whole.list_places.Goals as goal

pub push_reserved-requires : goal.push_reserved-requires
push_reserved-requires c =
    let many : length c.places.places.items ≡ c.places.index =
    ap (λ (l : List Place). length l) c.places.invariant.listed ∙ length-map-range_with_len (place_in c.args.sheet) 0 c.places.index in
    omega (arith, many, c.places.places.ok, c.places.invariant.places, c.places-test.true)

pub places-preserved : goal.places-preserved
places-preserved c =
    record {
      listed =
          c.push_reserved.ensures.items ∙ ap (λ (l : List Place). l ++ place_in c.args.sheet c.places.index ∷ []) c.places.invariant.listed
          ∙ sym (map-range_with_len_more (place_in c.args.sheet) 0 c.places.index c.places.index (omega arith));
      places = omega (arith, c.push_reserved.ensures.capacity, c.places.invariant.places);
      room = omega (arith, c.push_reserved.ensures.capacity, c.places.invariant.room);
    }
