-- The owned ports between two places, one step nearer from the front or from the back.
use Rattle.std.proofs.Common.{◌≡◌, ℕ, suc, ◌+◌, ◌-◌, ◌<◌, [], ◌∷◌, ◌++◌, length, map, ap, ◌∙◌, arith}
use Rattle.std.specs.List.{range_with_len}
use Rattle.std.proofs.lemmas.List.FromFn.{length-map-range_with_len, map-range_with_len_more}
use Rattle.port_set.specs.Places.{port_at, ports_between}

pub length-ports_between : (a k s from to : ℕ) → length (ports_between a k s from to) ≡ to - from
length-ports_between a k s from to = length-map-range_with_len (port_at a k s) from (to - from)

pub ports_between_none : (a k s from to : ℕ) → from ≡ to → ports_between a k s from to ≡ []
ports_between_none a k s from to e =
    let gone : to - from ≡ 0 = omega arith in
    ap (λ (n : ℕ). map (port_at a k s) (range_with_len from n)) gone

pub ports_between_first : (a k s from to : ℕ) → from < to
    → ports_between a k s from to ≡ port_at a k s from ∷ ports_between a k s (from + 1) to
ports_between_first a k s from to l =
    let e : to - from ≡ suc (to - (from + 1)) = omega arith in
    ap (λ (n : ℕ). map (port_at a k s) (range_with_len from n)) e

pub ports_between_last : (a k s from to : ℕ) → from < to
    → ports_between a k s from to ≡ ports_between a k s from (to - 1) ++ port_at a k s (to - 1) ∷ []
ports_between_last a k s from to l =
    let e : to - from ≡ (to - 1 - from) + 1 = omega arith in
    ap (λ (n : ℕ). map (port_at a k s) (range_with_len from n)) e
    ∙ map-range_with_len_more (port_at a k s) from (to - 1 - from) (to - 1) (omega arith)
