-- The owned ports of an identifier are the ports at the places of the list, and what follows for the list.
use Rattle.std.proofs.Common.{◌≡◌, ℕ, ◌+◌, ◌-◌, ◌*◌, ◌/◌, ◌%◌, ◌^◌, ◌<◌, ◌≤◌, min, Bool, true, false, eqb, ltb, ◌&&◌, ◌||◌, map, refl, ap, ap₂, sym, ◌∙◌, arith, add-mul, mul_assoc, suc-mul, inl, inr}
use Rattle.std.specs.List.{range_with_len}
use Rattle.std.proofs.Math.Nat.{mul-le-mul_right}
use Rattle.std.proofs.lemmas.Nat.{pow_pos, pow-add, div-mul-add, mod-mul-add, field_of, mod_low, shr_high}
use Rattle.std.proofs.lemmas.Bool.{cases_eq, or_left, or_right, or_from, eq-eqb, ne_eqb, lt-ltb, le-ltb}
use Rattle.port_set.specs.Shapes.{IsShape}
use Rattle.port_set.specs.PortSets.{in_set, port_count, owned_ports}
use Rattle.port_set.specs.Places.{owned_count, port_at, ports_between}
use Rattle.port_set.proofs.Blocks.{filter_is_places}

pub port_count_is : port_count ≡ 65536
unfolding port_count
port_count_is = refl

-- whether the owned ports of a block count
abbrev pub counts : ℕ → ℕ → Bool
counts a i = eqb a 0 || ltb 0 i

pub counts_not : (a i : ℕ) → i < min a 1 → counts a i ≡ false
counts_not a i below = or_from (eqb a 0) (ltb 0 i) (ne_eqb a 0 (λ e. omega arith)) (le-ltb 0 i (omega arith))

pub counts_from : (a i : ℕ) → min a 1 ≤ i → counts a i ≡ true
counts_from a i above =
    elim (cases_eq a 0) [
      | inl z ↦ or_left (eqb a 0) (ltb 0 i) (eq-eqb a 0 z)
      | inr n ↦ or_right (eqb a 0) (ltb 0 i) (lt-ltb 0 i (omega arith))
    ]

-- the bits after the offset are those of the identifier and those after it
pub tail_split : (a k : ℕ) → IsShape a k → 2 ^ (16 - a) ≡ 2 ^ k * 2 ^ (16 - a - k)
tail_split a k h =
    let e : 16 - a ≡ k + (16 - a - k) = omega (arith, h.sum_fits) in
    ap (λ (n : ℕ). 2 ^ n) e ∙ pow-add 2 k (16 - a - k)

pub all_split : (a : ℕ) → a ≤ 15 → 65536 ≡ 2 ^ a * 2 ^ (16 - a)
all_split a h =
    let e : 16 ≡ a + (16 - a) = omega arith in
    ap (λ (n : ℕ). 2 ^ n) e ∙ pow-add 2 a (16 - a)

-- the test of a number, by its block and its place in the block
pub in_set_at : (a k s : ℕ) → IsShape a k → (i r : ℕ) → r < 2 ^ (16 - a)
    → in_set a k s (i * 2 ^ (16 - a) + r) ≡ (eqb (r / 2 ^ (16 - a - k)) s && counts a i)
in_set_at a k s h i r l =
    let n : ℕ = i * 2 ^ (16 - a) + r in
    let e : k + (16 - a - k) ≡ 16 - a = omega (arith, h.sum_fits) in
    let identifier : n / 2 ^ (16 - a - k) % 2 ^ k ≡ r / 2 ^ (16 - a - k) =
    sym (field_of n k (16 - a - k))
    ∙ ap (λ (w : ℕ). n % 2 ^ w / 2 ^ (16 - a - k)) e
    ∙ ap (λ (v : ℕ). v / 2 ^ (16 - a - k)) (mod_low i (16 - a) r l) in
    let block : n / 2 ^ (16 - a) ≡ i = shr_high i (16 - a) r l in
    ap₂ (λ (u v : ℕ). eqb u s && counts a v) identifier block

-- the port at a place, by the block and the place in the row
pub port_at_row : (a k s : ℕ) → IsShape a k → (q r : ℕ) → r < 2 ^ (16 - a - k)
    → port_at a k s (q * 2 ^ (16 - a - k) + r) ≡ ((q + min a 1) * 2 ^ (16 - a) + s * 2 ^ (16 - a - k)) + r
port_at_row a k s h q r l =
    let M : ℕ = 2 ^ (16 - a - k) in
    let block : (q * M + r) / M ≡ q = div-mul-add q M r l in
    let rest : (q * M + r) % M ≡ r = mod-mul-add q M r l in
    ap₂ (λ (u v : ℕ). ((u + min a 1) * 2 ^ k + s) * M + v) block rest
    ∙ ap (λ (v : ℕ). v + r) (add-mul ((q + min a 1) * 2 ^ k) s M
    ∙ ap (λ (v : ℕ). v + s * M) (mul_assoc (q + min a 1) (2 ^ k) M ∙ ap (λ (v : ℕ). (q + min a 1) * v) (sym (tail_split a k h))))

whole : (n : ℕ) → n ≡ n - 0
whole n = omega arith

pub owned_ports_are : (a k s : ℕ) → IsShape a k → s < 2 ^ k
    → owned_ports a k s ≡ ports_between a k s 0 (owned_count a k)
unfolding owned_ports
owned_ports_are a k s h l =
    let M : ℕ = 2 ^ (16 - a - k) in
    let B : ℕ = 2 ^ (16 - a) in
    let row : 0 < M = pow_pos (16 - a - k) in
    let fits : s * M + M ≤ B =
    rw (tail_split a k h, ← suc-mul s M) (mul-le-mul_right M l) in
    let ends : port_count ≡ min a 1 * B + (2 ^ a - min a 1) * B =
    port_count_is ∙ all_split a h.offset_fits
    ∙ ap (λ (n : ℕ). n * B) (omega (arith, pow_pos a))
    ∙ add-mul (min a 1) (2 ^ a - min a 1) B in
    filter_is_places (in_set a k s) (counts a) B M s row fits (in_set_at a k s h)
    (port_at a k s) (min a 1) (2 ^ a - min a 1) port_count
    (counts_not a) (counts_from a) (port_at_row a k s h) ends
    ∙ ap (λ (n : ℕ). map (port_at a k s) (range_with_len 0 n)) (whole (owned_count a k))
