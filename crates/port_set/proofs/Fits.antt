-- The steps by which a port is made of its place stay within 32 bits, and the port within 16.
use Rattle.std.proofs.Common.{◌≡◌, ℕ, ◌+◌, ◌-◌, ◌*◌, ◌/◌, ◌%◌, ◌^◌, ◌<◌, ◌≤◌, min, ap, ap₂, sym, ◌∙◌, arith, mod-eq_of_lt, mul_comm}
use Rattle.std.specs.Int.Bits.{bit_and}
use Rattle.std.proofs.Math.Nat.{le-mul_of_pos_right}
use Rattle.std.proofs.lemmas.Nat.{pow_pos, pow-add, div_below, mod_below, mul-add-lt, and_mask}
use Rattle.port_set.specs.Shapes.{IsShape}
use Rattle.port_set.specs.Places.{owned_count, port_at}

-- the three numbers of possible values of the bits of the offset, of the identifier and behind it
pub all_bits : (a k : ℕ) → IsShape a k → 2 ^ a * 2 ^ k * 2 ^ (16 - a - k) ≡ 65536
all_bits a k shape =
    let e : (a + k) + (16 - a - k) ≡ 16 = omega (arith, shape.sum_fits) in
    ap (λ (n : ℕ). n * 2 ^ (16 - a - k)) (sym (pow-add 2 a k)) ∙ sym (pow-add 2 (a + k) (16 - a - k)) ∙ ap (λ (n : ℕ). 2 ^ n) e

module _ (a k s j : ℕ) (shape : IsShape a k) (psid : s < 2 ^ k) (owned : j < owned_count a k) where
  block_below : j / 2 ^ (16 - a - k) + min a 1 < 2 ^ a
  block_below =
      let q : j / 2 ^ (16 - a - k) < 2 ^ a - min a 1 =
      div_below j (2 ^ (16 - a - k)) (2 ^ a - min a 1) (pow_pos (16 - a - k)) owned in
      omega arith

  high_below : (j / 2 ^ (16 - a - k) + min a 1) * 2 ^ k + s < 2 ^ k * 2 ^ a
  high_below = mul-add-lt (j / 2 ^ (16 - a - k) + min a 1) (2 ^ k) s (2 ^ a) block_below psid

  all_places : 2 ^ (16 - a - k) * (2 ^ k * 2 ^ a) ≡ 65536
  all_places =
      ap (λ (v : ℕ). 2 ^ (16 - a - k) * v) (mul_comm (2 ^ k) (2 ^ a)) ∙ mul_comm (2 ^ (16 - a - k)) (2 ^ a * 2 ^ k) ∙ all_bits a k shape

  high_small : (j / 2 ^ (16 - a - k) + min a 1) * 2 ^ k + s < 65536
  high_small =
      let more : 2 ^ k * 2 ^ a ≤ 2 ^ k * 2 ^ a * 2 ^ (16 - a - k) =
      le-mul_of_pos_right (2 ^ k * 2 ^ a) (pow_pos (16 - a - k)) in
      omega (arith, more, high_below, all_places, mul_comm (2 ^ k * 2 ^ a) (2 ^ (16 - a - k)))

  port_below : port_at a k s j < 65536
  port_below =
      let all : port_at a k s j < 2 ^ (16 - a - k) * (2 ^ k * 2 ^ a) =
      mul-add-lt ((j / 2 ^ (16 - a - k) + min a 1) * 2 ^ k + s) (2 ^ (16 - a - k)) (j % 2 ^ (16 - a - k)) (2 ^ k * 2 ^ a)
      high_below (mod_below j (2 ^ (16 - a - k)) (pow_pos (16 - a - k))) in
      omega (arith, all, all_places)

  block_exact : ((j / 2 ^ (16 - a - k) + min a 1) * 2 ^ k) % 4294967296 ≡ (j / 2 ^ (16 - a - k) + min a 1) * 2 ^ k
  block_exact = mod-eq_of_lt (omega (arith, high_small))

  pub high_fits : ((j / 2 ^ (16 - a - k) + min a 1) * 2 ^ k) % 4294967296 + s < 65536
  high_fits = rw block_exact high_small

  pub port_exact : ((((j / 2 ^ (16 - a - k) + min a 1) * 2 ^ k) % 4294967296 + s) * 2 ^ (16 - a - k)) % 4294967296
      + bit_and j (2 ^ (16 - a - k) - 1) ≡ port_at a k s j
  port_exact =
      let small : ((j / 2 ^ (16 - a - k) + min a 1) * 2 ^ k + s) * 2 ^ (16 - a - k) < 4294967296 = omega (arith, port_below) in
      ap₂ (λ (u v : ℕ). ((u + s) * 2 ^ (16 - a - k)) % 4294967296 + v) block_exact (and_mask j (16 - a - k))
      ∙ ap (λ (u : ℕ). u + j % 2 ^ (16 - a - k)) (mod-eq_of_lt small)

  pub port_fits : ((((j / 2 ^ (16 - a - k) + min a 1) * 2 ^ k) % 4294967296 + s) * 2 ^ (16 - a - k)) % 4294967296
      + bit_and j (2 ^ (16 - a - k) - 1) < 65536
  port_fits = rw port_exact port_below
