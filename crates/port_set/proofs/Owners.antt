-- The owner of a port that is not low.
use Rattle.std.proofs.Common.{◌≡◌, ℕ, ◌-◌, ◌/◌, ◌^◌, ◌<◌, ◌⊎◌, refl, sym, arith}
use Rattle.std.specs.Int.Bits.{bit_and}
use Rattle.std.proofs.lemmas.Nat.{pow_pos, mod_below, and_mask}
use Rattle.port_set.specs.PortSets.{IsOwner}

pub above_low : (a p : ℕ) → (p / 2 ^ (16 - a) ≡ 0 → ⊥) → 0 < p / 2 ^ (16 - a)
above_low a p h = omega arith

pub masked_is_owner : (a k p : ℕ) → p < 65536 → (a ≡ 0) ⊎ (0 < p / 2 ^ (16 - a))
    → IsOwner a k (bit_and (p / 2 ^ (16 - a - k)) (2 ^ k - 1)) p
masked_is_owner a k p l not_low =
    rw (and_mask (p / 2 ^ (16 - a - k)) k) (record {
      fits = mod_below (p / 2 ^ (16 - a - k)) (2 ^ k) (pow_pos k);
      owns = record { is_port = l; identifier = refl; not_low = not_low };
      alone = λ t o. sym o.identifier;
    })
