-- The greatest port of an identifier has each bit that some port of it has. So the bits that two greatest ports have make
-- a port of both, if there is one.
use Rattle.std.proofs.Common.{◌≡◌, ℕ, ◌+◌, ◌-◌, ◌*◌, ◌/◌, ◌%◌, ◌^◌, ◌<◌, ◌≤◌, inl, inr, true, ap, ap₂, sym, ◌∙◌, arith, add-mul, mod-eq_of_lt}
use Rattle.std.specs.Int.Bits.{bit_and, and_self}
use Rattle.std.proofs.Math.Nat.{mul-le-mul_right, div-mul-le_self, pow-le-pow_right}
use Rattle.std.proofs.lemmas.Nat.{pow_pos, and_mask, and_block, and_shr, and_mod, and_le_l, and_le_r, and_assoc, and_comm, one_shl, mod_below, div-mul-add, mod-mul-add, div-add-mod', shl_below, shr_below, le-div}
use Rattle.port_set.specs.Shapes.{IsShape}
use Rattle.port_set.specs.PortSets.{InSet, in_set}
use Rattle.port_set.proofs.Laws.{all_bits, in_set_true, in_set_from}
use Rattle.binding_rules.specs.declared.binding.Binding.{Binding}
use Rattle.binding_rules.specs.Conflicts.{HaveCommonPort}
use Rattle.binding_rules.specs.Scans.{IsWell, greatest_port}

parts_of : (A K M s r : ℕ) → 0 < A → 0 < M → K ≡ s + 1 + r → A * K * M ≡ 65536 → 65535 - r * M ≡ ((A - 1) * K + s) * M + (M - 1)
parts_of A K M s r some_a some_m e all =
    let g : A ≡ (A - 1) + 1 = omega arith in
    let h : A * K ≡ (A - 1) * K + K = ap (λ (n : ℕ). n * K) g ∙ add-mul (A - 1) 1 K ∙ omega arith in
    let i : A * K * M ≡ (A - 1) * K * M + K * M = ap (λ (n : ℕ). n * M) h ∙ add-mul ((A - 1) * K) K M in
    let j : K * M ≡ (s + 1) * M + r * M = ap (λ (n : ℕ). n * M) e ∙ add-mul (s + 1) r M in
    let l : (s + 1) * M ≡ s * M + M = add-mul s 1 M ∙ omega arith in
    let m : ((A - 1) * K + s) * M ≡ (A - 1) * K * M + s * M = add-mul ((A - 1) * K) s M in
    omega (arith, i, j, l, m)

pub greatest_parts : (a k s : ℕ) → IsShape a k → s < 2 ^ k
    → greatest_port a k s ≡ ((2 ^ a - 1) * 2 ^ k + s) * 2 ^ (16 - a - k) + (2 ^ (16 - a - k) - 1)
greatest_parts a k s shape psid =
    parts_of (2 ^ a) (2 ^ k) (2 ^ (16 - a - k)) s (2 ^ k - 1 - s) (pow_pos a) (pow_pos (16 - a - k)) (omega arith) (all_bits a k shape)

pub absent_fits : (a k s : ℕ) → IsShape a k → s < 2 ^ k → (2 ^ k - 1 - s) * 2 ^ (16 - a - k) < 65536
absent_fits a k s shape psid =
    let less : (2 ^ k - 1 - s) * 2 ^ (16 - a - k) < 2 ^ (k + (16 - a - k)) = shl_below (2 ^ k - 1 - s) k (16 - a - k) (omega arith) in
    let most : 2 ^ (k + (16 - a - k)) ≤ 2 ^ 16 = pow-le-pow_right {n = 2} (omega arith) {i = k + (16 - a - k)} {j = 16} (omega (arith, shape.sum_fits)) in
    omega (arith, less, most)

greatest_psid : (a k s : ℕ) → IsShape a k → s < 2 ^ k → greatest_port a k s / 2 ^ (16 - a - k) % 2 ^ k ≡ s
greatest_psid a k s shape psid =
    let last : 2 ^ (16 - a - k) - 1 < 2 ^ (16 - a - k) = omega (arith, pow_pos (16 - a - k)) in
    ap (λ (n : ℕ). n / 2 ^ (16 - a - k) % 2 ^ k) (greatest_parts a k s shape psid)
    ∙ ap (λ (n : ℕ). n % 2 ^ k) (div-mul-add ((2 ^ a - 1) * 2 ^ k + s) (2 ^ (16 - a - k)) (2 ^ (16 - a - k) - 1) last)
    ∙ mod-mul-add (2 ^ a - 1) (2 ^ k) s psid

-- a port in its three parts
port_parts : (a k s p : ℕ) → InSet a k s p → p ≡ (p / 2 ^ (16 - a - k) / 2 ^ k * 2 ^ k + s) * 2 ^ (16 - a - k) + p % 2 ^ (16 - a - k)
port_parts a k s p h =
    sym (div-add-mod' p (2 ^ (16 - a - k)))
    ∙ ap (λ (n : ℕ). n * 2 ^ (16 - a - k) + p % 2 ^ (16 - a - k))
    (sym (div-add-mod' (p / 2 ^ (16 - a - k)) (2 ^ k)) ∙ ap (λ (n : ℕ). p / 2 ^ (16 - a - k) / 2 ^ k * 2 ^ k + n) h.identifier)

offset_below : (a k p : ℕ) → IsShape a k → p < 65536 → p / 2 ^ (16 - a - k) / 2 ^ k < 2 ^ a
offset_below a k p shape small =
    let e : (a + k) + (16 - a - k) ≡ 16 = omega (arith, shape.sum_fits) in
    let all : p < 2 ^ ((a + k) + (16 - a - k)) = rw e small in
    shr_below (p / 2 ^ (16 - a - k)) a k (shr_below p (a + k) (16 - a - k) all)

pub covers : (a k s p : ℕ) → IsShape a k → s < 2 ^ k → InSet a k s p → bit_and p (greatest_port a k s) ≡ p
covers a k s p shape psid h =
    let K : ℕ = 2 ^ k in
    let M : ℕ = 2 ^ (16 - a - k) in
    let high : ℕ = p / M / K in
    let low : ℕ = p % M in
    let parts : p ≡ (high * K + s) * M + low = port_parts a k s p h in
    let last : M - 1 < M = omega (arith, pow_pos (16 - a - k)) in
    let below : low < M = mod_below p M (pow_pos (16 - a - k)) in
    let offset : bit_and high (2 ^ a - 1) ≡ high = and_mask high a ∙ mod-eq_of_lt (offset_below a k p shape h.is_port) in
    let rest : bit_and low (M - 1) ≡ low = and_mask low (16 - a - k) ∙ mod-eq_of_lt below in
    let upper : bit_and (high * K + s) ((2 ^ a - 1) * K + s) ≡ high * K + s =
    and_block k high (2 ^ a - 1) s s psid psid ∙ ap₂ (λ (u v : ℕ). u * K + v) offset (and_self s) in
    ap₂ bit_and parts (greatest_parts a k s shape psid)
    ∙ and_block (16 - a - k) (high * K + s) ((2 ^ a - 1) * K + s) low (M - 1) below last
    ∙ ap₂ (λ (u v : ℕ). u * M + v) upper rest
    ∙ sym parts

still_above : (n p w : ℕ) → 0 < n → p ≤ w → 0 < p / n → 0 < w / n
still_above n p w some more above =
    let one : 1 * n ≤ p / n * n = mul-le-mul_right n above in
    le-div 1 w n some (omega (arith, one, div-mul-le_self p n))

-- where both greatest ports have all bits of a port of the identifier, so have they what is common to both
pub meets : (a k s g p : ℕ) → IsShape a k → s < 2 ^ k → InSet a k s p → bit_and p g ≡ p → InSet a k s (bit_and (greatest_port a k s) g)
meets a k s g p shape psid h other =
    let G : ℕ = greatest_port a k s in
    let K : ℕ = 2 ^ k in
    let M : ℕ = 2 ^ (16 - a - k) in
    let own : bit_and s (g / M % K) ≡ s =
    ap (λ (n : ℕ). bit_and n (g / M % K)) (sym h.identifier)
    ∙ sym (and_mod (p / M) (g / M) k)
    ∙ ap (λ (n : ℕ). n % K) (sym (and_shr p g (16 - a - k)) ∙ ap (λ (n : ℕ). n / M) other)
    ∙ h.identifier in
    let all : bit_and p (bit_and G g) ≡ p = sym (and_assoc g p G) ∙ ap (λ (n : ℕ). bit_and n g) (covers a k s p shape psid h) ∙ other in
    let more : p ≤ bit_and G g = omega (arith, all, and_le_r p (bit_and G g)) in
    record {
      is_port = omega (arith, and_le_l G g);
      identifier = ap (λ (n : ℕ). n % K) (and_shr G g (16 - a - k)) ∙ and_mod (G / M) (g / M) k
          ∙ ap (λ (n : ℕ). bit_and n (g / M % K)) (greatest_psid a k s shape psid) ∙ own;
      not_low = elim h.not_low [ inl z ↦ inl z | inr n ↦ inr (still_above (2 ^ (16 - a)) p (bit_and G g) (pow_pos (16 - a)) more n) ];
    }

-- as the code computes it
pub absent_exact : (a k s : ℕ) → IsShape a k → s < 2 ^ k
    → ((1 * 2 ^ k) % 4294967296 - 1 - s) * 2 ^ (16 - a - k) % 4294967296 ≡ (2 ^ k - 1 - s) * 2 ^ (16 - a - k)
absent_exact a k s shape psid =
    let one : (1 * 2 ^ k) % 2 ^ 32 ≡ 2 ^ k = one_shl k 32 (omega (arith, shape.sum_fits)) in
    ap (λ (n : ℕ). (n - 1 - s) * 2 ^ (16 - a - k) % 4294967296) one ∙ mod-eq_of_lt (omega (arith, absent_fits a k s shape psid))

-- the port that two greatest ports have in common
abbrev pub tried : Binding → Binding → ℕ
tried x y = bit_and (greatest_port x.offset x.length x.psid) (greatest_port y.offset y.length y.psid)

pub tried_first : (x y : Binding) → IsWell x → IsWell y → HaveCommonPort x y → in_set x.offset x.length x.psid (tried x y) ≡ true
tried_first x y first second common =
    in_set_true _ _ _ _ (meets x.offset x.length x.psid (greatest_port y.offset y.length y.psid) common.0 first.shape first.psid common.1
    (covers y.offset y.length y.psid common.0 second.shape second.psid common.2))

pub tried_second : (x y : Binding) → IsWell x → IsWell y → HaveCommonPort x y → in_set y.offset y.length y.psid (tried x y) ≡ true
tried_second x y first second common =
    ap (in_set y.offset y.length y.psid) (and_comm (greatest_port x.offset x.length x.psid) (greatest_port y.offset y.length y.psid))
    ∙ tried_first y x second first (common.0, common.2, common.1)

pub tried_is_common : (x y : Binding) → in_set x.offset x.length x.psid (tried x y) ≡ true → in_set y.offset y.length y.psid (tried x y) ≡ true
    → HaveCommonPort x y
tried_is_common x y first second =
    let small : tried x y < 65536 = omega (arith, and_le_l (greatest_port x.offset x.length x.psid) (greatest_port y.offset y.length y.psid)) in
    (tried x y, in_set_from _ _ _ _ small first, in_set_from _ _ _ _ small second)
