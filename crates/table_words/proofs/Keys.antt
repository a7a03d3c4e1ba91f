-- The first word of the owner.
use Rattle.std.proofs.Common.{◌≡◌, ℕ, ◌-◌, ◌/◌, ◌%◌, ◌^◌, ◌<◌, Some, true, eqb, ◌&&◌, sym, ap, ◌∙◌, arith}
use Rattle.std.proofs.lemmas.Bool.{and_from, eq-eqb}
use Rattle.binding_rules.specs.declared.binding.Want.TheVariants as want
use Rattle.table_words.specs.Spans.{IsKey}

no_psid : (k p : ℕ) → k ≡ 0 → p < 2 ^ k → p ≡ 0
no_psid k p e l = let f : 2 ^ k ≡ 2 ^ 0 = ap (λ (n : ℕ). 2 ^ n) e in omega (arith, f, l)

pub whole_key : (first : ℕ) → first / 16777216 % 128 ≡ 0 → first / 65536 % 256 ≡ 0 → IsKey first want.Whole (Some (first - first % 65536))
whole_key first o l = (
  omega arith,
  λ x h.
      let whole : (eqb x.offset 0 && eqb x.length 0) ≡ true = and_from _ _ (eq-eqb _ _ (h.offset ∙ o)) (eq-eqb _ _ (h.length ∙ l)) in
      let psid : x.psid ≡ 0 = no_psid x.length x.psid (h.length ∙ l) h.psid_fits in
      let none : (first - first % 65536) % 65536 ≡ 0 = omega arith in
      (λ _. psid ∙ sym none, λ _. whole),
)
