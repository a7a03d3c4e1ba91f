-- The owner among entries whose address has one shape.
use Rattle.std.proofs.Common.{◌≡◌, ◌≢◌, ℕ, ◌+◌, ◌-◌, ◌/◌, ◌<◌, ◌≤◌, List, Some, None, sym, ap, ◌∙◌, inl, inr, arith}
use Rattle.std.proofs.lemmas.Bool.{cases_lt}
use Rattle.binding_rules.specs.declared.binding.Want.{Want}
use Rattle.table_words.specs.Spans.{first_at, IsEntryRange, IsHere, HasNoSpot, IsReach, IsKey, AreAlike, HasNoOwner}
use Rattle.table_words.proofs.Ends.{rises_by, not_key, same_like}

-- how far two entries are apart
rises_between : (words : List ℕ) (from to d e : ℕ) → IsEntryRange words from to → d ≤ e → e < to → first_at words d + (e - d) ≤ first_at words e
rises_between words from to d e s l m =
    let rest : IsEntryRange words d to = record { ordered = omega (arith, l, m); few = s.few; within = s.within; ascending = s.ascending; rising = s.rising; shapes = s.shapes } in
    let place : d + (e - d) ≡ e = omega (arith, l) in
    let up : first_at words d + (e - d) ≤ first_at words (d + (e - d)) = rises_by words d to (e - d) rest (omega (arith, place, m)) in
    let moved : first_at words (d + (e - d)) ≡ first_at words e = ap (first_at words) place in
    omega (arith, up, moved)

pub span_part : (words : List ℕ) (from to low high : ℕ) → IsEntryRange words from to → low ≤ high → high ≤ to → IsEntryRange words low high
span_part words from to low high s l m = record {
  ordered = l;
  few = omega (arith, s.few, m);
  within = omega (arith, s.within, m);
  ascending = λ d e h k. s.ascending d e h (omega (arith, k, m));
  rising = λ d e h k. s.rising d e h (omega (arith, k, m));
  shapes = λ e h. s.shapes e (omega (arith, h, m));
}

module _ (words : List ℕ) (low high at first : ℕ) (w : Want) (span : IsEntryRange words low high) (here : IsHere words low high at first)
    (alike : AreAlike words low high (first / 4294967296)) where
  -- an entry of the address has the shape that was found
  alike_first : (e : ℕ) → low ≤ e → e < high → first_at words e / 4294967296 ≡ first / 4294967296 → first_at words e / 65536 ≡ first / 65536
  alike_first e l m same =
      alike e at l m here.from_on here.up_to same (ap (λ (n : ℕ). n / 4294967296) (sym here.word)) ∙ ap (λ (n : ℕ). n / 65536) (sym here.word)

  pub no_owner_by_shape : IsKey first w None → HasNoOwner words low high (first / 4294967296) w
  no_owner_by_shape k e x l m f same = k x (same_like (first_at words e) first x f.like (alike_first e l m (sym f.like.v4 ∙ same)))

  module _ (key reach_low reach_high guess : ℕ) (k : IsKey first w (Some key)) (reach : IsReach low high at first key reach_low reach_high guess) where
    not_the_key : HasNoSpot words reach_low reach_high key key → (e : ℕ) → low ≤ e → e < high → first_at words e ≢ key
    not_the_key none e l m same = elim (cases_lt e reach_low) [
      | inl early ↦
          (let b = reach.before e l early in
          let up : first_at words e + (at - e) ≤ first_at words at = rises_between words low high e at span (omega (arith, b.0)) here.up_to in
          omega (arith, b.0, b.1, up, here.word, same))
      | inr later ↦ elim (cases_lt e reach_high) [
        | inl inside ↦ (let more : key < first_at words e = none e later inside (omega (arith, same)) in omega (arith, more, same))
        | inr late ↦
            (let b = reach.behind e late m in
            let up : first_at words at + (e - at) ≤ first_at words e = rises_between words low high at e span b.0 m in
            omega (arith, b.1, up, here.word, same))
      ]
    ]

    pub no_owner_by_key : HasNoSpot words reach_low reach_high key key → HasNoOwner words low high (first / 4294967296) w
    no_owner_by_key none e x l m f same =
        not_key first key w k (first_at words e) x (alike_first e l m (sym f.like.v4 ∙ same)) f (not_the_key none e l m)
