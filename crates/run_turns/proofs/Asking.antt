-- Each record of a round has a draw of its own, so as many draws as items ask the table, or more.
use Rattle.run_turns.proofs.Words.{◌≡◌, ◌≢◌, ℕ, zero, suc, ◌+◌, ◌-◌, ◌<◌, ◌≤◌, ◌==◌, Bool, true, false, List, [], ◌∷◌, length, take, get_or, Option, Some}
use Rattle.run_turns.proofs.Words.{◌⊎◌, inl, inr, refl, sym, ◌∙◌, ap, arith, cond, Contains, slice_get, sum_by, take-suc, eqb_tells, length-map, take_all}
use Rattle.run_turns.proofs.Words.{length-range_with_len, sum_by-append, sum_by-cons, sum_by-le-sum_by, slice_get-get_or, Item, View}
use Rattle.run_turns.proofs.Words.{all_asking, no_outcome, asking, asks, draw_of, AreOutcomes, HasJudgedWhole, Outcome, Tables, consecutive}
use Rattle.run_turns.proofs.Elements.{number_at}
use Rattle.ip_codec.specs.declared.items.Item.TheVariants as item

-- where one element has so much more, the sum has
gains : {A : Type 0} (f g : A → ℕ) (v : ℕ) (xs : List A) (k : ℕ) (x : A) → ((y : A) → f y ≤ g y) → f x + v ≤ g x → k < length xs → get_or xs k x ≡ x →
    sum_by f xs + v ≤ sum_by g xs
gains f g v [] k x each more inside is = absurd (omega (arith, inside))
gains {A} f g v (y ∷ ys) zero x each more inside is =
    let here : f y + v ≤ g y = rw is more in
    omega (arith, here, sum_by-cons f y ys, sum_by-cons g y ys, sum_by-le-sum_by f g ys each)
gains f g v (y ∷ ys) (suc k) x each more inside is =
    omega (arith, each y, sum_by-cons f y ys, sum_by-cons g y ys, gains f g v ys k x each more (omega (arith, inside)) is)

module _ (items : List Item) (start : ℕ) where
  abbrev worth : ℕ → ℕ
  worth k = cond (asks (slice_get items k)) 1 0

  -- what the draws of the first so many numbers are worth, by one draw
  abbrev part : ℕ → ℕ × ℕ → ℕ
  part zero d = 0
  part (suc n) d = part n d + cond (d.0 == start + n) (worth n) 0

  -- what the first so many numbers are worth
  abbrev firsts : ℕ → ℕ
  firsts zero = 0
  firsts (suc n) = firsts n + worth n

  abbrev Tells : ℕ → ℕ → Type 0
  Tells a b = ((a == b) ≡ true) × (a ≡ b) ⊎ (((a == b) ≡ false) × (a ≢ b))

  none_step : (n : ℕ) (d : ℕ × ℕ) → part n d ≡ 0 → start + suc n ≤ d.0 → Tells d.0 (start + n) → part n d + cond (d.0 == start + n) (worth n) 0 ≡ 0
  none_step n d before behind (inl same) = absurd (omega (arith, behind, same.1))
  none_step n d before behind (inr other) = omega (arith, before, ap (λ (b : Bool). let k : ℕ = cond b (worth n) 0 in k) other.0)

  none_yet : (n : ℕ) (d : ℕ × ℕ) → start + n ≤ d.0 → part n d ≡ 0
  none_yet zero d behind = refl
  none_yet (suc n) d behind = none_step n d (none_yet n d (omega (arith, behind))) behind (eqb_tells d.0 (start + n))

  part_step : (n : ℕ) (d : ℕ × ℕ) → part n d ≤ worth (d.0 - start) → Tells d.0 (start + n) →
      part n d + cond (d.0 == start + n) (worth n) 0 ≤ worth (d.0 - start)
  part_step n d before (inl same) =
      let none : part n d ≡ 0 = none_yet n d (omega (arith, same.1)) in
      let place : d.0 - start ≡ n = omega (arith, same.1) in
      omega (arith, none, ap worth place, ap (λ (b : Bool). let k : ℕ = cond b (worth n) 0 in k) same.0)
  part_step n d before (inr other) = omega (arith, before, ap (λ (b : Bool). let k : ℕ = cond b (worth n) 0 in k) other.0)

  part_of : (n : ℕ) (d : ℕ × ℕ) → part n d ≤ worth (d.0 - start)
  part_of zero d = omega arith
  part_of (suc n) d = part_step n d (part_of n d) (eqb_tells d.0 (start + n))

  gain_step : (n : ℕ) (d : ℕ × ℕ) → d.0 ≡ start + n → Tells d.0 (start + n) → part n d + worth n ≤ part n d + cond (d.0 == start + n) (worth n) 0
  gain_step n d same (inl is) = omega (arith, ap (λ (b : Bool). let k : ℕ = cond b (worth n) 0 in k) is.0)
  gain_step n d same (inr other) = absurd (other.1 same)

  one_gain : (n : ℕ) (d : ℕ × ℕ) → d.0 ≡ start + n → part n d + worth n ≤ part (suc n) d
  one_gain n d same = gain_step n d same (eqb_tells d.0 (start + n))

  -- each of these numbers is drawn
  abbrev pub AllDrawn : ℕ → List (ℕ × ℕ) → Type 0
  AllDrawn n news = (k : ℕ) → k < n → (d : ℕ × ℕ) × (d.0 ≡ start + k) × Contains news d

  firsts_drawn : (news : List (ℕ × ℕ)) (n : ℕ) → AllDrawn n news → firsts n ≤ sum_by (part n) news
  firsts_drawn news zero drawn = omega arith
  firsts_drawn news (suc n) drawn =
      let one = drawn n (omega arith) in
      let more = gains (part n) (part (suc n)) (worth n) news one.2.0 one.0 (λ d. omega arith) (one_gain n one.0 one.1) one.2.1 one.2.2 in
      omega (arith, more, firsts_drawn news n (λ k inside. drawn k (omega (arith, inside))))

  firsts_all : (n : ℕ) → n ≤ length items → firsts n ≡ all_asking (take n items)
  firsts_all zero few = refl
  firsts_all (suc n) few =
      let i : Item = get_or items n item.Held in
      let here : worth n ≡ cond (asks (Some (get_or items n item.Held))) 1 0 =
      ap (λ (o : Option Item). let k : ℕ = cond (asks o) 1 0 in k) (slice_get-get_or items n item.Held (omega (arith, few))) in
      let next = take-suc items n item.Held (omega (arith, few)) in
      omega (
        arith,
        firsts_all n (omega (arith, few)),
        here,
        ap (λ (l : List Item). all_asking l) next,
        sum_by-append (λ (j : Item). cond (asks (Some j)) 1 0) (take n items) (get_or items n item.Held ∷ []),
        sum_by-cons (λ (j : Item). cond (asks (Some j)) 1 0) (get_or items n item.Held) [],
      )

  pub asked_drawn : (news : List (ℕ × ℕ)) → AllDrawn (length items) news → all_asking items ≤ asking items start news
  asked_drawn news drawn =
      omega (
        arith,
        ap (λ (l : List Item). all_asking l) (take_all (length items) items (omega arith)),
        firsts_all (length items) (omega arith),
        firsts_drawn news (length items) drawn,
        sum_by-le-sum_by (part (length items)) (λ (d : ℕ × ℕ). worth (d.0 - start)) news (λ d. part_of (length items) d),
      )

-- a round whose records were drawn and judged whole asked for each of them
pub whole_asked : (p : Tables) (items : List Item) (start version : ℕ) (v w : View) (all : List Outcome) → HasJudgedWhole p items start version v w all →
    v.reads + all_asking items ≤ w.reads
whole_asked p items start version v w all whole =
    omega (arith, whole.reads, asked_drawn items start (consecutive start (length items) version) drawn) where
      are : AreOutcomes p items start (start + length items) (consecutive start (length items) version) all
      are = whole.outcomes

      long : length all ≡ length items
      long =
          omega (
            arith,
            sym (length-map all (λ (o : Outcome). o.number))
                ∙ (ap (λ (l : List ℕ). length l) are.numbers ∙ length-range_with_len start (start + length items - start)),
          )

      drawn : (k : ℕ) → k < length items → (d : ℕ × ℕ) × (d.0 ≡ start + k) × Contains (consecutive start (length items) version) d
      drawn k inside =
          let within : k < length all = omega (arith, inside, long) in (
            draw_of (get_or all k no_outcome),
            number_at (λ (x : Outcome). x.number) all start (start + length items - start) k (get_or all k no_outcome) are.numbers
                (slice_get-get_or all k no_outcome within),
            are.drawn k no_outcome within,
          )
