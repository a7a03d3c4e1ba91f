-- The shapes of an address, tried one after the other, and what the answers of a lookup rest on.
use Rattle.std.proofs.Common.{◌≡◌, ◌≢◌, ℕ, zero, suc, ◌+◌, ◌-◌, ◌*◌, ◌/◌, ◌%◌, ◌^◌, ◌<◌, ◌≤◌, true, false, eqb, ◌&&◌, List, Some, None, Contains, refl, sym, ap, ◌∙◌, inl, inr, arith}
use Rattle.std.specs.Prelude.{Option, IfSome, IfNone}
use Rattle.std.proofs.Math.Nat.{mul-le-mul_right}
use Rattle.std.proofs.lemmas.Bool.{cases_lt, cases_eq, eq-eqb, ne_eqb, and_from, and_left, and_right}
use Rattle.aftr_base.specs.declared.numbers.V4.{V4}
use Rattle.aftr_base.specs.declared.numbers.V6.{V6}
use Rattle.binding_rules.specs.Bindings.{owns, is_bound, bound}
use Rattle.binding_rules.specs.Tables.{BindingTable, IsLawful}
use Rattle.binding_rules.specs.declared.binding.Binding.{Binding}
use Rattle.binding_rules.specs.declared.binding.Want.{Want}
use Rattle.table_words.specs.Answers.{first_b4, has_v4}
use Rattle.table_words.specs.Bounds.{count_below, has_shape, shape_end, shape_count, group_digits, most_shapes, greatest, look_bound, found_bound}
use Rattle.table_words.specs.Spans.{first_at, mark_of, AreEntriesOf, AreMarked, IsEntryRange, IsBoundary, IsEntry, IsIndexGroup, IsNotFound, IsTunnelOfOwner, HasNoOwner}
use Rattle.table_words.specs.Tried.{tried_shapes, AreTried, IsNarrowed, IsTryingBounded}
use Rattle.table_words.proofs.Counts.{le_greatest}
use Rattle.table_words.proofs.Digits.{count_below_mono, count_below_more, few_halvings}
use Rattle.table_words.proofs.Ends.{same_like}
use Rattle.table_words.proofs.Filters.{any_passes, any_fails, filter_fails, filter_contains, only_one}

pub shape_end_is : shape_end ≡ 65536
unfolding shape_end
shape_end_is = refl

-- no binding of the address owns it
nobody : (t : BindingTable) (v4 : V4) (w : Want) → ((x : Binding) → Contains t.bindings x → x.v4.0 ≡ v4.0 → owns w x ≡ false)
    → first_b4 (bound t.bindings v4 w) ≡ None
nobody t v4 w h = ap first_b4 (filter_fails (is_bound v4 w) t.bindings (λ x m.
    elim (cases_eq x.v4.0 v4.0) [
      | inl same ↦ and_right (eqb x.v4.0 v4.0) (owns w x) (h x m same)
      | inr other ↦ and_left (eqb x.v4.0 v4.0) (owns w x) (ne_eqb x.v4.0 v4.0 other)
    ]))

-- a binding of the address owns it
somebody : (t : BindingTable) → IsLawful t → (v4 : V4) (w : Want) (x : Binding) → Contains t.bindings x → x.v4.0 ≡ v4.0
    → owns w x ≡ true → first_b4 (bound t.bindings v4 w) ≡ Some x.b4
somebody t h v4 w x m same o =
    let passes : is_bound v4 w x ≡ true = and_from (eqb x.v4.0 v4.0) (owns w x) (eq-eqb x.v4.0 v4.0 same) o in
    let there : Contains (bound t.bindings v4 w) x = filter_contains (is_bound v4 w) t.bindings x m passes in
    ap first_b4 (only_one (bound t.bindings v4 w) x there (h.at_most_one v4 w))

same_end : (x y : V6) → x.0 ≡ y.0 → x ≡ y
same_end x y e = λ i. record { 0 = e i }

-- what a lookup among the entries of a group answers
pub owner_is : (t : BindingTable) (words : List ℕ) → IsLawful t → (v4 : V4) (w : Want) (from to : ℕ) → IsIndexGroup t words v4.0 from to
    → (o : Option V6) → IfSome o (λ b4. IsTunnelOfOwner words from to v4.0 w b4.0) → IfNone o (HasNoOwner words from to v4.0 w)
    → o ≡ first_b4 (bound t.bindings v4 w)
owner_is t words h v4 w from to group (Some b4) owner none =
    let found = owner.found in
    let b = group.entries found.at found.from_on found.up_to in
    let x : Binding = b.0 in
    let like = same_like (first_at words found.at) owner.first x b.2.first.like found.alike in
    let owned : owns w x ≡ true = found.owned x like b.2.first.psid in
    let end_is : b4.0 ≡ x.b4.0 = found.b4_is ∙ b.2.b4 in
    ap Some (same_end b4 x.b4 end_is) ∙ sym (somebody t h v4 w x b.1 (like.v4 ∙ owner.address) owned)
owner_is t words h v4 w from to group None owner none = sym (nobody t v4 w (λ x m same.
    let c = group.members x m same in
    none c.0 x c.1 c.2 c.3.first same))

-- what is so among the entries that a search had not ruled out is so among all
module _ (words : List ℕ) (from to low high a : ℕ) (w : Want) (from_on : from ≤ low) (up_to : high ≤ to) where
  pub owner_wider : (o : Option V6) → IfSome o (λ b4. IsTunnelOfOwner words low high a w b4.0) → IfSome o (λ b4. IsTunnelOfOwner words from to a w b4.0)
  owner_wider None owner = tt
  owner_wider (Some b4) owner =
      let f = owner.found in
      record {
        first = owner.first;
        address = owner.address;
        found = record {
          at = f.at;
          from_on = omega (arith, from_on, f.from_on);
          up_to = omega (arith, up_to, f.up_to);
          b4_is = f.b4_is;
          alike = f.alike;
          owned = f.owned;
        };
      }

  pub none_wider : ((e : ℕ) → from ≤ e → e < low → first_at words e < a * 4294967296) →
      ((e : ℕ) → high ≤ e → e < to → a * 4294967296 + 4294967295 < first_at words e)
      → (o : Option V6) → IfNone o (HasNoOwner words low high a w) → IfNone o (HasNoOwner words from to a w)
  none_wider below above (Some b4) none = tt
  none_wider below above None none = λ e x l m f same. elim (cases_lt e low) [
    | inl early ↦ absurd (let b = below e l early in omega (arith, b, f.like.v4, same))
    | inr later ↦ elim (cases_lt e high) [
      | inl inside ↦ none e x later inside f same
      | inr late ↦ absurd (let b = above e late m in omega (arith, b, f.like.v4, same))
    ]
  ]

add_one_mul : (n d : ℕ) → (n + 1) * d ≡ n * d + d
add_one_mul n d = omega arith

code_next : (n a : ℕ) → n / 4294967296 ≡ a → n / 2147483648 % 2 ≡ 1
    → (n - n % 65536 + 65536 - a * 4294967296) / 65536 - 32768 ≡ suc ((n - a * 4294967296) / 65536 - 32768)
code_next n a e f = omega arith

code_small : (n a : ℕ) → n / 4294967296 ≡ a → (n - n % 65536 + 65536 - a * 4294967296) / 65536 - 32768 ≤ 65536
code_small n a e = omega arith

pub some_digits : (n d : ℕ) → 0 < n → n < 2 ^ d → 1 ≤ d
some_digits n zero some l = absurd (omega (arith, some, l))
some_digits n (suc d) some l = omega arith

above_address : (n m a least : ℕ) → n ≤ m → least ≤ n → a * 4294967296 ≤ least → (n / 4294967296 ≡ a → ⊥) → a < m / 4294967296
above_address n m a least up l s other = elim (cases_lt a (m / 4294967296)) [
  | inl less ↦ less
  | inr more ↦ absurd (other (omega (arith, up, l, s, more)))
]

pub tried_none : (words : List ℕ) (a : ℕ) (w : Want) (first to s : ℕ) → AreTried words a w first to first (a * 4294967296) (s - s)
tried_none words a w first to s = record {
  within = omega arith;
  at_least = omega arith;
  at_most = omega arith;
  below = λ e l m. absurd (omega arith);
  none_owns = λ e x l m less f same. absurd (omega (arith, less, f.like.v4, same));
  tried = λ bindings d entries size.
      let zero_is : (a * 4294967296 - a * 4294967296) / 65536 - 32768 ≡ 0 = omega arith in
      let none : tried_shapes bindings a (a * 4294967296) ≡ 0 = ap (count_below (has_shape bindings a)) zero_is in
      record { few = rw none (omega arith); cost = omega arith };
}

-- what a turn of the shapes knows: what was tried before it, and the place where its search among what is left ended
pub record IsTurn (words : List ℕ) (a : ℕ) (w : Want) (first to from least spent at : ℕ) : Type 0 where
  pub tried : AreTried words a w first to from least spent
  pub span : IsEntryRange words from to
  pub place : IsBoundary words from to least at

-- an entry of the address stands there
pub record IsOther (words : List ℕ) (a to at word : ℕ) : Type 0 where
  pub here : at < to
  pub word_is : word ≡ first_at words at
  pub address : word / 4294967296 ≡ a
  pub marked : mark_of word ≡ 1

module _ {words : List ℕ} {a : ℕ} {w : Want} {first to from least spent at : ℕ} (turn : IsTurn words a w first to from least spent at) where
  -- an entry before the place is below the least first word
  before : (e : ℕ) → first ≤ e → e < at → first_at words e < least
  before e l m = elim (cases_lt e from) [
    | inl less ↦ turn.tried.below e l less
    | inr more ↦ turn.place.below e more m
  ]

  -- where no other shape follows, nobody owns it
  pub none_left : ((e : ℕ) → at ≤ e → e < to → a < first_at words e / 4294967296) → HasNoOwner words first to a w
  none_left ends e x l m f same = elim (cases_lt e at) [
    | inl less ↦ turn.tried.none_owns e x l m (before e l less) f same
    | inr more ↦ absurd (omega (arith, ends e more m, f.like.v4, same))
  ]

  pub none_behind : to ≤ at → HasNoOwner words first to a w
  none_behind ends = none_left (λ e l m. absurd (omega (arith, ends, l, m)))

  pub none_elsewhere : at < to → first_at words at / 4294967296 ≢ a → HasNoOwner words first to a w
  none_elsewhere here other = none_left (λ e l m. above_address (first_at words at) (first_at words e) a least (turn.span.ascending at e l m)
      (turn.place.above at (omega arith) here) turn.tried.at_least other)

  -- the cost of the search among what is left
  pub search_cost : (c d : ℕ) → to - first < 2 ^ d → 2 ^ c ≤ 2 * (to - from) + 1 → c ≤ d
  search_cost c d size cost = few_halvings c (to - from) d cost (omega (arith, size, turn.tried.within))

  pub rest_small : (d : ℕ) → to - first < 2 ^ d → to - at < 2 ^ d
  rest_small d size = omega (arith, size, turn.tried.within, turn.place.from_on)

  pub first_here : first ≤ at
  first_here = omega (arith, turn.tried.within, turn.place.from_on)

  pub none_bounded : (old new : ℕ) → ((d : ℕ) → to - first < 2 ^ d → new ≤ old + (spent + (d + 1))) → IsTryingBounded words first to None old new
  none_bounded old new cost = record {
    bound = λ bindings d entries size.
        let h = turn.tried.tried bindings d entries size in
        let product : tried_shapes bindings a least * (2 * d + 2) ≤ most_shapes bindings * (2 * d + 2) = mul-le-mul_right (2 * d + 2) h.few in
        omega (arith, product, cost d size, h.cost);
    found = tt;
  }

  pub other_is : (word : ℕ) → at < to → word ≡ first_at words at → word / 4294967296 ≡ a → AreMarked words first to a → IsOther words a to at word
  other_is word here is same marked = record {
    here = here;
    word_is = is;
    address = same;
    marked = ap (λ (n : ℕ). mark_of n) is ∙ marked at first_here here (ap (λ (n : ℕ). n / 4294967296) (sym is) ∙ same);
  }

  module _ {word : ℕ} (other : IsOther words a to at word) where
    least_word : least ≤ word
    least_word = omega (arith, other.word_is, turn.place.above at (omega arith) other.here)

    module _ (bindings : List Binding) (entries : AreEntriesOf bindings words first to) where
      here_is : (x : Binding) × Contains bindings x × IsEntry words x at
      here_is = entries at first_here other.here

      same_v4 : here_is.0.v4.0 ≡ a
      same_v4 = here_is.2.first.like.v4 ∙ ap (λ (n : ℕ). n / 4294967296) (sym other.word_is) ∙ other.address

      shape_here : has_shape bindings a ((word - a * 4294967296) / 65536 - 32768) ≡ true
      shape_here =
          let x : Binding = here_is.0 in
          let like = here_is.2.first.like in
          let code : x.offset * 256 + x.length ≡ (word - a * 4294967296) / 65536 - 32768 = shape_code word a x.offset x.length other.address other.marked
          (like.offset ∙ ap (λ (n : ℕ). n / 16777216 % 128) (sym other.word_is)) (like.length ∙ ap (λ (n : ℕ). n / 65536 % 256) (sym other.word_is)) in
          any_passes (λ (y : Binding). eqb y.v4.0 a && eqb (y.offset * 256 + y.length) ((word - a * 4294967296) / 65536 - 32768)) bindings x here_is.1
          (and_from _ _ (eq-eqb _ _ same_v4) (eq-eqb _ _ code))
        where
          shape_code : (n a o l : ℕ) → n / 4294967296 ≡ a → n / 2147483648 % 2 ≡ 1 → o ≡ n / 16777216 % 128 → l ≡ n / 65536 % 256
              → o * 256 + l ≡ (n - a * 4294967296) / 65536 - 32768
          shape_code n a o l e m f g = omega arith

      -- the shape of this place counts
      one_more : tried_shapes bindings a least + 1 ≤ tried_shapes bindings a (word - word % 65536 + 65536)
      one_more =
          let c : ℕ = (word - a * 4294967296) / 65536 - 32768 in
          let up : (word - word % 65536 + 65536 - a * 4294967296) / 65536 - 32768 ≡ suc c = code_next word a other.address other.marked in
          let low : (least - a * 4294967296) / 65536 - 32768 ≤ c = omega (arith, least_word) in
          rw up (count_below_more (has_shape bindings a) ((least - a * 4294967296) / 65536 - 32768) c shape_here low)

      few_shapes : tried_shapes bindings a (word - word % 65536 + 65536) ≤ most_shapes bindings
      few_shapes =
          let x : Binding = here_is.0 in
          let small : (word - word % 65536 + 65536 - a * 4294967296) / 65536 - 32768 ≤ shape_end = omega
          (arith, shape_end_is, code_small word a other.address) in
          let counted : tried_shapes bindings a (word - word % 65536 + 65536) ≤ shape_count bindings a = count_below_mono
          (has_shape bindings a) _ shape_end small in
          let moved : shape_count bindings x.v4.0 ≡ shape_count bindings a = ap (shape_count bindings) same_v4 in
          let most : shape_count bindings x.v4.0 ≤ greatest (λ y. shape_count bindings y.v4.0) bindings =
          le_greatest (λ y. shape_count bindings y.v4.0) bindings x here_is.1 in
          omega (arith, counted, moved, most)

      -- what one more shape costs
      spent_more : (d more now : ℕ) → to - first < 2 ^ d → now ≤ spent + (2 * d + 2) + more → now ≤ tried_shapes bindings a
          (word - word % 65536 + 65536) * (2 * d + 2) + more
      spent_more d more now size cost =
          let b : ℕ = 2 * d + 2 in
          let product : (tried_shapes bindings a least + 1) * b ≤ tried_shapes bindings a (word - word % 65536 + 65536) * b = mul-le-mul_right b one_more in
          let split : (tried_shapes bindings a least + 1) * b ≡ tried_shapes bindings a least * b + b = add_one_mul (tried_shapes bindings a least) b in
          omega (arith, product, split, cost, (turn.tried.tried bindings d entries size).cost)

      found_cost : (d now : ℕ) → to - first < 2 ^ d → now ≤ spent + (2 * d + 2) + 2 → now ≤ most_shapes bindings * (2 * d + 2) + 2
      found_cost d now size cost =
          let product : tried_shapes bindings a (word - word % 65536 + 65536) * (2 * d + 2) ≤ most_shapes bindings * (2 * d + 2) = mul-le-mul_right
          (2 * d + 2) few_shapes in
          omega (arith, product, spent_more d 2 now size cost)

    pub found_bounded : (b4 : V6) (old new : ℕ) → old ≤ new → ((d : ℕ) → to - first < 2 ^ d → new ≤ old + (spent + (2 * d + 2) + 2)) →
        IsTryingBounded words first to (Some b4) old new
    found_bounded b4 old new later cost = record {
      bound = λ bindings d entries size.
          let digits = some_digits (to - at) d (omega (arith, other.here)) (rest_small d size) in
          omega (arith, most bindings d entries size, digits);
      found = most;
    }
      where
        most : (bindings : List Binding) (d : ℕ) → AreEntriesOf bindings words first to → to - first < 2 ^ d → new ≤ old + most_shapes bindings * (2 * d + 2) + 2
        most bindings d entries size =
            let found = found_cost bindings entries d (new - old) size (omega (arith, cost d size, later)) in
            omega (arith, found, later)

    pub tried_more : (now : ℕ) → ((d : ℕ) → to - first < 2 ^ d → now ≤ spent + (2 * d + 2))
        → IsNotFound words at to word w → AreTried words a w first to at (word - word % 65536 + 65536) now
    tried_more now cost not_found = record {
      within = first_here;
      at_least = omega (arith, turn.tried.at_least, least_word);
      at_most = omega (arith, other.address);
      below = λ e l m. (let b = before e l m in omega (arith, b, least_word));
      none_owns = λ e x l m less f same. elim (cases_lt (first_at words e) least) [
        | inl early ↦ turn.tried.none_owns e x l m early f same
        | inr more ↦
            (let after : at ≤ e = elim (cases_lt e at) [
              | inl sooner ↦ absurd (let b = before e l sooner in omega (arith, b, more))
              | inr late ↦ late
            ] in
            let up : first_at words at ≤ first_at words e = turn.span.ascending at e after m in
            not_found e x after m (alike word (first_at words e) (omega (arith, other.word_is, up)) less) f)
      ];
      tried = λ bindings d entries size.
          let most = spent_more bindings entries d 0 now size (omega (arith, cost d size)) in
          record { few = few_shapes bindings entries; cost = omega (arith, most) };
    }
      where
        alike : (n m : ℕ) → n ≤ m → m < n - n % 65536 + 65536 → m / 65536 ≡ n / 65536
        alike n m l k = omega arith

-- what a lookup costs as a whole, where a search left so many digits of those of its group
module _ (t : BindingTable) where
  least_found : 2 * group_digits t.bindings + 8 ≤ found_bound t.bindings
  least_found =
      let d : ℕ = 2 * group_digits t.bindings + 4 in
      let some : 1 ≤ most_shapes t.bindings = omega arith in
      let least : 1 * d ≤ most_shapes t.bindings * d = mul-le-mul_right d some in
      omega (arith, least)

  pub found_below : found_bound t.bindings ≤ look_bound t.bindings
  found_below = omega arith

  pub none_found : (s0 s1 : ℕ) → s1 ≤ s0 + group_digits t.bindings + 5 → s1 ≤ s0 + found_bound t.bindings
  none_found s0 s1 cost = omega (arith, cost, least_found)

  module _ (n width s0 s1 s2 : ℕ) (some : 0 < n) (small : n < 2 ^ group_digits t.bindings)
      (left : IsNarrowed (group_digits t.bindings) width (s1 - s0)) (later : s0 ≤ s1) where
    pub alike_found : s2 ≤ s1 + left.left + 3 → s2 + 2 ≤ s0 + found_bound t.bindings
    alike_found cost = omega (arith, cost, left.few, later, least_found, some_digits n (group_digits t.bindings) some small)

    module _ (two : 2 ≤ most_shapes t.bindings) where
      narrower : most_shapes t.bindings * (2 * left.left + 2) + 4 * (group_digits t.bindings - left.left) ≤ most_shapes t.bindings *
          (2 * group_digits t.bindings + 2)
      narrower = less (most_shapes t.bindings) left.left (group_digits t.bindings - left.left) (group_digits t.bindings) two (omega (arith, left.fewer))
        where
          product : (g r k : ℕ) → g * (2 * (r + k) + 2) ≡ g * (2 * r + 2) + g * (2 * k)
          product g r k = omega arith

          less : (g r k d : ℕ) → 2 ≤ g → r + k ≡ d → g * (2 * r + 2) + 4 * k ≤ g * (2 * d + 2)
          less g r k d two sum =
              let most : 2 * (2 * k) ≤ g * (2 * k) = mul-le-mul_right (2 * k) two in
              rw (← sum) (omega (arith, product g r k, most))

      wider : found_bound t.bindings ≡ most_shapes t.bindings * (2 * group_digits t.bindings + 2) + 2 * most_shapes t.bindings + 4
      wider = split (most_shapes t.bindings) (group_digits t.bindings)
        where
          split : (g d : ℕ) → g * (2 * d + 4) + 4 ≡ g * (2 * d + 2) + 2 * g + 4
          split g d = omega arith

      pub mixed_found : s2 ≤ s1 + most_shapes t.bindings * (2 * left.left + 2) + 2 → s2 + 2 ≤ s0 + found_bound t.bindings
      mixed_found cost = omega (arith, cost, left.few, left.fewer, later, narrower, wider, two)

      pub mixed_look : s2 ≤ s1 + most_shapes t.bindings * (2 * left.left + 2) + left.left + 1 → s2 + 2 ≤ s0 + look_bound t.bindings
      mixed_look cost = omega (arith, cost, left.few, left.fewer, later, narrower, wider, two)

-- whether some binding has the address
module _ (t : BindingTable) (words : List ℕ) (v4 : V4) (from to at : ℕ) (span : IsEntryRange words from to)
    (group : IsIndexGroup t words v4.0 from to) (place : IsBoundary words from to (v4.0 * 4294967296) at) where
  -- an entry of the address is not before the place
  not_before : (x : Binding) → Contains t.bindings x → x.v4.0 ≡ v4.0 → (e : ℕ) × (at ≤ e) × (e < to) × IsEntry words x e
  not_before x m same =
      let c = group.members x m same in
      let e = c.0 in
      let after : at ≤ e = elim (cases_lt e at) [
        | inl early ↦ absurd (let b = place.below e c.1 early in omega (arith, b, c.3.first.like.v4, same))
        | inr late ↦ late
      ] in
      (e, after, c.2, c.3)

  pub address_none : to ≤ at → has_v4 t.bindings v4 ≡ false
  address_none ends = any_fails (λ (x : Binding). eqb x.v4.0 v4.0) t.bindings (λ x m. ne_eqb _ _ (λ same.
      let c = not_before x m same in omega (arith, c.1, c.2, ends)))

  pub address_here : at < to → (word : ℕ) → word ≡ first_at words at → eqb (word / 4294967296) v4.0 ≡ has_v4 t.bindings v4
  address_here here word word_is =
      let b = group.entries at place.from_on here in
      let v4_is = b.2.first.like.v4 in
      elim (cases_eq (word / 4294967296) v4.0) [
        | inl same ↦ eq-eqb _ _ same ∙ sym (any_passes (λ (x : Binding). eqb x.v4.0 v4.0) t.bindings b.0 b.1
            (eq-eqb _ _ (v4_is ∙ ap (λ (n : ℕ). n / 4294967296) (sym word_is) ∙ same)))
        | inr other ↦ ne_eqb _ _ other ∙ sym (any_fails (λ (x : Binding). eqb x.v4.0 v4.0) t.bindings (λ x m. ne_eqb _ _ (λ same.
            let c = not_before x m same in
            let e = c.0 in
            let up : first_at words at ≤ first_at words e = span.ascending at e c.1 c.2 in
            let least : v4.0 * 4294967296 ≤ first_at words at = place.above at (omega arith) here in
            other (omega (arith, word_is, up, least, c.3.first.like.v4, same)))))
      ]

  pub address_cost : (c : ℕ) → 2 ^ c ≤ 2 * (to - from) + 1 → c ≤ group_digits t.bindings
  address_cost c cost = few_halvings c (to - from) (group_digits t.bindings) cost group.size

-- an optional end of a tunnel
pub if_some : (o : Option V6) (P : Type 0) → P → IfSome o (λ _. P)
if_some None P h = tt
if_some (Some b4) P h = h

pub if_none : (o : Option V6) (P : Type 0) → P → IfNone o P
if_none None P h = h
if_none (Some b4) P h = tt

pub if_mapped : (o : Option V6) (P Q : Type 0) → (P → Q) → IfSome o (λ _. P) → IfSome o (λ _. Q)
if_mapped None P Q f h = tt
if_mapped (Some b4) P Q f h = f h

pub span_rest : (words : List ℕ) (from to at : ℕ) → IsEntryRange words from to → at ≤ to → IsEntryRange words at to
span_rest words from to at s l = record { ordered = l; few = s.few; within = s.within; ascending = s.ascending; rising = s.rising; shapes = s.shapes }
