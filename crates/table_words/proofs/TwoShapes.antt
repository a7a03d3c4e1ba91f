-- Addresses with bindings of two shapes.
use Rattle.std.proofs.Common.{◌≡◌, ℕ, suc, ◌+◌, ◌*◌, ◌/◌, ◌%◌, ◌<◌, ◌≤◌, Bool, true, false, eqb, ◌&&◌, List, [], ◌∷◌, length, map, Contains, refl, sym, ap, ◌∙◌, inl, inr, arith}
use Rattle.std.specs.Prelude.{slice_get, Option, Some, unwrap_or}
use Rattle.std.specs.List.{list_any}
use Rattle.std.specs.List.Sorted.{IsPermutation}
use Rattle.std.proofs.lemmas.Bool.{cases_Bool, cases_eq, cases_lt, and_parts, and_from, eqb-true, eq-eqb, false≢true, le-ltb, lt-ltb, ltb-false, ltb-true}
use Rattle.std.proofs.lemmas.List.{get_or_default}
use Rattle.std.proofs.lemmas.List.Elements.{Contains-get_or}
use Rattle.std.proofs.lemmas.List.Sorted.{IsPermutation-sym, Contains-permutation}
use Rattle.std.proofs.lemmas.Option.{slice_get-get_or}
use Rattle.binding_rules.specs.Conflicts.{HaveOneShape}
use Rattle.binding_rules.specs.Tables.{BindingTable, IsLawful}
use Rattle.binding_rules.specs.declared.binding.Binding.{Binding}
use Rattle.binding_rules.specs.declared.settings.Edition.TheVariants as edition
use Rattle.table_words.specs.Bounds.{count_below, has_shape, shape_end, shape_count, most_shapes, greatest}
use Rattle.table_words.specs.Layout.{has_two_shapes, is_mixed, flag, row, row_at}
use Rattle.table_words.specs.Parts.{AreUnmarked, TellsMixed}
use Rattle.table_words.specs.Spans.{first_at, mark_of, IsIndexGroup, AreAlike, AreMarked}
use Rattle.aftr_base.proofs.MemberLemmas.{contains_after, contains_front}
use Rattle.table_words.proofs.Counts.{greatest_le, le_greatest}
use Rattle.table_words.proofs.Digits.{count_below_mono, count_below_more, count_below_one}
use Rattle.table_words.proofs.Filters.{any_passes}
use Rattle.table_words.proofs.Groups.{fields, unmarked}
use Rattle.table_words.proofs.Members.{contains_map, contains_from_map, known}
use Rattle.table_words.proofs.Trying.{shape_end_is}

any_found : {X : Type 0} (test : X → Bool) (xs : List X) → list_any test xs ≡ true → (x : X) × Contains xs x × (test x ≡ true)
any_found test [] h = absurd (false≢true h)
any_found test (x ∷ xs) h = elim (cases_Bool (test x)) [
  | inl passes ↦ (x, contains_front x xs, passes)
  | inr fails ↦ (let rest = any_found test xs (rw fails at h) in (rest.0, contains_after x xs rest.0 rest.1, rest.2))
]

one_or : (x y : Binding) → ((HaveOneShape x y → ⊥) → ⊥) → HaveOneShape x y
one_or x y h = elim (cases_eq x.offset y.offset) [
  | inl same ↦ elim (cases_eq x.length y.length) [
    | inl alike ↦ (same, alike)
    | inr unlike ↦ absurd (h (λ one. unlike one.1))
  ]
  | inr unlike ↦ absurd (h (λ one. unlike one.0))
]

-- the shape of a first word without its mark
word_parts : (n m : ℕ) → n / 65536 ≡ m / 65536 → (n / 16777216 % 256 ≡ m / 16777216 % 256) × (n / 65536 % 256 ≡ m / 65536 % 256)
word_parts n m e = (omega (arith, e), ap (λ (j : ℕ). j % 256) e)

word_joined : (n m a b o p l k : ℕ) → n / 4294967296 ≡ a → m / 4294967296 ≡ b → n / 16777216 % 256 ≡ o → m / 16777216 % 256 ≡ p
    → n / 65536 % 256 ≡ l → m / 65536 % 256 ≡ k → a ≡ b → o ≡ p → l ≡ k → n / 65536 ≡ m / 65536
word_joined n m a b o p l k e1 e2 e3 e4 e5 e6 e7 e8 e9 = omega (arith, e1, e2, e3, e4, e5, e6, e7, e8, e9)

unmarked_joined : (n m a o p l k : ℕ) → n / 4294967296 ≡ a → m / 4294967296 ≡ a → n / 2147483648 % 2 ≡ 0 → m / 2147483648 % 2 ≡ 0
    → o ≡ n / 16777216 % 128 → p ≡ m / 16777216 % 128 → l ≡ n / 65536 % 256 → k ≡ m / 65536 % 256 → o ≡ p → l ≡ k → n / 65536 ≡ m / 65536
unmarked_joined n m a o p l k e1 e2 e3 e4 e5 e6 e7 e8 e9 e10 = omega (arith, e1, e2, e3, e4, e5, e6, e7, e8, e9, e10)

same_number : (o l p k : ℕ) → l < 256 → k < 256 → o * 256 + l ≡ p * 256 + k → (o ≡ p) × (l ≡ k)
same_number o l p k a b e = (omega (arith, a, b, e), omega (arith, a, b, e))

module _ (t : BindingTable) (h : IsLawful t) where
  has : (a : ℕ) (x : Binding) → Contains t.bindings x → x.v4.0 ≡ a → has_shape t.bindings a (x.offset * 256 + x.length) ≡ true
  has a x m e = any_passes (λ (y : Binding). eqb y.v4.0 a && eqb (y.offset * 256 + y.length) (x.offset * 256 + x.length)) t.bindings x m
      (and_from _ _ (eq-eqb _ _ e) (eq-eqb _ _ refl))

  small : (x : Binding) → Contains t.bindings x → x.offset * 256 + x.length < shape_end
  small x m = let k = known t h x m in omega (arith, k.shape.offset_fits, k.shape.sum_fits, shape_end_is)

  two_of : (a c d : ℕ) → c < d → d < shape_end → has_shape t.bindings a c ≡ true → has_shape t.bindings a d ≡ true → 2 ≤ shape_count t.bindings a
  two_of a c d less fits has_c has_d =
      let one : count_below (has_shape t.bindings a) 0 + 1 ≤ count_below (has_shape t.bindings a) (suc c) =
      count_below_more (has_shape t.bindings a) 0 c has_c (omega arith) in
      let more : count_below (has_shape t.bindings a) (suc c) + 1 ≤ count_below (has_shape t.bindings a) (suc d) =
      count_below_more (has_shape t.bindings a) (suc c) d has_d (omega (arith, less)) in
      let all : count_below (has_shape t.bindings a) (suc d) ≤ shape_count t.bindings a = count_below_mono (has_shape t.bindings a) (suc d) shape_end
      (omega (arith, fits)) in
      omega (arith, one, more, all)

  -- two bindings of the address that have no one shape
  unlike_count : (a : ℕ) (x y : Binding) → Contains t.bindings x → Contains t.bindings y → x.v4.0 ≡ a → y.v4.0 ≡ a → (HaveOneShape x y → ⊥)
      → 2 ≤ shape_count t.bindings a
  unlike_count a x y x_in y_in x_at y_at unlike =
      let c : ℕ = x.offset * 256 + x.length in
      let d : ℕ = y.offset * 256 + y.length in
      let has_c : has_shape t.bindings a c ≡ true = has a x x_in x_at in
      let has_d : has_shape t.bindings a d ≡ true = has a y y_in y_at in
      let x_fits : x.length < 256 = omega (arith, (known t h x x_in).shape.sum_fits) in
      let y_fits : y.length < 256 = omega (arith, (known t h y y_in).shape.sum_fits) in
      elim (cases_lt c d) [
        | inl less ↦ two_of a c d less (small y y_in) has_c has_d
        | inr more ↦ elim (cases_eq c d) [
          | inl same ↦ absurd (unlike (same_number x.offset x.length y.offset y.length x_fits y_fits same))
          | inr other ↦ two_of a d c (omega (arith, more, other)) (small x x_in) has_d has_c
        ]
      ]

  -- where no two are unlike, there is one shape at most
  alike_count : (a : ℕ) → ((x y : Binding) → Contains t.bindings x → Contains t.bindings y → x.v4.0 ≡ a → y.v4.0 ≡ a → HaveOneShape x y)
      → shape_count t.bindings a ≤ 1
  alike_count a alike = count_below_one (has_shape t.bindings a) (λ j k has_j has_k.
      let p = any_found _ t.bindings has_j in
      let q = any_found _ t.bindings has_k in
      let x : Binding = p.0 in
      let y : Binding = q.0 in
      let x_is = and_parts (eqb x.v4.0 a) (eqb (x.offset * 256 + x.length) j) p.2 in
      let y_is = and_parts (eqb y.v4.0 a) (eqb (y.offset * 256 + y.length) k) q.2 in
      let one = alike x y p.1 q.1 (eqb-true _ _ x_is.0) (eqb-true _ _ y_is.0) in
      omega (arith, eqb-true _ _ x_is.1, eqb-true _ _ y_is.1, one.0, one.1)) shape_end

  one_shape : (a : ℕ) → is_mixed t.bindings a ≡ false → (x y : Binding) → Contains t.bindings x → Contains t.bindings y → x.v4.0 ≡ a → y.v4.0 ≡ a
      → HaveOneShape x y
  one_shape a none x y x_in y_in x_at y_at = one_or x y (λ unlike.
      omega (arith, unlike_count a x y x_in y_in x_at y_at unlike, ltb-false _ _ none))

  -- a table of edition One has no such address
  pub edition_has_one : t.edition ≡ edition.One → has_two_shapes t.bindings ≡ false
  edition_has_one one = le-ltb _ _ (let most = greatest_le (λ b. shape_count t.bindings b.v4.0) 1 t.bindings (λ z m.
      alike_count z.v4.0 (λ x y x_in y_in x_at y_at. one_or x y (λ unlike. apart x y x_in y_in (x_at ∙ sym y_at) unlike))) in omega (arith, most))
    where
      at : (x : Binding) (m : Contains t.bindings x) → slice_get t.bindings m.0 ≡ Some x
      at x m = slice_get-get_or t.bindings m.0 x m.1 ∙ ap Some m.2

      apart : (x y : Binding) → Contains t.bindings x → Contains t.bindings y → x.v4.0 ≡ y.v4.0 → (HaveOneShape x y → ⊥) → ⊥
      apart x y x_in y_in address unlike = elim (cases_lt x_in.0 y_in.0) [
        | inl less ↦ h.apart x_in.0 y_in.0 x y less (at x x_in) (at y y_in)
            (record { address = address; cause = inl (rw one unlike) })
        | inr more ↦ elim (cases_eq x_in.0 y_in.0) [
          | inl here ↦ (let same : x ≡ y = ap (λ (o : Option Binding). unwrap_or o x) (sym (at x x_in) ∙ ap (slice_get t.bindings) here ∙ at y y_in) in
              unlike (ap (λ (z : Binding). z.offset) same, ap (λ (z : Binding). z.length) same))
          | inr other ↦ h.apart y_in.0 x_in.0 y x (omega (arith, more, other)) (at y y_in) (at x x_in)
              (record { address = sym address; cause = inl (rw one (λ o. unlike (sym o.0, sym o.1))) })
        ]
      ]

  module _ (rows : List (ℕ × ℕ)) (same : IsPermutation (map row t.bindings) rows) where
    row_of : (x : Binding) → Contains t.bindings x → (e : ℕ) × (e < length rows) × (row_at rows e ≡ row x)
    row_of x m =
        let c = Contains-permutation (map row t.bindings) rows (row x) same (contains_map row t.bindings x m) in
        (c.0, c.1, get_or_default rows c.0 (0, 0) (row x) c.1 ∙ c.2)

    binding_at : (e : ℕ) → e < length rows → (x : Binding) × Contains t.bindings x × ((row_at rows e).0 ≡ (row x).0)
    binding_at e l =
        let c = Contains-permutation rows (map row t.bindings) (row_at rows e) (IsPermutation-sym _ _ same) (Contains-get_or rows e (0, 0) l) in
        let b = contains_from_map row t.bindings (row_at rows e) c in
        (b.0, b.1, ap (λ (r : ℕ × ℕ). r.0) (sym b.2))

    pub rows_unmarked : AreUnmarked rows
    rows_unmarked e l = let b = binding_at e l in unmarked b.0 (known t h b.0 b.1) (row_at rows e).0 b.2

    -- the rows tell which addresses are mixed
    pub tells_mixed : TellsMixed rows (is_mixed t.bindings)
    tells_mixed = record {
      two = λ a m.
          let b = binding_at m.d m.d_within in
          let c = binding_at m.e m.e_within in
          let f = fields b.0 (known t h b.0 b.1) (row_at rows m.d).0 b.2 in
          let g = fields c.0 (known t h c.0 c.1) (row_at rows m.e).0 c.2 in
          lt-ltb _ _ (unlike_count a b.0 c.0 b.1 c.1 (sym f.v4 ∙ m.d_address) (sym g.v4 ∙ m.e_address) (λ one.
          m.shapes (word_joined _ _ _ _ _ _ _ _ f.v4 g.v4 f.offset g.offset f.length g.length (sym f.v4 ∙ m.d_address ∙ sym m.e_address ∙ g.v4) one.0 one.1)));
      one = λ a alike. le-ltb _ _ (alike_count a (λ x y x_in y_in x_at y_at.
          let d = row_of x x_in in
          let e = row_of y y_in in
          let f = fields x (known t h x x_in) (row_at rows d.0).0 (ap (λ (r : ℕ × ℕ). r.0) d.2) in
          let g = fields y (known t h y y_in) (row_at rows e.0).0 (ap (λ (r : ℕ × ℕ). r.0) e.2) in
          let parts = word_parts _ _ (alike d.0 e.0 d.1 e.1 (f.v4 ∙ x_at) (g.v4 ∙ y_at)) in
          (sym f.offset ∙ parts.0 ∙ g.offset, sym f.length ∙ parts.1 ∙ g.length)));
    }

pub count_has_one : (bindings : List Binding) → most_shapes bindings ≡ 1 → has_two_shapes bindings ≡ false
count_has_one bindings one = rw one refl

-- what the mark of an entry tells of its address, and of the table
flag_one : (b : Bool) → flag b 1 ≡ 1 → b ≡ true
flag_one true h = refl
flag_one false h = absurd (omega (arith, h))

flag_zero : (b : Bool) → flag b 1 ≡ 0 → b ≡ false
flag_zero true h = absurd (omega (arith, h))
flag_zero false h = refl

module _ (t : BindingTable) (words : List ℕ) (a from to : ℕ) (group : IsIndexGroup t words a from to) (at : ℕ) (l : from ≤ at) (m : at < to) where
  mixed_by : (e : ℕ) → from ≤ e → e < to → first_at words e / 4294967296 ≡ first_at words at / 4294967296 → mark_of (first_at words e) ≡ mark_of
      (first_at words at)
  mixed_by e k n same = group.marks e k n ∙ ap (λ (b : ℕ). flag (is_mixed t.bindings b) 1) same ∙ sym (group.marks at l m)

  pub are_marked : mark_of (first_at words at) ≡ 1 → AreMarked words from to (first_at words at / 4294967296)
  are_marked one e k n same = mixed_by e k n same ∙ one

  pub are_alike : IsLawful t → mark_of (first_at words at) ≡ 0 → AreAlike words from to (first_at words at / 4294967296)
  are_alike h zero d e k n i j same_d same_e =
      let b = group.entries d k n in
      let c = group.entries e i j in
      let f = b.2.first.like in
      let g = c.2.first.like in
      let none : is_mixed t.bindings (first_at words at / 4294967296) ≡ false = flag_zero _ (sym (group.marks at l m) ∙ zero) in
      let one = one_shape t h _ none b.0 c.0 b.1 c.1 (f.v4 ∙ same_d) (g.v4 ∙ same_e) in
      unmarked_joined _ _ _ _ _ _ _ same_d same_e (mixed_by d k n same_d ∙ zero) (mixed_by e i j same_e ∙ zero) f.offset g.offset f.length g.length one.0 one.1

  -- the greatest number of shapes of one address is more than 1
  pub some_mixed : mark_of (first_at words at) ≡ 1 → 2 ≤ most_shapes t.bindings
  some_mixed one =
      let b = group.entries at l m in
      let mixed : is_mixed t.bindings (first_at words at / 4294967296) ≡ true = flag_one _ (sym (group.marks at l m) ∙ one) in
      let count : 2 ≤ shape_count t.bindings (first_at words at / 4294967296) = ltb-true _ _ mixed in
      let here : shape_count t.bindings b.0.v4.0 ≡ shape_count t.bindings (first_at words at / 4294967296) = ap (shape_count t.bindings) b.2.first.like.v4 in
      let most : shape_count t.bindings b.0.v4.0 ≤ greatest (λ x. shape_count t.bindings x.v4.0) t.bindings =
      le_greatest (λ x. shape_count t.bindings x.v4.0) t.bindings b.0 b.1 in
      omega (arith, count, here, most)

  pub not_one_shape : mark_of (first_at words at) ≡ 1 → has_two_shapes t.bindings ≡ false → (j k : ℕ) → j ≤ k
  not_one_shape one none j k = absurd (omega (arith, some_mixed one, ltb-false _ _ none))
