-- The entries of a table's words, and those that agree with an address in its top 16 bits.
use Rattle.std.proofs.Common.{◌≡◌, ℕ, ◌+◌, ◌-◌, ◌*◌, ◌/◌, ◌%◌, ◌^◌, ◌<◌, ◌≤◌, Bool, true, false, cond, eqb, ltb, List, length, map, Contains, refl, sym, ap, ◌∙◌, inl, inr, arith}
use Rattle.std.specs.Prelude.{slice_index}
use Rattle.std.specs.List.{count_by}
use Rattle.std.proofs.lemmas.Bool.{cases_lt, cases_eq, lt-ltb, le-ltb, ltb-true, eqb-true, eq-eqb}
use Rattle.std.proofs.lemmas.List.{length-map, get_or_default}
use Rattle.std.proofs.lemmas.List.Elements.{Contains-get_or}
use Rattle.std.proofs.lemmas.List.Sorted.{IsPermutation-sym, Contains-permutation, length_permutation, sum_by-IsPermutation}
use Rattle.std.proofs.lemmas.Nat.{pow_pos}
use Rattle.binding_rules.specs.Tables.{BindingTable}
use Rattle.binding_rules.specs.declared.binding.Binding.{Binding}
use Rattle.table_words.specs.Bounds.{group_size, group_digits, greatest}
use Rattle.table_words.specs.Layout.{IsCompiled, flag, is_mixed, marked, row, row_at, rows_below}
use Rattle.table_words.specs.Parts.{IsAscending}
use Rattle.table_words.specs.Spans.{first_at, mark_of, IsEntryRange, IsFirstOf, IsIndexGroup, IsEntry}
use Rattle.table_words.proofs.Counts.{count_at_most, count_at_least, count_map, count_weaker, count_split, le_greatest}
use Rattle.table_words.proofs.Digits.{below_digits}
use Rattle.table_words.proofs.Members.{contains_map, contains_from_map, IsKnown, known}

-- the fields of a first word
pub record AreFields (n : ℕ) (x : Binding) : Type 0 where
  pub v4 : n / 4294967296 ≡ x.v4.0
  pub top : n / 281474976710656 ≡ x.v4.0 / 65536
  pub offset : n / 16777216 % 256 ≡ x.offset
  pub length : n / 65536 % 256 ≡ x.length
  pub psid : n % 65536 ≡ x.psid

fields_of : (a o l p n : ℕ) → o < 256 → l < 256 → p < 65536 → n ≡ a * 4294967296 + o * 16777216 + l * 65536 + p
    → (n / 4294967296 ≡ a) × (n / 281474976710656 ≡ a / 65536) × (n / 16777216 % 256 ≡ o) × (n / 65536 % 256 ≡ l) × (n % 65536 ≡ p)
fields_of a o l p n ho hl hp e = (omega arith, omega arith, omega arith, omega arith, omega arith)

pub fields : (x : Binding) → IsKnown x → (n : ℕ) → n ≡ (row x).0 → AreFields n x
fields x k n e =
    let f = fields_of x.v4.0 x.offset x.length x.psid n (omega (arith, k.shape.offset_fits)) (omega (arith, k.shape.sum_fits)) k.psid e in
    record { v4 = f.0; top = f.1; offset = f.2; length = f.3; psid = f.4 }

pub unmarked : (x : Binding) → IsKnown x → (n : ℕ) → n ≡ (row x).0 → n / 2147483648 % 2 ≡ 0
unmarked x k n e =
    let low : x.offset * 16777216 + x.length * 65536 + x.psid < 2147483648 = omega (arith, k.shape.sum_fits, k.psid) in
    omega (arith, e, low)

-- a marked first word
flag_small : (b : Bool) (worth : ℕ) → flag b worth ≤ worth
flag_small true worth = omega arith
flag_small false worth = omega arith

pub marked_less : (mixed : ℕ → Bool) (n m : ℕ) → n / 2147483648 % 2 ≡ 0 → m / 2147483648 % 2 ≡ 0 → n < m → marked mixed n < marked mixed m
marked_less mixed n m hn hm less = elim (cases_eq (n / 4294967296) (m / 4294967296)) [
  | inl same ↦ (let alike : flag (mixed (n / 4294967296)) 2147483648 ≡ flag (mixed (m / 4294967296)) 2147483648 =
      ap (λ (a : ℕ). flag (mixed a) 2147483648) same in omega (arith, alike, less))
  | inr other ↦ (let small : flag (mixed (n / 4294967296)) 2147483648 ≤ 2147483648 = flag_small _ _ in
      omega (arith, small, hn, hm, less, other))
]

-- what is read off a marked first word
pub record IsMarked (mixed : ℕ → Bool) (x : Binding) (n : ℕ) : Type 0 where
  pub first : IsFirstOf n x
  pub mark : mark_of n ≡ flag (mixed (n / 4294967296)) 1

marked_fields : (b : Bool) (a o l p n : ℕ) → o < 128 → l < 256 → p < 65536 → n ≡ a * 4294967296 + o * 16777216 + l * 65536 + p + flag b 2147483648
    → (n / 4294967296 ≡ a) × (n / 2147483648 % 2 ≡ flag b 1) × (n / 16777216 % 128 ≡ o) × (n / 65536 % 256 ≡ l) × (n % 65536 ≡ p)
marked_fields true a o l p n ho hl hp e = (omega arith, omega arith, omega arith, omega arith, omega arith)
marked_fields false a o l p n ho hl hp e = (omega arith, omega arith, omega arith, omega arith, omega arith)

pub is_marked : (mixed : ℕ → Bool) (x : Binding) → IsKnown x → (n : ℕ) → n ≡ marked mixed (row x).0 → IsMarked mixed x n
is_marked mixed x k n e =
    let address : (row x).0 / 4294967296 ≡ x.v4.0 = (fields x k (row x).0 refl).v4 in
    let b : Bool = mixed x.v4.0 in
    let f = marked_fields b x.v4.0 x.offset x.length x.psid n (omega (arith, k.shape.sum_fits)) (omega (arith, k.shape.sum_fits)) k.psid
    (e ∙ ap (λ (a : ℕ). (row x).0 + flag (mixed a) 2147483648) address) in
    record {
      first = record {
        like = record { v4 = sym f.0; offset = sym f.2; length = sym f.3; psid_fits = k.psid_fits };
        psid = sym f.4;
      };
      mark = f.1 ∙ ap (λ (a : ℕ). flag (mixed a) 1) (sym f.0);
    }

top : List (ℕ × ℕ) → ℕ → ℕ
top rows e = (row_at rows e).0 / 281474976710656

top_mono : (rows : List (ℕ × ℕ)) → IsAscending rows → (d e : ℕ) → d ≤ e → e < length rows → top rows d ≤ top rows e
unfolding top
top_mono rows up d e l m = let h : (row_at rows d).0 ≤ (row_at rows e).0 = up d e l m in omega arith

module _ (rows : List (ℕ × ℕ)) (up : IsAscending rows) (h : ℕ) where
  pub below_at : (e : ℕ) → e < length rows → e < rows_below rows h → (row_at rows e).0 / 281474976710656 < h
  unfolding top
  below_at e l m = elim (cases_lt (top rows e) h) [
    | inl less ↦ less
    | inr more ↦ absurd (let most : rows_below rows h ≤ e = count_at_most (λ (r : ℕ × ℕ). ltb (r.0 / 281474976710656) h) rows (0, 0) e
        (λ j n k. le-ltb _ _ (let s : top rows e ≤ top rows j = top_mono rows up e j n k in omega (arith, s, more))) in
        omega (arith, most, m))
  ]

  pub above_at : (e : ℕ) → e < length rows → rows_below rows h ≤ e → h ≤ (row_at rows e).0 / 281474976710656
  unfolding top
  above_at e l m = elim (cases_lt (top rows e) h) [
    | inl less ↦ absurd (let least : e + 1 ≤ rows_below rows h = count_at_least (λ (r : ℕ × ℕ). ltb (r.0 / 281474976710656) h) rows (0, 0) (e + 1) (omega arith)
        (λ j n. lt-ltb _ _ (let s : top rows j ≤ top rows e = top_mono rows up j e (omega arith) l in omega (arith, s, less))) in
        omega (arith, least, m))
    | inr more ↦ more
  ]

  -- where the rows below h end
  pub rows_below_is : (c : ℕ) → c ≤ length rows → ((e : ℕ) → e < c → (row_at rows e).0 / 281474976710656 < h)
      → (c < length rows → h ≤ (row_at rows c).0 / 281474976710656) → rows_below rows h ≡ c
  unfolding top
  rows_below_is c l below above =
      let least : c ≤ rows_below rows h = count_at_least (λ (r : ℕ × ℕ). ltb (r.0 / 281474976710656) h) rows (0, 0) c l
      (λ j n. lt-ltb _ _ (below j n)) in
      let most : rows_below rows h ≤ c = count_at_most (λ (r : ℕ × ℕ). ltb (r.0 / 281474976710656) h) rows (0, 0) c
      (λ j n k. le-ltb _ _ (let s : top rows c ≤ top rows j = top_mono rows up c j n k in omega (arith, s, above (omega arith)))) in
      omega (arith, least, most)

  pub few_below : rows_below rows h ≤ length rows
  few_below = count_at_most (λ (r : ℕ × ℕ). ltb (r.0 / 281474976710656) h) rows (0, 0) (length rows) (λ j n k. absurd (omega arith))

split_top : (n h : ℕ) → cond (ltb n (h + 1)) 1 0 ≤ cond (ltb n h) 1 0 + cond (eqb n h) 1 0
split_top n h = elim (cases_lt n h) [
  | inl less ↦ rw (lt-ltb n h less, lt-ltb n (h + 1) (omega arith)) (omega arith)
  | inr more ↦ elim (cases_eq n h) [
    | inl same ↦ rw (eq-eqb n h same) (one_at_most (ltb n (h + 1)) (cond (ltb n h) 1 0))
    | inr other ↦ rw (le-ltb n (h + 1) (omega arith)) (omega arith)
  ]
]
  where
    one_at_most : (b : Bool) (k : ℕ) → cond b 1 0 ≤ k + 1
    one_at_most true k = omega arith
    one_at_most false k = omega arith

module _ (t : BindingTable) (words : List ℕ) (h : IsCompiled t words) where
  pub rows_ascend : IsAscending h.rows
  rows_ascend d e l m = elim (cases_lt d e) [
    | inl less ↦ (let s : (row_at h.rows d).0 < (row_at h.rows e).0 = h.ascending d e less m in omega arith)
    | inr more ↦ (let same : d ≡ e = omega arith in rw same (omega arith))
  ]

  pub row_count : length h.rows ≤ 65536
  row_count = omega (arith, length_permutation _ _ h.same, length-map t.bindings row, h.lawful.few)

  pub index_small : (g : ℕ) → g ≤ 65536 → slice_index words (8 + g) ≤ 65536
  index_small g l = omega (arith, h.index g l, few_below h.rows rows_ascend g, row_count)

  -- the first word of an entry, by its row
  entry_marked : (x : Binding) → Contains t.bindings x → (e : ℕ) → e < length h.rows → row_at h.rows e ≡ row x
      → IsMarked (is_mixed t.bindings) x (first_at words e)
  entry_marked x m e l same =
      is_marked (is_mixed t.bindings) x (known t h.lawful x m) (first_at words e) (h.first e l ∙ ap (λ (r : ℕ × ℕ). marked (is_mixed t.bindings) r.0) same)

  entry_is : (x : Binding) → Contains t.bindings x → (e : ℕ) → e < length h.rows → row_at h.rows e ≡ row x → IsEntry words x e
  entry_is x m e l same =
      let high = h.b4_high e l in
      let low = h.b4_low e l in
      let b4 : (row_at h.rows e).1 ≡ x.b4.0 = ap (λ (r : ℕ × ℕ). r.1) same in
      record {
        first = (entry_marked x m e l same).first;
        b4 = omega (arith, high, low, b4);
      }

  pub entry_of : (x : Binding) → Contains t.bindings x → (e : ℕ) × (e < length h.rows) × IsEntry words x e
  entry_of x m =
      let c = Contains-permutation (map row t.bindings) h.rows (row x) h.same (contains_map row t.bindings x m) in
      (c.0, c.1, entry_is x m c.0 c.1 (get_or_default h.rows c.0 (0, 0) (row x) c.1 ∙ c.2))

  row_binding : (e : ℕ) → e < length h.rows → (x : Binding) × Contains t.bindings x × (row x ≡ row_at h.rows e)
  row_binding e l =
      let c = Contains-permutation h.rows (map row t.bindings) (row_at h.rows e) (IsPermutation-sym _ _ h.same) (Contains-get_or h.rows e (0, 0) l) in
      contains_from_map row t.bindings (row_at h.rows e) c

  pub binding_of : (e : ℕ) → e < length h.rows → (x : Binding) × Contains t.bindings x × IsEntry words x e
  binding_of e l = let b = row_binding e l in (b.0, b.1, entry_is b.0 b.1 e l (sym b.2))

  marks_of : (e : ℕ) → e < length h.rows → mark_of (first_at words e) ≡ flag (is_mixed t.bindings (first_at words e / 4294967296)) 1
  marks_of e l = let b = row_binding e l in (entry_marked b.0 b.1 e l (sym b.2)).mark

  row_unmarked : (e : ℕ) → e < length h.rows → (row_at h.rows e).0 / 2147483648 % 2 ≡ 0
  row_unmarked e l =
      let b = row_binding e l in
      unmarked b.0 (known t h.lawful b.0 b.1) (row_at h.rows e).0 (ap (λ (r : ℕ × ℕ). r.0) (sym b.2))

  rising : (d e : ℕ) → d < e → e < length h.rows → first_at words d < first_at words e
  rising d e l m = rw (h.first d (omega (arith, l, m)), h.first e m)
      (marked_less (is_mixed t.bindings) _ _ (row_unmarked d (omega (arith, l, m))) (row_unmarked e m) (h.ascending d e l m))

  ascending : (d e : ℕ) → d ≤ e → e < length h.rows → first_at words d ≤ first_at words e
  ascending d e l m = elim (cases_lt d e) [
    | inl less ↦ (let up : first_at words d < first_at words e = rising d e less m in omega (arith, up))
    | inr more ↦ (let same : d ≡ e = omega (arith, l, more) in rw same (omega arith))
  ]

  -- a row's address is that of its entry
  top_of : (x : Binding) (e : ℕ) → e < length h.rows → IsEntry words x e → (row_at h.rows e).0 / 281474976710656 ≡ x.v4.0 / 65536
  top_of x e l entry =
      let b = row_binding e l in
      let f = fields b.0 (known t h.lawful b.0 b.1) (row_at h.rows e).0 (ap (λ (r : ℕ × ℕ). r.0) (sym b.2)) in
      let v4 : b.0.v4.0 ≡ x.v4.0 = (entry_is b.0 b.1 e l (sym b.2)).first.like.v4 ∙ sym entry.first.like.v4 in
      f.top ∙ ap (λ (a : ℕ). a / 65536) v4

  group_count : (g : ℕ) → rows_below h.rows (g + 1) ≤ rows_below h.rows g + group_size t.bindings g
  group_count g =
      let here : (ℕ × ℕ) → Bool = λ (r : ℕ × ℕ). eqb (r.0 / 281474976710656) g in
      let split : rows_below h.rows (g + 1) ≤ rows_below h.rows g + count_by here h.rows =
      count_split (λ (r : ℕ × ℕ). ltb (r.0 / 281474976710656) (g + 1)) (λ (r : ℕ × ℕ). ltb (r.0 / 281474976710656) g) here h.rows
      (λ r. split_top (r.0 / 281474976710656) g) in
      let moved : count_by here h.rows ≡ count_by here (map row t.bindings) = sum_by-IsPermutation (λ r. cond (here r) 1 0) (map row t.bindings) h.rows h.same in
      let mapped : count_by here (map row t.bindings) ≡ count_by (λ x. here (row x)) t.bindings = count_map row here t.bindings in
      let fewer : count_by (λ x. here (row x)) t.bindings ≤ group_size t.bindings g = count_weaker (λ x. here (row x)) (λ x. eqb (x.v4.0 / 65536) g) t.bindings
      (λ x m y. eq-eqb _ _ (sym (fields x (known t h.lawful x m) _ refl).top ∙ eqb-true _ _ y)) in
      omega (arith, split, moved, mapped, fewer)

  module _ (a from to : ℕ) (small : a < 4294967296) (f : from ≡ slice_index words (8 + a / 65536)) (g : to ≡ slice_index words (9 + a / 65536)) where
    from_is : from ≡ rows_below h.rows (a / 65536)
    from_is = f ∙ h.index (a / 65536) (omega arith)

    to_is : to ≡ rows_below h.rows (a / 65536 + 1)
    to_is = g ∙ ap (λ (j : ℕ). slice_index words j) (plus_one (a / 65536)) ∙ h.index (a / 65536 + 1) (omega arith)
      where
        plus_one : (n : ℕ) → 9 + n ≡ 8 + (n + 1)
        plus_one n = omega arith

    to_within : to ≤ length h.rows
    to_within = rw to_is (few_below h.rows rows_ascend (a / 65536 + 1))

    from_to : from ≤ to
    from_to = rw (from_is, to_is) (count_weaker (λ (r : ℕ × ℕ). ltb (r.0 / 281474976710656) (a / 65536)) (λ (r : ℕ × ℕ). ltb (r.0 / 281474976710656) (a / 65536 + 1)) h.rows
        (λ r m y. lt-ltb _ _ (let s : r.0 / 281474976710656 < a / 65536 = ltb-true _ _ y in omega arith)))

    pub span_is : IsEntryRange words from to
    span_is = record {
      ordered = from_to;
      few = omega (arith, to_within, row_count);
      within = omega (arith, to_within, h.size);
      ascending = λ d e l m. ascending d e l (omega (arith, to_within, m));
      rising = λ d e l m. rising d e l (omega (arith, to_within, m));
      shapes = λ e l.
          let b = binding_of e (omega (arith, to_within)) in
          let like = b.2.first.like in
          rw (← like.offset, ← like.length) (known t h.lawful b.0 b.1).shape;
    }

    pub group_is : IsIndexGroup t words a from to
    group_is = record {
      members = λ x m same.
          let c = entry_of x m in
          let e = c.0 in
          let top_here : (row_at h.rows e).0 / 281474976710656 ≡ a / 65536 = top_of x e c.1 c.2 ∙ ap (λ (n : ℕ). n / 65536) same in
          (e, from_on e c.1 top_here, up_to e c.1 top_here, c.2);
      entries = λ e l m. binding_of e (omega (arith, to_within));
      marks = λ e l m. marks_of e (omega (arith, to_within, m));
      size = small_size;
    }
      where
        from_on : (e : ℕ) → e < length h.rows → (row_at h.rows e).0 / 281474976710656 ≡ a / 65536 → from ≤ e
        from_on e l top_here = elim (cases_lt e from) [
          | inl less ↦ absurd (let s : (row_at h.rows e).0 / 281474976710656 < a / 65536 = below_at h.rows rows_ascend (a / 65536) e l (omega (arith, less, from_is)) in omega (arith, s, top_here))
          | inr more ↦ more
        ]

        up_to : (e : ℕ) → e < length h.rows → (row_at h.rows e).0 / 281474976710656 ≡ a / 65536 → e < to
        up_to e l top_here = elim (cases_lt e to) [
          | inl less ↦ less
          | inr more ↦ absurd (let s : a / 65536 + 1 ≤ (row_at h.rows e).0 / 281474976710656 = above_at h.rows rows_ascend (a / 65536 + 1) e l (omega (arith, more, to_is)) in omega (arith, s, top_here))
        ]

        small_size : to - from < 2 ^ group_digits t.bindings
        small_size = elim (cases_lt from to) [
          | inr none ↦ (let p : 0 < 2 ^ group_digits t.bindings = pow_pos (group_digits t.bindings) in omega (arith, none, p))
          | inl some ↦
              (let inside : from < length h.rows = omega (arith, to_within, some) in
              let b = binding_of from inside in
              let x = b.0 in
              let top_x : (row_at h.rows from).0 / 281474976710656 ≡ x.v4.0 / 65536 = top_of x from inside b.2 in
              let low : a / 65536 ≤ (row_at h.rows from).0 / 281474976710656 = above_at h.rows rows_ascend (a / 65536) from inside (omega (arith, from_is)) in
              let high : (row_at h.rows from).0 / 281474976710656 < a / 65536 + 1 = below_at h.rows rows_ascend (a / 65536 + 1) from inside (omega (arith, some, to_is)) in
              let same : x.v4.0 / 65536 ≡ a / 65536 = omega (arith, top_x, low, high) in
              let count : rows_below h.rows (a / 65536 + 1) ≤ rows_below h.rows (a / 65536) + group_size t.bindings (a / 65536) = group_count (a / 65536) in
              let here : group_size t.bindings (x.v4.0 / 65536) ≡ group_size t.bindings (a / 65536) = ap (group_size t.bindings) same in
              let most : group_size t.bindings (x.v4.0 / 65536) ≤ greatest (λ b. group_size t.bindings (b.v4.0 / 65536)) t.bindings =
              le_greatest (λ b. group_size t.bindings (b.v4.0 / 65536)) t.bindings x b.1 in
              let digits : greatest (λ b. group_size t.bindings (b.v4.0 / 65536)) t.bindings < 2 ^ group_digits t.bindings =
              below_digits (greatest (λ b. group_size t.bindings (b.v4.0 / 65536)) t.bindings) in
              omega (arith, from_is, to_is, count, here, most, digits))
        ]
