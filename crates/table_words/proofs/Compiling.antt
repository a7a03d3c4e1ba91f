-- The parts of the words, put together.
use Rattle.std.proofs.Common.{◌≡◌, ℕ, zero, suc, ◌+◌, ◌-◌, ◌*◌, ◌/◌, ◌%◌, ◌^◌, ◌<◌, ◌≤◌, ◌≢◌, min, Bool, true, false, not, cond, eqb, List, [], ◌∷◌, ◌++◌, length, get_or, take, drop, map, Contains, refl, sym, ap, ◌∙◌, inl, inr, arith, append-nil, append_assoc}
use Rattle.std.specs.Prelude.{slice_index}
use Rattle.std.specs.List.{count_by, range_with_len}
use Rattle.std.specs.List.Sorted.{IsPermutation, IsSorted}
use Rattle.std.specs.Ordering.{nat_cmp, is_lt, ordering_then}
use Rattle.std.proofs.Math.Nat.{mul-le-mul_right}
use Rattle.std.proofs.Math.Pow.{pow_mono}
use Rattle.std.proofs.lemmas.Nat.{pow_pos, shl-shr}
use Rattle.std.proofs.lemmas.Bool.{cases_lt, cases_eq, lt-ltb, eqb-true, eq-eqb, ne_eqb, and_from, true≢false}
use Rattle.std.proofs.lemmas.List.{length-append, length-take, take-append-drop, drop-drop, get_or-take, get_or-drop, get_or_append_left, get_or-append-add, get_or-append_right}
use Rattle.std.proofs.lemmas.List.Elements.{Contains-get_or}
use Rattle.std.proofs.lemmas.List.FromFn.{length-map-range_with_len, get_or-map-range_with_len, map-range_with_len_more}
use Rattle.std.proofs.lemmas.List.Sorted.{IsNonDecreasingBy-from_all_adjacent, IsPermutation-sym, Contains-permutation, sum_by-IsPermutation}
use Rattle.std.proofs.lemmas.List.Sums.{length-filter}
use Rattle.port_set.specs.PortSets.{in_set}
use Rattle.port_set.specs.Shapes.{IsShape}
use Rattle.port_set.proofs.Laws.{in_set_at, counts_from, tail_split}
use Rattle.binding_rules.specs.Bindings.{is_bound, bound}
use Rattle.binding_rules.specs.Tables.{BindingTable, IsValid, IsLawful}
use Rattle.binding_rules.specs.declared.binding.Binding.{Binding}
use Rattle.binding_rules.specs.declared.binding.Want.TheVariants as want
use Rattle.table_words.specs.Layout.{IsCompiled, IsRanged, flag, is_mixed, marked, row, row_at, rows_below}
use Rattle.table_words.specs.Parts.{IsAscending, IsEndOfAddress, TellsMixed, settings_words, index_words, entry_words}
use Rattle.table_words.proofs.Counts.{count_two, count_map, count_weaker}
use Rattle.table_words.proofs.Groups.{fields}
use Rattle.table_words.proofs.Members.{contains_from_map, IsKnown, known}

-- the index
pub index_none : (rows : List (ℕ × ℕ)) (old : List ℕ) → old ≡ old ++ index_words rows 0
unfolding index_words
index_none rows old = sym (append-nil old)

pub index_more : (rows : List (ℕ × ℕ)) (h : ℕ) (old before : List ℕ) (c : ℕ) → before ≡ old ++ index_words rows h
    → rows_below rows h ≡ c → before ++ c ∷ [] ≡ old ++ index_words rows (h + 1)
unfolding index_words
index_more rows h old before c e f =
    ap (λ (xs : List ℕ). xs ++ c ∷ []) e ∙ append_assoc old (map (rows_below rows) (range_with_len 0 h)) (c ∷ [])
    ∙ ap (λ (xs : List ℕ). old ++ xs) (ap (λ (n : ℕ). map (rows_below rows) (range_with_len 0 h) ++ n ∷ []) (sym f)
    ∙ sym (map-range_with_len_more (rows_below rows) 0 h h (omega arith)))

index_length : (rows : List (ℕ × ℕ)) (n : ℕ) → length (index_words rows n) ≡ n
unfolding index_words
index_length rows n = length-map-range_with_len (rows_below rows) 0 n

index_at : (rows : List (ℕ × ℕ)) (n h : ℕ) → h < n → get_or (index_words rows n) h 0 ≡ rows_below rows h
unfolding index_words
index_at rows n h l = get_or-map-range_with_len (rows_below rows) 0 n h h 0 l (omega arith)

-- the entries
module _ (mixed : ℕ → Bool) where
  entry_length : (rows : List (ℕ × ℕ)) → length (entry_words mixed rows) ≡ 3 * length rows
  entry_length [] = refl
  entry_length (r ∷ rows) = omega (arith, entry_length rows)

  pub record HasEntry (rows : List (ℕ × ℕ)) (e : ℕ) : Type 0 where
    pub first : get_or (entry_words mixed rows) (3 * e) 0 ≡ marked mixed (row_at rows e).0
    pub high : get_or (entry_words mixed rows) (3 * e + 1) 0 ≡ (row_at rows e).1 / 18446744073709551616
    pub low : get_or (entry_words mixed rows) (3 * e + 2) 0 ≡ (row_at rows e).1 % 18446744073709551616

  has_entry : (rows : List (ℕ × ℕ)) (e : ℕ) → e < length rows → HasEntry rows e
  has_entry [] e l = absurd (omega arith)
  has_entry (r ∷ rows) zero l = record { first = refl; high = refl; low = refl }
  has_entry (r ∷ rows) (suc e) l =
      let h = has_entry rows e (omega arith) in
      record {
        first = ap (λ (j : ℕ). get_or (entry_words mixed (r ∷ rows)) j 0) (three_more_0 e) ∙ h.first;
        high = ap (λ (j : ℕ). get_or (entry_words mixed (r ∷ rows)) j 0) (three_more e 1) ∙ h.high;
        low = ap (λ (j : ℕ). get_or (entry_words mixed (r ∷ rows)) j 0) (three_more e 2) ∙ h.low;
      }
    where
      three_more : (e k : ℕ) → 3 * suc e + k ≡ suc (suc (suc (3 * e + k)))
      three_more e k = omega arith

      three_more_0 : (e : ℕ) → 3 * suc e ≡ suc (suc (suc (3 * e)))
      three_more_0 e = omega arith

  pub entries_joined : (rows more : List (ℕ × ℕ)) → entry_words mixed (rows ++ more) ≡ entry_words mixed rows ++ entry_words mixed more
  entries_joined [] more = refl
  entries_joined (r ∷ rows) more =
      ap (λ ws. marked mixed r.0 ∷ r.1 / 18446744073709551616 ∷ r.1 % 18446744073709551616 ∷ ws) (entries_joined rows more)

  -- rows of one address have one mark
  pub entries_of_address : (b : Bool) (a : ℕ) → mixed a ≡ b → (rows : List (ℕ × ℕ)) → ((e : ℕ) → e < length rows → (row_at rows e).0 / 4294967296 ≡ a)
      → entry_words (λ _. b) rows ≡ entry_words mixed rows
  entries_of_address b a is [] h = refl
  entries_of_address b a is (r ∷ rows) h =
      let mark : b ≡ mixed (r.0 / 4294967296) = sym is ∙ ap mixed (sym (h 0 (omega arith))) in
      let rest = entries_of_address b a is rows (λ e l. h (suc e) (omega arith)) in
      ap (λ c. (r.0 + flag c 2147483648) ∷ r.1 / 18446744073709551616 ∷ r.1 % 18446744073709551616 ∷ entry_words (λ _. b) rows) mark
      ∙ ap (λ ws. marked mixed r.0 ∷ r.1 / 18446744073709551616 ∷ r.1 % 18446744073709551616 ∷ ws) rest

-- the order of the rows
not_less : (a b c d : ℕ) → is_lt (ordering_then (nat_cmp a b) (nat_cmp c d)) ≡ false → b ≤ a
not_less a b c d h = elim (cases_lt a b) [
  | inl less ↦ absurd (true≢false (rw (lt-ltb a b less) at h))
  | inr more ↦ more
]

pub sorted_ascends : (rows : List (ℕ × ℕ)) → IsSorted (λ x y. ordering_then (nat_cmp x.0 y.0) (nat_cmp x.1 y.1)) rows → IsAscending rows
sorted_ascends rows s d e l m =
    IsNonDecreasingBy-from_all_adjacent (λ (r : ℕ × ℕ). r.0) rows
    (λ k z n. not_less (get_or rows (k + 1) z).0 (get_or rows k z).0 (get_or rows (k + 1) z).1 (get_or rows k z).1 (s k z (omega arith) n)) d e (0, 0) l m

pub not_eq_true : (n m : ℕ) → not (eqb n m) ≡ true → n ≢ m
not_eq_true n m h e = true≢false (sym h ∙ ap not (eq-eqb n m e))

pub not_eq_false : (n m : ℕ) → not (eqb n m) ≡ false → n ≡ m
not_eq_false n m h = elim (cases_eq n m) [
  | inl same ↦ same
  | inr other ↦ absurd (true≢false (sym (ap not (ne_eqb n m other)) ∙ h))
]

-- the rows of an address
module _ (rows : List (ℕ × ℕ)) (up : IsAscending rows) (mixed : ℕ → Bool) (tells : TellsMixed rows mixed) (from to : ℕ) (end : IsEndOfAddress rows from to)
    (start : (e : ℕ) → e < from → (row_at rows e).0 / 4294967296 < (row_at rows from).0 / 4294967296) where
  inside : (e : ℕ) → e < length rows → (row_at rows e).0 / 4294967296 ≡ (row_at rows from).0 / 4294967296 → (from ≤ e) × (e < to)
  inside e l same = (
    elim (cases_lt e from) [ inl less ↦ absurd (omega (arith, start e less, same)) | inr more ↦ more ],
    elim (cases_lt e to) [ inl less ↦ less | inr more ↦ absurd (omega (arith, end.above e more l, same)) ],
  )

  pub mixed_if : (b : Bool) → ((b ≡ true) → (row_at rows from).0 / 65536 ≢ (row_at rows (to - 1)).0 / 65536)
      → ((b ≡ false) → (row_at rows from).0 / 65536 ≡ (row_at rows (to - 1)).0 / 65536) → mixed ((row_at rows from).0 / 4294967296) ≡ b
  mixed_if true unlike alike = tells.two _ (record {
    d = from;
    e = to - 1;
    d_within = omega (arith, end.some, end.within);
    e_within = omega (arith, end.some, end.within);
    d_address = refl;
    e_address = end.same (to - 1) (omega (arith, end.some)) (omega (arith, end.some));
    shapes = unlike refl;
  })
  mixed_if false unlike alike = tells.one _ (λ d e l m same_d same_e.
      let a = inside d l same_d in
      let b = inside e m same_e in
      omega (
        arith,
        alike refl,
        up from d a.0 l,
        up from e b.0 m,
        up d (to - 1) (omega (arith, a.1)) (omega (arith, end.some, end.within)),
        up e (to - 1) (omega (arith, b.1)) (omega (arith, end.some, end.within)),
      ))

  -- what is put of them
  pub put_more : (old words new : List ℕ) (b : Bool) (part : List (ℕ × ℕ)) → mixed ((row_at rows from).0 / 4294967296) ≡ b
      → part ≡ take (to - from) (drop from rows) → words ++ entry_words mixed (drop from rows) ≡ old → new ≡ words ++ entry_words (λ _. b) part
      → new ++ entry_words mixed (drop to rows) ≡ old
  put_more old words new b part is part_is before put =
      let here : entry_words (λ _. b) part ≡ entry_words mixed part =
      entries_of_address mixed b ((row_at rows from).0 / 4294967296) is part (λ e l.
      let size : e < to - from = omega (arith, l, ap length part_is, length-take (to - from) (drop from rows)) in
      ap (λ (r : ℕ × ℕ). r.0 / 4294967296) (ap (λ (p : List (ℕ × ℕ)). row_at p e) part_is ∙ get_or-take (to - from) (drop from rows) e (0, 0) size
      ∙ get_or-drop from rows e (0, 0)) ∙ end.same (from + e) (omega arith) (omega (arith, size))) in
      let rest : drop (to - from) (drop from rows) ≡ drop to rows = drop-drop (to - from) from rows ∙ ap (λ (n : ℕ). drop n rows) (sum from to end.some) in
      let whole : part ++ drop to rows ≡ drop from rows = ap (λ p. p ++ drop to rows) part_is ∙ ap (λ p. take (to - from) (drop from rows) ++ p) (sym rest)
      ∙ take-append-drop (to - from) (drop from rows) in
      ap (λ ws. ws ++ entry_words mixed (drop to rows)) (put ∙ ap (λ ws. words ++ ws) here)
      ∙ append_assoc words (entry_words mixed part) (entry_words mixed (drop to rows))
      ∙ ap (λ ws. words ++ ws) (sym (entries_joined mixed part (drop to rows)) ∙ ap (entry_words mixed) whole) ∙ before
    where
      sum : (from to : ℕ) → from < to → from + (to - from) ≡ to
      sum from to l = omega (arith, l)

-- the first port of a set
record HasPort (x : Binding) : Type 0 where
  port : ℕ
  is_port : port < 65536
  owned : in_set x.offset x.length x.psid port ≡ true

port_below : (a k s : ℕ) → IsShape a k → s * 2 ^ (16 - a - k) < 2 ^ (16 - a) → min a 1 * 2 ^ (16 - a) + s * 2 ^ (16 - a - k) < 65536
port_below a k s h l = elim (cases_eq a 0) [
  | inl none ↦ (let p : 2 ^ (16 - a) ≡ 65536 = ap (λ (n : ℕ). 2 ^ (16 - n)) none in
      let z : min a 1 ≡ 0 = omega arith in rw z (omega (arith, p, l)))
  | inr some ↦ (let e : 16 - a ≤ 15 = omega arith in
      let p : 2 ^ (16 - a) ≤ 2 ^ 15 = pow_mono e in
      let o : min a 1 ≡ 1 = omega arith in rw o (omega (arith, p, l)))
]

has_port : (x : Binding) → IsKnown x → HasPort x
has_port x k =
    let a : ℕ = x.offset in
    let s : ℕ = x.psid in
    let m : ℕ = 16 - x.offset - x.length in
    let inside : s * 2 ^ m < 2 ^ (16 - a) = rw (tail_split x.offset x.length k.shape)
    (mul-lt-right s (2 ^ x.length) (2 ^ m) k.psid_fits (pow_pos m)) in
    let at = in_set_at x.offset x.length x.psid k.shape (min a 1) (s * 2 ^ m) inside in
    record {
      port = min a 1 * 2 ^ (16 - a) + s * 2 ^ m;
      is_port = port_below x.offset x.length x.psid k.shape inside;
      owned = at ∙ and_from _ _ (eq-eqb _ _ (shl-shr s m)) (counts_from a (min a 1) (omega arith));
    }
  where
    mul-lt-right : (b c n : ℕ) → b < c → 0 < n → b * n < c * n
    mul-lt-right b c n l p = let e : suc b * n ≤ c * n = mul-le-mul_right n l in omega (arith, e, one_more b n, p)
      where
        one_more : (b n : ℕ) → suc b * n ≡ b * n + n
        one_more b n = omega arith

-- at most one row of a valid table has a first word
module _ (t : BindingTable) (h : IsLawful t) where
  same_fields : (x y : Binding) → IsKnown x → IsKnown y → (row y).0 ≡ (row x).0 → (p : ℕ) → p < 65536
      → in_set x.offset x.length x.psid p ≡ true → is_bound x.v4 (want.Port p) y ≡ true
  same_fields x y k m e p l o =
      let f = fields x k (row x).0 refl in
      let g = fields y m (row x).0 (sym e) in
      let v4 : y.v4.0 ≡ x.v4.0 = sym g.v4 ∙ f.v4 in
      let offset : y.offset ≡ x.offset = sym g.offset ∙ f.offset in
      let size : y.length ≡ x.length = sym g.length ∙ f.length in
      let psid : y.psid ≡ x.psid = sym g.psid ∙ f.psid in
      and_from _ _ (eq-eqb _ _ v4) (and_from _ _ (lt-ltb _ _ l) (rw (offset, size, psid) o))

  one_row : (x : Binding) → Contains t.bindings x → count_by (λ (r : ℕ × ℕ). eqb r.0 (row x).0) (map row t.bindings) ≤ 1
  one_row x m =
      let k = known t h x m in
      let p = has_port x k in
      let mapped = count_map row (λ (r : ℕ × ℕ). eqb r.0 (row x).0) t.bindings in
      let fewer : count_by (λ y. eqb (row y).0 (row x).0) t.bindings ≤ count_by (is_bound x.v4 (want.Port p.port)) t.bindings =
      count_weaker _ _ t.bindings (λ y n e. same_fields x y k (known t h y n) (eqb-true _ _ e) p.port p.is_port p.owned) in
      let counted : length (bound t.bindings x.v4 (want.Port p.port)) ≡ count_by (is_bound x.v4 (want.Port p.port)) t.bindings =
      length-filter (is_bound x.v4 (want.Port p.port)) t.bindings in
      omega (arith, mapped, fewer, counted, h.at_most_one x.v4 (want.Port p.port))

  module _ (rows : List (ℕ × ℕ)) (same : IsPermutation (map row t.bindings) rows) (up : IsAscending rows) where
    rises : (d e : ℕ) → d < e → e < length rows → (row_at rows d).0 < (row_at rows e).0
    rises d e l m = elim (cases_lt (row_at rows d).0 (row_at rows e).0) [
      | inl less ↦ less
      | inr more ↦ absurd (
          let equal : (row_at rows e).0 ≡ (row_at rows d).0 = omega (arith, more, up d e (omega arith) m) in
          let c = Contains-permutation rows (map row t.bindings) (row_at rows d) (IsPermutation-sym _ _ same) (Contains-get_or rows d (0, 0) (omega arith)) in
          let b = contains_from_map row t.bindings (row_at rows d) c in
          let here : (row_at rows d).0 ≡ (row b.0).0 = ap (λ (r : ℕ × ℕ). r.0) (sym b.2) in
          let test : (ℕ × ℕ) → Bool = λ (r : ℕ × ℕ). eqb r.0 (row b.0).0 in
          let two : 2 ≤ count_by test rows = count_two test rows (0, 0) d e l m (eq-eqb _ _ here) (eq-eqb _ _ (equal ∙ here)) in
          let moved : count_by test rows ≡ count_by test (map row t.bindings) = sum_by-IsPermutation (λ r. cond (test r) 1 0) (map row t.bindings) rows same in
          omega (arith, two, moved, one_row b.0 b.1))
    ]

    pub compiled_is : IsValid t → IsRanged t.softwire → (words : List ℕ)
        → words ≡ settings_words t.softwire (length rows) ++ (index_words rows 65537 ++ entry_words (is_mixed t.bindings) rows) → IsCompiled t words
    compiled_is valid ranged words e = record {
      valid = valid;
      lawful = h;
      ranged = ranged;
      rows = rows;
      same = same;
      ascending = rises;
      size = ap length e ∙ total;
      count = ap (λ (ws : List ℕ). slice_index ws 0) e;
      aftr_high = ap (λ (ws : List ℕ). slice_index ws 1) e;
      aftr_low = ap (λ (ws : List ℕ). slice_index ws 2) e;
      own = ap (λ (ws : List ℕ). slice_index ws 3) e;
      sizes = ap (λ (ws : List ℕ). slice_index ws 4) e;
      spare = λ j l m. ap (λ (ws : List ℕ). slice_index ws j) e ∙ spares j l m;
      index = λ g l. ap (λ (ws : List ℕ). slice_index ws (8 + g)) e ∙ indexed g l;
      first = λ d l. ap (λ (ws : List ℕ). slice_index ws (65545 + 3 * d)) e
          ∙ at_entry (65545 + 3 * d) (3 * d) (omega arith) ∙ (has_entry (is_mixed t.bindings) rows d l).first;
      b4_high = λ d l. ap (λ (ws : List ℕ). slice_index ws (65546 + 3 * d)) e
          ∙ at_entry (65546 + 3 * d) (3 * d + 1) (omega arith) ∙ (has_entry (is_mixed t.bindings) rows d l).high;
      b4_low = λ d l. ap (λ (ws : List ℕ). slice_index ws (65547 + 3 * d)) e
          ∙ at_entry (65547 + 3 * d) (3 * d + 2) (omega arith) ∙ (has_entry (is_mixed t.bindings) rows d l).low;
    }
      where
        total : length (settings_words t.softwire (length rows) ++ (index_words rows 65537 ++ entry_words (is_mixed t.bindings) rows)) ≡ 65545 + 3 * length rows
        total = omega (
          arith,
          length-append (index_words rows 65537) (entry_words (is_mixed t.bindings) rows),
          index_length rows 65537,
          entry_length
              (is_mixed t.bindings) rows,
        )

        spares : (j : ℕ) → 5 ≤ j → j < 8 → slice_index (settings_words t.softwire (length rows) ++
            (index_words rows 65537 ++ entry_words (is_mixed t.bindings) rows)) j ≡ 0
        spares j l m = elim (cases_eq j 5) [
          | inl five ↦ rw five refl
          | inr not_five ↦ elim (cases_eq j 6) [
            | inl six ↦ rw six refl
            | inr not_six ↦ (let seven : j ≡ 7 = omega arith in rw seven refl)
          ]
        ]

        indexed : (g : ℕ) → g ≤ 65536 → slice_index (settings_words t.softwire (length rows) ++
            (index_words rows 65537 ++ entry_words (is_mixed t.bindings) rows)) (8 + g) ≡ rows_below rows g
        indexed g l =
            get_or-append-add (settings_words t.softwire (length rows)) (index_words rows 65537 ++ entry_words (is_mixed t.bindings) rows) g 0
            ∙ get_or_append_left (index_words rows 65537) (entry_words (is_mixed t.bindings) rows) 0 g (omega (arith, index_length rows 65537))
            ∙ index_at rows 65537 g (omega arith)

        at_entry : (j k : ℕ) → j ≡ 8 + (65537 + k) → slice_index
            (settings_words t.softwire (length rows) ++ (index_words rows 65537 ++ entry_words (is_mixed t.bindings) rows)) j ≡ get_or
            (entry_words (is_mixed t.bindings) rows) k 0
        at_entry j k f =
            ap (λ (i : ℕ). slice_index (settings_words t.softwire (length rows) ++ (index_words rows 65537 ++ entry_words (is_mixed t.bindings) rows)) i) f
            ∙ get_or-append-add (settings_words t.softwire (length rows)) (index_words rows 65537 ++ entry_words (is_mixed t.bindings) rows) (65537 + k) 0
            ∙ get_or-append_right (index_words rows 65537) (entry_words (is_mixed t.bindings) rows) 65537 (65537 + k) 0 (index_length rows 65537) (omega arith)
            ∙ ap (λ (i : ℕ). get_or (entry_words (is_mixed t.bindings) rows) i 0) (back k)
          where
            back : (k : ℕ) → 65537 + k - 65537 ≡ k
            back k = omega arith

pub words_are : (r p q o s x y : List ℕ) → r ≡ p ++ y → p ≡ q ++ x → q ≡ o ++ s → o ≡ [] → r ≡ s ++ (x ++ y)
words_are r p q o s x y e f g h =
    e ∙ ap (λ (l : List ℕ). l ++ y) (f ∙ ap (λ (l : List ℕ). l ++ x) (g ∙ ap (λ (l : List ℕ). l ++ s) h)) ∙ append_assoc s x y
