-- The words at the beginning show the machine's opening.
use Rattle.std.proofs.Common.{◌≡◌, ℕ, zero, suc, ◌+◌, ◌-◌, ◌<◌, ◌≤◌, List, [], ◌∷◌, ◌++◌, length, take, replicate, slice_index, slice_index_or, get_or, subst, sym, refl, ap, ◌∙◌, arith, length-append, append_assoc}
use mathlib.Core.Option.{some, some-injective, some-ne-none}
use lib.ListN.{get_elem?}
use Rattle.std.proofs.lemmas.List.{take_all, length-replicate, get_or-append-add}
use Rattle.atomic_table.specs.Table as states
use Rattle.swap_core.specs.Plans.{Tables, IsPlan, table, width}
use Rattle.swap_core.specs.States.{opening}
use Rattle.swap_core.proofs.Laws.{opening_sound}
use Rattle.swap_core.proofs.Laws.{table_fits}
use Rattle.area_swap.specs.declared.board.View.{View}
use Rattle.area_swap.specs.Places.{all_places, claims_place, gap, row_place, version_place}
use Rattle.area_swap.specs.Views.{first_view, now_of}
use Rattle.area_swap.specs.Rule.{Ruled, IsLawfulView, Laid}
use Rattle.area_swap.proofs.Packing.{up_to}

-- the words at the beginning: the first row's are those of the first table, and all others are 0
abbrev pub first_words : Tables → List ℕ
first_words p =
    (replicate (row_place (width p) 0) 0 ++ table p 0)
    ++ replicate (all_places (width p) - length (replicate (row_place (width p) 0) 0 ++ table p 0)) 0

zeros_at : (n j : ℕ) → let none : ℕ = 0 in get_or (replicate n none) j none ≡ none
zeros_at zero j = refl
zeros_at (suc n) zero = refl
zeros_at (suc n) (suc j) = zeros_at n j

-- past the first row's words there are zeros
row_zero : (t : List ℕ) (m n j : ℕ) → slice_index (t ++ replicate m 0) j ≡ slice_index (t ++ replicate n 0) j
row_zero [] m n j = zeros_at m j ∙ sym (zeros_at n j)
row_zero (x ∷ t) m n zero = refl
row_zero (x ∷ t) m n (suc j) = row_zero t m n j

past : (t : List ℕ) (m j : ℕ) → length t ≤ j → slice_index (t ++ replicate m 0) j ≡ 0
past [] m j l = zeros_at m j
past (x ∷ t) m zero l = absurd (omega arith)
past (x ∷ t) m (suc j) l = past t m j (omega arith)

-- before it there are zeros too
before : (n i : ℕ) (rest : List ℕ) → i < n → slice_index (replicate n 0 ++ rest) i ≡ 0
before zero i rest l = absurd (omega arith)
before (suc n) zero rest l = refl
before (suc n) (suc i) rest l = before n i rest (omega arith)

behind : (n i : ℕ) (rest : List ℕ) → slice_index (replicate n 0 ++ rest) (n + i) ≡ slice_index rest i
behind n i rest =
    ap (λ (k : ℕ). slice_index (replicate n 0 ++ rest) (k + i)) (sym (length-replicate {A = ℕ} n 0))
    ∙ get_or-append-add (replicate n 0) rest i 0

module _ (p : Tables) (plan : IsPlan p) where
  laid : (n m : ℕ) → n ≡ row_place (width p) 0 → n + length (table p 0) + m ≡ all_places (width p)
      → Laid (replicate n 0 ++ (table p 0 ++ replicate m 0)) (width p) (now_of (opening p 1)) (opening p 1).counts (opening p 1).areas
  laid n m front all =
      record {
        size = size;
        first = before n version_place (table p 0 ++ replicate m 0) (omega arith);
        claims = claims;
        rows = rows;
      }
    where
      size : length (replicate n 0 ++ (table p 0 ++ replicate m 0)) ≡ all_places (width p)
      size =
          omega (arith, length-append (replicate n 0) (table p 0 ++ replicate m 0), length-append (table p 0) (replicate m 0), length-replicate {A = ℕ} n 0, length-replicate {A = ℕ} m 0)

      claims : (a : ℕ) → a < 2
          → slice_index (replicate n 0 ++ (table p 0 ++ replicate m 0)) (claims_place a) ≡ slice_index (0 ∷ 0 ∷ []) a
      claims zero l = before n (claims_place 0) (table p 0 ++ replicate m 0) (omega arith)
      claims (suc zero) l = before n (claims_place 1) (table p 0 ++ replicate m 0) (omega arith)
      claims (suc (suc a)) l = absurd (omega arith)

      rows : (a j : ℕ) → a < 2 → j < width p
          → slice_index (replicate n 0 ++ (table p 0 ++ replicate m 0)) (row_place (width p) a + j) ≡ slice_index (slice_index_or (opening p 1).areas a []) j
      rows zero j l k =
          let here : row_place (width p) 0 + j ≡ n + j = omega arith in
          ap (λ (i : ℕ). slice_index (replicate n 0 ++ (table p 0 ++ replicate m 0)) i) here
          ∙ behind n j (table p 0 ++ replicate m 0) ∙ row_zero (table p 0) m (width p - length (table p 0)) j
      rows (suc zero) j l k =
          let here : row_place (width p) 1 + j ≡ n + (width p + gap + j) = omega arith in
          let fits : length (table p 0) ≤ width p = table_fits p 0 in
          ap (λ (i : ℕ). slice_index (replicate n 0 ++ (table p 0 ++ replicate m 0)) i) here
          ∙ behind n (width p + gap + j) (table p 0 ++ replicate m 0)
          ∙ past (table p 0) m (width p + gap + j) (omega arith) ∙ sym (zeros_at (width p) j)
      rows (suc (suc a)) j l k = absurd (omega arith)

  first_only : (i : ℕ) (v : View) → get_elem? (first_view p ∷ []) i ≡ some v → (i ≡ 0) × (first_view p ≡ v)
  first_only zero v e = (refl, some-injective (first_view p) v e)
  first_only (suc i) v e = absurd (some-ne-none v (sym e))

  pub opens : (words : List ℕ) → words ≡ first_words p → Ruled p (states.opening words [] (first_view p))
  opens words e =
      record {
        core = opening p 1;
        sound = opening_sound p 1 plan;
        same_plan = refl;
        words = shown;
        actors = refl;
        desk =
            record {
              seat = 0;
              view = first_view p;
              sits = refl;
              has = refl;
              alone = λ i v at has. (first_only i v at).0;
              same_state = refl;
              same_points = refl;
            };
        shares = refl;
        rights = refl;
        each = each;
      }
    where
      shown : Laid words (width p) (now_of (opening p 1)) (opening p 1).counts (opening p 1).areas
      shown =
          let P : List ℕ → Type 0 = λ ws. Laid ws (width p) (now_of (opening p 1)) (opening p 1).counts (opening p 1).areas in
          let long : length (replicate (row_place (width p) 0) 0 ++ table p 0) ≡ row_place (width p) 0 + length (table p 0) =
          simp (length-append, length-replicate) in
          subst P (sym (e ∙ append_assoc (replicate (row_place (width p) 0) 0) (table p 0) (replicate (all_places (width p) - length (replicate (row_place (width p) 0) 0 ++ table p 0)) 0)))
          (laid (row_place (width p) 0) (all_places (width p) - length (replicate (row_place (width p) 0) 0 ++ table p 0)) refl
          (omega (arith, table_fits p 0)))

      each : (i : ℕ) (v : View) → get_elem? (first_view p ∷ []) i ≡ some v → IsLawfulView p (now_of (opening p 1)) v
      each i v at =
          let P : View → Type 0 = λ u. IsLawfulView p (now_of (opening p 1)) u in
          subst P (first_only i v at).1
          (record { same_plan = λ _. refl; unshared = λ e. absurd (omega arith); rightless = λ e. absurd (omega arith); undrawn = λ _. refl; seen = up_to (now_of (opening p 1)); prior = up_to (now_of (opening p 1)) })

-- so the words are made
pub filled : (p : Tables) (w0 w1 w2 w3 t : List ℕ) (front count n0 n2 : ℕ) → w0 ≡ [] → n0 ≡ 0 → front ≡ row_place (width p) 0
    → w1 ≡ take front w0 ++ replicate (front - n0) 0 → t ≡ table p 0 → w2 ≡ w1 ++ t → n2 ≡ length w2 → count ≡ all_places (width p)
    → w3 ≡ take count w2 ++ replicate (count - n2) 0 → w3 ≡ first_words p
filled p w0 w1 w2 w3 t front count n0 n2 e0 z0 ef e1 et e2 z2 ec e3 =
    let empty : take front w0 ≡ [] = ap (λ (l : List ℕ). take front l) e0 ∙ take_all front [] (omega arith) in
    let zeros : w1 ≡ replicate front 0 =
    e1 ∙ ap (λ (l : List ℕ). l ++ replicate (front - n0) 0) empty ∙ ap (λ (n : ℕ). replicate (front - n) 0) z0
    ∙ ap (λ (n : ℕ). replicate n 0) (let same : front - 0 ≡ front = omega arith in same) in
    let both : w2 ≡ replicate (row_place (width p) 0) 0 ++ table p 0 =
    e2 ∙ ap (λ (l : List ℕ). l ++ t) zeros ∙ ap (λ (n : ℕ). replicate n 0 ++ t) ef
    ∙ ap (λ (l : List ℕ). replicate (row_place (width p) 0) 0 ++ l) et in
    let len : length (replicate (row_place (width p) 0) 0 ++ table p 0) ≡ row_place (width p) 0 + length (table p 0) =
    simp (length-append, length-replicate) in
    let within : length (replicate (row_place (width p) 0) 0 ++ table p 0) ≤ all_places (width p) = omega (arith, table_fits p 0) in
    let all : take (all_places (width p)) (replicate (row_place (width p) 0) 0 ++ table p 0) ≡ replicate (row_place (width p) 0) 0 ++ table p 0 =
    take_all (all_places (width p)) (replicate (row_place (width p) 0) 0 ++ table p 0) within in
    e3 ∙ ap (λ (n : ℕ). take n w2 ++ replicate (n - n2) 0) ec
    ∙ ap (λ (n : ℕ). take (all_places (width p)) w2 ++ replicate (all_places (width p) - n) 0) z2
    ∙ ap (λ (l : List ℕ). take (all_places (width p)) l ++ replicate (all_places (width p) - length l) 0) both
    ∙ ap (λ (l : List ℕ). l ++ replicate (all_places (width p) - length (replicate (row_place (width p) 0) 0 ++ table p 0)) 0) all
