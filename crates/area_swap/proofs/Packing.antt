-- The version word and its halves, and the words after a store.
use Rattle.std.proofs.Common.{◌≡◌, ℕ, ◌+◌, ◌/◌, ◌%◌, ◌<◌, List, [], length, set, slice_index, slice_index_or, sym, refl, ap, ◌∙◌, arith, inl, inr, length-set, get_or-set_same, get_or-set_other}
use Rattle.std.proofs.lemmas.Bool.{cases_eq}
use Rattle.area_swap.specs.declared.answers.Seen.{Seen}
use Rattle.area_swap.specs.Views.{packed, unpacked, IsUpTo}
use Rattle.area_swap.specs.Places.{TheVersion, ClaimsOn, RowWord, version_place, claims_place, row_place}
use Rattle.area_swap.specs.Rule.{Laid}
use Rattle.area_swap.proofs.Apart.{places_differ, row_fits}

pub unpack_packed : (n : ℕ) (s : Seen) → n ≡ packed s → s.records < 4294967296 → unpacked n ≡ s
unpack_packed n s e small =
    let high : n / 4294967296 ≡ s.version = omega arith in
    let low : n % 4294967296 ≡ s.records = omega arith in
    λ i. record { version = high i; records = low i }

pub same_packed : (s t : Seen) → packed s ≡ packed t → s.records < 4294967296 → t.records < 4294967296 → s ≡ t
same_packed s t e l m = sym (unpack_packed (packed s) s refl l) ∙ unpack_packed (packed s) t e m

pub up_to : (s : Seen) → IsUpTo s s
up_to s = record { version = omega arith; records = omega arith }

pub up_to_then : (s t u : Seen) → IsUpTo s t → IsUpTo t u → IsUpTo s u
up_to_then s t u h k = record { version = omega (arith, h.version, k.version); records = omega (arith, h.records, k.records) }

module _ (words : List ℕ) (long : ℕ) (now : Seen) (counts : List ℕ) (areas : List (List ℕ)) (h : Laid words long now counts areas) where
  -- the version word is written
  pub laid_now : (x : ℕ) (next : Seen) → x ≡ packed next → Laid (set words version_place x) long next counts areas
  laid_now x next e =
      record {
        size = length-set words version_place x ∙ h.size;
        first =
            (let inside : version_place < length words = omega (arith, h.size) in get_or-set_same words version_place x 0 inside) ∙ e;
        claims = λ a l.
            get_or-set_other words version_place (claims_place a) x 0 (places_differ long (ClaimsOn a) TheVersion l tt (λ n. cc))
            ∙ h.claims a l;
        rows = λ a j l m.
            get_or-set_other words version_place (row_place long a + j) x 0 (places_differ long (RowWord a j) TheVersion (l, m) tt (λ n. cc))
            ∙ h.rows a j l m;
      }

  -- the claims on an area are written
  pub laid_claims : (a x : ℕ) → a < 2 → length counts ≡ 2 → Laid (set words (claims_place a) x) long now (set counts a x) areas
  laid_claims a x la two =
      record {
        size = length-set words (claims_place a) x ∙ h.size;
        first =
            get_or-set_other words (claims_place a) version_place x 0 (places_differ long TheVersion (ClaimsOn a) tt la (λ n. cc)) ∙ h.first;
        claims = claims;
        rows = λ b j l m.
            get_or-set_other words (claims_place a) (row_place long b + j) x 0 (places_differ long (RowWord b j) (ClaimsOn a) (l, m) la (λ n. cc))
            ∙ h.rows b j l m;
      }
    where
      claims : (b : ℕ) → b < 2 → slice_index (set words (claims_place a) x) (claims_place b) ≡ slice_index (set counts a x) b
      claims b l =
          elim (cases_eq b a) [
            | inl e ↦
                let in_words : claims_place a < length words = omega (arith, h.size) in
                let in_counts : a < length counts = omega arith in
                ap (λ (k : ℕ). slice_index (set words (claims_place a) x) (claims_place k)) e
                ∙ get_or-set_same words (claims_place a) x 0 in_words
                ∙ sym (ap (λ (k : ℕ). slice_index (set counts a x) k) e ∙ get_or-set_same counts a x 0 in_counts)
            | inr n ↦
                get_or-set_other words (claims_place a) (claims_place b) x 0 (places_differ long (ClaimsOn b) (ClaimsOn a) l la (λ m. n cc)) ∙ h.claims b l
                ∙ sym (get_or-set_other counts a b x 0 n)
          ]

module _ (words : List ℕ) (long : ℕ) (now : Seen) (counts : List ℕ) (areas : List (List ℕ)) (h : Laid words long now counts areas) where
  -- a word of a row is written
  pub laid_row : (a j x : ℕ) → a < 2 → j < long → length areas ≡ 2 → length (slice_index_or areas a []) ≡ long
      → Laid (set words (row_place long a + j) x) long now counts (set areas a (set (slice_index_or areas a []) j x))
  laid_row a j x la lj two wide =
      record {
        size = length-set words (row_place long a + j) x ∙ h.size;
        first =
            get_or-set_other words (row_place long a + j) version_place x 0 (places_differ long TheVersion (RowWord a j) tt (la, lj) (λ n. cc))
            ∙ h.first;
        claims = λ b l.
            get_or-set_other words (row_place long a + j) (claims_place b) x 0 (places_differ long (ClaimsOn b) (RowWord a j) l (la, lj) (λ n. cc))
            ∙ h.claims b l;
        rows = rows;
      }
    where
      row : List ℕ
      row = set (slice_index_or areas a []) j x

      here : slice_index_or (set areas a row) a [] ≡ row
      here = let inside : a < length areas = omega arith in get_or-set_same areas a row [] inside

      in_row : (k : ℕ) → k < long → slice_index (set words (row_place long a + j) x) (row_place long a + k) ≡ slice_index row k
      in_row k l =
          elim (cases_eq k j) [
            | inl e ↦
                let in_words : row_place long a + j < length words = omega (arith, h.size, row_fits a long j la lj) in
                let in_list : j < length (slice_index_or areas a []) = omega arith in
                ap (λ (i : ℕ). slice_index (set words (row_place long a + j) x) (row_place long a + i)) e
                ∙ get_or-set_same words (row_place long a + j) x 0 in_words
                ∙ sym (ap (λ (i : ℕ). slice_index row i) e ∙ get_or-set_same (slice_index_or areas a []) j x 0 in_list)
            | inr n ↦
                get_or-set_other words (row_place long a + j) (row_place long a + k) x 0 (places_differ long (RowWord a k) (RowWord a j) (la, l) (la, lj) (λ m. n cc)) ∙ h.rows a k la l
                ∙ sym (get_or-set_other (slice_index_or areas a []) j k x 0 n)
          ]

      rows : (b k : ℕ) → b < 2 → k < long
          → slice_index (set words (row_place long a + j) x) (row_place long b + k) ≡ slice_index (slice_index_or (set areas a row) b []) k
      rows b k lb lk =
          elim (cases_eq b a) [
            | inl e ↦
                ap (λ (i : ℕ). slice_index (set words (row_place long a + j) x) (row_place long i + k)) e ∙ in_row k lk
                ∙ sym (ap (λ (i : ℕ). slice_index (slice_index_or (set areas a row) i []) k) e ∙ ap (λ (l : List ℕ). slice_index l k) here)
            | inr n ↦
                get_or-set_other words (row_place long a + j) (row_place long b + k) x 0 (places_differ long (RowWord b k) (RowWord a j) (lb, lk) (la, lj) (λ m. n cc)) ∙ h.rows b k lb lk
                ∙ sym (ap (λ (l : List ℕ). slice_index l k) (get_or-set_other areas a b row [] n))
          ]
