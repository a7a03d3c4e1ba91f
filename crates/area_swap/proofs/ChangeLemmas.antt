-- How the changes of a table are listed, and read again.
use Rattle.std.proofs.Common.{◌≡◌, ℕ, suc, ◌+◌, ◌*◌, ◌<◌, ◌≤◌, min, List, [], ◌∷◌, ◌++◌, length, slice_index, subst, sym, ap, ◌∙◌, arith, inl, inr}
use Rattle.std.proofs.lemmas.Bool.{cases_eq, cases_lt}
use Rattle.std.proofs.lemmas.List.{length_push, get_or_push, get_or_append_left}
use Rattle.swap_core.specs.Plans.{Tables, AreAlike, stale, table}
use Rattle.area_swap.specs.Changes.{AreChanges, EachIsListed, block_words}

module _ (standing next : List ℕ) where
  -- one word more
  pub alike_more : (from j : ℕ) → AreAlike standing next from j → j < length standing → slice_index standing j ≡ slice_index next j
      → AreAlike standing next from (j + 1)
  alike_more from j h inside same k above below =
      elim (cases_eq k j) [
        | inl here ↦ (omega arith, ap (λ (i : ℕ). slice_index standing i) here ∙ same ∙ ap (λ (i : ℕ). slice_index next i) (sym here))
        | inr other ↦ h k above (omega arith)
      ]

  alike_through : (from mid end : ℕ) → AreAlike standing next from mid → AreAlike standing next mid end → AreAlike standing next from end
  alike_through from mid end h k j above below =
      elim (cases_lt j mid) [ inl l ↦ h j above l | inr l ↦ k j l below ]

  -- the words that follow are alike
  further : (blocks : List ℕ) (from end later : ℕ) → end ≤ later → AreAlike standing next end later → AreChanges standing next from end blocks
      → AreChanges standing next from later blocks
  further [] from end later l a h = (omega (arith, h.0), alike_through from end later h.1 a)
  further (b ∷ blocks) from end later l a h =
      (h.0, h.1, h.2, further blocks (min (length next) (b * block_words + block_words)) end later l a h.3)

  -- the block that follows differs
  listed : (blocks : List ℕ) (from block : ℕ) → block * block_words < length next → AreChanges standing next from (block * block_words) blocks
      → AreChanges standing next from (min (length next) (block * block_words + block_words)) (blocks ++ block ∷ [])
  listed [] from block l h = (h.0, l, h.1, (omega arith, λ j above below. absurd (omega arith)))
  listed (b ∷ blocks) from block l h =
      (h.0, h.1, h.2, listed blocks (min (length next) (b * block_words + block_words)) block l h.3)

  -- up to the beginning of this block
  abbrev pub UpTo : ℕ → List ℕ → Type 0
  UpTo block blocks = AreChanges standing next 0 (min (length next) (block * block_words)) blocks

  pub block_alike : (block : ℕ) (blocks : List ℕ) → block * block_words < length next
      → AreAlike standing next (block * block_words) (min (length next) (block * block_words + block_words)) → UpTo block blocks → UpTo (block + 1) blocks
  block_alike block blocks l a h =
      let P : ℕ → Type 0 = λ n. AreChanges standing next 0 n blocks in
      let here : min (length next) (block * block_words) ≡ block * block_words = omega arith in
      let behind : min (length next) (block * block_words + block_words) ≡ min (length next) ((block + 1) * block_words) = omega arith in
      subst P behind (further blocks 0 (block * block_words) (min (length next) (block * block_words + block_words)) (omega arith) a (subst P here h))

  pub block_differs : (block : ℕ) (blocks : List ℕ) → block * block_words < length next → UpTo block blocks → UpTo (block + 1) (blocks ++ block ∷ [])
  block_differs block blocks l h =
      let P : ℕ → Type 0 = λ n. AreChanges standing next 0 n blocks in
      let Q : ℕ → Type 0 = λ n. AreChanges standing next 0 n (blocks ++ block ∷ []) in
      let here : min (length next) (block * block_words) ≡ block * block_words = omega arith in
      let behind : min (length next) (block * block_words + block_words) ≡ min (length next) ((block + 1) * block_words) = omega arith in
      subst Q behind (listed blocks 0 block l (subst P here h))

  pub all_blocks : (count : ℕ) (blocks : List ℕ) → length next ≤ count * block_words → UpTo count blocks → AreChanges standing next 0 (length next) blocks
  all_blocks count blocks l h =
      let P : ℕ → Type 0 = λ n. AreChanges standing next 0 n blocks in
      let all : min (length next) (count * block_words) ≡ length next = omega arith in
      subst P all h

-- the words that stand there behind the first version
pub stale_behind : (p : Tables) (before version : ℕ) → before + 1 ≡ version → table p before ≡ stale p version
stale_behind p before version e =
    let same : suc before ≡ version = omega arith in
    ap (λ (v : ℕ). stale p v) same

-- one table more
pub one_more : (p : Tables) (lists : List (List ℕ)) (version : ℕ) (changes : List ℕ) → length lists ≡ version → EachIsListed p lists
    → AreChanges (stale p version) (table p (version + 1)) 0 (length (table p (version + 1))) changes → EachIsListed p (lists ++ changes ∷ [])
one_more p lists version changes many each last v l =
    let P : ℕ → List ℕ → Type 0 = λ n blocks. AreChanges (stale p n) (table p (n + 1)) 0 (length (table p (n + 1))) blocks in
    elim (cases_lt v (length lists)) [
      | inl before ↦ subst (P v) (sym (get_or_append_left lists (changes ∷ []) [] v before)) (each v before)
      | inr after ↦
          let here : length lists ≡ v = omega (arith, length_push lists changes) in
          let N : ℕ → Type 0 = λ n. P n changes in
          subst (P v) (sym (get_or_push lists changes [] v here)) (subst N (sym many ∙ here) last)
    ]

-- where no block is left, all words are alike
pub none_left : (standing next : List ℕ) (from end : ℕ) (left : List ℕ) → length left < 1 → AreChanges standing next from end left
    → AreAlike standing next from end
none_left standing next from end [] l h = h.1
none_left standing next from end (b ∷ blocks) l h = absurd (omega arith)
