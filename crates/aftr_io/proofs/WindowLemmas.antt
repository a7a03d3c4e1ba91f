-- Bytes that were read ahead of a file, and what stands in the file.
use Rattle.std.proofs.Common.{◌≡◌, ℕ, zero, suc, ◌-◌, ◌≤◌, List, [], ◌∷◌, ◌++◌, length, take, drop, refl, sym, ◌∙◌, ap, arith}
use Rattle.std.proofs.lemmas.List.{take-append-le, take-append-drop, drop-drop}
use Rattle.aftr_io.specs.System.{Ahead, StandsIn}

-- what is taken of a front stands in the whole
of_front : (front rest : List ℕ) (k n : ℕ) → n ≤ length (drop k front) → take n (drop k front) ≡ take n (drop k (front ++ rest))
of_front [] rest k zero within = refl
of_front [] rest zero (suc n) within = absurd (omega (arith, within))
of_front [] rest (suc k) (suc n) within = absurd (omega (arith, within))
of_front (b ∷ front) rest zero n within = sym (take-append-le n (b ∷ front) rest within)
of_front (b ∷ front) rest (suc k) n within = of_front front rest k n within

module _ (ahead : Ahead) (file : List ℕ) (stands : StandsIn ahead file) where
  whole : drop ahead.start file ≡ ahead.bytes ++ drop (length ahead.bytes) (drop ahead.start file)
  whole = sym (take-append-drop (length ahead.bytes) (drop ahead.start file)) ∙ ap (λ front. front ++ drop (length ahead.bytes) (drop ahead.start file)) (sym stands)

  -- what is copied of a window stands in the file at the place that was asked for
  pub copied : (at n : ℕ) → ahead.start ≤ at → n ≤ length (drop (at - ahead.start) ahead.bytes) → take n (drop (at - ahead.start) ahead.bytes) ≡ take n (drop at file)
  copied at n behind within =
      of_front ahead.bytes (drop (length ahead.bytes) (drop ahead.start file)) (at - ahead.start) n within
      ∙ ap (λ whole. take n (drop (at - ahead.start) whole)) (sym whole)
      ∙ ap (take n) (drop-drop (at - ahead.start) ahead.start file ∙ ap (λ place. drop place file) (omega arith))

pub copied_of : (ahead : Ahead) (seen : List ℕ) (start at n : ℕ) (into file : List ℕ) → start ≡ ahead.start → seen ≡ ahead.bytes → start ≤ at → n ≤ length (drop (at - start) seen) → take n into ≡ take n (drop (at - start) seen) → StandsIn ahead file → take n into ≡ take n (drop at file)
copied_of ahead seen start at n into file starts is behind within into_is stands =
    let same : drop (at - start) seen ≡ drop (at - ahead.start) ahead.bytes = ap (λ s. drop (at - s) seen) starts ∙ ap (drop (at - ahead.start)) is in
    into_is ∙ ap (take n) same ∙ copied ahead file stands at n (omega (arith, starts, behind)) (omega (arith, within, ap (λ l. length l) same))
