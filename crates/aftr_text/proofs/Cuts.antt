-- Texts that are cut at the first mark of a kind.
use Rattle.std.proofs.Common.{inl, inr, ◌≡◌, ◌≢◌, ◌⊎◌, ℕ, suc, ◌^◌, ◌<◌, List, [], ◌∷◌, ◌++◌, length, Option, Some, None, refl, sym, subst, arith, ⊎_elim}
use Rattle.std.specs.Prelude.{decimal, slice_index_or}
use Rattle.std.specs.Borrow.{Bor}
use Rattle.std.specs.Str.Parse.{AllDigits}
use Rattle.std.proofs.lemmas.Fmt.{decimal_is_IsNumeral}
use Rattle.std.proofs.lemmas.Str.Parse.{digit_from_value}
use Rattle.std.proofs.lemmas.Str.Pattern.{IsSplitOnceResult, split_parts}
use Rattle.swap_core.specs.Plans.{IsWindow}
use Rattle.swap_core.specs.declared.plan.Window.{Window}
use Rattle.aftr_text.specs.Jobs.{IsLoad, load_text, window_text}
use Rattle.aftr_text.specs.declared.jobs.LoadWords.{LoadWords}

-- the mark stands nowhere in the text
abbrev pub Without : ℕ → List ℕ → Type 0
Without c [] = Unit {0}
Without c (x ∷ xs) = (x ≢ c) × Without c xs

without : (c : ℕ) (xs : List ℕ) → ((i : ℕ) → i < length xs → slice_index_or xs i 0 ≢ c) → Without c xs
without c [] h = tt
without c (x ∷ xs) h = (h 0 (omega arith), without c xs (λ i l. h (suc i) (omega (arith, l))))

digits_without : (c : ℕ) (ds : List ℕ) → (c < 48) ⊎ (57 < c) → AllDigits 10 ds → Without c ds
digits_without c [] out d = tt
digits_without c (x ∷ xs) out d =
    let r = digit_from_value x d.0 in
    (λ e. ⊎_elim (λ l. omega (arith, r, l, e)) (λ l. omega (arith, r, l, e)) out, digits_without c xs out d.1)

decimal_without : (c n : ℕ) → (c < 48) ⊎ (57 < c) → n < 2 ^ 64 → Without c (decimal n)
decimal_without c n out fits = digits_without c (decimal n) out (decimal_is_IsNumeral n fits).0.1

joined_without : (c : ℕ) (xs ys : List ℕ) → Without c xs → Without c ys → Without c (xs ++ ys)
joined_without c [] ys a b = b
joined_without c (x ∷ xs) ys a b = (a.0, joined_without c xs ys a.1 b)

heads : (x y : ℕ) (xs ys : List ℕ) → x ∷ xs ≡ y ∷ ys → x ≡ y
heads x y xs ys e = cc

tails : (x y : ℕ) (xs ys : List ℕ) → x ∷ xs ≡ y ∷ ys → xs ≡ ys
tails x y xs ys e = cc

conses : (x y : ℕ) (xs ys : List ℕ) → x ≡ y → xs ≡ ys → x ∷ xs ≡ y ∷ ys
conses x y xs ys e f = cc

-- what stands before the first mark, and what behind it
cut_same : (c : ℕ) (xs ys r s : List ℕ) → Without c xs → Without c ys → xs ++ (c ∷ r) ≡ ys ++ (c ∷ s) → (xs ≡ ys) × (r ≡ s)
cut_same c [] [] r s a b e = (refl, tails c c r s e)
cut_same c [] (y ∷ ys) r s a b e = absurd (b.0 (sym (heads c y r (ys ++ (c ∷ s)) e)))
cut_same c (x ∷ xs) [] r s a b e = absurd (a.0 (heads x c (xs ++ (c ∷ r)) s e))
cut_same c (x ∷ xs) (y ∷ ys) r s a b e =
    let h = cut_same c xs ys r s a.1 b.1 (tails x y (xs ++ (c ∷ r)) (ys ++ (c ∷ s)) e) in
    (conses x y xs ys (heads x y (xs ++ (c ∷ r)) (ys ++ (c ∷ s)) e) h.0, h.1)

nowhere : (c : ℕ) (xs r : List ℕ) → Without c (xs ++ (c ∷ r)) → ⊥
nowhere c [] r a = a.0 refl
nowhere c (x ∷ xs) r a = nowhere c xs r a.1

-- a text that could not be cut has no mark
uncut : (c : ℕ) (word : List ℕ) (r : Option (Bor (List ℕ) × Bor (List ℕ))) → IsSplitOnceResult c word r → r ≡ None → c < 128 → Without c word
uncut c word None h e low = without c word (split_parts c word None h low)
uncut c word (Some x) h e low = absurd cc

pub no_mark : (c : ℕ) (word : List ℕ) (r : Option (Bor (List ℕ) × Bor (List ℕ))) → IsSplitOnceResult c word r → r ≡ None → c < 128
    → (front behind : List ℕ) → word ≢ front ++ (c ∷ behind)
no_mark c word r h e low front behind is = nowhere c front behind (subst (Without c) is (uncut c word r h e low))

pub cut : (c : ℕ) (word : List ℕ) (r : Option (Bor (List ℕ) × Bor (List ℕ))) (front behind : Bor (List ℕ)) → IsSplitOnceResult c word r
    → r ≡ Some (front, behind) → c < 128 → (word ≡ front.now ++ (c ∷ behind.now)) × Without c front.now
cut c word None front behind h e low = absurd cc
cut c word (Some x) front behind h e low =
    let m = split_parts c word (Some x) h low in
    let first : x.0 ≡ front = cc in
    let second : x.1 ≡ behind = cc in (
      subst (λ (b : Bor (List ℕ)). word ≡ front.now ++ (c ∷ b.now)) second
          (subst (λ (b : Bor (List ℕ)). word ≡ b.now ++ (c ∷ x.1.now)) first m.0),
      subst (λ (b : Bor (List ℕ)). Without c b.now) first (without c x.0.now m.1),
    )

first_without : (w : Window) → IsWindow w → Without 45 (decimal w.earliest)
first_without w h = decimal_without 45 w.earliest (inl (omega arith)) (omega (arith, h.0, h.1))

-- the parts of a window's text
pub window_cut : (w : Window) (front behind : List ℕ) → IsWindow w → Without 45 front → front ++ (45 ∷ behind) ≡ window_text w
    → (front ≡ decimal w.earliest) × (behind ≡ decimal w.latest)
window_cut w front behind h clear e = cut_same 45 front (decimal w.earliest) behind (decimal w.latest) clear (first_without w h) e

window_without : (w : Window) → IsWindow w → Without 58 (window_text w)
window_without w h =
    joined_without 58 (decimal w.earliest) (45 ∷ decimal w.latest) (decimal_without 58 w.earliest (inr (omega arith)) (omega (arith, h.0, h.1)))
    (λ e. omega (arith, e), decimal_without 58 w.latest (inr (omega arith)) (omega (arith, h.1)))

-- the parts of a load's text
pub load_cut : (load : LoadWords) (front behind : List ℕ) → IsLoad load → Without 58 front → front ++ (58 ∷ behind) ≡ load_text load
    → (front ≡ window_text load.window) × (behind ≡ load.name)
load_cut load front behind h clear e = cut_same 58 front (window_text load.window) behind load.name clear (window_without load.window h.0) e

-- a word that writes a load writes one alone
pub one_load : (a b : LoadWords) → IsLoad a → IsLoad b → load_text a ≡ load_text b → (window_text a.window ≡ window_text b.window) × (a.name ≡ b.name)
one_load a b h k e = load_cut b (window_text a.window) a.name k (window_without a.window h.0) e

pub one_window : (a b : Window) → IsWindow a → IsWindow b → window_text a ≡ window_text b → (decimal a.earliest ≡ decimal b.earliest) × (decimal a.latest ≡ decimal b.latest)
one_window a b h k e = window_cut b (decimal a.earliest) (decimal a.latest) k (first_without a h) e
