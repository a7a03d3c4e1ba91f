-- The loads that words write.
use Rattle.std.proofs.Common.{inl, inr, ◌≡◌, ◌≢◌, ℕ, suc, zero, ◌+◌, ◌-◌, ◌<◌, ◌≤◌, false, List, [], ◌∷◌, ◌++◌, Some, length, take, refl, sym, ◌∙◌, ap, ap₂, subst, arith}
use Rattle.std.specs.Prelude.{All, IsTrue, slice_get, slice_index_or}
use Rattle.std.specs.Borrow.{Bor}
use Rattle.std.proofs.lemmas.Bool.{cases_lt}
use Rattle.std.proofs.lemmas.Fmt.{decimal_injective}
use Rattle.std.proofs.lemmas.List.{get_or-map, length-map, map-append, take_more}
use Rattle.std.proofs.lemmas.List.Elements.{All-append}
use Rattle.swap_core.specs.Plans.{IsNotBefore, always}
use Rattle.swap_core.specs.declared.plan.Window.{Window}
use Rattle.aftr_text.specs.Faults.{HasFallen, IsBadLoad}
use Rattle.aftr_text.specs.Jobs.{AreRising, IsLoad, load_text, load_texts, windows_of}
use Rattle.aftr_text.specs.Parts.{texts}
use Rattle.aftr_text.specs.declared.jobs.LoadWords.{LoadWords}
use Rattle.aftr_text.proofs.Cuts.{one_load, one_window}

same_window : (a b : Window) → a.earliest ≡ b.earliest → a.latest ≡ b.latest → a ≡ b
same_window a b e f = λ i. record { earliest = e i; latest = f i }

same_load : (a b : LoadWords) → a.window ≡ b.window → a.name ≡ b.name → a ≡ b
same_load a b e f = λ i. record { window = e i; name = f i }

pub equal_loads : (a b : LoadWords) → IsLoad a → IsLoad b → load_text a ≡ load_text b → a ≡ b
equal_loads a b h k e =
    let parts = one_load a b h k e in
    let numbers = one_window a.window b.window h.0 k.0 parts.0 in
    same_load a b
    (same_window a.window b.window
    (decimal_injective a.window.earliest b.window.earliest (omega (arith, h.0.0, h.0.1)) (omega (arith, k.0.0, k.0.1)) numbers.0)
    (decimal_injective a.window.latest b.window.latest (omega (arith, h.0.1)) (omega (arith, k.0.1)) numbers.1))
    parts.1

-- the load at a place, by the word at that place
word_at : (loads : List LoadWords) (words : List (Bor (List ℕ))) (i : ℕ) (d : LoadWords) (w : Bor (List ℕ)) → load_texts loads ≡ texts words
    → i < length words → i < length loads → load_text (slice_index_or loads i d) ≡ (slice_index_or words i w).now
word_at loads words i d w e inside within =
    sym (get_or-map load_text loads i d [] within) ∙ ap (λ (l : List (List ℕ)). slice_index_or l i []) e ∙ get_or-map (λ (b : Bor (List ℕ)). b.now) words i w [] inside

same_length : (loads : List LoadWords) (words : List (Bor (List ℕ))) → load_texts loads ≡ texts words → length loads ≡ length words
same_length loads words e =
    sym (length-map loads load_text) ∙ ap length e ∙ length-map words (λ (b : Bor (List ℕ)). b.now)

some_load : LoadWords
some_load = record { window = always; name = [] }

pub no_load : (words : List (Bor (List ℕ))) (i : ℕ) (w : Bor (List ℕ)) → i < length words
    → ((load : LoadWords) → IsLoad load → (slice_index_or words i w).now ≢ load_text load)
    → (loads : List LoadWords) → All IsLoad loads → load_texts loads ≢ texts words
no_load words i w inside none loads sound e =
    let within : i < length loads = omega (arith, inside, same_length loads words e) in
    none (slice_index_or loads i some_load) (sound i some_load within) (sym (word_at loads words i some_load w e inside within))

pub more_texts : (loads new : List LoadWords) (load : LoadWords) (words : List (Bor (List ℕ))) (i : ℕ) (w : Bor (List ℕ)) → i < length words
    → load_texts loads ≡ texts (take i words) → new ≡ loads ++ load ∷ [] → (slice_index_or words i w).now ≡ load_text load
    → load_texts new ≡ texts (take (i + 1) words)
more_texts loads new load words i w inside before pushed is =
    ap load_texts pushed ∙ map-append load_text loads (load ∷ [])
    ∙ ap₂ (λ (a : List (List ℕ)) (b : List ℕ). a ++ b ∷ []) before (sym is)
    ∙ sym (map-append (λ (b : Bor (List ℕ)). b.now) (take i words) (slice_index_or words i w ∷ []))
    ∙ ap texts (sym (take_more words i w inside))

one_sound : (load : LoadWords) → IsLoad load → All IsLoad (load ∷ [])
one_sound load h zero d l = h
one_sound load h (suc k) d l = absurd (omega (arith, l))

pub more_sound : (loads new : List LoadWords) (load : LoadWords) → All IsLoad loads → new ≡ loads ++ load ∷ [] → IsLoad load → All IsLoad new
more_sound loads new load before pushed h = subst (All IsLoad) (sym pushed) (All-append IsLoad loads (load ∷ []) before (one_sound load h))

-- words write one list of loads alone
pub one_list : (a b : List LoadWords) → All IsLoad a → All IsLoad b → load_texts a ≡ load_texts b → a ≡ b
one_list [] [] h k e = refl
one_list [] (y ∷ ys) h k e = absurd cc
one_list (x ∷ xs) [] h k e = absurd cc
one_list (x ∷ xs) (y ∷ ys) h k e =
    let first : load_text x ≡ load_text y = cc in
    let rest : load_texts xs ≡ load_texts ys = cc in
    let x_is : x ≡ y = equal_loads x y (h 0 x (omega arith)) (k 0 y (omega arith)) first in
    let xs_are = one_list xs ys (λ i d l. h (suc i) d (omega (arith, l))) (λ i d l. k (suc i) d (omega (arith, l))) rest in
    cc

-- the windows by the loads
window_at : (loads : List LoadWords) (i : ℕ) (d : LoadWords) → i < length loads → slice_index_or (windows_of loads) i always ≡ (slice_index_or loads i d).window
window_at loads i d l = get_or-map (λ (x : LoadWords). x.window) loads i d always l

pair_is : (loads : List LoadWords) (k next : ℕ) (d e : LoadWords) → k + 1 ≡ next → next < length loads
    → IsNotBefore (slice_index_or (windows_of loads) (k + 1) always) (slice_index_or (windows_of loads) k always)
    ≡ IsNotBefore (slice_index_or loads next d).window (slice_index_or loads (next - 1) e).window
pair_is loads k next d e is inside =
    let j : k ≡ next - 1 = omega (arith, is) in
    ap₂ IsNotBefore (ap (λ n. slice_index_or (windows_of loads) n always) is ∙ window_at loads next d inside)
    (ap (λ n. slice_index_or (windows_of loads) n always) j ∙ window_at loads (next - 1) e (omega (arith, inside)))

pub not_rising : (loads : List LoadWords) (next : ℕ) (d e : LoadWords) → 1 ≤ next → next < length loads
    → (IsNotBefore (slice_index_or loads next d).window (slice_index_or loads (next - 1) e).window → IsTrue false)
    → AreRising (windows_of loads) → IsTrue false
not_rising loads next d e first inside not rising =
    let is : (next - 1) + 1 ≡ next = omega (arith, first) in
    not (subst (λ (X : Type 0). X) (pair_is loads (next - 1) next d e is inside) (rising (next - 1) (omega (arith, inside, length-map loads (λ (x : LoadWords). x.window)))))

pub rising_more : (loads : List LoadWords) (next : ℕ) (d e : LoadWords) → next < length loads
    → ((k : ℕ) → k + 1 < next → IsNotBefore (slice_index_or (windows_of loads) (k + 1) always) (slice_index_or (windows_of loads) k always))
    → IsNotBefore (slice_index_or loads next d).window (slice_index_or loads (next - 1) e).window
    → (k : ℕ) → k + 1 < next + 1 → IsNotBefore (slice_index_or (windows_of loads) (k + 1) always) (slice_index_or (windows_of loads) k always)
rising_more loads next d e inside before now k l =
    elim (cases_lt (k + 1) next) [
      | inl less ↦ before k less
      | inr more ↦
          let is : k + 1 ≡ next = omega (arith, l, more) in
          subst (λ (X : Type 0). X) (sym (pair_is loads k next d e is inside)) now
    ]

pub fallen : (loads : List LoadWords) (next : ℕ) (d e : LoadWords) → 1 ≤ next → next < length loads
    → (IsNotBefore (slice_index_or loads next d).window (slice_index_or loads (next - 1) e).window → IsTrue false) → HasFallen loads next
fallen loads next d e first inside not = (
  first,
  inside,
  λ before.
      let bad = not (subst (λ (X : Type 0). X) (ap₂ IsNotBefore (window_at loads next d inside) (window_at loads (next - 1) e (omega (arith, inside)))) before) in
      absurd cc,
)

-- the word at a place, as it is read
word_get : (words : List (Bor (List ℕ))) (i : ℕ) (w : Bor (List ℕ)) → i < length words → slice_get (texts words) i ≡ Some (slice_index_or words i w).now
word_get [] i w inside = absurd (omega (arith, inside))
word_get (x ∷ xs) zero w inside = refl
word_get (x ∷ xs) (suc i) w inside = word_get xs i w (omega (arith, inside))

pub bad_word : (words : List (Bor (List ℕ))) (i : ℕ) (w : Bor (List ℕ)) → i < length words
    → ((load : LoadWords) → IsLoad load → (slice_index_or words i w).now ≢ load_text load) → IsBadLoad (texts words) i
bad_word words i w inside none = ((slice_index_or words i w).now, word_get words i w inside, none)
