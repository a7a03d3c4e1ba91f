-- Loads that are read one after another.
use Rattle.std.proofs.Common.{◌≡◌, ℕ, zero, suc, ◌+◌, ◌<◌, List, [], ◌∷◌, ◌++◌, length, ◌∙◌, ap, refl, subst, sym, arith}
use Rattle.std.specs.Prelude.{All, slice_index_or}
use Rattle.std.proofs.lemmas.List.{length-append}
use Rattle.std.proofs.lemmas.List.Elements.{All-append}
use Rattle.swap_core.specs.Plans.{IsNotBefore, IsWindow}
use Rattle.swap_core.specs.declared.plan.Window.{Window}
use Rattle.reload_plan.specs.Accepted.{AreSound, IsSound}
use Rattle.reload_plan.specs.declared.loads.Load.{Load}

-- no window falls, and this is the last one, if there is one
pub record AreRead (loads : List Load) (last : Window) : Type 0 where
  pub sound : AreSound loads
  pub last_is : (k : ℕ) (d : Load) → k + 1 ≡ length loads → (slice_index_or loads k d).window ≡ last

abbrev Rising : List Load → Type 0
Rising loads = (k : ℕ) (d : Load) → k + 1 < length loads → IsNotBefore (slice_index_or loads (k + 1) d).window (slice_index_or loads k d).window

tail_rises : (a : Load) (rest : List Load) → Rising (a ∷ rest) → Rising rest
tail_rises a rest h k d l =
    let place : suc k + 1 ≡ suc (k + 1) = omega arith in
    subst (λ (n : ℕ). IsNotBefore (slice_index_or (a ∷ rest) n d).window (slice_index_or rest k d).window) place
    (h (suc k) d (omega (arith, l)))

-- one load more
rises : (loads : List Load) (x : Load) → Rising loads
    → ((k : ℕ) (d : Load) → k + 1 ≡ length loads → IsNotBefore x.window (slice_index_or loads k d).window) → Rising (loads ++ x ∷ [])
rises [] x h last k d l = absurd (omega (arith, l))
rises (a ∷ []) x h last zero d l = last 0 d (omega arith)
rises (a ∷ []) x h last (suc k) d l = absurd (omega (arith, l))
rises (a ∷ b ∷ rest) x h last zero d l = h 0 d (omega arith)
rises (a ∷ b ∷ rest) x h last (suc k) d l =
    let place : suc (k + 1) ≡ suc k + 1 = omega arith in
    subst (λ (n : ℕ). IsNotBefore (slice_index_or (a ∷ b ∷ rest ++ x ∷ []) n d).window (slice_index_or (b ∷ rest ++ x ∷ []) k d).window) place
    (rises (b ∷ rest) x (tail_rises a (b ∷ rest) h) (λ j e m. last (suc j) e (omega (arith, m))) k d (omega (arith, l)))

last_one : (loads : List Load) (x d : Load) (k : ℕ) → k + 1 ≡ length (loads ++ x ∷ []) → (slice_index_or (loads ++ x ∷ []) k d).window ≡ x.window
last_one [] x d zero e = refl
last_one [] x d (suc k) e = absurd (omega (arith, e))
last_one (a ∷ rest) x d zero e = absurd (omega (arith, e, length-append rest (x ∷ [])))
last_one (a ∷ rest) x d (suc k) e = last_one rest x d k (omega (arith, e))

one : {X : Type 0} (P : X → Type 0) (x : X) → P x → All P (x ∷ [])
one P x h zero d l = h
one P x h (suc k) d l = absurd (omega (arith, l))

-- one load more
read_more : (loads : List Load) (last : Window) (x : Load) → AreRead loads last → IsSound x.loaded → IsWindow x.window
    → IsNotBefore x.window last → AreRead (loads ++ x ∷ []) x.window
read_more loads last x h sound opens after = record {
  sound = record {
    windows = All-append (λ (l : Load). IsWindow l.window) loads (x ∷ []) h.sound.windows (one (λ (l : Load). IsWindow l.window) x opens);
    words = All-append (λ (l : Load). IsSound l.loaded) loads (x ∷ []) h.sound.words (one (λ (l : Load). IsSound l.loaded) x sound);
    rising = rises loads x h.sound.rising
        (λ k d e. subst (λ (v : Window). IsNotBefore x.window v) (sym (h.last_is k d e)) after);
  };
  last_is = λ k d e. last_one loads x d k e;
}

-- the same, with what the calls of a turn say
pub more_read : (loads new : List Load) (last window : Window) (x : Load) → AreRead loads last → x.window ≡ window → IsSound x.loaded
    → IsWindow window × IsNotBefore window last → new ≡ loads ++ x ∷ [] → AreRead new window
more_read loads new last window x h is sound may pushed =
    subst (λ (l : List Load). AreRead l window) (sym pushed)
    (subst (λ (w : Window). AreRead (loads ++ x ∷ []) w) is
    (read_more loads last x h sound (subst IsWindow (sym is) may.0) (subst (λ (w : Window). IsNotBefore w last) (sym is) may.1)))

pub one_more : (loads new : List Load) (x : Load) → new ≡ loads ++ x ∷ [] → length new ≡ length loads + 1
one_more loads new x pushed = ap length pushed ∙ length-append loads (x ∷ [])
