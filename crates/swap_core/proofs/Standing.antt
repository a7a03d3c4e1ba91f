-- Several writes in a row of words that stand there already.
use Rattle.std.proofs.Common.{◌≡◌, ℕ, zero, suc, ◌+◌, ◌-◌, ◌<◌, ◌≤◌, List, [], length, replicate, set, slice_index, subst, sym, refl, ap, ◌∙◌, arith}
use Rattle.std.proofs.lemmas.List.{set-get_or}
use Rattle.swap_core.specs.Plans.{AreAlike, stale}
use Rattle.swap_core.specs.States.{CoreState, area, spare, next_table, with_desk, written}
use Rattle.swap_core.specs.Transitions.{Outcome, after, after_all, write}
use Rattle.swap_core.specs.Sound.{Sound, words_written}
use Rattle.swap_core.specs.declared.actors.DeskState.{DeskState}
use Rattle.swap_core.specs.declared.actors.DeskState.TheVariants.{Writing}
use Rattle.swap_core.specs.declared.steps.Step.TheVariants as step
use Rattle.swap_core.proofs.Answering.{write_word}
use Rattle.swap_core.proofs.Kept.{run_kept, step_kept}

-- the word that is written stands there, so no area changes
written_again : (c : CoreState) (j : ℕ) → Sound c → c.desk ≡ Writing j → j < length (next_table c)
    → (j < length (stale c.plan c.version)) × (slice_index (stale c.plan c.version) j ≡ slice_index (next_table c) j)
    → written c j ≡ with_desk c (Writing (j + 1))
written_again c j h desk more alike =
    let stands : slice_index (next_table c) j ≡ slice_index (area c (spare c)) j =
    sym (h.left j (omega (arith, ap words_written desk)) alike.0 ∙ alike.1) in
    let row : set (area c (spare c)) j (slice_index (next_table c) j) ≡ area c (spare c) =
    ap (λ (x : ℕ). set (area c (spare c)) j x) stands ∙ set-get_or (area c (spare c)) j 0 in
    let areas : set c.areas (spare c) (set (area c (spare c)) j (slice_index (next_table c) j)) ≡ c.areas =
    ap (λ (r : List ℕ). set c.areas (spare c) r) row ∙ set-get_or c.areas (spare c) [] in
    λ i. record c { areas = areas i; desk = Writing (j + 1) }

pub standing_writes : (c : CoreState) (from count : ℕ) → Sound c → c.desk ≡ Writing from → from + count ≤ length (next_table c)
    → AreAlike (stale c.plan c.version) (next_table c) from (from + count)
    → after_all c (replicate count step.Write) ≡ with_desk c (Writing (from + count))
standing_writes c from zero h desk room alike =
    let none : c.desk ≡ Writing (from + 0) = desk ∙ ap Writing (let same : from ≡ from + 0 = omega arith in same) in
    λ i. record c { desk = none i }
standing_writes c from (suc n) h desk room alike =
    let more : from < length (next_table c) = omega arith in
    let first : (after c step.Write).core ≡ with_desk c (Writing (from + 1)) =
    ap (λ (d : DeskState). (write c d).core) desk ∙ ap (λ (o : Outcome). o.core) (write_word c from more)
    ∙ written_again c from h desk more (alike from (omega arith) (omega arith)) in
    let sound : Sound (with_desk c (Writing (from + 1))) = subst Sound first (step_kept c h step.Write) in
    ap (λ (d : CoreState). after_all d (replicate n step.Write)) first
    ∙ standing_writes (with_desk c (Writing (from + 1))) (from + 1) n sound refl (omega arith)
    (λ j l m. alike j (omega arith) (omega arith))
    ∙ ap (λ (j : ℕ). with_desk c (Writing j)) (let same : from + 1 + n ≡ from + suc n = omega arith in same)

-- the desk passes over words that stand there already
pub standing_sound : (c : CoreState) (from end : ℕ) → Sound c → c.desk ≡ Writing from → from ≤ end → end ≤ length (next_table c)
    → AreAlike (stale c.plan c.version) (next_table c) from end → Sound (with_desk c (Writing end))
standing_sound c from end h desk order room alike =
    let there : from + (end - from) ≡ end = omega arith in
    let steps : after_all c (replicate (end - from) step.Write) ≡ with_desk c (Writing (from + (end - from))) =
    standing_writes c from (end - from) h desk (omega arith) (λ j l m. alike j l (omega arith)) in
    subst Sound (steps ∙ ap (λ (j : ℕ). with_desk c (Writing j)) there) (run_kept c (replicate (end - from) step.Write) h)
