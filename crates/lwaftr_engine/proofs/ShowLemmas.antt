-- The run of the demonstration.
use Rattle.lwaftr_engine.proofs.Words.{◌≡◌, ℕ, List, [], ◌∷◌, length, All, Result, Ok, Err, refl, ap, IfOk, OutOfMemory, LoadWords, BindingTable, half_way}
use Rattle.lwaftr_engine.proofs.Words.{some_slot_refused, IsDemoMade, accepted, slots_from, Load, Made, Slot, Window, AreCompiled, IsCompiled, IsFitFor}
use Rattle.lwaftr_engine.proofs.PlanLemmas.{plan_is}
use Rattle.reload_plan.specs.declared.loads.Loaded.TheVariants as loaded

-- the words of the one load
abbrev one_words : Window → LoadWords
one_words window = record { window = window; name = [] }

-- the one load
abbrev pub one_load : ℕ → List ℕ → Load
one_load count more = record { window = half_way count; loaded = loaded.Words more }

-- the plan of the two tables, as it is made
pub demo_made : (count : ℕ) (first second : BindingTable) (words more : List ℕ) (r : Result Made OutOfMemory) → IsCompiled first words →
    IsCompiled second more →
    IfOk r (λ made. made.plan ≡ accepted words (one_load count more ∷ [])) → IfOk r (λ made. made.slots ≡ slots_from 0 (one_load count more ∷ [])) →
    IfOk r (λ made. All AreCompiled made.plan.tables) → IfOk r (IsDemoMade count first second)
demo_made count first second words more (Ok made) first_is second_is plan slots compiled =
    let load = one_load count more in
    let fit : IsFitFor (one_words (half_way count)) (one_load count more) = record { window = refl; sound = record { table = second; of_table = second_is } } in
    record {
      plan = plan_is first words (Ok second ∷ []) (one_words (half_way count) ∷ []) (load ∷ []) made.plan first_is plan (fit, tt) (second_is, tt);
      compiled = compiled;
      one_slot = ap (λ (l : List Slot). length l) slots;
      accepted = ap (λ (l : List Slot). some_slot_refused l) slots;
    }
demo_made count first second words more (Err why) first_is second_is plan slots compiled = tt
