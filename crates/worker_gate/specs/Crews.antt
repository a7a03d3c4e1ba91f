-- Where the outcomes of a round stand. All of it is ours.
use Rattle.std.specs.Prelude.{ℕ, ◌<◌, ◌≤◌, List, [], All, length, map, get_or}
use Rattle.verdict_core.specs.declared.verdicts.Verdict.TheVariants as verdict
use Rattle.worker_gate.specs.declared.crew.Place.{Place}
use Rattle.worker_gate.specs.declared.crew.Sheet.{Sheet}
use Rattle.worker_gate.specs.declared.outcomes.Outcome.{Outcome}

-- how many workers there are, how many records a round can have, and the outcomes of the last round
pub record CrewValue : Type 0 where
  pub workers : ℕ
  pub room : ℕ
  pub outcomes : List Outcome

abbrev pub list_of : Sheet → List Outcome
list_of sheet = sheet.outcomes.items

-- stands where a place is none
abbrev pub no_outcome : Outcome
no_outcome = record { number = 0; version = 0; verdict = verdict.Held }

-- the list of the sheet with this number
abbrev pub sheet_at : List Sheet → ℕ → List Outcome
sheet_at sheets n = get_or (map list_of sheets) n []

abbrev pub IsPlaced : List Sheet → Place → Type 0
IsPlaced sheets place = (place.sheet < length sheets) × (place.index < length (sheet_at sheets place.sheet))

abbrev pub outcome_at : List Sheet → Place → Outcome
outcome_at sheets place = get_or (sheet_at sheets place.sheet) place.index no_outcome

abbrev pub outcomes_at : List Sheet → List Place → List Outcome
outcomes_at sheets places = map (outcome_at sheets) places

-- one sheet for each of 1 to 16 workers, with room for so many outcomes
pub record AreSheets (room : ℕ) (sheets : List Sheet) : Type 0 where
  pub some_one : 1 ≤ length sheets
  pub few : length sheets ≤ 16
  pub rooms : All (λ (s : Sheet). room ≤ s.outcomes.room) sheets
