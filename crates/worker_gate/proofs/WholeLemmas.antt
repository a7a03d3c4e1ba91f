-- What a seat that holds judges: the outcomes of a whole round, and where they stand.
use Rattle.std.proofs.Common.{◌≡◌, ℕ, ◌+◌, ◌<◌, List, [], ◌∷◌, ◌++◌, All, length, map, get_or, ap, subst, sym, refl, ◌∙◌, arith, length-append}
use Rattle.std.specs.List.{range_with_len, Contains}
use Rattle.std.proofs.Math.Seq.{get_or-append_seam}
use Rattle.std.proofs.lemmas.Grind.{same_number_lists}
use Rattle.std.proofs.lemmas.List.{same_lists, get_or-map, get_or_default, length-map, map_push}
use Rattle.std.proofs.lemmas.List.FromFn.{get_or-range_with_len, length-range_with_len, length-map-range_with_len, get_or-map-range_with_len}
use Rattle.swap_core.specs.States.{consecutive}
use Rattle.area_swap.specs.Reading.{OnlyReads}
use Rattle.area_swap.specs.Values.{AreasValue, SeatValue}
use Rattle.worker_gate.specs.declared.crew.Place.{Place}
use Rattle.worker_gate.specs.declared.crew.Sheet.{Sheet}
use Rattle.worker_gate.specs.declared.outcomes.Outcome.{Outcome}
use Rattle.worker_gate.specs.Crews.{IsPlaced, list_of, no_outcome, outcome_at, outcomes_at, sheet_at}
use Rattle.worker_gate.specs.Holders.{IsHeldSeat}
use Rattle.worker_gate.specs.OutcomeLists.{number_of}
use Rattle.worker_gate.specs.Outcomes.{draw_of}
use Rattle.worker_gate.specs.WholeRounds.{place_in}

-- A seat that only reads goes on holding its version.
pub held_on : (areas : AreasValue) (version : ℕ) (s t : SeatValue) → OnlyReads s t → IsHeldSeat areas version s → IsHeldSeat areas version t
held_on areas version s t only h =
    let P : SeatValue → Type 0 = λ x. IsHeldSeat areas version x in
    subst P (sym only.rest)
    (record {
      its_areas = record { same_areas = h.its_areas.same_areas; same_plan = h.its_areas.same_plan };
      holds = h.holds;
      held = h.held;
      there = h.there;
      undrawn = h.undrawn;
      no_right = h.no_right;
    })

-- Outcomes of draws in a row have the numbers in a row, and one version.
module _ (start count version : ℕ) (news : List Outcome) (draws : map draw_of news ≡ consecutive start count version) where
  abbrev put : ℕ → ℕ × ℕ
  put number = (number, version)

  long : length news ≡ count
  long = sym (length-map news draw_of) ∙ ap (λ (l : List (ℕ × ℕ)). length l) draws ∙ length-map-range_with_len put start count

  drawn_at : (k : ℕ) (o : Outcome) → k < length news → draw_of (get_or news k o) ≡ (start + k, version)
  drawn_at k o less =
      sym (get_or-map draw_of news k o (draw_of o) less) ∙ ap (λ (l : List (ℕ × ℕ)). get_or l k (draw_of o)) draws
      ∙ get_or-map-range_with_len put start count k (start + k) (draw_of o) (omega (arith, less, long)) refl

  pub run_numbers : map (λ (o : Outcome). o.number) news ≡ range_with_len start count
  run_numbers = same_number_lists (map number_of news) (range_with_len start count) same each where
    same : length (map number_of news) ≡ length (range_with_len start count)
    same = length-map news number_of ∙ long ∙ sym (length-range_with_len start count)

    each : (k : ℕ) → k < length (map number_of news) → get_or (map number_of news) k 0 ≡ get_or (range_with_len start count) k 0
    each k less =
        let inside : k < length news = omega (arith, less, length-map news number_of) in
        get_or-map number_of news k no_outcome 0 inside
        ∙ ap (λ (d : ℕ × ℕ). d.0) (drawn_at k no_outcome inside)
        ∙ sym (get_or-range_with_len start count k 0 (omega (arith, inside, long)))

  pub run_versions : All (λ (o : Outcome). o.version ≡ version) news
  run_versions k d less = ap (λ (x : ℕ × ℕ). x.1) (drawn_at k d less)

  pub run_drawn : All (λ (o : Outcome). Contains (consecutive start count version) (draw_of o)) news
  run_drawn k d less =
      let o : Outcome = get_or news k d in
      let many : length (consecutive start count version) ≡ count = length-map-range_with_len put start count in
      let inside : k < length (consecutive start count version) = omega (arith, less, long, many) in
      let is : get_or (consecutive start count version) k (draw_of o) ≡ draw_of o =
      ap (λ (l : List (ℕ × ℕ)). get_or l k (draw_of o)) (sym draws) ∙ get_or-map draw_of news k d (draw_of o) less in
      (k, inside, is)

  pub run_count : length news ≡ count
  run_count = long

-- The outcomes at the listed places of a sheet are those of the sheet.
module _ (sheets : List Sheet) (sheet : Sheet) (places : List Place) (count : ℕ) (many : length sheet.outcomes.items ≡ count)
    (listed : places ≡ map (place_in (length sheets)) (range_with_len 0 count)) where
  abbrev all : List Sheet
  all = sheets ++ sheet ∷ []

  its_list : sheet_at all (length sheets) ≡ sheet.outcomes.items
  its_list =
      ap (λ (l : List (List Outcome)). get_or l (length sheets) []) (map_push list_of sheets sheet)
      ∙ ap (λ (n : ℕ). get_or (map list_of sheets ++ list_of sheet ∷ []) n []) (sym (length-map sheets list_of))
      ∙ get_or-append_seam (map list_of sheets) (list_of sheet) [] []

  at_place : (k : ℕ) → outcome_at all (place_in (length sheets) k) ≡ get_or sheet.outcomes.items k no_outcome
  at_place k = ap (λ (l : List Outcome). get_or l k no_outcome) its_list

  many_places : length places ≡ count
  many_places = ap (λ (l : List Place). length l) listed ∙ length-map-range_with_len (place_in (length sheets)) 0 count

  place_at : (k : ℕ) (d : Place) → k < count → get_or places k d ≡ place_in (length sheets) k
  place_at k d less =
      ap (λ (l : List Place). get_or l k d) listed
      ∙ get_or-map-range_with_len (place_in (length sheets)) 0 count k k d less (omega arith)

  pub listed_outcomes : outcomes_at all places ≡ sheet.outcomes.items
  listed_outcomes = same_lists (outcomes_at all places) sheet.outcomes.items same each where
    same : length (outcomes_at all places) ≡ length sheet.outcomes.items
    same = length-map places (outcome_at all) ∙ many_places ∙ sym many

    each : (k : ℕ) (d : Outcome) → k < length (outcomes_at all places) → get_or (outcomes_at all places) k d ≡ get_or sheet.outcomes.items k d
    each k d less =
        let no_place : Place = place_in 0 0 in
        let inside : k < length places = omega (arith, less, length-map places (outcome_at all)) in
        let in_count : k < count = omega (arith, inside, many_places) in
        let in_list : k < length sheet.outcomes.items = omega (arith, in_count, many) in
        get_or-map (outcome_at all) places k no_place d inside
        ∙ ap (λ (x : Place). outcome_at all x) (place_at k no_place in_count)
        ∙ at_place k
        ∙ get_or_default sheet.outcomes.items k no_outcome d in_list

  pub listed_places : All (IsPlaced all) places
  listed_places k d less =
      let in_count : k < count = omega (arith, less, many_places) in
      let P : Place → Type 0 = λ x. IsPlaced all x in
      let Q : List Outcome → Type 0 = λ l. k < length l in
      let in_list : k < length sheet.outcomes.items = omega (arith, in_count, many) in
      let in_sheets : length sheets < length all = omega (arith, length-append sheets (sheet ∷ [])) in
      subst P (sym (place_at k d in_count)) (in_sheets, subst Q (sym its_list) in_list)

  pub listed_count : length places ≡ count
  listed_count = many_places
