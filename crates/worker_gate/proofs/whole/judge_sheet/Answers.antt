use Rattle.std.proofs.Common.{◌≡◌, ℕ, ◌-◌, ◌≤◌, List, All, length, map, ap, subst, sym, ◌∙◌, arith, Some}
use Rattle.std.specs.List.{range_with_len}
use Rattle.std.proofs.lemmas.List.Elements.{All-pop, All-push}
use Rattle.worker_gate.specs.declared.crew.Place.{Place}
use Rattle.worker_gate.specs.declared.crew.Sheet.{Sheet}
use Rattle.worker_gate.specs.declared.outcomes.Outcome.{Outcome}
use Rattle.worker_gate.specs.Crews.{IsPlaced, outcomes_at}
use Rattle.worker_gate.specs.Holders.{HeldValue}
use Rattle.worker_gate.specs.WholeRounds.{HasJudgedWhole, place_in}
use Rattle.worker_gate.proofs.Judged.{run_whole}
use Rattle.worker_gate.proofs.WholeLemmas.{listed_count, listed_outcomes, listed_places}
use Rattle.worker_gate.proofs.whole.judge_sheet.Goals as goal

pub returns-clause-judged : goal.returns-clause-judged
returns-clause-judged g c =
    let items = g.S.RoundItems.items c.args.work.now.items.now in
    let start : ℕ = c.args.work.now.start in
    let count : ℕ = c.args.work.now.end - c.args.work.now.start in
    let held : HeldValue = c.args.held in
    let all : List Outcome = c.judge_records.new.outcomes.items in
    let s : Sheet = record { outcomes = c.judge_records.new.outcomes } in
    let places : List Place = c.list_places.new.places.items in
    let many : length all ≡ count = c.judge_records.ensures.many in
    let number : c.len.result ≡ length c.pop.new.self.items = omega (arith, c.len.ensures, c.pop.new.self.ok) in
    let listed : places ≡ map (place_in (length c.pop.new.self.items)) (range_with_len 0 count) =
    c.list_places.ensures.places ∙ ap (λ (n : ℕ). map (place_in n) (range_with_len 0 count)) number in
    let is : outcomes_at c.push_reserved.new.self.items places ≡ all =
    ap (λ (l : List Sheet). outcomes_at l places) c.push_reserved.ensures.items
    ∙ listed_outcomes c.pop.new.self.items s places count many listed in
    let P : List Outcome → Type 0 = λ l. HasJudgedWhole held.areas.plan items start held.version held.known c.end-free.result.known l in
    subst P (sym is)
    (run_whole items start held c.of-judge.result c.judge_records.new.judge c.end-free.result.known all c.of-judge.ensures
    c.judge_records.ensures.judged (omega (arith, many, c.requires.inside)) c.end-free.ensures.nothing)

pub returns-clause-rooms : goal.returns-clause-rooms
returns-clause-rooms g c = λ room h.
    (let R : Sheet → Type 0 = λ x. room ≤ x.outcomes.room in
    let L : List Sheet → Type 0 = λ l. All R l in
    let s : Sheet = record { outcomes = c.judge_records.new.outcomes } in
    let popped : All R c.pop.new.self.items × R c.in-Some.sheet =
    All-pop R c.args.sheets.now.items c.pop.new.self.items (Some c.in-Some.sheet) c.in-Some.ensures.items h in
    let own : room ≤ c.judge_records.new.outcomes.room = omega (arith, popped.1, c.judge_records.ensures.room, c.clear.ensures.room) in
    subst L (sym c.push_reserved.ensures.items) (All-push R c.pop.new.self.items s popped.0 own))

pub returns-clause-places : goal.returns-clause-places
returns-clause-places g c =
    let start : ℕ = c.args.work.now.start in
    let count : ℕ = c.args.work.now.end - c.args.work.now.start in
    let s : Sheet = record { outcomes = c.judge_records.new.outcomes } in
    let places : List Place = c.list_places.new.places.items in
    let many : length s.outcomes.items ≡ count = c.judge_records.ensures.many in
    let number : c.len.result ≡ length c.pop.new.self.items = omega (arith, c.len.ensures, c.pop.new.self.ok) in
    let listed : places ≡ map (place_in (length c.pop.new.self.items)) (range_with_len 0 count) =
    c.list_places.ensures.places ∙ ap (λ (n : ℕ). map (place_in n) (range_with_len 0 count)) number in
    let L : List Sheet → Type 0 = λ l. All (IsPlaced l) places in (
      subst L (sym c.push_reserved.ensures.items) (listed_places c.pop.new.self.items s places count many listed),
      omega (arith, listed_count c.pop.new.self.items s places count many listed, c.requires.range),
    )
