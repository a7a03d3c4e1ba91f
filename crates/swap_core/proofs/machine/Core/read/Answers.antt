use Rattle.std.proofs.Common.{◌≡◌, ◌≤◌, ◌<◌, ℕ, List, [], length, get_or, slice_index, refl, ap, ◌∙◌, inr, arith}
use Rattle.swap_core.specs.Plans.{table, width}
use Rattle.swap_core.specs.States.{IsActor, area}
use Rattle.swap_core.specs.Transitions.{read}
use Rattle.swap_core.specs.Views.{state_of}
use Rattle.swap_core.specs.declared.actors.ActorState.TheVariants.{Holds}
use Rattle.swap_core.specs.declared.steps.Took.TheVariants.{Yes}
use Rattle.swap_core.proofs.Answering.{stranger, stays, still, taken, read_else, read_past, read_word}
use Rattle.std.proofs.lemmas.List.{get_or_default}
use Rattle.swap_core.proofs.PlanLemmas.{table_fits}
use Rattle.aftr_base.proofs.PlaceLemmas.{at_index}
use Rattle.swap_core.proofs.Moves.{claimed_area, held_there}
use Rattle.swap_core.proofs.machine.Core.read.Goals as goal
use Rattle.swap_core.proofs.machine.Core.read.Goals.{In-Holds}

-- who asks is an actor of the machine
here : (c : In-Holds) → IsActor (state_of c.self.inside) c.args.who c.index.result.now
here c = at_index c.self.inside.actors.items c.args.who c.index.result.now (omega (arith, c.self.inside.actors.ok.0)) c.index.ensures

-- and holds one of the two areas
small : (c : In-Holds) → c.in-Holds.area < 2
small c =
    claimed_area (state_of c.self.inside) c.args.who c.index.result.now c.in-Holds.area c.self.invariant.0 (here c) (inr (c.in-Holds.version, c.in-Holds.is))

pub returns-then-at-len : goal.returns-then-at-len
returns-then-at-len c =
    stranger (λ b _. read b c.args.place) (state_of c.self.inside) c.args.self.now c.args.who c.no.result c.self.view_is
    (omega (arith, c.self.inside.actors.ok.0)) c.no.ensures

pub returns-in_default : goal.returns-in_default
returns-in_default c =
    stays (λ b _. read b c.args.place) (state_of c.self.inside) c.args.self.now c.args.who c.index.result.now (c.index.result.now.state) _
    c.no-in_default.result c.self.view_is
    (at_index c.self.inside.actors.items c.args.who c.index.result.now (omega (arith, c.self.inside.actors.ok.0)) c.index.ensures)
    refl (read_else (state_of c.self.inside) c.args.place c.index.result.now.state c.in_default.not-Holds) c.no-in_default.ensures

past : (c : goal.After-no-then-place-words) → length (table c.self.inside.plan c.in-Holds.version) ≤ c.args.place
past c = omega (arith, c.if-place-words.true, ap (λ (ws : List ℕ). length ws) c.words.ensures)

pub returns-then-place-words : goal.returns-then-place-words
returns-then-place-words c =
    stays (λ b _. read b c.args.place) (state_of c.self.inside) c.args.self.now c.args.who c.index.result.now
    (Holds c.in-Holds.area c.in-Holds.version) _ c.no-then-place-words.result c.self.view_is (here (goal.at.returns-then-place-words c).In-Holds) c.in-Holds.is
    (read_past (state_of c.self.inside) c.args.place c.in-Holds.area c.in-Holds.version (past c)) c.no-then-place-words.ensures

pub words-requires : goal.words-requires
words-requires c =
    held_there (state_of c.self.inside) c.args.who c.index.result.now c.in-Holds.area c.in-Holds.version c.self.invariant.0
    (here (goal.at.words-requires c).In-Holds) c.in-Holds.is

pub bounds-self-inside-area : goal.bounds-self-inside-area
bounds-self-inside-area c = small (goal.at.bounds-self-inside-area c).In-Holds

pub listed : goal.listed
listed c = omega (arith, c.self.invariant.0.two_areas, small (goal.at.listed c).In-Holds)

pub get-requires : goal.get-requires
get-requires c =
    let below_two = small (goal.at.get-requires c).In-Holds in
    let inside : c.in-Holds.area < length c.self.inside.areas = omega (arith, c.self.invariant.0.two_areas, below_two) in
    let row : length (area (state_of c.self.inside) c.in-Holds.area) ≡ width c.self.inside.plan = c.self.invariant.0.rows c.in-Holds.area below_two in
    let same : get_or c.self.inside.areas c.in-Holds.area c.index-self-area.result ≡ area (state_of c.self.inside) c.in-Holds.area =
    get_or_default c.self.inside.areas c.in-Holds.area c.index-self-area.result [] inside in
    omega (
      arith,
      table_fits c.self.inside.plan c.in-Holds.version,
      ap (λ (ws : List ℕ). length ws) same,
      ap (λ (ws : List ℕ). length ws) c.words.ensures,
      c.if-place-words.false,
    )

pub returns : goal.returns
returns c =
    let at = (goal.at.returns c).In-Holds in
    let inside : c.in-Holds.area < length c.self.inside.areas = omega (arith, c.self.invariant.0.two_areas, small at) in
    let same : get_or c.self.inside.areas c.in-Holds.area c.index-self-area.result ≡ area (state_of c.self.inside) c.in-Holds.area =
    get_or_default c.self.inside.areas c.in-Holds.area c.index-self-area.result [] inside in
    let below : c.args.place < length (table c.self.inside.plan c.in-Holds.version) =
    omega (arith, ap (λ (ws : List ℕ). length ws) c.words.ensures, c.if-place-words.false) in
    still (λ b _. read b c.args.place) (state_of c.self.inside) c.args.self.now c.args.who c.index.result.now
    (Holds c.in-Holds.area c.in-Holds.version) c.yes.result c.self.view_is (here at) c.in-Holds.is
    (taken (state_of c.self.inside) (read (state_of c.self.inside) c.args.place (Holds c.in-Holds.area c.in-Holds.version))
    (slice_index (area (state_of c.self.inside) c.in-Holds.area) c.args.place) c.yes.result
    (read_word (state_of c.self.inside) c.args.place c.in-Holds.area c.in-Holds.version below)
    (c.yes.ensures ∙ ap Yes (c.get.ensures ∙ ap (λ (ws : List ℕ). slice_index ws c.args.place) same)))
