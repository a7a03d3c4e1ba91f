-- What follows for whoever runs rounds.
use Rattle.std.specs.Prelude.{◌≡◌, ℕ, ◌+◌, ◌≤◌, List, ◌++◌, All, length}
use Rattle.ip_codec.specs.declared.items.Item.{Item}
use Rattle.swap_core.specs.Plans.{Tables}
use Rattle.swap_core.specs.Points.{in_force}
use Rattle.area_swap.specs.declared.board.View.{View}
use Rattle.area_swap.specs.Histories.{HistoryValue, AreDrawn}
use Rattle.area_swap.specs.Values.{HasWholeShare, IsIdle}
use Rattle.area_swap.specs.Views.{IsUpTo}
use Rattle.worker_gate.specs.declared.outcomes.Outcome.{Outcome}
use Rattle.worker_gate.specs.Drawing.{HasDrawnRound}
use Rattle.worker_gate.specs.Rounds.{IsRound}
use Rattle.worker_gate.specs.WholeRounds.{AreOutcomes, HasJudgedWhole}

-- Each outcome of a round has the version that the points of the closed areas put in force at its number. Later rounds may have
-- drawn more.
abbrev pub OutcomesAreInForce : Type 0
OutcomesAreInForce =
    (items : List Item) (start end : ℕ) (before after : View) (all : List Outcome) (later : List (ℕ × ℕ)) (h : HistoryValue)
    → IsRound items start end before after all → AreDrawn h (after.actor.draws ++ later)
    → All (λ (o : Outcome). o.version ≡ in_force h.points o.number) all

-- What `round` says of its outcomes is what every form of a round says.
abbrev pub RoundsGiveOutcomes : Type 0
RoundsGiveOutcomes =
    (items : List Item) (start end : ℕ) (before after : View) (all : List Outcome) (h : IsRound items start end before after all)
    → AreOutcomes before.plan items start end h.news all

-- Each outcome has the version that the points of the closed areas put in force at its number, if the draws of its round are among
-- those of the closed areas.
abbrev pub DrawnAreInForce : Type 0
DrawnAreInForce =
    (p : Tables) (items : List Item) (start end : ℕ) (before news later : List (ℕ × ℕ)) (all : List Outcome) (h : HistoryValue)
    → AreOutcomes p items start end news all → AreDrawn h ((before ++ news) ++ later)
    → All (λ (o : Outcome). o.version ≡ in_force h.points o.number) all

-- One seat drew a round whole and another one judged it; then the two were joined to the whole share. That is a round in the sense of
-- `round`. `u` and `v` are the drawing seat before and after its draw, `held` and `free` the judging one, and `x` is the joined seat.
abbrev pub WholesAreRounds : Type 0
WholesAreRounds =
    (p : Tables) (items : List Item) (start end version : ℕ) (u v held free x : View) (all : List Outcome)
    → HasDrawnRound p start end (length items) version u v → HasJudgedWhole p items start version held free all
    → length u.actor.draws ≡ start → start + length items ≡ end → u.plan ≡ p → x.plan ≡ p
    → x.actor.draws ≡ v.actor.draws → HasWholeShare x → IsIdle x → IsUpTo v.seen x.seen → v.reads + free.reads ≤ x.reads
    → IsRound items start end u x all
