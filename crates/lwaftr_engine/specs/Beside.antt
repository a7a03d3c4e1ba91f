-- Rounds of which each is judged by one side, while the other one writes what the round before wrote and reads the next one. Ours.
use Rattle.std.specs.Prelude.{Err, IfOk, IsOk, List, None, Ok, Result, ℕ, [], ◌++◌, ◌∷◌, ◌≡◌}
use Rattle.lwaftr_engine.specs.Words.{Fault, Pending, Round, Router}
use Rattle.lwaftr_engine.specs.declared.beside.Assignment.{Assignment}
use Rattle.lwaftr_engine.specs.declared.beside.Report.{Report}
use Rattle.lwaftr_engine.specs.Progress.{Setup, Spot}
use Rattle.lwaftr_engine.specs.Worlds.{Halves}
use Rattle.lwaftr_engine.specs.Underway.{PutsAndReads, StaysOnDuty, WentWell, steps_of}

-- a round that went over to be judged, and what came back
pub record Exchange : Type 0 where
  pub assignment : Assignment
  pub report : Report

-- what went over, oldest first, of exchanges of which the latest is the first
abbrev pub assignments : List Exchange → List Assignment
assignments [] = []
assignments (e ∷ es) = assignments es ++ e.assignment ∷ []

abbrev pub reports : List Exchange → List Report
reports [] = []
reports (e ∷ es) = reports es ++ e.report ∷ []

-- the number behind the last of these rounds
abbrev pub reached_from : ℕ → List Assignment → ℕ
reached_from number [] = number
reached_from number (a ∷ later) = reached_from a.round.number later

abbrev pub reached : List Assignment → ℕ
reached all = reached_from 0 all

-- what the side that judges makes of a round
pub record Judges (x : Setup) (before now : Router) (e : Exchange) : Type 0 where
  pub duty : StaysOnDuty before.shift now.shift e.assignment.round.number
  pub well : IfOk e.report.judged (λ _. WentWell x before now e.assignment.round e.report.made)

abbrev pub HaveJudged : Setup → Router → List Exchange → Router → Type 0
HaveJudged x start [] now = now ≡ start
HaveJudged x start (e ∷ es) now = (before : Router) × HaveJudged x start es before × Judges x before now e

-- what that side took and gave
pub record HaveTaken (x : Setup) (start now : Router) (took : List Assignment) (gave : List Report) : Type 0 where
  pub exchanges : List Exchange
  pub took_are : took ≡ assignments exchanges
  pub gave_are : gave ≡ reports exchanges
  pub judged : HaveJudged x start exchanges now

-- Where the side of the files stands: what it wrote, the reader, the round that is not judged yet, and what is not written yet.
pub record Standing (C : Type 0) : Type 0 where
  pub files : Halves
  pub reader : C
  pub round : Round
  pub pending : Pending

abbrev pub standing : {C : Type 0} → Halves → C → Round → Pending → Standing C
standing files reader round pending = record { files = files; reader = reader; round = round; pending = pending }

module _ {C : Type 0} (x : Setup) (place : C → Spot) (Ready : C → ℕ → Type 0) where
  -- what it makes of an exchange, where the files, the reader and what was read are these
  pub record Hands (before : Standing C) (e : Exchange) (files : Halves) (reader : C) (r : Result Round Fault) : Type 0 where
    pub asked : e.assignment.round ≡ before.round
    pub going : before.round.ending ≡ None
    pub outside : PutsAndReads x (steps_of before.pending) before.round.number (place before.reader) (place reader) (Ready reader) before.files files r

  -- the exchange went well
  pub record Fetches (before now : Standing C) (e : Exchange) : Type 0 where
    pub handed : Hands before e now.files now.reader (Ok now.round)
    pub judged : IsOk e.report.judged
    pub made : now.pending ≡ e.report.made

  abbrev pub HaveFetched : Standing C → List Exchange → Standing C → Type 0
  HaveFetched start [] now = now ≡ start
  HaveFetched start (e ∷ es) now = (before : Standing C) × HaveFetched start es before × Fetches before now e

  -- the last exchange did not go well
  abbrev pub HaveBroken : Standing C → List Exchange → Halves → C → Fault → Type 0
  HaveBroken start [] files reader fault = ⊥
  HaveBroken start (e ∷ es) files reader fault = (before : Standing C) × HaveFetched start es before × Hands before e files reader (Err fault)

  abbrev pub HaveEnded : {T : Type 0} → Standing C → List Exchange → Standing C → Result T Fault → Type 0
  HaveEnded start es now (Ok done) = HaveFetched start es now
  HaveEnded start es now (Err fault) = HaveBroken start es now.files now.reader fault

  -- what that side asked and heard, however it ended
  pub record Asks {T : Type 0} (start now : Standing C) (asked : List Assignment) (heard : List Report) (r : Result T Fault) : Type 0 where
    pub exchanges : List Exchange
    pub asked_are : asked ≡ assignments exchanges
    pub heard_are : heard ≡ reports exchanges
    pub ended : HaveEnded start exchanges now r

  -- what both sides did
  pub record Go {T : Type 0} (start now : Standing C) (began router : Router) (r : Result T Fault) : Type 0 where
    pub exchanges : List Exchange
    pub judged : HaveJudged x began exchanges router
    pub ended : HaveEnded start exchanges now r
