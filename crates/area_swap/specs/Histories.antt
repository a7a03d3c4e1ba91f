-- What is left of closed areas.
use Rattle.std.specs.Prelude.{◌≡◌, ℕ, ◌<◌, ◌==◌, List, length, count_by, All}
use Rattle.swap_core.specs.Plans.{Tables, IsPlan}
use Rattle.swap_core.specs.Points.{in_force, AreInWindows}
use Rattle.swap_core.specs.Sound.{once_below}

-- The plan of the areas, the points, the number of records drawn, and how many words of the areas were read.
pub record HistoryValue : Type 0 where
  pub plan : Tables
  pub points : List ℕ
  pub records : ℕ
  pub reads : ℕ

-- These draws are all: the numbers below `records`, each once, each under the version in force at it.
pub record AreDrawn (h : HistoryValue) (draws : List (ℕ × ℕ)) : Type 0 where
  pub all : length draws ≡ h.records
  pub each_once : (number : ℕ) → count_by (λ (d : ℕ × ℕ). d.0 == number) draws ≡ once_below number h.records
  pub under : All (λ (d : ℕ × ℕ). d.1 ≡ in_force h.points d.0) draws

-- There is a table for each point; the points are in their windows, and some draws made all the numbers.
pub record IsHistory (h : HistoryValue) : Type 0 where
  pub planned : IsPlan h.plan
  pub few : length h.points < length h.plan.tables
  pub placed : AreInWindows h.plan.windows h.points h.records
  pub draws : List (ℕ × ℕ)
  pub drawn : AreDrawn h draws
