-- Which errors a limit lets through. RFC 4443, section 2.4 (f), asks for a limit on the errors that a node sends and names
-- the token bucket; the rate, the depth and the capture's time as clock are ours.
use Rattle.std.specs.Prelude.{◌≡◌, ◌↔◌, ◌⊎◌, ℕ, ◌+◌, ◌-◌, ◌*◌, ◌<◌, ◌≤◌, max, Bool, true, false, List, [], ◌∷◌, ◌++◌, length, take, drop, get_or}
use Rattle.std.specs.List.{count_by}

-- nanoseconds
abbrev pub second : ℕ
second = 1000000000

-- the latest of the times, or 0 where there are none
abbrev pub latest : List ℕ → ℕ
latest [] = 0
latest (time ∷ times) = max time (latest times)

-- the moment at which member s of a list of times counts: time never goes back, so it is the latest of the first s + 1
abbrev pub moment : List ℕ → ℕ → ℕ
moment times s = latest (take (s + 1) times)

-- how many were sent from member s on
abbrev pub sent_from : List Bool → ℕ → ℕ
sent_from marks s = count_by (λ sent. sent) (drop s marks)

-- One more error may be sent at this time: over every span from an earlier one that was sent, and by itself, there are then at
-- most as many as the bucket holds (one second's worth) and the time of the span gives.
pub record MayPass (rate : ℕ) (times : List ℕ) (marks : List Bool) (time : ℕ) : Type 0 where
  pub alone : 1 * second ≤ rate * second
  pub spans : (s : ℕ) → get_or marks s false ≡ true
      → (sent_from marks s + 1) * second ≤ rate * second + rate * (latest (times ++ time ∷ []) - moment times s)

-- Which members of a list of times are sent: each exactly where it may pass behind those before it.
pub record IsMarked (rate : ℕ) (times : List ℕ) (marks : List Bool) : Type 0 where
  pub size : length marks ≡ length times
  pub each : (j : ℕ) → j < length times
      → (get_or marks j false ≡ true) ↔ MayPass rate (take j times) (take j marks) (get_or times j 0)

-- what a limiter keeps: errors a second, the level of its bucket in billionths of an error, and the latest time
pub record Bucket : Type 0 where
  pub rate : ℕ
  pub level : ℕ
  pub time : ℕ

-- a span that starts at an error that was sent fills the bucket to its level
pub record IsFilled (b : Bucket) (times : List ℕ) (marks : List Bool) : Type 0 where
  pub s : ℕ
  pub sent : get_or marks s false ≡ true
  pub level : sent_from marks s * second ≡ b.level + b.rate * (b.time - moment times s)

-- A limiter stands for the times that it was asked about, with those marks: its level is the greatest that a span of errors
-- sent has left.
pub record Stands (b : Bucket) (times : List ℕ) (marks : List Bool) : Type 0 where
  pub marked : IsMarked b.rate times marks
  pub time : b.time ≡ latest times
  pub most : (s : ℕ) → get_or marks s false ≡ true → sent_from marks s * second ≤ b.level + b.rate * (b.time - moment times s)
  pub some : (b.level ≡ 0) ⊎ IsFilled b times marks
