-- Lists of rounds, the latest first. Ours.
use Rattle.std.specs.Prelude.{Bool, List, None, Option, Some, cond, false, suc, true, zero, ℕ, [], ◌+◌, ◌<◌, ◌∷◌, ◌++◌, ◌==◌}
use Rattle.round_pipeline.specs.declared.rings.Returned.{Returned}

module _ {T : Type 0} where
  -- the latest last
  abbrev pub in_order : List T → List T
  in_order [] = []
  in_order (x ∷ xs) = in_order xs ++ x ∷ []

  -- as they lie in a ring
  abbrev pub told : List T → List (Option T)
  told [] = []
  told (x ∷ xs) = told xs ++ Some x ∷ []

  -- what lies behind them in the ring: the end, if it was sent
  abbrev pub ends : Bool → List (Option T)
  ends false = []
  ends true = None ∷ []

  -- the rounds of one worker, by who had each turn
  abbrev pub share : List ℕ → ℕ → List T → List T
  share [] i xs = []
  share (w ∷ order) i [] = []
  share (w ∷ order) i (x ∷ xs) = cond (w == i) (x ∷ share order i xs) (share order i xs)

  -- buffers that come back while the sink goes on
  abbrev pub fresh : List T → List (Returned T)
  fresh [] = []
  fresh (x ∷ xs) = record { buffer = x; over = false } ∷ fresh xs

  -- the buffers alone
  abbrev pub buffers : List (Returned T) → List T
  buffers [] = []
  buffers (b ∷ bs) = b.buffer ∷ buffers bs

  -- how many rounds the sink took without ending
  abbrev pub put_well : List (Returned T) → ℕ
  put_well [] = 0
  put_well (b ∷ bs) = cond b.over (put_well bs) (suc (put_well bs))

-- all are workers
abbrev pub AreBelow : ℕ → List ℕ → Type 0
AreBelow n [] = Unit {0}
AreBelow n (w ∷ order) = (w < n) × AreBelow n order

-- f 0 + .. + f (n - 1)
abbrev pub total : (ℕ → ℕ) → ℕ → ℕ
total f zero = 0
total f (suc n) = total f n + f n
