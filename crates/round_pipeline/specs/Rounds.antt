-- What a run makes of its rounds. The latest is the first of each list. Ours.
use Rattle.std.specs.Prelude.{Bool, IsSome, List, None, Option, Some, false, is_some, length, slice_index_or, true, ℕ, [], ◌+◌, ◌++◌, ◌<◌, ◌≤◌, ◌∷◌, ◌≡◌, ◌⊎◌}
use Rattle.round_pipeline.specs.declared.rings.Returned.{Returned}
use Rattle.round_pipeline.specs.Lists.{AreBelow, buffers, in_order, put_well, share, total}

module _ {S T : Type 0} (fills : S → T → S → T → Bool → Type 0) where
  -- rooms were filled to rounds; each but the latest said that more may come, and `more` is what the latest said
  abbrev pub AreFilled : S → List T → List T → S → Bool → Type 0
  AreFilled start [] [] now more = (now ≡ start) × (more ≡ true)
  AreFilled start (a ∷ rooms) (r ∷ rounds) now more =
      (before : S) × AreFilled start rooms rounds before true × fills before a now r more
  AreFilled start _ _ now more = ⊥

module _ {J T : Type 0} (judges : J → T → J → T → Type 0) where
  -- a judge made products of rounds, in order
  abbrev pub AreJudged : J → List T → List T → J → Type 0
  AreJudged start [] [] now = now ≡ start
  AreJudged start (r ∷ rounds) (p ∷ products) now = (before : J) × AreJudged start rounds products before × judges before r now p
  AreJudged start _ _ now = ⊥

module _ {W T E : Type 0} (puts : W → T → W → T → Option E → Type 0) where
  -- a round is put, unless the sink has ended; then its buffer comes back as it is
  abbrev pub IsPut : W → Option E → T → W → Option E → T → Type 0
  IsPut before None product now answer back = puts before product now back answer
  IsPut before (Some end) product now answer back = (now ≡ before) × (answer ≡ Some end) × (back ≡ product)

  -- products were put in order, and each buffer came back with the word whether the sink has ended
  abbrev pub ArePut : W → List T → List (Returned T) → W → Option E → Type 0
  ArePut start [] [] now answer = (now ≡ start) × (answer ≡ None)
  ArePut start (p ∷ products) (b ∷ backs) now answer =
      (before : W) × (earlier : Option E) × ArePut start products backs before earlier × IsPut before earlier p now answer b.buffer × (b.over ≡ is_some answer)
  ArePut start _ _ now answer = ⊥

module _ {S J W T E : Type 0} (fills : S → T → S → T → Bool → Type 0) (judges : J → T → J → T → Type 0) (puts : W → T → W → T → Option E → Type 0) where
  -- Rounds were read in order, each by a turn of one worker; each judge made products of its rounds, in order; the products were put in the order of the rounds.
  -- `team` are the judges, `before` and `after` the buffers of each worker, the oldest first.
  pub record HasRun (n : ℕ) (source : S) (team : List J) (sink : W) (before : List (List T))
      (source' : S) (team' : List J) (sink' : W) (after : List (List T)) (answer : Option E) : Type 0 where
    pub order : List ℕ
    pub rooms : List T
    pub rounds : List T
    pub products : List T
    pub backs : List (Returned T)
    pub more : Bool
    -- whose turn each was
    pub below : AreBelow n order
    pub many : (length rounds ≡ length order) × (length products ≡ length order)
    pub filled : AreFilled fills source rooms rounds source' more
    pub judged : (i : ℕ) (d : J) → i < n → AreJudged judges (slice_index_or team i d) (share order i rounds) (share order i products) (slice_index_or team' i d)
    pub put : ArePut puts sink products backs sink' answer
    -- a worker's rounds go into its own buffers, then into those that came back from its earlier rounds, in order
    pub belt : (i : ℕ) → i < n → in_order (share order i rooms) ++ slice_index_or after i [] ≡ slice_index_or before i [] ++ buffers (in_order (share order i backs))
    -- no more rounds than there are buffers were read and not put
    pub in_vain : length order ≤ total (λ i. length (slice_index_or before i [])) n + put_well backs
    -- the source gave its last round, or the sink ended
    pub ended : (more ≡ false) ⊎ IsSome answer
