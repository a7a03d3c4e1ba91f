-- The rounds of one worker.
use Rattle.std.proofs.Common.{List, refl, ℕ, ◌∷◌, ◌≡◌, ◌≢◌}
use Rattle.round_pipeline.specs.Lists.{share}
use Rattle.round_pipeline.proofs.Places.{test_other, test_same}

module _ {T : Type 0} (order : List ℕ) (w i : ℕ) (x : T) (xs : List T) where
  pub share_here : w ≡ i → share (w ∷ order) i (x ∷ xs) ≡ x ∷ share order i xs
  share_here e = rw (test_same _ _ e) refl

  pub share_there : w ≢ i → share (w ∷ order) i (x ∷ xs) ≡ share order i xs
  share_there e = rw (test_other _ _ e) refl
