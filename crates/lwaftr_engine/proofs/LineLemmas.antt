-- Lines that are put behind nothing.
use Rattle.lwaftr_engine.proofs.Words.{◌≡◌, ℕ, List, [], ◌++◌, ◌∙◌, ap}

pub behind_none : (f : List ℕ → List ℕ) (before now : List ℕ) (seen numbers : List ℕ) → before ≡ [] → now ≡ before ++ f seen → seen ≡ numbers → now ≡ f numbers
behind_none f before now seen numbers none put same = put ∙ (ap (λ l. l ++ f seen) none ∙ ap f same)

pub behind_nothing : (before now seen : List ℕ) → before ≡ [] → now ≡ before ++ seen → now ≡ seen
behind_nothing before now seen none put = put ∙ ap (λ l. l ++ seen) none
