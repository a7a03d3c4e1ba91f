-- Words that are taken apart.
use Rattle.std.proofs.Common.{◌≡◌, ℕ, suc, ◌<◌, List, ◌∷◌, drop, Option, None, sym, ◌∙◌, ap}
use Rattle.std.specs.Prelude.{length, slice_index_or}
use Rattle.std.specs.Borrow.{Bor}
use Rattle.std.proofs.Math.Seq.{drop-cons}
use Rattle.aftr_text.specs.Parts.{Parts, parts_of, texts}
use Rattle.aftr_text.specs.Seen.{joined}
use Rattle.aftr_text.specs.declared.parts.Slot.{Slot}

-- a word that is refused leaves nothing of all the words
pub refused : (p : Parts) (waiting : Option Slot) (words : List (Bor (List ℕ))) (at : ℕ) (d : Bor (List ℕ)) → at < length words
    → joined p (parts_of waiting (texts (drop at words))) ≡ parts_of None (texts words)
    → ((rest : List (List ℕ)) → parts_of waiting ((slice_index_or words at d).now ∷ rest) ≡ None)
    → parts_of None (texts words) ≡ None
refused p waiting words at d inside before none =
    sym before ∙ ap (λ (l : List (Bor (List ℕ))). joined p (parts_of waiting (texts l))) (drop-cons words at d inside)
    ∙ ap (joined p) (none (texts (drop (suc at) words)))
