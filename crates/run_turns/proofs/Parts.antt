-- Parts of a list that are fronts of it.
use Rattle.run_turns.proofs.Words.{◌≡◌, ℕ, List, ◌++◌, length, take, drop, sym, ◌∙◌, ap, append_assoc, take-append-drop, take-append_seam, IsFrontOf, []}
use Rattle.run_turns.proofs.Words.{append-nil, take-length}

-- what stands before something more is a front of both
pub front_of : {A : Type 0} (whole part rest : List A) → whole ≡ part ++ rest → part ≡ take (length part) whole
front_of {A} whole part rest is = sym (take-append_seam part rest) ∙ ap (λ (l : List A). take (length part) l) (sym is)

-- so is a part of it
pub front_part : {A : Type 0} (whole first rest : List A) (count : ℕ) → whole ≡ first ++ rest → take count first ≡ take (length (take count first)) whole
front_part {A} whole first rest count is =
    front_of whole (take count first) (drop count first ++ rest)
    (is ∙ (ap (λ (l : List A). l ++ rest) (sym (take-append-drop count first)) ∙ append_assoc (take count first) (drop count first) rest))

-- with a part of the next list it is a front of both and what follows
pub front_more : (whole part next rest : List ℕ) (count : ℕ) → whole ≡ (part ++ next) ++ rest →
    part ++ take count next ≡ take (length (part ++ take count next)) whole
front_more whole part next rest count is =
    front_of whole (part ++ take count next) (drop count next ++ rest)
    (is ∙ (ap (λ (l : List ℕ). (part ++ l) ++ rest) (sym (take-append-drop count next)) ∙ simp append_assoc))

-- a list is a front of itself
pub all_of : (list : List ℕ) → IsFrontOf list list
all_of list = (length list, sym (take-length list))

pub all_alone : (list : List ℕ) → IsFrontOf list (list ++ [])
all_alone list = (length list, append-nil list ∙ sym (take-length list))

-- so is a front of what stands in the middle, behind what stands before it
pub front_in : (whole first next rest part : List ℕ) → whole ≡ (first ++ next) ++ rest → IsFrontOf next part → IsFrontOf whole (first ++ part)
front_in whole first next rest part is (count, same) =
    (length (first ++ take count next), ap (λ (l : List ℕ). first ++ l) same ∙ front_more whole first next rest count is)

-- and where nothing follows
pub front_at_end : (whole first next part : List ℕ) → first ++ next ≡ whole → IsFrontOf next part → IsFrontOf whole (first ++ part)
front_at_end whole first next part is front = front_in whole first next [] part (sym is ∙ sym (append-nil (first ++ next))) front
