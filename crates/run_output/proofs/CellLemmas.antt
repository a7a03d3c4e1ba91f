-- The records of a round, by their places.
use Rattle.std.proofs.Common.{◌≡◌, ℕ, zero, suc, ◌+◌, ◌<◌, Bool, List, [], ◌∷◌, length, drop, Option, Some, slice_get, sym, ◌∙◌, ap, refl, arith}
use Rattle.std.specs.Option.{option_map}
use Rattle.std.specs.Prelude.{slice_index_or}
use Rattle.std.proofs.lemmas.Option.{slice_get-map}
use Rattle.capture_io.specs.declared.forms.Rec.{Rec}
use Rattle.item_stage.specs.Items.{items_in}
use Rattle.item_stage.specs.declared.entries.Entry.{Entry}
use Rattle.run_output.specs.Cells.{Cell, cell_of, cells}
use Rattle.worker_gate.specs.declared.outcomes.Outcome.{Outcome}

same_cell : (n m : ℕ) (x r : Rec) (e f : Entry) (p o : Outcome) (a l : Bool) → n ≡ m → x ≡ r → e ≡ f → p ≡ o → a ≡ l →
    cell_of n x e p a ≡ cell_of m r f o l
same_cell n m x r e f p o a l number rec entry outcome limited = λ j. cell_of (number j) (rec j) (entry j) (outcome j) (limited j)

-- what stands at a place is the first of the rest
pub cell_there : (n : ℕ) (rs : List Rec) (es : List Entry) (os : List Outcome) (ls : List Bool) (k : ℕ) (r : Rec) (f : Entry) (o : Outcome) (l : Bool) →
    slice_get rs k ≡ Some r → slice_get es k ≡ Some f → slice_get os k ≡ Some o → slice_get ls k ≡ Some l →
    drop k (cells n rs es os ls) ≡ cell_of (n + k) r f o l ∷ drop (suc k) (cells n rs es os ls)
cell_there n [] es os ls k r f o l rec entry outcome limited = absurd (cc rec)
cell_there n (x ∷ rs) [] os ls k r f o l rec entry outcome limited = absurd (cc entry)
cell_there n (x ∷ rs) (e ∷ es) [] ls k r f o l rec entry outcome limited = absurd (cc outcome)
cell_there n (x ∷ rs) (e ∷ es) (p ∷ os) [] k r f o l rec entry outcome limited = absurd (cc limited)
cell_there n (x ∷ rs) (e ∷ es) (p ∷ os) (a ∷ ls) zero r f o l rec entry outcome limited =
    ap (λ (c : Cell). c ∷ cells (n + 1) rs es os ls)
    (same_cell n (n + 0) x r e f p o a l (omega arith) (cc rec) (cc entry) (cc outcome) (cc limited))
cell_there n (x ∷ rs) (e ∷ es) (p ∷ os) (a ∷ ls) (suc k) r f o l rec entry outcome limited =
    let place : n + 1 + k ≡ n + suc k = omega arith in
    cell_there (n + 1) rs es os ls k r f o l rec entry outcome limited
    ∙ ap (λ (m : ℕ). cell_of m r f o l ∷ drop (suc k) (cells (n + 1) rs es os ls)) place

-- there is one for each record
pub cells_length : (n : ℕ) (rs : List Rec) (es : List Entry) (os : List Outcome) (ls : List Bool) → length es ≡ length rs → length os ≡ length rs → length ls ≡ length rs →
    length (cells n rs es os ls) ≡ length rs
cells_length n [] es os ls a b c = refl
cells_length n (r ∷ rs) [] os ls a b c = absurd (omega (arith, a))
cells_length n (r ∷ rs) (e ∷ es) [] ls a b c = absurd (omega (arith, b))
cells_length n (r ∷ rs) (e ∷ es) (o ∷ os) [] a b c = absurd (omega (arith, c))
cells_length n (r ∷ rs) (e ∷ es) (o ∷ os) (l ∷ ls) a b c =
    ap suc (cells_length (n + 1) rs es os ls (omega (arith, a)) (omega (arith, b)) (omega (arith, c)))

-- what is read at a place
pub mark_read : (ls : List Bool) (k : ℕ) (d : Bool) → k < length ls → slice_get ls k ≡ Some (slice_index_or ls k d)
mark_read [] k d inside = absurd (omega (arith, inside))
mark_read (x ∷ ls) zero d inside = refl
mark_read (x ∷ ls) (suc k) d inside = mark_read ls k d (omega (arith, inside))

-- ---- entries by their indexes
pub entry_there : (es : List Entry) (k : ℕ) → k < length es → (e : Entry) × (slice_get es k ≡ Some e)
entry_there [] k inside = absurd (omega (arith, inside))
entry_there (e ∷ es) zero inside = (e, refl)
entry_there (e ∷ es) (suc k) inside = entry_there es k (omega (arith, inside))

pub item_there : (es : List Entry) (k : ℕ) (e : Entry) → slice_get es k ≡ Some e → slice_get (items_in es) k ≡ Some e.item
item_there es k e there =
    slice_get-map (λ (entry : Entry). entry.item) es k ∙ ap (λ (o : Option Entry). option_map (λ (entry : Entry). entry.item) o) there

pub ended_there : (es : List Entry) (k : ℕ) (e : Entry) (ended : List ℕ) → option_map (λ entry. entry.ended) (slice_get es k) ≡ Some ended →
    slice_get es k ≡ Some e → ended ≡ e.ended
ended_there es k e ended told there =
    let same : Some ended ≡ Some e.ended = sym told ∙ ap (λ (o : Option Entry). option_map (λ (entry : Entry). entry.ended) o) there in
    cc
