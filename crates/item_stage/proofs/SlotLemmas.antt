-- The marks of a round by their slots.
use Rattle.std.proofs.Common.{◌≡◌, ℕ, zero, suc, ◌<◌, List, [], ◌∷◌, ◌++◌, length, length-append, Option, Some, map, refl, ◌∙◌, ap, arith, slice_get}
use Rattle.std.specs.List.{All}
use Rattle.std.specs.Option.{option_map}
use Rattle.std.proofs.lemmas.List.{map-append}
use Rattle.std.proofs.lemmas.List.Elements.{All-head, All-tail, All-push, All-weaker}
use Rattle.std.proofs.lemmas.Option.{slice_get-map}
use Rattle.item_stage.specs.Marks.{IsPlaced, slot_mark}
use Rattle.item_stage.specs.declared.marks.Mark.{Mark}
use Rattle.item_stage.specs.declared.marks.Slot.{Slot}
use Rattle.item_stage.specs.declared.marks.Slot.TheVariants as slot

got_in_front : {X : Type 0} (xs ys : List X) (index : ℕ) → index < length xs → slice_get (xs ++ ys) index ≡ slice_get xs index
got_in_front [] ys index within = absurd (omega (arith, within))
got_in_front (x ∷ xs) ys zero within = refl
got_in_front (x ∷ xs) ys (suc index) within = got_in_front xs ys index (omega (arith, within))

got_last : {X : Type 0} (xs : List X) (x : X) → slice_get (xs ++ x ∷ []) (length xs) ≡ Some x
got_last [] x = refl
got_last (y ∷ xs) x = got_last xs x

-- ---- one mark more
module _ (marks : List Mark) (mark : Mark) where
  placed_more : (s : Slot) → IsPlaced marks s → IsPlaced (marks ++ mark ∷ []) s
  placed_more slot.Alone placed = tt
  placed_more slot.Waits placed = tt
  placed_more (slot.At place) placed = omega (arith, placed, length-append marks (mark ∷ []))

  same_mark : (s : Slot) → IsPlaced marks s → slot_mark (marks ++ mark ∷ []) s ≡ slot_mark marks s
  same_mark slot.Alone placed = refl
  same_mark slot.Waits placed = refl
  same_mark (slot.At place) placed = got_in_front marks (mark ∷ []) place placed

  same_marks : (slots : List Slot) → All (IsPlaced marks) slots → map (slot_mark (marks ++ mark ∷ [])) slots ≡ map (slot_mark marks) slots
  same_marks [] all = refl
  same_marks (s ∷ slots) all =
      let here = same_mark s (All-head (IsPlaced marks) s slots all) in
      let rest = same_marks slots (All-tail (IsPlaced marks) s slots all) in
      λ i. here i ∷ rest i

  pub placed_last : (slots : List Slot) (place : ℕ) → place ≡ length marks → All (IsPlaced marks) slots → All (IsPlaced (marks ++ mark ∷ [])) (slots ++ slot.At place ∷ [])
  placed_last slots place is all =
      All-push (IsPlaced (marks ++ mark ∷ [])) slots (slot.At place) (All-weaker (IsPlaced marks) (IsPlaced (marks ++ mark ∷ [])) placed_more slots all)
      (omega (arith, is, length-append marks (mark ∷ [])))

  pub marked_last : (slots : List Slot) (place : ℕ) → place ≡ length marks → All (IsPlaced marks) slots →
      map (slot_mark (marks ++ mark ∷ [])) (slots ++ slot.At place ∷ []) ≡ map (slot_mark marks) slots ++ Some mark ∷ []
  marked_last slots place is all =
      let same = same_marks slots all in
      let last : slice_get (marks ++ mark ∷ []) place ≡ Some mark = ap (λ (n : ℕ). slice_get (marks ++ mark ∷ []) n) is ∙ got_last marks mark in
      map-append (slot_mark (marks ++ mark ∷ [])) slots (slot.At place ∷ []) ∙ (λ i. same i ++ last i ∷ [])

-- ---- a slot that takes no mark
pub plain_last : (marks : List Mark) (slots : List Slot) (s : Slot) → map (slot_mark marks) (slots ++ s ∷ []) ≡ map (slot_mark marks) slots ++ slot_mark marks s ∷ []
plain_last marks slots s = map-append (slot_mark marks) slots (s ∷ [])

-- ---- what stands at an index
pub slot_there : (marks : List Mark) (slots : List Slot) (index : ℕ) (s : Slot) → slice_get slots index ≡ Some s → slice_get (map (slot_mark marks) slots) index ≡ Some (slot_mark marks s)
slot_there marks slots index s there =
    slice_get-map (slot_mark marks) slots index ∙ ap (λ (o : Option Slot). option_map (slot_mark marks) o) there
