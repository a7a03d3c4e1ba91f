-- One record more: what waits after it, and its entry by its mark.
use Rattle.std.proofs.Common.{◌≡◌, ℕ, suc, ◌+◌, List, [], ◌∷◌, ◌++◌, length, drop, Option, Some, sym, ◌∙◌, ap, append_assoc, arith, slice_get, subst}
use Rattle.capture_io.specs.declared.forms.Form.{Form}
use Rattle.capture_io.specs.declared.forms.Rec.{Rec}
use Rattle.item_stage.specs.Alone.{item_of}
use Rattle.item_stage.specs.Marks.{entries_by, entry_by, turning}
use Rattle.item_stage.specs.Turns.{Turn, entries_from, rows_after, turn}
use Rattle.item_stage.specs.declared.entries.Entry.{Entry}
use Rattle.item_stage.specs.declared.marks.Mark.{Mark}
use Rattle.item_stage.specs.declared.rows.Rows.{Rows}
use Rattle.item_stage.proofs.MarkLemmas.{entries_more, entries_none, left_from}

module _ (form : Form) (records : List Rec) (rows after : Rows) (mark : Option Mark) (number index next behind : ℕ) (r : Rec) (there : slice_get records index ≡ Some r)
    (came : turning after (entry_by (item_of form r.bytes) mark) ≡ turn form rows number r) (next_is : next ≡ index + 1) (behind_is : behind ≡ number + 1) where
  later : suc number ≡ behind
  later = omega (arith, behind_is)

  rest : drop (suc index) records ≡ drop next records
  rest = let e : suc index ≡ next = omega (arith, next_is) in ap (λ (n : ℕ). drop n records) e

  pub rows_step : rows_after form rows number (drop index records) ≡ rows_after form after behind (drop next records)
  rows_step =
      ap (λ (l : List Rec). rows_after form rows number l) (left_from records index r there)
      ∙ (ap (λ (t : Turn). rows_after form t.rows (suc number) (drop (suc index) records)) (sym came)
      ∙ (ap (λ (n : ℕ). rows_after form after n (drop (suc index) records)) later
      ∙ ap (λ (l : List Rec). rows_after form after behind l) rest))

  entries_left : entries_from form rows number (drop index records) ≡ entry_by (item_of form r.bytes) mark ∷ entries_from form after behind (drop next records)
  entries_left =
      ap (λ (l : List Rec). entries_from form rows number l) (left_from records index r there)
      ∙ (ap (λ (t : Turn). t.entry ∷ entries_from form t.rows (suc number) (drop (suc index) records)) (sym came)
      ∙ (ap (λ (n : ℕ). entry_by (item_of form r.bytes) mark ∷ entries_from form after n (drop (suc index) records)) later
      ∙ ap (λ (l : List Rec). entry_by (item_of form r.bytes) mark ∷ entries_from form after behind l) rest))

  pub entries_step : (marks : List (Option Mark)) (whole : List Entry) → length marks ≡ index →
      entries_by form records marks ++ entries_from form rows number (drop index records) ≡ whole →
      entries_by form records (marks ++ mark ∷ []) ++ entries_from form after behind (drop next records) ≡ whole
  entries_step marks whole size so_far =
      let here : slice_get records (length marks) ≡ Some r = ap (λ (n : ℕ). slice_get records n) size ∙ there in
      ap (λ (l : List Entry). l ++ entries_from form after behind (drop next records)) (entries_more form records marks mark r here)
      ∙ (append_assoc (entries_by form records marks) (entry_by (item_of form r.bytes) mark ∷ []) (entries_from form after behind (drop next records))
      ∙ (ap (λ (l : List Entry). entries_by form records marks ++ l) (sym entries_left) ∙ so_far))

-- ---- before any record
pub entries_start : (form : Form) (records : List Rec) (rows : Rows) (start : ℕ) (marks : List (Option Mark)) → marks ≡ [] →
    entries_by form records marks ++ entries_from form rows (start + 0) records ≡ entries_from form rows start records
entries_start form records rows start marks none =
    let same : start + 0 ≡ start = omega arith in
    ap (λ (m : List (Option Mark)). entries_by form records m ++ entries_from form rows (start + 0) records) none
    ∙ (ap (λ (l : List Entry). l ++ entries_from form rows (start + 0) records) (entries_none form records)
    ∙ ap (λ (n : ℕ). entries_from form rows n records) same)

pub rows_start : (form : Form) (records : List Rec) (rows : Rows) (start : ℕ) → rows_after form rows (start + 0) records ≡ rows_after form rows start records
rows_start form records rows start =
    let same : start + 0 ≡ start = omega arith in
    ap (λ (n : ℕ). rows_after form rows n records) same

-- ---- as the loop reads it
module _ (form : Form) (records : List Rec) (rows after : Rows) (marks pushed : List (Option Mark)) (mark : Option Mark) (start index number : ℕ) (r : Rec) (there : slice_get records index ≡ Some r)
    (came : turning after (entry_by (item_of form r.bytes) mark) ≡ turn form rows number r) (number_is : number ≡ start + index) where
  came_here : turning after (entry_by (item_of form r.bytes) mark) ≡ turn form rows (start + index) r
  came_here = subst (λ (n : ℕ). turning after (entry_by (item_of form r.bytes) mark) ≡ turn form rows n r) number_is came

  behind : start + (index + 1) ≡ (start + index) + 1
  behind = omega arith

  one : index + 1 ≡ index + 1
  one = omega arith

  pub next_rows : (whole : Rows) → rows_after form rows (start + index) (drop index records) ≡ whole → rows_after form after (start + (index + 1)) (drop (index + 1) records) ≡ whole
  next_rows whole so_far =
      sym (rows_step form records rows after mark (start + index) index (index + 1) (start + (index + 1)) r there came_here one behind) ∙ so_far

  pub next_entries : (whole : List Entry) → length marks ≡ index → pushed ≡ marks ++ mark ∷ [] →
      entries_by form records marks ++ entries_from form rows (start + index) (drop index records) ≡ whole →
      entries_by form records pushed ++ entries_from form after (start + (index + 1)) (drop (index + 1) records) ≡ whole
  next_entries whole size push so_far =
      ap (λ (m : List (Option Mark)). entries_by form records m ++ entries_from form after (start + (index + 1)) (drop (index + 1) records)) push
      ∙ entries_step form records rows after mark (start + index) index (index + 1) (start + (index + 1)) r there came_here one behind marks whole size so_far
