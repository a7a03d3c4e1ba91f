-- The entries of records by their marks.
use Rattle.std.proofs.Common.{◌≡◌, ℕ, zero, suc, ◌<◌, ◌≤◌, List, [], ◌∷◌, ◌++◌, length, drop, Option, Some, None, refl, sym, ◌∙◌, ap, arith, slice_get, get_or}
use Rattle.std.specs.Option.{option_map}
use Rattle.std.proofs.lemmas.List.{length-map}
use Rattle.std.proofs.lemmas.Option.{slice_get-get_or, slice_get-map}
use Rattle.capture_io.specs.declared.forms.Form.{Form}
use Rattle.capture_io.specs.declared.forms.Rec.{Rec}
use Rattle.ip_codec.specs.declared.items.Item.{Item}
use Rattle.item_stage.specs.Alone.{item_of}
use Rattle.item_stage.specs.Items.{items_in}
use Rattle.item_stage.specs.Marks.{entries_by, entry_by, outcome_item}
use Rattle.item_stage.specs.declared.entries.Entry.{Entry}
use Rattle.item_stage.specs.declared.marks.Mark.{Mark}

abbrev blank : Rec
blank = record { seconds = 0; fraction = 0; bytes = []; next_at = 0 }

pub entries_none : (form : Form) (records : List Rec) → entries_by form records [] ≡ []
entries_none form [] = refl
entries_none form (r ∷ records) = refl

pub entries_bare : (form : Form) (records : List Rec) (marks : List (Option Mark)) → marks ≡ [] → entries_by form records marks ≡ []
entries_bare form records marks none = ap (λ (m : List (Option Mark)). entries_by form records m) none ∙ entries_none form records

-- one mark more
pub entries_more : (form : Form) (records : List Rec) (marks : List (Option Mark)) (mark : Option Mark) (r : Rec) → slice_get records (length marks) ≡ Some r →
    entries_by form records (marks ++ mark ∷ []) ≡ entries_by form records marks ++ entry_by (item_of form r.bytes) mark ∷ []
entries_more form [] marks mark r there = cc
entries_more form (s ∷ records) [] mark r there =
    let same : s ≡ r = cc in
    ap (λ (l : List Entry). entry_by (item_of form s.bytes) mark ∷ l) (entries_none form records)
    ∙ ap (λ (x : Rec). entry_by (item_of form x.bytes) mark ∷ []) same
entries_more form (s ∷ records) (m ∷ marks) mark r there =
    ap (λ (l : List Entry). entry_by (item_of form s.bytes) m ∷ l) (entries_more form records marks mark r there)

pub entries_length : (form : Form) (records : List Rec) (marks : List (Option Mark)) → length marks ≤ length records →
    length (entries_by form records marks) ≡ length marks
entries_length form [] [] fits = refl
entries_length form [] (m ∷ marks) fits = absurd (omega (arith, fits))
entries_length form (r ∷ records) [] fits = refl
entries_length form (r ∷ records) (m ∷ marks) fits = ap suc (entries_length form records marks (omega (arith, fits)))

-- what stands at an index
pub entry_at : (form : Form) (records : List Rec) (marks : List (Option Mark)) (index : ℕ) (r : Rec) (mark : Option Mark) → slice_get records index ≡ Some r →
    slice_get marks index ≡ Some mark → slice_get (entries_by form records marks) index ≡ Some (entry_by (item_of form r.bytes) mark)
entry_at form [] marks index r mark there here = cc
entry_at form (s ∷ records) [] index r mark there here = cc
entry_at form (s ∷ records) (m ∷ marks) zero r mark there here =
    let same : s ≡ r = cc in
    let also : m ≡ mark = cc in
    ap (λ (x : Rec). Some (entry_by (item_of form x.bytes) m)) same ∙ ap (λ (x : Option Mark). Some (entry_by (item_of form r.bytes) x)) also
entry_at form (s ∷ records) (m ∷ marks) (suc index) r mark there here = entry_at form records marks index r mark there here

-- what is left from an index on
pub left_from : (records : List Rec) (index : ℕ) (r : Rec) → slice_get records index ≡ Some r → drop index records ≡ r ∷ drop (suc index) records
left_from [] index r there = cc
left_from (s ∷ records) zero r there = let same : s ≡ r = cc in ap (λ (x : Rec). x ∷ records) same
left_from (s ∷ records) (suc index) r there = left_from records index r there

-- ---- as the calls read them
pub items_length : (es : List Entry) → length es ≡ length (items_in es)
items_length es = sym (length-map es (λ (entry : Entry). entry.item))

pub within_items : (es : List Entry) (index : ℕ) → index < length (items_in es) → index < length es
within_items es index l = omega (arith, l, length-map es (λ (entry : Entry). entry.item))

module _ (form : Form) (records : List Rec) (marks : List (Option Mark)) (es : List Entry) (is : entries_by form records marks ≡ es) (fits : length marks ≤ length records) where
  pub count_is : length marks ≡ length es
  count_is =
      let seen : length (entries_by form records marks) ≡ length es = ap (λ (l : List Entry). length l) is in
      sym (entries_length form records marks fits) ∙ seen

  module _ (index : ℕ) where
    pub within_marks : index < length es → index < length marks
    within_marks l = omega (arith, l, count_is)

    pub within_records : index < length es → index < length records
    within_records l = omega (arith, within_marks l, fits)

    -- the entry of the record at the index, by its mark
    entry_there : (mark : Option Mark) → index < length es → slice_get marks index ≡ Some mark →
        slice_get es index ≡ Some (entry_by (item_of form (get_or records index blank).bytes) mark)
    entry_there mark l read =
        sym (ap (λ (x : List Entry). slice_get x index) is)
        ∙ entry_at form records marks index (get_or records index blank) mark (slice_get-get_or records index blank (within_records l)) read

    pub ended_by_mark : (slot : Option Mark) (mark : Mark) (ended : List ℕ) → index < length es → slice_get marks index ≡ Some slot → slot ≡ Some mark → ended ≡ mark.ended →
        option_map (λ (entry : Entry). entry.ended) (slice_get es index) ≡ Some ended
    ended_by_mark slot mark ended l read is_mark what =
        let there = entry_there slot l read in
        ap (λ (o : Option Entry). option_map (λ (entry : Entry). entry.ended) o) there
        ∙ (ap (λ (m : Option Mark). Some (entry_by (item_of form (get_or records index blank).bytes) m).ended) is_mark
        ∙ ap (λ (n : List ℕ). Some n) (sym what))

    pub none_ended : (slot : Option Mark) → index < length es → slice_get marks index ≡ Some slot → slot ≡ None →
        option_map (λ (entry : Entry). entry.ended) (slice_get es index) ≡ Some []
    none_ended slot l read is_none =
        ap (λ (o : Option Entry). option_map (λ (entry : Entry). entry.ended) o) (entry_there slot l read)
        ∙ ap (λ (m : Option Mark). Some (entry_by (item_of form (get_or records index blank).bytes) m).ended) is_none

    item_there : (slot : Option Mark) → index < length es → slice_get marks index ≡ Some slot →
        slice_get (items_in es) index ≡ Some (entry_by (item_of form (get_or records index blank).bytes) slot).item
    item_there slot l read =
        slice_get-map (λ (entry : Entry). entry.item) es index ∙ ap (λ (o : Option Entry). option_map (λ (entry : Entry). entry.item) o) (entry_there slot l read)

    pub item_by_mark : (slot : Option Mark) (mark : Mark) (what : Item) → index < length es → slice_get marks index ≡ Some slot → slot ≡ Some mark → what ≡ outcome_item mark.outcome →
        slice_get (items_in es) index ≡ Some what
    item_by_mark slot mark what l read is_mark said =
        item_there slot l read
        ∙ (ap (λ (m : Option Mark). Some (entry_by (item_of form (get_or records index blank).bytes) m).item) is_mark
        ∙ ap (λ (x : Item). Some x) (sym said))

    pub item_alone_there : (slot : Option Mark) (r : Rec) (what : Item) → index < length es → slice_get marks index ≡ Some slot → slot ≡ None → slice_get records index ≡ Some r →
        what ≡ item_of form r.bytes → slice_get (items_in es) index ≡ Some what
    item_alone_there slot r what l read is_none there said =
        let same : get_or records index blank ≡ r =
        some_same (get_or records index blank) r (sym (slice_get-get_or records index blank (within_records l)) ∙ there) in
        item_there slot l read
        ∙ (ap (λ (m : Option Mark). Some (entry_by (item_of form (get_or records index blank).bytes) m).item) is_none
        ∙ (ap (λ (x : Rec). Some (item_of form x.bytes)) same
        ∙ ap (λ (x : Item). Some x) (sym said)))
      where
        some_same : (a b : Rec) → Some a ≡ Some b → a ≡ b
        some_same a b e = cc
