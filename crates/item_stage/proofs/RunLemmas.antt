-- Records one behind the other: what waits after them, and their entries.
use Rattle.std.proofs.Common.{◌≡◌, ℕ, suc, ◌+◌, List, [], ◌∷◌, ◌++◌, length, sym, ◌∙◌, ap, subst, arith, length-append, Bool}
use Rattle.capture_io.specs.declared.forms.Form.{Form}
use Rattle.capture_io.specs.declared.forms.Rec.{Rec}
use Rattle.item_stage.specs.Items.{entries_of, rows_of}
use Rattle.item_stage.specs.Stages.{Staged, Stands}
use Rattle.item_stage.specs.Turns.{entries_from, no_rows, rows_after, turn}
use Rattle.item_stage.specs.declared.entries.Entry.{Entry}
use Rattle.item_stage.specs.declared.rows.Rows.{Rows}

pub rows_join : (form : Form) (rows : Rows) (number : ℕ) (front back : List Rec) →
    rows_after form rows number (front ++ back) ≡ rows_after form (rows_after form rows number front) (number + length front) back
rows_join form rows number [] back = ap (λ (n : ℕ). rows_after form rows n back) (omega arith)
rows_join form rows number (r ∷ front) back =
    rows_join form (turn form rows number r).rows (suc number) front back
    ∙ ap (λ (n : ℕ). rows_after form (rows_after form (turn form rows number r).rows (suc number) front) n back) (omega arith)

pub entries_join : (form : Form) (rows : Rows) (number : ℕ) (front back : List Rec) →
    entries_from form rows number (front ++ back)
    ≡ entries_from form rows number front ++ entries_from form (rows_after form rows number front) (number + length front) back
entries_join form rows number [] back = ap (λ (n : ℕ). entries_from form rows n back) (omega arith)
entries_join form rows number (r ∷ front) back =
    ap (λ (l : List Entry). (turn form rows number r).entry ∷ l)
    (entries_join form (turn form rows number r).rows (suc number) front back
    ∙ ap
    (λ (n : ℕ). entries_from form (turn form rows number r).rows (suc number) front
    ++ entries_from form (rows_after form (turn form rows number r).rows (suc number) front) n back)
    (omega arith))

-- two calls give what one gives
pub entries_go_on : (form : Form) (rows : Rows) (number : ℕ) (taken records : List Rec) → rows ≡ rows_of form taken → number ≡ length taken →
    entries_of form (taken ++ records) ≡ entries_of form taken ++ entries_from form rows number records
entries_go_on form rows number taken records rows_is number_is =
    let behind : 0 + length taken ≡ number = omega (arith, number_is) in
    entries_join form no_rows 0 taken records
    ∙ (ap (λ (n : ℕ). entries_of form taken ++ entries_from form (rows_of form taken) n records) behind
    ∙ ap (λ (x : Rows). entries_of form taken ++ entries_from form x number records) (sym rows_is))

pub rows_go_on : (form : Form) (rows : Rows) (number : ℕ) (taken records : List Rec) → rows ≡ rows_of form taken → number ≡ length taken →
    rows_after form rows number records ≡ rows_of form (taken ++ records)
rows_go_on form rows number taken records rows_is number_is =
    let behind : number ≡ 0 + length taken = omega (arith, number_is) in
    ap (λ (x : Rows). rows_after form x number records) rows_is
    ∙ (ap (λ (n : ℕ). rows_after form (rows_of form taken) n records) behind
    ∙ sym (rows_join form no_rows 0 taken records))

-- ---- as a stage reads them
module _ (form : Form) (number : ℕ) (failed : Bool) (rows : Rows) (records : List Rec) (taken : List Rec) where
  abbrev opened : Staged
  opened = record { form = form; number = number; failed = failed; rows = rows }

  pub staged_entries : (view : Staged) (start : ℕ) (es : List Entry) → opened ≡ view → start ≡ view.number → Stands view taken → es ≡ entries_from form rows start records →
      entries_of view.form (taken ++ records) ≡ entries_of view.form taken ++ es
  staged_entries view start es is first stands has =
      subst (λ (v : Staged). Stands v taken → start ≡ v.number → entries_of v.form (taken ++ records) ≡ entries_of v.form taken ++ es) is by_opened stands first
    where
      by_opened : Stands opened taken → start ≡ number → entries_of form (taken ++ records) ≡ entries_of form taken ++ es
      by_opened s f =
          entries_go_on form rows number taken records s.rows s.number
          ∙ (ap (λ (n : ℕ). entries_of form taken ++ entries_from form rows n records) (sym f)
          ∙ ap (λ (l : List Entry). entries_of form taken ++ l) (sym has))

  pub staged_stands : (view : Staged) (start behind : ℕ) (after : Rows) → opened ≡ view → start ≡ view.number → Stands view taken → behind ≡ start + length records →
      after ≡ rows_after form rows start records → Stands (record { form = form; number = behind; failed = failed; rows = after }) (taken ++ records)
  staged_stands view start behind after is first stands behind_is after_is =
      subst (λ (v : Staged). Stands v taken → start ≡ v.number → Stands (record { form = form; number = behind; failed = failed; rows = after }) (taken ++ records)) is by_opened stands first
    where
      by_opened : Stands opened taken → start ≡ number → Stands (record { form = form; number = behind; failed = failed; rows = after }) (taken ++ records)
      by_opened s f = record {
        sound = s.sound;
        number = omega (arith, behind_is, f, s.number, length-append taken records);
        rows = after_is ∙ (ap (λ (n : ℕ). rows_after form rows n records) f ∙ rows_go_on form rows number taken records s.rows s.number);
      }
