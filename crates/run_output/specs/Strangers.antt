-- What a change of the tables leaves alone, in two runs over one capture.
use Rattle.std.specs.Prelude.{◌≡◌, ℕ, List, None, Some, slice_get}
use Rattle.binding_rules.specs.Tables.{IsLawful}
use Rattle.capture_io.specs.declared.forms.Form.{Form}
use Rattle.capture_io.specs.declared.forms.Rec.{Rec}
use Rattle.capture_io.specs.declared.written.Written.{Written}
use Rattle.ip_codec.specs.declared.items.Item.{Item}
use Rattle.item_stage.specs.Items.{entries_of, items_in}
use Rattle.run_output.specs.Limiting.{IsLimited}
use Rattle.run_output.specs.Outputs.{Course, output_of, sent_at, verdict_at}
use Rattle.verdict_core.specs.Others.{AreAlikeFor}

-- the tables that are in force at the record with this number are alike for its item, in whatever order their bindings stand
pub record HaveAlikeTables (c d : Course) (number : ℕ) (i : Item) : Type 0 where
  pub lawful : IsLawful (c.tables (c.version number))
  pub lawful_too : IsLawful (d.tables (d.version number))
  pub alike : AreAlikeFor i (c.tables (c.version number)) (d.tables (d.version number))

-- .. and the limit on errors treats the record alike. All records of a run share that limit, so it is the one way in which a change for one
-- subscriber can reach another (ours).
pub record AreAlikeThere (c d : Course) (number : ℕ) (i : Item) : Type 0 where
  pub tables : HaveAlikeTables c d number i
  pub limited : c.limited number ≡ d.limited number

-- the same verdict, and the same packets byte for byte
pub record AreTreatedAlike (c d : Course) (number : ℕ) (i : Item) : Type 0 where
  pub verdict : verdict_at c number i ≡ verdict_at d number i
  pub packets : sent_at c number i ≡ sent_at d number i

-- a record that names only addresses with the same bindings in both runs is treated alike
abbrev pub StrangersAreTreatedAlike : Type 0
StrangersAreTreatedAlike = (c d : Course) (number : ℕ) (i : Item) → AreAlikeThere c d number i → AreTreatedAlike c d number i

-- if all records are such, the captures that are written are the same bytes
abbrev pub OutputsStay : Type 0
OutputsStay = (c d : Course) (w : Written) (form : Form) (rs : List Rec) →
    ((number : ℕ) (i : Item) → slice_get (items_in (entries_of form rs)) number ≡ Some i → AreAlikeThere c d number i) →
    output_of c w form rs ≡ output_of d w form rs

-- if errors have no limit, alike tables are enough
abbrev pub OutputsStayUnlimited : Type 0
OutputsStayUnlimited = (c d : Course) (w : Written) (form : Form) (rs : List Rec) →
    IsLimited None form rs (entries_of form rs) c → IsLimited None form rs (entries_of form rs) d →
    ((number : ℕ) (i : Item) → slice_get (items_in (entries_of form rs)) number ≡ Some i → HaveAlikeTables c d number i) →
    output_of c w form rs ≡ output_of d w form rs
