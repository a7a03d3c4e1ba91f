-- What a table file spells: an edition, settings and bindings, or the first refusal. Only whether the bytes are a document
-- is a matter of TOML; the rest speaks of the document's tree, one key after the other.
use Rattle.std.specs.Prelude.{◌≡◌, ℕ, ◌+◌, ℤ, pos, negsuc, ◌==◌, nat_lt, Bool, true, false, ◌&&◌, if◌then◌else◌}
use Rattle.std.specs.Prelude.{is_some, List, [], ◌∷◌, length, Option, Some, None, Result, Ok, Err, IsUtf8}
use Rattle.aftr_base.specs.declared.numbers.V4.{V4}
use Rattle.aftr_base.specs.declared.numbers.V6.{V6}
use Rattle.binding_rules.specs.Refusals.{IsFirstRefusal}
use Rattle.binding_rules.specs.Tables.{BindingTable, binding_table, IsValid}
use Rattle.binding_rules.specs.declared.binding.Binding.{Binding}
use Rattle.binding_rules.specs.declared.settings.Edition.{Edition}
use Rattle.binding_rules.specs.declared.settings.Edition.TheVariants as edition
use Rattle.binding_rules.specs.declared.settings.Softwire.{Softwire}
use Rattle.binding_rules.specs.declared.refused.Refused.{Refused}
use Rattle.toml.specs.Data.{Data, as_integer, as_array, as_table, Items, no_items, item, Members}
use Rattle.toml.specs.Parse.{parse_document}
use Rattle.table_costs.specs.FirstLines.{IsTooCostly}
use Rattle.binding_file.specs.Keys.{◌>>=◌, Then, After, member_at, required, of_kind, table_at, number_at, flag_at, IsAddress6At, IsAddress4At, known}
use Rattle.binding_file.specs.declared.names.Name.{Name}
use Rattle.binding_file.specs.declared.names.Name.TheVariants as name
use Rattle.binding_file.specs.declared.names.Place.TheVariants as place
use Rattle.binding_file.specs.declared.refusals.FileRefused.{FileRefused}
use Rattle.binding_file.specs.declared.refusals.FileRefused.TheVariants as refused
use Rattle.binding_file.specs.declared.refusals.FileError.{FileError}
use Rattle.binding_file.specs.declared.refusals.FileError.TheVariants as file_error

abbrev pub top_names : List Name
top_names = name.Version ∷ name.Softwire ∷ name.Binding ∷ []

abbrev pub softwire_names : List Name
softwire_names =
    name.Aftr ∷ name.Own ∷ name.Mtu6 ∷ name.Mtu4 ∷ name.HopLimit ∷ name.Hairpin ∷ name.IcmpIn ∷ name.ErrorsUp
    ∷ name.ErrorsDown ∷ []

abbrev pub binding_names : List Name
binding_names = name.B4 ∷ name.Ipv4 ∷ name.Offset ∷ name.Length ∷ name.Psid ∷ []

abbrev pub edition_from : ℤ → Result Edition FileRefused
edition_from (pos n) = if n == 1 then Ok edition.One else if n == 2 then Ok edition.Two else Err refused.Version
edition_from (negsuc n) = Err refused.Version

abbrev pub edition_of : Members → Result Edition FileRefused
edition_of ms = do
  let p = place.Top name.Version
  d ← required p (member_at ms p)
  z ← of_kind p (as_integer d)
  edition_from z

-- the edition, of a top that has no unknown key
abbrev pub top_edition : Members → Result Edition FileRefused
top_edition ms = edition_of ms >>= (λ e. known top_names ms e)

-- the settings behind the two addresses
unfoldable pub settings_of : Members → V6 → V4 → Result Softwire FileRefused
settings_of ms aftr own = do
  mtu6 ← number_at ms (place.Softwire name.Mtu6) 65535 1500
  mtu4 ← number_at ms (place.Softwire name.Mtu4) 65535 1500
  hop_limit ← number_at ms (place.Softwire name.HopLimit) 255 64
  hairpin ← flag_at ms (place.Softwire name.Hairpin) true
  icmp_in ← flag_at ms (place.Softwire name.IcmpIn) true
  errors_up ← flag_at ms (place.Softwire name.ErrorsUp) false
  errors_down ← flag_at ms (place.Softwire name.ErrorsDown) false
  known softwire_names ms (record {
    aftr = aftr;
    own = own;
    mtu6 = mtu6;
    mtu4 = mtu4;
    hop_limit = hop_limit;
    hairpin = hairpin;
    icmp_in = icmp_in;
    errors_up = errors_up;
    errors_down = errors_down;
  })

abbrev pub IsSoftwire : Members → Result Softwire FileRefused → Type 0
IsSoftwire ms r =
    After (IsAddress6At ms (place.Softwire name.Aftr)) (λ aftr.
    After (IsAddress4At ms (place.Softwire name.Own)) (λ own.
    r ≡ settings_of ms aftr own) r) r

-- a binding's port set, behind its two addresses
unfoldable pub port_set_of : ℕ → Members → V6 → V4 → Result Binding FileRefused
port_set_of at ms b4 v4 = do
  offset ← number_at ms (place.Binding at name.Offset) 255 0
  count ← number_at ms (place.Binding at name.Length) 255 0
  psid ← number_at ms (place.Binding at name.Psid) 65535 0
  known binding_names ms (record { b4 = b4; v4 = v4; offset = offset; length = count; psid = psid })

-- the binding of the table that stands at this place of the array
abbrev pub IsBinding : ℕ → Members → Result Binding FileRefused → Type 0
IsBinding at ms r =
    After (IsAddress6At ms (place.Binding at name.B4)) (λ b4.
    After (IsAddress4At ms (place.Binding at name.Ipv4)) (λ v4.
    r ≡ port_set_of at ms b4 v4) r) r

abbrev pub IsElement : ℕ → Data → Result Binding FileRefused → Type 0
IsElement at d r = Then (of_kind (place.Top name.Binding) (as_table d)) (λ ms. IsBinding at ms r) r

-- the bindings of these elements, of which the first stands at this place
abbrev pub AreElements : ℕ → Items → Result (List Binding) FileRefused → Type 0
AreElements at no_items r = r ≡ Ok []
AreElements at (item d ds) r =
    After (IsElement at d) (λ b. After (AreElements (at + 1) ds) (λ bs. r ≡ Ok (b ∷ bs)) r) r

abbrev pub are_tables : Items → Bool
are_tables no_items = true
are_tables (item d ds) = is_some (as_table d) && are_tables ds

-- the elements of an array that has nothing but tables
abbrev pub tables_from : Option Items → Result Items FileRefused
tables_from None = Err (refused.Kind (place.Top name.Binding))
tables_from (Some ds) = if are_tables ds then Ok ds else Err (refused.Kind (place.Top name.Binding))

abbrev pub tables_or_none : Option Data → Result Items FileRefused
tables_or_none None = Ok no_items
tables_or_none (Some d) = tables_from (as_array d)

abbrev pub elements_of : Members → Result Items FileRefused
elements_of ms = tables_or_none (member_at ms (place.Top name.Binding))

abbrev pub AreBindings : Members → Result (List Binding) FileRefused → Type 0
AreBindings ms r = Then (elements_of ms) (λ ds. AreElements 0 ds r) r

-- what the tree says, before the rules of tables
abbrev pub IsTree : Members → Result BindingTable FileRefused → Type 0
IsTree ms r =
    Then (top_edition ms) (λ e.
    Then (table_at ms (place.Top name.Softwire)) (λ table.
    After (IsSoftwire table) (λ softwire.
    After (AreBindings ms) (λ bindings.
    r ≡ Ok (binding_table e softwire bindings)) r) r) r) r

-- the document that the bytes are
abbrev pub IsDocument : List ℕ → Result Members FileRefused → Type 0
IsDocument bytes (Ok ms) = IsUtf8 bytes × (parse_document bytes ≡ Some ms)
IsDocument bytes (Err e) = (e ≡ refused.NotToml) × (IsUtf8 bytes → parse_document bytes ≡ None)

-- what the bytes say, before the rules of tables
abbrev pub Says : List ℕ → Result BindingTable FileRefused → Type 0
Says bytes r = After (IsDocument bytes) (λ ms. IsTree ms r) r

-- the rules of tables: nothing is wrong, or this is the first refusal by them
abbrev pub IsJudged : BindingTable → Result BindingTable FileRefused → Type 0
IsJudged t (Ok u) = (u ≡ t) × IsValid t
IsJudged t (Err e) = (rule : Refused) × (e ≡ refused.Rules rule) × IsFirstRefusal t.edition t.softwire t.bindings rule

-- the table that a text spells, whatever its size and its cost, or its first refusal
abbrev pub TextOf : List ℕ → Result BindingTable FileRefused → Type 0
TextOf bytes r = After (Says bytes) (λ t. IsJudged t r) r

-- the most bytes that a file may have
abbrev pub most_bytes : ℕ
most_bytes = 16777216

abbrev pub fits : List ℕ → Result (List ℕ) FileRefused
fits bytes = if nat_lt most_bytes (length bytes) then Err refused.TooBig else Ok bytes

-- the text, where it does not cost too much to read
abbrev pub IsAffordable : List ℕ → Result (List ℕ) FileRefused → Type 0
IsAffordable bytes (Ok text) = (text ≡ bytes) × (IsTooCostly bytes → ⊥)
IsAffordable bytes (Err e) = (e ≡ refused.TooCostly) × IsTooCostly bytes

-- the answer to a text within the size: the table that it spells, or its first refusal
abbrev pub AnswerOf : List ℕ → Result BindingTable FileRefused → Type 0
AnswerOf bytes r = After (IsAffordable bytes) (λ text. TextOf text r) r

-- the table that a file spells, or its first refusal
abbrev pub TableOf : List ℕ → Result BindingTable FileRefused → Type 0
TableOf bytes r = Then (fits bytes) (λ text. AnswerOf text r) r

-- an error other than want of memory is the first refusal
abbrev pub IsFileCause : List ℕ → FileError → Type 0
IsFileCause bytes (file_error.Refused r) = TableOf bytes (Err r)
IsFileCause bytes file_error.OutOfMemory = Unit {0}
