-- What the steps of the reader and of the writer give. No public contract cites these but the words of the refusals.
use Rattle.std.specs.Prelude.{◌≡◌, ℕ, ◌+◌, ◌==◌, ◌≤◌, not, ◌||◌, if◌then◌else◌, List, [], ◌∷◌, true}
use Rattle.std.specs.Prelude.{is_some, Option, Some, None, option_map, Result, Ok, Err, bytes_eq}
use Rattle.std.specs.Borrow.{Bor}
use Rattle.std.specs.Option.{option_or}
use Rattle.std.specs.Ordering.{nat_cmp, match_ordering}
use Rattle.std.specs.Cmp.Lexicographic.{slice_cmp}
use Rattle.binding_rules.specs.declared.binding.Binding.{Binding}
use Rattle.binding_rules.specs.declared.settings.Edition.{Edition}
use Rattle.binding_rules.specs.declared.settings.Edition.TheVariants as edition
use Rattle.binding_rules.specs.declared.settings.Softwire.{Softwire}
use Rattle.binding_rules.specs.declared.refused.TableError.{TableError}
use Rattle.binding_rules.specs.declared.refused.TableError.TheVariants as table_error
use Rattle.toml.specs.Data.{Data, array, table, depth, members_depth, as_str, as_table, Items, no_items, item, Members, no_members, member, get_member}
use Rattle.toml.specs.View.{view}
use Rattle.toml.specs.declared.value.Value.{Value}
use Rattle.table_costs.specs.declared.parts.Part.TheVariants as part
use Rattle.aftr_base.specs.declared.numbers.V4.{V4}
use Rattle.aftr_base.specs.declared.numbers.V6.{V6}
use Rattle.binding_file.specs.declared.element.Fields.{Fields}
use Rattle.binding_file.specs.declared.names.Name.{Name}
use Rattle.binding_file.specs.declared.names.Name.TheVariants as name
use Rattle.binding_file.specs.declared.names.Place.{Place}
use Rattle.binding_file.specs.declared.names.Place.TheVariants as place
use Rattle.binding_file.specs.Files.{IsElement, IsSoftwire, binding_names}
use Rattle.binding_file.specs.Keys.{◌>>=◌, Then, After, required, of_kind, number_or, IsAddress6, IsAddress4, is_one_of, has_other}
use Rattle.binding_file.specs.Names.{key_of}
use Rattle.binding_file.specs.declared.refusals.FileRefused.{FileRefused}
use Rattle.binding_file.specs.declared.refusals.FileRefused.TheVariants as refused
use Rattle.binding_file.specs.declared.refusals.FileError.{FileError}
use Rattle.binding_file.specs.declared.refusals.FileError.TheVariants as file_error

-- what a value stands for, or the refusal
abbrev pub value_or_refusal : {A B : Type 0} → (A → B) → Result A FileRefused → Result B FileRefused
value_or_refusal f (Ok a) = Ok (f a)
value_or_refusal f (Err e) = Err e

abbrev pub file_error_of : TableError → FileError
file_error_of (table_error.Refused r) = file_error.Refused (refused.Rules r)
file_error_of table_error.OutOfMemory = file_error.OutOfMemory

-- P of what the value stands for, or of the refusal; want of memory is free
abbrev pub IsRead : {A B : Type 0} → (A → B) → (Result B FileRefused → Type 0) → Result A FileError → Type 0
IsRead f P (Ok a) = P (Ok (f a))
IsRead f P (Err (file_error.Refused r)) = P (Err r)
IsRead f P (Err file_error.OutOfMemory) = Unit {0}

-- what a value that may be missing stands for
abbrev pub data_of : Option (Bor Value) → Option Data
data_of value = option_map (λ v. view v.now) value

-- what a place gives where this stands at its key
abbrev pub text_from : Place → Option Data → Result (List ℕ) FileRefused
text_from p d = required p d >>= (λ value. of_kind p (as_str value))

unfoldable pub number_from : Place → ℕ → ℕ → Option Data → Result ℕ FileRefused
number_from p most default d = number_or p most default d

abbrev pub IsAddress6From : Option Data → Place → Result V6 FileRefused → Type 0
IsAddress6From d p r = Then (text_from p d) (λ text. IsAddress6 p text r) r

abbrev pub IsAddress4From : Option Data → Place → Result V4 FileRefused → Type 0
IsAddress4From d p r = Then (text_from p d) (λ text. IsAddress4 p text r) r

-- a binding's port set from its fields, behind its two addresses
abbrev pub port_set_from : ℕ → Fields → V6 → V4 → Result Binding FileRefused
port_set_from at fields b4 v4 = do
  offset ← number_from (place.Binding at name.Offset) 255 0 (data_of fields.offset)
  count ← number_from (place.Binding at name.Length) 255 0 (data_of fields.length)
  psid ← number_from (place.Binding at name.Psid) 65535 0 (data_of fields.psid)
  if fields.has_other then Err refused.UnknownKey else Ok (record { b4 = b4; v4 = v4; offset = offset; length = count; psid = psid })

-- the binding that the fields make at this place
abbrev pub IsBindingFrom : ℕ → Fields → Result Binding FileRefused → Type 0
IsBindingFrom at fields r =
    After (IsAddress6From (data_of fields.b4) (place.Binding at name.B4)) (λ b4.
    After (IsAddress4From (data_of fields.ipv4) (place.Binding at name.Ipv4)) (λ v4.
    r ≡ port_set_from at fields b4 v4) r) r

-- what stands at a key, where it has this name
abbrev pub at_name : Name → List ℕ → Data → Option Data
at_name n key d = if bytes_eq (key_of n) key then Some d else None

-- the fields are what the members have at each key of a binding, and tell whether there is another key
pub record AreFields (fields : Fields) (ms : Members) : Type 0 where
  pub b4_is : data_of fields.b4 ≡ get_member (key_of name.B4) ms
  pub ipv4_is : data_of fields.ipv4 ≡ get_member (key_of name.Ipv4) ms
  pub offset_is : data_of fields.offset ≡ get_member (key_of name.Offset) ms
  pub length_is : data_of fields.length ≡ get_member (key_of name.Length) ms
  pub psid_is : data_of fields.psid ≡ get_member (key_of name.Psid) ms
  pub other_is : fields.has_other ≡ has_other binding_names ms

-- the fields of before, and what stands at one more key
pub record IsWith (after before : Fields) (key : List ℕ) (d : Data) : Type 0 where
  pub b4_is : data_of after.b4 ≡ option_or (data_of before.b4) (at_name name.B4 key d)
  pub ipv4_is : data_of after.ipv4 ≡ option_or (data_of before.ipv4) (at_name name.Ipv4 key d)
  pub offset_is : data_of after.offset ≡ option_or (data_of before.offset) (at_name name.Offset key d)
  pub length_is : data_of after.length ≡ option_or (data_of before.length) (at_name name.Length key d)
  pub psid_is : data_of after.psid ≡ option_or (data_of before.psid) (at_name name.Psid key d)
  pub other_is : after.has_other ≡ (before.has_other || not (is_one_of binding_names key))

-- the members with this value at the key
abbrev pub with_member : List ℕ → Data → Members → Members
with_member k d no_members = member k d no_members
with_member k d (member l e ms) = match_ordering (slice_cmp nat_cmp k l) (member k d (member l e ms)) (member l d ms) (member l e (with_member k d ms))

abbrev pub edition_number : Edition → ℕ
edition_number edition.One = 1
edition_number edition.Two = 2

-- the element spells the binding, at whatever place it stands
pub record IsSpelled (d : Data) (b : Binding) : Type 0 where
  pub element : (at : ℕ) → IsElement at d (Ok b)
  pub is_table : is_some (as_table d) ≡ true
  pub flat : depth d ≤ 1

-- the elements spell the bindings, one by one
abbrev pub AreSpelled : Items → List Binding → Type 0
AreSpelled no_items [] = Unit {0}
AreSpelled no_items (b ∷ bs) = ⊥
AreSpelled (item d ds) [] = ⊥
AreSpelled (item d ds) (b ∷ bs) = IsSpelled d b × AreSpelled ds bs

-- the value is an array whose elements spell the bindings
pub record AreBindingsData (d : Data) (bs : List Binding) : Type 0 where
  pub items : Items
  pub is : d ≡ array items
  pub spelled : AreSpelled items bs

-- the value is a table that spells the settings
pub record IsSoftwireData (d : Data) (s : Softwire) : Type 0 where
  pub members : Members
  pub is : d ≡ table members
  pub spelled : IsSoftwire members (Ok s)
  pub flat : members_depth members ≡ 0
