-- What the reader of bindings of the plain form has after each step.
use Rattle.std.specs.Prelude.{◌≡◌, ℕ, ◌+◌, ◌<◌, ◌||◌, Bool, false, true, List, [], ◌∷◌, length, codes, Option, Some, None, option_map, Ok}
use Rattle.std.specs.Option.{option_or}
use Rattle.binding_rules.specs.declared.binding.Binding.{Binding}
use Rattle.toml.specs.Data.{Data, table, Items, no_items, push_item, Members, get_member}
use Rattle.toml.specs.Parse.{lines}
use Rattle.toml.specs.Tables.{Document, Nodes, no_nodes, close}
use Rattle.toml.specs.View.{view}
use Rattle.toml.specs.declared.value.Value.{Value}
use Rattle.binding_file.specs.Files.{binding_names, IsElement, AreElements, are_tables}
use Rattle.binding_file.specs.Keys.{has_other, is_one_of}
use Rattle.binding_file.specs.Names.{key_of}
use Rattle.binding_file.specs.Parts.{at_name, data_of}
use Rattle.binding_file.specs.Plain.{root, settings, head_of, Goes}
use Rattle.binding_file.specs.declared.element.Fields.{Fields}
use Rattle.binding_file.specs.declared.names.Name.{Name}
use Rattle.binding_file.specs.declared.names.Name.TheVariants as name
use Rattle.binding_file.specs.declared.plain_blocks.Held.{Held}

abbrev pub shown : Option Value → Option Data
shown value = option_map view value

-- these are what the members have at each key of a binding, and they have no other key
pub record AreHeld (held : Held) (ms : Members) : Type 0 where
  pub b4_is : shown held.b4 ≡ get_member (key_of name.B4) ms
  pub ipv4_is : shown held.ipv4 ≡ get_member (key_of name.Ipv4) ms
  pub offset_is : shown held.offset ≡ get_member (key_of name.Offset) ms
  pub length_is : shown held.length ≡ get_member (key_of name.Length) ms
  pub psid_is : shown held.psid ≡ get_member (key_of name.Psid) ms
  pub other_is : has_other binding_names ms ≡ false

-- those of before, and a value at one more key, which had none
pub record IsPut (before : Held) (n : Name) (d : Data) (after : Held) : Type 0 where
  pub fresh : (ms : Members) → AreHeld before ms → get_member (key_of n) ms ≡ None
  pub known : is_one_of binding_names (key_of n) ≡ true
  pub b4_is : shown after.b4 ≡ option_or (shown before.b4) (at_name name.B4 (key_of n) d)
  pub ipv4_is : shown after.ipv4 ≡ option_or (shown before.ipv4) (at_name name.Ipv4 (key_of n) d)
  pub offset_is : shown after.offset ≡ option_or (shown before.offset) (at_name name.Offset (key_of n) d)
  pub length_is : shown after.length ≡ option_or (shown before.length) (at_name name.Length (key_of n) d)
  pub psid_is : shown after.psid ≡ option_or (shown before.psid) (at_name name.Psid (key_of n) d)

pub record ShowsHeld (held : Held) (fields : Fields) : Type 0 where
  pub b4_is : data_of fields.b4 ≡ shown held.b4
  pub ipv4_is : data_of fields.ipv4 ≡ shown held.ipv4
  pub offset_is : data_of fields.offset ≡ shown held.offset
  pub length_is : data_of fields.length ≡ shown held.length
  pub psid_is : data_of fields.psid ≡ shown held.psid
  pub other_is : fields.has_other ≡ false

abbrev pub below_binding : List (List ℕ)
below_binding = codes "binding" ∷ []

-- the keys of a binding up to this rest of the text
pub record IsBlock (text : List ℕ) (held : Held) (rest : List ℕ) : Type 0 where
  pub last : Nodes
  pub are : AreHeld held (close last)
  pub goes : (v : Data) (s : Nodes) (done : Items) → Goes (root v s done no_nodes, below_binding) text (root v s done last, below_binding) rest

-- a binding with its header up to this rest of the text, as the first one or behind others
pub record IsBindingBlock (at : ℕ) (text : List ℕ) (b : Binding) (rest : List ℕ) : Type 0 where
  pub last : Nodes
  pub element : IsElement at (table (close last)) (Ok b)
  pub shorter : length rest < length text
  pub as_first : (v : Data) (s : Nodes) (section : List (List ℕ)) → Goes (settings v s, section) text (root v s no_items last, below_binding) rest
  pub as_next : (v : Data) (s before : Nodes) (done : Items) (section : List (List ℕ)) →
      Goes (root v s done before, section) text (root v s (push_item done (table (close before))) last, below_binding) rest

-- bindings with their headers up to this rest of the text
pub record AreBlocks (text : List ℕ) (bs : List Binding) (rest : List ℕ) : Type 0 where
  pub done : Items
  pub last : Nodes
  pub elements : AreElements 0 (push_item done (table (close last))) (Ok bs)
  pub tables : are_tables done ≡ true
  pub goes : (v : Data) (s : Nodes) (section : List (List ℕ)) → Goes (settings v s, section) text (root v s done last, below_binding) rest

-- the same up to the end
pub record AreBindingBlocks (text : List ℕ) (bs : List Binding) : Type 0 where
  pub ds : Items
  pub elements : AreElements 0 ds (Ok bs)
  pub tables : are_tables ds ≡ true
  pub ends : (v : Data) (s : Nodes) (section : List (List ℕ)) (n : ℕ) → length text < n →
      (doc : Document) × (lines n (settings v s, section) text ≡ Some doc) × (close doc.0 ≡ head_of v (close s) ds)
