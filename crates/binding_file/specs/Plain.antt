-- The document while a text of the plain form is read line by line: `version`, then `[softwire]`, then `[[binding]]` and so on.
use Rattle.std.specs.Prelude.{◌≡◌, ℕ, ◌<◌, List, [], ◌∷◌, length, codes, Option, Some, None, String, string_bytes}
use Rattle.std.specs.Borrow.{Bor}
use Rattle.std.specs.declared.alloc.Global.{Global}
use Rattle.toml_parser.specs.Lexical.{Read}
use Rattle.toml.specs.Data.{Data, table, array, Items, Members, member, no_members}
use Rattle.toml.specs.Parse.{line, lines}
pub use Rattle.toml.specs.Parse.{atom, key_equals}
use Rattle.toml.specs.Tables.{Document, Expression, Nodes, no_nodes, node, value, open_table, open_array, header, key_value}
use Rattle.toml.specs.View.{view}
use Rattle.toml.specs.declared.value.Value.{Value}

-- what was read, and the text after it; nothing is said where the reader gives up
abbrev pub ReadsOne : {A B : Type 0} → (A → B) → Option (A × Bor (List ℕ)) → Read B → Type 0
ReadsOne f None expected = Unit {0}
ReadsOne f (Some p) expected = expected ≡ Some (f p.0, p.1.now)

abbrev pub IsShorter : {A : Type 0} → List ℕ → Option (A × Bor (List ℕ)) → Type 0
IsShorter text None = Unit {0}
IsShorter text (Some p) = length p.1.now < length text

abbrev pub pair_view : String Global × Value → Expression
pair_view p = (([], string_bytes p.0), key_value (view p.1))

-- the header stands at the front of the text, and this behind it
abbrev pub ReadsHeader : Expression → List ℕ → Option (Bor (List ℕ)) → Type 0
ReadsHeader e text None = Unit {0}
ReadsHeader e text (Some rest) = (line text ≡ Some (e, rest.now)) × (length rest.now < length text)

-- what stands at the three keys of a document, in the order of the keys
abbrev pub numbered : Data → Nodes
numbered v = node (codes "version") (value v) no_nodes

abbrev pub settings : Data → Nodes → Nodes
settings v s = node (codes "softwire") (open_table header s) (numbered v)

abbrev pub root : Data → Nodes → Items → Nodes → Nodes
root v s done last = node (codes "binding") (open_array done last) (settings v s)

abbrev pub head_of : Data → Members → Items → Members
head_of v s ds = member (codes "binding") (array ds) (member (codes "softwire") (table s) (member (codes "version") v no_members))

-- reading the document on from a place comes to another place with another document
abbrev pub Goes : Document → List ℕ → Document → List ℕ → Type 0
Goes doc text next rest = (n : ℕ) → length text < n → (m : ℕ) × (length rest < m) × (lines n doc text ≡ lines m next rest)
