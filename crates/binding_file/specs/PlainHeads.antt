-- What the reader of the plain form has of the lines in front of the bindings, and of the whole text.
use Rattle.std.specs.Prelude.{◌≡◌, ℕ, ℤ, List, [], ◌∷◌, codes, Some, Ok}
use Rattle.binding_rules.specs.Tables.{BindingTable}
use Rattle.binding_rules.specs.declared.settings.Edition.{Edition}
use Rattle.binding_rules.specs.declared.settings.Softwire.{Softwire}
use Rattle.toml.specs.Data.{Data, Members, as_integer}
use Rattle.toml.specs.Parse.{parse_document}
use Rattle.toml.specs.Tables.{Nodes, no_nodes, close}
use Rattle.binding_file.specs.Files.{edition_from, IsSoftwire, IsTree}
use Rattle.binding_file.specs.Plain.{numbered, settings, Goes}

abbrev pub below_softwire : List (List ℕ)
below_softwire = codes "softwire" ∷ []

-- the line of the edition up to this rest of the text
pub record IsEditionLine (text : List ℕ) (e : Edition) (rest : List ℕ) : Type 0 where
  pub v : Data
  pub z : ℤ
  pub integer : as_integer v ≡ Some z
  pub edition : edition_from z ≡ Ok e
  pub goes : Goes (no_nodes, []) text (numbered v, []) rest

-- the keys of the settings up to this rest of the text
pub record AreMembers (text : List ℕ) (ms : Members) (rest : List ℕ) : Type 0 where
  pub s : Nodes
  pub are : close s ≡ ms
  pub goes : (v : Data) → Goes (settings v no_nodes, below_softwire) text (settings v s, below_softwire) rest

pub record AreSettings (text : List ℕ) (softwire : Softwire) (rest : List ℕ) : Type 0 where
  pub s : Nodes
  pub are : IsSoftwire (close s) (Ok softwire)
  pub goes : (v : Data) → Goes (settings v no_nodes, below_softwire) text (settings v s, below_softwire) rest

-- the text is a document, and this is what its tree says
pub record IsPlainTree (text : List ℕ) (t : BindingTable) : Type 0 where
  pub ms : Members
  pub document : parse_document text ≡ Some ms
  pub tree : IsTree ms (Ok t)
