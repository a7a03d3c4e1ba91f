-- What one more reading of a file gives: why it is no table, and how many bindings it has (ours).
use Rattle.std.specs.Prelude.{◌≡◌, List, ℕ, Option, Some, None, Ok, Err}
use Rattle.toml.specs.Data.{Members}
use Rattle.binding_rules.specs.Tables.{BindingTable}
use Rattle.binding_file.specs.Files.{IsDocument, IsJudged, TableOf}
use Rattle.binding_file.specs.declared.refusals.FileRefused.{FileRefused}
use Rattle.table_hints.specs.Lines.{binding_count}
use Rattle.table_hints.specs.declared.rereading.Rereading.{Rereading}

-- the table keeps the rules, or breaks this one first
abbrev pub IsRuling : BindingTable → Option FileRefused → Type 0
IsRuling t None = IsJudged t (Ok t)
IsRuling t (Some e) = IsJudged t (Err e)

-- the file is a table, or refused for this
abbrev pub HasRefusal : List ℕ → Option FileRefused → Type 0
HasRefusal text None = (t : BindingTable) × TableOf text (Ok t)
HasRefusal text (Some e) = TableOf text (Err e)

-- the text is a document with so many bindings, and a table or refused for this
pub record IsRereading (text : List ℕ) (r : Rereading) : Type 0 where
  pub members : Members
  pub document : IsDocument text (Ok members)
  pub count : r.count ≡ binding_count members
  pub answer : HasRefusal text r.refused

-- that is known of the text, or it is no document
abbrev pub HasRead : List ℕ → Option Rereading → Type 0
HasRead text None = (ms : Members) → IsDocument text (Ok ms) → ⊥
HasRead text (Some r) = IsRereading text r
