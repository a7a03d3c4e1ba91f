-- What the texts of loads say.
use Rattle.std.specs.Prelude.{◌≡◌, ℕ, List, Result, Ok, Err}
use Rattle.binding_file.specs.Files.{TableOf}
use Rattle.binding_file.specs.declared.refusals.FileRefused.{FileRefused}
use Rattle.binding_rules.specs.Tables.{BindingTable}
use Rattle.reload_plan.specs.declared.loads.Load.{Load}
use Rattle.reload_plan.specs.declared.loads.Loaded.{Loaded}
use Rattle.reload_plan.specs.declared.loads.Loaded.TheVariants as loaded
use Rattle.load_files.specs.declared.files.LoadFile.{LoadFile}
use Rattle.table_words.specs.Layout.{IsCompiled}

-- the words of the table, or its refusal
abbrev pub IsLoadedAs : Result BindingTable FileRefused → Loaded → Type 0
IsLoadedAs (Ok t) (loaded.Words words) = IsCompiled t words
IsLoadedAs (Err refusal) (loaded.Refused cause) = cause ≡ refusal
IsLoadedAs _ _ = ⊥

-- what the text says, and what became of it
pub record IsSaidBy (text : List ℕ) (loaded : Loaded) : Type 0 where
  pub answer : Result BindingTable FileRefused
  pub says : TableOf text answer
  pub is : IsLoadedAs answer loaded

-- the load of a file, in its window
pub record IsLoadOfFile (file : LoadFile) (load : Load) : Type 0 where
  pub window : load.window ≡ file.window
  pub said : IsSaidBy file.text load.loaded
