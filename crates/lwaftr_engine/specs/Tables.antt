-- What the table files of a run say, and which tables it has by them.
use Rattle.std.specs.Prelude.{Bool, Err, List, Ok, Result, false, get_or, true, ℕ, [], ◌+◌, ◌∷◌}
use Rattle.lwaftr_engine.specs.Words.{BindingTable, Contents, FileRefused, LoadWords, Slot, TableOf, Window, content}
use Rattle.reload_plan.specs.declared.loads.Slot.TheVariants as slot

-- what a table file says: a table, or why it is none
abbrev pub Answer : Type 0
Answer = Result BindingTable FileRefused

-- these are the answers of the loads' files, in the order of the words
abbrev pub AreAnswers : Contents → List LoadWords → List Answer → Type 0
AreAnswers m [] [] = Unit {0}
AreAnswers m (load ∷ loads) (answer ∷ answers) = TableOf (content m load.name) answer × AreAnswers m loads answers
AreAnswers m _ _ = ⊥

-- the loads' tables, without those that are refused
abbrev pub tables_in : List Answer → List BindingTable
tables_in [] = []
tables_in (Ok t ∷ answers) = t ∷ tables_in answers
tables_in (Err refusal ∷ answers) = tables_in answers

-- when each of them may come into force
abbrev pub windows_in : List LoadWords → List Answer → List Window
windows_in (load ∷ loads) (Ok t ∷ answers) = load.window ∷ windows_in loads answers
windows_in (load ∷ loads) (Err refusal ∷ answers) = windows_in loads answers
windows_in _ _ = []

-- what became of each load, behind so many that are tables: the version of its table, or its refusal
abbrev pub slots_in : ℕ → List Answer → List Slot
slots_in before [] = []
slots_in before (Ok t ∷ answers) = slot.Version (before + 1) ∷ slots_in (before + 1) answers
slots_in before (Err refusal ∷ answers) = slot.Refused refusal ∷ slots_in before answers

abbrev pub some_refused : List Answer → Bool
some_refused [] = false
some_refused (Ok t ∷ answers) = some_refused answers
some_refused (Err refusal ∷ answers) = true

-- the table of each version, the first table having version 0
abbrev pub table_by : BindingTable → List Answer → ℕ → BindingTable
table_by first answers version = get_or (first ∷ tables_in answers) version first
