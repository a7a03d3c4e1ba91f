-- The codes and texts of the statuses.
use Rattle.std.specs.Prelude.{List, codes, ℕ, ◌++◌}
use Rattle.lwaftr_engine.specs.Words.{Status, capture_text, refused_text}
use Rattle.lwaftr_engine.specs.declared.status.Status.TheVariants as status

abbrev pub code_of : Status → ℕ
code_of status.Done = 0
code_of status.DoneRefused = 1
code_of status.Usage = 2
code_of status.ReadFault = 3
code_of status.WriteFault = 4
code_of (status.BadTable refusal) = 5
code_of (status.BadCapture refusal) = 6
code_of status.OutOfMemory = 7

-- a status without its line feed
abbrev pub status_words : Status → List ℕ
status_words status.Done = codes "done"
status_words status.DoneRefused = codes "done, a load was refused"
status_words status.Usage = codes "usage"
status_words status.ReadFault = codes "read fault"
status_words status.WriteFault = codes "write fault"
status_words (status.BadTable refusal) = codes "table refused: " ++ refused_text refusal
status_words (status.BadCapture refusal) = codes "capture refused: " ++ capture_text refusal
status_words status.OutOfMemory = codes "out of memory"

abbrev pub status_text : Status → List ℕ
status_text s = status_words s ++ codes "\n"
