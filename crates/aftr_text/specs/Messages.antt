-- What people are told of command words that ask for no job, and of a file or of standard output that failed. Each is one line that begins
-- with two blanks. Ours. Arguments, loads and the words behind the command are counted from 0, and told from 1.
use Rattle.std.specs.Prelude.{ℕ, ◌+◌, ◌==◌, List, [], ◌∷◌, ◌++◌, bytes_eq, codes, decimal, if◌then◌else◌, length, slice_get, unwrap_or, Option, Some, None}
use Rattle.aftr_io.specs.declared.last_error.WriteCall.{WriteCall}
use Rattle.aftr_io.specs.declared.last_error.WriteCall.TheVariants as call
use Rattle.aftr_text.specs.Faults.{greatest_of, values_of}
use Rattle.aftr_text.specs.Parts.{Parts, no_parts, parts_of}
use Rattle.aftr_text.specs.declared.faults.Fault.{Fault}
use Rattle.aftr_text.specs.declared.faults.Fault.TheVariants as fault
use Rattle.aftr_text.specs.declared.parts.Slot.{Slot}
use Rattle.aftr_text.specs.declared.parts.Slot.TheVariants.{Workers, Errors}

-- how a command is written
abbrev pub usage_of : List ℕ → Option (List ℕ)
usage_of command =
    if bytes_eq command (codes "run")
    then Some (codes "lwaftr run IN OUT VERDICTS VERSIONS TABLE [EARLIEST-LATEST:TABLE]... [--workers N] [--errors N]")
    else if bytes_eq command (codes "check") then Some (codes "lwaftr check TABLE")
    else if bytes_eq command (codes "who") then Some (codes "lwaftr who TABLE ADDRESS PORT")
    else if bytes_eq command (codes "demo") then Some (codes "lwaftr demo SEED COUNT WORKERS")
    else if bytes_eq command (codes "migrate") then Some (codes "lwaftr migrate TABLE NEW-TABLE")
    else None

-- the word at a place; no bytes where there is none
abbrev pub word_in : List (List ℕ) → ℕ → List ℕ
word_in words at = unwrap_or (slice_get words at) []

-- the names of a command's arguments, as its usage has them
abbrev pub argument_texts : List ℕ → List (List ℕ)
argument_texts command =
    if bytes_eq command (codes "run") then codes "IN" ∷ codes "OUT" ∷ codes "VERDICTS" ∷ codes "VERSIONS" ∷ codes "TABLE" ∷ []
    else if bytes_eq command (codes "demo") then codes "SEED" ∷ codes "COUNT" ∷ codes "WORKERS" ∷ []
    else if bytes_eq command (codes "migrate") then codes "TABLE" ∷ codes "NEW-TABLE" ∷ []
    else codes "TABLE" ∷ codes "ADDRESS" ∷ codes "PORT" ∷ []

abbrev pub argument_text : List ℕ → ℕ → List ℕ
argument_text command at = word_in (argument_texts command) at

abbrev pub option_text : Slot → List ℕ
option_text Workers = codes "--workers"
option_text Errors = codes "--errors"

-- how many arguments a command takes
abbrev pub wanted_text : List ℕ → List ℕ
wanted_text command =
    if bytes_eq command (codes "run") then codes "5 to 260 arguments (5 names, then loads)"
    else if bytes_eq command (codes "check") then codes "1 argument"
    else if bytes_eq command (codes "migrate") then codes "2 arguments"
    else codes "3 arguments"

-- the word stands where a number from `least` to `most` is wanted
abbrev pub value_text : List ℕ → List ℕ → ℕ → ℕ → List ℕ
value_text name word least most =
    codes "  " ++ name ++ codes ": `" ++ word ++ codes "` is not a number from " ++ decimal least ++ codes " to " ++ decimal most ++ codes "\n"

-- this argument and another have the same name
abbrev pub same_text : List ℕ → List ℕ → List ℕ → List ℕ
same_text name other word = codes "  " ++ name ++ codes " and " ++ other ++ codes " have the same name, `" ++ word ++ codes "`\n"

-- the word of a load, which stands behind five names
abbrev pub load_in : Parts → ℕ → List ℕ
load_in p load = word_in p.arguments (load + 5)

-- What is told of a command, the words behind it, and their parts. A word's place is told among all words, the command the first.
abbrev pub told : List ℕ → List (List ℕ) → Parts → Fault → List ℕ
told command rest p fault.Nothing = codes "  no command is given; the commands are run, check, who, demo and migrate\n"
told command rest p fault.Command = codes "  `" ++ command ++ codes "` is not a command; the commands are run, check, who, demo and migrate\n"
told command rest p (fault.Stray place) =
    codes "  word " ++ decimal (place + 2) ++ codes ", `" ++ word_in rest place ++ codes "`, is not an option (after `--` it would be an argument)\n"
told command rest p (fault.NoValue slot) = codes "  " ++ option_text slot ++ codes " needs a number after it\n"
told command rest p fault.OptionOfRun = codes "  --workers and --errors are options of run alone\n"
told command rest p (fault.Twice slot) = codes "  " ++ option_text slot ++ codes " is given more than once\n"
told command rest p (fault.Value slot) = value_text (option_text slot) (word_in (values_of slot p) 0) 1 (greatest_of slot)
told command rest p fault.Count =
    codes "  " ++ command ++ codes " takes " ++ wanted_text command ++ codes ", not " ++ decimal (length p.arguments) ++ codes "\n"
told command rest p (fault.Empty at) = codes "  " ++ argument_text command at ++ codes ": a file's name may not be empty\n"
told command rest p (fault.Number at least most) = value_text (argument_text command at) (word_in p.arguments at) least most
told command rest p fault.Address = codes "  ADDRESS: `" ++ word_in p.arguments 1 ++ codes "` is not an IPv4 address\n"
told command rest p (fault.Load load) =
    codes "  load " ++ decimal (load + 1) ++ codes ", `" ++ load_in p load
    ++ codes "`, is not EARLIEST-LATEST:TABLE with EARLIEST <= LATEST <= 2147483648\n"
told command rest p fault.SameTable = same_text (codes "TABLE") (codes "NEW-TABLE") (word_in p.arguments 0)
told command rest p (fault.Same at) = same_text (argument_text command at) (codes "another file of the run") (word_in p.arguments at)
told command rest p (fault.Falls load) =
    codes "  load " ++ decimal (load + 1) ++ codes ", `" ++ load_in p load
    ++ codes "`: its window begins or ends earlier than that of the load before it\n"

-- the same where words that can't be taken apart have no parts
abbrev pub told_behind : List ℕ → List (List ℕ) → Fault → List ℕ
told_behind command rest f = told command rest (unwrap_or (parts_of None rest) no_parts) f

-- what is told of words in which this is wrong
abbrev pub fault_text : List (List ℕ) → Fault → List ℕ
fault_text [] f = told_behind [] [] f
fault_text (command ∷ rest) f = told_behind command rest f

-- what could not be done with a file: of a read also its place, where that is not the first byte
abbrev pub read_text : ℕ → List ℕ
read_text at = if at == 0 then codes " could not be read" else codes " could not be read at byte " ++ decimal at

abbrev pub write_text : WriteCall → List ℕ
write_text call.Create = codes " could not be made"
write_text call.Append = codes " could not be written"

-- which file failed, what could not be done with it, and what the system said of it
abbrev pub file_text : List ℕ → List ℕ → List ℕ → List ℕ
file_text name failed said = codes "  " ++ name ++ failed ++ codes ": " ++ said ++ codes "\n"

abbrev pub output_text : List ℕ → List ℕ
output_text said = codes "  standard output could not be written: " ++ said ++ codes "\n"
