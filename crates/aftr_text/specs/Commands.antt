-- What `clap` is asked to read: the arguments of each command, behind the word `--`.
use Rattle.std.specs.Prelude.{List, [], ◌∷◌, codes, Some, unwrap_or, true}
use Rattle.clap.specs.Words.{App, Rule, Row, Text, first_of, all_of, found_of, rows_of, new_app, new_rule, with_rule}
use Rattle.clap.specs.declared.parser.matches.ArgMatches.{ArgMatches}

-- an argument that has to be there
abbrev pub needed : Text → Rule
needed id = record (new_rule id) { required = true }

-- a command with one argument more
abbrev pub and_needs : App → Text → App
and_needs a id = with_rule a (needed id)

abbrev pub check_app : App
check_app = and_needs (new_app (codes "check")) (codes "file")

abbrev pub who_app : App
who_app = and_needs (and_needs (and_needs (new_app (codes "who")) (codes "file")) (codes "address")) (codes "port")

abbrev pub demo_app : App
demo_app = and_needs (and_needs (and_needs (new_app (codes "demo")) (codes "seed")) (codes "count")) (codes "workers")

abbrev pub migrate_app : App
migrate_app = and_needs (and_needs (new_app (codes "migrate")) (codes "input")) (codes "output")

-- up to 255 words behind the five names
abbrev pub loads_rule : Rule
loads_rule = record (new_rule (codes "loads")) { range = Some (record { start_inclusive = 0; end_inclusive = 255 }) }

abbrev pub run_app : App
run_app =
    with_rule (and_needs (and_needs (and_needs (and_needs (and_needs (new_app (codes "run"))
    (codes "input")) (codes "output")) (codes "verdicts")) (codes "versions")) (codes "table")) loads_rule

-- the words that are read: the command, and its arguments behind the mark
abbrev pub line : Text → List Text → List Text
line command arguments = command ∷ codes "--" ∷ arguments

-- what was found for the arguments of a command
abbrev pub found_in : ArgMatches → List Row
found_in m = rows_of (found_of m)

-- the word of an argument, and the words of one that takes several
abbrev pub word_of : List Row → Text → Text
word_of rows id = unwrap_or (first_of id rows) []

abbrev pub words_of : List Row → Text → List Text
words_of rows id = unwrap_or (all_of id rows) []
