-- The lines of a run's text files and of its summary, in ASCII but for the names of files. Numbers are decimal, without
-- leading zeros, and every line ends with a line feed.
use Rattle.std.specs.Prelude.{ℕ, Bool, if◌then◌else◌, List, ◌++◌, codes, decimal}
use Rattle.ip_codec.specs.Rules.{name_of}
use Rattle.verdict_core.specs.declared.verdicts.Verdict.{Verdict}
use Rattle.verdict_core.specs.declared.verdicts.Verdict.TheVariants as verdict
use Rattle.binding_file.specs.Names.{load_text}
use Rattle.binding_file.specs.declared.refusals.FileRefused.{FileRefused}
use Rattle.ip_codec.specs.declared.rules.Rule.{Rule}
use Rattle.aftr_text.specs.declared.summaries.Totals.{Totals}

-- What became of a record. A packet that goes into the tunnel is a hairpin where it came from a subscriber, and else goes
-- down; a dropped one has the name of its rule.
abbrev pub outcome : Verdict → List ℕ
outcome verdict.Held = codes "held"
outcome (verdict.Outward mtu) = codes "up"
outcome (verdict.Inward from to hop mtu back) = if back then codes "hairpin" else codes "down"
outcome (verdict.Drop why reply) = codes "drop " ++ name_of why

-- which record was judged, and by which version of the table
abbrev pub judged_text : ℕ → ℕ → List ℕ
judged_text number version = decimal number ++ codes " " ++ decimal version

-- a record's line: its number, the version of the table in force, the outcome, and how many packets were written
abbrev pub verdict_text : ℕ → ℕ → Verdict → ℕ → List ℕ
verdict_text number version v packets =
    decimal number ++ codes " " ++ decimal version ++ codes " " ++ outcome v ++ codes " " ++ decimal packets ++ codes "\n"

-- the line of a record whose error was not sent, because the limit on errors was reached: so no packet was written for it
abbrev pub limited_text : ℕ → ℕ → Rule → List ℕ
limited_text number version why =
    decimal number ++ codes " " ++ decimal version ++ codes " drop " ++ name_of why ++ codes " limited 0\n"

-- the line of a datagram that ended unfinished, when its time was up or at the end of the capture; the number is that of
-- its first record
abbrev pub ended_text : Bool → ℕ → List ℕ
ended_text expired number =
    (if expired then codes "expired " else codes "unfinished ") ++ decimal number ++ codes "\n"

-- the line of the table that is in force from the beginning
abbrev pub initial_text : List ℕ → List ℕ
initial_text name = codes "0 " ++ name ++ codes " initial\n"

-- the line of a table that came into force once so many records were drawn
abbrev pub point_text : ℕ → List ℕ → ℕ → List ℕ
point_text version name point = decimal version ++ codes " " ++ name ++ codes " at " ++ decimal point ++ codes "\n"

-- the line of a load whose file is no table
abbrev pub refused_load_text : List ℕ → FileRefused → List ℕ
refused_load_text name cause = codes "- " ++ name ++ codes " refused " ++ load_text cause ++ codes "\n"

-- the line of a load whose window opens behind the last record
abbrev pub unreached_text : List ℕ → List ℕ
unreached_text name = codes "- " ++ name ++ codes " not-reached\n"

-- the line that tells how many bindings were written in the newer edition
abbrev pub migrated_text : ℕ → List ℕ
migrated_text count = codes "migrated " ++ decimal count ++ codes " bindings\n"

-- the summary's one line
abbrev pub summary_text : Totals → List ℕ
summary_text totals =
    codes "records " ++ decimal totals.records
    ++ codes " held " ++ decimal totals.held
    ++ codes " forwarded " ++ decimal totals.forwarded
    ++ codes " dropped " ++ decimal totals.dropped
    ++ codes " packets " ++ decimal totals.packets
    ++ codes " version " ++ decimal totals.version
    ++ codes "\n"
