-- The keys of a table file, the places where they stand, and the texts of the refusals.
use Rattle.std.specs.Prelude.{ℕ, List, ◌++◌, codes, decimal}
use Rattle.binding_rules.specs.declared.refused.Refused.{Refused}
use Rattle.binding_rules.specs.declared.refused.Refused.TheVariants as rule
use Rattle.binding_file.specs.declared.names.Name.{Name}
use Rattle.binding_file.specs.declared.names.Name.TheVariants as name
use Rattle.binding_file.specs.declared.names.Place.{Place}
use Rattle.binding_file.specs.declared.names.Place.TheVariants as place
use Rattle.binding_file.specs.declared.refusals.FileRefused.{FileRefused}
use Rattle.binding_file.specs.declared.refusals.FileRefused.TheVariants as refused

abbrev pub key_of : Name → List ℕ
key_of name.Version = codes "version"
key_of name.Softwire = codes "softwire"
key_of name.Binding = codes "binding"
key_of name.Aftr = codes "aftr"
key_of name.Own = codes "own"
key_of name.Mtu6 = codes "mtu6"
key_of name.Mtu4 = codes "mtu4"
key_of name.HopLimit = codes "hop_limit"
key_of name.Hairpin = codes "hairpin"
key_of name.IcmpIn = codes "icmp_in"
key_of name.ErrorsUp = codes "errors_up"
key_of name.ErrorsDown = codes "errors_down"
key_of name.B4 = codes "b4"
key_of name.Ipv4 = codes "ipv4"
key_of name.Offset = codes "offset"
key_of name.Length = codes "length"
key_of name.Psid = codes "psid"

-- the key that stands at a place
abbrev pub name_at : Place → Name
name_at (place.Top name) = name
name_at (place.Softwire name) = name
name_at (place.Binding at name) = name

abbrev pub place_text : Place → List ℕ
place_text (place.Top name) = key_of name
place_text (place.Softwire name) = codes "softwire " ++ key_of name
place_text (place.Binding at name) = codes "binding " ++ decimal at ++ codes " " ++ key_of name

-- the text of a refusal by the rules of a table
abbrev pub rule_text : Refused → List ℕ
rule_text (rule.TooMany count) = codes "too-many " ++ decimal count
rule_text (rule.Shape at) = codes "shape " ++ decimal at
rule_text (rule.Psid at) = codes "psid " ++ decimal at
rule_text (rule.MixedShape first second) = codes "mixed-shape " ++ decimal first ++ codes " " ++ decimal second
rule_text (rule.Twice first second) = codes "twice " ++ decimal first ++ codes " " ++ decimal second
rule_text (rule.OwnAddress at) = codes "own-address " ++ decimal at
rule_text rule.Mtu = codes "mtu"
rule_text rule.Hop = codes "hop"

abbrev pub refused_text : FileRefused → List ℕ
refused_text refused.TooBig = codes "too-big"
refused_text refused.NotToml = codes "not-toml"
refused_text (refused.Missing place) = codes "missing " ++ place_text place
refused_text (refused.Kind place) = codes "kind " ++ place_text place
refused_text refused.UnknownKey = codes "unknown-key"
refused_text (refused.Address place) = codes "address " ++ place_text place
refused_text (refused.Range place) = codes "range " ++ place_text place
refused_text (refused.Rules rule) = codes "rules " ++ rule_text rule
refused_text refused.Version = codes "version"
refused_text refused.TooCostly = codes "too-costly"

-- the same in the line of a load: a rule of tables stands without the word `rules` before it
abbrev pub load_text : FileRefused → List ℕ
load_text (refused.Rules rule) = rule_text rule
load_text cause = refused_text cause

-- the refusals in the order of their declaration, from 1
abbrev pub file_refusal_number : FileRefused → ℕ
file_refusal_number refused.TooBig = 1
file_refusal_number refused.NotToml = 2
file_refusal_number (refused.Missing place) = 3
file_refusal_number (refused.Kind place) = 4
file_refusal_number refused.UnknownKey = 5
file_refusal_number (refused.Address place) = 6
file_refusal_number (refused.Range place) = 7
file_refusal_number (refused.Rules rule) = 8
file_refusal_number refused.Version = 9
file_refusal_number refused.TooCostly = 10
