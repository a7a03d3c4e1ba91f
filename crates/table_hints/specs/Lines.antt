-- Which lines of a file a refusal is about, counted from 1. They are told by places of the text alone; of a text that is no TOML, by
-- what its first lines are by themselves.
use Rattle.std.specs.Prelude.{◌≡◌, ℕ, zero, suc, ◌+◌, ◌-◌, ◌<◌, ◌≤◌, ◌==◌, nat_le, Bool, true, false, ◌&&◌, ◌||◌}
use Rattle.std.specs.Prelude.{if◌then◌else◌, List, [], ◌∷◌, ◌++◌, length, take, drop, codes, bytes_eq, slice_get, Option}
use Rattle.std.specs.Prelude.{Some, None, option_map, option_and_then, is_some, IfSome, Result, Ok, Err, IsUtf8}
use Rattle.std.specs.Str.{IsValidUpTo}
use Rattle.toml.specs.Data.{Members, Items, no_items, item}
use Rattle.toml.specs.Parse.{parse_document}
use Rattle.binding_rules.specs.declared.refused.Refused.{Refused}
use Rattle.binding_rules.specs.declared.refused.Refused.TheVariants as rule
use Rattle.table_costs.specs.Costs.{part_after, seen, seen_as, marks, most_free}
use Rattle.table_costs.specs.declared.parts.Part.{Part}
use Rattle.table_costs.specs.declared.parts.Part.TheVariants as part
use Rattle.binding_file.specs.Files.{IsDocument, elements_of}
use Rattle.table_costs.specs.FirstLines.{IsTooCostly, begins_toml, first_place}
use Rattle.table_hints.specs.declared.about.Subject.{Subject}
use Rattle.table_hints.specs.declared.about.Subject.TheVariants as subject
use Rattle.table_hints.specs.declared.lines.Lines.{Lines}
use Rattle.table_hints.specs.declared.lines.Lines.TheVariants as lines
use Rattle.binding_file.specs.declared.names.Place.{Place}
use Rattle.binding_file.specs.declared.names.Place.TheVariants as place
use Rattle.binding_file.specs.declared.refusals.FileRefused.{FileRefused}
use Rattle.binding_file.specs.declared.refusals.FileRefused.TheVariants as refused

-- how many line ends these bytes have: 10 line feed
abbrev pub line_ends : List ℕ → ℕ
line_ends [] = 0
line_ends (b ∷ bs) = if b == 10 then line_ends bs + 1 else line_ends bs

-- the number of the line in which a place stands, from what stands before it: one more than the line ends there
abbrev pub line_behind : List ℕ → ℕ
line_behind front = line_ends front + 1

abbrev pub line_at : List ℕ → ℕ → ℕ
line_at text at = line_behind (take at text)

-- what stands behind a word
abbrev pub behind_word : List ℕ → List ℕ → Option (List ℕ)
behind_word word text = if bytes_eq (take (length word) text) word then Some (drop (length word) text) else None

-- what stands behind blanks: 32 space, 9 tab
abbrev pub behind_blanks : List ℕ → List ℕ
behind_blanks [] = []
behind_blanks (b ∷ bs) = if b == 32 || b == 9 then behind_blanks bs else b ∷ bs

infixl 10 ◌>>=◌
abbrev ◌>>=◌ : {A B : Type 0} → Option A → (A → Option B) → Option B
o >>= f = option_and_then f o

-- the text begins with `[[binding]]`, which may have blanks between its brackets
abbrev pub spells_header : List ℕ → Bool
spells_header text = is_some (do
  inner ← behind_word (codes "[[") text
  rest ← behind_word (codes "binding") (behind_blanks inner)
  behind_word (codes "]]") (behind_blanks rest))

-- the part in which the byte behind these bytes stands
abbrev pub part_behind : Part → List ℕ → Part
part_behind p [] = p
part_behind p (b ∷ bs) = part_behind (part_after p b) bs

-- a bracket behind these bytes stands outside of comments and quoted texts: 91 `[`
abbrev pub is_outside : List ℕ → Bool
is_outside front = seen_as (part_behind part.Plain front) 91 == 91

-- the lines of the headers `[[binding]]` outside of comments and quoted texts that begin in the rest of a text, behind this front of it
abbrev pub headers_behind : List ℕ → List ℕ → List ℕ
headers_behind front [] = []
headers_behind front (b ∷ bs) =
    let later = headers_behind (front ++ b ∷ []) bs in
    if is_outside front && spells_header (b ∷ bs) then line_behind front ∷ later else later

abbrev pub header_lines : List ℕ → List ℕ
header_lines text = headers_behind [] text

-- how many bindings a document has
abbrev pub count_items : Items → ℕ
count_items no_items = 0
count_items (item d ds) = count_items ds + 1

abbrev pub count_elements : {E : Type 0} → Result Items E → ℕ
count_elements (Ok ds) = count_items ds
count_elements (Err e) = 0

abbrev pub binding_count : Members → ℕ
binding_count ms = count_elements (elements_of ms)

-- the line of each binding's header, where there are as many headers as bindings
abbrev pub lines_for : List ℕ → ℕ → Option (List ℕ)
lines_for text count = if length (header_lines text) == count then Some (header_lines text) else None

abbrev pub binding_lines : List ℕ → Members → Option (List ℕ)
binding_lines text ms = lines_for text (binding_count ms)

-- that of one binding, and those of two
abbrev pub one_of : ℕ → List ℕ → Option Lines
one_of i ls = option_map lines.One (slice_get ls i)

abbrev pub both_of : ℕ → ℕ → List ℕ → Option Lines
both_of i k ls = option_and_then (λ first. option_map (lines.Both first) (slice_get ls k)) (slice_get ls i)

-- A text is read once more for its lines where it is small, or has no more marks than this outside of comments and quoted texts: a table
-- of 65,536 bindings has at most 458,771.
abbrev pub most_told : ℕ
most_told = 524288

abbrev pub is_told : List ℕ → Bool
is_told text = nat_le (length text) most_free || nat_le (marks (seen part.Plain text)) most_told

-- the lines of the bindings of a text that is told and a document; else nothing
pub record AreBindingLines (text : List ℕ) (o : Option (List ℕ)) : Type 0 where
  pub document : (ms : Members) → is_told text ≡ true → IsDocument text (Ok ms) → o ≡ binding_lines text ms
  pub none : ((ms : Members) → IsDocument text (Ok ms) → ⊥) → o ≡ None
  pub untold : is_told text ≡ false → o ≡ None

-- what these tell
pub record IsOfBindings (text : List ℕ) (pick : List ℕ → Option Lines) (o : Option Lines) : Type 0 where
  pub bindings : Option (List ℕ)
  pub are : AreBindingLines text bindings
  pub told : o ≡ option_and_then pick bindings

-- so many whole lines from the front of a text, or all of it
abbrev pub first_lines : ℕ → List ℕ → List ℕ
first_lines n [] = []
first_lines zero (b ∷ bs) = []
first_lines (suc n) (b ∷ bs) = b ∷ first_lines (if b == 10 then n else suc n) bs

-- the text is a document
pub record IsSound (text : List ℕ) : Type 0 where
  pub members : Members
  pub document : IsDocument text (Ok members)

-- the lines before the first one are a document by themselves, and with those up to the last one they are none
pub record IsTrouble (text : List ℕ) (first last : ℕ) : Type 0 where
  pub ordered : (1 ≤ first) × (first ≤ last)
  pub sound : IsSound (first_lines (first - 1) text)
  pub broken : IsDocument (first_lines last text) (Err refused.NotToml)

abbrev pub AreTrouble : List ℕ → Lines → Type 0
AreTrouble text (lines.One line) = IsTrouble text line line
AreTrouble text (lines.Both first second) = ⊥
AreTrouble text (lines.Through first last) = (first < last) × IsTrouble text first last

-- the text is no document, and is refused as that: it does not begin as TOML, or is not too costly
pub record IsReadAsNone (text : List ℕ) : Type 0 where
  pub document : parse_document text ≡ None
  pub cheap : IsTooCostly text → ⊥

-- of a text that is no TOML: the line of its first byte that is no UTF-8; else, where no line of TOML begins the text, its first line
-- that is neither blank nor a comment; else lines with the trouble in them, where they can be told
pub record IsOfNoToml (text : List ℕ) (o : Option Lines) : Type 0 where
  pub no_text : (at : ℕ) → IsValidUpTo text at → o ≡ Some (lines.One (line_at text at))
  pub no_line : IsUtf8 text → begins_toml text ≡ false → o ≡ Some (lines.One (line_at text (first_place text)))
  pub trouble : IsUtf8 text → begins_toml text ≡ true → IfSome o (AreTrouble text)

-- what a refusal is about: nothing that has a line of its own, the text, one binding, or two
abbrev pub subject_at : Place → Subject
subject_at (place.Top name) = subject.Nothing
subject_at (place.Softwire name) = subject.Nothing
subject_at (place.Binding i name) = subject.Binding i

abbrev pub subject_of_rule : Refused → Subject
subject_of_rule (rule.TooMany count) = subject.Nothing
subject_of_rule (rule.Shape i) = subject.Binding i
subject_of_rule (rule.Psid i) = subject.Binding i
subject_of_rule (rule.MixedShape i k) = subject.Bindings i k
subject_of_rule (rule.Twice i k) = subject.Bindings i k
subject_of_rule (rule.OwnAddress i) = subject.Binding i
subject_of_rule rule.Mtu = subject.Nothing
subject_of_rule rule.Hop = subject.Nothing

abbrev pub subject_of : FileRefused → Subject
subject_of refused.TooBig = subject.Nothing
subject_of refused.NotToml = subject.Text
subject_of (refused.Missing p) = subject_at p
subject_of (refused.Kind p) = subject_at p
subject_of refused.UnknownKey = subject.Nothing
subject_of (refused.Address p) = subject_at p
subject_of (refused.Range p) = subject_at p
subject_of (refused.Rules r) = subject_of_rule r
subject_of refused.Version = subject.Nothing
subject_of refused.TooCostly = subject.Nothing

-- it is about bindings
abbrev pub tells_bindings : Subject → Bool
tells_bindings subject.Nothing = false
tells_bindings subject.Text = false
tells_bindings (subject.Binding i) = true
tells_bindings (subject.Bindings i k) = true

abbrev pub AreOf : List ℕ → Subject → Option Lines → Type 0
AreOf text subject.Nothing o = o ≡ None
AreOf text subject.Text o = IsOfNoToml text o
AreOf text (subject.Binding i) o = IsOfBindings text (one_of i) o
AreOf text (subject.Bindings i k) o = IsOfBindings text (both_of i k) o

-- the lines that a refusal is about
abbrev pub AreAbout : List ℕ → FileRefused → Option Lines → Type 0
AreAbout text refused o = AreOf text (subject_of refused) o
