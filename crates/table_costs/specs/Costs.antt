-- When a text costs too much to be read as TOML, told from its bytes alone (ours). To read a document may take the time of its keys
-- times that of the header above them, some 1,000 bytes for each table, and stack for each table in another. So all three are bounded,
-- far above what any table of bindings needs.
use Rattle.std.specs.Prelude.{ℕ, ◌+◌, ◌-◌, ◌≤◌, ◌==◌, nat_lt, Bool, false, ◌&&◌, ◌||◌, if◌then◌else◌, List, [], ◌∷◌, length}
use Rattle.table_costs.specs.declared.parts.Part.{Part}
use Rattle.table_costs.specs.declared.parts.Part.TheVariants as part

-- the bytes that mean something here: 9 tab, 10 line feed, 32 space, 34 quotation mark, 35 `#`, 39 apostrophe, 44 `,`, 46 `.`,
-- 61 `=`, 91 `[`, 92 backslash, 93 `]`, 123 `{`, 125 `}`

-- what a byte outside of comments and quoted texts begins
abbrev pub begun : ℕ → Part
begun b = if b == 35 then part.Comment else if b == 34 || b == 39 then part.Opened b else part.Plain

-- behind a byte in a text of one line between two of this mark; it ends with its line at the latest
abbrev pub line_after : ℕ → ℕ → Part
line_after m b = if b == m || b == 10 then part.Plain else if b == 92 && m == 34 then part.Escaped else part.Line m

-- behind another byte than its mark in a text of several lines
abbrev pub lines_after : ℕ → ℕ → Part
lines_after m b = if b == 92 && m == 34 then part.LinesEscaped else part.Lines m

-- the part in which the next byte stands. Three marks end a text of several lines, and one or two right behind them belong to it.
abbrev pub part_after : Part → ℕ → Part
part_after part.Plain b = begun b
part_after part.Comment b = if b == 10 then part.Plain else part.Comment
part_after (part.Opened m) b = if b == m then part.Twice m else line_after m b
part_after (part.Line m) b = line_after m b
part_after part.Escaped b = part.Line 34
part_after (part.Twice m) b = if b == m then part.Lines m else begun b
part_after (part.Lines m) b = if b == m then part.LinesOnce m else lines_after m b
part_after (part.LinesOnce m) b = if b == m then part.LinesTwice m else lines_after m b
part_after (part.LinesTwice m) b = if b == m then part.Ended m else lines_after m b
part_after part.LinesEscaped b = part.Lines 34
part_after (part.Ended m) b = if b == m then part.EndedOnce m else begun b
part_after (part.EndedOnce m) b = if b == m then part.Plain else begun b

-- a byte as it counts: those of a comment as `#`, those of a quoted text as a mark, any other as it stands
abbrev pub seen_as : Part → ℕ → ℕ
seen_as part.Plain b = b
seen_as part.Comment b = 35
seen_as (part.Opened m) b = 34
seen_as (part.Line m) b = 34
seen_as part.Escaped b = 34
seen_as (part.Twice m) b = if b == m then 34 else b
seen_as (part.Lines m) b = 34
seen_as (part.LinesOnce m) b = 34
seen_as (part.LinesTwice m) b = 34
seen_as part.LinesEscaped b = 34
seen_as (part.Ended m) b = if b == m then 34 else b
seen_as (part.EndedOnce m) b = if b == m then 34 else b

abbrev pub seen : Part → List ℕ → List ℕ
seen p [] = []
seen p (b ∷ bs) = seen_as p b ∷ seen (part_after p b) bs

-- a byte that may make a key or a table: `.`, `=`, `[`, `{`
abbrev pub is_mark : ℕ → Bool
is_mark b = b == 46 || b == 61 || b == 91 || b == 123

abbrev pub marks : List ℕ → ℕ
marks [] = 0
marks (b ∷ bs) = if is_mark b then marks bs + 1 else marks bs

-- a byte that no header has between its brackets
abbrev pub ends_header : ℕ → Bool
ends_header b = b == 10 || b == 35 || b == 44 || b == 61 || b == 91 || b == 93 || b == 123 || b == 125

-- what a byte of a header weighs: blanks nothing, as they are no part of a key; a dot, which begins another part, as eight others
abbrev pub weight : ℕ → ℕ
weight b = if b == 32 || b == 9 then 0 else if b == 46 then 8 else 1

-- what the bytes before the first one of these weigh
abbrev pub header_weight : List ℕ → ℕ
header_weight [] = 0
header_weight (b ∷ bs) = if ends_header b then 0 else header_weight bs + weight b

-- the most marks of a text: 16 for each of 65,536 bindings
abbrev pub most_marks : ℕ
most_marks = 1048576

-- the most that a header weighs: eight letters, each as an escape of ten bytes, and two marks are 82
abbrev pub most_header : ℕ
most_header = 96

-- a bracket has more weight behind it than a header may have
abbrev pub has_long_header : List ℕ → Bool
has_long_header [] = false
has_long_header (b ∷ bs) = (b == 91 && nat_lt most_header (header_weight bs)) || has_long_header bs

-- the text would cost much
unfoldable pub is_costly : List ℕ → Bool
is_costly bytes = nat_lt most_marks (marks (seen part.Plain bytes)) || has_long_header (seen part.Plain bytes)

-- a byte that opens an array, an inline table or a header, and one that closes it: 91 `[`, 93 `]`, 123 `{`, 125 `}`
abbrev pub opens : ℕ → Bool
opens b = b == 91 || b == 123

abbrev pub closes : ℕ → Bool
closes b = b == 93 || b == 125

-- the most of them that may stand open at one place: two do in a table of bindings
abbrev pub most_depth : ℕ
most_depth = 8

-- where so many stand open, one more is opened than may be, or later
abbrev pub nests_deeper : ℕ → List ℕ → Bool
nests_deeper depth [] = false
nests_deeper depth (b ∷ bs) =
    if opens b then depth == most_depth || nests_deeper (depth + 1) bs
    else if closes b then nests_deeper (depth - 1) bs
    else nests_deeper depth bs

-- the text has arrays and inline tables nested deeper than any table of bindings
unfoldable pub is_too_deep : List ℕ → Bool
is_too_deep bytes = nests_deeper 0 (seen part.Plain bytes)

-- the most bytes of a text whose marks and headers are not counted
abbrev pub most_free : ℕ
most_free = 131072

-- the text is nested too deep, or it is not small and would cost much
abbrev pub is_too_costly : List ℕ → Bool
is_too_costly bytes = is_too_deep bytes || (nat_lt most_free (length bytes) && is_costly bytes)

-- how much a header weighs once this byte is passed, its bracket included; 0 outside of headers
abbrev pub header_after : ℕ → ℕ → ℕ
header_after header b = if b == 91 then 1 else if ends_header b || header == 0 then 0 else header + weight b

-- a header that begins here weighs little
abbrev pub IsShortHeader : List ℕ → Type 0
IsShortHeader bytes = header_weight (seen part.Plain bytes) ≤ most_header
