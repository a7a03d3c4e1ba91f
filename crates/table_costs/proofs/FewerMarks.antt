-- What a glance over a text says of it: marks of comments and quoted texts are counted too, and a bracket there begins no header.
use Rattle.std.proofs.Common.{◌≡◌, ℕ, suc, ◌+◌, ◌≤◌, ◌==◌, nat_lt, if◌then◌else◌, Bool, true, false, ◌||◌, List, [], ◌∷◌, ◌++◌, length, refl, sym, ap, ◌∙◌, arith}
use Rattle.std.proofs.lemmas.Bool.{le-ltb}
use Rattle.std.proofs.lemmas.List.{length-append}
use Rattle.table_costs.specs.Costs.{has_long_header, is_costly, is_mark, marks, most_marks, part_after, seen, seen_as}
use Rattle.table_costs.specs.declared.parts.Part.{Part}
use Rattle.table_costs.specs.declared.parts.Part.TheVariants as part

mark_or : (same : Bool) (b : ℕ) → is_mark (if same then 34 else b) ≡ true → is_mark b ≡ true
mark_or true b is = absurd cc
mark_or false b is = is

seen_mark : (p : Part) (b : ℕ) → is_mark (seen_as p b) ≡ true → is_mark b ≡ true
seen_mark part.Plain b is = is
seen_mark part.Comment b is = absurd cc
seen_mark (part.Opened m) b is = absurd cc
seen_mark (part.Line m) b is = absurd cc
seen_mark part.Escaped b is = absurd cc
seen_mark (part.Twice m) b is = mark_or (b == m) b is
seen_mark (part.Lines m) b is = absurd cc
seen_mark (part.LinesOnce m) b is = absurd cc
seen_mark (part.LinesTwice m) b is = absurd cc
seen_mark part.LinesEscaped b is = absurd cc
seen_mark (part.Ended m) b is = mark_or (b == m) b is
seen_mark (part.EndedOnce m) b is = mark_or (b == m) b is

counted : (s t : Bool) (m n : ℕ) → m ≤ n → (s ≡ true → t ≡ true) → (if s then m + 1 else m) ≤ (if t then n + 1 else n)
counted true true m n less follows = omega (arith, less)
counted true false m n less follows = let no : true ≡ false = sym (follows refl) in absurd cc
counted false true m n less follows = omega (arith, less)
counted false false m n less follows = less

more : (t : Bool) (m n all : ℕ) → all ≡ m + n → (if t then all + 1 else all) ≡ (if t then m + 1 else m) + n
more true m n all is = omega (arith, is)
more false m n all is = is

at_most : (t : Bool) (m n : ℕ) → m ≤ n → (if t then m + 1 else m) ≤ suc n
at_most true m n less = omega (arith, less)
at_most false m n less = omega (arith, less)

-- no part of a text has more marks than it has without a look at comments and quoted texts
pub marks_fewer : (p : Part) (bs : List ℕ) → marks (seen p bs) ≤ marks bs
marks_fewer p [] = omega arith
marks_fewer p (b ∷ bs) =
    counted (is_mark (seen_as p b)) (is_mark b) (marks (seen (part_after p b) bs)) (marks bs) (marks_fewer (part_after p b) bs) (seen_mark p b)

marks_joined : (front rest : List ℕ) → marks (front ++ rest) ≡ marks front + marks rest
marks_joined [] rest = omega arith
marks_joined (b ∷ front) rest = more (is_mark b) (marks front) (marks rest) (marks (front ++ rest)) (marks_joined front rest)

-- at most one a byte
marks_most : (bs : List ℕ) → marks bs ≤ length bs
marks_most [] = omega arith
marks_most (b ∷ bs) = at_most (is_mark b) (marks bs) (length bs) (marks_most bs)

-- what a piece adds to the count, and what is left of the room
pub piece_counted : (few before room whole : ℕ) (piece after left : List ℕ) → left ≡ piece ++ after → few ≡ marks piece →
    before + marks left ≡ whole → before + length left ≤ room → (before + few + marks after ≡ whole) × (before + few + length after ≤ room)
piece_counted few before room whole piece after left is counted_is so_far fits =
    let joined : marks left ≡ marks piece + marks after = ap marks is ∙ marks_joined piece after in
    let long : length left ≡ length piece + length after = ap length is ∙ length-append piece after in
    (omega (arith, joined, counted_is, so_far), omega (arith, long, counted_is, marks_most piece, fits))

pub neither : (a b : Bool) → a ≡ false → b ≡ false → (a || b) ≡ false
neither true b first second = first
neither false b first second = second

pub cheap : (bs : List ℕ) → marks bs ≤ most_marks → ((p : Part) → has_long_header (seen p bs) ≡ false) → is_costly bs ≡ false
unfolding is_costly
cheap bs few short =
    let within : marks (seen part.Plain bs) ≤ most_marks = omega (arith, few, marks_fewer part.Plain bs) in
    neither (nat_lt most_marks (marks (seen part.Plain bs))) (has_long_header (seen part.Plain bs))
    (le-ltb most_marks (marks (seen part.Plain bs)) within) (short part.Plain)
