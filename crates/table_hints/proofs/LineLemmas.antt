-- Lines counted by a walk are those told by places, and fronts of whole lines are fronts.
use Rattle.std.proofs.Common.{◌≡◌, ℕ, zero, suc, ◌+◌, ◌-◌, ◌<◌, ◌≤◌, ◌==◌, Bool, true, false, ◌&&◌, if◌then◌else◌, List, [], ◌∷◌, ◌++◌, length, take, codes, Option, Some, None, is_some, option_map, option_and_then, refl, ap, sym, ◌∙◌, arith}
use Rattle.table_costs.specs.Costs.{part_after, seen_as}
use Rattle.table_hints.specs.Lines.{line_ends, line_behind, behind_word, behind_blanks, part_behind, is_outside, spells_header, headers_behind, header_lines, first_lines}
use Rattle.table_costs.specs.declared.parts.Part.{Part}
use Rattle.table_costs.specs.declared.parts.Part.TheVariants as part

-- the lines of the headers in what is left, from the part and the line in which it begins
abbrev pub headers_from : Part → ℕ → List ℕ → List ℕ
headers_from p line [] = []
headers_from p line (b ∷ bs) =
    let later = headers_from (part_after p b) (if b == 10 then line + 1 else line) bs in
    if seen_as p 91 == 91 && spells_header (b ∷ bs) then line ∷ later else later

part_snoc : (p : Part) (front : List ℕ) (b : ℕ) → part_behind p (front ++ b ∷ []) ≡ part_after (part_behind p front) b
part_snoc p [] b = refl
part_snoc p (a ∷ front) b = part_snoc (part_after p a) front b

add_if : (t u : Bool) (n : ℕ) → (if t then (if u then n + 1 else n) + 1 else (if u then n + 1 else n)) ≡ (if u then (if t then n + 1 else n) + 1 else (if t then n + 1 else n))
add_if true true n = refl
add_if true false n = refl
add_if false true n = refl
add_if false false n = refl

one_end : (t : Bool) → (if t then 0 + 1 else 0) ≡ (if t then 0 + 1 else 0)
one_end t = refl

ends_snoc : (front : List ℕ) (b : ℕ) → line_ends (front ++ b ∷ []) ≡ (if b == 10 then line_ends front + 1 else line_ends front)
ends_snoc [] b = refl
ends_snoc (a ∷ front) b =
    ap (λ (n : ℕ). if a == 10 then n + 1 else n) (ends_snoc front b) ∙ add_if (a == 10) (b == 10) (line_ends front)

add_out : (t : Bool) (n : ℕ) → (if t then n + 1 else n) + 1 ≡ (if t then (n + 1) + 1 else n + 1)
add_out true n = refl
add_out false n = refl

line_snoc : (front : List ℕ) (b : ℕ) → line_behind (front ++ b ∷ []) ≡ (if b == 10 then line_behind front + 1 else line_behind front)
line_snoc front b = ap (λ (n : ℕ). n + 1) (ends_snoc front b) ∙ add_out (b == 10) (line_ends front)

same_headers : (front rest : List ℕ) → headers_behind front rest ≡ headers_from (part_behind part.Plain front) (line_behind front) rest
same_headers front [] = refl
same_headers front (b ∷ bs) =
    ap (λ (later : List ℕ). if is_outside front && spells_header (b ∷ bs) then line_behind front ∷ later else later)
    (same_headers (front ++ b ∷ []) bs
    ∙ ap (λ (p : Part). headers_from p (line_behind (front ++ b ∷ [])) bs) (part_snoc part.Plain front b)
    ∙ ap (λ (line : ℕ). headers_from (part_after (part_behind part.Plain front) b) line bs) (line_snoc front b))

-- a walk from the front finds the headers
pub headers_are : (text : List ℕ) → headers_from part.Plain 1 text ≡ header_lines text
headers_are text = sym (same_headers [] text)

pub none_first : (text : List ℕ) → first_lines 0 text ≡ []
none_first [] = refl
none_first (b ∷ bs) = refl

pub first_is_front : (n : ℕ) (text : List ℕ) → take (length (first_lines n text)) text ≡ first_lines n text
first_is_front n [] = refl
first_is_front zero (b ∷ bs) = refl
first_is_front (suc n) (b ∷ bs) = ap (λ (front : List ℕ). b ∷ front) (first_is_front (if b == 10 then n else suc n) bs)

-- one more byte of the first lines
pub first_more : (left : ℕ) (b : ℕ) (bs : List ℕ) → 0 < left → length (first_lines left (b ∷ bs)) ≡ length (first_lines (if b == 10 then left - 1 else left) bs) + 1
first_more zero b bs less = absurd (omega (arith, less))
first_more (suc n) b bs less =
    one_longer (length (first_lines (if b == 10 then n else suc n) bs)) ∙ ap (λ (k : ℕ). length (first_lines (if b == 10 then k else suc n) bs) + 1) (same n)
  where
    same : (n : ℕ) → n ≡ suc n - 1
    same n = omega arith

    one_longer : (n : ℕ) → suc n ≡ n + 1
    one_longer n = omega arith

one_less : (t : Bool) (n : ℕ) (front : List ℕ) → line_ends front ≤ (if t then n else suc n) → (if t then line_ends front + 1 else line_ends front) ≤ suc n
one_less true n front few = omega (arith, few)
one_less false n front few = few

-- so many lines have no more line ends
pub few_ends : (n : ℕ) (text : List ℕ) → line_ends (first_lines n text) ≤ n
few_ends n [] = omega arith
few_ends zero (b ∷ bs) = omega arith
few_ends (suc n) (b ∷ bs) = one_less (b == 10) n (first_lines (if b == 10 then n else suc n) bs) (few_ends (if b == 10 then n else suc n) bs)

-- where nothing is left, the front up to the end that was reached is the first lines
pub front_is : (n : ℕ) (text : List ℕ) (end left : ℕ) (rest front : List ℕ) → length rest < 1 → end + length (first_lines left rest) ≡ length (first_lines n text) →
    front ≡ take end text → front ≡ first_lines n text
front_is n text end left [] front none whole is = is ∙ (ap (λ (k : ℕ). take k text) (omega (arith, whole)) ∙ first_is_front n text)
front_is n text end left (b ∷ bs) front none whole is = absurd (omega (arith, none))

-- what follows the brackets, and the word
abbrev behind_inner : List ℕ → Option (List ℕ)
behind_inner rest = behind_word (codes "]]") (behind_blanks rest)

abbrev behind_brackets : List ℕ → Option (List ℕ)
behind_brackets inner = option_and_then behind_inner (behind_word (codes "binding") (behind_blanks inner))

-- a text without the brackets, without the word behind them, and with both
pub no_brackets : (text : List ℕ) → None ≡ behind_word (codes "[[") text → false ≡ spells_header text
no_brackets text none = ap (λ (o : Option (List ℕ)). is_some (option_and_then behind_brackets o)) none

brackets : (text inner : List ℕ) → Some inner ≡ behind_word (codes "[[") text → is_some (behind_brackets inner) ≡ spells_header text
brackets text inner some = ap (λ (o : Option (List ℕ)). is_some (option_and_then behind_brackets o)) some

pub no_name : (text inner blanks : List ℕ) → Some inner ≡ behind_word (codes "[[") text → blanks ≡ behind_blanks inner → None ≡ behind_word (codes "binding") blanks →
    false ≡ spells_header text
no_name text inner blanks some is none =
    ap (λ (o : Option (List ℕ)). is_some (option_and_then behind_inner o)) (none ∙ ap (behind_word (codes "binding")) is) ∙ brackets text inner some

pub by_end : (text inner blanks rest last : List ℕ) → Some inner ≡ behind_word (codes "[[") text → blanks ≡ behind_blanks inner → Some rest ≡ behind_word (codes "binding") blanks →
    last ≡ behind_blanks rest → is_some (behind_word (codes "]]") last) ≡ spells_header text
by_end text inner blanks rest last some is more ends =
    ap (λ (s : List ℕ). is_some (behind_word (codes "]]") s)) ends
    ∙ (ap (λ (o : Option (List ℕ)). is_some (option_and_then behind_inner o)) (more ∙ ap (behind_word (codes "binding")) is) ∙ brackets text inner some)

pub some_mapped : {A B : Type 0} (f : A → B) (o : Option A) → is_some o ≡ is_some (option_map f o)
some_mapped f None = refl
some_mapped f (Some a) = refl
