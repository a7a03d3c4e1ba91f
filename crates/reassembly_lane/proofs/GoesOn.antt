-- What a lane's contexts come to, once it is known what one of them comes to.
use Rattle.std.proofs.Common.{◌≡◌, ℕ, ◌+◌, ◌-◌, ◌<◌, ◌≤◌, Bool, true, false, List, length, refl, sym, ◌∙◌, ap, arith, Option, Some, None, Result, Ok, Err}
use Rattle.std.specs.Prelude.{IfOk, OnErr, if◌then◌else◌}
use Rattle.std.specs.Option.{option_map}
use Rattle.std.specs.declared.cmp.Ordering.{Ordering}
use Rattle.std.specs.Map.{lookup, set_value, remove_entry}
use Rattle.std.specs.BTreeMap.{is_at}
use Rattle.std.proofs.lemmas.Bool.Decides.{nat_tests}
use Rattle.std.proofs.lemmas.Bool.{le-leb, lt-leb}
use Rattle.reassembly_lane.specs.declared.answer.Answer.{Answer}
use Rattle.reassembly_lane.specs.declared.answer.Answer.TheVariants as answer
use Rattle.reassembly_lane.specs.declared.answer.FragBad.TheVariants as bad
use Rattle.reassembly_lane.specs.declared.context.Turn.{Turn}
use Rattle.reassembly_lane.specs.declared.context.Turn.TheVariants as turn
use Rattle.reassembly_lane.specs.declared.parts.Part.{Part}
use Rattle.reassembly_lane.specs.Contexts.{Partial, with_part}
use Rattle.reassembly_lane.specs.Lanes.{Arrival, LaneOutcome, answering, open_at, late_numbers, most_contexts, is_odd, is_long, fresh, going_on, beginning, found, among}
use Rattle.reassembly_lane.specs.Sound.{IsSoundPart}
use Rattle.reassembly_lane.specs.Turns.{outcome}
use Rattle.reassembly_lane.proofs.Entries.{remove_after_set, late_and_open}

pub on_err_always : {T E : Type 0} {P : Type 0} (r : Result T E) → P → OnErr r P
on_err_always (Ok x) p = tt
on_err_always (Err x) p = p

-- one piece more of the datagram with a key: it stays, or it is taken out
module _ {K : Type 0} (cmp : K → K → Ordering) (es new lent : List (K × Partial)) (key : K) (x w : Partial) (part : Part) (t : Turn) (said : Answer) (comes : outcome t w ≡ with_part x part) (lends : lent ≡ set_value (is_at (cmp key)) es w) where
  pub stays_at : t ≡ turn.Stays said → new ≡ lent → answering said new ≡ going_on cmp es key (with_part x part)
  stays_at e n = ap (answering said) (n ∙ lends) ∙ ap (λ (y : Turn). going_on cmp es key (outcome y w)) (sym e) ∙ ap (going_on cmp es key) comes

  pub ends_at : t ≡ turn.Ends said → new ≡ remove_entry (is_at (cmp key)) lent → answering said new ≡ going_on cmp es key (with_part x part)
  ends_at e n =
      ap (answering said) (n ∙ ap (remove_entry (is_at (cmp key))) lends ∙ remove_after_set (is_at (cmp key)) es w)
      ∙ ap (λ (y : Turn). going_on cmp es key (outcome y w)) (sym e)
      ∙ ap (going_on cmp es key) comes

-- as what a look-up among those that wait says of it
pub told_at : {K : Type 0} (cmp : K → K → Ordering) (es new : List (K × Partial)) (key : K) (x : Partial) (part : Part) (said : Answer) (o : Option Partial) → o ≡ Some x → answering said new ≡ going_on cmp es key (with_part x part) → option_map (λ (says : Answer). answering says new) (Some said) ≡ option_map (λ (partial : Partial). going_on cmp es key (with_part partial part)) o
told_at {K} cmp es new key x part said o f g =
    ap (λ (turn : LaneOutcome K). Some turn) g ∙ ap (λ (l : Option Partial). option_map (λ (partial : Partial). going_on cmp es key (with_part partial part)) l) (sym f)

pub told_none : {K : Type 0} (cmp : K → K → Ordering) (es new : List (K × Partial)) (key : K) (part : Part) (o : Option Partial) → o ≡ None → option_map (λ (says : Answer). answering says new) None ≡ option_map (λ (partial : Partial). going_on cmp es key (with_part partial part)) o
told_none cmp es new key part o f = ap (λ (l : Option Partial). option_map (λ (partial : Partial). going_on cmp es key (with_part partial part)) l) (sym f)

-- ---- by the tests of a lane
pub sound_part : (part : Part) → is_odd part ≡ false → is_long part ≡ false → IsSoundPart part
sound_part part a b = record { filled = grind (arith, nat_tests); short = grind (arith, nat_tests) }

abbrev by_tests : {K : Type 0} (cmp : K → K → Ordering) → List (K × Partial) → Arrival K → Bool → Bool → Option Partial → LaneOutcome K
by_tests cmp es piece a b o =
    if a then answering (answer.Refused bad.Odd) es
    else if b then answering (answer.Refused bad.Long) es
    else found cmp es piece o

pub odd_among : {K : Type 0} (cmp : K → K → Ordering) (es new : List (K × Partial)) (piece : Arrival K) → new ≡ es → is_odd piece.part ≡ true → answering (answer.Refused bad.Odd) new ≡ among cmp es piece
odd_among cmp es new piece e h = ap (answering (answer.Refused bad.Odd)) e ∙ ap (λ (b : Bool). by_tests cmp es piece b (is_long piece.part) (lookup (is_at (cmp piece.key)) (open_at piece.time es))) (sym h)

pub long_among : {K : Type 0} (cmp : K → K → Ordering) (es new : List (K × Partial)) (piece : Arrival K) → new ≡ es → is_odd piece.part ≡ false → is_long piece.part ≡ true → answering (answer.Refused bad.Long) new ≡ among cmp es piece
long_among cmp es new piece e h k =
    ap (answering (answer.Refused bad.Long)) e
    ∙ ap (λ (b : Bool). by_tests cmp es piece false b (lookup (is_at (cmp piece.key)) (open_at piece.time es))) (sym k)
    ∙ ap (λ (b : Bool). by_tests cmp es piece b (is_long piece.part) (lookup (is_at (cmp piece.key)) (open_at piece.time es))) (sym h)

found_among : {K : Type 0} (cmp : K → K → Ordering) (es : List (K × Partial)) (piece : Arrival K) (o : Option Partial) → is_odd piece.part ≡ false → is_long piece.part ≡ false → lookup (is_at (cmp piece.key)) (open_at piece.time es) ≡ o → found cmp es piece o ≡ among cmp es piece
found_among cmp es piece o h k f =
    ap (found cmp es piece) (sym f)
    ∙ ap (λ (b : Bool). by_tests cmp es piece false b (lookup (is_at (cmp piece.key)) (open_at piece.time es))) (sym k)
    ∙ ap (λ (b : Bool). by_tests cmp es piece b (is_long piece.part) (lookup (is_at (cmp piece.key)) (open_at piece.time es))) (sym h)

-- one piece more of a datagram that was found
pub going_among : {K : Type 0} (cmp : K → K → Ordering) (es new : List (K × Partial)) (piece : Arrival K) (part : Part) (said : Answer) (o : Option Partial) → part ≡ piece.part → is_odd piece.part ≡ false → is_long piece.part ≡ false → lookup (is_at (cmp piece.key)) (open_at piece.time es) ≡ o → option_map (λ (says : Answer). answering says new) (Some said) ≡ option_map (λ (partial : Partial). going_on cmp es piece.key (with_part partial part)) o → answering said new ≡ among cmp es piece
going_among cmp es new piece part said None e h k f g = absurd cc
going_among cmp es new piece part said (Some x) e h k f g =
    let goes : answering said new ≡ going_on cmp es piece.key (with_part x part) = cc in
    goes ∙ ap (λ (p : Part). going_on cmp es piece.key (with_part x p)) e ∙ found_among cmp es piece (Some x) h k f

-- nothing was found
pub none_among : {K : Type 0} (cmp : K → K → Ordering) (es new : List (K × Partial)) (key : K) (part : Part) (said : Option Answer) (o : Option Partial) → said ≡ None → option_map (λ (says : Answer). answering says new) said ≡ option_map (λ (partial : Partial). going_on cmp es key (with_part partial part)) o → o ≡ None
none_among cmp es new key part said None t e = refl
none_among cmp es new key part None (Some x) t e = absurd cc
none_among cmp es new key part (Some says) (Some x) t e = absurd cc

pub on_ok_then : {T E : Type 0} (P Q : Type 0) (r : Result T E) → P → IfOk r (λ _. P → Q) → IfOk r (λ _. Q)
on_ok_then P Q (Ok x) p f = f p
on_ok_then P Q (Err x) p f = f

pub full_among : {K : Type 0} (cmp : K → K → Ordering) (es new : List (K × Partial)) (piece : Arrival K) (late : ℕ) → new ≡ es → is_odd piece.part ≡ false → is_long piece.part ≡ false → lookup (is_at (cmp piece.key)) (open_at piece.time es) ≡ None → late ≡ length (late_numbers piece.time es) → 256 ≤ length es - late → answering (answer.Refused bad.Full) new ≡ among cmp es piece
full_among cmp es new piece late e h k w n m =
    let c : length (open_at piece.time es) + length (late_numbers piece.time es) ≡ length es = late_and_open piece.time es in
    ap (answering (answer.Refused bad.Full)) e
    ∙ ap (λ (b : Bool). if b then answering (answer.Refused bad.Full) es else beginning cmp es piece.key (with_part (fresh piece.time piece.number) piece.part)) (sym (le-leb most_contexts (length (open_at piece.time es)) (omega arith)))
    ∙ found_among cmp es piece None h k w

pub beginning_among : {K E : Type 0} (cmp : K → K → Ordering) (es new : List (K × Partial)) (piece : Arrival K) (late : ℕ) (r : Result Answer E) → is_odd piece.part ≡ false → is_long piece.part ≡ false → lookup (is_at (cmp piece.key)) (open_at piece.time es) ≡ None → late ≡ length (late_numbers piece.time es) → length es - late < 256 → IfOk r (λ said. answering said new ≡ beginning cmp es piece.key (with_part (fresh piece.time piece.number) piece.part)) → IfOk r (λ said. answering said new ≡ among cmp es piece)
beginning_among cmp es new piece late (Err x) h k w n m g = g
beginning_among cmp es new piece late (Ok said) h k w n m g =
    let c : length (open_at piece.time es) + length (late_numbers piece.time es) ≡ length es = late_and_open piece.time es in
    g
    ∙ ap (λ (b : Bool). if b then answering (answer.Refused bad.Full) es else beginning cmp es piece.key (with_part (fresh piece.time piece.number) piece.part)) (sym (lt-leb most_contexts (length (open_at piece.time es)) (omega arith)))
    ∙ found_among cmp es piece None h k w
