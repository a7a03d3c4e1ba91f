-- What the front of what is left tells of the record that stands there.
use Rattle.std.proofs.Common.{◌≡◌, ℕ, ◌+◌, ◌^◌, ◌<◌, ◌≤◌, ◌==◌, ◌⊎◌, nat_lt, Bool, true, false, if◌then◌else◌, List, length, take, drop, Ok, refl, sym, ◌∙◌, ap, subst, inl, inr, arith}
use Rattle.std.proofs.lemmas.List.{drop-drop, drop-take, length-drop, length-take}
use Rattle.std.proofs.lemmas.Bool.{true≢false}
use Rattle.std.proofs.lemmas.Bool.Decides.{nat_tests}
use Rattle.aftr_base.specs.Numbers.{span}
use Rattle.capture_io.specs.declared.forms.CaptureBad.TheVariants as bad
use Rattle.capture_io.specs.declared.forms.Next.TheVariants as next
use Rattle.capture_io.specs.declared.forms.Rec.{Rec}
use Rattle.capture_io.specs.declared.record.Head.{Head}
use Rattle.capture_io.specs.declared.fronts.Front.{Front}
use Rattle.capture_io.specs.declared.fronts.Front.TheVariants as front
use Rattle.capture_io.specs.Fronts.{IsFront, IsStart, Tells, front_in, if_last, is_more, rec_at}
use Rattle.capture_io.specs.Record.{captured, next_in, record_in}
use Rattle.capture_io.specs.Windows.{Ahead}
use Rattle.capture_io.proofs.FrontLemmas.{span_front}
use Rattle.capture_io.proofs.RecordLemmas.{head_of_left, next_by, record_is}

-- the start of what is left is no longer than it
pub start_long : (first left : List ℕ) → IsStart first left → length first ≤ length left
start_long first left s =
    let same : length (take (length first) left) ≡ length first = ap length s in
    omega (arith, length-take (length first) left)

-- bytes within the start
at_start : (first left : List ℕ) (at count : ℕ) → IsStart first left → at + count ≤ length first → span left at count ≡ span first at count
at_start first left at count s within =
    sym (ap (λ l. span l at count) (sym s) ∙ span_front left (length first) at count within)

-- what the front says, by what the tests gave
abbrev front_by : Bool → Bool → Bool → Bool → Bool → Bool → ℕ → Head → Front
front_by empty many cut long less last at head =
    if empty then if_last last front.End
    else if many then front.Bad (bad.TooMany at)
    else if cut then if_last last (front.Bad (bad.CutHeader at))
    else if long then front.Bad (bad.TooLong at)
    else if less then if_last last (front.Bad (bad.CutRecord at))
    else front.Whole head

-- where nothing follows
last_by : (empty many cut long less : Bool) (at : ℕ) (first : List ℕ) (head : Head) →
    Tells at first (front_by empty many cut long less true at head) (next_by empty many cut long less at (rec_at at first head))
last_by true many cut long less at first head = refl
last_by false true cut long less at first head = refl
last_by false false true long less at first head = refl
last_by false false false true less at first head = refl
last_by false false false false true at first head = refl
last_by false false false false false at first head = refl

-- where more may follow, the tests that decide give the same of all that is left
more_by : (empty many cut long less some whole short enough : Bool) (at : ℕ) (first : List ℕ) (head : Head) (r : Rec) →
    (empty ≡ false → some ≡ false) → (cut ≡ false → whole ≡ false) → (cut ≡ false → short ≡ long) → (cut ≡ false → less ≡ false → enough ≡ false) →
    (cut ≡ false → less ≡ false → r ≡ rec_at at first head) →
    Tells at first (front_by empty many cut long less false at head) (next_by some many whole short enough at r)
more_by true many cut long less some whole short enough at first head r e c l s w = tt
more_by false true cut long less some whole short enough at first head r e c l s w = rw (e refl) refl
more_by false false true long less some whole short enough at first head r e c l s w = tt
more_by false false false true less some whole short enough at first head r e c l s w = rw (e refl, c refl, l refl) refl
more_by false false false false true some whole short enough at first head r e c l s w = tt
more_by false false false false false some whole short enough at first head r e c l s w =
    rw (e refl, c refl, l refl, s refl refl) (ap (λ x. Ok (next.Rec x)) (w refl refl))

captured_start : (big : Bool) (first left : List ℕ) → IsStart first left → nat_lt (length first) 16 ≡ false → captured big left ≡ captured big first
captured_start big first left s long =
    let within : 12 ≤ length first = grind (arith, nat_tests) in
    rw (at_start first left 8 4 s within) refl

record_start : (big : Bool) (first left : List ℕ) (at : ℕ) → IsStart first left → nat_lt (length first) 16 ≡ false →
    nat_lt (length first) (16 + captured big first) ≡ false → record_in big left at ≡ rec_at at first (head_of_left big first)
record_start big first left at s long enough =
    let size : 16 ≤ length first = grind (arith, nat_tests) in
    let whole : 16 + captured big first ≤ length first = grind (arith, nat_tests) in
    let same : captured big left ≡ captured big first = captured_start big first left s long in
    rw (same, at_start first left 0 4 s (omega arith), at_start first left 4 4 s (omega arith), at_start first left 16 (captured big first) s whole) refl

front_open : (big : Bool) (first left : List ℕ) (at number : ℕ) → IsStart first left → Tells at first (front_in big first false at number) (next_in big left at number)
front_open big first left at number s =
    let long : length first ≤ length left = start_long first left s in
    more_by (length first == 0) (number == 2 ^ 31) (nat_lt (length first) 16) (nat_lt 262144 (captured big first)) (nat_lt (length first) (16 + captured big first))
    (length left == 0) (nat_lt (length left) 16) (nat_lt 262144 (captured big left)) (nat_lt (length left) (16 + captured big left)) at first (head_of_left big first) (record_in big left at)
    (λ e. grind (arith, nat_tests)) (λ c. grind (arith, nat_tests)) (λ c. ap (λ n. nat_lt 262144 n) (captured_start big first left s c))
    (λ c l. let same : captured big left ≡ captured big first = captured_start big first left s c in grind (arith, nat_tests))
    (λ c l. record_start big first left at s c l)

front_last : (big : Bool) (first left : List ℕ) (at number : ℕ) → left ≡ first → Tells at first (front_in big first true at number) (next_in big left at number)
front_last big first left at number same =
    let P : List ℕ → Type 0 = λ l. Tells at first (front_in big first true at number) (next_in big l at number) in
    subst P (sym same) (last_by (length first == 0) (number == 2 ^ 31) (nat_lt (length first) 16) (nat_lt 262144 (captured big first)) (nat_lt (length first) (16 + captured big first)) at first (head_of_left big first))

pub front_told : (big : Bool) (first : List ℕ) (last : Bool) (left : List ℕ) (at number : ℕ) → IsFront first last left →
    Tells at first (front_in big first last at number) (next_in big left at number)
front_told big first true left at number f = front_last big first left at number (f.whole refl)
front_told big first false left at number f = front_open big first left at number f.start

-- what a whole record says of its header and of the bytes there
pub record IsWhole (big : Bool) (first : List ℕ) (number : ℕ) (head : Head) : Type 0 where
  pub number_in : (number == 2 ^ 31) ≡ false
  pub size : nat_lt 262144 head.captured ≡ false
  pub there : nat_lt (length first) (16 + head.captured) ≡ false

abbrev WholeBy : Bool → Bool → Bool → Type 0
WholeBy many long less = (many ≡ false) × (long ≡ false) × (less ≡ false)

whole_tests : (empty many cut long less last : Bool) (at : ℕ) (head other : Head) → front_by empty many cut long less last at head ≡ front.Whole other → WholeBy many long less × (head ≡ other)
whole_tests true many cut long less true at head other e = absurd (cc)
whole_tests true many cut long less false at head other e = absurd (cc)
whole_tests false true cut long less last at head other e = absurd (cc)
whole_tests false false true long less true at head other e = absurd (cc)
whole_tests false false true long less false at head other e = absurd (cc)
whole_tests false false false true less last at head other e = absurd (cc)
whole_tests false false false false true true at head other e = absurd (cc)
whole_tests false false false false true false at head other e = absurd (cc)
whole_tests false false false false false last at head other e = ((refl, refl, refl), cc)

pub whole_front : (big : Bool) (first : List ℕ) (last : Bool) (at number : ℕ) (head : Head) → front_in big first last at number ≡ front.Whole head → IsWhole big first number head
whole_front big first last at number head e =
    let found = whole_tests (length first == 0) (number == 2 ^ 31) (nat_lt (length first) 16) (nat_lt 262144 (captured big first)) (nat_lt (length first) (16 + captured big first)) last at (head_of_left big first) head e in
    let P : Head → Type 0 = λ h. IsWhole big first number h in
    subst P found.1 (record { number_in = found.0.0; size = found.0.1; there = found.0.2 })

-- where the front is open, it is short
abbrev OpenBy : Bool → Bool → Bool → Bool → Type 0
OpenBy empty cut long less = (empty ≡ true) ⊎ ((cut ≡ true) ⊎ ((cut ≡ false) × (long ≡ false) × (less ≡ true)))

open_tests : (empty many cut long less : Bool) (at : ℕ) (head : Head) → is_more (front_by empty many cut long less false at head) ≡ true → OpenBy empty cut long less
open_tests true many cut long less at head e = inl refl
open_tests false true cut long less at head e = absurd (cc)
open_tests false false true long less at head e = inr (inl refl)
open_tests false false false true less at head e = absurd (cc)
open_tests false false false false true at head e = inr (inr (refl, refl, refl))
open_tests false false false false false at head e = absurd (cc)

abbrev Open : Bool → List ℕ → Type 0
Open big first = OpenBy (length first == 0) (nat_lt (length first) 16) (nat_lt 262144 (captured big first)) (nat_lt (length first) (16 + captured big first))

open_front : (big : Bool) (first : List ℕ) (at number : ℕ) → is_more (front_in big first false at number) ≡ true → Open big first
open_front big first at number e =
    open_tests (length first == 0) (number == 2 ^ 31) (nat_lt (length first) 16) (nat_lt 262144 (captured big first)) (nat_lt (length first) (16 + captured big first)) at (head_of_left big first) e

short_by : (big : Bool) (first : List ℕ) → Open big first → length first < 262160
short_by big first (inl e) = grind (arith, nat_tests)
short_by big first (inr (inl e)) = grind (arith, nat_tests)
short_by big first (inr (inr e)) = let long = e.1 in let less = e.2 in
    let most : captured big first ≤ 262144 = grind (arith, nat_tests) in
    let short : length first < 16 + captured big first = grind (arith, nat_tests) in
    omega arith

pub open_short : (big : Bool) (first : List ℕ) (at number : ℕ) → is_more (front_in big first false at number) ≡ true → length first < 262160
open_short big first at number e = short_by big first (open_front big first at number e)

-- and the record that stands there ends behind it
ends_by : (big : Bool) (first left : List ℕ) (at number : ℕ) (r : Rec) → Open big first → IsStart first left → record_in big left at ≡ r → at + length first < r.next_at
ends_by big first left at number r (inl e) s is = let short : length first ≡ 0 = grind (arith, nat_tests) in omega (arith, ap (λ x. x.next_at) is)
ends_by big first left at number r (inr (inl e)) s is = let short : length first < 16 = grind (arith, nat_tests) in omega (arith, ap (λ x. x.next_at) is)
ends_by big first left at number r (inr (inr e)) s is =
    let less = e.2 in
    let short : length first < 16 + captured big first = grind (arith, nat_tests) in
    omega (arith, ap (λ x. x.next_at) is, captured_start big first left s e.0)

pub open_ends : (big : Bool) (first left : List ℕ) (at number : ℕ) (r : Rec) → is_more (front_in big first false at number) ≡ true → IsStart first left →
    next_in big left at number ≡ Ok (next.Rec r) → at + length first < r.next_at
open_ends big first left at number r e s found = ends_by big first left at number r (open_front big first at number e) s (record_is big left at number r found)

-- where nothing more comes, something is said
decided_by : (empty many cut long less : Bool) (at : ℕ) (head : Head) → is_more (front_by empty many cut long less true at head) ≡ false
decided_by true many cut long less at head = refl
decided_by false true cut long less at head = refl
decided_by false false true long less at head = refl
decided_by false false false true less at head = refl
decided_by false false false false true at head = refl
decided_by false false false false false at head = refl

pub last_decided : (big : Bool) (first : List ℕ) (at number : ℕ) → is_more (front_in big first true at number) ≡ false
last_decided big first at number =
    decided_by (length first == 0) (number == 2 ^ 31) (nat_lt (length first) 16) (nat_lt 262144 (captured big first)) (nat_lt (length first) (16 + captured big first)) at (head_of_left big first)

-- what the front says of the bytes of a window, as the code has them
pub said_of : (big : Bool) (window : Ahead) (at number : ℕ) (slice : List ℕ) (last : Bool) (result : Front) → slice ≡ window.bytes → last ≡ window.last →
    result ≡ front_in big slice last at number → result ≡ front_in big window.bytes window.last at number
said_of big window at number slice last result bytes end says = says ∙ (λ i. front_in big (bytes i) (end i) at number)

-- so where nothing is said, more may come
pub open_last : (big : Bool) (first : List ℕ) (last : Bool) (at number : ℕ) → is_more (front_in big first last at number) ≡ true → last ≡ false
open_last big first true at number e = absurd (true≢false (sym e ∙ last_decided big first at number))
open_last big first false at number e = refl

pub open_more : (big : Bool) (first : List ℕ) (last : Bool) (at number : ℕ) → is_more (front_in big first last at number) ≡ true → is_more (front_in big first false at number) ≡ true
open_more big first true at number e = absurd (true≢false (sym e ∙ last_decided big first at number))
open_more big first false at number e = e

-- the front of what is left behind some bytes of a piece
pub front_behind : (piece all : List ℕ) (last : Bool) (at used : ℕ) → used ≤ length piece → IsFront piece last (drop at all) → IsFront (drop used piece) last (drop (at + used) all)
front_behind piece all last at used within f =
    let size : used + length (drop used piece) ≡ length piece = omega (arith, length-drop used piece) in
    let behind : drop (at + used) all ≡ drop used (drop at all) = sym (drop-drop used at all) in
    let front : take (used + length (drop used piece)) (drop at all) ≡ piece = ap (λ n. take n (drop at all)) size ∙ f.start in
    record {
      start = ap (λ l. take (length (drop used piece)) l) behind ∙ (sym (drop-take used (length (drop used piece)) (drop at all)) ∙ ap (λ l. drop used l) front);
      whole = λ h. behind ∙ ap (λ l. drop used l) (f.whole h);
    }
