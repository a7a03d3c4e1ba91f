-- What the first line with a true condition answers, and the relation that says the same by what stands before it.
use Rattle.std.proofs.Common.{◌≡◌, ◌||◌, ◌⊎◌, inl, inr, Bool, true, false, List, [], ◌∷◌, ◌++◌, Option, Some, None, refl, ap, sym, ◌∙◌, if◌then◌else◌, subst}
use Rattle.std.specs.List.{All, list_all, list_any}
use Rattle.std.proofs.lemmas.Bool.{and_parts, both_ways, false_from_ne_true, or_from, true_from_ne_false}
use Rattle.std.proofs.lemmas.List.Elements.{All-nil, All-cons, All-head, All-tail}
use Rattle.binding_rules.specs.Tables.{BindingTable}
use Rattle.ip_codec.specs.declared.items.Item.{Item}
use Rattle.ip_codec.specs.declared.rules.Rule.{Rule}
use Rattle.verdict_core.specs.Lines.{Kind, Passing, Stopping, Line, verdict_in}
use Rattle.verdict_core.specs.Verdicts.{Judged, lines}
use Rattle.verdict_core.specs.declared.verdicts.Reply.TheVariants as reply
use Rattle.verdict_core.specs.declared.verdicts.Verdict.{Verdict}
use Rattle.verdict_core.specs.declared.verdicts.Verdict.TheVariants as verdict

abbrev IsFalse : Line → Type 0
IsFalse line = line.test ≡ false

-- a list of lines, taken apart at the first that is true
record IsSplit (ls : List Line) (v : Verdict) : Type 0 where
  earlier : List Line
  deciding : Line
  later : List Line
  whole : ls ≡ earlier ++ deciding ∷ later
  all_false : All IsFalse earlier
  is_true : deciding.test ≡ true
  answer : deciding.answer ≡ v

split_by : (line : Line) (ls : List Line) (v : Verdict) → (verdict_in ls ≡ Some v → IsSplit ls v) → (test : Bool) → line.test ≡ test →
    (if test then Some line.answer else verdict_in ls) ≡ Some v → IsSplit (line ∷ ls) v
split_by line ls v rest true e first =
    let same : line.answer ≡ v = cc in
    record { earlier = []; deciding = line; later = ls; whole = refl; all_false = All-nil IsFalse; is_true = e; answer = same }
split_by line ls v rest false e first =
    let behind = rest first in
    record {
      earlier = line ∷ behind.earlier;
      deciding = behind.deciding;
      later = behind.later;
      whole = ap (λ (xs : List Line). line ∷ xs) behind.whole;
      all_false = All-cons IsFalse line behind.earlier e behind.all_false;
      is_true = behind.is_true;
      answer = behind.answer;
    }

split_at_first : (ls : List Line) (v : Verdict) → verdict_in ls ≡ Some v → IsSplit ls v
split_at_first [] v is = absurd cc
split_at_first (line ∷ ls) v is = split_by line ls v (λ first. split_at_first ls v first) line.test refl is

first_at : (earlier : List Line) (line : Line) (later : List Line) → All IsFalse earlier → line.test ≡ true →
    verdict_in (earlier ++ line ∷ later) ≡ Some line.answer
first_at [] line later all_false is = ap (λ (b : Bool). if b then Some line.answer else verdict_in later) is
first_at (head ∷ earlier) line later all_false is =
    ap (λ (b : Bool). if b then Some head.answer else verdict_in (earlier ++ line ∷ later)) (All-head IsFalse head earlier all_false)
    ∙ first_at earlier line later (All-tail IsFalse head earlier all_false) is

pub judged : (t : BindingTable) (i : Item) (v : Verdict) → verdict_in (lines t i) ≡ Some v → Judged t i v
judged t i v is =
    let s = split_at_first (lines t i) v is in
    record { earlier = s.earlier; deciding = s.deciding; later = s.later; whole = s.whole; all_false = s.all_false; is_true = s.is_true; answer = s.answer }

pub first_line : (t : BindingTable) (i : Item) (v : Verdict) → Judged t i v → verdict_in (lines t i) ≡ Some v
first_line t i v j =
    ap (λ (ls : List Line). verdict_in ls) j.whole ∙ first_at j.earlier j.deciding j.later j.all_false j.is_true ∙ ap Some j.answer

-- the relation allows one verdict
pub only_verdict : (t : BindingTable) (i : Item) (v w : Verdict) → verdict_in (lines t i) ≡ Some v → Judged t i w → w ≡ v
only_verdict t i v w is j = let other : verdict_in (lines t i) ≡ Some w = first_line t i w j in cc

-- Lists laid end to end: the first one decides ..
before_by : (line : Line) (ls more : List Line) (v : Verdict) → (verdict_in ls ≡ Some v → verdict_in (ls ++ more) ≡ Some v) → (test : Bool) →
    (if test then Some line.answer else verdict_in ls) ≡ Some v → (if test then Some line.answer else verdict_in (ls ++ more)) ≡ Some v
before_by line ls more v rest true first = first
before_by line ls more v rest false first = rest first

pub decided_before : (ls more : List Line) (v : Verdict) → verdict_in ls ≡ Some v → verdict_in (ls ++ more) ≡ Some v
decided_before [] more v is = absurd cc
decided_before (line ∷ ls) more v is = before_by line ls more v (λ first. decided_before ls more v first) line.test is

-- .. or, where none of its lines is true, the second.
behind_by : (line : Line) (ls more : List Line) → (verdict_in ls ≡ None → verdict_in (ls ++ more) ≡ verdict_in more) → (test : Bool) →
    (if test then Some line.answer else verdict_in ls) ≡ None → (if test then Some line.answer else verdict_in (ls ++ more)) ≡ verdict_in more
behind_by line ls more rest true first = absurd cc
behind_by line ls more rest false first = rest first

pub decided_behind : (ls more : List Line) → verdict_in ls ≡ None → verdict_in (ls ++ more) ≡ verdict_in more
decided_behind [] more is = refl
decided_behind (line ∷ ls) more is = behind_by line ls more (λ first. decided_behind ls more first) line.test is

-- what decides where lists are laid end to end
abbrev pub Parts : List Line → List Line → Verdict → Type 0
Parts ls more v = (verdict_in ls ≡ Some v) ⊎ ((verdict_in ls ≡ None) × (verdict_in more ≡ Some v))

pub parted : (ls more : List Line) (v : Verdict) → verdict_in (ls ++ more) ≡ Some v → Parts ls more v
parted ls more v is = by_first (verdict_in ls) refl
  where
    by_first : (o : Option Verdict) → verdict_in ls ≡ o → Parts ls more v
    by_first (Some w) e = inl (e ∙ (sym (decided_before ls more w e) ∙ is))
    by_first None e = inr (e, sym (decided_behind ls more e) ∙ is)

-- What decides is a line of the list: it passes every test that all lines pass.
abbrev pub Deciding : (Line → Bool) → Verdict → Type 0
Deciding test v = (line : Line) × ((test line ≡ true) × (line.answer ≡ v))

deciding_by : (test : Line → Bool) (line : Line) (ls : List Line) (v : Verdict) → test line ≡ true → (verdict_in ls ≡ Some v → Deciding test v) →
    (b : Bool) → (if b then Some line.answer else verdict_in ls) ≡ Some v → Deciding test v
deciding_by test line ls v passes rest true first = let same : line.answer ≡ v = cc in (line, (passes, same))
deciding_by test line ls v passes rest false first = rest first

pub decided_by : (test : Line → Bool) (ls : List Line) (v : Verdict) → list_all test ls ≡ true → verdict_in ls ≡ Some v → Deciding test v
decided_by test [] v all is = absurd cc
decided_by test (line ∷ ls) v all is =
    let parts = and_parts (test line) (list_all test ls) all in
    deciding_by test line ls v parts.0 (λ first. decided_by test ls v parts.1 first) line.test is

abbrev pub is_silent : Verdict → Bool
is_silent (verdict.Drop why reply.Silent) = true
is_silent _ = false

-- A property of every silent drop holds of what decides in a list of such drops.
module _ (P : Verdict → Type 0) (of_silent : (why : Rule) → P (verdict.Drop why reply.Silent)) where
  silent_is : (v : Verdict) → is_silent v ≡ true → P v
  silent_is (verdict.Drop why reply.Silent) is = of_silent why
  silent_is (verdict.Drop why (reply.Unreachable own way)) is = absurd cc
  silent_is (verdict.Drop why (reply.TooBig own mtu way)) is = absurd cc
  silent_is (verdict.Drop why (reply.Exceeded own way)) is = absurd cc
  silent_is (verdict.Drop why (reply.Policy from to hop)) is = absurd cc
  silent_is (verdict.Drop why (reply.Relay own code mtu way)) is = absurd cc
  silent_is (verdict.Outward mtu) is = absurd cc
  silent_is (verdict.Inward from to hop mtu back) is = absurd cc
  silent_is verdict.Held is = absurd cc

  pub by_silence : (ls : List Line) (v : Verdict) → list_all (λ line. is_silent line.answer) ls ≡ true → verdict_in ls ≡ Some v → P v
  by_silence ls v all first =
      let d = decided_by (λ line. is_silent line.answer) ls v all first in
      subst P d.1.1 (silent_is d.0.answer d.1.0)

-- what a list can answer besides what keeps a packet, each with whether a line before it is true
abbrev pub with_way : Kind → Bool → Verdict → List (Bool × Verdict) → List (Bool × Verdict)
with_way Passing before v ways = (before, v) ∷ ways
with_way Stopping before v ways = ways

abbrev pub ways_behind : Bool → List Line → List (Bool × Verdict)
ways_behind before [] = []
ways_behind before (line ∷ ls) = with_way line.kind before line.answer (ways_behind (before || line.test) ls)

abbrev pub EachWay : (Verdict → Type 0) → List (Bool × Verdict) → Type 0
EachWay P [] = Unit {0}
EachWay P (way ∷ ways) = (way.0 ≡ false → P way.1) × EachWay P ways

-- lines that let nothing pass answer what passes the test
abbrev pub as_kept : (Verdict → Bool) → Kind → Verdict → Bool
as_kept test Passing v = true
as_kept test Stopping v = test v

-- A property of all that passes a test holds of what decides, where the lines that keep a packet answer such, and where it holds
-- of each way once no line before it is true.
module _ (P : Verdict → Type 0) (test : Verdict → Bool) (of_kept : (v : Verdict) → test v ≡ true → P v) where
  by_kind : (k : Kind) (before : Bool) (v : Verdict) (ways : List (Bool × Verdict)) → before ≡ false → as_kept test k v ≡ true →
      EachWay P (with_way k before v ways) → P v × EachWay P ways
  by_kind Passing before v ways none is each = (each.0 none, each.1)
  by_kind Stopping before v ways none is each = (of_kept v is, each)

  by_line : (line : Line) (ls : List Line) (v : Verdict) → P line.answer → (line.test ≡ false → verdict_in ls ≡ Some v → P v) → (b : Bool) →
      line.test ≡ b → (if b then Some line.answer else verdict_in ls) ≡ Some v → P v
  by_line line ls v holds rest true e first = let same : line.answer ≡ v = cc in subst P same holds
  by_line line ls v holds rest false e first = rest e first

  by_kinds : (before : Bool) → before ≡ false → (ls : List Line) (v : Verdict) → list_all (λ line. as_kept test line.kind line.answer) ls ≡ true →
      EachWay P (ways_behind before ls) → verdict_in ls ≡ Some v → P v
  by_kinds before none [] v all each is = absurd cc
  by_kinds before none (line ∷ ls) v all each is =
      let parts = and_parts (as_kept test line.kind line.answer) (list_all (λ l. as_kept test l.kind l.answer) ls) all in
      let here = by_kind line.kind before line.answer (ways_behind (before || line.test) ls) none parts.0 each in
      by_line line ls v here.0 (λ e first. by_kinds (before || line.test) (or_from before line.test none e) ls v parts.1 here.1 first) line.test refl is

  pub by_ways : (ls : List Line) (v : Verdict) → list_all (λ line. as_kept test line.kind line.answer) ls ≡ true →
      EachWay P (ways_behind false ls) → verdict_in ls ≡ Some v → P v
  by_ways ls v all each is = by_kinds false refl ls v all each is

-- whether some line is true
abbrev pub is_any : List Line → Bool
is_any ls = list_any (λ line. line.test) ls

pub or_true : (b : Bool) → (b || true) ≡ true
or_true true = refl
or_true false = refl

none_by : (line : Line) (ls : List Line) → (verdict_in ls ≡ None → is_any ls ≡ false) → (test : Bool) →
    (if test then Some line.answer else verdict_in ls) ≡ None → (test || is_any ls) ≡ false
none_by line ls rest true none = absurd cc
none_by line ls rest false none = rest none

pub none_true : (ls : List Line) → verdict_in ls ≡ None → is_any ls ≡ false
none_true [] none = refl
none_true (line ∷ ls) none = none_by line ls (λ behind. none_true ls behind) line.test none

-- What is so behind a list in which no line is true: otherwise some line would be.
pub so_behind : (ls : List Line) (b : Bool) → verdict_in ls ≡ None → (b ≡ false → is_any ls ≡ true) → b ≡ true
so_behind ls b none otherwise = true_from_ne_false b (λ e. both_ways (is_any ls) (none_true ls none) (otherwise e))

-- the same of what is not so, by whether a line before it is true
pub not_behind : (before b : Bool) → before ≡ false → (b ≡ true → before ≡ true) → b ≡ false
not_behind before b none otherwise = false_from_ne_true b (λ e. both_ways before none (otherwise e))

-- some line decides
abbrev pub Decides : List Line → Type 0
Decides ls = (v : Verdict) × (verdict_in ls ≡ Some v)

some_by : (line : Line) (ls : List Line) → (is_any ls ≡ true → Decides ls) → (test : Bool) → (test || is_any ls) ≡ true →
    (v : Verdict) × ((if test then Some line.answer else verdict_in ls) ≡ Some v)
some_by line ls rest true any = (line.answer, refl)
some_by line ls rest false any = rest any

pub some_decides : (ls : List Line) → is_any ls ≡ true → Decides ls
some_decides [] any = absurd cc
some_decides (line ∷ ls) any = some_by line ls (λ behind. some_decides ls behind) line.test any

behind_some : (line : Line) (ls : List Line) → Decides ls → (test : Bool) → (v : Verdict) × ((if test then Some line.answer else verdict_in ls) ≡ Some v)
behind_some line ls rest true = (line.answer, refl)
behind_some line ls rest false = rest

pub decides_behind : (ls more : List Line) → Decides more → Decides (ls ++ more)
decides_behind [] more rest = rest
decides_behind (line ∷ ls) more rest = behind_some line (ls ++ more) (decides_behind ls more rest) line.test
