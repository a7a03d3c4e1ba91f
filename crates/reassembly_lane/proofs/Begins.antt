-- When datagrams began, through a step of the lane.
use Rattle.std.proofs.Common.{◌≡◌, ℕ, ◌+◌, ◌≤◌, min, Bool, true, false, not, cond, List, [], ◌∷◌, map, filter, refl, sym, ◌∙◌, ap, subst, arith, Option, Some, None}
use Rattle.std.specs.List.{All}
use Rattle.std.specs.Option.{IfSome, option_map}
use Rattle.std.specs.declared.cmp.Ordering.{Ordering}
use Rattle.std.specs.Map.{lookup, values_of}
use Rattle.std.specs.BTreeMap.{insert_entry, is_at}
use Rattle.std.proofs.lemmas.Bool.{le-leb, leb-true, false≢true}
use Rattle.std.proofs.lemmas.List.Elements.{All-cons, All-head, All-nil, All-tail, All-weaker}
use Rattle.std.proofs.lemmas.Map.Views.{IfSome-lookup_from_All}
use Rattle.reassembly_lane.specs.declared.answer.Answer.{Answer}
use Rattle.reassembly_lane.specs.declared.context.Turn.{Turn}
use Rattle.reassembly_lane.specs.declared.context.Turn.TheVariants as turn
use Rattle.reassembly_lane.specs.declared.parts.Part.{Part}
use Rattle.reassembly_lane.specs.Contexts.{Outcome, Partial, with_part}
use Rattle.reassembly_lane.specs.Lanes.{Arrival, LaneOutcome, waits, waiting_time, answering, open_at, late_numbers, fresh, going_on, among, fed}
use Rattle.reassembly_lane.specs.Since.{Since}
use Rattle.reassembly_lane.specs.Sound.{IsSoundPart}
use Rattle.reassembly_lane.specs.Turns.{outcome}
use Rattle.reassembly_lane.proofs.Each.{Stays, comes_with, each_among, each_open, each_put_back, each_put_new}

-- what is true of each beginning
abbrev Begun : (ℕ → Type 0) → Partial → Type 0
Begun P partial = P partial.begun

-- a datagram keeps its beginning
begun_stays : (P : ℕ → Type 0) (part : Part) → Stays (Begun P) (λ _. Unit {0}) part
begun_stays P part = record {
  held = tt;
  refused = λ why. tt;
  emptied = λ partial why h. h;
  longer = λ sound partial h. h;
  whole = λ sound partial end h e. tt;
}

pub waits_now : (time : ℕ) → waits time time ≡ true
waits_now time = le-leb time (time + waiting_time) (omega arith)

-- ---- beginnings and whether they wait
abbrev WaitsAt : ℕ → Partial → Type 0
WaitsAt time partial = waits time partial.begun ≡ true

-- where a datagram waits, it did not begin before a time
abbrev IfWaits : ℕ → ℕ → Partial → Type 0
IfWaits time bound partial = waits time partial.begun ≡ true → bound ≤ partial.begun

module _ {K : Type 0} where
  all_open : (time : ℕ) (es : List (K × Partial)) → All (WaitsAt time) (values_of es) → open_at time es ≡ es
  all_open time [] h = refl
  all_open time (a ∷ es) h =
      ap (λ (b : Bool). cond b (a ∷ open_at time es) (open_at time es)) (All-head (WaitsAt time) a.1 (values_of es) h)
      ∙ ap (λ (l : List (K × Partial)). a ∷ l) (all_open time es (All-tail (WaitsAt time) a.1 (values_of es) h))

  none_late : (time : ℕ) (es : List (K × Partial)) → All (WaitsAt time) (values_of es) → late_numbers time es ≡ []
  none_late time [] h = refl
  none_late time (a ∷ es) h =
      ap (λ (b : Bool). map (λ e. e.1.number) (cond (not b) (a ∷ filter (λ e. not (waits time e.1.begun)) es) (filter (λ e. not (waits time e.1.begun)) es))) (All-head (WaitsAt time) a.1 (values_of es) h)
      ∙ none_late time es (All-tail (WaitsAt time) a.1 (values_of es) h)

  -- where none is late, each waits
  each_waits : (time : ℕ) (es : List (K × Partial)) → late_numbers time es ≡ [] → All (WaitsAt time) (values_of es)
  each_waits time [] h = All-nil (WaitsAt time)
  each_waits time (a ∷ es) h = by_test (waits time a.1.begun) refl h (each_waits time es)
    where
      by_test : (b : Bool) → waits time a.1.begun ≡ b → map (λ e. e.1.number) (cond (not b) (a ∷ filter (λ e. not (waits time e.1.begun)) es) (filter (λ e. not (waits time e.1.begun)) es)) ≡ [] → (late_numbers time es ≡ [] → All (WaitsAt time) (values_of es)) → All (WaitsAt time) (values_of (a ∷ es))
      by_test true e k ih = All-cons (WaitsAt time) a.1 (values_of es) e (ih k)
      by_test false e k ih = cc

  waits_since : (time bound : ℕ) (es : List (K × Partial)) → Since bound es → waits time bound ≡ true → All (WaitsAt time) (values_of es)
  waits_since time bound es h w = All-weaker (λ partial. bound ≤ partial.begun) (WaitsAt time) (λ partial l. later time bound partial.begun w l) (values_of es) h
    where
      later : (time bound begun : ℕ) → waits time bound ≡ true → bound ≤ begun → waits time begun ≡ true
      later time bound begun w l = let t : time ≤ bound + waiting_time = leb-true time (bound + waiting_time) w in le-leb time (begun + waiting_time) (omega arith)

  -- those that wait, by all of them, and the other way round
  since_open : (time bound : ℕ) (es : List (K × Partial)) → All (IfWaits time bound) (values_of es) → Since bound (open_at time es)
  since_open time bound [] h = All-nil (λ partial. bound ≤ partial.begun)
  since_open time bound (a ∷ es) h = by_test (waits time a.1.begun) refl (since_open time bound es (All-tail (IfWaits time bound) a.1 (values_of es) h))
    where
      by_test : (b : Bool) → waits time a.1.begun ≡ b → Since bound (open_at time es) → Since bound (cond b (a ∷ open_at time es) (open_at time es))
      by_test true e ih = All-cons (λ partial. bound ≤ partial.begun) a.1 (values_of (open_at time es)) (All-head (IfWaits time bound) a.1 (values_of es) h e) ih
      by_test false e ih = ih

  if_open_since : (time bound : ℕ) (es : List (K × Partial)) → Since bound (open_at time es) → All (IfWaits time bound) (values_of es)
  if_open_since time bound [] h = All-nil (IfWaits time bound)
  if_open_since time bound (a ∷ es) h = by_test (waits time a.1.begun) refl h (if_open_since time bound es)
    where
      by_test : (b : Bool) → waits time a.1.begun ≡ b → Since bound (cond b (a ∷ open_at time es) (open_at time es)) → (Since bound (open_at time es) → All (IfWaits time bound) (values_of es)) → All (IfWaits time bound) (values_of (a ∷ es))
      by_test true e k ih = All-cons (IfWaits time bound) a.1 (values_of es) (λ w. All-head (λ partial. bound ≤ partial.begun) a.1 (values_of (open_at time es)) k) (ih (All-tail (λ partial. bound ≤ partial.begun) a.1 (values_of (open_at time es)) k))
      by_test false e k ih = All-cons (IfWaits time bound) a.1 (values_of es) (λ w. absurd (false≢true (sym e ∙ w))) (ih k)

open_in_time : {K : Type 0} (cmp : K → K → Ordering) (es : List (K × Partial)) (piece : Arrival K) → late_numbers piece.time es ≡ [] → open_at piece.time (among cmp es piece).contexts ≡ (among cmp es piece).contexts
open_in_time cmp es piece h =
    all_open piece.time (among cmp es piece).contexts
    (each_among (WaitsAt piece.time) (λ _. Unit {0}) cmp es piece (begun_stays (λ begun. waits piece.time begun ≡ true) piece.part) (waits_now piece.time) (each_waits piece.time es h)).each

-- ---- as the code reads them: `es` are the contexts before, and `new` behind what the piece did among them
module _ {K : Type 0} (cmp : K → K → Ordering) (es new : List (K × Partial)) (piece : Arrival K) (said : Answer) (fed_so : answering said new ≡ among cmp es piece) where
  new_is : new ≡ (among cmp es piece).contexts
  new_is = ap (λ (o : LaneOutcome K). o.contexts) fed_so

  said_is : said ≡ (among cmp es piece).answer
  said_is = ap (λ (o : LaneOutcome K). o.answer) fed_so

  stays_open : (old : List (K × Partial)) → es ≡ old → late_numbers piece.time old ≡ [] → new ≡ open_at piece.time (among cmp es piece).contexts
  stays_open old e h = new_is ∙ sym (open_in_time cmp es piece (ap (late_numbers piece.time) e ∙ h))

  pub reads_since_in_time : (old : List (K × Partial)) (oldest : ℕ) → es ≡ old → late_numbers piece.time old ≡ [] → Since oldest (open_at piece.time new) → Since oldest new
  reads_since_in_time old oldest e h since =
      subst (λ (l : List (K × Partial)). Since oldest l) (ap (open_at piece.time) new_is ∙ sym (stays_open old e h)) since

  pub reads_fed_in_time : (old : List (K × Partial)) → es ≡ old → late_numbers piece.time old ≡ [] → answering said new ≡ fed cmp old piece
  reads_fed_in_time old e h =
      ap (answering said) (stays_open old e h)
      ∙ ap (λ (a : Answer). answering a (open_at piece.time (among cmp es piece).contexts)) said_is
      ∙ ap (λ (l : List (K × Partial)). fed cmp l piece) e

pub reads_none_late : {K : Type 0} (time oldest : ℕ) (es old : List (K × Partial)) → es ≡ old → Since oldest es → true ≡ waits time oldest → late_numbers time old ≡ []
reads_none_late time oldest es old e h w = ap (late_numbers time) (sym e) ∙ none_late time es (waits_since time oldest es h (sym w))

pub reads_since_open : {K : Type 0} (time oldest : ℕ) (es : List (K × Partial)) → Since oldest es → Since oldest (open_at time es)
reads_since_open time oldest es h = each_open (λ partial. oldest ≤ partial.begun) time es h

-- ---- one piece more of a datagram keeps the bound
module _ {K : Type 0} (cmp : K → K → Ordering) (time oldest : ℕ) (es new : List (K × Partial)) (key : K) (part : Part) (sound : IsSoundPart part) (since : Since oldest (open_at time es)) where
  pub since_going_on : (said : Answer) (o : Option Partial) → lookup (is_at (cmp key)) (open_at time es) ≡ o →
      option_map (λ (says : Answer). answering says new) (Some said) ≡ option_map (λ (partial : Partial). going_on cmp es key (with_part partial part)) o → Since oldest (open_at time new)
  since_going_on said None f e = absurd cc
  since_going_on said (Some partial) f e =
      let new_is : new ≡ (going_on cmp es key (with_part partial part)).contexts = new_by (answering said new) (going_on cmp es key (with_part partial part)) e in
      let each = if_open_since time oldest es since in
      let waiting : IfWaits time oldest partial =
      subst (λ (o : Option Partial). IfSome o (IfWaits time oldest)) f (IfSome-lookup_from_All (IfWaits time oldest) (is_at (cmp key)) (open_at time es) (each_open (IfWaits time oldest) time es each)) in
      subst (λ (l : List (K × Partial)). Since oldest (open_at time l)) (sym new_is)
      (since_open time oldest (going_on cmp es key (with_part partial part)).contexts
      (each_put_back (IfWaits time oldest) cmp es key (with_part partial part).left each
      (comes_with (IfWaits time oldest) (λ _. Unit {0}) part (begun_stays (λ begun. waits time begun ≡ true → oldest ≤ begun) part) sound partial waiting).left))
    where
      new_by : (a b : LaneOutcome K) → Some a ≡ Some b → a.contexts ≡ b.contexts
      new_by a b e = let same : a ≡ b = cc in ap (λ (o : LaneOutcome K). o.contexts) same

  -- and the first one of a datagram lowers it
  pub since_begun : (number least : ℕ) (partial : Partial) (t : Turn) (said : Answer) → outcome t partial ≡ with_part (fresh time number) part → t ≡ turn.Stays said →
      new ≡ insert_entry cmp es key partial → least ≡ min oldest time → Since least (open_at time new)
  since_begun number least partial t said comes stays new_is least_is =
      let left : (with_part (fresh time number) part).left ≡ Some partial =
      ap (λ (o : Outcome). o.left) (sym comes) ∙ ap (λ (y : Turn). (outcome y partial).left) stays in
      let begun : IfWaits time least partial =
      subst (λ (o : Option Partial). IfSome o (IfWaits time least)) left
      (comes_with (IfWaits time least) (λ _. Unit {0}) part (begun_stays (λ begun. waits time begun ≡ true → least ≤ begun) part) sound (fresh time number) (λ w. omega (arith, least_is))).left in
      subst (λ (l : List (K × Partial)). Since least (open_at time l)) (sym new_is)
      (since_open time least (insert_entry cmp es key partial)
      (each_put_new (IfWaits time least) cmp es key (Some partial)
      (All-weaker (IfWaits time oldest) (IfWaits time least) (λ p f w. lower_le p.begun (f w)) (values_of es) (if_open_since time oldest es since)) begun))
    where
      lower_le : (b : ℕ) → oldest ≤ b → least ≤ b
      lower_le b l = omega (arith, l, least_is)
