-- What the areas' answers say to a worker.
use Rattle.std.proofs.lemmas.List.Sums.{sum_by-cons}
use Rattle.std.proofs.Common.{◌≡◌, ℕ, ◌+◌, ◌-◌, ◌<◌, ◌≤◌, List, [], ◌∷◌, Option, Some, None, All, cond, slice_get, unwrap_or, ap, subst, sym, ◌∙◌, arith, length}
use Rattle.binding_rules.specs.Tables.{BindingTable}
use Rattle.binding_rules.specs.declared.settings.Softwire.{Softwire}
use Rattle.ip_codec.specs.declared.items.Item.{Item}
use Rattle.ip_codec.specs.declared.items.Item.TheVariants as item
use Rattle.swap_core.specs.Plans.{Tables, table, limit}
use Rattle.swap_core.specs.declared.actors.ActorState.TheVariants.{Idle}
use Rattle.area_swap.specs.declared.answers.Seen.{Seen}
use Rattle.area_swap.specs.declared.board.View.{View}
use Rattle.area_swap.specs.Answers.{HoldsNow, HasMoved, HasDrawn, IsNotHeld, IsAtEnd, IsAtLimit, HasLost}
use Rattle.area_swap.specs.Reading.{OnlyReads}
use Rattle.area_swap.specs.Rule.{IsDrawnBy}
use Rattle.area_swap.specs.Values.{AreasValue, SeatValue, HoldsStill, IsIdle, IsOf}
use Rattle.area_swap.specs.Views.{IsUpTo, acting, held_table, held_version, reading}
use Rattle.table_words.specs.Layout.{IsCompiled, AreCompiled}
use Rattle.table_words.specs.Reads.{read_more}
use Rattle.verdict_core.specs.Fitting.{AsksTable}
use Rattle.verdict_core.specs.Verdicts.{verdict_of}
use Rattle.verdict_core.specs.declared.verdicts.Verdict.{Verdict}
use Rattle.worker_gate.specs.declared.outcomes.Stop.TheVariants as stop
use Rattle.worker_gate.specs.Outcomes.{asks, asking, IsJudged}
use Rattle.worker_gate.specs.Serving.{HeldLast, HoldsLast, IsHolding}
use Rattle.worker_gate.specs.Turns.{DrawsNothing, HasHeld, HasStayedIdle, HasTakenRun, HasStoppedNow, HasTried}
use Rattle.worker_gate.proofs.Served.{upto_same, upto_on}

pub held_is : (version : ℕ) (v w : View) → HoldsNow version v w → HasHeld version v w
held_is version v w h =
    record {
      nothing =
          record {
            draws = ap (λ (x : View). x.actor.draws) h.after;
            later = upto_on v.seen w.prior w.seen h.earlier h.later;
            same_reads = ap (λ (x : View). x.reads) h.after;
            same_share = ap (λ (x : View). x.share) h.after;
            same_right = ap (λ (x : View). x.right) h.after;
          };
      holds = h.holds;
      held = h.held;
      there = h.there;
    }

pub moved_is : (before now : ℕ) (v w : View) → IsIdle v → HasMoved before now v w → HasStayedIdle v w
moved_is before now v w idle h =
    record {
      nothing =
          record {
            draws = ap (λ (x : View). x.actor.draws) h.after;
            later = upto_on v.seen w.prior w.seen h.earlier h.later;
            same_reads = ap (λ (x : View). x.reads) h.after;
            same_share = ap (λ (x : View). x.share) h.after;
            same_right = ap (λ (x : View). x.right) h.after;
          };
      idle = ap (λ (x : View). x.actor.state) h.after ∙ idle;
    }

-- the held table is one of the plan's
pub table_compiled : (areas : AreasValue) (version : ℕ) (s : SeatValue) → All AreCompiled areas.plan.tables → s.known.plan ≡ areas.plan
    → held_version s.known ≡ version → version < length areas.plan.tables → AreCompiled (held_table s.known)
table_compiled areas version s all plan held there =
    let P : Tables → Type 0 = λ p. AreCompiled (table p (held_version s.known)) in
    let Q : ℕ → Type 0 = λ n. AreCompiled (table areas.plan n) in subst P (sym plan) (subst Q (sym held) (all version [] there))

pub run_is : (p : Tables) (end most number count : ℕ) (v w : View) → HasDrawn p end most number count (held_version v) v w
    → HasTakenRun end number count v w
run_is p end most number count v w h =
    record {
      draws = ap (λ (x : View). x.actor.draws) h.after;
      some_one = h.some_one;
      below_end = h.below_end;
      is_next = h.is_next;
      drawn = h.drawn;
      later = (let P : Seen → Type 0 = λ s. IsUpTo v.seen s in subst P h.same h.earlier);
      same_reads = ap (λ (x : View). x.reads) h.after;
      same_right = ap (λ (x : View). x.right) h.after;
    }

pub lost_is : (p : Tables) (end saw found held : ℕ) (v w : View) → HasLost p end saw found held v w → DrawsNothing v w
lost_is p end saw found held v w h =
    record {
      draws = ap (λ (x : View). x.actor.draws) h.after;
      later = upto_on v.seen w.prior w.seen h.earlier h.later;
      same_reads = ap (λ (x : View). x.reads) h.after;
      same_share = ap (λ (x : View). x.share) h.after;
      same_right = ap (λ (x : View). x.right) h.after;
    }

pub not_held_is : (now held : ℕ) (v w : View) → IsNotHeld now held v w → DrawsNothing v w
not_held_is now held v w h =
    record {
      draws = ap (λ (x : View). x.actor.draws) h.after;
      later = h.sees.later;
      same_reads = ap (λ (x : View). x.reads) h.after;
      same_share = ap (λ (x : View). x.share) h.after;
      same_right = ap (λ (x : View). x.right) h.after;
    }

-- a reading of the version word that finds the held version in force
still_held : (v w : View) → w ≡ reading v w.seen → w.seen.version ≡ held_version v → held_version w ≡ w.seen.version
still_held v w after in_force = ap (λ (x : View). held_version x) after ∙ sym in_force

pub at_end_is : (end : ℕ) (v w : View) → IsAtEnd end (held_version v) v w → HasStoppedNow stop.End end v w
at_end_is end v w h =
    let draws : w.actor.draws ≡ v.actor.draws = ap (λ (x : View). x.actor.draws) h.after in
    let P : List (ℕ × ℕ) → Type 0 = λ l. All (IsDrawnBy w.seen) l in
    record {
      nothing =
          record {
            draws = draws;
            later = h.sees.later;
            same_reads = ap (λ (x : View). x.reads) h.after;
            same_share = ap (λ (x : View). x.share) h.after;
            same_right = ap (λ (x : View). x.right) h.after;
          };
      ended = record { stopped = h.reached; drawn = subst P (sym draws) h.sees.drawn };
      in_force = still_held v w h.after h.in_force;
    }

pub at_limit_is : (p : Tables) (end records : ℕ) (v w : View) → w.plan ≡ p → IsAtLimit p end records (held_version v) v w
    → HasStoppedNow (stop.Hold records) end v w
at_limit_is p end records v w plan h =
    let draws : w.actor.draws ≡ v.actor.draws = ap (λ (x : View). x.actor.draws) h.after in
    let P : List (ℕ × ℕ) → Type 0 = λ l. All (IsDrawnBy w.seen) l in
    let below : records < end = omega (arith, h.below_end, h.reached) in
    record {
      nothing =
          record {
            draws = draws;
            later = h.sees.later;
            same_reads = ap (λ (x : View). x.reads) h.after;
            same_share = ap (λ (x : View). x.share) h.after;
            same_right = ap (λ (x : View). x.right) h.after;
          };
      ended =
          record {
            stopped = (ap (λ (q : Tables). limit q w.seen.version) plan ∙ ap (λ (n : ℕ). limit p n) h.in_force ∙ h.limit_is, h.reached, below);
            drawn = subst P (sym draws) h.sees.drawn;
          };
      in_force = still_held v w h.after h.in_force;
    }

pub left_is : (v w : View) → w ≡ acting v Idle → DrawsNothing v w
left_is v w e =
    record {
      draws = ap (λ (x : View). x.actor.draws) e;
      later = (let P : View → Type 0 = λ x. IsUpTo v.seen x.seen in subst P (sym e) (upto_same v.seen));
      same_reads = ap (λ (x : View). x.reads) e;
      same_share = ap (λ (x : View). x.share) e;
      same_right = ap (λ (x : View). x.right) e;
    }

pub left_last : (v w : View) → HoldsLast v → w ≡ acting v Idle → HeldLast w
left_last v w h e = record { held = v; last = h; after = e }

-- A seat that holds goes on holding.

pub holds_on : (areas : AreasValue) (version : ℕ) (settings : Softwire) (s t : SeatValue) → IsOf areas t → HoldsStill s.known t.known
    → IsHolding areas version settings s → IsHolding areas version settings t
holds_on areas version settings s t its still h =
    let P : List ℕ → Type 0 = λ l. AreCompiled l in
    let Q : List ℕ → Type 0 = λ l. (b : BindingTable) → IsCompiled b l → settings ≡ b.softwire in
    record {
      its_areas = its;
      holds = still.holds;
      held = still.version ∙ h.held;
      compiled = subst P (sym still.table) h.compiled;
      has_settings = subst Q (sym still.table) h.has_settings;
    }

pub reads_on_holding : (areas : AreasValue) (version : ℕ) (settings : Softwire) (s t : SeatValue) → OnlyReads s t
    → IsHolding areas version settings s → IsHolding areas version settings t
reads_on_holding areas version settings s t only h =
    let P : SeatValue → Type 0 = λ x. IsHolding areas version settings x in
    subst P (sym only.rest)
    (record { its_areas = record { same_areas = h.its_areas.same_areas; same_plan = h.its_areas.same_plan }; holds = h.holds; held = h.held; compiled = h.compiled; has_settings = h.has_settings })

-- What is read.

abbrev some_of : Option ℕ → ℕ
some_of (Some n) = n
some_of _ = 0

pub more_reads : (old new before after : ℕ) → Some new ≡ read_more (Some old) (after - before) → before + 1 ≤ after → old + 1 ≤ new
more_reads old new before after e more =
    let sum : new ≡ old + (after - before) = ap some_of e in omega (arith, sum, more)

asks_or_not : (i : Item) (before after : ℕ) → before ≤ after → (AsksTable i → before + 1 ≤ after) → before + cond (asks (Some i)) 1 0 ≤ after
asks_or_not item.Held before after less asked = (let k : before + 0 ≤ after = omega (arith, less) in k)
asks_or_not (item.Bad why) before after less asked = (let k : before + 0 ≤ after = omega (arith, less) in k)
asks_or_not (item.Up outer inner) before after less asked = asked tt
asks_or_not (item.Down packet) before after less asked = asked tt
asks_or_not (item.OtherIp6 dst) before after less asked = asked tt
asks_or_not (item.Icmp6 src dst message) before after less asked = asked tt

pub asked_once : (items : List Item) (start number version : ℕ) (i : Item) (before after : ℕ) → slice_get items (number - start) ≡ Some i
    → before ≤ after → (AsksTable i → before + 1 ≤ after) → before + asking items start ((number, version) ∷ []) ≤ after
asked_once items start number version i before after is less asked =
    let one : asking items start ((number, version) ∷ []) ≡ cond (asks (slice_get items (number - start))) 1 0 + 0 =
    sum_by-cons {X = ℕ × ℕ} (λ (d : ℕ × ℕ). cond (asks (slice_get items (d.0 - start))) 1 0) (number, version) [] in
    let this : cond (asks (slice_get items (number - start))) 1 0 ≡ cond (asks (Some i)) 1 0 =
    ap (λ (o : Option Item). let k : ℕ = cond (asks o) 1 0 in k) is in
    let at_most : before + cond (asks (Some i)) 1 0 ≤ after = asks_or_not i before after less asked in
    omega (arith, one, this, at_most)

pub item_is : (xs : Option Item) (i j : Item) → xs ≡ Some i → xs ≡ Some j → j ≡ i
item_is xs i j e f = ap (λ (o : Option Item). unwrap_or o i) (sym f ∙ e)

pub judged_is : (areas : AreasValue) (items : List Item) (start number version : ℕ) (s : SeatValue) (i : Item) (v : Verdict) → IsOf areas s
    → held_version s.known ≡ version → slice_get items (number - start) ≡ Some i
    → ((t : BindingTable) → IsCompiled t (held_table s.known) → v ≡ verdict_of t i)
    → IsJudged areas.plan items start (record { number = number; version = version; verdict = v })
judged_is areas items start number version s i v its held is value t j compiled found =
    let P : Tables → Type 0 = λ p. IsCompiled t (table p (held_version s.known)) in
    let Q : ℕ → Type 0 = λ n. IsCompiled t (table areas.plan n) in
    value t (subst P (sym its.same_plan) (subst Q (sym held) compiled)) ∙ ap (λ (x : Item). verdict_of t x) (item_is (slice_get items (number - start)) j i found is)

pub tried_nothing : (r : Option ℕ) (v w : View) → HasTried r v w → DrawsNothing v w
tried_nothing (Some version) v w h = h.nothing
tried_nothing None v w h = h.nothing
