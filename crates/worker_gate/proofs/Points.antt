-- Points that come one after another.
use Rattle.std.proofs.Common.{◌≡◌, ℕ, ◌+◌, ◌<◌, ◌≤◌, inl, inr, Bool, true, false, List, [], ◌++◌, All, length, ap, subst, refl, sym, ◌∙◌, arith, length-append}
use Rattle.std.specs.Bool.{MatchBool}
use Rattle.std.proofs.lemmas.List.{append-nil, append_assoc}
use Rattle.swap_core.specs.Plans.{Tables, window}
use Rattle.area_swap.specs.declared.answers.Seen.{Seen}
use Rattle.area_swap.specs.declared.board.View.{View}
use Rattle.area_swap.specs.Answers.{IsClaimed, LaterDue, NoneDue, NowDue}
use Rattle.area_swap.specs.Rule.{IsDrawnBy, Sees}
use Rattle.area_swap.specs.Values.{IsDesk}
use Rattle.area_swap.specs.Views.{reading}
use Rattle.worker_gate.specs.Reloading.{HasCountedLong, HasMorePoints, HasNoneLeft, HasReachedEnd, HasStood, HasTurns, IsPutOff, IsSettled, OpensBehind, StandsAtLimit, WaitsFor}

pub points_none : (v : View) → HasMorePoints 0 v v
points_none v = record { news = []; points = sym (append-nil v.points); many = refl; same_plan = refl }

pub points_turned : (v w : View) → HasTurns v w → HasMorePoints 0 v w
points_turned v w h = record { news = []; points = h.points ∙ sym (append-nil v.points); many = refl; same_plan = h.same_plan }

pub points_on : (a b : ℕ) (u v w : View) → HasMorePoints a u v → HasMorePoints b v w → HasMorePoints (a + b) u w
points_on a b u v w h k =
    record {
      news = h.news ++ k.news;
      points = k.points ∙ ap (λ (l : List ℕ). l ++ k.news) h.points ∙ append_assoc u.points h.news k.news;
      many = length-append h.news k.news ∙ ap (λ (n : ℕ). n + length k.news) h.many ∙ ap (λ (n : ℕ). a + n) k.many;
      same_plan = k.same_plan ∙ h.same_plan;
    }

pub points_few : (a : ℕ) (u v : View) → HasMorePoints a u v → IsDesk v → (a < 256) × (length v.points < 256)
points_few a u v h d =
    let long : length v.points ≡ length u.points + a =
    ap (λ (l : List ℕ). length l) h.points ∙ length-append u.points h.news ∙ ap (λ (n : ℕ). length u.points + n) h.many in
    let few : length v.points < 256 = omega (arith, d.there, d.few) in
    let less : a < 256 = omega (arith, long, few) in (less, few)

-- The ends of a reloader, by its last answers.

pub turns_read : (u v w : View) → HasTurns u v → w ≡ reading v w.seen → HasTurns u w
turns_read u v w h after =
    let more : w.looks ≡ v.looks + 1 = ap (λ (x : View). x.looks) after in
    let same : w.counts ≡ v.counts = ap (λ (x : View). x.counts) after in
    record {
      points = ap (λ (x : View). x.points) after ∙ h.points;
      same_plan = ap (λ (x : View). x.plan) after ∙ h.same_plan;
      looks = omega (arith, h.looks, more);
      counts = omega (arith, h.counts, same);
    }

-- the version that was read is the desk's own
own_version : (v w : View) → w ≡ reading v w.seen → IsDesk w → (v.has_desk ≡ true → length v.points ≡ w.seen.version) → length w.points ≡ w.seen.version
own_version v w after desk pointed =
    ap (λ (x : View). length x.points) after ∙ pointed (sym (ap (λ (x : View). x.has_desk) after) ∙ desk.has)

pub none_left : (p : Tables) (v w : View) → NoneDue p v w → IsDesk w → w.plan ≡ p → HasNoneLeft w
none_left p v w due desk plan =
    let tables : length w.plan.tables ≡ length p.tables = ap (λ (q : Tables). length q.tables) plan in
    let own : length w.points ≡ w.seen.version = own_version v w due.after desk due.sees.pointed in
    record { none = omega (arith, tables, own, due.last); rests = due.rests }

pub waits_for : (p : Tables) (records earliest : ℕ) (v w : View) → LaterDue p records earliest v w → IsDesk w → w.plan ≡ p → WaitsFor w w.seen.records
waits_for p records earliest v w due desk plan =
    let tables : length w.plan.tables ≡ length p.tables = ap (λ (q : Tables). length q.tables) plan in
    let own : length w.points ≡ w.seen.version = own_version v w due.after desk due.sees.pointed in
    let first : (window w.plan (length w.points + 1)).earliest ≡ (window p (w.seen.version + 1)).earliest =
    ap (λ (q : Tables). (window q (length w.points + 1)).earliest) plan ∙ ap (λ (n : ℕ). (window p (n + 1)).earliest) own in
    let more : length w.points + 1 < length w.plan.tables = omega (arith, tables, own, due.more) in
    let fewer : w.seen.records < (window w.plan (length w.points + 1)).earliest = omega (arith, first, due.wants, due.read, due.too_few) in
    (more, fewer)

pub end_reached : (p : Tables) (end records earliest : ℕ) (u v w : View) → HasTurns u v → LaterDue p records earliest v w → IsDesk w → w.plan ≡ p
    → end ≤ records → HasReachedEnd end u w
end_reached p end records earliest u v w h due desk plan reached =
    let more : w.looks ≡ v.looks + 1 = ap (λ (x : View). x.looks) due.after in
    record {
      rests = due.rests;
      looked = omega (arith, h.looks, more);
      reached = omega (arith, due.read, reached);
      waits = waits_for p records earliest v w due desk plan;
    }

pub opens_behind : (p : Tables) (end records earliest : ℕ) (v w : View) → LaterDue p records earliest v w → IsDesk w → w.plan ≡ p → end ≤ earliest
    → OpensBehind end w
opens_behind p end records earliest v w due desk plan behind =
    let tables : length w.plan.tables ≡ length p.tables = ap (λ (q : Tables). length q.tables) plan in
    let own : length w.points ≡ w.seen.version = own_version v w due.after desk due.sees.pointed in
    let first : (window w.plan (length w.points + 1)).earliest ≡ (window p (w.seen.version + 1)).earliest =
    ap (λ (q : Tables). (window q (length w.points + 1)).earliest) plan ∙ ap (λ (n : ℕ). (window p (n + 1)).earliest) own in
    record { rests = due.rests; next = omega (arith, tables, own, due.more); opens = omega (arith, first, due.wants, behind) }

pub has_stood : (p : Tables) (records earliest : ℕ) (v w : View) → LaterDue p records earliest v w → StandsAtLimit w records → HasStood w
has_stood p records earliest v w due h =
    let P : ℕ → Type 0 = λ n. StandsAtLimit w n in
    record { rests = due.rests; stands = subst P (sym due.read) h }

-- the next table is due, and its area did not come free
pub turns_long : (p : Tables) (u v w x : View) → HasTurns u v → NowDue p v w → HasTurns w x → HasTurns u x
turns_long p u v w x h due k =
    let more : w.looks ≡ v.looks + 1 = ap (λ (y : View). y.looks) due.after in
    let same : w.counts ≡ v.counts = ap (λ (y : View). y.counts) due.after in
    record {
      points = k.points ∙ ap (λ (y : View). y.points) due.after ∙ h.points;
      same_plan = k.same_plan ∙ ap (λ (y : View). y.plan) due.after ∙ h.same_plan;
      looks = omega (arith, h.looks, more, k.looks);
      counts = omega (arith, h.counts, same, k.counts);
    }

pub counted_long : (p : Tables) (u v w x : View) → HasTurns u v → NowDue p v w → HasCountedLong w x → HasCountedLong u x
counted_long p u v w x h due k =
    let same : w.counts ≡ v.counts = ap (λ (y : View). y.counts) due.after in
    record { ready = k.ready; claimed = k.claimed; counted = omega (arith, h.counts, same, k.counted) }

pub not_free : (b : Bool) (A B : Type 0) → b ≡ false → MatchBool b A B → B
not_free b A B is h = let P : Bool → Type 0 = λ t. MatchBool t A B in subst P is h

-- What is due is in force.

pub settled_later : (p : Tables) (records earliest : ℕ) (s t v w : View) (now : Seen) → t ≡ reading s now → Sees s now → now.version ≡ length w.points
    → LaterDue p records earliest v w → IsDesk w → w.plan ≡ p → now.records < earliest → IsSettled t w
settled_later p records earliest s t v w now read sees version due desk plan fewer =
    let seen : t.seen ≡ now = ap (λ (x : View). x.seen) read in
    let draws : t.actor.draws ≡ s.actor.draws = ap (λ (x : View). x.actor.draws) read in
    let waits : WaitsFor w w.seen.records = waits_for p records earliest v w due desk plan in
    let own : length w.points ≡ w.seen.version = own_version v w due.after desk due.sees.pointed in
    let first : (window w.plan (length w.points + 1)).earliest ≡ (window p (w.seen.version + 1)).earliest =
    ap (λ (q : Tables). (window q (length w.points + 1)).earliest) plan ∙ ap (λ (n : ℕ). (window p (n + 1)).earliest) own in
    let same : t.seen.records ≡ now.records = ap (λ (x : Seen). x.records) seen in
    let late : t.seen.records < (window w.plan (length w.points + 1)).earliest = omega (arith, first, due.wants, fewer, same) in
    let P : Seen → Type 0 = λ x. All (IsDrawnBy x) s.actor.draws in
    let Q : List (ℕ × ℕ) → Type 0 = λ l. All (IsDrawnBy t.seen) l in
    record {
      rests = due.rests;
      drawn = subst Q (sym draws) (subst P (sym seen) sees.drawn);
      version = ap (λ (x : Seen). x.version) seen ∙ version;
      none_due = inr (waits.0, late);
      all_drawn = λ whole.
          ap (λ (l : List (ℕ × ℕ)). length l) draws ∙ sees.all_drawn (sym (ap (λ (x : View). x.share) read) ∙ whole) ∙ sym same;
    }

pub is_not : (b : Bool) (A B : Type 0) → b ≡ false → B → MatchBool b A B
is_not b A B is h = let P : Bool → Type 0 = λ t. MatchBool t A B in subst P (sym is) h

-- A single try put no table into force.

points_read : (u w : View) → w ≡ reading u w.seen → HasMorePoints 0 u w
points_read u w after =
    record {
      news = [];
      points = ap (λ (x : View). x.points) after ∙ sym (append-nil u.points);
      many = refl;
      same_plan = ap (λ (x : View). x.plan) after;
    }

pub none_put : (p : Tables) (u w : View) → NoneDue p u w → IsDesk w → w.plan ≡ p → HasMorePoints 0 u w × IsPutOff u w
none_put p u w due desk plan = (points_read u w due.after, inl (none_left p u w due desk plan))

pub later_put : (p : Tables) (records earliest : ℕ) (u w : View) → LaterDue p records earliest u w → IsDesk w → w.plan ≡ p
    → HasMorePoints 0 u w × IsPutOff u w
later_put p records earliest u w due desk plan =
    let more : w.looks ≡ u.looks + 1 = ap (λ (x : View). x.looks) due.after in (
      points_read u w due.after,
      inr (inl (record { rests = due.rests; looked = omega (arith, more); waits = waits_for p records earliest u w due desk plan })),
    )

pub claimed_put : (p : Tables) (count : ℕ) (u v w : View) → NowDue p u v → IsClaimed count v w → HasMorePoints 0 u w × IsPutOff u w
claimed_put p count u v w due k =
    let found : w.counted ≡ count = ap (λ (x : View). x.counted) k.after in
    let more : w.counts ≡ v.counts + 1 = ap (λ (x : View). x.counts) k.after in
    let same : v.counts ≡ u.counts = ap (λ (x : View). x.counts) due.after in (
      record {
        news = [];
        points =
            ap (λ (x : View). x.points) k.after ∙ ap (λ (x : View). x.points) due.after ∙ sym (append-nil u.points);
        many = refl;
        same_plan = ap (λ (x : View). x.plan) k.after ∙ ap (λ (x : View). x.plan) due.after;
      },
      inr (inr
          (record {
            ready = ap (λ (x : View). x.desk) k.after ∙ ap (λ (x : View). x.desk) due.after;
            claimed = omega (arith, found, k.some_one);
            counted = omega (arith, more, same);
          })),
    )
