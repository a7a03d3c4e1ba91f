-- Records that are judged one after another, and what that makes of a whole round.
use Rattle.std.proofs.Common.{◌≡◌, ℕ, ◌+◌, ◌-◌, ◌≤◌, List, [], ◌∷◌, ◌++◌, All, Some, length, map, slice_get, ap, subst, sym, refl, ◌∙◌, arith, length-append}
use Rattle.std.specs.List.{range_with_len}
use Rattle.std.proofs.lemmas.List.{map_push}
use Rattle.std.proofs.lemmas.List.Elements.{All-nil, All-push}
use Rattle.std.proofs.lemmas.List.FromFn.{map-range_with_len_more}
use Rattle.std.proofs.lemmas.List.Sums.{sum_by-append}
use Rattle.binding_rules.specs.Tables.{BindingTable, IsLawful}
use Rattle.binding_rules.specs.declared.settings.Softwire.{Softwire}
use Rattle.ip_codec.specs.declared.items.Item.{Item}
use Rattle.swap_core.specs.Plans.{Tables, table}
use Rattle.swap_core.specs.States.{consecutive}
use Rattle.table_words.specs.Layout.{AreCompiled, IsCompiled}
use Rattle.verdict_core.specs.Fitting.{Fits, HasRoom}
use Rattle.verdict_core.specs.Verdicts.{verdict_of}
use Rattle.verdict_core.specs.declared.verdicts.Verdict.{Verdict}
use Rattle.area_swap.specs.declared.answers.Seen.{Seen}
use Rattle.area_swap.specs.declared.board.View.{View}
use Rattle.area_swap.specs.Values.{AreasValue, SeatValue}
use Rattle.area_swap.specs.Views.{IsUpTo, held_table, held_version}
use Rattle.worker_gate.specs.declared.outcomes.Outcome.{Outcome}
use Rattle.worker_gate.specs.Holders.{HeldValue, IsHeldSeat}
use Rattle.worker_gate.specs.Judging.{HasJudgedOne, HasJudgedRun, HasRead, IsOutcome}
use Rattle.worker_gate.specs.Outcomes.{draw_of, IsJudged, asking}
use Rattle.worker_gate.specs.Serving.{IsHolding}
use Rattle.worker_gate.specs.Turns.{DrawsNothing}
use Rattle.worker_gate.specs.WholeRounds.{HasJudgedWhole}
use Rattle.worker_gate.proofs.Trying.{asked_once, item_is, table_compiled}
use Rattle.worker_gate.proofs.WholeLemmas.{run_drawn, run_numbers, run_versions}

-- A held seat that knows its table's settings can judge.
pub holding_of : (areas : AreasValue) (version : ℕ) (settings : Softwire) (s : SeatValue) → IsHeldSeat areas version s
    → All AreCompiled areas.plan.tables → ((t : BindingTable) → IsCompiled t (held_table s.known) → settings ≡ t.softwire)
    → IsHolding areas version settings s
holding_of areas version settings s h compiled value =
    record {
      its_areas = h.its_areas;
      holds = h.holds;
      held = h.held;
      compiled = table_compiled areas version s compiled h.its_areas.same_plan h.held h.there;
      has_settings = value;
    }

pub held_compiled : (areas : AreasValue) (version : ℕ) (s : SeatValue) → IsHeldSeat areas version s → All AreCompiled areas.plan.tables
    → AreCompiled (held_table s.known)
held_compiled areas version s h compiled = table_compiled areas version s compiled h.its_areas.same_plan h.held h.there

pub read_none : (v : HeldValue) → HasRead v v
read_none v = record { rest = refl; rises = omega arith }

pub read_on : (v w x : HeldValue) → HasRead v w → HasRead w x → HasRead v x
read_on v w x h k =
    record {
      rest = k.rest ∙ ap (λ (u : HeldValue). record u { known = record u.known { reads = x.known.reads } }) h.rest;
      rises = omega (arith, h.rises, k.rises);
    }

-- The verdict under the held table is the outcome's.
pub outcome_is : (areas : AreasValue) (number version : ℕ) (settings : Softwire) (s : SeatValue) (i : Item) (v : Verdict)
    → ((t : BindingTable) (j : Item) → IsLawful t → Fits j (verdict_of t j)) → ((t : BindingTable) (j : Item) → IsLawful t → HasRoom (verdict_of t j))
    → IsHolding areas version settings s → ((t : BindingTable) → IsCompiled t (held_table s.known) → v ≡ verdict_of t i)
    → IsOutcome areas.plan number version i (record { number = number; version = version; verdict = v })
outcome_is areas number version settings s i v fits room h value =
    let t : BindingTable = h.compiled.table in
    let same : v ≡ verdict_of t i = value t h.compiled.of_table in
    record {
      its_number = refl;
      its_version = refl;
      value = λ b compiled.
          let P : Tables → Type 0 = λ p. IsCompiled b (table p (held_version s.known)) in
          let Q : ℕ → Type 0 = λ n. IsCompiled b (table areas.plan n) in
          value b (subst P (sym h.its_areas.same_plan) (subst Q (sym h.held) compiled));
      fits = subst (Fits i) (sym same) (fits t i h.compiled.of_table.lawful);
      room = subst HasRoom (sym same) (room t i h.compiled.of_table.lawful);
    }

-- An outcome of a record is judged, as an outcome of the round.
outcome_judged : (p : Tables) (items : List Item) (start k version : ℕ) (i : Item) (o : Outcome) → IsOutcome p (start + k) version i o
    → slice_get items k ≡ Some i → IsJudged p items start o
outcome_judged p items start k version i o h is t j compiled found =
    let place : o.number - start ≡ k = omega (arith, h.its_number) in
    let P : ℕ → Type 0 = λ n. IsCompiled t (table p n) in
    let there : slice_get items k ≡ Some j = ap (λ (n : ℕ). slice_get items n) (sym place) ∙ found in
    h.value t (subst P h.its_version compiled) ∙ ap (λ (x : Item). verdict_of t x) (item_is (slice_get items k) j i there is)

pub run_none : (items : List Item) (start : ℕ) (v : HeldValue) → HasJudgedRun items start v v []
run_none items start v =
    let unasked : asking items start [] ≡ 0 = refl in
    record {
      draws = refl;
      judged = All-nil (IsJudged v.areas.plan items start);
      read = read_none v;
      reads = omega (arith, unasked);
    }

-- One record more is judged.
pub run_more : (items : List Item) (start : ℕ) (v w x : HeldValue) (all : List Outcome) (i : Item) (o : Outcome) → HasJudgedRun items start v w all
    → slice_get items (length all) ≡ Some i → HasJudgedOne (start + length all) i w x o → HasJudgedRun items start v x (all ++ o ∷ [])
run_more items start v w x all i o h is k =
    let count : ℕ = length all in
    let number : ℕ = start + count in
    let version : ℕ = v.version in
    let d : ℕ × ℕ = (number, version) in
    let held : w.version ≡ version = ap (λ (u : HeldValue). u.version) h.read.rest in
    let plan : w.areas.plan ≡ v.areas.plan = ap (λ (u : HeldValue). u.areas.plan) h.read.rest in
    let one : IsOutcome v.areas.plan number version i o =
    subst (λ (p : Tables). IsOutcome p number version i o) plan (subst (λ (n : ℕ). IsOutcome w.areas.plan number n i o) held k.outcome) in
    let drawn : draw_of o ≡ d = λ j. (one.its_number j, one.its_version j) in
    let draws : map draw_of (all ++ o ∷ []) ≡ map draw_of all ++ d ∷ [] = map_push draw_of all o ∙ ap (λ (e : ℕ × ℕ). map draw_of all ++ e ∷ []) drawn in
    let many : length (all ++ o ∷ []) ≡ count + 1 = omega (arith, length-append all (o ∷ [])) in
    let asked : asking items start (map draw_of (all ++ o ∷ [])) ≡ asking items start (map draw_of all) + asking items start (d ∷ []) =
    ap (asking items start) draws ∙ sum_by-append _ (map draw_of all) (d ∷ []) in
    let place : number - start ≡ count = omega arith in
    let once : w.known.reads + asking items start (d ∷ []) ≤ x.known.reads =
    asked_once items start number version i w.known.reads x.known.reads (ap (λ (n : ℕ). slice_get items n) place ∙ is) k.read.rises k.asks in
    record {
      draws = draws ∙ ap (λ (l : List (ℕ × ℕ)). l ++ d ∷ []) h.draws
          ∙ sym (map-range_with_len_more (λ (n : ℕ). (n, version)) start count number refl)
          ∙ ap (λ (n : ℕ). consecutive start n version) (sym many);
      judged = All-push (IsJudged v.areas.plan items start) all o h.judged (outcome_judged v.areas.plan items start count version i o one is);
      read = read_on v w x h.read k.read;
      reads = omega (arith, h.reads, once, asked);
    }

-- All records of the round are judged, and then the version is given up.
pub run_whole : (items : List Item) (start : ℕ) (u v w : HeldValue) (x : View) (all : List Outcome) → HasRead u v → HasJudgedRun items start v w all
    → length all ≡ length items → DrawsNothing w.known x → HasJudgedWhole u.areas.plan items start u.version u.known x all
run_whole items start u v w x all first h many left =
    let version : v.version ≡ u.version = ap (λ (y : HeldValue). y.version) first.rest in
    let plan : v.areas.plan ≡ u.areas.plan = ap (λ (y : HeldValue). y.areas.plan) first.rest in
    let draws : map draw_of all ≡ consecutive start (length items) u.version =
    h.draws ∙ ap (λ (n : ℕ). consecutive start n v.version) many ∙ ap (λ (n : ℕ). consecutive start (length items) n) version in
    let P : Tables → Type 0 = λ p. All (IsJudged p items start) all in
    let span : start + length items - start ≡ length items = omega arith in
    let asked : asking items start (map draw_of all) ≡ asking items start (consecutive start (length items) u.version) =
    ap (λ (l : List (ℕ × ℕ)). asking items start l) draws in
    let seen : w.known.seen ≡ u.known.seen = ap (λ (y : HeldValue). y.known.seen) h.read.rest ∙ ap (λ (y : HeldValue). y.known.seen) first.rest in
    let share : w.known.share ≡ u.known.share = ap (λ (y : HeldValue). y.known.share) h.read.rest ∙ ap (λ (y : HeldValue). y.known.share) first.rest in
    let S : Seen → Type 0 = λ s. IsUpTo s x.seen in
    record {
      outcomes =
          record {
            numbers =
                run_numbers start (length items) u.version all draws ∙ ap (λ (n : ℕ). range_with_len start n) (sym span);
            drawn = run_drawn start (length items) u.version all draws;
            judged = subst P plan h.judged;
          };
      versions = run_versions start (length items) u.version all draws;
      reads = omega (arith, first.rises, h.reads, left.same_reads, asked);
      same_share = left.same_share ∙ share;
      later = subst S seen left.later;
    }
