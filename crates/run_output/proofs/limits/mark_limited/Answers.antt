use Rattle.std.proofs.Common.{◌≡◌, ℕ, suc, ◌+◌, ◌++◌, Bool, false, [], ◌∷◌, List, not, true, sym, ◌∙◌, ap, refl, subst, arith, length-append}
use Rattle.std.specs.Prelude.{length, replicate}
use Rattle.capture_io.specs.Records as records
use Rattle.run_output.specs.Cells.{HasMarked}
use Rattle.run_output.specs.Limiting.{WasAsked, tells}
use Rattle.worker_gate.specs.declared.outcomes.Outcome.{Outcome}
use Rattle.run_output.proofs.MarkLemmas.{marked_first, marked_more, none_marked}
use Rattle.run_output.proofs.limits.mark_limited.Goals as goal

pub records-init : goal.records-init
records-init c = record {
  within = omega arith;
  marked = subst (λ (l : List Bool). HasMarked c.args.form c.args.records.now c.args.outcomes.now 0 c.args.limit.now c.args.limit.now l) (sym c.clear.ensures.items)
      (marked_first c.args.form c.args.records.now c.args.outcomes.now c.args.limit.now);
  count = ap length c.clear.ensures.items;
  rate = refl;
}

pub records-preserved : goal.records-preserved
records-preserved c =
    let o : Outcome = c.get.result.now in
    let place : suc c.records.i ≡ c.records.i + 1 = omega arith in
    let asked : tells o.verdict ≡ true → (times : List ℕ) (sent : List Bool) → WasAsked c.records.limit times sent →
    WasAsked c.is_kept_back.new.limit (times ++ c.time_of-time.result ∷ []) (sent ++ not c.is_kept_back.result ∷ []) = c.is_kept_back.ensures.error in
    let more : HasMarked c.args.form c.args.records.now c.args.outcomes.now (suc c.records.i) c.args.limit.now c.is_kept_back.new.limit (c.records.limited.items ++ c.is_kept_back.result ∷ []) =
    marked_more c.args.form c.args.records.now c.args.outcomes.now c.records.i (records.seen c.get-record.result) o c.args.limit.now c.records.limit c.is_kept_back.new.limit
    c.records.limited.items c.is_kept_back.result c.get-record.ensures c.get.ensures
    (subst (λ (time : ℕ). tells o.verdict ≡ true → (times : List ℕ) (sent : List Bool) → WasAsked c.records.limit times sent →
    WasAsked c.is_kept_back.new.limit (times ++ time ∷ []) (sent ++ not c.is_kept_back.result ∷ [])) c.time_of-time.ensures asked)
    c.is_kept_back.ensures.same c.is_kept_back.ensures.none c.records.invariant.marked in
    record {
      within = omega arith;
      marked = subst (λ (l : List Bool). HasMarked c.args.form c.args.records.now c.args.outcomes.now (c.records.i + 1) c.args.limit.now c.is_kept_back.new.limit l) (sym c.in_ok-push.ensures.items)
          (subst (λ (k : ℕ). HasMarked c.args.form c.args.records.now c.args.outcomes.now k c.args.limit.now c.is_kept_back.new.limit (c.records.limited.items ++ c.is_kept_back.result ∷ [])) place more);
      count = omega (arith, ap length c.in_ok-push.ensures.items, length-append c.records.limited.items (c.is_kept_back.result ∷ []), c.records.invariant.count);
      rate = c.is_kept_back.ensures.rate ∙ c.records.invariant.rate;
    }

pub returns-then-is_none-clause-marked : goal.returns-then-is_none-clause-marked
returns-then-is_none-clause-marked c =
    none_marked c.args.form c.args.records.now c.args.outcomes.now c.args.limit.now c.mark_none.new.limited.items (c.is_none.ensures ∙ ap not c.if-is_none.true)
    c.requires.same (c.in_ok-mark_none.ensures ∙ ap (λ (n : ℕ). replicate n false) c.len.ensures)
