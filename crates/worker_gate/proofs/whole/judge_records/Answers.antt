use Rattle.std.proofs.Common.{◌≡◌, ℕ, ◌+◌, List, [], ◌∷◌, Some, length, slice_get, ap, subst, sym, refl, ◌∙◌, arith, length-append}
use Rattle.ip_codec.specs.Seen.{seen}
use Rattle.ip_codec.specs.declared.items.Item.{Item}
use Rattle.worker_gate.specs.declared.outcomes.Outcome.{Outcome}
use Rattle.worker_gate.specs.Holders.{HeldValue}
use Rattle.worker_gate.specs.Judging.{HasJudgedOne, HasJudgedRun}
use Rattle.worker_gate.proofs.Judged.{run_more, run_none}
use Rattle.worker_gate.proofs.whole.judge_records.Goals as goal

pub records-init : goal.records-init
records-init g c =
    let items = g.S.RoundItems.items c.args.work.now.items.now in
    let none : c.args.outcomes.now.items ≡ [] = c.requires.none in
    let P : List Outcome → Type 0 = λ l. HasJudgedRun items c.args.work.now.start c.args.judge.now c.args.judge.now l in
    record {
      judged = subst P (sym none) (run_none items c.args.work.now.start c.args.judge.now);
      many = ap (λ (l : List Outcome). length l) none;
      room = refl;
    }

pub records-preserved : goal.records-preserved
records-preserved g c =
    let items = g.S.RoundItems.items c.args.work.now.items.now in
    let start : ℕ = c.args.work.now.start in
    let index : ℕ = c.records.index in
    let h = c.records.invariant in
    let v : HeldValue = c.args.judge.now in
    let w : HeldValue = c.records.judge in
    let x : HeldValue = c.judge.new.self in
    let all : List Outcome = c.records.outcomes.items in
    let i : Item = seen c.item_into.new.item in
    let o : Outcome = c.judge.new.outcome in
    let is : slice_get items (length all) ≡ Some i = ap (λ (n : ℕ). slice_get items n) h.many ∙ c.item_into.ensures in
    let N : ℕ → Type 0 = λ n. HasJudgedOne (start + n) i w x o in
    let one : HasJudgedOne (start + length all) i w x o = subst N (sym h.many) c.judge.ensures in
    let P : List Outcome → Type 0 = λ l. HasJudgedRun items start v x l in
    record {
      judged = subst P (sym c.push.ensures.items) (run_more items start v w x all i o h.judged is one);
      many = ap (λ (l : List Outcome). length l) c.push.ensures.items ∙ omega (arith, length-append all (o ∷ []), h.many);
      room = c.push.ensures.room ∙ h.room;
    }
