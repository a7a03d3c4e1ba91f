use Rattle.std.proofs.Common.{◌≡◌, ℕ, ◌*◌, ◌≤◌, Bool, false, List, All, length, ap, sym, subst, arith}
use Rattle.run_output.specs.Cells.{AreCounted, ArePartsUnless, AreReady, HasMarked}
use Rattle.run_output.specs.declared.parts.Part.{Part}
use Rattle.run_output.proofs.RoundLemmas.{IsDone, RenderedRound, all_cells, cells_of, round_asked, round_rendered, round_within}
use Rattle.run_output.proofs.rendering.render_round.Given as given
use Rattle.run_output.proofs.rendering.render_round.Goals as goal
use Rattle.run_output.proofs.rendering.render_round.Goals.{In_ok-count_parts}

-- the round that was rendered
abbrev round : (g : given.Over) → In_ok-count_parts g → RenderedRound
round g c = record {
  form = c.args.form;
  written = c.args.written;
  start = c.args.judged.now.start;
  records = c.args.judged.now.records.now;
  entries = c.args.judged.now.items.now;
  outcomes = c.args.judged.now.outcomes.now;
  limit = c.args.limit.now;
  asked = c.mark_limited.new.limit;
  limited = c.as_slice.result.now;
  parts = c.render_parts.new.parts.items;
  before = c.args.totals.now;
  after = c.count_parts.new.totals;
}

done : (g : given.Over) (c : In_ok-count_parts g) → IsDone (round g c)
done g c =
    let r : RenderedRound = round g c in
    let ready : AreReady r.start r.records r.entries r.outcomes r.limited = record {
      same = c.requires.same;
      marked = omega (arith, ap length c.as_slice.ensures.value, c.in_ok-mark_limited.ensures.count, c.requires.fitting.count, c.requires.same);
      few = c.requires.few;
      fitting = c.requires.fitting;
    } in
    let many : length (cells_of r) ≡ length r.records = all_cells r.start r.records r.entries r.outcomes r.limited ready in
    let size : ℕ = c.part_size.result in
    let are : ArePartsUnless r.written size (cells_of r) r.parts = c.render_parts.ensures.parts in
    let parts : c.len-2.result ≡ length r.parts = omega (arith, c.len-2.ensures, c.render_parts.ensures.count) in
    record {
      ready = ready;
      marked = subst (λ (l : List Bool). HasMarked r.form r.records r.outcomes (length r.outcomes) r.limit r.asked l) (sym c.as_slice.ensures.value)
          c.in_ok-mark_limited.ensures.marked;
      rate = c.in_ok-mark_limited.ensures.rate;
      size = size;
      are = are;
      whole = subst (λ (ps : List Part). All (λ (p : Part). p.failed ≡ false) ps) c.deref.ensures.value c.in_ok-count_parts.ensures.whole;
      covers = subst (λ (k : ℕ). length r.records ≤ k * size) parts
          (subst (λ (k : ℕ). k ≤ c.len-2.result * size) c.len.ensures
          c.part_size.ensures.covers);
      counted_so = subst (λ (ps : List Part). AreCounted size (cells_of r) r.start (length ps) r.before r.after) c.deref.ensures.value
          (c.in_ok-count_parts.ensures.totals r.written size r.start (cells_of r)
          (subst (ArePartsUnless r.written size (cells_of r)) (sym c.deref.ensures.value) are)
          c.requires.within (omega (arith, many, c.requires.few)));
    }

pub returns-clause-rendered : goal.returns-clause-rendered
returns-clause-rendered g c = round_rendered c.one_marking.ensures (round g c) (done g c)

pub returns-clause-asked : goal.returns-clause-asked
returns-clause-asked g c = round_asked (round g c) (done g c)

pub returns-clause-within : goal.returns-clause-within
returns-clause-within g c = round_within (round g c) (done g c)
