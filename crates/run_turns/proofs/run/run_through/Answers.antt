use Rattle.std.proofs.Common.{Bool, List, None, Option, Some, All, arith, ap, ◌+◌, false, refl, string_bytes, subst, sym, ℕ, ◌∙◌, ◌≡◌, ◌≤◌, []}
use Rattle.std.specs.Prelude.{is_some, slice_index_or}
use Rattle.area_swap.specs.Values.{AreasValue}
use Rattle.run_output.specs.Limiting.{rate_of}
use Rattle.run_turns.specs.Fills.{Taking, standing, taking}
use Rattle.run_turns.specs.Passes.{HasPut, Judged, JudgesTurn, Putting, judged, putting}
use Rattle.run_turns.specs.Fills.{HasFilled}
use Rattle.run_turns.specs.Runs.{EndsBy, IsBench, Leaves, state_by}
use Rattle.run_turns.specs.Setups.{Spot, setup_of, spot}
use Rattle.run_turns.specs.declared.passing.Bench.{Bench}
use Rattle.run_turns.specs.declared.sink.Outputs.{Outputs}
use Rattle.run_turns.specs.declared.source.Intake.{Intake}
use Rattle.run_turns.specs.declared.tasks.Task.{Task}
use Rattle.run_turns.specs.declared.turn.Turn.{Turn}
use Rattle.run_turns.proofs.Ended.{as_filled, is_over}
use Rattle.run_turns.proofs.Ended.{HasGone}
use Rattle.run_turns.proofs.Giving.{total_none}
use Rattle.run_turns.proofs.Keeping.{Keeps}
use Rattle.run_turns.proofs.Leaving.{leaves_later, leaves_over}
use Rattle.run_turns.proofs.Starting.{keeps_first}
use Rattle.run_turns.proofs.Words.{append-nil, sum_by}
use Rattle.round_pipeline.specs.Lists.{total}
use Rattle.round_pipeline.specs.Pipelines.{buffers_left}
use Rattle.aftr_io.specs.declared.outside.Fault.{Fault}
use Rattle.aftr_text.specs.Jobs.{AreApart}
use Rattle.capture_io.specs.declared.rounds.Ending.{Ending}
use Rattle.worker_gate.specs.Holders.{FreeValue}
use Rattle.run_turns.specs.Fills.{CanFill, Filled}
use Rattle.run_turns.specs.Turns.{reads_in, reads_of, share_of, shares_in}
use Rattle.run_turns.specs.declared.turn.TurnSeat.{TurnSeat}
use Rattle.run_turns.specs.declared.turn.TurnSeat.TheVariants as seat
use Rattle.run_turns.proofs.run.run_through.Given.{Over}
use Rattle.run_turns.proofs.run.run_through.Goals as goal
use Rattle.run_turns.proofs.run.run_through.Goals.{After-give_lines_back}

abbrev place : (g : Over) → g.row.C.Denot → Spot
place g r = spot (g.C.CaptureReader.stands r) (g.C.CaptureReader.left r) (g.C.CaptureReader.at r)

abbrev source_of : (g : Over) → Intake g.row.N.Denot g.row.R.Denot g.row.I.Denot g.row.C.Denot → Taking g.row.C.Denot
source_of g s =
    taking (standing (g.I.Reading.readable s.capture.files.now) s.capture.reader.now s.capture.ahead s.capture.ending) s.dealer s.seats.items s.stage s.number s.printed
    s.refused

abbrev sink_of : (g : Over) → Outputs g.row.N.Denot g.row.O.Denot g.row.G.Denot → Putting
sink_of g w = putting (g.O.Writing.written w.files.now) w.totals w.limit

abbrev turn_of : (g : Over) → Turn g.row.N.Denot → Judged
turn_of g t = judged t.start t.round t.seat (string_bytes t.versions) t.part t.refused

-- of the task, over the references that the run was given
abbrev IsSource : (g : Over) → Task → Intake g.row.N.Denot g.row.R.Denot g.row.I.Denot g.row.C.Denot → Intake g.row.N.Denot g.row.R.Denot g.row.I.Denot g.row.C.Denot → Type 0
IsSource g task first s =
    (s.capture.task ≡ task) × ((s.capture.files.ghost_name ≡ first.capture.files.ghost_name) × (s.capture.reader.ghost_name ≡ first.capture.reader.ghost_name))

abbrev IsSink : (g : Over) → Task → Outputs g.row.N.Denot g.row.O.Denot g.row.G.Denot → Outputs g.row.N.Denot g.row.O.Denot g.row.G.Denot → Type 0
IsSink g task first w = (w.court.task ≡ task) × (w.files.ghost_name ≡ first.files.ghost_name)

no_rate : (errors : Option ℕ) → is_some errors ≡ false → errors ≡ None
no_rate None is = refl
no_rate (Some rate) is = absurd (cc is)

-- all of it was of this task
on_judge : (g : Over) (task : Task) (areas : AreasValue) (b d : Bench g.row.N.Denot g.row.G.Denot) (t u : Judged) → IsBench task b.court.task b.limited →
    JudgesTurn (setup_of b.court.task) areas b.limited t u × ((d.court.task ≡ b.court.task) × (d.limited ≡ b.limited)) →
    IsBench task d.court.task d.limited × JudgesTurn (setup_of task) areas (is_some task.job.now.errors) t u
on_judge g task areas b d t u is did = (
  record { same_task = did.1.0 ∙ is.same_task; limits = did.1.1 ∙ is.limits },
  subst (λ (l : Bool). JudgesTurn (setup_of task) areas l t u) is.limits (subst (λ (k : Task). JudgesTurn (setup_of k) areas b.limited t u) is.same_task did.0),
)

on_put : (g : Over) (task : Task) (areas : AreasValue) (first a b : Outputs g.row.N.Denot g.row.O.Denot g.row.G.Denot) (t : Judged) (back : TurnSeat)
    (why : Option Fault) → IsSink g task first a → HasPut (setup_of a.court.task) areas (sink_of g a) (sink_of g b) t back why
    × ((b.court.task ≡ a.court.task) × ((b.files.ghost_name ≡ a.files.ghost_name) × (rate_of b.limit ≡ rate_of a.limit))) →
    IsSink g task first b × HasPut (setup_of task) areas (sink_of g a) (sink_of g b) t back why × (rate_of b.limit ≡ rate_of a.limit)
on_put g task areas first a b t back why is did = (
  (did.1.0 ∙ is.0, did.1.1.0 ∙ is.1),
  subst (λ (k : Task). HasPut (setup_of k) areas (sink_of g a) (sink_of g b) t back why) is.0 did.0,
  did.1.1.1,
)

on_fill : (g : Over) (task : Task) (first s r : Intake g.row.N.Denot g.row.R.Denot g.row.I.Denot g.row.C.Denot) (t u : Filled) (more : Bool) →
    IsSource g task first s → HasFilled (setup_of s.capture.task) (place g) (source_of g s) (source_of g r) t u more
    × ((r.capture.task ≡ s.capture.task)
    × ((r.capture.files.ghost_name ≡ s.capture.files.ghost_name) × (r.capture.reader.ghost_name ≡ s.capture.reader.ghost_name))) →
    IsSource g task first r × HasFilled (setup_of task) (place g) (source_of g s) (source_of g r) t u more
on_fill g task first s r t u more is did = (
  (did.1.0 ∙ is.0, (did.1.1.0 ∙ is.1.0, did.1.1.1 ∙ is.1.1)),
  subst (λ (k : Task). HasFilled (setup_of k) (place g) (source_of g s) (source_of g r) t u more) is.0 did.0,
)

-- what the run left, in plain words
record IsDone (g : Over) (c : After-give_lines_back g) : Type 0 where
  source_names : IsSource g c.args.task c.args.source c.run-finished.result.source
  sink_names : IsSink g c.args.task c.args.sink c.run-finished.result.sink
  now : ℕ
  keeps : Keeps c.round_laws.ensures (setup_of c.args.task) g.N.Naming.areas (place g) (λ r bytes number. c.some_left.ensures r bytes number)
      (place g c.args.source.capture.reader.now) (source_of g c.args.source).at.files (sink_of g c.args.sink).files
      c.args.source.dealer.seat.known.share c.args.source.dealer.seat.known.reads (source_of g c.run-finished.result.source) (sink_of g c.run-finished.result.sink) now
      c.run-finished.result.answer
  shares : total (λ i. sum_by (λ t. share_of t.seat) (slice_index_or (buffers_left c.run-finished.result) i [])) c.args.task.job.now.workers
      + shares_in c.run-finished.result.source.seats.items ≡ shares_in c.args.source.seats.items
  reads : now ≤ total (λ i. sum_by (λ t. reads_of t.seat) (slice_index_or (buffers_left c.run-finished.result) i [])) c.args.task.job.now.workers
      + reads_in c.run-finished.result.source.seats.items
  gone : c.run-finished.result.answer ≡ None → HasGone (source_of g c.run-finished.result.source)

away_share : (s : TurnSeat) → s ≡ seat.Away → share_of s ≡ 0
away_share s is = ap (λ (k : TurnSeat). share_of k) is

away_reads : (s : TurnSeat) → s ≡ seat.Away → reads_of s ≡ 0
away_reads s is = ap (λ (k : TurnSeat). reads_of k) is

done : (g : Over) (c : After-give_lines_back g) → IsDone g c
done g c =
    let task = c.args.task in
    let areas = g.N.Naming.areas in
    let n = c.requires.many.0 in
    let over = is_over c.round_laws.ensures (setup_of task) areas (place g) (λ r bytes number. c.some_left.ensures r bytes number) (is_some task.job.now.errors)
    (no_rate task.job.now.errors) (source_of g) (sink_of g) (turn_of g) c.args.source c.args.sink (IsSource g task) (λ b. IsBench task b.court.task b.limited)
    (IsSink g task) _ _ _ (λ s r t u more is did. on_fill g task c.args.source s r (as_filled (turn_of g t)) (as_filled (turn_of g u)) more is did)
    (λ b d t u is did. on_judge g task areas b d (turn_of g t) (turn_of g u) is did)
    (λ a b t u why is did. on_put g task areas c.args.sink a b (turn_of g t) u.seat why is did) (place g c.args.source.capture.reader.now) 0
    _ _ _ _ _ _ _ _ c.run-finished.ensures.ran refl c.requires.judges (c.requires.tasks.0, (refl, refl)) (c.requires.tasks.1, refl)
    (keeps_first c.requires.fresh c.round_laws.ensures (place g) (λ r bytes number. c.some_left.ensures r bytes number) 0) in
    let no_shares = total_none (λ t. share_of t.seat) (λ t. t.seat ≡ seat.Away) (λ t is. away_share t.seat is) c.args.pipeline.buffers task.job.now.workers
    (omega (arith, c.requires.many.1)) c.requires.buffers in
    let no_reads = total_none (λ t. reads_of t.seat) (λ t. t.seat ≡ seat.Away) (λ t is. away_reads t.seat is) c.args.pipeline.buffers task.job.now.workers
    (omega (arith, c.requires.many.1)) c.requires.buffers in
    let left = λ (f : Turn g.row.N.Denot → ℕ) (k : ℕ). total (λ i. sum_by f (slice_index_or (buffers_left c.run-finished.result) i [])) k in
    let first = λ (f : Turn g.row.N.Denot → ℕ) (k : ℕ). total (λ i. sum_by f (slice_index_or c.args.pipeline.buffers i [])) k in
    record {
      source_names = over.is_source;
      sink_names = over.is_sink;
      now = over.now;
      keeps = over.keeps;
      shares = omega (arith, no_shares, ap (left (λ t. share_of t.seat)) n, ap (first (λ t. share_of t.seat)) n, over.all_shares);
      reads = omega (arith, no_reads, ap (left (λ t. reads_of t.seat)) n, ap (first (λ t. reads_of t.seat)) n, over.all_reads);
      gone = over.gone;
    }

pub run-finished-requires-clause-ready : goal.run-finished-requires-clause-ready
run-finished-requires-clause-ready g c = λ _ _. (
  subst (λ (k : Task). CanFill (setup_of k) g.N.Naming.areas (λ r n. g.C.CaptureReader.ready r n) (source_of g c.args.source)) (sym c.requires.tasks.0) c.requires.ready,
  subst (λ (k : Task). AreApart (setup_of k).run) (sym c.requires.tasks.1) c.requires.apart,
  λ k d inside. tt,
)

pub returns-clause-same_files : goal.returns-clause-same_files
returns-clause-same_files g c =
    ap (λ s. s.capture.files.ghost_name) c.give_lines_back.ensures.source ∙ (done g c).source_names.1.0

pub returns-clause-same_reader : goal.returns-clause-same_reader
returns-clause-same_reader g c =
    ap (λ s. s.capture.reader.ghost_name) c.give_lines_back.ensures.source ∙ (done g c).source_names.1.1

pub returns-clause-same_outputs : goal.returns-clause-same_outputs
returns-clause-same_outputs g c =
    ap (λ s. s.files.ghost_name) c.give_lines_back.ensures.rest.0 ∙ (done g c).sink_names.1

pub returns-clause-ended : goal.returns-clause-ended
returns-clause-ended g c =
    let d = done g c in
    let back = c.give_lines_back.ensures in
    λ none is. (d.gone (sym back.rest.1 ∙ none)).1 (sym (ap (λ s. s.capture.ending) back.source) ∙ is)

pub returns-clause-seats : goal.returns-clause-seats
returns-clause-seats g c =
    let back = c.give_lines_back.ensures in
    let same : c.give_lines_back.new.finished.source.seats.items ≡ c.run-finished.result.source.seats.items = ap (λ s. s.seats.items) back.source in
    subst (λ (l : List FreeValue). All (λ (f : FreeValue). f.areas ≡ g.N.Naming.areas) l) (sym same) c.run-finished.ensures.ready.0.seats

pub returns-clause-share : goal.returns-clause-share
returns-clause-share g c =
    let d = done g c in
    let back = c.give_lines_back.ensures in
    let same : shares_in c.give_lines_back.new.finished.source.seats.items ≡ shares_in c.run-finished.result.source.seats.items =
    ap (λ s. shares_in s.seats.items) back.source in
    omega (arith, back.joined.share_is, same, d.shares, d.keeps.seat_share, c.requires.share)

pub returns-clause-leaves : goal.returns-clause-leaves
returns-clause-leaves g c =
    let d = done g c in
    let back = c.give_lines_back.ensures in
    let before = c.run-finished.result.source in
    let seat = c.give_lines_back.new.finished.source.dealer.seat in
    let x = setup_of c.args.task in
    let areas = g.N.Naming.areas in
    let first = place g c.args.source.capture.reader.now in
    let a = (source_of g c.args.source).at.files in
    let o = (sink_of g c.args.sink).files in
    let ready = c.run-finished.ensures.ready.0 in
    λ ended by.
    let by_before = subst (λ (k : Option Fault). EndsBy k before.capture.ending ended) back.rest.1
    (subst (λ (e : Option Ending). EndsBy c.give_lines_back.new.finished.answer e ended) (ap (λ s. s.capture.ending) back.source) by) in
    let left = leaves_over c.round_laws.ensures x areas (place g) (λ r bytes number. c.some_left.ensures r bytes number) first a o
    c.args.source.dealer.seat.known.share c.args.source.dealer.seat.known.reads (source_of g before) (sink_of g c.run-finished.result.sink) d.now
    c.run-finished.result.answer before.capture.ending ended refl by_before d.keeps d.gone (λ going. (ready.goes_on going).drawn) in
    let later : Leaves x (state_by areas (source_of g (record before { dealer = record before.dealer { seat = seat } })) (sink_of g c.run-finished.result.sink)
    (seat.known.reads + reads_in before.seats.items)) first (place g before.capture.reader.now) a (source_of g before).at.files o
    (sink_of g c.run-finished.result.sink).files ended =
    leaves_later ended (record {
      same_plan = refl;
      same_progress = refl;
      same_draws = back.joined.draws;
      news = [];
      points = sym (append-nil before.dealer.desk.known.points);
      reads = omega (arith, back.joined.reads_are, d.reads);
    }) left in
    subst (λ (w : Outputs g.row.N.Denot g.row.O.Denot g.row.G.Denot). Leaves x (state_by areas (source_of g c.give_lines_back.new.finished.source) (sink_of g w)
    (seat.known.reads + reads_in c.give_lines_back.new.finished.source.seats.items)) first (place g c.give_lines_back.new.finished.source.capture.reader.now) a
    (source_of g c.give_lines_back.new.finished.source).at.files o (sink_of g w).files ended) (sym back.rest.0)
    (subst (λ (s : Intake g.row.N.Denot g.row.R.Denot g.row.I.Denot g.row.C.Denot). Leaves x (state_by areas (source_of g s) (sink_of g c.run-finished.result.sink)
    (seat.known.reads + reads_in s.seats.items)) first (place g s.capture.reader.now) a (source_of g s).at.files o (sink_of g c.run-finished.result.sink).files ended)
    (sym back.source) later)
