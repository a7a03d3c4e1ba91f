use Rattle.lwaftr_engine.proofs.Words.{CanGoOn, List, length, setup_of, ◌≡◌}
use Rattle.hand_over.specs.Lines.{SameAnswerer, given, taken}
use Rattle.lwaftr_engine.specs.Beside.{Exchange, HaveJudged, assignments, reached, reports}
use Rattle.lwaftr_engine.proofs.beside.judge_rounds.Given as goal

abbrev pub invariant-rounds : goal.invariant-rounds
invariant-rounds g l = record {
  same : SameAnswerer l.fn.answerer l.answerer;
  can : CanGoOn (setup_of l.task) l.router.shift l.router.progress;
  number : l.router.progress.number ≡ reached (taken l.answerer);
  exchanges : List Exchange;
  asked : taken l.answerer ≡ assignments exchanges;
  told : given l.answerer ≡ reports exchanges;
  all : length (given l.answerer) ≡ length (taken l.answerer);
  judged : HaveJudged (setup_of l.task) l.fn.router exchanges l.router;
}
