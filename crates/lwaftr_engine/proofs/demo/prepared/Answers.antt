use Rattle.lwaftr_engine.proofs.Words.{capture_of, ◌≡◌}
use Rattle.lwaftr_engine.proofs.Prepared.{is_show}
use Rattle.lwaftr_engine.proofs.demo.prepared.Goals as goal

pub returns : goal.returns
returns c =
    let traffic = c.in_ok-traffic.ensures in
    let capture : c.as_slice.result.now ≡ capture_of c.args.seed c.args.count = cc (c.as_slice.ensures, traffic.capture) in
    rw (c.in_ok-set.ensures.ok, c.as_str.ensures, capture) (is_show c.args.seed c.args.count c.new-reading.result c.new-writing.result c.in_ok-job.job c.in_ok-made.made
    c.in_ok-job.ensures (rw (traffic.first, traffic.second) at c.in_ok-made.ensures))
