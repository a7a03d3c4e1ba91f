use Rattle.std.proofs.Common.{◌*◌, ◌^◌}
use Rattle.traffic_gen.specs.Drawing.{turned}
use Rattle.traffic_gen.proofs.Captures.{wrapped_sum}
use Rattle.traffic_gen.proofs.generator.turned.Goals as goal

pub returns : goal.returns
unfolding turned
returns c = wrapped_sum (c.args.state * 6364136223846793005) 1442695040888963407 (2 ^ 64)
