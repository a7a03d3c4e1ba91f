-- The fixed fields, and then the options.
use Rattle.std.proofs.Common.{Ok, Err, sym, ◌∙◌}
use Rattle.pcapng_io.specs.Seen.{seen_by}
use Rattle.pcapng_io.proofs.InterfaceLemmas.{front_interface}
use Rattle.pcapng_io.proofs.interface.interface_of_front.Goals as goal

pub returns-in-Err-resolution_in-clause-says : goal.returns-in-Err-resolution_in-clause-says
returns-in-Err-resolution_in-clause-says c =
    sym (front_interface (seen_by c.args.known c.args.interfaces.now) c.args.first.now c.args.frame c.start_of.result c.in-Ok.start c.resolution_in.result (Err c.in-Err-resolution_in.refusal)
    c.requires.least c.start_of.ensures c.in-Ok.is c.resolution_in.ensures c.in-Err-resolution_in.is)

pub returns-clause-says : goal.returns-clause-says
returns-clause-says c =
    c.block_of.ensures.says
    ∙ sym (front_interface (seen_by c.args.known c.args.interfaces.now) c.args.first.now c.args.frame c.start_of.result c.in-Ok.start c.resolution_in.result (Ok c.in-Ok-resolution_in.found)
    c.requires.least c.start_of.ensures c.in-Ok.is c.resolution_in.ensures c.in-Ok-resolution_in.is)
