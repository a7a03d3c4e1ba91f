-- The head says how long the block is; the rest is that of its body.
use Rattle.std.proofs.Common.{Ok, Err, refl, sym, ◌∙◌, ap, drop}
use Rattle.std.proofs.lemmas.Result.{err_from_is_err_and}
use Rattle.pcapng_io.specs.declared.block.Block.{Block}
use Rattle.pcapng_io.specs.Blocks.{block_in}
use Rattle.pcapng_io.specs.Seen.{seen_by}
use Rattle.pcapng_io.proofs.FileLemmas.{passed_inside}
use Rattle.pcapng_io.proofs.LongLemmas.{agrees_failed}
use Rattle.pcapng_io.proofs.LongBlockLemmas.{head_told, in_long, is_long, is_near, long_failed, long_told}
use Rattle.pcapng_io.proofs.RefusalLemmas.{head_kind, passed_on}
use Rattle.pcapng_io.proofs.long.read_long.Goals as goal

pub returns-in-Err-clause-told : goal.returns-in-Err-clause-told
returns-in-Err-clause-told g c =
    let seen = seen_by c.args.sought.known c.args.interfaces.now in
    head_told (g.I.Reading.readable c.args.files.now).held c.args.name.now seen c.args.window.now c.as_slice.result.now c.args.sought.number c.head_of.result c.in-Err.refusal
    (is_near seen c.args.window.now c.args.sought.number c.requires.is_open) c.requires.kept c.as_slice.ensures c.head_of.ensures.says c.in-Err.is

pub read_body-requires-clause-near : goal.read_body-requires-clause-near
read_body-requires-clause-near g c = is_near (seen_by c.args.sought.known c.args.interfaces.now) c.args.window.now c.args.sought.number c.requires.is_open

pub read_body-requires-clause-less : goal.read_body-requires-clause-less
read_body-requires-clause-less g c =
    (is_long (seen_by c.args.sought.known c.args.interfaces.now) c.args.window.now c.args.sought.number c.as_slice.result.now c.head_of.result c.in-Ok.frame c.requires.is_open c.requires.kept c.as_slice.ensures c.head_of.ensures.says c.in-Ok.is).less

pub returns-in_err-block-clause-told : goal.returns-in_err-block-clause-told
returns-in_err-block-clause-told g c =
    let held = (g.I.Reading.readable c.args.files.now).held in
    let seen = seen_by c.args.sought.known c.args.interfaces.now in
    let first = c.args.window.now in
    let long = is_long seen first c.args.sought.number c.as_slice.result.now c.head_of.result c.in-Ok.frame c.requires.is_open c.requires.kept c.as_slice.ensures c.head_of.ensures.says c.in-Ok.is in
    let e = err_from_is_err_and c.from_residual.result c.from_residual.ensures.1 in
    agrees_failed held c.args.name.now c.args.sought.known.at first (λ all. block_in seen (drop c.args.sought.known.at all) c.args.sought.number) c.from_residual.result c.in_err-block.field-0.0 (e.1 ∙ ap Err e.2)
    (long_failed held c.args.name.now seen c.args.sought.number first c.in-Ok.frame c.in_err-block.field-0.0 long c.in_err-block.ensures.told)

pub returns-in_err-block-clause-reads : goal.returns-in_err-block-clause-reads
returns-in_err-block-clause-reads g c =
    let held = (g.I.Reading.readable c.args.files.now).held in
    let seen = seen_by c.args.sought.known c.args.interfaces.now in
    let first = c.args.window.now in
    let long = is_long seen first c.args.sought.number c.as_slice.result.now c.head_of.result c.in-Ok.frame c.requires.is_open c.requires.kept c.as_slice.ensures c.head_of.ensures.says c.in-Ok.is in
    let e = err_from_is_err_and c.from_residual.result c.from_residual.ensures.1 in
    passed_inside Block Block c.from_residual.result c.in_err-block.field-0.0 c.args.name.now _ _ (g.I.Reading.readable c.args.files.now) (g.I.Reading.readable c.args.files.now) (g.I.Reading.readable c.read_body.new.files)
    (e.1 ∙ ap Err e.2) refl (λ place within. in_long held c.args.name.now seen c.args.sought.number first c.in-Ok.frame place long within) c.in_err-block.ensures.reads

pub returns-clause-told : goal.returns-clause-told
returns-clause-told g c =
    let held = (g.I.Reading.readable c.args.files.now).held in
    let seen = seen_by c.args.sought.known c.args.interfaces.now in
    let first = c.args.window.now in
    let long = is_long seen first c.args.sought.number c.as_slice.result.now c.head_of.result c.in-Ok.frame c.requires.is_open c.requires.kept c.as_slice.ensures c.head_of.ensures.says c.in-Ok.is in
    long_told held c.args.name.now seen c.args.sought.number first c.in-Ok.frame (Ok c.in_ok-block.block) long c.in_ok-block.ensures.told

pub returns-clause-near : goal.returns-clause-near
returns-clause-near g c = is_near (seen_by c.args.sought.known c.args.interfaces.now) c.args.window.now c.args.sought.number c.requires.is_open

pub returns-in_err-block-clause-refused : goal.returns-in_err-block-clause-refused
returns-in_err-block-clause-refused g c =
    let seen = seen_by c.args.sought.known c.args.interfaces.now in
    let e = err_from_is_err_and c.from_residual.result c.from_residual.ensures.1 in
    passed_on seen c.from_residual.result c.in_err-block.field-0.0 (e.1 ∙ ap Err e.2) c.in_err-block.ensures.refused

pub returns-in-Err-clause-refused : goal.returns-in-Err-clause-refused
returns-in-Err-clause-refused g c =
    head_kind (seen_by c.args.sought.known c.args.interfaces.now) c.as_slice.result.now c.in-Err.refusal (sym c.head_of.ensures.says ∙ c.in-Err.is)
