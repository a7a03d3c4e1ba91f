use Rattle.std.proofs.Common.{[], ◌∷◌, Ok, Err, refl, ◌∙◌, ap, arith}
use Rattle.std.proofs.lemmas.Result.{err_from_is_err_and}
use Rattle.aftr_io.specs.Outside.{Readable}
use Rattle.aftr_io.proofs.OutsideLemmas.{read_well}
use Rattle.pcapng_io.specs.declared.block.Block.{Block}
use Rattle.pcapng_io.specs.declared.block.Block.TheVariants as block
use Rattle.pcapng_io.specs.Blocks.{known_after}
use Rattle.pcapng_io.specs.Seen.{seen_by}
use Rattle.pcapng_io.proofs.FileLemmas.{passed_inside}
use Rattle.pcapng_io.proofs.WalkLemmas.{block_moved, inside_moved}
use Rattle.pcapng_io.proofs.OpenLemmas.{open_inside, opened_interface, opened_told, opens_on, plain_by, plain_keeps, plain_links}
use Rattle.pcapng_io.proofs.ReadLemmas.{behind_passed}
use Rattle.pcapng_io.proofs.RefusalLemmas.{opening_refused, refused_by}
use Rattle.pcapng_io.specs.Standing.{Standing}
use Rattle.pcapng_io.proofs.reader.NgReader.open_behind.Goals as goal

pub returns-in_err-read_block-clause-reads : goal.returns-in_err-read_block-clause-reads
returns-in_err-read_block-clause-reads g c =
    let e = err_from_is_err_and c.from_residual.result c.from_residual.ensures.1 in
    passed_inside Block _ c.from_residual.result c.in_err-read_block.field-0.0 c.args.name.now _ _ (g.I.Reading.readable c.args.files.now) (g.I.Reading.readable c.opening.files) (g.I.Reading.readable c.read_block.new.files)
    (e.1 ∙ ap Err e.2) c.opening.invariant.0
    (λ place within. open_inside (g.I.Reading.readable c.args.files.now).held c.args.name.now c.opening.known place c.opening.invariant.1
    (inside_moved (g.I.Reading.readable c.opening.files).held (g.I.Reading.readable c.args.files.now).held c.args.name.now c.opening.known 0 place [] [] (ap (λ (o : Readable). o.held) c.opening.invariant.0) refl within))
    c.in_err-read_block.ensures.reads

pub returns-in_err-read_block-clause-refused : goal.returns-in_err-read_block-clause-refused
returns-in_err-read_block-clause-refused g c =
    let e = err_from_is_err_and c.from_residual.result c.from_residual.ensures.1 in
    refused_by Standing c.from_residual.result c.in_err-read_block.field-0.0 (e.1 ∙ ap Err e.2) (opening_refused c.opening.known c.in_err-read_block.field-0.0 c.opening.invariant.4 c.in_err-read_block.ensures.refused)

pub opening-preserved : goal.opening-preserved
opening-preserved g c =
    let plain = plain_by c.in-Passed.passed c.in_default.not-Interface in
    let kept = plain_keeps c.opening.known c.behind_passed-known.result c.in-Passed.passed plain c.behind_passed-known.ensures in (
      read_well c.args.name.now _ _ _ c.in_ok-read_block.ensures.reads ∙ c.opening.invariant.0,
      opens_on (g.I.Reading.readable c.args.files.now).held c.args.name.now c.opening.known c.behind_passed-known.result c.in_ok-read_block.field-0 c.in-Passed.passed c.in-Passed.is plain c.opening.invariant.1
          (block_moved (g.I.Reading.readable c.opening.files).held (g.I.Reading.readable c.args.files.now).held c.args.name.now c.opening.known 0 [] [] (Ok c.in_ok-read_block.field-0) (ap (λ (o : Readable). o.held) c.opening.invariant.0) refl c.in_ok-read_block.ensures.told)
          c.behind_passed-known.ensures,
      omega (arith, kept, c.opening.invariant.2),
      behind_passed (g.I.Reading.readable c.opening.files).held (g.I.Reading.readable c.args.files.now).held c.args.name.now c.opening.known c.behind_passed-known.result c.read_block.new.window c.in_ok-read_block.field-0 c.in-Passed.passed
          (ap (λ (o : Readable). o.held) c.opening.invariant.0) c.in-Passed.is c.behind_passed-known.ensures c.in_ok-read_block.ensures.stands,
      plain_links c.opening.known c.behind_passed-known.result c.in-Passed.passed plain c.behind_passed-known.ensures ∙ c.opening.invariant.4,
    )

pub returns-in-Interface-clause-told : goal.returns-in-Interface-clause-told
returns-in-Interface-clause-told g c =
    let held = (g.I.Reading.readable c.args.files.now).held in
    let name = c.args.name.now in
    let known = c.opening.known in
    let now = c.behind_passed-known.result in
    let p = c.in-Passed.passed in
    let i = c.in-Interface.interface in
    let same = ap (λ (o : Readable). o.held) c.opening.invariant.0 in
    let header = opened_interface held name known c.in_ok-read_block.field-0 i c.in-Interface.link c.in-Interface.total now (i ∷ []) (c.in-Passed.is ∙ ap block.Passed c.in-Interface.is) c.opening.invariant.1
    (block_moved (g.I.Reading.readable c.opening.files).held held name known 0 [] [] (Ok c.in_ok-read_block.field-0) same refl c.in_ok-read_block.ensures.told)
    (c.behind_passed-known.ensures ∙ ap (known_after known) c.in-Interface.is) refl in
    let stands = behind_passed (g.I.Reading.readable c.opening.files).held held name known now c.read_block.new.window c.in_ok-read_block.field-0 p same c.in-Passed.is c.behind_passed-known.ensures c.in_ok-read_block.ensures.stands in
    opened_told held name c.with_interface.result (seen_by now (i ∷ [])) c.read_block.new.window header stands c.with_interface.ensures.is c.with_interface.ensures.memory
