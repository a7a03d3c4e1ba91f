use Rattle.std.proofs.Common.{ℕ, true, false, take, Err, refl, ◌∙◌, ap, arith}
use Rattle.std.proofs.lemmas.Result.{err_from_is_err_and}
use Rattle.aftr_io.proofs.OutsideLemmas.{read_well}
use Rattle.capture_io.specs.declared.classic.ClassicReader.{ClassicReader}
use Rattle.pcapng_io.specs.declared.either.Reader.{Reader}
use Rattle.pcapng_io.specs.Standing.{Standing}
use Rattle.pcapng_io.proofs.EitherLemmas.{blocks_in_head, classic_in_head, classic_refused, first_in_head, header_moved, kind_told}
use Rattle.pcapng_io.proofs.FileLemmas.{failed_inside, passed_inside}
use Rattle.pcapng_io.proofs.either.Reader.open.Goals as goal

pub returns-in_err-count-clause-reads : goal.returns-in_err-count-clause-reads
returns-in_err-count-clause-reads g c =
    let e = err_from_is_err_and c.from_residual.result c.from_residual.ensures.1 in
    failed_inside ℕ Reader c.from_residual.result c.in_err-count.field-0.0 c.args.name.now _ _
    (g.I.Reading.readable c.args.files.now) (g.I.Reading.readable c.args.files.now) (g.I.Reading.readable c.fill.new.files) (e.1 ∙ ap Err e.2) refl
    (λ place within. first_in_head (g.I.Reading.readable c.args.files.now).held c.args.name.now place (omega (arith, within.1))) c.in_err-count.ensures.reads

pub returns-in_err-reader-clause-reads : goal.returns-in_err-reader-clause-reads
returns-in_err-reader-clause-reads g c =
    let held = (g.I.Reading.readable c.args.files.now).held in
    let e = err_from_is_err_and c.from_residual-in_err-reader.result c.from_residual-in_err-reader.ensures.1 in
    let kind = kind_told held c.args.name.now (take c.in_ok-count.count c.fill.new.into) c.begins_section.result true c.in_ok-count.ensures.bytes c.begins_section.ensures c.if-begins_section.true in
    passed_inside Standing Reader c.from_residual-in_err-reader.result c.in_err-reader.field-0.0 c.args.name.now _ _
    (g.I.Reading.readable c.args.files.now) (g.I.Reading.readable c.fill.new.files) (g.I.Reading.readable c.open_behind.new.files) (e.1 ∙ ap Err e.2) (read_well c.args.name.now _ _ _ c.in_ok-count.ensures.reads)
    (λ place within. blocks_in_head held c.args.name.now place kind (header_moved (g.I.Reading.readable c.fill.new.files).held held c.args.name.now place c.in_ok-count.ensures.reads.held within))
    c.in_err-reader.ensures.reads

pub returns-in_err-reader-2-clause-told : goal.returns-in_err-reader-2-clause-told
returns-in_err-reader-2-clause-told g c =
    let held = (g.I.Reading.readable c.args.files.now).held in
    let e = err_from_is_err_and c.from_residual-in_err-reader-2.result c.from_residual-in_err-reader-2.ensures.1 in
    let kind = kind_told held c.args.name.now (take c.in_ok-count.count c.fill.new.into) c.begins_section.result false c.in_ok-count.ensures.bytes c.begins_section.ensures c.if-begins_section.false in
    classic_refused (g.I.Reading.readable c.fill.new.files).held held c.args.name.now c.from_residual-in_err-reader-2.result c.in_err-reader-2.field-0.0 c.in_ok-count.ensures.reads.held (e.1 ∙ ap Err e.2) kind c.in_err-reader-2.ensures.told

pub returns-in_err-reader-2-clause-reads : goal.returns-in_err-reader-2-clause-reads
returns-in_err-reader-2-clause-reads g c =
    let held = (g.I.Reading.readable c.args.files.now).held in
    let e = err_from_is_err_and c.from_residual-in_err-reader-2.result c.from_residual-in_err-reader-2.ensures.1 in
    let kind = kind_told held c.args.name.now (take c.in_ok-count.count c.fill.new.into) c.begins_section.result false c.in_ok-count.ensures.bytes c.begins_section.ensures c.if-begins_section.false in
    passed_inside ClassicReader Reader c.from_residual-in_err-reader-2.result c.in_err-reader-2.field-0.0 c.args.name.now _ _
    (g.I.Reading.readable c.args.files.now) (g.I.Reading.readable c.fill.new.files) (g.I.Reading.readable c.open_behind-2.new.files) (e.1 ∙ ap Err e.2) (read_well c.args.name.now _ _ _ c.in_ok-count.ensures.reads)
    (λ place within. classic_in_head held c.args.name.now place kind within) c.in_err-reader-2.ensures.reads
