use Rattle.std.proofs.Common.{◌≡◌, ℕ, refl, ◌+◌, ◌<◌, Ok, Err, List, length, take, drop, sym, ◌∙◌, ap, arith}
use Rattle.std.proofs.lemmas.Result.{err_from_is_err_and}
use Rattle.std.proofs.lemmas.Bool.Decides.{nat_tests}
use Rattle.aftr_io.proofs.OutsideLemmas.{read_well}
use Rattle.aftr_io.specs.Contents.{content, Told}
use Rattle.capture_io.specs.Head.{head_in}
use Rattle.capture_io.proofs.AnswerLemmas.{continued_told, cut_told, failed_inside, in_bytes, in_header, refused_told, told_same, whole_told}
use Rattle.capture_io.proofs.record.next_record.Given.{Over}
use Rattle.capture_io.proofs.record.next_record.Goals as goal
use Rattle.capture_io.proofs.record.next_record.Goals.{In-Ok, In_ok-bytes}

-- the record's header, of the bytes that were read
head_is : (g : Over) (c : In-Ok g) → head_in c.args.form.big (take c.in_ok-count.count c.fill.new.into) c.args.at c.args.number ≡ Ok c.in-Ok.head
head_is g c = sym c.head_of.ensures ∙ c.in-Ok.is

-- the bytes behind it, of the files as they were at first
bytes_are : (g : Over) (c : In_ok-bytes g) →
    Told (g.I.Reading.readable c.args.files.now).held (λ m. c.in_ok-bytes.bytes ≡ take c.in-Ok.head.captured (drop (c.args.at + 16) (content m c.args.name.now)))
bytes_are g c =
    told_same (g.I.Reading.readable c.fill.new.files).held (g.I.Reading.readable c.args.files.now).held
    (λ m. c.in_ok-bytes.bytes ≡ take c.in-Ok.head.captured (drop (c.args.at + 16) (content m c.args.name.now))) c.in_ok-count.ensures.reads.held
    c.in_ok-bytes.ensures.bytes

pub returns-in_err-count-clause-reads : goal.returns-in_err-count-clause-reads
returns-in_err-count-clause-reads g c =
    let e = err_from_is_err_and c.from_residual.result c.from_residual.ensures.1 in
    failed_inside ℕ c.from_residual.result c.in_err-count.field-0.0 c.args.name.now _ _
    (g.I.Reading.readable c.args.files.now) (g.I.Reading.readable c.args.files.now) (g.I.Reading.readable c.fill.new.files)
    (e.1 ∙ ap Err e.2) refl
    (λ place within. (within.0, in_header (g.I.Reading.readable c.args.files.now).held c.args.name.now c.args.form.big c.args.at c.args.number place within.1))
    c.in_err-count.ensures.reads

pub returns-in-Err-clause-told : goal.returns-in-Err-clause-told
returns-in-Err-clause-told g c =
    refused_told (g.I.Reading.readable c.args.files.now).held c.args.name.now c.args.form.big (take c.in_ok-count.count c.fill.new.into) c.args.at c.args.number
    c.in_ok-count.count c.in-Err.refusal c.in_ok-count.ensures.bytes c.in_ok-count.ensures.count (grind (arith, nat_tests))
    (sym c.head_of.ensures ∙ c.in-Err.is)

pub returns-in-Err-clause-step : goal.returns-in-Err-clause-step
returns-in-Err-clause-step g c = returns-in-Err-clause-told g c

pub returns-in_err-bytes-clause-reads : goal.returns-in_err-bytes-clause-reads
returns-in_err-bytes-clause-reads g c =
    let e = err_from_is_err_and c.from_residual-in_err-bytes.result c.from_residual-in_err-bytes.ensures.1 in
    failed_inside (List ℕ) c.from_residual-in_err-bytes.result c.in_err-bytes.field-0.0 c.args.name.now _ _
    (g.I.Reading.readable c.args.files.now) (g.I.Reading.readable c.fill.new.files) (g.I.Reading.readable c.bytes_at.new.files)
    (e.1 ∙ ap Err e.2) (read_well c.args.name.now _ _ _ c.in_ok-count.ensures.reads)
    (λ place within. (
      omega (arith, within.0),
      in_bytes (g.I.Reading.readable c.args.files.now).held c.args.name.now c.args.form.big (take c.in_ok-count.count c.fill.new.into) c.args.at c.args.number
          place c.in-Ok.head
          c.in_ok-count.ensures.bytes (head_is g (goal.at.returns-in_err-bytes-clause-reads g c).In-Ok) within.1,
    ))
    c.in_err-bytes.ensures.reads

pub returns-then-as_slice-head-clause-told : goal.returns-then-as_slice-head-clause-told
returns-then-as_slice-head-clause-told g c =
    let less : length c.in_ok-bytes.bytes < c.in-Ok.head.captured = grind (arith, nat_tests) in
    cut_told (g.I.Reading.readable c.args.files.now).held c.args.name.now c.args.form.big (take c.in_ok-count.count c.fill.new.into) c.in_ok-bytes.bytes c.args.at
    c.args.number c.in-Ok.head c.in_ok-count.ensures.bytes (head_is g (goal.at.returns-then-as_slice-head-clause-told g c).In-Ok)
    (bytes_are g (goal.at.returns-then-as_slice-head-clause-told g c).In_ok-bytes)
    less

pub returns-then-as_slice-head-clause-step : goal.returns-then-as_slice-head-clause-step
returns-then-as_slice-head-clause-step g c = returns-then-as_slice-head-clause-told g c

pub returns-clause-told : goal.returns-clause-told
returns-clause-told g c =
    whole_told (g.I.Reading.readable c.args.files.now).held c.args.name.now c.args.form.big (take c.in_ok-count.count c.fill.new.into) c.in_ok-bytes.bytes
    c.args.at c.args.number (c.args.at + 16 + c.from.result) c.in-Ok.head
    c.in_ok-count.ensures.bytes (head_is g (goal.at.returns-clause-told g c).In-Ok) (bytes_are g (goal.at.returns-clause-told g c).In_ok-bytes)
    (grind (arith, nat_tests)) (omega arith)

pub returns-clause-step : goal.returns-clause-step
returns-clause-step g c =
    continued_told (g.I.Reading.readable c.args.files.now).held c.args.name.now c.args.form.big c.args.at c.args.number
    (record { seconds = c.in-Ok.head.seconds; fraction = c.in-Ok.head.fraction; bytes = c.in_ok-bytes.bytes; next_at = c.args.at + 16 + c.from.result })
    (returns-clause-told g c) (grind (arith, nat_tests))
