-- The round is what was fetched and taken, and the rest of the bytes is kept.
use Rattle.std.proofs.Common.{◌≡◌, ◌+◌, ◌∙◌, drop, length, ap}
use Rattle.capture_io.specs.Fronts.{IsStart}
use Rattle.capture_io.specs.Rounds.{IsInNext, is_cut}
use Rattle.capture_io.specs.Taken.{left_at}
use Rattle.capture_io.specs.Windows.{Ahead}
use Rattle.capture_io.proofs.FetchLemmas.{kept_start}
use Rattle.capture_io.proofs.RefusalLemmas.{ended_in_records}
use Rattle.capture_io.proofs.RoundLemmas.{cut_inside, round_count, round_placed, round_reads, round_told}
use Rattle.capture_io.proofs.classic.ClassicReaderCaptureReader.read_round.Goals as goal

pub returns-clause-count : goal.returns-clause-count
returns-clause-count g c =
    round_count c.args.self.now.form.big c.fetch.new.window c.in_ok-failed.failed c.args.self.now.at c.args.number c.args.most_bytes
    c.take-taken.new.places.items c.take-taken.result c.in_ok-records.records c.take-taken.ensures c.in_ok-records.ensures.records

pub returns-clause-ended : goal.returns-clause-ended
returns-clause-ended g c =
    let window = c.fetch.new.window in
    let taken = c.take-taken.result in
    ended_in_records c.args.self.now.form.big window.bytes window.last c.args.self.now.at taken.used taken.number taken.ending c.requires.ready.0 c.take-taken.ensures.ended

pub returns-clause-placed : goal.returns-clause-placed
returns-clause-placed g c =
    round_placed c.args.self.now.form.big c.fetch.new.window c.in_ok-failed.failed c.args.self.now.at c.args.number c.args.most_bytes
    c.take-taken.new.places.items c.take-taken.result c.in_ok-records.records c.take-taken.ensures c.in_ok-records.ensures.records

pub returns-clause-told : goal.returns-clause-told
returns-clause-told g c =
    let given = c.begin_round.new.self in
    let window = c.fetch.new.window in
    let taken = c.take-taken.result in
    let rest = c.hand_out.new.self.bytes in
    let same : given.bytes ≡ c.args.self.now.window.bytes = ap (λ (a : Ahead). a.bytes) c.in_ok-begin_round.ensures in
    round_told c.args.self.now.form.big window c.in_ok-failed.failed c.args.self.now.at c.args.number c.args.most_bytes
    c.take-taken.new.places.items taken c.in_ok-records.records c.take-taken.ensures c.in_ok-records.ensures.records
    (g.I.Reading.readable c.args.files.now).held c.args.name.now c.args.self.now.window.bytes rest given same
    (kept_start c.is_some-ended.result rest (drop taken.used window.bytes) c.in_ok-records.ensures.rest) c.in_ok-failed.ensures.told

pub returns-clause-reads : goal.returns-clause-reads
returns-clause-reads g c =
    let given = c.begin_round.new.self in
    let window = c.fetch.new.window in
    let taken = c.take-taken.result in
    let held = (g.I.Reading.readable c.args.files.now).held in
    let at = c.args.self.now.at in
    let big = c.args.self.now.form.big in
    let same : given.bytes ≡ c.args.self.now.window.bytes = ap (λ (a : Ahead). a.bytes) c.in_ok-begin_round.ensures in
    round_reads (is_cut taken.ending) c.in_ok-failed.failed c.args.name.now (λ place. place ≡ at + length window.bytes)
    (IsInNext c.args.name.now (λ bytes. IsStart c.args.self.now.window.bytes (drop at bytes)) (left_at big (at + taken.used)) (at + taken.used) held taken.number)
    (g.I.Reading.readable c.args.files.now) (g.I.Reading.readable c.fetch.new.files) c.take-taken.ensures.cut
    (λ cut place is. cut_inside held c.args.name.now c.args.self.now.window.bytes given window big at c.args.number place taken
    (c.take-taken.ensures.stays cut).0 (c.take-taken.ensures.stays cut).1 is same (c.in_ok-failed.ensures.open ∙ cut) c.in_ok-failed.ensures.told)
    c.in_ok-failed.ensures.reads
