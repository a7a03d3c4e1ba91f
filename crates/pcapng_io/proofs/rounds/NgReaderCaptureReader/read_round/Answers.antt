-- The packets that were found are the round, and the rest of the bytes is kept.
use Rattle.std.proofs.Common.{◌≡◌, drop, ap}
use Rattle.capture_io.specs.Windows.{Ahead}
use Rattle.capture_io.proofs.LawLemmas.{kept_start}
use Rattle.pcapng_io.specs.Seen.{seen_by}
use Rattle.pcapng_io.specs.Standing.{Standing}
use Rattle.pcapng_io.proofs.RoundLemmas.{reads_with, told_round}
use Rattle.pcapng_io.proofs.rounds.NgReaderCaptureReader.read_round.Goals as goal

pub returns-clause-told : goal.returns-clause-told
returns-clause-told g c =
    let seen : Standing = record { seen = seen_by c.self.inside.known c.self.inside.interfaces.items; ahead = c.self.inside.window.bytes } in
    let taken = c.in_ok-taken.taken in
    let given = c.begin_round.new.self.bytes in
    let bytes = c.find_packets.new.window.bytes in
    let rest = c.hand_out.new.self.bytes in
    let after : Standing = record { seen = seen_by taken.known c.find_packets.new.interfaces.items; ahead = rest } in
    let same : given ≡ c.self.inside.window.bytes = ap (λ (a : Ahead). a.bytes) c.in_ok-begin_round.ensures in
    told_round (g.I.Reading.readable c.args.files.now).held c.args.name.now c.args.self.now seen after given bytes c.args.number c.in_ok-records.records c.find_packets.new.places.items taken
    c.self.view_is same c.in_ok-records.ensures.records (kept_start c.is_some-ended.result rest (drop taken.used bytes) c.in_ok-records.ensures.rest) c.in_ok-taken.ensures.told

pub returns-clause-reads : goal.returns-clause-reads
returns-clause-reads g c =
    let seen : Standing = record { seen = seen_by c.self.inside.known c.self.inside.interfaces.items; ahead = c.self.inside.window.bytes } in
    let taken = c.in_ok-taken.taken in
    let given = c.begin_round.new.self.bytes in
    let same : given ≡ c.self.inside.window.bytes = ap (λ (a : Ahead). a.bytes) c.in_ok-begin_round.ensures in
    reads_with c.args.name.now c.args.self.now seen given (seen_by taken.known c.find_packets.new.interfaces.items) taken
    (g.I.Reading.readable c.args.files.now) (g.I.Reading.readable c.find_packets.new.files) c.self.view_is same c.in_ok-taken.ensures.reads
