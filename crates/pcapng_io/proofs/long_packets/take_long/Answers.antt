-- What the block is, as what a round takes of it.
use Rattle.std.proofs.Common.{◌≡◌, ◌+◌, ◌<◌, ◌≤◌, length, drop, Some, Ok, Err, refl, sym, ap, subst, arith}
use Rattle.capture_io.specs.Refusals.{EndsInRecords}
use Rattle.capture_io.specs.Rounds.{IsEnding}
use Rattle.capture_io.specs.declared.forms.CaptureError.{CaptureError}
use Rattle.capture_io.specs.declared.rounds.Ending.{Ending}
use Rattle.capture_io.specs.declared.rounds.Ending.TheVariants as end
use Rattle.pcapng_io.specs.declared.block.Block.{Block}
use Rattle.pcapng_io.specs.declared.block.Block.TheVariants as block
use Rattle.pcapng_io.specs.declared.long_packets.Long.TheVariants as long
use Rattle.pcapng_io.specs.declared.pieces.Taken.{Taken}
use Rattle.pcapng_io.specs.Answers.{RefusesBlock}
use Rattle.pcapng_io.specs.Blocks.{block_in, size_of}
use Rattle.pcapng_io.specs.Files.{IsSound, IsSoundPacket}
use Rattle.pcapng_io.specs.Long.{HasBytes, IsLonger, StandsIn, WithFront}
use Rattle.pcapng_io.specs.Pieces.{IsLongTaken}
use Rattle.pcapng_io.specs.Rounds.{left_of}
use Rattle.pcapng_io.specs.Seen.{seen_by}
use Rattle.pcapng_io.proofs.LongRoundLemmas.{block_is, ending_end, ending_refused, long_ended, long_packet, long_passed, long_reads, reads_by, stands_is, told_by, with_unit}
use Rattle.pcapng_io.proofs.WalkLemmas.{after_at}
use Rattle.pcapng_io.proofs.RefusalLemmas.{of_record}
use Rattle.pcapng_io.proofs.long_packets.take_long.Given.{Over}
use Rattle.pcapng_io.proofs.long_packets.take_long.Goals as goal
use Rattle.pcapng_io.proofs.long_packets.take_long.Goals.{After-read_long, In-Ok}

-- where the packets end with the block
ends : (g : Over) (c : After-read_long g) → (ending : Ending) (taken : Taken) →
    taken ≡ record { used = length c.read_long.new.window.bytes; known = c.args.search.from.known; number = c.args.search.from.number; ending = Some ending } →
    WithFront (g.I.Reading.readable c.args.files.now).held c.args.name.now c.args.search.from.known.at c.args.window.now
    (λ all. IsEnding (left_of (seen_by c.args.search.from.known c.args.interfaces.now.items)) all c.args.search.from.number (Some ending)) →
    IsLongTaken (g.I.Reading.readable c.args.files.now).held c.args.name.now (seen_by c.args.search.from.known c.args.interfaces.now.items)
    c.args.interfaces.now.items
    c.args.window.now.bytes c.read_long.new.window c.args.places.now.items c.args.search.from.number c.args.search.most_bytes (long.Taken taken)
ends g c ending taken is told =
    long_ended (g.I.Reading.readable c.args.files.now).held c.args.name.now (seen_by c.args.search.from.known c.args.interfaces.now.items) c.args.window.now
    c.read_long.new.window c.args.search.from.number c.args.search.most_bytes c.requires.is_open c.requires.sound c.requires.number c.requires.some
    ending taken c.args.places.now.items c.requires.none is told

-- what the file tells of the block, and where the window then stands
told : (g : Over) (c : In-Ok g) → (b : Block) → c.in-Ok.block ≡ b →
    WithFront (g.I.Reading.readable c.args.files.now).held c.args.name.now c.args.search.from.known.at c.args.window.now
    (λ all. block_in (seen_by c.args.search.from.known c.args.interfaces.now.items) (drop c.args.search.from.known.at all) c.args.search.from.number ≡ Ok b)
told g c b is =
    let held = (g.I.Reading.readable c.args.files.now).held in
    let sought = c.args.search.from in
    block_is held c.args.name.now (seen_by sought.known c.args.interfaces.now.items) c.args.window.now sought.number c.in-Ok.block b is
    (told_by held c.args.name.now c.args.window.now sought.known c.deref.result.now c.args.interfaces.now.items sought.number (Ok c.in-Ok.block)
    c.deref.ensures.value c.in-Ok.ensures.told)

stands : (g : Over) (c : In-Ok g) → (b : Block) → c.in-Ok.block ≡ b →
    WithFront (g.I.Reading.readable c.args.files.now).held c.args.name.now c.args.search.from.known.at c.args.window.now
    (λ all. StandsIn all c.args.search.from.known.at c.read_long.new.window b)
stands g c b is =
    stands_is (g.I.Reading.readable c.args.files.now).held c.args.name.now c.args.search.from.known.at c.args.window.now c.read_long.new.window c.in-Ok.block b is
    c.in-Ok.ensures.stands

pub returns-in-Err-Bad-clause-taken : goal.returns-in-Err-Bad-clause-taken
returns-in-Err-Bad-clause-taken g c =
    let held = (g.I.Reading.readable c.args.files.now).held in
    let sought = c.args.search.from in
    ends g (goal.at.returns-in-Err-Bad-clause-taken g c).After-read_long (end.Bad c.in-Err-Bad.refusal) c.ended.result c.ended.ensures
    (ending_refused held c.args.name.now (seen_by sought.known c.args.interfaces.now.items) c.args.window.now sought.number c.in-Err-Bad.field-0
    c.in-Err-Bad.refusal
    c.in-Err-Bad.field-0-is
    (told_by held c.args.name.now c.args.window.now sought.known c.deref.result.now c.args.interfaces.now.items sought.number (Err c.in-Err-Bad.field-0)
    c.deref.ensures.value c.in-Err-Bad.ensures.told))

pub returns-in-Err-ReadFault-clause-taken : goal.returns-in-Err-ReadFault-clause-taken
returns-in-Err-ReadFault-clause-taken g c =
    ends g (goal.at.returns-in-Err-ReadFault-clause-taken g c).After-read_long end.ReadFault c.ended-in-Err-ReadFault.result c.ended-in-Err-ReadFault.ensures
    (with_unit (g.I.Reading.readable c.args.files.now).held c.args.name.now c.args.search.from.known.at c.args.window.now)

pub returns-in-Err-ReadFault-clause-reads : goal.returns-in-Err-ReadFault-clause-reads
returns-in-Err-ReadFault-clause-reads g c =
    let before = g.I.Reading.readable c.args.files.now in
    let after = g.I.Reading.readable c.read_long.new.files in
    let sought = c.args.search.from in
    long_reads before.held c.args.name.now (seen_by sought.known c.args.interfaces.now.items) c.args.window.now c.read_long.new.window sought.number
    c.args.search.most_bytes c.requires.is_open c.requires.sound c.requires.number c.requires.some
    c.in-Err-ReadFault.field-0 c.ended-in-Err-ReadFault.result before after refl c.in-Err-ReadFault.field-0-is c.ended-in-Err-ReadFault.ensures
    (reads_by before.held c.args.name.now c.args.window.now sought.known c.deref.result.now c.args.interfaces.now.items sought.number c.in-Err-ReadFault.field-0
    before after c.deref.ensures.value c.in-Err-ReadFault.ensures.reads)

pub returns-in-End-clause-taken : goal.returns-in-End-clause-taken
returns-in-End-clause-taken g c =
    let sought = c.args.search.from in
    let at = goal.at.returns-in-End-clause-taken g c in
    ends g at.After-read_long end.End c.ended-in-End.result c.ended-in-End.ensures
    (ending_end (g.I.Reading.readable c.args.files.now).held c.args.name.now (seen_by sought.known c.args.interfaces.now.items) c.args.window.now sought.number
    block.End refl (told g at.In-Ok block.End c.in-End.is))

pub returns-in-Packet-clause-taken : goal.returns-in-Packet-clause-taken
returns-in-Packet-clause-taken g c =
    let old = seen_by c.args.search.from.known c.args.interfaces.now.items in
    let window = c.read_long.new.window in
    let p = c.in-Packet.packet in
    let at = (goal.at.returns-in-Packet-clause-taken g c).In-Ok in
    let sound : IsSoundPacket c.args.search.from.number p = subst (λ (b : Block). IsSound c.args.search.from.number b) c.in-Packet.is c.in-Ok.ensures.sound in
    let there : p.start + p.count ≤ length window.bytes = subst (λ (b : Block). HasBytes b window) c.in-Packet.is c.in-Ok.ensures.there in
    long_packet (g.I.Reading.readable c.args.files.now).held c.args.name.now old c.args.window.now window c.args.search.from.number c.args.search.most_bytes
    c.requires.is_open c.requires.sound c.requires.number c.requires.some p sound there
    (length c.as_slice.result.now) c.behind_packet.result c.args.places.now.items c.push_reserved.new.self.items c.place_of.result
    (ap length c.as_slice.ensures) c.behind_packet.ensures c.requires.none c.push_reserved.ensures.items c.place_of.ensures
    (told g at (block.Packet p) c.in-Packet.is) (stands g at (block.Packet p) c.in-Packet.is)

pub returns-in_ok-pass-in-Passed-clause-taken : goal.returns-in_ok-pass-in-Passed-clause-taken
returns-in_ok-pass-in-Passed-clause-taken g c =
    let p = c.in-Passed.passed in
    let at = (goal.at.returns-in_ok-pass-in-Passed-clause-taken g c).In-Ok in
    let sound : IsSound c.args.search.from.number (block.Passed p) =
    subst (λ (b : Block). IsSound c.args.search.from.number b) c.in-Passed.is c.in-Ok.ensures.sound in
    let longer : length c.args.window.now.bytes < size_of p =
    subst (λ (b : Block). IsLonger (length c.args.window.now.bytes) b) c.in-Passed.is c.in-Ok.ensures.longer in (
      long_passed (g.I.Reading.readable c.args.files.now).held c.args.name.now (seen_by c.args.search.from.known c.args.interfaces.now.items) c.args.window.now
          c.read_long.new.window c.args.search.from.number c.args.search.most_bytes c.requires.is_open c.requires.sound c.requires.number c.requires.some
          p c.behind_passed.result c.pass.new.interfaces.items sound.2 c.behind_passed.ensures c.in_ok-pass-in-Passed.ensures.after
          (told g at (block.Passed p) c.in-Passed.is) (stands g at (block.Passed p) c.in-Passed.is),
      c.requires.none,
      omega (arith, longer, ap (λ k. k.at) c.behind_passed.ensures, after_at c.args.search.from.known p),
    )

pub returns-in_ok-pass-in-Passed-clause-counted : goal.returns-in_ok-pass-in-Passed-clause-counted
returns-in_ok-pass-in-Passed-clause-counted g c = (returns-in_ok-pass-in-Passed-clause-taken g c).0.sound.counted

pub returns-in-Err-Bad-clause-in_records : goal.returns-in-Err-Bad-clause-in_records
returns-in-Err-Bad-clause-in_records g c =
    let seen = seen_by c.args.search.from.known c.deref.result.now in
    let R : CaptureError → Type 0 = RefusesBlock seen in
    let E : Taken → Type 0 = λ t. EndsInRecords t.ending in
    subst E (sym c.ended.ensures) (of_record seen c.in-Err-Bad.refusal (subst R c.in-Err-Bad.field-0-is c.in-Err-Bad.ensures.refused))
