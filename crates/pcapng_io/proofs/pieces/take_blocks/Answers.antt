-- What the front of the rest says, and one block more.
use Rattle.std.proofs.Common.{◌≡◌, ◌+◌, ◌<◌, ◌^◌, List, ℕ, length, drop, map, sym, ap, subst, arith}
use Rattle.std.proofs.lemmas.Bool.Decides.{nat_tests}
use Rattle.std.proofs.lemmas.List.{take_rest}
use Rattle.pcapng_io.specs.declared.fronts.Front.{Front}
use Rattle.pcapng_io.specs.declared.fronts.Front.TheVariants as front
use Rattle.pcapng_io.specs.declared.interface.Interface.{Interface}
use Rattle.capture_io.specs.Records.{placed}
use Rattle.pcapng_io.specs.Fronts.{front_in, is_more}
use Rattle.pcapng_io.specs.Pieces.{AreBlocks}
use Rattle.pcapng_io.specs.Seen.{seen_by}
use Rattle.pcapng_io.proofs.PieceLemmas.{ended_bad, ended_end, is_open, packet_fits, packet_taken, packet_within, passed_taken, said_at, sound_said, timed_behind}
use Rattle.pcapng_io.proofs.RefusalLemmas.{block_refused, front_refused}
use Rattle.pcapng_io.proofs.pieces.take_blocks.Goals as goal
use Rattle.pcapng_io.proofs.pieces.take_blocks.Goals.{After-front_of}

-- what the front of the rest says
said : (c : After-front_of) → (f : Front) → c.front_of.result ≡ f →
    front_in (seen_by c.blocks-2.here c.blocks-2.interfaces.items) (drop c.blocks-2.used c.args.piece.now) c.args.last c.blocks-2.next ≡ f
said c f is =
    said_at c.blocks-2.here c.blocks-2.interfaces.items c.deref.result.now c.args.piece.now c.args.last c.blocks-2.used c.blocks-2.next c.front_of.result f
    c.deref.ensures.value c.front_of.ensures.says is

pub returns-in-End-clause-ended : goal.returns-in-End-clause-ended
returns-in-End-clause-ended c =
    ended_end (seen_by c.args.known c.args.interfaces.now.items) (seen_by c.blocks-2.here c.blocks-2.interfaces.items) c.args.piece.now c.args.last
    c.args.number c.args.most_bytes
    c.blocks-2.places.items c.blocks-2.used c.blocks-2.next c.blocks-2.bytes c.blocks-2.invariant.taken
    (said (goal.at.returns-in-End-clause-ended c).After-front_of front.End c.in-End.is)

pub returns-in-Bad-clause-ended : goal.returns-in-Bad-clause-ended
returns-in-Bad-clause-ended c =
    ended_bad (seen_by c.args.known c.args.interfaces.now.items) (seen_by c.blocks-2.here c.blocks-2.interfaces.items) c.args.piece.now c.args.last
    c.args.number c.args.most_bytes
    c.blocks-2.places.items c.blocks-2.used c.blocks-2.next c.blocks-2.bytes c.blocks-2.invariant.taken c.in-Bad.refusal
    (said (goal.at.returns-in-Bad-clause-ended c).After-front_of (front.Bad c.in-Bad.refusal) c.in-Bad.is)

pub returns-in-Bad-clause-in_records : goal.returns-in-Bad-clause-in_records
returns-in-Bad-clause-in_records c =
    let seen = seen_by c.blocks-2.here c.blocks-2.interfaces.items in
    let rest = drop c.blocks-2.used c.args.piece.now in
    block_refused seen rest c.blocks-2.next c.in-Bad.refusal
    (front_refused seen rest c.args.last c.blocks-2.next c.in-Bad.refusal
    (said (goal.at.returns-in-Bad-clause-in_records c).After-front_of (front.Bad c.in-Bad.refusal) c.in-Bad.is))

pub returns-in-More-clause-unsaid : goal.returns-in-More-clause-unsaid
returns-in-More-clause-unsaid c = λ ending none.
    let piece = c.args.piece.now in
    let used = c.blocks-2.used in
    is_open (seen_by c.args.known c.args.interfaces.now.items) (seen_by c.blocks-2.here c.blocks-2.interfaces.items) piece c.args.last c.args.number
    c.args.most_bytes
    c.blocks-2.places.items used c.blocks-2.next c.blocks-2.bytes c.blocks-2.invariant.taken
    (said (goal.at.returns-in-More-clause-unsaid c).After-front_of front.More c.in-More.is)
    (subst (λ (l : List ℕ). length l < 2 ^ 32) (take_rest piece used) (c.front_of.ensures.short (ap is_more c.in-More.is)))

pub take_plain-run-requires-clause-inside : goal.take_plain-run-requires-clause-inside
take_plain-run-requires-clause-inside c =
    let now = seen_by c.blocks-2.here c.blocks-2.interfaces.items in
    let p = c.in-Packet.packet in
    let stands = said (goal.at.take_plain-run-requires-clause-inside c).After-front_of (front.Packet p) c.in-Packet.is in
    packet_fits now c.args.piece.now c.args.last c.blocks-2.used c.blocks-2.next p c.blocks-2.invariant.taken.inside stands

pub take_plain-run-requires-clause-timed : goal.take_plain-run-requires-clause-timed
take_plain-run-requires-clause-timed c =
    timed_behind c.blocks-2.here c.behind_packet.result c.in-Packet.packet c.blocks-2.places.items c.push_reserved.new.self.items c.place_of.result
    c.blocks-2.used c.blocks-2.here.at
    c.push_reserved.ensures.items c.place_of.ensures c.behind_packet.ensures

pub blocks-2-preserved-in-Packet : goal.blocks-2-preserved-in-Packet
blocks-2-preserved-in-Packet c =
    let old = seen_by c.args.known c.args.interfaces.now.items in
    let now = seen_by c.blocks-2.here c.blocks-2.interfaces.items in
    let piece = c.args.piece.now in
    let p = c.in-Packet.packet in
    let run = c.take_plain-run.result in
    let pushed = c.push_reserved.new.self.items in
    let stands = said (goal.at.blocks-2-preserved-in-Packet c).After-front_of (front.Packet p) c.in-Packet.is in
    let sound = sound_said c.blocks-2.next c.front_of.result (front.Packet p) c.in-Packet.is c.front_of.ensures.sound in
    let one = packet_taken old now piece c.args.last c.args.number c.args.most_bytes c.blocks-2.places.items c.blocks-2.used c.blocks-2.next c.blocks-2.bytes
    c.blocks-2.invariant.taken p sound stands
    pushed c.place_of.result c.behind_packet.result c.push_reserved.ensures.items c.place_of.ensures c.behind_packet.ensures (grind (arith, nat_tests))
    (grind (arith, nat_tests)) in
    let Before : List Interface → Type 0 = λ l. AreBlocks old (seen_by c.behind_packet.result l) piece c.args.last c.args.number c.args.most_bytes
    (map (placed piece) pushed) (c.blocks-2.used + p.total) (c.blocks-2.next + 1) (c.blocks-2.bytes + p.count) in
    let After : List Interface → Type 0 = λ l. AreBlocks old (seen_by run.known l) piece c.args.last c.args.number c.args.most_bytes
    (map (placed piece) c.take_plain-run.new.places.items) run.used run.number run.bytes in
    let each = packet_within old now piece c.args.last c.args.number c.args.most_bytes c.blocks-2.places.items c.blocks-2.used c.blocks-2.next c.blocks-2.bytes
    c.blocks-2.invariant.taken p sound stands
    pushed c.place_of.result c.push_reserved.ensures.items c.place_of.ensures c.blocks-2.invariant.within in
    record {
      taken = subst After c.deref-in-Packet.ensures.value
          (c.take_plain-run.ensures.taken old c.args.last c.args.number (subst Before (sym c.deref-in-Packet.ensures.value) one));
      within = c.take_plain-run.ensures.within each;
      room = c.take_plain-run.ensures.room;
    }

pub blocks-2-preserved : goal.blocks-2-preserved
blocks-2-preserved c =
    let old = seen_by c.args.known c.args.interfaces.now.items in
    let now = seen_by c.blocks-2.here c.blocks-2.interfaces.items in
    let p = c.in-Passed.passed in
    let stands = said (goal.at.blocks-2-preserved c).After-front_of (front.Passed p) c.in-Passed.is in
    let sound = sound_said c.blocks-2.next c.front_of.result (front.Passed p) c.in-Passed.is c.front_of.ensures.sound in
    let taken = passed_taken old now c.args.piece.now c.args.last c.args.number c.args.most_bytes c.blocks-2.places.items c.blocks-2.used c.blocks-2.next
    c.blocks-2.bytes c.blocks-2.invariant.taken p sound stands
    c.behind_passed-here.result c.pass.new.interfaces.items c.behind_passed-here.ensures c.in_ok-pass-in-Passed.ensures.after in
    let P : ℕ → Type 0 = λ n. AreBlocks old (seen_by c.behind_passed-here.result c.pass.new.interfaces.items) c.args.piece.now c.args.last c.args.number
    c.args.most_bytes
    (map (placed c.args.piece.now) c.blocks-2.places.items) n c.blocks-2.next c.blocks-2.bytes in
    record {
      taken = subst P (ap (λ n. c.blocks-2.used + n) (sym c.len_of-used.ensures)) taken;
      within = c.blocks-2.invariant.within;
      room = c.blocks-2.invariant.room;
    }
