-- What the front says is said of the file, and the bytes behind it are those of the block that stands there.
use Rattle.std.proofs.Common.{Err, ◌≡◌, ◌^◌, ◌<◌, drop, length, refl, ◌∙◌, ap, subst, arith}
use Rattle.std.proofs.lemmas.Result.{err_from_is_err_and}
use Rattle.aftr_io.specs.Contents.{Told}
use Rattle.aftr_io.specs.Outside.{Readable}
use Rattle.pcapng_io.specs.declared.block.Block.{Block}
use Rattle.pcapng_io.specs.declared.fronts.Front.{Front}
use Rattle.pcapng_io.specs.declared.fronts.Front.TheVariants as front
use Rattle.pcapng_io.specs.Blocks.{block_in}
use Rattle.pcapng_io.specs.Files.{left_at}
use Rattle.pcapng_io.specs.Fronts.{front_in}
use Rattle.pcapng_io.specs.Seen.{seen_by}
use Rattle.pcapng_io.proofs.FileLemmas.{failed_inside, passed_inside}
use Rattle.pcapng_io.proofs.ReadLemmas.{long_inside, more_inside, packet_stands, passed_near, passed_stands, read_smaller, said_of, told_at}
use Rattle.pcapng_io.proofs.RefusalLemmas.{block_kind, front_refused}
use Rattle.pcapng_io.proofs.StartLemmas.{Tells}
use Rattle.pcapng_io.proofs.block.read_block.Given.{Over}
use Rattle.pcapng_io.proofs.block.read_block.Goals as goal
use Rattle.pcapng_io.proofs.block.read_block.Goals.{After-front_of}

-- what the front of the window says
said : (g : Over) (c : After-front_of g) → (it : Front) → c.front_of.result ≡ it →
    front_in (seen_by c.args.known c.args.interfaces.now) c.reading.window.bytes c.reading.window.last c.args.number ≡ it
said g c it is =
    said_of (seen_by c.args.known c.args.interfaces.now) c.reading.window c.args.number c.as_slice.result.now c.is_last.result c.front_of.result it
    c.as_slice.ensures c.is_last.ensures c.front_of.ensures.says is

-- and of the file
told : (g : Over) (c : After-front_of g) → (it : Front) → c.front_of.result ≡ it →
    Told (g.I.Reading.readable c.args.files.now).held
    (λ m. Tells it (block_in (seen_by c.args.known c.args.interfaces.now) (left_at m c.args.name.now c.args.known.at) c.args.number))
told g c it is =
    told_at (g.I.Reading.readable c.args.files.now).held c.args.name.now (seen_by c.args.known c.args.interfaces.now) c.reading.window c.args.number
    it c.reading.invariant.stands
    (said g c it is)

pub returns-in-Packet-clause-told : goal.returns-in-Packet-clause-told
returns-in-Packet-clause-told g c = told g (goal.at.returns-in-Packet-clause-told g c).After-front_of (front.Packet c.in-Packet.packet) c.in-Packet.is

pub returns-in-Packet-clause-stands : goal.returns-in-Packet-clause-stands
returns-in-Packet-clause-stands g c =
    packet_stands (g.I.Reading.readable c.args.files.now).held c.args.name.now (seen_by c.args.known c.args.interfaces.now) c.reading.window c.args.number
    c.in-Packet.packet c.in-Packet.ensures.sound
    (said g (goal.at.returns-in-Packet-clause-stands g c).After-front_of (front.Packet c.in-Packet.packet) c.in-Packet.is) c.reading.invariant.stands

pub returns-in-Passed-clause-told : goal.returns-in-Passed-clause-told
returns-in-Passed-clause-told g c = told g (goal.at.returns-in-Passed-clause-told g c).After-front_of (front.Passed c.in-Passed.passed) c.in-Passed.is

pub returns-in-Passed-clause-stands : goal.returns-in-Passed-clause-stands
returns-in-Passed-clause-stands g c =
    passed_stands (g.I.Reading.readable c.args.files.now).held c.args.name.now (seen_by c.args.known c.args.interfaces.now) c.reading.window c.pass.new.self
    c.args.number c.in-Passed.passed
    (said g (goal.at.returns-in-Passed-clause-stands g c).After-front_of (front.Passed c.in-Passed.passed) c.in-Passed.is)
    c.reading.invariant.stands (c.pass.ensures.bytes ∙ ap (λ n. drop n c.reading.window.bytes) c.len_of.ensures) c.pass.ensures.last

pub returns-in-End-clause-told : goal.returns-in-End-clause-told
returns-in-End-clause-told g c = told g (goal.at.returns-in-End-clause-told g c).After-front_of front.End c.in-End.is

pub returns-in-Bad-clause-told : goal.returns-in-Bad-clause-told
returns-in-Bad-clause-told g c = told g (goal.at.returns-in-Bad-clause-told g c).After-front_of (front.Bad c.in-Bad.refusal) c.in-Bad.is

pub returns-in-Bad-clause-refused : goal.returns-in-Bad-clause-refused
returns-in-Bad-clause-refused g c =
    let seen = seen_by c.args.known c.args.interfaces.now in
    block_kind seen c.reading.window.bytes c.args.number c.in-Bad.refusal
    (front_refused seen c.reading.window.bytes c.reading.window.last c.args.number c.in-Bad.refusal
    (said g (goal.at.returns-in-Bad-clause-refused g c).After-front_of (front.Bad c.in-Bad.refusal) c.in-Bad.is))

pub reading-smaller : goal.reading-smaller
reading-smaller g c =
    read_smaller (seen_by c.args.known c.args.interfaces.now) c.reading.window c.args.number c.read_more.new.self
    (said g (goal.at.reading-smaller g c).After-front_of front.More c.in-More.is)
    (subst (λ n. n < 2 ^ 32) (ap length c.as_slice.ensures) (c.in-More.ensures.short refl)) c.in_ok-read_more-in-More.ensures.longer
    c.in_ok-read_more-in-More.ensures.least

pub returns-in_err-read_more-in-More-clause-reads : goal.returns-in_err-read_more-in-More-clause-reads
returns-in_err-read_more-in-More-clause-reads g c =
    let e = err_from_is_err_and c.from_residual-in_err-read_more-in-More.result c.from_residual-in_err-read_more-in-More.ensures.1 in
    failed_inside (Unit {0}) Block c.from_residual-in_err-read_more-in-More.result c.in_err-read_more-in-More.field-0.0 c.args.name.now _ _
    (g.I.Reading.readable c.args.files.now) (g.I.Reading.readable c.reading.files) (g.I.Reading.readable c.read_more.new.files)
    (e.1 ∙ ap Err e.2) c.reading.invariant.readable
    (more_inside (seen_by c.args.known c.args.interfaces.now) c.reading.window c.args.number (g.I.Reading.readable c.args.files.now).held c.args.name.now
    c.reading.invariant.stands
    (said g (goal.at.returns-in_err-read_more-in-More-clause-reads g c).After-front_of front.More c.in-More.is))
    c.in_err-read_more-in-More.ensures.reads

pub pass-requires : goal.pass-requires
pass-requires g c =
    let there = (passed_near (seen_by c.args.known c.args.interfaces.now) c.reading.window c.args.number c.in-Passed.passed
    (said g (goal.at.pass-requires g c).After-front_of (front.Passed c.in-Passed.passed) c.in-Passed.is)).1 in
    omega (arith, there, c.len_of.ensures)

pub returns-in_err-block-in-More-clause-reads : goal.returns-in_err-block-in-More-clause-reads
returns-in_err-block-in-More-clause-reads g c =
    let seen = seen_by c.args.known c.args.interfaces.now in
    let before = g.I.Reading.readable c.args.files.now in
    let now = g.I.Reading.readable c.reading.files in
    let e = err_from_is_err_and c.from_residual.result c.from_residual.ensures.1 in
    passed_inside Block Block c.from_residual.result c.in_err-block-in-More.field-0.0 c.args.name.now _ _ before now (g.I.Reading.readable c.read_long.new.files)
    (e.1 ∙ ap Err e.2) c.reading.invariant.readable
    (λ place. long_inside now.held before.held c.args.name.now seen c.args.number place c.reading.window
    (ap (λ (o : Readable). o.held) c.reading.invariant.readable) c.reading.invariant.stands)
    c.in_err-block-in-More.ensures.reads
