use Rattle.std.proofs.Common.{◌≡◌, ℕ, ◌+◌, ◌<◌, ◌≤◌, false, List, drop, length, All, Option, Ok, Err, refl, sym, ◌∙◌, ap, subst, arith}
use Rattle.std.proofs.lemmas.Result.{err_from_is_err_and}
use Rattle.aftr_io.specs.Contents.{Told}
use Rattle.aftr_io.specs.Outside.{OnlyReads, Readable}
use Rattle.aftr_io.proofs.OutsideLemmas.{read_well}
use Rattle.capture_io.specs.Windows.{IsAtFront}
use Rattle.pcapng_io.specs.declared.block.Block.{Block}
use Rattle.pcapng_io.specs.declared.block.Block.TheVariants as block
use Rattle.pcapng_io.specs.declared.interface.Interface.{Interface}
use Rattle.pcapng_io.specs.declared.walk.Sighted.{Sighted}
use Rattle.pcapng_io.specs.Blocks.{block_in}
use Rattle.pcapng_io.specs.Files.{IsSound, left_at}
use Rattle.pcapng_io.specs.Seen.{seen_by}
use Rattle.pcapng_io.proofs.FileLemmas.{passed_inside}
use Rattle.pcapng_io.proofs.ReadLemmas.{behind_packet, behind_passed, front_moved}
use Rattle.pcapng_io.proofs.WalkLemmas.{block_moved, front_kept, inside_moved, quiet, walk_begins, walk_ends, walk_failed, walk_found, walk_inside, walk_passes}
use Rattle.pcapng_io.proofs.walk.find_packet.Given.{Over}
use Rattle.pcapng_io.proofs.walk.find_packet.Goals as goal
use Rattle.pcapng_io.proofs.walk.find_packet.Goals.{After-behind, In-Packet, In_ok-read_block}

-- the files hold what they held
same : (g : Over) (c : After-behind g) → (g.I.Reading.readable c.passing.files).held ≡ (g.I.Reading.readable c.args.files.now).held
same g c = ap (λ (o : Readable). o.held) c.passing.invariant.0

-- the section's interfaces, as the code has them
section : (g : Over) (c : After-behind g) → c.behind.result.now ≡ drop c.passing.first c.passing.interfaces.items
section g c = c.behind.ensures ∙ ap (drop c.passing.first) c.deref.ensures.value

-- which block stands there
told : (g : Over) (c : In_ok-read_block g) → Told (g.I.Reading.readable c.args.files.now).held
    (λ m. block_in (seen_by c.passing.here (drop c.passing.first c.passing.interfaces.items)) (left_at m c.args.name.now c.passing.here.at) c.args.number
    ≡ Ok c.in_ok-read_block.field-0)
told g c =
    block_moved (g.I.Reading.readable c.passing.files).held (g.I.Reading.readable c.args.files.now).held c.args.name.now c.passing.here c.args.number
    c.behind.result.now (drop c.passing.first c.passing.interfaces.items) (Ok c.in_ok-read_block.field-0)
    (ap (λ (o : Readable). o.held) c.passing.invariant.0) (c.behind.ensures ∙ ap (drop c.passing.first) c.deref.ensures.value) c.in_ok-read_block.ensures.told

-- no read failed
all_read : (g : Over) (c : In_ok-read_block g) → g.I.Reading.readable c.read_block.new.files ≡ g.I.Reading.readable c.args.files.now
all_read g c = read_well c.args.name.now _ _ _ c.in_ok-read_block.ensures.reads ∙ c.passing.invariant.0

quiet_read : (g : Over) (c : In_ok-read_block g) → (Q : ℕ → Type 0) →
    OnlyReads false c.args.name.now Q (g.I.Reading.readable c.args.files.now) (g.I.Reading.readable c.read_block.new.files)
quiet_read g c Q = quiet c.args.name.now Q (g.I.Reading.readable c.args.files.now) (g.I.Reading.readable c.read_block.new.files) (all_read g c)

-- where the window stands behind a packet, which is there
packet_behind : (g : Over) (c : In-Packet g) → IsAtFront (g.I.Reading.readable c.args.files.now).held c.args.name.now c.passing.here.at c.read_block.new.window
    × (c.in-Packet.packet.start + c.in-Packet.packet.count ≤ length c.read_block.new.window.bytes)
packet_behind g c =
    behind_packet (g.I.Reading.readable c.passing.files).held (g.I.Reading.readable c.args.files.now).held c.args.name.now c.passing.here.at c.read_block.new.window
    c.in_ok-read_block.field-0 c.in-Packet.packet (ap (λ (o : Readable). o.held) c.passing.invariant.0) c.in-Packet.is c.in_ok-read_block.ensures.stands

pub passing-init : goal.passing-init
passing-init g c = (
  refl,
  walk_begins (g.I.Reading.readable c.args.files.now).held c.args.name.now c.args.known c.args.interfaces.now.items c.args.number c.requires.sound,
  c.requires.stands,
)

pub behind-requires : goal.behind-requires
behind-requires g c = omega (arith, ap length c.deref.ensures.value, c.passing.invariant.1.within)

pub read_block-requires-clause-time : goal.read_block-requires-clause-time
read_block-requires-clause-time g c = c.passing.invariant.1.sound.time

pub read_block-requires-clause-counted : goal.read_block-requires-clause-counted
read_block-requires-clause-counted g c =
    subst (λ (l : List Interface). All (λ i. 0 < i.ticks) l) (sym (section g (goal.at.read_block-requires-clause-counted g c).After-behind))
    c.passing.invariant.1.sound.counted

pub read_block-requires-clause-stands : goal.read_block-requires-clause-stands
read_block-requires-clause-stands g c =
    front_moved (g.I.Reading.readable c.args.files.now).held (g.I.Reading.readable c.passing.files).held c.args.name.now c.passing.here.at c.passing.window
    (sym (same g (goal.at.read_block-requires-clause-stands g c).After-behind)) c.passing.invariant.2

pub returns-in_err-read_block-clause-front : goal.returns-in_err-read_block-clause-front
returns-in_err-read_block-clause-front g c = c.passing.invariant.1.front

pub returns-in_err-read_block-clause-told : goal.returns-in_err-read_block-clause-told
returns-in_err-read_block-clause-told g c =
    let e = err_from_is_err_and c.from_residual.result c.from_residual.ensures.1 in
    let at = (goal.at.returns-in_err-read_block-clause-told g c).After-behind in
    walk_failed (g.I.Reading.readable c.args.files.now).held c.args.name.now c.args.known c.passing.here c.args.interfaces.now.items c.passing.interfaces.items
    c.args.number c.passing.first c.from_residual.result c.in_err-read_block.field-0.0 (e.1 ∙ ap Err e.2) c.passing.invariant.1
    (block_moved (g.I.Reading.readable c.passing.files).held (g.I.Reading.readable c.args.files.now).held c.args.name.now c.passing.here c.args.number
    c.behind.result.now (drop c.passing.first c.passing.interfaces.items) (Err c.in_err-read_block.field-0.0) (same g at) (section g at)
    c.in_err-read_block.ensures.told)

pub returns-in_err-read_block-clause-reads : goal.returns-in_err-read_block-clause-reads
returns-in_err-read_block-clause-reads g c =
    let e = err_from_is_err_and c.from_residual.result c.from_residual.ensures.1 in
    let at = (goal.at.returns-in_err-read_block-clause-reads g c).After-behind in
    passed_inside Block (Option Sighted) c.from_residual.result c.in_err-read_block.field-0.0 c.args.name.now _ _
    (g.I.Reading.readable c.args.files.now) (g.I.Reading.readable c.passing.files) (g.I.Reading.readable c.read_block.new.files)
    (e.1 ∙ ap Err e.2) c.passing.invariant.0
    (λ place within. walk_inside (g.I.Reading.readable c.args.files.now).held c.args.name.now c.args.known c.passing.here c.args.interfaces.now.items
    c.passing.interfaces.items c.args.number c.passing.first place c.passing.invariant.1
    (inside_moved (g.I.Reading.readable c.passing.files).held (g.I.Reading.readable c.args.files.now).held c.args.name.now c.passing.here c.args.number place
    c.behind.result.now (drop c.passing.first c.passing.interfaces.items) (same g at) (section g at) within))
    c.in_err-read_block.ensures.reads

pub returns-in-End-clause-front : goal.returns-in-End-clause-front
returns-in-End-clause-front g c = c.passing.invariant.1.front

pub returns-in-End-clause-told : goal.returns-in-End-clause-told
returns-in-End-clause-told g c =
    walk_ends (g.I.Reading.readable c.args.files.now).held c.args.name.now c.args.known c.passing.here c.args.interfaces.now.items c.passing.interfaces.items
    c.args.number c.passing.first c.in_ok-read_block.field-0 c.in-End.is c.passing.invariant.1
    (told g (goal.at.returns-in-End-clause-told g c).In_ok-read_block)

pub returns-in-End-clause-reads : goal.returns-in-End-clause-reads
returns-in-End-clause-reads g c = quiet_read g (goal.at.returns-in-End-clause-reads g c).In_ok-read_block _

pub returns-in-Packet-clause-front : goal.returns-in-Packet-clause-front
returns-in-Packet-clause-front g c = c.passing.invariant.1.front

pub returns-in-Packet-clause-told : goal.returns-in-Packet-clause-told
returns-in-Packet-clause-told g c =
    walk_found (g.I.Reading.readable c.args.files.now).held c.args.name.now c.args.known c.passing.here c.args.interfaces.now.items c.passing.interfaces.items
    c.args.number c.passing.first c.in-Packet.packet c.in_ok-read_block.field-0 c.in-Packet.is c.passing.invariant.1
    (told g (goal.at.returns-in-Packet-clause-told g c).In_ok-read_block)

pub returns-in-Packet-clause-stands : goal.returns-in-Packet-clause-stands
returns-in-Packet-clause-stands g c = (packet_behind g (goal.at.returns-in-Packet-clause-stands g c).In-Packet).0

pub returns-in-Packet-clause-there : goal.returns-in-Packet-clause-there
returns-in-Packet-clause-there g c = (packet_behind g (goal.at.returns-in-Packet-clause-there g c).In-Packet).1

pub returns-in-Packet-clause-sound : goal.returns-in-Packet-clause-sound
returns-in-Packet-clause-sound g c = record {
  forward = c.passing.invariant.1.from;
  link = c.passing.invariant.1.link;
  near = c.in_ok-read_block.ensures.near;
  within = c.passing.invariant.1.within;
  packet = subst (λ (b : Block). IsSound c.args.number b) c.in-Packet.is c.in_ok-read_block.ensures.sound;
  sound = c.passing.invariant.1.sound;
}

pub returns-in-Packet-clause-reads : goal.returns-in-Packet-clause-reads
returns-in-Packet-clause-reads g c = quiet_read g (goal.at.returns-in-Packet-clause-reads g c).In_ok-read_block _

pub keep-requires : goal.keep-requires
keep-requires g c = c.passing.invariant.1.within

pub returns-in-Err-clause-front : goal.returns-in-Err-clause-front
returns-in-Err-clause-front g c =
    front_kept c.args.interfaces.now.items c.passing.interfaces.items c.keep.new.interfaces.items c.passing.invariant.1.front c.keep.ensures.front

pub returns-in-Err-clause-reads : goal.returns-in-Err-clause-reads
returns-in-Err-clause-reads g c = quiet_read g (goal.at.returns-in-Err-clause-reads g c).In_ok-read_block _

pub passing-preserved : goal.passing-preserved
passing-preserved g c =
    let at = goal.at.passing-preserved g c in
    let sound : IsSound c.args.number (block.Passed c.in-Passed.passed) =
    subst (λ (b : Block). IsSound c.args.number b) c.in-Passed.is c.in_ok-read_block.ensures.sound in (
      all_read g at.In_ok-read_block,
      walk_passes (g.I.Reading.readable c.args.files.now).held c.args.name.now c.args.known c.passing.here c.behind_passed-here.result c.args.interfaces.now.items
          c.passing.interfaces.items c.keep.new.interfaces.items c.args.number c.passing.first c.in-Ok.first c.in-Passed.passed c.passing.invariant.1
          c.in_ok-read_block.field-0 c.in-Passed.is (told g at.In_ok-read_block) sound.2 c.behind_passed-here.ensures c.in-Ok.ensures.first c.keep.ensures.front
          c.in-Ok.ensures.section,
      behind_passed (g.I.Reading.readable c.passing.files).held (g.I.Reading.readable c.args.files.now).held c.args.name.now c.passing.here
          c.behind_passed-here.result c.read_block.new.window c.in_ok-read_block.field-0 c.in-Passed.passed (same g at.After-behind) c.in-Passed.is c.behind_passed-here.ensures
          c.in_ok-read_block.ensures.stands,
    )
