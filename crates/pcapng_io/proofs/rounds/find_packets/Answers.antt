-- What was taken ends the search, or it goes on with more bytes.
use Rattle.std.proofs.Common.{◌≡◌, ◌+◌, true, length, Ok, Some, refl, sym, subst, ◌∙◌, ap, arith}
use Rattle.aftr_io.specs.Outside.{Readable}
use Rattle.aftr_io.proofs.OutsideLemmas.{read_well, reads_then}
use Rattle.capture_io.specs.declared.rounds.Ending.TheVariants as end
use Rattle.capture_io.specs.Rounds.{is_cut}
use Rattle.pcapng_io.specs.declared.long_packets.Long.{Long}
use Rattle.pcapng_io.specs.declared.long_packets.Long.TheVariants as long
use Rattle.pcapng_io.specs.declared.pieces.Taken.{Taken}
use Rattle.pcapng_io.specs.Pieces.{EndsLong, IsLongTaken, LongReads}
use Rattle.pcapng_io.specs.Seen.{seen_by}
use Rattle.pcapng_io.proofs.LongRoundLemmas.{found_then, long_is, long_read, next_then, search_then}
use Rattle.pcapng_io.proofs.WindowLemmas.{IsUnfound, closer, cut_inside, failed_found, failed_reads, found_of, search_begins, search_more, taken_of, unfound}
use Rattle.std.proofs.lemmas.List.{length-drop}
use Rattle.pcapng_io.proofs.rounds.find_packets.Given.{Over}
use Rattle.pcapng_io.proofs.rounds.find_packets.Goals as goal
use Rattle.pcapng_io.proofs.rounds.find_packets.Goals.{After-pass, In_ok-taken-2}

-- nothing was found in the bytes that were there
none_found : (g : Over) (c : After-pass g) →
    IsUnfound (g.I.Reading.readable c.args.files.now).held c.args.name.now (seen_by c.args.search.from.known c.args.interfaces.now.items)
    (seen_by c.reads.here c.reads.interfaces.items) (seen_by c.in_ok-taken.taken.known c.take_blocks.new.interfaces.items) c.args.window.now.bytes
    c.reads.window c.pass.new.self c.args.search.from.number c.in_ok-taken.taken.used c.take_blocks.new.places.items
none_found g c =
    unfound c.take_blocks.new.places.items c.in_ok-taken.taken c.pass.new.self c.reads.invariant.search c.as_slice.ensures c.is_last.ensures
    c.in_ok-taken.ensures.taken c.in_ok-taken.ensures.ended c.in_ok-taken.ensures.unsaid c.in_ok-taken.ensures.within
    c.deref.ensures.value (c.is_done.ensures.unsaid c.if-is_done.false) c.pass.ensures.bytes c.pass.ensures.last

-- what a long block came to
long_taken : (g : Over) (c : In_ok-taken-2 g) → (it : Long) → c.in_ok-taken-2.field-0 ≡ it →
    IsLongTaken (g.I.Reading.readable c.reads.files).held c.args.name.now (seen_by c.in_ok-taken.taken.known c.take_blocks.new.interfaces.items)
    c.take_long.new.interfaces.items c.pass.new.self.bytes c.take_long.new.window c.take_long.new.places.items c.args.search.from.number
    c.args.search.most_bytes it
long_taken g c it is =
    long_is (g.I.Reading.readable c.reads.files).held c.args.name.now (seen_by c.in_ok-taken.taken.known c.take_blocks.new.interfaces.items)
    c.take_long.new.interfaces.items c.pass.new.self.bytes c.take_long.new.window c.take_long.new.places.items c.args.search.from.number
    c.args.search.most_bytes
    c.in_ok-taken-2.field-0 it is c.in_ok-taken-2.ensures.taken

-- and which read of it failed
long_was_read : (g : Over) (c : In_ok-taken-2 g) → (it : Long) → c.in_ok-taken-2.field-0 ≡ it →
    LongReads (Ok it) c.args.name.now (seen_by c.in_ok-taken.taken.known c.take_blocks.new.interfaces.items) c.take_long.new.interfaces.items
    c.pass.new.self.bytes (g.I.Reading.readable c.reads.files) (g.I.Reading.readable c.take_long.new.files)
long_was_read g c it is =
    long_read c.args.name.now (seen_by c.in_ok-taken.taken.known c.take_blocks.new.interfaces.items) c.take_long.new.interfaces.items
    c.pass.new.self.bytes (g.I.Reading.readable c.reads.files) (g.I.Reading.readable c.take_long.new.files) c.in_ok-taken-2.field-0 it is
    c.in_ok-taken-2.ensures.reads

pub reads-init : goal.reads-init
reads-init g c = record {
  readable = refl;
  search = search_begins (g.I.Reading.readable c.args.files.now).held c.args.name.now (seen_by c.args.search.from.known c.args.interfaces.now.items)
      c.args.window.now c.args.search.from.number c.requires.begins c.requires.sound;
  none = c.requires.none;
  room = c.requires.room;
}

pub returns-then-is_done-clause-told : goal.returns-then-is_done-clause-told
returns-then-is_done-clause-told g c =
    let old = seen_by c.args.search.from.known c.args.interfaces.now.items in
    let now = seen_by c.reads.here c.reads.interfaces.items in
    let taken = c.in_ok-taken.taken in
    let later = seen_by taken.known c.take_blocks.new.interfaces.items in
    let places = c.take_blocks.new.places.items in
    found_of (g.I.Reading.readable c.args.files.now).held c.args.name.now old now later c.args.window.now.bytes c.reads.window c.args.search.from.number
    c.args.search.most_bytes places taken c.reads.invariant.search
    (taken_of now later c.reads.window c.args.search.from.number c.args.search.most_bytes places taken c.as_slice.result.now c.is_last.result
    c.as_slice.ensures c.is_last.ensures c.in_ok-taken.ensures.taken c.in_ok-taken.ensures.ended c.in_ok-taken.ensures.unsaid c.in_ok-taken.ensures.within)

pub reads-preserved : goal.reads-preserved
reads-preserved g c =
    let old = seen_by c.args.search.from.known c.args.interfaces.now.items in
    let later = seen_by c.in_ok-taken.taken.known c.take_blocks.new.interfaces.items in
    let held = (g.I.Reading.readable c.args.files.now).held in
    let after = (g.I.Reading.readable c.reads.files).held in
    let same = ap (λ (o : Readable). o.held) c.reads.invariant.readable in
    let u = none_found g (goal.at.reads-preserved g c).After-pass in
    record {
      readable = read_well c.args.name.now _ _ _ c.in-Ok.ensures.reads ∙ c.reads.invariant.readable;
      search = search_more held after c.args.name.now old later c.args.window.now.bytes c.pass.new.self c.read_more.new.self c.args.search.from.number
          same u.search c.in-Ok.ensures.told;
      none = u.none;
      room = c.in_ok-taken.ensures.room;
    }

pub returns-in-Err-Failed-clause-told : goal.returns-in-Err-Failed-clause-told
returns-in-Err-Failed-clause-told g c =
    let old = seen_by c.args.search.from.known c.args.interfaces.now.items in
    let later = seen_by c.in_ok-taken.taken.known c.take_blocks.new.interfaces.items in
    let u = none_found g (goal.at.returns-in-Err-Failed-clause-told g c).After-pass in
    let cut : Taken = record { used = 0; known = c.in_ok-taken.taken.known; number = c.args.search.from.number; ending = Some end.ReadFault } in
    failed_found (g.I.Reading.readable c.args.files.now).held c.args.name.now old later c.args.window.now.bytes c.pass.new.self c.read_more.new.self
    c.args.search.from.number c.take_blocks.new.places.items cut u.none u.search (c.in-Err-Failed.ensures.kept refl) refl refl refl

pub returns-in-Err-Failed-clause-reads : goal.returns-in-Err-Failed-clause-reads
returns-in-Err-Failed-clause-reads g c =
    let old = seen_by c.args.search.from.known c.args.interfaces.now.items in
    let later = seen_by c.in_ok-taken.taken.known c.take_blocks.new.interfaces.items in
    let before = g.I.Reading.readable c.args.files.now in
    let now = g.I.Reading.readable c.reads.files in
    let after = g.I.Reading.readable c.read_more.new.files in
    let u = none_found g (goal.at.returns-in-Err-Failed-clause-reads g c).After-pass in
    reads_then true c.args.name.now _ _ before now after c.reads.invariant.readable
    (λ place is. cut_inside before.held c.args.name.now old later c.args.window.now.bytes c.pass.new.self c.args.search.from.number place u.search u.is_open is)
    (failed_reads (Unit {0}) c.args.name.now (λ place. place ≡ later.known.at + length c.pass.new.self.bytes) c.in-Err-Failed.field-0 now after
    c.in-Err-Failed.field-0-is c.in-Err-Failed.ensures.reads)

pub take_long-requires-clause-is_open : goal.take_long-requires-clause-is_open
take_long-requires-clause-is_open g c = (none_found g (goal.at.take_long-requires-clause-is_open g c).After-pass).is_open.said

pub returns-in-Taken-clause-told : goal.returns-in-Taken-clause-told
returns-in-Taken-clause-told g c =
    let old = seen_by c.args.search.from.known c.args.interfaces.now.items in
    let later = seen_by c.in_ok-taken.taken.known c.take_blocks.new.interfaces.items in
    let held = (g.I.Reading.readable c.args.files.now).held in
    let after = (g.I.Reading.readable c.reads.files).held in
    let same = ap (λ (o : Readable). o.held) c.reads.invariant.readable in
    let at = goal.at.returns-in-Taken-clause-told g c in
    let found = long_taken g at.In_ok-taken-2 (long.Taken c.in-Taken.taken) c.in-Taken.is in
    found_then held after c.args.name.now old later (seen_by c.in-Taken.taken.known c.take_long.new.interfaces.items) c.args.window.now.bytes c.pass.new.self
    c.args.search.from.number same (none_found g at.After-pass).search c.take_long.new.window.bytes c.take_long.new.places.items c.in-Taken.taken found.0

pub returns-in-Taken-clause-reads : goal.returns-in-Taken-clause-reads
returns-in-Taken-clause-reads g c =
    let old = seen_by c.args.search.from.known c.args.interfaces.now.items in
    let later = seen_by c.in_ok-taken.taken.known c.take_blocks.new.interfaces.items in
    let before = g.I.Reading.readable c.args.files.now in
    let now = g.I.Reading.readable c.reads.files in
    let same = ap (λ (o : Readable). o.held) c.reads.invariant.readable in
    let at = goal.at.returns-in-Taken-clause-reads g c in
    let final = seen_by c.in-Taken.taken.known c.take_long.new.interfaces.items in
    reads_then (is_cut c.in-Taken.taken.ending) c.args.name.now _ _ before now (g.I.Reading.readable c.take_long.new.files) c.reads.invariant.readable
    (λ place. next_then before.held now.held c.args.name.now old later final c.args.window.now.bytes c.pass.new.self c.args.search.from.number
    same (none_found g at.After-pass).search final c.in-Taken.taken.number place)
    (long_was_read g at.In_ok-taken-2 (long.Taken c.in-Taken.taken) c.in-Taken.is)

pub reads-preserved-then-as_slice-ge-MOST_KEPT : goal.reads-preserved-then-as_slice-ge-MOST_KEPT
reads-preserved-then-as_slice-ge-MOST_KEPT g c =
    let old = seen_by c.args.search.from.known c.args.interfaces.now.items in
    let later = seen_by c.in_ok-taken.taken.known c.take_blocks.new.interfaces.items in
    let held = (g.I.Reading.readable c.args.files.now).held in
    let after = (g.I.Reading.readable c.reads.files).held in
    let same = ap (λ (o : Readable). o.held) c.reads.invariant.readable in
    let at = goal.at.reads-preserved-then-as_slice-ge-MOST_KEPT g c in
    let found = long_taken g at.In_ok-taken-2 (long.Passed c.in-Passed.known) c.in-Passed.is in
    record {
      readable = read_well c.args.name.now _ _ _ (long_was_read g at.In_ok-taken-2 (long.Passed c.in-Passed.known) c.in-Passed.is) ∙ c.reads.invariant.readable;
      search = search_then held after c.args.name.now old later (seen_by c.in-Passed.known c.take_long.new.interfaces.items) c.args.window.now.bytes
          c.pass.new.self c.args.search.from.number same (none_found g at.After-pass).search c.take_long.new.window found.0;
      none = found.1;
      room = c.in_ok-taken-2.ensures.room;
    }

pub reads-smaller : goal.reads-smaller
reads-smaller g c =
    let used = c.in_ok-taken.taken.used in
    let left = length-drop used c.reads.window.bytes in
    let u = none_found g (goal.at.reads-smaller g c).After-pass in
    closer c.in_ok-taken.taken.known.at c.reads.here.at used (length c.reads.window.bytes) (length c.read_more.new.self.bytes) c.reads.window.last
    c.read_more.new.self.last u.at (omega (arith, u.inside)) u.inside
    (omega (arith, u.at, u.inside, u.is_open.near, u.is_open.short, ap length c.pass.ensures.bytes, left)) (sym c.pass.ensures.last ∙ u.is_open.more)
    (omega (arith, c.in-Ok.ensures.least, ap length c.pass.ensures.bytes, left))
    (λ e. omega (arith, c.in-Ok.ensures.longer e, ap length c.pass.ensures.bytes, left))

pub returns-in-Taken-clause-in_records : goal.returns-in-Taken-clause-in_records
returns-in-Taken-clause-in_records g c = let E : Long → Type 0 = EndsLong in subst E c.in-Taken.is c.in_ok-taken-2.ensures.in_records
