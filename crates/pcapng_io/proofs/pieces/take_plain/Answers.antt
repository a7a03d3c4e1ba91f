-- One packet more.
use Rattle.std.proofs.Common.{◌≡◌, ◌+◌, ◌-◌, ◌^◌, ◌<◌, ◌≤◌, Bool, false, refl, ap, drop, length, sym, ◌∙◌, arith}
use Rattle.std.proofs.lemmas.Bool.Decides.{nat_tests}
use Rattle.capture_io.proofs.LawLemmas.{length_more}
use Rattle.pcapng_io.specs.declared.fronts.Front.TheVariants as front
use Rattle.pcapng_io.specs.Fronts.{front_in}
use Rattle.pcapng_io.specs.Seen.{seen_by}
use Rattle.pcapng_io.specs.Pieces.{last_place, place_of}
use Rattle.pcapng_io.proofs.PieceLemmas.{front_of_rest, known_by, number_further, packet_fits, place_within, taken_behind, taken_further, taken_timed}
use Rattle.pcapng_io.proofs.pieces.take_plain.Goals as goal

pub packets-preserved : goal.packets-preserved
packets-preserved c =
    let piece = c.args.piece.now in
    let used = c.packets.used in
    let begun = c.args.before.used in
    let before = c.args.before.known in
    let initial = c.args.places.now.items in
    let places = c.packets.places.items in
    let known = known_by before (used - begun) places in
    let next = number_further c.args.before.number initial places in
    let p = c.in-Some.packet in
    let some : 0 < c.most_places-most.result = grind (arith, nat_tests) in
    let near : before.at + (length piece - begun) ≤ 2 ^ 62 = omega (arith, c.most_places-most.ensures.near some) in
    let more : length places < c.most_places-most.result = grind (arith, nat_tests) in
    let numbered : next < 2 ^ 31 = omega (arith, more, c.most_places-most.ensures.numbered, c.len-begun.ensures, c.packets.invariant.grown, c.requires.number) in
    let at : known.at ≤ 2 ^ 62 = omega (arith, near, c.packets.invariant.inside) in
    let sound = c.in-Some.ensures.sound next numbered in
    let said : (last : Bool) → front_in (seen_by known c.args.interfaces.now) (drop used piece) last next ≡ front.Packet p =
    λ last. front_of_rest (seen_by known c.args.interfaces.now) piece last used next (front.Packet p) (sym (c.in-Some.ensures.says known next last refl at numbered)) in
    let fits : used + p.total ≤ length piece = packet_fits (seen_by known c.args.interfaces.now) piece false used next p c.packets.invariant.inside (said false) in
    let place : c.place_of.result ≡ place_of p used (before.at + (used - begun)) = c.place_of.ensures ∙ ap (place_of p used) c.place_behind.ensures in
    let few : length places < 16384 = omega (arith, more, c.most_places-most.ensures.few) in
    let longer : length c.push_reserved.new.self.items ≡ length places + 1 = ap length c.push_reserved.ensures.items ∙ length_more places c.place_of.result in
    record {
      taken = λ old last number t.
          taken_timed old before c.args.interfaces.now piece last number c.args.most_bytes places c.push_reserved.new.self.items
          (used + p.total - begun) (used + p.total) used (before.at + (used - begun)) (number_further c.args.before.number initial c.push_reserved.new.self.items) (c.packets.bytes + p.count) p
          c.place_of.result c.push_reserved.ensures.items place
          (taken_further old before c.args.interfaces.now piece last number c.args.most_bytes initial places c.push_reserved.new.self.items
          begun used c.args.before.number c.packets.bytes (last_place places).seconds (last_place places).fraction p c.place_of.result c.packets.invariant.forward c.packets.invariant.grown
          (c.packets.invariant.taken old last number t) sound (said last) c.push_reserved.ensures.items place few (grind (arith, nat_tests)));
      within = λ each. place_within piece p used (before.at + (used - begun)) places c.push_reserved.new.self.items c.place_of.result c.push_reserved.ensures.items place fits
          sound.inside (c.packets.invariant.within each);
      inside = fits;
      forward = omega (arith, c.packets.invariant.forward);
      grown = omega (arith, longer, c.packets.invariant.grown);
      few = omega (arith, longer, numbered, c.packets.invariant.grown);
      near = omega (arith, near, fits);
      room = omega (arith, c.push_reserved.ensures.capacity, c.packets.invariant.room);
    }

pub returns-clause-taken : goal.returns-clause-taken
returns-clause-taken c = λ old last number t.
    let next = number_further c.args.before.number c.args.places.now.items c.packets.places.items in
    taken_behind old c.args.before.known c.args.interfaces.now c.args.piece.now last number c.args.most_bytes c.packets.places.items
    c.packets.used (c.packets.used - c.args.before.used) c.place_behind-2.result next (c.args.before.number + (c.len-2.result - c.len-begun.result)) c.packets.bytes c.last_of-last.result
    c.place_behind-2.ensures (omega (arith, c.len-2.ensures, c.len-begun.ensures)) (c.last_of-last.ensures ∙ ap last_place c.deref.ensures.value)
    (c.packets.invariant.taken old last number t)
