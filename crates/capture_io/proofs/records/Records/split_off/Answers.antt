use Rattle.std.proofs.Common.{rules}
use Rattle.capture_io.proofs.PlaceLemmas.{behind, placed_first, placed_rest, within_rest}
use Rattle.capture_io.proofs.records.Records.split_off.Goals as goal

pub invariant_of-result : goal.invariant_of-result
invariant_of-result c =
    within_rest c.self.inside.buffer.items c.extend_from_slice.new.self.items c.self.inside.places.items c.extend_from_slice-2.new.self.items c.args.count
    (search rules)
    (behind c.clear-2.new.self.items c.extend_from_slice-2.new.self.items c.deref-2.result.now c.self.inside.places.items c.args.count
    c.clear-2.ensures.items c.in_ok-extend_from_slice-2.ensures.items c.deref-2.ensures.value)
    c.self.invariant

pub returns-clause-front : goal.returns-clause-front
returns-clause-front c =
    placed_first c.self.inside.buffer.items c.self.inside.places.items c.truncate.new.self.items c.args.self.now c.args.count c.self.view_is (search rules)

pub returns-clause-rest : goal.returns-clause-rest
returns-clause-rest c =
    placed_rest c.self.inside.buffer.items c.extend_from_slice.new.self.items c.self.inside.places.items c.extend_from_slice-2.new.self.items c.args.self.now
    c.args.count c.self.view_is (search rules)
    (behind c.clear-2.new.self.items c.extend_from_slice-2.new.self.items c.deref-2.result.now c.self.inside.places.items c.args.count
    c.clear-2.ensures.items c.in_ok-extend_from_slice-2.ensures.items c.deref-2.ensures.value)
