use Rattle.std.proofs.Common.{◌/◌, ◌%◌, ◌*◌, ◌++◌, ℕ, List, ◌∙◌, ap}
use Rattle.traffic_gen.proofs.Fronts.{head_before}
use Rattle.traffic_gen.proofs.packets.push_head.Goals as goal

pub returns : goal.returns
returns c packet len =
    head_before c.args.list.now.items c.extend_from_slice.new.self.items c.extend_from_slice-2.new.self.items c.extend_from_slice-3.new.self.items c.extend_from_slice-4.new.self.items packet
    (c.args.number / 1000) (c.args.number % 1000 * 1000) c.args.len
    (c.in_ok-extend_from_slice.ensures.items ∙ ap (λ (l : List ℕ). c.args.list.now.items ++ l) c.to_le_bytes.ensures)
    (c.in_ok-extend_from_slice-2.ensures.items ∙ ap (λ (l : List ℕ). c.extend_from_slice.new.self.items ++ l) c.to_le_bytes-2.ensures)
    (c.in_ok-extend_from_slice-3.ensures.items ∙ ap (λ (l : List ℕ). c.extend_from_slice-2.new.self.items ++ l) c.to_le_bytes-3.ensures)
    (c.in_ok-extend_from_slice-4.ensures.items ∙ ap (λ (l : List ℕ). c.extend_from_slice-3.new.self.items ++ l) c.to_le_bytes-4.ensures)
    len
