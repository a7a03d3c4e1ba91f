use Rattle.std.proofs.Common.{◌≡◌, ℕ, ◌+◌, ◌^◌, ◌≤◌, ◌<◌, false, List, length, insert, ap, sym, ◌∙◌, subst, arith}
use Rattle.std.proofs.lemmas.List.Sums.{sum_by-insert}
use Rattle.std.specs.List.{list_any}
use Rattle.reassembly_lane.specs.declared.parts.Part.{Part}
use Rattle.reassembly_lane.specs.Lanes.{part_of}
use Rattle.reassembly_lane.specs.Parts.{clash, past}
use Rattle.reassembly_lane.specs.Sound.{IsPlace, IsSound, IsSoundPart, total_size}
use Rattle.reassembly_lane.proofs.Covers.{size_small}
use Rattle.reassembly_lane.proofs.Order.{with_one_sound}
use Rattle.reassembly_lane.proofs.context.Context.keep.Goals as goal

sum_small : (items : List Part) (part : Part) (size : ℕ) → IsSound items → IsSoundPart part → size ≡ total_size items → size + length part.body < 2 ^ 32
sum_small items part size s q e =
    let a : total_size items ≤ 65535 = size_small items s in
    let b : past part ≤ 65535 = q.short in
    omega arith

kept : (items old grown : List Part) (part new : Part) (place size : ℕ) → items ≡ old → new ≡ part → grown ≡ insert items place new → IsSound items → size ≡ total_size items → IsSoundPart part → IsPlace old part.offset place → list_any (clash part) old ≡ false → IsSound grown × (size + length part.body ≡ total_size grown)
kept items old grown part new place size same is g s n q p e =
    let p' : IsPlace items part.offset place = subst (λ (l : List Part). IsPlace l part.offset place) (sym same) p in
    let e' : list_any (clash part) items ≡ false = ap (list_any (clash part)) same ∙ e in
    let g' : grown ≡ insert items place part = g ∙ ap (insert items place) is in (
      subst IsSound (sym g') (with_one_sound items part place s q p' e'),
      ap (λ (x : ℕ). x + length part.body) n ∙ sym (ap total_size g' ∙ sum_by-insert (λ p. length p.body) items place part),
    )

pub overflow_add-size : goal.overflow_add-size
overflow_add-size c =
    let small : c.self.inside.size + length c.args.fragment.body.now < 2 ^ 32 = sum_small c.self.inside.parts.items (part_of c.args.fragment) c.self.inside.size c.self.invariant.0 c.requires.part c.self.invariant.1 in
    omega arith

pub invariant_of-self-2 : goal.invariant_of-self-2
invariant_of-self-2 c = kept c.self.inside.parts.items c.args.self.now.parts c.insert.new.self.items (part_of c.args.fragment) c.in_ok-part.part c.args.place c.self.inside.size (ap (λ p. p.parts) c.self.view_is) c.in_ok-part.ensures c.in_ok-insert.ensures.items c.self.invariant.0 c.self.invariant.1 c.requires.part c.requires.place c.requires.apart
