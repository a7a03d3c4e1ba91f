use Rattle.std.proofs.Common.{◌≡◌, ◌+◌, List, ℕ, [], ◌∷◌, ◌++◌, subst, sym, ap, ◌∙◌, arith}
use Rattle.area_swap.proofs.ChangeLemmas.{UpTo, block_alike, block_differs}
use Rattle.area_swap.proofs.changes.Changes.of.Goals as goal
use Rattle.area_swap.proofs.changes.Changes.of.Goals.{then-differs+in_ok-push, else-differs}

pub listing-preserved : goal.listing-preserved
listing-preserved c =
    let standing = c.args.standing.now in
    let next = c.args.next.now in
    let P : List ℕ → Type 0 = λ blocks. UpTo standing next (c.listing.block + 1) blocks in
    elim c.if-differs.branch [
      | then-differs+in_ok-push w ↦ (let items : c.if-differs.blocks.items ≡ c.listing.blocks.items ++ c.listing.block ∷ [] =
          ap (λ v. v.items) w.blocks-is ∙ w.in_ok-push.ensures.items in
          record { changes = subst P (sym items) (block_differs standing next c.listing.block c.listing.blocks.items (omega arith) c.listing.invariant.changes) })
      | else-differs w ↦ (let items : c.if-differs.blocks.items ≡ c.listing.blocks.items = ap (λ v. v.items) w.blocks-is in
          record {
            changes = subst P (sym items)
                (block_alike standing next c.listing.block c.listing.blocks.items (omega arith) (c.differs.ensures w.if-differs.false) c.listing.invariant.changes);
          })
    ]
