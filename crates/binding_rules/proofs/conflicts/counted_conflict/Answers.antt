use Rattle.std.proofs.Common.{◌≡◌, ◌+◌, ◌*◌, ◌≤◌, Option, ℕ, Some, length, subst, sym, ap, ◌∙◌, arith}
use Rattle.std.specs.Ordering.{nat_cmp}
use Rattle.std.specs.BTreeMap.{get}
use Rattle.std.proofs.lemmas.Option.{none-some}
use Rattle.std.proofs.lemmas.List.{with_items_is}
use Rattle.binding_rules.specs.Scans.{IsNearest}
use Rattle.binding_rules.proofs.Gone.{AreGone, last_of, fresh_for, gone_names, gone_later, gone_best, same_best, none_gone, all_gone, option_is, option_is_not}
use Rattle.binding_rules.specs.Steps.{count_of}
use Rattle.binding_rules.proofs.Counts.{allowed, allowed_first, allowed_last, allowed_other, cut_at}
use Rattle.binding_rules.proofs.Links.{read, read_is}
use Rattle.binding_rules.proofs.conflicts.counted_conflict.Goals as goal
use Rattle.binding_rules.proofs.conflicts.counted_conflict.Goals.{then-eq, else-eq}

pub places-init : goal.places-init
places-init g c = record {
  size = c.in_ok-owners.ensures.size;
  names = λ key n l e. absurd (none-some n (sym (c.in_ok-owners.ensures.none key l) ∙ e));
  first = none_gone _ _;
  cost = omega (arith, allowed_first c.args.bindings.now);
}

pub address_pair-found-requires-clause-last : goal.address_pair-found-requires-clause-last
address_pair-found-requires-clause-last g c =
    let bs = c.args.bindings.now in
    let a = (read bs c.places.place).v4.0 in
    let found : get nat_cmp c.in_ok-chains.chains.last a ≡ Some c.places.place =
    sym c.get.ensures.value ∙ (sym c.copied.ensures ∙ option_is c.copied.result c.places.place (sym c.eq.ensures ∙ c.if-eq.true)) in
    last_of bs a c.places.place (subst (λ (o : Option ℕ). IsNearest bs a (length bs) o) found (c.in_ok-chains.ensures.ends a))

pub address_pair-found-requires-clause-fresh : goal.address_pair-found-requires-clause-fresh
address_pair-found-requires-clause-fresh g c =
    let bs = c.args.bindings.now in
    rw c.deref_mut.ensures.value (fresh_for bs c.places.place _ c.places.owners.items (read_is bs c.places.place c.places-test.true) c.places.invariant.names)

pub places-preserved : goal.places-preserved
places-preserved g c =
    let bs = c.args.bindings.now in
    let i = c.places.place in
    let there = read_is bs i c.places-test.true in
    let a = (read bs i).v4.0 in
    let nearest = c.in_ok-chains.ensures.ends a in
    elim c.if-eq.branch [
      | then-eq w ↦ (let found : get nat_cmp c.in_ok-chains.chains.last a ≡ Some i =
          sym c.get.ensures.value ∙ (sym c.copied.ensures ∙ option_is c.copied.result i (sym c.eq.ensures ∙ w.if-eq.true)) in
          let last = last_of bs a i (subst (λ (o : Option ℕ). IsNearest bs a (length bs) o) found nearest) in
          let names = subst (AreGone bs i) (sym w.deref_mut.ensures.value) c.places.invariant.names in
          let after = w.address_pair-found.new.owners in
          let items : c.if-eq.owners.items ≡ after =
          ap (λ v. v.items) w.owners-is ∙ with_items_is c.places.owners after (w.address_pair-found.auto.owners ∙ w.deref_mut.ensures.len) in
          record {
            size = rw items (w.address_pair-found.auto.owners ∙ ap length w.deref_mut.ensures.value ∙ c.places.invariant.size);
            cost = (let paid : allowed bs (i + 1) + (400000 + 10 * count_of a bs) ≤ allowed bs i = allowed_last bs i (read bs i) (cut_at bs i c.places-test.true) last in
                omega (arith, paid, w.steps-is, w.address_pair-found.ensures.cost, c.places.invariant.cost));
            names = rw items (gone_names bs a i w.deref_mut.result.now after last names w.address_pair-found.ensures.owners);
            first = rw (w.best-is, w.earlier-best.ensures)
                (gone_best bs c.args.edition i (read bs i) c.places.best w.address_pair-found.result there last c.places.invariant.first w.address_pair-found.ensures.first);
          })
      | else-eq w ↦ (let not_last : get nat_cmp c.in_ok-chains.chains.last a ≡ Some i → ⊥ =
          (λ e. option_is_not c.copied.result i (sym c.eq.ensures ∙ w.if-eq.false) (c.copied.ensures ∙ c.get.ensures.value ∙ e)) in
          record {
            size = rw w.owners-is c.places.invariant.size;
            cost = omega (arith, w.steps-is, c.places.invariant.cost, allowed_other bs i (read bs i) (cut_at bs i c.places-test.true));
            names = rw w.owners-is (λ key n l e. gone_later bs i n (c.places.invariant.names key n l e));
            first = rw w.best-is (same_best bs c.args.edition i (read bs i) _ c.places.best there nearest not_last c.places.invariant.first);
          })
    ]

pub returns-clause-first : goal.returns-clause-first
returns-clause-first g c = all_gone _ _ c.places.place c.places.best c.places-test.false c.places.invariant.first
