use Rattle.std.proofs.Common.{◌≡◌, subst, sym, ap, ◌∙◌, arith}
use Rattle.binding_rules.specs.Scans.{IsLast, IsLeastUnlike, IsAtAddress}
use Rattle.binding_rules.specs.Steps.{count_of}
use Rattle.binding_rules.proofs.Links.{of_within, at_address_of, read, read_is}
use Rattle.binding_rules.proofs.Keys.{two_by_port, two_by_none, unlike_first, one_by_identifier}
use Rattle.binding_rules.proofs.conflicts.address_pair.Goals as goal

pub bounds-bindings-head : goal.bounds-bindings-head
bounds-bindings-head g c = of_within _ c.args.v4.0 _ (c.head_of-head.ensures.head c.args.v4.0 c.requires.last.here).0

pub least_unlike-unlike-requires-clause-last : goal.least_unlike-unlike-requires-clause-last
least_unlike-unlike-requires-clause-last g c =
    let bs = c.args.bindings.now in
    let head = (c.head_of-head.ensures.head c.args.v4.0 c.requires.last.here).0 in
    let there = read_is bs c.head_of-head.result (of_within bs c.args.v4.0 _ head) in
    subst (λ v. IsLast bs v c.args.last) (sym (at_address_of bs c.args.v4.0 _ _ there head)) c.requires.last

pub bounds-bindings-last : goal.bounds-bindings-last
bounds-bindings-last g c = of_within _ c.args.v4.0 _ c.requires.last.here

pub least_unlike-unlike-requires-in-Two-clause-last : goal.least_unlike-unlike-requires-in-Two-clause-last
least_unlike-unlike-requires-in-Two-clause-last g c =
    let bs = c.args.bindings.now in
    let there = read_is bs c.args.last (of_within bs c.args.v4.0 _ c.requires.last.here) in
    subst (λ v. IsLast bs v c.args.last) (sym (at_address_of bs c.args.v4.0 _ _ there c.requires.last.here)) c.requires.last

pub returns-in-One-clause-first : goal.returns-in-One-clause-first
returns-in-One-clause-first g c =
    let bs = c.args.bindings.now in
    let first = c.head_of-head.ensures.head c.args.v4.0 c.requires.last.here in
    let head = read bs c.head_of-head.result in
    let there = read_is bs c.head_of-head.result (of_within bs c.args.v4.0 _ first.0) in
    let least = subst (λ v. IsLeastUnlike bs v head c.least_unlike-unlike.result) (at_address_of bs c.args.v4.0 _ head there first.0) c.least_unlike-unlike.ensures.least in
    rw (c.in-One.is, c.earlier.ensures, c.pair_of.ensures)
    (one_by_identifier bs c.args.v4.0 _ c.shared_pair-shared.result c.requires.well
    (unlike_first bs c.args.v4.0 c.head_of-head.result head c.least_unlike-unlike.result first there least) c.shared_pair-shared.ensures.first)

pub returns-then-is_none-clause-first : goal.returns-then-is_none-clause-first
returns-then-is_none-clause-first g c =
    let bs = c.args.bindings.now in
    let like = read bs c.args.last in
    let there = read_is bs c.args.last (of_within bs c.args.v4.0 _ c.requires.last.here) in
    let least = subst (λ v. IsLeastUnlike bs v like c.least_unlike-unlike-in-Two.result) (at_address_of bs c.args.v4.0 _ like there c.requires.last.here) c.least_unlike-unlike-in-Two.ensures.least in
    rw c.in-Two.is
    (two_by_none bs c.args.v4.0 like c.least_unlike-unlike-in-Two.result c.shared_pair.result c.requires.well
    c.if-is_none.ensures least c.shared_pair.ensures.first)

pub compared_pair-requires-clause-few : goal.compared_pair-requires-clause-few
compared_pair-requires-clause-few g c = sym c.has_at_most.ensures.few ∙ c.if-has_at_most.true

pub returns-then-has_at_most-clause-first : goal.returns-then-has_at_most-clause-first
returns-then-has_at_most-clause-first g c =
    rw c.in-Two.is (two_by_port c.args.bindings.now (IsAtAddress c.args.bindings.now c.args.v4.0) c.compared_pair.result c.compared_pair.ensures.first)

pub risen_pair-requires-clause-head : goal.risen_pair-requires-clause-head
risen_pair-requires-clause-head g c = c.head_of-head-else-has_at_most.ensures.head c.args.v4.0 c.requires.last.here

pub returns-else-has_at_most-clause-first : goal.returns-else-has_at_most-clause-first
returns-else-has_at_most-clause-first g c =
    rw c.in-Two.is (two_by_port c.args.bindings.now (IsAtAddress c.args.bindings.now c.args.v4.0) c.risen_pair.result c.risen_pair.ensures.first)

pub returns-in-One-clause-cost : goal.returns-in-One-clause-cost
returns-in-One-clause-cost g c =
    let bs = c.args.bindings.now in
    let a = c.args.v4.0 in
    let head = c.head_of-head.result in
    let first = (c.head_of-head.ensures.head a c.requires.last.here).0 in
    let same : count_of (read bs head).v4.0 bs ≡ count_of a bs = ap (λ v. count_of v bs) (at_address_of bs a head (read bs head) (read_is bs head (of_within bs a head first)) first) in
    omega (arith, same, c.shared_pair-shared.ensures.cost, c.head_of-head.ensures.cost a c.requires.last.here, c.least_unlike-unlike.ensures.cost)

pub returns-then-is_none-clause-cost : goal.returns-then-is_none-clause-cost
returns-then-is_none-clause-cost g c =
    let bs = c.args.bindings.now in
    let a = c.args.v4.0 in
    let same : count_of (read bs c.args.last).v4.0 bs ≡ count_of a bs =
    ap (λ v. count_of v bs) (at_address_of bs a c.args.last (read bs c.args.last) (read_is bs c.args.last (of_within bs a c.args.last c.requires.last.here)) c.requires.last.here) in
    omega (arith, same, c.least_unlike-unlike-in-Two.ensures.cost, c.shared_pair.ensures.cost)

pub returns-then-has_at_most-clause-cost : goal.returns-then-has_at_most-clause-cost
returns-then-has_at_most-clause-cost g c =
    let bs = c.args.bindings.now in
    let a = c.args.v4.0 in
    let same : count_of (read bs c.args.last).v4.0 bs ≡ count_of a bs =
    ap (λ v. count_of v bs) (at_address_of bs a c.args.last (read bs c.args.last) (read_is bs c.args.last (of_within bs a c.args.last c.requires.last.here)) c.requires.last.here) in
    omega (arith, same, c.least_unlike-unlike-in-Two.ensures.cost, c.has_at_most.ensures.cost, c.compared_pair.ensures.cost)

pub returns-else-has_at_most-clause-cost : goal.returns-else-has_at_most-clause-cost
returns-else-has_at_most-clause-cost g c =
    let bs = c.args.bindings.now in
    let a = c.args.v4.0 in
    let same : count_of (read bs c.args.last).v4.0 bs ≡ count_of a bs =
    ap (λ v. count_of v bs) (at_address_of bs a c.args.last (read bs c.args.last) (read_is bs c.args.last (of_within bs a c.args.last c.requires.last.here)) c.requires.last.here) in
    omega (arith, same, c.least_unlike-unlike-in-Two.ensures.cost, c.has_at_most.ensures.cost, c.head_of-head-else-has_at_most.ensures.cost a c.requires.last.here, c.risen_pair.ensures.cost)
