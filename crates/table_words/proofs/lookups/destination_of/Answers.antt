use Rattle.std.proofs.Common.{true, false, None, ℕ, ◌+◌, ◌-◌, ◌*◌, ◌/◌, List, subst, sym, ◌∙◌, arith}
use Rattle.std.specs.Prelude.{IfNone, IfSome, Option}
use Rattle.aftr_base.specs.declared.numbers.V6.{V6}
use Rattle.table_words.specs.Spans.{mark_of, IsEntryRange, IsHere, IsSpot, HasNoSpot, IsTunnelOfOwner, HasNoOwner, AreAlike, AreMarked}
use Rattle.table_words.specs.Spent.{IsBounded}
use Rattle.table_words.specs.Tried.{IsOwnerBounded}
use Rattle.table_words.proofs.Addresses.{address_told}
use Rattle.table_words.proofs.Alike.{span_part}
use Rattle.table_words.proofs.Halving.{reads_on}
use Rattle.table_words.proofs.Spots.{none_told, none_owns, none_bounded, spot_here, spot_told, near_alike, near_marked, near_owner, near_bounded}
use Rattle.table_words.proofs.Trying.{owner_is}
use Rattle.table_words.proofs.lookups.destination_of.Given.{Over}
use Rattle.table_words.proofs.lookups.destination_of.Goals as goal
use Rattle.table_words.proofs.lookups.destination_of.Goals.{In-Some, In_default}

none_is : (g : Over) (c : In_default g) →
    HasNoSpot (g.W.Words.list c.args.words.now) c.group_of-group.result.from c.group_of-group.result.to (c.args.v4.0 * 4294967296) (c.args.v4.0 * 4294967296 + 4294967295)
none_is g c =
    subst (λ (ws : List ℕ). HasNoSpot ws c.group_of-group.result.from c.group_of-group.result.to (c.args.v4.0 * 4294967296)
    (c.args.v4.0 * 4294967296 + 4294967295)) c.group_of-group.ensures.list c.in_default.ensures.none

spot_is : (g : Over) (c : In-Some g) →
    IsSpot (g.W.Words.list c.args.words.now) c.group_of-group.result.from c.group_of-group.result.to (c.args.v4.0 * 4294967296) (c.args.v4.0 * 4294967296 + 4294967295)
    c.in-Some.spot.low c.in-Some.spot.high c.in-Some.spot.at c.in-Some.spot.first
spot_is g c =
    subst (λ (ws : List ℕ). IsSpot ws c.group_of-group.result.from c.group_of-group.result.to (c.args.v4.0 * 4294967296)
    (c.args.v4.0 * 4294967296 + 4294967295) c.in-Some.spot.low c.in-Some.spot.high c.in-Some.spot.at c.in-Some.spot.first)
    c.group_of-group.ensures.list c.in-Some.ensures.spot

pub returns-in_default-clause-address : goal.returns-in_default-clause-address
returns-in_default-clause-address g c = λ t h.
    address_told t (g.W.Words.list c.args.words.now) c.args.v4 _ _ (c.group_of-group.ensures.group t h) false
    (none_told _ c.args.v4.0 _ _ (none_is g (goal.at.returns-in_default-clause-address g c).In_default))

pub returns-in_default-clause-owner : goal.returns-in_default-clause-owner
returns-in_default-clause-owner g c = λ t h.
    owner_is t (g.W.Words.list c.args.words.now) h.lawful c.args.v4 c.args.want _ _ (c.group_of-group.ensures.group t h) None tt
    (none_owns _ c.args.v4.0 _ _ (none_is g (goal.at.returns-in_default-clause-owner g c).In_default) c.args.want)

pub returns-in_default-clause-bounds : goal.returns-in_default-clause-bounds
returns-in_default-clause-bounds g c =
    let grouped = c.group_of-group.ensures in
    none_bounded (g.W.Words.list c.args.words.now) c.args.v4.0 c.group_of-group.result.from c.group_of-group.result.to _ _ grouped.group
    (λ d small. omega (arith, c.spot_of_address.ensures.cost d small, grouped.steps))

pub returns-in_default-clause-reads : goal.returns-in_default-clause-reads
returns-in_default-clause-reads g c =
    let grouped = c.group_of-group.ensures in
    reads_on _ _ _ 2 _ _ (omega (arith, grouped.steps, c.spot_of_address.ensures.later)) grouped.reads c.spot_of_address.ensures.reads

pub returns-in_default-clause-goes : goal.returns-in_default-clause-goes
returns-in_default-clause-goes g c = g.met.W.Words.goes_on _ _ _ c.group_of-group.ensures.goes c.spot_of_address.ensures.goes

pub owner_near-owner-requires-clause-span : goal.owner_near-owner-requires-clause-span
owner_near-owner-requires-clause-span g c =
    let s = c.in-Some.spot in
    let grouped = c.group_of-group.ensures in
    let spot = c.in-Some.ensures.spot in
    subst (λ (ws : List ℕ). IsEntryRange ws s.low s.high) (sym (c.spot_of_address.ensures.list ∙ grouped.list))
    (span_part _ c.group_of-group.result.from c.group_of-group.result.to _ _ grouped.span (omega (arith, spot.low_on, spot.before_high)) spot.up_to)

pub owner_near-owner-requires-clause-here : goal.owner_near-owner-requires-clause-here
owner_near-owner-requires-clause-here g c =
    let s = c.in-Some.spot in
    subst (λ (ws : List ℕ). IsHere ws s.low s.high s.at s.first) (sym c.spot_of_address.ensures.list)
    (spot_here _ c.args.v4 _ _ _ _ _ _ c.in-Some.ensures.spot)

pub owner_near-owner-requires-clause-alike : goal.owner_near-owner-requires-clause-alike
owner_near-owner-requires-clause-alike g c = λ zero.
    let s = c.in-Some.spot in
    let grouped = c.group_of-group.ensures in
    let h = c.requires.of_table in
    subst (λ (ws : List ℕ). AreAlike ws s.low s.high (s.first / 4294967296)) (sym (c.spot_of_address.ensures.list ∙ grouped.list))
    (near_alike _ c.args.v4 _ _ _ _ _ _ (spot_is g (goal.at.owner_near-owner-requires-clause-alike g c).In-Some) c.requires.table
    (grouped.group c.requires.table h) h.lawful zero)

pub owner_near-owner-requires-clause-marked : goal.owner_near-owner-requires-clause-marked
owner_near-owner-requires-clause-marked g c = λ one.
    let s = c.in-Some.spot in
    let grouped = c.group_of-group.ensures in
    subst (λ (ws : List ℕ). AreMarked ws s.low s.high (s.first / 4294967296)) (sym (c.spot_of_address.ensures.list ∙ grouped.list))
    (near_marked _ c.args.v4 _ _ _ _ _ _ (spot_is g (goal.at.owner_near-owner-requires-clause-marked g c).In-Some) c.requires.table
    (grouped.group c.requires.table c.requires.of_table) one)

pub returns-clause-address : goal.returns-clause-address
returns-clause-address g c = λ t h.
    c.of_owner.ensures.bound ∙ address_told t (g.W.Words.list c.args.words.now) c.args.v4 _ _ (c.group_of-group.ensures.group t h) true
    (spot_told _ c.args.v4 _ _ _ _ _ _ (spot_is g (goal.at.returns-clause-address g c).In-Some))

pub returns-clause-owner : goal.returns-clause-owner
returns-clause-owner g c = λ t h.
    let s = c.in-Some.spot in
    let list = c.spot_of_address.ensures.list ∙ c.group_of-group.ensures.list in
    let o = c.owner_near-owner.result in
    c.of_owner.ensures.tunnel
    ∙ near_owner (g.W.Words.list c.args.words.now) c.args.v4 _ _ _ _ _ _ (spot_is g (goal.at.returns-clause-owner g c).In-Some) t
    (c.group_of-group.ensures.group t h) h.lawful c.args.want o
    (subst (λ (ws : List ℕ). IfSome o (λ b4. IsTunnelOfOwner ws s.low s.high (s.first / 4294967296) c.args.want b4.0)) list c.owner_near-owner.ensures.owner)
    (subst (λ (ws : List ℕ). IfNone o (HasNoOwner ws s.low s.high (s.first / 4294967296) c.args.want)) list c.owner_near-owner.ensures.none)

pub returns-clause-bounds : goal.returns-clause-bounds
returns-clause-bounds g c =
    let words = g.W.Words.list c.args.words.now in
    let s = c.in-Some.spot in
    let grouped = c.group_of-group.ensures in
    let list = c.spot_of_address.ensures.list ∙ grouped.list in
    let o = c.owner_near-owner.result in
    subst (λ (end : Option V6). IsBounded words end c.args.steps.now c.owner_near-owner.new.steps) (sym c.of_owner.ensures.tunnel)
    (near_bounded words c.args.v4 _ _ _ _ _ _ (spot_is g (goal.at.returns-clause-bounds g c).In-Some) grouped.group o c.args.steps.now
    c.group_of-group.new.steps c.spot_of_address.new.steps c.owner_near-owner.new.steps grouped.steps c.spot_of_address.ensures.later c.in-Some.ensures.left
    (subst (λ (ws : List ℕ). IsOwnerBounded ws s.low s.high (mark_of s.first) o c.spot_of_address.new.steps c.owner_near-owner.new.steps) list
    c.owner_near-owner.ensures.bound))

pub returns-clause-reads : goal.returns-clause-reads
returns-clause-reads g c =
    let grouped = c.group_of-group.ensures in
    reads_on _ _ _ (c.spot_of_address.new.steps - c.args.steps.now) _ _
    (omega (arith, grouped.steps, c.spot_of_address.ensures.later, c.owner_near-owner.ensures.later))
    (reads_on _ _ _ 2 _ _ (omega (arith, grouped.steps, c.spot_of_address.ensures.later)) grouped.reads c.spot_of_address.ensures.reads)
    c.owner_near-owner.ensures.reads

pub returns-clause-goes : goal.returns-clause-goes
returns-clause-goes g c =
    let on = g.met.W.Words.goes_on in
    on _ _ _ (on _ _ _ c.group_of-group.ensures.goes c.spot_of_address.ensures.goes) c.owner_near-owner.ensures.goes
