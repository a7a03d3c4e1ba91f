-- What the steps of the test give. No public contract cites these. Below, a is an address as a number, a place is that of
-- a binding in the list, and a key is a port or an identifier.
use Rattle.std.specs.Prelude.{◌≡◌, ℕ, zero, suc, ◌-◌, ◌*◌, ◌^◌, ◌<◌, ◌≤◌, ◌⊎◌, ◌==◌, nat_lt, ◌&&◌, ◌||◌}
use Rattle.std.specs.Prelude.{Bool, true, false, if◌then◌else◌, List, length, slice_get, slice_index_or, Option, Some, None}
use Rattle.port_set.specs.PortSets.{in_set}
use Rattle.port_set.specs.Shapes.{IsShape, IsNoShape}
use Rattle.binding_rules.specs.Conflicts.{HaveOneShape}
use Rattle.binding_rules.specs.Refusals.{At, AtBoth, Applies, turn}
use Rattle.binding_rules.specs.declared.binding.Binding.{Binding}
use Rattle.binding_rules.specs.declared.settings.Edition.{Edition}
use Rattle.binding_rules.specs.declared.settings.Softwire.{Softwire}
use Rattle.binding_rules.specs.declared.refused.Refused.{Refused}
use Rattle.binding_rules.specs.declared.refused.Refused.TheVariants as refused
use Rattle.binding_rules.specs.declared.conflicts.Pair.{Pair}

-- the settings are within their bounds
pub record IsFine (s : Softwire) : Type 0 where
  pub mtu6 : 1280 ≤ s.mtu6
  pub mtu4 : 576 ≤ s.mtu4
  pub hop_limit : 1 ≤ s.hop_limit

-- a binding that is well on its own
pub record IsSound (own : ℕ) (x : Binding) : Type 0 where
  pub shape : IsShape x.offset x.length
  pub psid : x.psid < 2 ^ x.length
  pub not_own : x.v4.0 ≡ own → ⊥

abbrev pub AreSound : ℕ → List Binding → ℕ → Type 0
AreSound own bindings end = (place : ℕ) (x : Binding) → place < end → slice_get bindings place ≡ Some x → IsSound own x

-- the first refusal of a binding on its own
abbrev pub IsOwnRefusal : ℕ → ℕ → Binding → Refused → Type 0
IsOwnRefusal own place x (refused.Shape at) = (at ≡ place) × IsNoShape x.offset x.length
IsOwnRefusal own place x (refused.Psid at) = (at ≡ place) × (IsShape x.offset x.length × (2 ^ x.length ≤ x.psid))
IsOwnRefusal own place x (refused.OwnAddress at) = (at ≡ place) × (IsShape x.offset x.length × ((x.psid < 2 ^ x.length) × (x.v4.0 ≡ own)))
IsOwnRefusal own place x _ = ⊥

-- the first refusal of the bindings, each on its own
pub record IsPlaceRefusal (own : ℕ) (bindings : List Binding) (r : Refused) : Type 0 where
  pub place : ℕ
  pub here : At bindings place (λ x. IsOwnRefusal own place x r)
  pub before : AreSound own bindings place

-- the least number with P, if there is one
abbrev pub IsLeast : (ℕ → Type 0) → Option ℕ → Type 0
IsLeast P None = (n : ℕ) → P n → ⊥
IsLeast P (Some least) = P least × ((n : ℕ) → P n → least ≤ n)

abbrev pub slot : List (Option ℕ) → ℕ → Option ℕ
slot slots at = slice_index_or slots at None

-- the nearest place below the end whose binding has the address, if there is one
abbrev pub IsNearest : List Binding → ℕ → ℕ → Option ℕ → Type 0
IsNearest bindings a end None = (n : ℕ) → n < end → At bindings n (λ x. x.v4.0 ≡ a) → ⊥
IsNearest bindings a end (Some place) = (place < end) × (At bindings place (λ x. x.v4.0 ≡ a)
    × ((n : ℕ) → place < n → n < end → At bindings n (λ x. x.v4.0 ≡ a) → ⊥))

-- each place has the nearest earlier place of its address
pub record IsLinked (bindings : List Binding) (previous : List (Option ℕ)) : Type 0 where
  pub size : length previous ≡ length bindings
  pub nearest : (place : ℕ) (x : Binding) → slice_get bindings place ≡ Some x → IsNearest bindings x.v4.0 place (slot previous place)

-- the nearest place behind the place and below the end whose binding has the address, if there is one
abbrev pub IsFollowing : List Binding → ℕ → ℕ → ℕ → Option ℕ → Type 0
IsFollowing bindings a place end None = (n : ℕ) → place < n → n < end → At bindings n (λ x. x.v4.0 ≡ a) → ⊥
IsFollowing bindings a place end (Some later) = (place < later) × (later < end) × At bindings later (λ x. x.v4.0 ≡ a)
    × ((n : ℕ) → place < n → n < later → At bindings n (λ x. x.v4.0 ≡ a) → ⊥)

-- each place has the nearest later place of its address
pub record IsLinkedUp (bindings : List Binding) (next : List (Option ℕ)) : Type 0 where
  pub size : length next ≡ length bindings
  pub following : (place : ℕ) (x : Binding) → slice_get bindings place ≡ Some x
      → IsFollowing bindings x.v4.0 place (length bindings) (slot next place)

-- from the place down the chain has at most so many places
abbrev pub ends_within : List (Option ℕ) → Option ℕ → ℕ → Bool
ends_within previous None most = true
ends_within previous (Some place) zero = false
ends_within previous (Some place) (suc most) = ends_within previous (slot previous place) most

-- the binding there has the address, and it is the last one that has it
pub record IsLast (bindings : List Binding) (a last : ℕ) : Type 0 where
  pub here : At bindings last (λ x. x.v4.0 ≡ a)
  pub none_after : (n : ℕ) → last < n → At bindings n (λ x. x.v4.0 ≡ a) → ⊥

-- behind the place, or any place where none is given
abbrev pub IsAbove : Option ℕ → ℕ → Type 0
IsAbove None n = Unit {0}
IsAbove (Some place) n = place < n

-- a binding of the address behind the place, with P
pub record IsLater (bindings : List Binding) (a : ℕ) (at : Option ℕ) (P : Binding → Type 0) (n : ℕ) : Type 0 where
  pub above : IsAbove at n
  pub there : At bindings n (λ x. (x.v4.0 ≡ a) × P x)

-- the least place of the address whose binding has another shape
abbrev pub IsLeastUnlike : List Binding → ℕ → Binding → Option ℕ → Type 0
IsLeastUnlike bindings a like found = IsLeast (IsLater bindings a None (λ x. HaveOneShape like x → ⊥)) found

-- the keys of a binding: its ports, or its identifier alone
abbrev pub has_key : Bool → Binding → ℕ → Bool
has_key true x key = in_set x.offset x.length x.psid key
has_key false x key = x.psid == key

abbrev pub HaveCommonKey : Bool → Binding → Binding → Type 0
HaveCommonKey by_port x y = (key : ℕ) × (key < 65536) × (has_key by_port x key ≡ true) × (has_key by_port y key ≡ true)

-- two bindings of one address with a key in common
pub record AreShared (by_port : Bool) (x y : Binding) : Type 0 where
  pub address : x.v4.0 ≡ y.v4.0
  pub common : HaveCommonKey by_port x y

-- two bindings of one address with unlike shapes
pub record AreUnlike (x y : Binding) : Type 0 where
  pub address : x.v4.0 ≡ y.v4.0
  pub unlike : HaveOneShape x y → ⊥

abbrev pub is_at_address : ℕ → Option Binding → Bool
is_at_address a None = false
is_at_address a (Some x) = x.v4.0 == a

-- what a slot says of the address: the place that it names, where the binding there has this address
abbrev pub owner_named : List Binding → ℕ → Option ℕ → Option ℕ
owner_named bindings a None = None
owner_named bindings a (Some place) = if is_at_address a (slice_get bindings place) then Some place else None

-- a slot of a key of the binding names the place
pub record IsMet (by_port : Bool) (x : Binding) (bindings : List Binding) (a : ℕ) (owners : List (Option ℕ)) (place : ℕ) : Type 0 where
  pub key : ℕ
  pub in_range : key < 65536
  pub has : has_key by_port x key ≡ true
  pub named : owner_named bindings a (slot owners key) ≡ Some place

-- the slots of the keys of the binding name the place, and the others are as before
pub record IsTaken (by_port : Bool) (x : Binding) (place : ℕ) (before now : List (Option ℕ)) : Type 0 where
  pub taken : (key : ℕ) → key < 65536 → has_key by_port x key ≡ true → slot now key ≡ Some place
  pub kept : (key : ℕ) → key < 65536 → has_key by_port x key ≡ false → slot now key ≡ slot before key

-- two places in order of the second and then of the first
abbrev pub IsNotAfter : ℕ → ℕ → ℕ → ℕ → Type 0
IsNotAfter first second f s = (second < s) ⊎ ((second ≡ s) × (first ≤ f))

-- the first pair of numbers with Q, in this order, if there is one
abbrev pub IsLeastPair : (ℕ → ℕ → Type 0) → Option Pair → Type 0
IsLeastPair Q None = (f s : ℕ) → Q f s → ⊥
IsLeastPair Q (Some pair) = Q pair.first pair.second × ((f s : ℕ) → Q f s → IsNotAfter pair.first pair.second f s)

-- two bindings with R, the first of them at a place with G
abbrev pub ArePair : List Binding → (Binding → Binding → Type 0) → (ℕ → Type 0) → ℕ → ℕ → Type 0
ArePair bindings R G f s = G f × AtBoth bindings f s R

abbrev pub IsFirstPair : List Binding → (Binding → Binding → Type 0) → (ℕ → Type 0) → Option Pair → Type 0
IsFirstPair bindings R G pair = IsLeastPair (ArePair bindings R G) pair

-- so many bindings of one address are compared two by two, and no more
abbrev pub most_compared : ℕ
most_compared = 256

-- the binding at the place has the address
abbrev pub IsAtAddress : List Binding → ℕ → ℕ → Type 0
IsAtAddress bindings a n = At bindings n (λ x. x.v4.0 ≡ a)

-- a slot's new name is its old one or a place of the address
abbrev pub IsOwnersOf : List Binding → ℕ → List (Option ℕ) → List (Option ℕ) → Type 0
IsOwnersOf bindings a before now = (key n : ℕ) → key < 65536 → slot now key ≡ Some n → (slot before key ≡ Some n) ⊎ IsAtAddress bindings a n

-- no slot counts for the address
abbrev pub AreFresh : List Binding → ℕ → List (Option ℕ) → Type 0
AreFresh bindings a owners = (key : ℕ) → key < 65536 → owner_named bindings a (slot owners key) ≡ None

-- the lesser of two places, where there are two
abbrev pub lesser_of : Option ℕ → Option ℕ → Option ℕ
lesser_of None y = y
lesser_of (Some a) None = Some a
lesser_of (Some a) (Some b) = if nat_lt b a then Some b else Some a

-- the earlier of two pairs, where there are two
abbrev pub earlier_of : Option Pair → Option Pair → Option Pair
earlier_of None y = y
earlier_of (Some a) None = Some a
earlier_of (Some a) (Some b) = if nat_lt b.second a.second || ((b.second == a.second) && nat_lt b.first a.first) then Some b else Some a

abbrev pub paired : ℕ → Option ℕ → Option Pair
paired first None = None
paired first (Some second) = Some (record { first = first; second = second })

-- each binding has a shape, and an identifier in its range
pub record IsWell (x : Binding) : Type 0 where
  pub shape : IsShape x.offset x.length
  pub psid : x.psid < 2 ^ x.length

-- the greatest port of an identifier: only the bits of the identifier are not all set
abbrev pub greatest_port : ℕ → ℕ → ℕ → ℕ
greatest_port a k s = 65535 - (2 ^ k - 1 - s) * 2 ^ (16 - a - k)

abbrev pub AreWell : List Binding → Type 0
AreWell bindings = (place : ℕ) (x : Binding) → slice_get bindings place ≡ Some x → IsWell x

-- the refusal is true, and its places are those of the pair
pub record IsConflictRefusal (e : Edition) (s : Softwire) (bindings : List Binding) (pair : Pair) (r : Refused) : Type 0 where
  pub applies : Applies e s bindings r
  pub places : turn r ≡ record { stage = 4; place = pair.second; step = pair.first }
