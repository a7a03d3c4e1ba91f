-- No rule of tables refuses the subscribers from one of them on.
use Rattle.std.proofs.Common.{◌≡◌, ℕ, ◌+◌, ◌-◌, ◌/◌, ◌%◌, ◌^◌, ◌<◌, ◌≤◌, List, [], ◌∷◌, ◌++◌, map, length, Some, inl, inr, sym, ◌∙◌, ap, subst, arith}
use Rattle.std.specs.Prelude.{slice_get}
use Rattle.std.specs.List.{range_with_len}
use Rattle.std.proofs.lemmas.Option.{slice_get_within, get_or_from_slice_get}
use Rattle.std.proofs.lemmas.List.FromFn.{length-map-range_with_len, get_or-map-range_with_len, map-range_with_len_more}
use Rattle.port_set.specs.PortSets.{InSet}
use Rattle.port_set.specs.Shapes.{IsNoShape}
use Rattle.binding_rules.specs.Refusals.{Applies, IsFirstRefusal}
use Rattle.binding_rules.specs.declared.binding.Binding.{Binding}
use Rattle.binding_rules.specs.declared.refused.Refused.{Refused}
use Rattle.binding_rules.specs.declared.refused.Refused.TheVariants as refused
use Rattle.binding_rules.specs.declared.settings.Edition.TheVariants as edition
use Rattle.binding_rules.specs.declared.settings.Softwire.{Softwire}
use Rattle.traffic_gen.specs.Traffic.{binding_of, settings}

abbrev bindings : ℕ → ℕ → List Binding
bindings first count = map binding_of (range_with_len first count)

-- which subscriber stands at a place
record StandsAt (first count place : ℕ) (x : Binding) : Type 0 where
  pub within : place < count
  pub is : x ≡ binding_of (first + place)

stands : (first count place : ℕ) (x : Binding) → slice_get (bindings first count) place ≡ Some x → StandsAt first count place x
stands first count place x e =
    let inside : place < length (bindings first count) = slice_get_within (bindings first count) place x e in
    let long : length (bindings first count) ≡ count = length-map-range_with_len binding_of first count in
    let within : place < count = omega arith in
    record {
      within = within;
      is = sym (get_or_from_slice_get (bindings first count) place x x e) ∙ get_or-map-range_with_len binding_of first count place (first + place) x within (omega arith);
    }

-- an address and a port of its sets tell the subscriber
one_owner : (i j p : ℕ) → i / 16 ≡ j / 16 → p / 2 ^ 6 % 2 ^ 4 ≡ i % 16 → p / 2 ^ 6 % 2 ^ 4 ≡ j % 16 → i ≡ j
one_owner i j p a b c = let d : i % 16 ≡ j % 16 = sym b ∙ c in omega arith

none_applies : (first count : ℕ) → first + count ≤ 256 → (r : Refused) → Applies edition.One settings (bindings first count) r → ⊥
none_applies first count few refused.Mtu h = elim h [ inl a ↦ omega arith | inr b ↦ omega arith ]
none_applies first count few refused.Hop h = omega arith
none_applies first count few (refused.TooMany n) h =
    let long : length (bindings first count) ≡ count = length-map-range_with_len binding_of first count in
    let over : 65536 < length (bindings first count) = h.1 in
    omega arith
none_applies first count few (refused.Shape at) h =
    let x : StandsAt first count at h.0 = stands first count at h.0 h.1 in
    let bad : IsNoShape 6 4 = subst (λ (b : Binding). IsNoShape b.offset b.length) x.is h.2 in
    elim bad [ inl a ↦ omega arith | inr b ↦ elim b [ inl c ↦ omega arith | inr d ↦ omega arith ] ]
none_applies first count few (refused.Psid at) h =
    let x : StandsAt first count at h.0 = stands first count at h.0 h.1 in
    let bad : 16 ≤ (first + at) % 16 = subst (λ (b : Binding). 2 ^ b.length ≤ b.psid) x.is h.2 in
    omega arith
none_applies first count few (refused.OwnAddress at) h =
    let x : StandsAt first count at h.0 = stands first count at h.0 h.1 in
    let bad : 0xcb007100 + (first + at) / 16 ≡ 0xc0000201 = subst (λ (b : Binding). b.v4.0 ≡ settings.own.0) x.is h.2 in
    omega arith
none_applies first count few (refused.MixedShape i j) h =
    let x : StandsAt first count i h.there.0 = stands first count i h.there.0 h.there.1 in
    let y : StandsAt first count j h.there.2.0 = stands first count j h.there.2.0 h.there.2.1 in
    h.there.2.2.mixed (ap (λ (b : Binding). b.offset) (x.is) ∙ sym (ap (λ (b : Binding). b.offset) y.is), ap (λ (b : Binding). b.length) x.is ∙ sym (ap (λ (b : Binding). b.length) y.is))
none_applies first count few (refused.Twice i j) h =
    let x : StandsAt first count i h.there.0 = stands first count i h.there.0 h.there.1 in
    let y : StandsAt first count j h.there.2.0 = stands first count j h.there.2.0 h.there.2.1 in
    let p : ℕ = h.there.2.2.common.0 in
    let in_x : InSet 6 4 ((first + i) % 16) p = subst (λ (b : Binding). InSet b.offset b.length b.psid p) x.is h.there.2.2.common.1 in
    let in_y : InSet 6 4 ((first + j) % 16) p = subst (λ (b : Binding). InSet b.offset b.length b.psid p) y.is h.there.2.2.common.2 in
    let one : 0xcb007100 + (first + i) / 16 ≡ 0xcb007100 + (first + j) / 16 =
    sym (ap (λ (b : Binding). b.v4.0) x.is) ∙ h.there.2.2.address ∙ ap (λ (b : Binding). b.v4.0) y.is in
    let same : first + i ≡ first + j = one_owner (first + i) (first + j) p (omega arith) in_x.identifier in_y.identifier in
    let before : i < j = h.ordered in
    omega arith

-- no refusal is the first
pub none_refused : (first : ℕ) (s : Softwire) (items : List Binding) → first ≤ 256 → s ≡ settings → items ≡ bindings first (256 - first)
    → (r : Refused) → IsFirstRefusal edition.One s items r → ⊥
none_refused first s items few is_settings is_items r h =
    let P : List Binding → Type 0 = λ bs. Applies edition.One settings bs r in
    let Q : Softwire → Type 0 = λ t. Applies edition.One t items r in
    none_applies first (256 - first) (omega arith) r (subst P is_items (subst Q is_settings h.applies))

one_place_more : (first next : ℕ) → first ≤ next → next + 1 - first ≡ next - first + 1
one_place_more first next le = omega arith

-- one binding more
pub one_binding_more : (first next : ℕ) (items after : List Binding) (b : Binding) → first ≤ next → items ≡ bindings first (next - first)
    → b ≡ binding_of next → after ≡ items ++ b ∷ [] → after ≡ bindings first (next + 1 - first)
one_binding_more first next items after b le is b_is added =
    added ∙ ap (λ (l : List Binding). l ++ b ∷ []) is ∙ ap (λ (x : Binding). bindings first (next - first) ++ x ∷ []) b_is
    ∙ sym (map-range_with_len_more binding_of first (next - first) next (omega arith))
    ∙ ap (bindings first) (sym (one_place_more first next le))
