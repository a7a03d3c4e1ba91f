-- Owners and addresses of the table, as relations and as the tests of the lines.
use Rattle.std.proofs.Common.{◌≡◌, ℕ, ◌≤◌, ◌==◌, nat_lt, ◌&&◌, ◌||◌, Bool, true, false, if◌then◌else◌, List, [], ◌∷◌, Some, refl, ap, ◌∙◌}
use Rattle.std.proofs.lemmas.Bool.{eq-eqb, eqb-true, le-ltb}
use Rattle.std.proofs.lemmas.List.Folds.{Any-from_list_any, list_any-from_Any}
use Rattle.aftr_base.specs.declared.numbers.V6.{V6}
use Rattle.binding_rules.specs.Bindings.{bound, owns}
use Rattle.binding_rules.specs.Tables.{BindingTable, IsLawful}
use Rattle.binding_rules.specs.declared.binding.Binding.{Binding}
use Rattle.binding_rules.specs.declared.binding.Want.{Want}
use Rattle.ip_codec.specs.Packet4.{Packet4, packet_len}
use Rattle.port_locate.specs.Keys.{downstream_key}
use Rattle.port_locate.specs.declared.keys.Key.{Key}
use Rattle.table_words.specs.Answers.{first_b4, has_v4}
use Rattle.verdict_core.specs.Answers.{is_too_large}
use Rattle.verdict_core.specs.Owners.{HasReceiver, IsSubscriberAddress}
use Rattle.verdict_core.specs.Verdicts.{is_bound_address, owner_end}
use Rattle.verdict_core.proofs.Owned.{owner_known}

-- An address of the table, as the relation and as the test of the lines.
pub address_known : (t : BindingTable) (address : ℕ) → is_bound_address t address ≡ true → IsSubscriberAddress t address
address_known t address is =
    let found = Any-from_list_any (λ b. b.v4.0 == address) t.bindings is in
    (found.0, found.1, found.2, found.3, eqb-true found.1.v4.0 address found.4)

pub address_bound : (t : BindingTable) (address : ℕ) → IsSubscriberAddress t address → is_bound_address t address ≡ true
address_bound t address found =
    list_any-from_Any (λ b. b.v4.0 == address) t.bindings (found.0, found.1, found.2, found.3, eq-eqb found.1.v4.0 address found.4)

-- an owner is a binding with the address
owner_has : (bs : List Binding) (address : ℕ) (w : Want) (x : Binding) → bound bs (record { 0 = address }) w ≡ x ∷ [] →
    has_v4 bs (record { 0 = address }) ≡ true
owner_has [] address w x is = absurd cc
owner_has (b ∷ bs) address w x is = by_head (b.v4.0 == address) (owns w b) (λ e. owner_has bs address w x e) is
  where
    by_head : (same mine : Bool) → (bound bs (record { 0 = address }) w ≡ x ∷ [] → has_v4 bs (record { 0 = address }) ≡ true) →
        (if same && mine then b ∷ bound bs (record { 0 = address }) w else bound bs (record { 0 = address }) w) ≡ x ∷ [] →
        (same || has_v4 bs (record { 0 = address })) ≡ true
    by_head true mine rest e = refl
    by_head false mine rest e = rest e

-- the one owner of what a packet asks for, as the relation and as the end that the lines are given
pub receiver_end : (t : BindingTable) (p : Packet4) (r : HasReceiver t p) → owner_end t p.dst (downstream_key p) ≡ Some r.binding.b4
receiver_end t p r = ap (λ (k : Key). owner_end t p.dst k) r.key ∙ ap (λ (owners : List Binding). first_b4 owners) r.owner

pub receiver_known : (t : BindingTable) (p : Packet4) (to : V6) → IsLawful t → owner_end t p.dst (downstream_key p) ≡ Some to → HasReceiver t p
receiver_known t p to lawful is =
    let owned = owner_known t p.dst (downstream_key p) to lawful is in
    record { want = owned.want; key = owned.key; binding = owned.owner.binding; owner = owned.owner.owner }

pub receiver_has : (t : BindingTable) (p : Packet4) → HasReceiver t p → is_bound_address t p.dst ≡ true
receiver_has t p r = owner_has t.bindings p.dst r.want r.binding r.owner

-- it fits or may be cut
pub not_large : (p : Packet4) (room : ℕ) → (p.df ≡ true → packet_len p ≤ room) → is_too_large room p ≡ false
not_large p room fits = by_df p.df fits
  where
    by_df : (df : Bool) → (df ≡ true → packet_len p ≤ room) → (df && nat_lt room (packet_len p)) ≡ false
    by_df true whole = le-ltb room (packet_len p) (whole refl)
    by_df false whole = refl
