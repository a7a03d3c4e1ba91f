-- What a packet asks the table for, by the bytes at their places.
use Rattle.std.proofs.Common.{◌≡◌, ℕ, ◌≤◌, ◌==◌, ◌||◌, ◌&&◌, ◌⊎◌, inl, inr, Bool, true, false, not, nat_lt, List, [], ◌∷◌, length, drop, slice_index, Some, None, Ok, refl, ◌∙◌, ap}
use Rattle.std.specs.Prelude.{if◌then◌else◌}
use Rattle.std.proofs.lemmas.Bool.{le-ltb, ne_eqb}
use Rattle.aftr_base.specs.First.{first_true, refused_or}
use Rattle.aftr_base.specs.Numbers.{big_endian, span}
use Rattle.aftr_base.specs.Sums.{checksum}
use Rattle.binding_rules.specs.declared.binding.Want.TheVariants as want
use Rattle.icmp_codec.specs.Message4.{Message4, icmp4_of, is_echo, message_fields4}
use Rattle.icmp_codec.specs.Quoted.{EmbeddedPacket, embedded_fields, lacks_header}
use Rattle.icmp_codec.specs.declared.message4.IcmpBad.TheVariants as bad
use Rattle.ip_codec.specs.Packet4.{Packet4, is_fragment}
use Rattle.port_locate.specs.Keys.{destination_at, downstream_key, has_ports, icmp_key, identifier_want, key_at, key_of, message_want, plain_want, source_at, upstream_key}
use Rattle.port_locate.specs.Read.{Asks, HasTwoPorts}
use Rattle.port_locate.specs.declared.keys.Key.TheVariants as key

no_icmp : (protocol : ℕ) → HasTwoPorts protocol → (protocol == 1) ≡ false
no_icmp protocol (inl e) = ap (λ (n : ℕ). n == 1) e
no_icmp protocol (inr (inl e)) = ap (λ (n : ℕ). n == 1) e
no_icmp protocol (inr (inr (inl e))) = ap (λ (n : ℕ). n == 1) e
no_icmp protocol (inr (inr (inr (inl e)))) = ap (λ (n : ℕ). n == 1) e
no_icmp protocol (inr (inr (inr (inr e)))) = ap (λ (n : ℕ). n == 1) e

two_ports : (protocol : ℕ) → HasTwoPorts protocol → has_ports protocol ≡ true
two_ports protocol (inl e) = ap has_ports e
two_ports protocol (inr (inl e)) = ap has_ports e
two_ports protocol (inr (inr (inl e))) = ap has_ports e
two_ports protocol (inr (inr (inr (inl e)))) = ap has_ports e
two_ports protocol (inr (inr (inr (inr e)))) = ap has_ports e

module _ (p : Packet4) (whole : is_fragment p ≡ false) where
  port_at : (at quoted : ℕ) → HasTwoPorts p.protocol → 4 ≤ length p.payload → key_at at quoted p ≡ key.At (want.Port (big_endian (span p.payload at 2)))
  port_at at quoted has long =
      let one = no_icmp p.protocol has in
      let two = two_ports p.protocol has in
      let few : nat_lt (length p.payload) 4 ≡ false = le-ltb (length p.payload) 4 long in
      λ j. if whole j then key.NoPort else if one j then icmp_key (icmp4_of p.payload) quoted
      else key_of (if two j then (if few j then None else Some (want.Port (big_endian (span p.payload at 2)))) else Some want.Whole)

  pub ports_read : HasTwoPorts p.protocol → 4 ≤ length p.payload →
      Asks p (want.Port (big_endian (span p.payload 0 2))) (want.Port (big_endian (span p.payload 2 2)))
  ports_read has long =
      record { upstream = port_at source_at destination_at has long; downstream = port_at destination_at source_at has long }

  echo : (slice_index p.payload 0 ≡ 0) ⊎ (slice_index p.payload 0 ≡ 8) → is_echo (slice_index p.payload 0) ≡ true
  echo (inl e) = ap is_echo e
  echo (inr e) = ap is_echo e

  identifier_at : (at quoted : ℕ) → p.protocol ≡ 1 → 8 ≤ length p.payload → is_echo (slice_index p.payload 0) ≡ true →
      key_at at quoted p ≡ key.At (want.Port (big_endian (span p.payload 4 2)))
  identifier_at at quoted icmp long is =
      let one : (p.protocol == 1) ≡ true = ap (λ (n : ℕ). n == 1) icmp in
      let short : nat_lt (length p.payload) 8 ≡ false = le-ltb (length p.payload) 8 long in
      λ j. if whole j then key.NoPort else if one j then icmp_key
      (refused_or (first_true ((short j, bad.Short) ∷ (not (is j) && not (checksum p.payload == 0), bad.Checksum)
      ∷ (not (is j) && lacks_header (drop 8 p.payload), bad.Embedded) ∷ []))
      (message_fields4 p.payload (if is j then None else Some (embedded_fields (drop 8 p.payload))))) quoted
      else key_of (plain_want p.protocol p.payload at)

  pub identifiers_read : p.protocol ≡ 1 → 8 ≤ length p.payload → (slice_index p.payload 0 ≡ 0) ⊎ (slice_index p.payload 0 ≡ 8) →
      Asks p (want.Port (big_endian (span p.payload 4 2))) (want.Port (big_endian (span p.payload 4 2)))
  identifiers_read icmp long kind =
      record { upstream = identifier_at source_at destination_at icmp long (echo kind); downstream = identifier_at destination_at source_at icmp long (echo kind) }

  all_at : (at quoted : ℕ) → (p.protocol ≡ 1 → ⊥) → (HasTwoPorts p.protocol → ⊥) → key_at at quoted p ≡ key.At want.Whole
  all_at at quoted not_icmp none =
      let one : (p.protocol == 1) ≡ false = ne_eqb p.protocol 1 not_icmp in
      let a : (p.protocol == 6) ≡ false = ne_eqb p.protocol 6 (λ e. none (inl e)) in
      let b : (p.protocol == 17) ≡ false = ne_eqb p.protocol 17 (λ e. none (inr (inl e))) in
      let c : (p.protocol == 33) ≡ false = ne_eqb p.protocol 33 (λ e. none (inr (inr (inl e)))) in
      let d : (p.protocol == 132) ≡ false = ne_eqb p.protocol 132 (λ e. none (inr (inr (inr (inl e))))) in
      let f : (p.protocol == 136) ≡ false = ne_eqb p.protocol 136 (λ e. none (inr (inr (inr (inr e))))) in
      λ j. if whole j then key.NoPort else if one j then icmp_key (icmp4_of p.payload) quoted
      else key_of (if (a j || b j || c j || d j || f j) then (if nat_lt (length p.payload) 4 then None else Some (want.Port (big_endian (span p.payload at 2)))) else Some want.Whole)

  pub others_read : (p.protocol ≡ 1 → ⊥) → (HasTwoPorts p.protocol → ⊥) → Asks p want.Whole want.Whole
  others_read not_icmp none =
      record { upstream = all_at source_at destination_at not_icmp none; downstream = all_at destination_at source_at not_icmp none }

  quoted_at : (at other : ℕ) (message : Message4) (quoted : EmbeddedPacket) → p.protocol ≡ 1 → icmp4_of p.payload ≡ Ok message →
      message.embedded ≡ Some quoted → quoted.offset ≡ 0 → HasTwoPorts quoted.protocol → 4 ≤ length quoted.payload →
      key_at at other p ≡ key.At (want.Port (big_endian (span quoted.payload other 2)))
  quoted_at at other message quoted icmp read quotes first has long =
      let one : (p.protocol == 1) ≡ true = ap (λ (n : ℕ). n == 1) icmp in
      let start : (quoted.offset == 0) ≡ true = ap (λ (n : ℕ). n == 0) first in
      let none = no_icmp quoted.protocol has in
      let two = two_ports quoted.protocol has in
      let few : nat_lt (length quoted.payload) 4 ≡ false = le-ltb (length quoted.payload) 4 long in
      (λ j. if whole j then key.NoPort else if one j then icmp_key (read j) other else key_of (plain_want p.protocol p.payload at))
      ∙ ((λ j. key_of (message_want (quotes j) message.id other))
      ∙ (λ j. key_of (if not (start j) then None else if none j then identifier_want quoted.payload else
      (if two j then (if few j then None else Some (want.Port (big_endian (span quoted.payload other 2)))) else Some want.Whole))))

  pub quoted_read : (message : Message4) (quoted : EmbeddedPacket) → p.protocol ≡ 1 → icmp4_of p.payload ≡ Ok message →
      message.embedded ≡ Some quoted → quoted.offset ≡ 0 → HasTwoPorts quoted.protocol → 4 ≤ length quoted.payload →
      Asks p (want.Port (big_endian (span quoted.payload 2 2))) (want.Port (big_endian (span quoted.payload 0 2)))
  quoted_read message quoted icmp read quotes first has long = record {
    upstream = quoted_at source_at destination_at message quoted icmp read quotes first has long;
    downstream = quoted_at destination_at source_at message quoted icmp read quotes first has long;
  }

fragment_at : (p : Packet4) (at quoted : ℕ) → is_fragment p ≡ true → key_at at quoted p ≡ key.NoPort
fragment_at p at quoted fragment =
    λ j. if fragment j then key.NoPort else if p.protocol == 1 then icmp_key (icmp4_of p.payload) quoted else key_of (plain_want p.protocol p.payload at)

pub fragments_none : (p : Packet4) → is_fragment p ≡ true → (upstream_key p ≡ key.NoPort) × (downstream_key p ≡ key.NoPort)
fragments_none p fragment = (fragment_at p source_at destination_at fragment, fragment_at p destination_at source_at fragment)
