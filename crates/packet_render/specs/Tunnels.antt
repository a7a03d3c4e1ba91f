-- Whom a tunnel packet is for. The packet in it has the address and port of a subscriber, and goes to that subscriber's tunnel alone.
use Rattle.std.specs.Prelude.{◌≡◌, ℕ, ◌⊎◌, List, [], ◌∷◌, drop, slice_index, Ok, Some}
use Rattle.std.specs.Int.{w128, to_be_bytes}
use Rattle.aftr_base.specs.Numbers.{span}
use Rattle.aftr_base.specs.declared.numbers.V6.{V6}
use Rattle.binding_rules.specs.Owning.{IsBindingOf}
use Rattle.binding_rules.specs.Tables.{BindingTable}
use Rattle.binding_rules.specs.declared.binding.Binding.{Binding}
use Rattle.binding_rules.specs.declared.binding.Want.{Want}
use Rattle.icmp_relay.specs.Quotes.{TunnelQuote}
use Rattle.ip_codec.specs.Packet4.{Packet4, ip4_of}
use Rattle.ip_codec.specs.declared.items.Item.{Item}
use Rattle.port_locate.specs.Keys.{downstream_key}
use Rattle.port_locate.specs.declared.keys.Key.{Key}
use Rattle.port_locate.specs.declared.keys.Key.TheVariants as key
use Rattle.packet_render.specs.Sent.{quote_of_item}
use Rattle.packet_render.specs.WhatCame.{ArePieces6}
use Rattle.verdict_core.specs.Verdicts.{quoted_source}
use Rattle.verdict_core.specs.declared.verdicts.Path.TheVariants as path
use Rattle.verdict_core.specs.declared.verdicts.Reply.TheVariants as reply
use Rattle.verdict_core.specs.declared.verdicts.Verdict.{Verdict}
use Rattle.verdict_core.specs.declared.verdicts.Verdict.TheVariants as verdict

-- The bytes are a tunnel packet to the tunnel's end of a binding of the table. The IPv4 packet in it is for the address of that binding,
-- and for a port of it or what stands for one (RFC 7596, sections 6.2 and 8.1).
pub record IsForOwner (t : BindingTable) (bytes : List ℕ) : Type 0 where
  pub next_header : slice_index bytes 6 ≡ 4
  pub inner : Packet4
  pub carried : ip4_of (drop 40 bytes) ≡ Ok inner
  pub want : Want
  pub asked : downstream_key inner ≡ key.At want
  pub binding : Binding
  pub whose : IsBindingOf t.bindings (record { 0 = inner.dst }) want binding
  pub end : span bytes 24 16 ≡ to_be_bytes w128 binding.b4.0

-- one packet, and it is for the owner
pub record IsOneForOwner (t : BindingTable) (list : List (List ℕ)) : Type 0 where
  pub bytes : List ℕ
  pub only : list ≡ bytes ∷ []
  pub owner : IsForOwner t bytes

-- the fragments of a tunnel packet that is for the owner; each has its destination
pub record IsCutForOwner (t : BindingTable) (mtu number : ℕ) (list : List (List ℕ)) : Type 0 where
  pub bytes : List ℕ
  pub owner : IsForOwner t bytes
  pub pieces : ArePieces6 bytes mtu number 0 (drop 40 bytes) list

-- What is written into a tunnel is for the owner. This holds of packets from the IPv4 network, of those from subscriber to subscriber, and of
-- datagrams that were put together.
abbrev pub TunnelsAreOwners : BindingTable → Verdict → ℕ → List (List ℕ) → Type 0
TunnelsAreOwners t (verdict.Inward from to limit mtu back) number list = IsOneForOwner t list ⊎ IsCutForOwner t mtu number list
TunnelsAreOwners t _ number list = Unit {0}

-- a binding of the table has the address and what the key asks for, and its tunnel ends there
pub record IsOwnersEnd (t : BindingTable) (address : ℕ) (k : Key) (end : V6) : Type 0 where
  pub want : Want
  pub asked : k ≡ key.At want
  pub binding : Binding
  pub whose : IsBindingOf t.bindings (record { 0 = address }) want binding
  pub ends : binding.b4.0 ≡ end.0

-- An error that is passed on into a tunnel goes to the owner of the address and port that the quoted packet came from (RFC 2473, section 8).
abbrev pub ErrorsReachOwners : BindingTable → Item → Verdict → Type 0
ErrorsReachOwners t i (verdict.Drop why (reply.Relay own code mtu (path.Tunnel limit from to))) =
    (q : TunnelQuote) × ((quote_of_item i ≡ Some q) × IsOwnersEnd t q.inner.src (quoted_source q) to)
ErrorsReachOwners t i _ = Unit {0}
