-- What a change of the table leaves alone. A verdict depends on the settings and on the bindings of the addresses that the item names.
use Rattle.std.specs.Prelude.{◌≡◌, ℕ, ◌⊎◌, ◌↔◌, Ok, Some, slice_get}
use Rattle.binding_rules.specs.Tables.{BindingTable}
use Rattle.binding_rules.specs.declared.binding.Binding.{Binding}
use Rattle.icmp_codec.specs.Message6.{Message6, icmp6_of}
use Rattle.icmp_relay.specs.Quotes.{TunnelQuote, quote_of}
use Rattle.ip_codec.specs.Packet4.{Packet4, ip4_of}
use Rattle.ip_codec.specs.declared.items.Item.{Item}
use Rattle.ip_codec.specs.declared.items.Item.TheVariants as item

-- the table has the binding, at whatever place
abbrev pub HasBinding : BindingTable → Binding → Type 0
HasBinding t b = (at : ℕ) × (slice_get t.bindings at ≡ Some b)

-- Whether an item names an address. A packet from the IPv4 network names its destination, one from a subscriber its source and its
-- destination, and an ICMPv6 message the source and the destination of the packet that it quotes.
abbrev pub Names : Item → ℕ → Type 0
Names (item.Down bytes) address = (p : Packet4) × ((ip4_of bytes ≡ Ok p) × (p.dst ≡ address))
Names (item.Up outer inner) address = (p : Packet4) × ((ip4_of inner ≡ Ok p) × ((p.src ≡ address) ⊎ (p.dst ≡ address)))
Names (item.Icmp6 src dst bytes) address =
    (m : Message6) × ((icmp6_of src.0 dst.0 bytes ≡ Ok m)
    × ((q : TunnelQuote) × ((quote_of m.rest ≡ Ok q) × ((q.inner.src ≡ address) ⊎ (q.inner.dst ≡ address)))))
Names _ address = ⊥

-- two tables have the same set of bindings of an address, in whatever order
abbrev pub AreAlikeAt : ℕ → BindingTable → BindingTable → Type 0
AreAlikeAt address t u = (b : Binding) → b.v4.0 ≡ address → HasBinding t b ↔ HasBinding u b

-- two tables have the same settings, and the same set of bindings of each address that the item names
pub record AreAlikeFor (i : Item) (t u : BindingTable) : Type 0 where
  pub settings : t.softwire ≡ u.softwire
  pub bindings : (address : ℕ) → Names i address → AreAlikeAt address t u
