-- Whose a packet's destination is, and whether the packet fits the way there.
use Rattle.std.specs.Prelude.{◌≡◌, ℕ, ◌+◌, ◌≤◌, true, [], ◌∷◌}
use Rattle.std.specs.List.{Any}
use Rattle.binding_rules.specs.Bindings.{bound}
use Rattle.binding_rules.specs.Tables.{BindingTable}
use Rattle.binding_rules.specs.declared.binding.Binding.{Binding}
use Rattle.binding_rules.specs.declared.binding.Want.{Want}
use Rattle.ip_codec.specs.Packet4.{Packet4, packet_len}
use Rattle.port_locate.specs.Keys.{downstream_key}
use Rattle.port_locate.specs.declared.keys.Key.TheVariants as key

-- some binding has the address, whatever it owns there
abbrev pub IsSubscriberAddress : BindingTable → ℕ → Type 0
IsSubscriberAddress t address = Any (λ b. b.v4.0 ≡ address) t.bindings

-- exactly one binding has the packet's destination and owns the port there, or whatever else the packet asks for
pub record HasReceiver (t : BindingTable) (p : Packet4) : Type 0 where
  pub want : Want
  pub key : downstream_key p ≡ key.At want
  pub binding : Binding
  pub owner : bound t.bindings (record { 0 = p.dst }) want ≡ binding ∷ []

-- it may be cut, or a tunnel packet of 40 bytes more is no larger than the subscribers' network takes (RFC 2473, section 7.2)
abbrev pub FitsTunnel : BindingTable → Packet4 → Type 0
FitsTunnel t p = p.df ≡ true → packet_len p + 40 ≤ t.softwire.mtu6

-- it may be cut, or is no larger than the IPv4 network takes (RFC 1191, section 4)
abbrev pub FitsNetwork : BindingTable → Packet4 → Type 0
FitsNetwork t p = p.df ≡ true → packet_len p ≤ t.softwire.mtu4
