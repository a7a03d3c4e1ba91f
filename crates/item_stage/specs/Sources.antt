-- Where the pieces of a datagram came from. A datagram that is put together has pieces of one tunnel alone, or pieces that all came outside of
-- tunnels, and its pieces have one key: source, destination, protocol and identification (RFC 791, section 3.2; RFC 8200, section 4.5).
use Rattle.std.specs.Prelude.{◌≡◌, ℕ, suc, ◌⊎◌, List, [], ◌∷◌, Option, Ok, Some, slice_get, take}
use Rattle.capture_io.specs.declared.forms.Form.{Form}
use Rattle.capture_io.specs.declared.forms.Rec.{Rec}
use Rattle.ip_codec.specs.Packet4 as four
use Rattle.ip_codec.specs.declared.items.Item.{Item}
use Rattle.ip_codec.specs.declared.items.Item.TheVariants as item
use Rattle.ip_codec.specs.declared.items.Outer.{Outer}
use Rattle.ipv6_chain.specs.declared.headers.Frag.{Frag}
use Rattle.item_stage.specs.Alone.{Inside, Settled, Fragment, Ready, Downstream, CutPart, Carries, alone_of, at_end, behind_fragment, from_network, in_tunnel}
use Rattle.item_stage.specs.Items.{entries_of, items_in}
use Rattle.item_stage.specs.Rejoined.{rejoined}
use Rattle.item_stage.specs.Turns.{first_next}
use Rattle.item_stage.specs.declared.keys.DownKey.{DownKey}
use Rattle.item_stage.specs.declared.keys.InnerKey.{InnerKey}
use Rattle.item_stage.specs.declared.keys.OuterKey.{OuterKey}
use Rattle.reassembly_lane.specs.Parts.{datagram, first_of}
use Rattle.reassembly_lane.specs.declared.parts.Part.{Part}

-- each of a list, and some of a list
abbrev pub Each : {X : Type 0} → (X → Type 0) → List X → Type 0
Each P [] = Unit {0}
Each P (x ∷ xs) = P x × Each P xs

abbrev pub Among : {X : Type 0} → (X → Type 0) → List X → Type 0
Among P [] = ⊥
Among P (x ∷ xs) = P x ⊎ Among P xs

-- ---- keys are read from bytes
-- the key of a fragment from the IPv4 network has these four fields of its packet (RFC 791, section 3.2)
pub record IsDownKey (key : DownKey) (packet : four.Packet4) : Type 0 where
  pub source : key.src.0 ≡ packet.src
  pub destination : key.dst.0 ≡ packet.dst
  pub protocol : key.protocol ≡ packet.protocol
  pub identification : key.id ≡ packet.id

-- that of a fragment in the tunnel has them too, and both ends of the tunnel
pub record IsInnerKey (key : InnerKey) (outer : Outer) (packet : four.Packet4) : Type 0 where
  pub from : key.tunnel_src ≡ outer.src
  pub to : key.tunnel_dst ≡ outer.dst
  pub source : key.src.0 ≡ packet.src
  pub destination : key.dst.0 ≡ packet.dst
  pub protocol : key.protocol ≡ packet.protocol
  pub identification : key.id ≡ packet.id

-- that of a fragment of a tunnel packet has both ends, and the identification of its Fragment header (RFC 8200, section 4.5)
pub record IsOuterKey (key : OuterKey) (outer : Outer) (fragment : Frag) : Type 0 where
  pub from : key.src ≡ outer.src
  pub to : key.dst ≡ outer.dst
  pub identification : key.id ≡ fragment.id

abbrev pub DownKeysAreRead : Type 0
DownKeysAreRead = (bytes : List ℕ) (key : DownKey) (piece : Part) → from_network (four.ip4_of bytes) ≡ Downstream key piece →
    (packet : four.Packet4) × ((four.ip4_of bytes ≡ Ok packet) × IsDownKey key packet)

abbrev pub InnerKeysAreRead : Type 0
InnerKeysAreRead = (outer o : Outer) (bytes : List ℕ) (key : InnerKey) (piece : Part) → in_tunnel outer bytes (four.ip4_of bytes) ≡ Fragment o key piece →
    (packet : four.Packet4) × ((four.ip4_of bytes ≡ Ok packet) × IsInnerKey key outer packet)

abbrev pub OuterKeysAreRead : Type 0
OuterKeysAreRead = (outer o : Outer) (next : ℕ) (bytes : List ℕ) (header : Option Frag) (key : OuterKey) (piece : Part) →
    at_end outer next bytes header ≡ CutPart o key piece → (fragment : Frag) × ((header ≡ Some fragment) × IsOuterKey key outer fragment)

-- ---- pieces have one key
-- the record is this piece of a tunnel packet with this key
pub record IsCutOf (form : Form) (key : OuterKey) (piece : Part) (r : Rec) : Type 0 where
  pub outer : Outer
  pub is : alone_of form r.bytes ≡ CutPart outer key piece
  pub source : key.src ≡ outer.src

-- pieces of these records, all with one key and from this tunnel, were put together to what is inside
pub record IsJoinedFrom (form : Form) (rs : List Rec) (outer : Outer) (inside : Inside) : Type 0 where
  pub key : OuterKey
  pub source : key.src ≡ outer.src
  pub pieces : List Part
  pub end : ℕ
  pub each : Each (λ piece. Among (IsCutOf form key piece) rs) pieces
  pub is : behind_fragment outer (first_next (first_of pieces).head) (datagram pieces end) ≡ inside

-- what a tunnel packet with this outer header carries: it came in one record, or in pieces from its source
abbrev pub CameInside : Form → List Rec → Outer → Inside → Type 0
CameInside form rs outer inside = Among (λ r. alone_of form r.bytes ≡ Carries inside) rs ⊎ IsJoinedFrom form rs outer inside

-- the fragment with this key came in a tunnel packet from the key's tunnel
pub record CameFrom (form : Form) (rs : List Rec) (key : InnerKey) (piece : Part) : Type 0 where
  pub outer : Outer
  pub came : CameInside form rs outer (Fragment outer key piece)
  pub source : key.tunnel_src ≡ outer.src

-- the fragment with this key came outside of tunnels
abbrev pub CameOutside : Form → List Rec → DownKey → Part → Type 0
CameOutside form rs key piece = Among (λ r. alone_of form r.bytes ≡ Downstream key piece) rs

-- the packet is such pieces put together
pub record IsOfPieces (P : Part → Type 0) (packet : List ℕ) : Type 0 where
  pub pieces : List Part
  pub end : ℕ
  pub each : Each P pieces
  pub is : packet ≡ rejoined (first_of pieces).head (datagram pieces end)

-- All of a packet from a tunnel came through that one tunnel, however it was cut. Nothing of a packet from the IPv4 network came through a
-- tunnel. If the packet was put together, its pieces have one key.
abbrev pub IsOfOneWay : Form → List Rec → Item → Type 0
IsOfOneWay form rs (item.Up outer packet) =
    CameInside form rs outer (Settled (item.Up outer packet))
    ⊎ ((key : InnerKey) × ((key.tunnel_src ≡ outer.src) × IsOfPieces (CameFrom form rs key) packet))
IsOfOneWay form rs (item.Down packet) =
    Among (λ r. alone_of form r.bytes ≡ Ready (item.Down packet)) rs ⊎ ((key : DownKey) × IsOfPieces (CameOutside form rs key) packet)
IsOfOneWay form rs _ = Unit {0}

-- this holds of the item of every record, by the records up to it
abbrev pub EachIsOfOneWay : Type 0
EachIsOfOneWay = (form : Form) (rs : List Rec) (number : ℕ) (i : Item) → slice_get (items_in (entries_of form rs)) number ≡ Some i →
    IsOfOneWay form (take (suc number) rs) i
