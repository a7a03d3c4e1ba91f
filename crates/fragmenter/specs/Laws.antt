-- Each packet has exactly one list of pieces, on each link.
use Rattle.std.specs.Prelude.{◌≡◌, ℕ, ◌%◌, ◌≤◌, List, ◌↔◌, length}
use Rattle.ip_codec.specs.Packet4.{Packet4}
use Rattle.ip_codec.specs.Packet6.{Packet6}
use Rattle.fragmenter.specs.Pieces4.{Pieces4, pieces4}
use Rattle.fragmenter.specs.Pieces6.{Pieces6, pieces6}

-- a tunnel packet, on a link that IPv6 may use (RFC 8200, section 5)
abbrev pub OneCut6 : Type 0
OneCut6 = (bytes : List ℕ) (packet : Packet6) (mtu id : ℕ) (list : List (List ℕ)) → 1280 ≤ mtu →
    Pieces6 bytes packet mtu id list ↔ (list ≡ pieces6 bytes packet mtu id)

-- an IPv4 packet whose header has at most 60 bytes, on a link that takes 576 (RFC 791, section 3.2)
abbrev pub OneCut4 : Type 0
OneCut4 = (packet : Packet4) (mtu : ℕ) (list : List (List ℕ)) → 576 ≤ mtu → length packet.header ≤ 60 →
    length packet.header % 4 ≡ 0 →
    Pieces4 packet mtu list ↔ (list ≡ pieces4 packet mtu)
