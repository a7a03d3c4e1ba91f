-- Generated traffic: subscribers, the two tables that have them, and a capture of packets from and to them. All of it is
-- ours but for the formats: IPv4 (RFC 791), UDP (RFC 768), IPv4 in IPv6 (RFC 2473), and port sets (RFC 7597, section 5.1).
use Rattle.std.specs.Prelude.{ℕ, ◌+◌, ◌-◌, ◌*◌, ◌/◌, ◌%◌, ◌^◌, true, false, List, [], ◌++◌, map, codes}
use Rattle.std.specs.List.{range_with_len}
use Rattle.aftr_base.specs.Numbers.{word_bytes}
use Rattle.aftr_base.specs.declared.numbers.V4.{V4}
use Rattle.aftr_base.specs.declared.numbers.V6.{V6}
use Rattle.ip_codec.specs.Packet4.{header4}
use Rattle.ip_codec.specs.Packet6.{bytes6}
use Rattle.ip_codec.specs.declared.packet4.Head4.{Head4}
use Rattle.ip_codec.specs.declared.packet6.Head6.{Head6}
use Rattle.capture_io.specs.Written.{TimedPacket, capture_bytes}
use Rattle.binding_rules.specs.Tables.{BindingTable, binding_table}
use Rattle.binding_rules.specs.declared.binding.Binding.{Binding}
use Rattle.binding_rules.specs.declared.settings.Edition.TheVariants as edition
use Rattle.binding_rules.specs.declared.settings.Softwire.{Softwire}
use Rattle.traffic_gen.specs.Drawing.{state_after, drawn}
use Rattle.traffic_gen.specs.declared.generator.Draw.{Draw}
use Rattle.traffic_gen.specs.declared.generator.Kind.{Kind}
use Rattle.traffic_gen.specs.declared.generator.Kind.TheVariants as kind
use Rattle.traffic_gen.specs.declared.packets.Way.{Way}

-- 2001:db8::1
abbrev pub aftr : V6
aftr = record { 0 = 0x20010db8 * 2 ^ 96 + 1 }

-- 198.51.100.7
abbrev pub server : V4
server = record { 0 = 0xc6336407 }

-- sixteen subscribers share each address from 203.0.113.0 on
abbrev pub address_of : ℕ → V4
address_of subscriber = record { 0 = 0xcb007100 + subscriber / 16 }

-- the subscriber's end of the tunnel: 2001:db8:1:: plus its number
abbrev pub tunnel_end : ℕ → V6
tunnel_end subscriber = record { 0 = 0x20010db8 * 2 ^ 96 + 2 ^ 80 + subscriber }

abbrev pub binding_of : ℕ → Binding
binding_of subscriber = record { b4 = tunnel_end subscriber; v4 = address_of subscriber; offset = 6; length = 4; psid = subscriber % 16 }

-- one of the subscriber's 64 least ports
abbrev pub port_of : ℕ → ℕ → ℕ
port_of subscriber place = 1024 + 64 * (subscriber % 16) + place

-- the settings: the two addresses, 2001:db8::1 and 192.0.2.1, and what a table file has that names no more
abbrev pub settings : Softwire
settings = record {
  aftr = aftr;
  own = record { 0 = 0xc0000201 };
  mtu6 = 1500;
  mtu4 = 1500;
  hop_limit = 64;
  hairpin = true;
  icmp_in = true;
  errors_up = false;
  errors_down = false;
}

-- the table of the subscribers from this one up to 255
abbrev pub table_from : ℕ → BindingTable
table_from first = binding_table edition.One settings (map binding_of (range_with_len first (256 - first)))

abbrev pub outward : ℕ → ℕ → Way
outward subscriber port = record { from = address_of subscriber; from_port = port; to = server; to_port = 53 }

-- From where to where the packet goes: from a subscriber's own port to the server, from the server to a subscriber's own
-- port, from one subscriber to another, or from a port that nobody owns.
abbrev pub way_by : Kind → ℕ → ℕ → ℕ → Way
way_by kind.Outward sender receiver place = outward sender (port_of sender place)
way_by kind.Inward sender receiver place = record { from = server; from_port = 53; to = address_of sender; to_port = port_of sender place }
way_by kind.Between sender receiver place =
    record { from = address_of sender; from_port = port_of sender place; to = address_of receiver; to_port = port_of receiver place }
way_by kind.Foreign sender receiver place = outward sender place

abbrev pub way_of : Draw → Way
way_of draw = way_by draw.kind draw.sender draw.receiver draw.place

abbrev pub head_of : ℕ → Way → Head4
head_of id way = record {
  tos = 0;
  id = id;
  reserved = false;
  df = false;
  mf = false;
  offset = 0;
  ttl = 64;
  protocol = 17;
  src = way.from;
  dst = way.to;
}

-- UDP of four bytes, without a checksum (RFC 768)
abbrev pub datagram_of : Way → List ℕ
datagram_of way = word_bytes way.from_port ++ word_bytes way.to_port ++ word_bytes 12 ++ word_bytes 0 ++ codes "test"

abbrev pub packet4_of : ℕ → Way → List ℕ
packet4_of id way = header4 (head_of id way) [] 12 ++ datagram_of way

abbrev pub tunnel_head : ℕ → Head6
tunnel_head sender = record { word = 6 * 2 ^ 28; next = 4; hop = 64; src = tunnel_end sender; dst = aftr }

-- a packet of a subscriber stands in its tunnel, one of the server does not
abbrev pub packet_by : Kind → ℕ → List ℕ → List ℕ
packet_by kind.Inward sender packet = packet
packet_by kind.Outward sender packet = bytes6 (tunnel_head sender) packet
packet_by kind.Between sender packet = bytes6 (tunnel_head sender) packet
packet_by kind.Foreign sender packet = bytes6 (tunnel_head sender) packet

abbrev pub packet_of : ℕ → Draw → List ℕ
packet_of number draw = packet_by draw.kind draw.sender (packet4_of (number % 2 ^ 16) (way_of draw))

-- a record: they are a millisecond apart
abbrev pub record_of : ℕ → Draw → TimedPacket
record_of number draw = record { seconds = number / 1000; fraction = number % 1000 * 1000; packet = packet_of number draw }

-- record `number` of a seed: it takes one turn, and so the state after one turn more than there are records before it
abbrev pub generated : ℕ → ℕ → TimedPacket
generated seed number = record_of number (drawn (state_after seed (number + 1)))

-- the capture of so many records, in microseconds
abbrev pub capture_of : ℕ → ℕ → List ℕ
capture_of seed count = capture_bytes false (map (generated seed) (range_with_len 0 count))
