-- The verdict on an item under a table: the first line whose condition is true (RFC 7596, section 6.2). Where no RFC is named,
-- the line is ours; so are the order of the lines and the exact condition of each.
use Rattle.std.specs.Prelude.{◌≡◌, ℕ, ◌==◌, nat_le, Bool, true, false, not, ◌&&◌, List, [], ◌∷◌, ◌++◌}
use Rattle.std.specs.Prelude.{length, slice_index, Option, None, Result, Ok, Err, unwrap_or}
use Rattle.std.specs.List.{All}
use Rattle.aftr_base.specs.declared.numbers.V6.{V6}
use Rattle.binding_rules.specs.Bindings.{bound}
use Rattle.binding_rules.specs.Tables.{BindingTable}
use Rattle.binding_rules.specs.declared.settings.Softwire.{Softwire}
use Rattle.icmp_codec.specs.Message6.{Message6, icmp6_of}
use Rattle.icmp_codec.specs.declared.message4.IcmpBad.{IcmpBad}
use Rattle.icmp_errors.specs.Answers.{gets_answer}
use Rattle.icmp_relay.specs.Quotes.{TunnelQuote, quote_of}
use Rattle.icmp_relay.specs.declared.quotes.QuoteBad.{QuoteBad}
use Rattle.ip_codec.specs.Packet4.{Packet4, ip4_of}
use Rattle.ip_codec.specs.declared.items.Item.{Item}
use Rattle.ip_codec.specs.declared.items.Item.TheVariants as item
use Rattle.ip_codec.specs.declared.items.Outer.{Outer}
use Rattle.ip_codec.specs.declared.packet4.Ip4Bad.{Ip4Bad}
use Rattle.ip_codec.specs.declared.packet4.Ip4Bad.TheVariants as bad
use Rattle.ip_codec.specs.declared.rules.Rule.TheVariants as rule
use Rattle.port_locate.specs.Keys.{destination_at, downstream_key, key_of, quoted_want, source_at, upstream_key}
use Rattle.port_locate.specs.declared.keys.Key.{Key}
use Rattle.port_locate.specs.declared.keys.Key.TheVariants as key
use Rattle.table_words.specs.Answers.{first_b4, has_v4}
use Rattle.verdict_core.specs.Answers.{ends_at, inward, inward_room, is_missing, is_too_large, is_expired, no_owner}
use Rattle.verdict_core.specs.Answers.{not_sender, relayed, silent, too_large, time_exceeded, way_back, ways_to}
use Rattle.verdict_core.specs.Lines.{Line, passes, stops, verdict_in}
use Rattle.verdict_core.specs.declared.verdicts.Path.TheVariants as path
use Rattle.verdict_core.specs.declared.verdicts.Verdict.{Verdict}
use Rattle.verdict_core.specs.declared.verdicts.Verdict.TheVariants as verdict

-- What the table says: the tunnel's end of the binding with this address that owns what the key asks for ..
abbrev pub owner_end : BindingTable → ℕ → Key → Option V6
owner_end t address (key.At want) = first_b4 (bound t.bindings (record { 0 = address }) want)
owner_end t address key.NoPort = None
owner_end t address key.IcmpBad = None

-- .. and whether some binding has the address, whatever it owns there.
abbrev pub is_bound_address : BindingTable → ℕ → Bool
is_bound_address t address = has_v4 t.bindings (record { 0 = address })

abbrev pub names_no_port : Key → Bool
names_no_port key.NoPort = true
names_no_port (key.At want) = false
names_no_port key.IcmpBad = false

abbrev pub is_icmp_bad : Key → Bool
is_icmp_bad key.IcmpBad = true
is_icmp_bad (key.At want) = false
is_icmp_bad key.NoPort = false

abbrev pub is_checksum : Ip4Bad → Bool
is_checksum bad.Checksum = true
is_checksum _ = false

-- what a packet asks the table for: without it nobody can be told to own an address
abbrev pub key_lines : Key → List Line
key_lines k =
    -- an ICMP message that is damaged, or quotes nothing that can be read (RFC 5508, REQ-3)
    stops (is_icmp_bad k) (silent rule.IcmpBad)
    -- neither a port nor what stands for one (RFC 7596, section 8.1)
    ∷ stops (names_no_port k) (silent rule.NoPort)
    ∷ []

-- A packet from the IPv4 network to a subscriber, before the table is searched ..
abbrev pub down_refusals : Softwire → Packet4 → Key → List Line
down_refusals s p k =
    -- for the router itself, which answers nothing
    stops (p.dst == s.own.0) (silent rule.ToSelf)
    -- ICMP, where the table lets none in (RFC 7596, section 8.1, lets it be configured)
    ∷ stops ((p.protocol == 1) && not s.icmp_in) (silent rule.IcmpOff)
    ∷ key_lines k

-- .. and behind the search, by the tunnel's end of the owner of its destination.
abbrev pub down_ways : Softwire → Packet4 → Option V6 → List Line
down_ways s p end =
    -- nobody owns its destination (RFC 7596, section 6.2)
    stops (is_missing end) (no_owner s rule.NoBinding path.Plain p)
    -- its time to live is used up (RFC 1812, section 5.3.1)
    ∷ stops (is_expired p) (time_exceeded s path.Plain p)
    -- it fits into no tunnel packet and must not be cut (RFC 2473, section 7.2)
    ∷ stops (is_too_large (inward_room s) p) (too_large s (inward_room s) path.Plain p)
    -- to its subscriber (RFC 7596, section 6.2)
    ∷ ways_to end (inward s false)

abbrev pub down_lines : BindingTable → Result Packet4 Ip4Bad → List Line
down_lines t (Ok p) =
    down_refusals t.softwire p (downstream_key p) ++ down_ways t.softwire p (owner_end t p.dst (downstream_key p))
down_lines t (Err refusal) =
    stops (is_checksum refusal) (silent rule.Ip4Checksum) ∷ stops true (silent rule.Ip4Malformed) ∷ []

-- Who may send: the lines before the table is searched ..
abbrev pub up_refusals : Softwire → Outer → Packet4 → Key → List Line
up_refusals s outer p k =
    -- for another router's tunnel address
    stops (not (outer.dst.0 == s.aftr.0)) (silent rule.NotOurs)
    ∷ key_lines k

-- .. and behind it, by the tunnel's end of the owner of the source: the sender is that owner (RFC 7596, section 6.2).
abbrev pub sender_lines : Softwire → Outer → Option V6 → List Line
sender_lines s outer end = stops (not (ends_at end outer.src.0)) (not_sender s outer) ∷ []

abbrev pub access_lines : BindingTable → Outer → Packet4 → List Line
access_lines t outer p =
    up_refusals t.softwire outer p (upstream_key p) ++ sender_lines t.softwire outer (owner_end t p.src (upstream_key p))

-- what keeps a packet whose sender may send, before its destination is searched
abbrev pub onward_refusals : Softwire → Outer → Packet4 → List Line
onward_refusals s outer p =
    -- its time to live is used up (RFC 1812, section 5.3.1)
    stops (is_expired p) (time_exceeded s (way_back s outer) p) ∷ []

-- From subscriber to subscriber (RFC 7596, section 6.2), by whether the destination is an address of the table, and the
-- tunnel's end of its owner.
abbrev pub hairpin_lines : Softwire → Outer → Packet4 → Bool → Option V6 → List Line
hairpin_lines s outer p is_ours end =
    stops (is_ours && not s.hairpin) (silent rule.HairpinOff)
    -- nobody owns its destination
    ∷ stops (is_ours && is_missing end) (no_owner s rule.HairpinNoBinding (way_back s outer) p)
    -- its owner's tunnel has no room for it, as downstream
    ∷ stops (not (is_missing end) && is_too_large (inward_room s) p) (too_large s (inward_room s) (way_back s outer) p)
    ∷ ways_to end (inward s true)

-- out to the IPv4 network
abbrev pub outward_lines : Softwire → Outer → Packet4 → List Line
outward_lines s outer p =
    -- for the router itself, which answers nothing
    stops (p.dst == s.own.0) (silent rule.ToSelf)
    -- it is larger than the network takes and must not be cut (RFC 791, section 3.2; RFC 1191, section 4)
    ∷ stops (is_too_large s.mtu4 p) (too_large s s.mtu4 (way_back s outer) p)
    ∷ passes (verdict.Outward s.mtu4)
    ∷ []

-- what becomes of a packet whose sender may send
abbrev pub onward_lines : BindingTable → Outer → Packet4 → List Line
onward_lines t outer p =
    onward_refusals t.softwire outer p
    ++ (hairpin_lines t.softwire outer p (is_bound_address t p.dst) (owner_end t p.dst (downstream_key p))
    ++ outward_lines t.softwire outer p)

-- a packet from a subscriber, by what its inner bytes are read as
abbrev pub up_lines : BindingTable → Outer → Result Packet4 Ip4Bad → List Line
up_lines t outer (Ok p) = access_lines t outer p ++ onward_lines t outer p
up_lines t outer (Err refusal) =
    stops (not (outer.dst.0 == t.softwire.aftr.0)) (silent rule.NotOurs)
    ∷ stops (is_checksum refusal) (silent rule.InnerChecksum)
    ∷ stops true (silent rule.InnerMalformed)
    ∷ []

-- an IPv6 packet with neither IPv4 nor ICMPv6 inside is no softwire's (RFC 7596, section 6.2)
abbrev pub six_lines : Softwire → V6 → List Line
six_lines s dst =
    stops (not (dst.0 == s.aftr.0)) (silent rule.NotOurs)
    ∷ stops true (silent rule.NotSoftwire)
    ∷ []

-- an error that the way of a tunnel packet can give: unreachable, too big, time exceeded, parameter problem (RFC 2473, section
-- 8; RFC 4443, section 3)
abbrev pub is_tunnel_error : List ℕ → Bool
is_tunnel_error message =
    nat_le 8 (length message) && nat_le 1 (slice_index message 0) && nat_le (slice_index message 0) 4

abbrev pub message_refusals : Softwire → V6 → List ℕ → List Line
message_refusals s dst message =
    stops (not (dst.0 == s.aftr.0)) (silent rule.NotOurs)
    ∷ stops (not (is_tunnel_error message)) (silent rule.NotSoftwire)
    ∷ []

-- The message quotes a packet of the router's own tunnel, before the table is searched ..
abbrev pub quote_refusals : Softwire → TunnelQuote → List Line
quote_refusals s q = stops (not (q.src6 == s.aftr.0)) (silent rule.RelayBad) ∷ []

-- .. and behind it, by the tunnel's end of the owner of the quoted destination: the quoted packet went to that end.
abbrev pub receiver_lines : TunnelQuote → Option V6 → List Line
receiver_lines q end = stops (not (ends_at end q.dst6)) (silent rule.RelayNoBinding) ∷ []

-- What keeps a message from the source of the quoted packet, by whether that is an address of the table, and the tunnel's end of
-- its owner ..
abbrev pub relay_refusals : TunnelQuote → Bool → Option V6 → List Line
relay_refusals q is_ours end =
    -- the quoted source is an address of the table, and nobody owns it
    stops (is_ours && is_missing end) (silent rule.RelayNoBinding)
    -- no ICMP error may be sent about the quoted packet (RFC 1122, section 3.2.2)
    ∷ stops (not (gets_answer q.inner)) (silent rule.RelayMute)
    ∷ []

-- .. and the ways to it: to the subscriber that sent it, through its tunnel, or to the IPv4 network (RFC 2473, section 8).
abbrev pub relay_ways : Softwire → ℕ → ℕ → Option V6 → List Line
relay_ways s kind word end =
    ways_to end (λ to. relayed s kind word (path.Tunnel s.hop_limit s.aftr to))
    ++ passes (relayed s kind word path.Plain) ∷ []

abbrev pub relay_lines : Softwire → ℕ → ℕ → TunnelQuote → Bool → Option V6 → List Line
relay_lines s kind word q is_ours end = relay_refusals q is_ours end ++ relay_ways s kind word end

-- what the source and the destination of a quoted packet ask of the table
abbrev pub quoted_source : TunnelQuote → Key
quoted_source q = key_of (quoted_want q.inner source_at)

abbrev pub quoted_destination : TunnelQuote → Key
quoted_destination q = key_of (quoted_want q.inner destination_at)

-- an ICMPv6 error by what it quotes, where it is intact and quotes a tunnel packet
abbrev pub quote_lines : BindingTable → ℕ → ℕ → Result TunnelQuote QuoteBad → List Line
quote_lines t kind word (Err refusal) = stops true (silent rule.RelayBad) ∷ []
quote_lines t kind word (Ok q) =
    quote_refusals t.softwire q
    ++ (receiver_lines q (owner_end t q.inner.dst (quoted_destination q))
    ++ relay_lines t.softwire kind word q (is_bound_address t q.inner.src) (owner_end t q.inner.src (quoted_source q)))

abbrev pub error_lines : BindingTable → Result Message6 IcmpBad → List Line
error_lines t (Err refusal) = stops true (silent rule.RelayBad) ∷ []
error_lines t (Ok m) = quote_lines t m.kind m.word (quote_of m.rest)

-- all lines for an item
abbrev pub lines : BindingTable → Item → List Line
lines t item.Held = passes verdict.Held ∷ []
lines t (item.Bad why) = stops true (silent why) ∷ []
lines t (item.Down packet) = down_lines t (ip4_of packet)
lines t (item.Up outer inner) = up_lines t outer (ip4_of inner)
lines t (item.OtherIp6 dst) = six_lines t.softwire dst
lines t (item.Icmp6 src dst message) =
    message_refusals t.softwire dst message ++ error_lines t (icmp6_of src.0 dst.0 message)

-- some line has a true condition, every line before it has a false one, and the verdict is what that line answers
pub record Judged (t : BindingTable) (i : Item) (v : Verdict) : Type 0 where
  pub earlier : List Line
  pub deciding : Line
  pub later : List Line
  pub whole : lines t i ≡ earlier ++ deciding ∷ later
  pub all_false : All (λ line. line.test ≡ false) earlier
  pub is_true : deciding.test ≡ true
  pub answer : deciding.answer ≡ v

-- The verdict as a function. That some line of each list is true is a law (`access`), so the verdict in the place of none is
-- never taken.
abbrev pub verdict_of : BindingTable → Item → Verdict
verdict_of t i = unwrap_or (verdict_in (lines t i)) verdict.Held

-- it is the verdict, and no other is one
pub record IsVerdict (t : BindingTable) (i : Item) (v : Verdict) : Type 0 where
  pub judged : Judged t i v
  pub value : v ≡ verdict_of t i
  pub only : (other : Verdict) → Judged t i other → other ≡ v
