-- The printed names of the rules.
use Rattle.std.specs.Prelude.{ℕ, List, codes}
use Rattle.ip_codec.specs.declared.rules.Rule.{Rule}
use Rattle.ip_codec.specs.declared.rules.Rule.TheVariants.{FrameShort, FrameType, Ip4Malformed, Ip4Checksum, Ip6Malformed, Ip6Chain, FragOdd}
use Rattle.ip_codec.specs.declared.rules.Rule.TheVariants.{FragLong, FragOverlap, FragMany, FragFull, NotOurs, NotSoftwire, InnerMalformed}
use Rattle.ip_codec.specs.declared.rules.Rule.TheVariants.{InnerChecksum, ToSelf, IcmpOff, IcmpBad, NoPort, NoBinding, Ttl, TooBig, HairpinOff}
use Rattle.ip_codec.specs.declared.rules.Rule.TheVariants.{HairpinNoBinding, Relayed, RelayBad, RelayNoBinding, RelayMute}

abbrev pub name_of : Rule → List ℕ
name_of FrameShort = codes "frame-short"
name_of FrameType = codes "frame-type"
name_of Ip4Malformed = codes "ip4-malformed"
name_of Ip4Checksum = codes "ip4-checksum"
name_of Ip6Malformed = codes "ip6-malformed"
name_of Ip6Chain = codes "ip6-chain"
name_of FragOdd = codes "frag-odd"
name_of FragLong = codes "frag-long"
name_of FragOverlap = codes "frag-overlap"
name_of FragMany = codes "frag-many"
name_of FragFull = codes "frag-full"
name_of NotOurs = codes "not-ours"
name_of NotSoftwire = codes "not-softwire"
name_of InnerMalformed = codes "inner-malformed"
name_of InnerChecksum = codes "inner-checksum"
name_of ToSelf = codes "to-self"
name_of IcmpOff = codes "icmp-off"
name_of IcmpBad = codes "icmp-bad"
name_of NoPort = codes "no-port"
name_of NoBinding = codes "no-binding"
name_of Ttl = codes "ttl"
name_of TooBig = codes "too-big"
name_of HairpinOff = codes "hairpin-off"
name_of HairpinNoBinding = codes "hairpin-no-binding"
name_of Relayed = codes "relayed"
name_of RelayBad = codes "relay-bad"
name_of RelayNoBinding = codes "relay-no-binding"
name_of RelayMute = codes "relay-mute"
