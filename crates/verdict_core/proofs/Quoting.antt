-- A quoted packet names a port at both of its ends or at none.
use Rattle.std.proofs.Common.{◌≡◌, ◌==◌, nat_lt, Bool, true, false, not, if◌then◌else◌, length, Option, Some, None, refl}
use Rattle.aftr_base.specs.Numbers.{big_endian, span}
use Rattle.binding_rules.specs.declared.binding.Want.{Want}
use Rattle.binding_rules.specs.declared.binding.Want.TheVariants as want
use Rattle.icmp_codec.specs.Quoted.{EmbeddedPacket}
use Rattle.port_locate.specs.Keys.{destination_at, has_ports, identifier_want, quoted_want, source_at}

by_parts : (later icmp ports short : Bool) (identifier : Option Want) (source destination : Want) →
    (if later then None else if icmp then identifier else if ports then (if short then None else Some source) else Some want.Whole) ≡ None →
    (if later then None else if icmp then identifier else if ports then (if short then None else Some destination) else Some want.Whole) ≡ None
by_parts true icmp ports short identifier source destination none = refl
by_parts false true ports short identifier source destination none = none
by_parts false false true true identifier source destination none = refl
by_parts false false true false identifier source destination none = absurd cc
by_parts false false false short identifier source destination none = absurd cc

pub named_nowhere : (quoted : EmbeddedPacket) → quoted_want quoted source_at ≡ None → quoted_want quoted destination_at ≡ None
named_nowhere quoted =
    by_parts (not (quoted.offset == 0)) (quoted.protocol == 1) (has_ports quoted.protocol) (nat_lt (length quoted.payload) 4)
    (identifier_want quoted.payload) (want.Port (big_endian (span quoted.payload source_at 2))) (want.Port (big_endian (span quoted.payload destination_at 2)))
