-- A tunnel packet by the places of its bytes.
use Rattle.std.proofs.Common.{ℕ, List, refl}
use Rattle.aftr_base.specs.declared.numbers.V6.{V6}
use Rattle.softwire_encap.specs.Places.{IsTunnelPacket}
use Rattle.softwire_encap.specs.Tunnel.{wrapped}

pub tunnel_stands : (from to : V6) (limit : ℕ) (inner : List ℕ) → IsTunnelPacket from to limit inner (wrapped from to limit inner)
tunnel_stands from to limit inner =
    record { first_word = refl; payload_length = refl; next_header = refl; hop_limit = refl; source = refl; destination = refl; behind = refl }
