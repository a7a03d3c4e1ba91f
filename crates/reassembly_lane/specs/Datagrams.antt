-- A datagram put together from parts by their offsets (RFC 791, section 3.2; RFC 8200, section 4.5).
use Rattle.std.specs.Prelude.{◌≡◌, ℕ, List, All, length, take, drop}
use Rattle.reassembly_lane.specs.declared.parts.Part.{Part}
use Rattle.reassembly_lane.specs.Parts.{start}

-- the bytes of a part stand at 8 times its offset
abbrev pub StandsIn : List ℕ → Part → Type 0
StandsIn bytes part = take (length part.body) (drop (start part) bytes) ≡ part.body

-- as many bytes as the end says, and each part's bytes at their place
pub record IsDatagram (parts : List Part) (end : ℕ) (bytes : List ℕ) : Type 0 where
  pub long : length bytes ≡ end
  pub each : All (StandsIn bytes) parts
