-- What a reader knows of the blocks in front of its place.
use Rattle.std.specs.Prelude.{◌<◌, List, All, IsSome}
use Rattle.pcapng_io.specs.declared.block.Known.{Known}
use Rattle.pcapng_io.specs.declared.interface.Interface.{Interface}

-- its place, the order of the section, the link type of the file's first interface and the time of the last packet; and the
-- section's interfaces
pub record Seen : Type 0 where
  pub known : Known
  pub interfaces : List Interface

abbrev pub seen_by : Known → List Interface → Seen
seen_by known interfaces = record { known = known; interfaces = interfaces }

-- what holds of it wherever a reader stands
pub record IsSoundSeen (seen : Seen) : Type 0 where
  pub time : seen.known.nanos < 1000000000
  pub counted : All (λ interface. 0 < interface.ticks) seen.interfaces
  pub linked : IsSome seen.known.link
