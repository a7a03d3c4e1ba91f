-- What is true of all that waits in lanes of IPv4 fragments.
use Rattle.std.specs.Prelude.{◌≡◌, ℕ, ◌+◌, ◌%◌, ◌<◌, ◌≤◌, List, length}
use Rattle.std.specs.List.{All}
use Rattle.std.specs.Map.{values_of}
use Rattle.reassembly_lane.specs.Contexts.{Partial}
use Rattle.reassembly_lane.specs.declared.answer.Answer.{Answer}
use Rattle.reassembly_lane.specs.declared.answer.Answer.TheVariants as answer
use Rattle.reassembly_lane.specs.declared.parts.Part.{Part}
use Rattle.item_stage.specs.declared.rows.Rows.{Rows}

-- an IPv4 header: whole words of four bytes, five to fifteen of them (RFC 791, section 3.1)
pub record IsHeader (head : List ℕ) : Type 0 where
  pub words : length head % 4 ≡ 0
  pub least : 20 ≤ length head
  pub most : length head ≤ 60

-- a first fragment has a header, whose length counts towards that of its datagram
pub record HasHeader (part : Part) : Type 0 where
  pub header : part.offset ≡ 0 → IsHeader part.head
  pub counts : part.offset ≡ 0 → part.extra ≡ length part.head

-- and a part that waits has bytes
pub record IsKept (part : Part) : Type 0 where
  pub filled : 0 < length part.body
  pub headed : HasHeader part

-- each part of what is kept of a datagram
abbrev pub PartsKept : Partial → Type 0
PartsKept partial = All IsKept partial.parts

abbrev pub EachContext : {K : Type 0} → List (K × Partial) → Type 0
EachContext es = All PartsKept (values_of es)

abbrev pub EachLane : {K : Type 0} → List (List (K × Partial)) → Type 0
EachLane lanes = All EachContext lanes

-- the rows of IPv4 fragments
pub record HaveHeaders (rows : Rows) : Type 0 where
  pub inner : EachLane rows.inner
  pub down : EachLane rows.down

-- a datagram put together has a header, and no more bytes than a datagram can have
abbrev pub CanBeJoined : Answer → Type 0
CanBeJoined answer.Held = Unit {0}
CanBeJoined (answer.Whole head body) = IsHeader head × (length head + length body ≤ 65535)
CanBeJoined (answer.Refused why) = Unit {0}
