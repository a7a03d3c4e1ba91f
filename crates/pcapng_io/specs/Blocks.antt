-- What stands at a place of a pcapng file, and what is known behind it.
use Rattle.std.specs.Prelude.{ℕ, ◌+◌, ◌^◌, ◌==◌, nat_lt, if◌then◌else◌, List, [], ◌∷◌, ◌++◌, length, Option, Some, None, Result, Ok, Err}
use Rattle.aftr_base.specs.Numbers.{span}
use Rattle.capture_io.specs.declared.forms.Rec.{Rec}
use Rattle.capture_io.specs.declared.forms.CaptureBad.{CaptureBad}
use Rattle.capture_io.specs.declared.forms.CaptureBad.TheVariants as bad
use Rattle.capture_io.specs.declared.ng_bad.NgBad.TheVariants as ng
use Rattle.pcapng_io.specs.declared.frame.Frame.{Frame}
use Rattle.pcapng_io.specs.declared.interface.Interface.{Interface}
use Rattle.pcapng_io.specs.declared.block.Known.{Known}
use Rattle.pcapng_io.specs.declared.block.Block.{Block}
use Rattle.pcapng_io.specs.declared.block.Block.TheVariants as block
use Rattle.pcapng_io.specs.declared.block.Packet.{Packet}
use Rattle.pcapng_io.specs.declared.block.Passed.{Passed}
use Rattle.pcapng_io.specs.declared.block.Passed.TheVariants as passed
use Rattle.pcapng_io.specs.Results.{◌>>=◌}
use Rattle.pcapng_io.specs.Seen.{Seen}
use Rattle.pcapng_io.specs.Frames.{frame_in, section_type, interface_type, old_packet_type, simple_packet_type, enhanced_packet_type}
use Rattle.pcapng_io.specs.Interfaces.{interface_in}
use Rattle.pcapng_io.specs.Packets.{section_in, enhanced_in, simple_in}

-- the block of a frame, by its type; a block of any other type is passed over (ours)
abbrev pub body_in : Seen → List ℕ → ℕ → Frame → Result Block CaptureBad
body_in seen left number frame =
    if frame.kind == section_type then section_in seen.known.at left frame
    else if frame.kind == old_packet_type then Err (bad.Ng (ng.Old seen.known.at))
    else if frame.kind == interface_type then interface_in seen left frame
    else if frame.kind == enhanced_packet_type then enhanced_in seen left number frame
    else if frame.kind == simple_packet_type then simple_in seen left number frame
    else Ok (block.Passed (passed.Other frame.total))

-- what stands at the front of what is left, for a packet of this number
abbrev pub block_in : Seen → List ℕ → ℕ → Result Block CaptureBad
block_in seen left number =
    if nat_lt (2 ^ 62) seen.known.at then Err (bad.Ng (ng.Far seen.known.at))
    else if length left == 0 then Ok block.End
    else frame_in seen.known.big left seen.known.at >>= (λ frame. body_in seen left number frame)

-- how many bytes a block has
abbrev pub size_of : Passed → ℕ
size_of (passed.Section big total) = total
size_of (passed.Interface interface link total) = total
size_of (passed.Other total) = total

abbrev pub len_of : Block → ℕ
len_of block.End = 0
len_of (block.Packet p) = p.total
len_of (block.Passed p) = size_of p

-- the link type of the file's first interface
abbrev pub first_link : Option ℕ → ℕ → Option ℕ
first_link None link = Some link
first_link (Some first) link = Some first

-- what is known at the place behind a block: a section begins without interfaces
abbrev pub known_after : Known → Passed → Known
known_after known (passed.Section big total) = record known { at = known.at + total; big = big }
known_after known (passed.Interface interface link total) = record known { at = known.at + total; link = first_link known.link link }
known_after known (passed.Other total) = record known { at = known.at + total }

abbrev pub interfaces_after : List Interface → Passed → List Interface
interfaces_after interfaces (passed.Section big total) = []
interfaces_after interfaces (passed.Interface interface link total) = interfaces ++ interface ∷ []
interfaces_after interfaces (passed.Other total) = interfaces

abbrev pub seen_after : Seen → Passed → Seen
seen_after seen p = record { known = known_after seen.known p; interfaces = interfaces_after seen.interfaces p }

-- and behind a packet
abbrev pub known_behind : Known → Packet → Known
known_behind known p = record known { at = known.at + p.total; seconds = p.seconds; nanos = p.nanos }

abbrev pub seen_behind : Seen → Packet → Seen
seen_behind seen p = record { known = known_behind seen.known p; interfaces = seen.interfaces }

-- the record of a packet block at the front of what is left: it ends with its block
abbrev pub record_of : Known → List ℕ → Packet → Rec
record_of known left p = record { seconds = p.seconds; fraction = p.nanos; bytes = span left p.start p.count; next_at = known.at + p.total }
