-- Interface description blocks: the link type, how many bytes of a packet are kept, and options, of which one says how
-- the time is counted (draft-ietf-opsawg-pcapng, section 4.2). `left` is what is left from the block's place on.
use Rattle.std.specs.Prelude.{ℕ, zero, suc, ◌+◌, ◌-◌, ◌*◌, ◌/◌, ◌^◌, ◌==◌, nat_lt, Bool, false, not, ◌&&◌, if◌then◌else◌}
use Rattle.std.specs.Prelude.{List, [], ◌∷◌, length, drop, slice_index, Option, Some, None, Result, Ok, Err}
use Rattle.std.specs.List.{list_any}
use Rattle.aftr_base.specs.First.{first_true}
use Rattle.aftr_base.specs.Numbers.{span}
use Rattle.capture_io.specs.Header.{is_known_link}
use Rattle.capture_io.specs.Words.{half_at, word_at}
use Rattle.capture_io.specs.declared.forms.CaptureBad.{CaptureBad}
use Rattle.capture_io.specs.declared.forms.CaptureBad.TheVariants as bad
use Rattle.capture_io.specs.declared.ng_bad.NgBad.{NgBad}
use Rattle.capture_io.specs.declared.ng_bad.NgBad.TheVariants as ng
use Rattle.pcapng_io.specs.declared.frame.Frame.{Frame}
use Rattle.pcapng_io.specs.declared.interface.Interface.{Interface}
use Rattle.pcapng_io.specs.declared.interface.Start.{Start}
use Rattle.pcapng_io.specs.declared.interface.OptionHead.{OptionHead}
use Rattle.pcapng_io.specs.declared.block.Block.{Block}
use Rattle.pcapng_io.specs.declared.block.Block.TheVariants as block
use Rattle.pcapng_io.specs.declared.block.Passed.TheVariants as passed
use Rattle.pcapng_io.specs.Results.{unless, ◌>>=◌}
use Rattle.pcapng_io.specs.Seen.{Seen}

-- an option: a code and a value; a length of 16 bits stands between them, and the value is padded to 4 bytes (section 3.5)
pub record BlockOption : Type 0 where
  pub code : ℕ
  pub value : List ℕ

-- a length, padded to a multiple of 4
abbrev pub padded : ℕ → ℕ
padded count = (count + 3) / 4 * 4

abbrev pub with_first : BlockOption → Option (List BlockOption) → Option (List BlockOption)
with_first option None = None
with_first option (Some options) = Some (option ∷ options)

-- The options at the front of bytes; none where one of them runs past the end. Code 0 ends them, or the end of the bytes. Each
-- takes at least 4 bytes, so there are no more of them than bytes, and the count never runs out.
abbrev pub options_within : ℕ → Bool → List ℕ → Option (List BlockOption)
options_within zero big left = Some []
options_within (suc count) big left =
    if nat_lt (length left) 4 then Some []
    else if half_at big left 0 == 0 then Some []
    else if nat_lt (length left) (4 + half_at big left 2) then None
    else with_first (record { code = half_at big left 0; value = span left 4 (half_at big left 2) })
    (options_within count big (drop (4 + padded (half_at big left 2)) left))

-- the code and the length that an option begins with
abbrev pub option_at : Bool → List ℕ → OptionHead
option_at big left = record { code = half_at big left 0; count = half_at big left 2 }

abbrev pub options_in : Bool → List ℕ → Option (List BlockOption)
options_in big left = options_within (suc (length left)) big left

-- the option that gives the resolution of times (`if_tsresol`, code 9) has one byte
abbrev pub resolution_code : ℕ
resolution_code = 9

abbrev pub is_bad_resolution : BlockOption → Bool
is_bad_resolution option = (option.code == resolution_code) && not (length option.value == 1)

-- the first one's byte, if there is one
abbrev pub first_resolution : List BlockOption → Option ℕ
first_resolution [] = None
first_resolution (option ∷ options) =
    if option.code == resolution_code then Some (slice_index option.value 0) else first_resolution options

-- a tick of 10^-6 seconds where no option says another (section 4.2)
abbrev pub resolution_or_default : Option ℕ → ℕ
resolution_or_default None = 6
resolution_or_default (Some byte) = byte

-- what was found in front goes before what is found behind
abbrev pub first_of : Option ℕ → ℕ → ℕ
first_of None later = later
first_of (Some byte) later = byte

-- the resolution after one option, where this was it before
abbrev pub value_in : ℕ → Option ℕ → BlockOption → Result (Option ℕ) CaptureBad
value_in at found option =
    if not (option.code == resolution_code) then Ok found
    else if not (length option.value == 1) then Err (bad.Ng (ng.Options at))
    else Ok (Some (first_of found (slice_index option.value 0)))

-- the resolution that some options give
abbrev pub resolution_of : ℕ → Option (List BlockOption) → Result (Option ℕ) CaptureBad
resolution_of at None = Err (bad.Ng (ng.Options at))
resolution_of at (Some options) =
    if list_any is_bad_resolution options then Err (bad.Ng (ng.Options at)) else Ok (first_resolution options)

-- The low seven bits are n. A tick is 10^-n seconds where the top bit is clear, and 2^-n seconds where it is set.
abbrev pub ticks_per_second : ℕ → ℕ
ticks_per_second byte = if nat_lt byte 128 then 10 ^ byte else 2 ^ (byte - 128)

-- finer than 10^-19 or 2^-63 seconds, the finest of which a second has a number of ticks below 2^64 (ours)
abbrev pub is_too_fine : ℕ → Bool
is_too_fine byte = if nat_lt byte 128 then nat_lt 19 byte else nat_lt 63 (byte - 128)

abbrev pub interface_of : ℕ → ℕ → ℕ → Result Interface CaptureBad
interface_of at most byte =
    if is_too_fine byte then Err (bad.Ng (ng.Resolution at)) else Ok (record { ticks = ticks_per_second byte; most = most })

-- a link type that is not that of the file's first interface (ours)
abbrev pub is_other_link : Option ℕ → ℕ → Bool
is_other_link None link = false
is_other_link (Some first) link = not (link == first)

abbrev pub link_at : Frame → List ℕ → ℕ
link_at frame left = half_at frame.big left 8

-- what is wrong with an interface before its options: a section has at most 65,536 of them (ours), of link types 1 and 101
abbrev pub interface_refusals : Seen → List ℕ → Frame → List (Bool × NgBad)
interface_refusals seen left frame =
    (nat_lt 65535 (length seen.interfaces), ng.Interfaces seen.known.at)
    ∷ (not (is_known_link (link_at frame left)), ng.Link seen.known.at (link_at frame left))
    ∷ (is_other_link seen.known.link (link_at frame left), ng.MixedLinks seen.known.at)
    ∷ []

-- the bytes from a place up to another
abbrev pub rest_from : List ℕ → ℕ → ℕ → List ℕ
rest_from bytes place end = span bytes place (end - place)

-- the bytes of the options: those between the fixed fields and the last length
abbrev pub option_bytes : Frame → List ℕ → List ℕ
option_bytes frame left = span left 16 (frame.total - 20)

-- the fixed fields, unless they are refused
abbrev pub start_in : Seen → List ℕ → Frame → Result Start CaptureBad
start_in seen left frame =
    unless (first_true (interface_refusals seen left frame)) (Ok (record { link = link_at frame left; most = word_at frame.big left 12 }))

-- the block, by its fixed fields and the resolution that its options give
abbrev pub block_by : ℕ → Start → Option ℕ → Frame → Result Block CaptureBad
block_by at start byte frame =
    interface_of at start.most (resolution_or_default byte) >>= (λ interface. Ok (block.Passed (passed.Interface interface start.link frame.total)))

abbrev pub interface_in : Seen → List ℕ → Frame → Result Block CaptureBad
interface_in seen left frame =
    start_in seen left frame >>= (λ start.
    resolution_of seen.known.at (options_in frame.big (option_bytes frame left)) >>= (λ byte.
    block_by seen.known.at start byte frame))
