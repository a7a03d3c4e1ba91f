-- An interface from its fixed fields and its options.
use Rattle.std.proofs.Common.{◌≡◌, ℕ, ◌-◌, ◌≤◌, List, drop, take, Option, Result, Ok, sym, ◌∙◌, ap, arith}
use Rattle.capture_io.specs.declared.forms.CaptureBad.{CaptureBad}
use Rattle.pcapng_io.specs.declared.frame.Frame.{Frame}
use Rattle.pcapng_io.specs.declared.interface.Start.{Start}
use Rattle.pcapng_io.specs.declared.block.Block.{Block}
use Rattle.pcapng_io.specs.Results.{◌>>=◌}
use Rattle.pcapng_io.specs.Seen.{Seen}
use Rattle.pcapng_io.specs.Interfaces.{block_by, interface_in, option_bytes, options_in, resolution_of, rest_from, start_in}

abbrev pub resolution_in : Seen → List ℕ → Frame → Result (Option ℕ) CaptureBad
resolution_in seen left frame = resolution_of seen.known.at (options_in frame.big (option_bytes frame left))

abbrev pub from_resolution : Seen → Frame → Start → Result (Option ℕ) CaptureBad → Result Block CaptureBad
from_resolution seen frame start resolution = resolution >>= (λ byte. block_by seen.known.at start byte frame)

abbrev from_start : Seen → List ℕ → Frame → Result Start CaptureBad → Result Block CaptureBad
from_start seen left frame start = start >>= (λ s. from_resolution seen frame s (resolution_in seen left frame))

-- the block at the front, by what was read of its fields and of its options
pub front_interface : (seen : Seen) (first : List ℕ) (frame : Frame) (start : Result Start CaptureBad) (s : Start) (read found : Result (Option ℕ) CaptureBad) → 20 ≤ frame.total →
    start ≡ start_in seen first frame → start ≡ Ok s → read ≡ resolution_of seen.known.at (options_in frame.big (rest_from first 16 (frame.total - 4))) → read ≡ found →
    interface_in seen first frame ≡ from_resolution seen frame s found
front_interface seen first frame start s read found least st is r e =
    let size : frame.total - 20 ≡ frame.total - 4 - 16 = omega arith in
    let same : resolution_in seen first frame ≡ found =
    ap (λ n. resolution_of seen.known.at (options_in frame.big (take n (drop 16 first)))) size ∙ (sym r ∙ e) in
    ap (from_start seen first frame) (sym st ∙ is) ∙ ap (from_resolution seen frame s) same
