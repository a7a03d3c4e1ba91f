-- The next packet's record, from the walk to its block.
use Rattle.std.proofs.Common.{◌≡◌, ℕ, List, drop, Option, Some, None, Result, Ok, Err, sym, ◌∙◌, subst}
use Rattle.aftr_io.specs.Contents.{Contents, content, Told}
use Rattle.capture_io.specs.declared.forms.Rec.{Rec}
use Rattle.capture_io.specs.declared.forms.CaptureBad.{CaptureBad}
use Rattle.capture_io.specs.declared.forms.CaptureError.{CaptureError}
use Rattle.capture_io.specs.declared.forms.CaptureError.TheVariants as error
use Rattle.pcapng_io.specs.declared.interface.Interface.{Interface}
use Rattle.pcapng_io.specs.declared.block.Known.{Known}
use Rattle.pcapng_io.specs.declared.record.Found.{Found}
use Rattle.pcapng_io.specs.declared.walk.Sighted.{Sighted}
use Rattle.pcapng_io.specs.Seen.{Seen, seen_by}
use Rattle.pcapng_io.specs.Blocks.{known_behind, record_of}
use Rattle.pcapng_io.specs.Captures.{Gives, next_in, Step}
use Rattle.pcapng_io.specs.Files.{left_at}
use Rattle.pcapng_io.specs.Answers.{IsFound, IsSighted, step_at}

error_by : (e : CaptureError) (before now : List Interface) (bytes : List ℕ) (step : Result Step CaptureBad) → IsSighted (Err e) before bytes step → IsFound (Err e) now step
error_by (error.Bad refusal) before now bytes step h = h
error_by error.ReadFault before now bytes step h = tt
error_by error.OutOfMemory before now bytes step h = tt

pub sight_failed : (held : Option Contents) (name : List ℕ) (seen : Seen) (number : ℕ) (now : List Interface) (result : Result (Option Found) CaptureError) (e : CaptureError) → result ≡ Err e →
    Told held (λ m. IsSighted (Err e) now (content m name) (next_in seen (left_at m name seen.known.at) number)) → Told held (λ m. IsFound result now (next_in seen (left_at m name seen.known.at) number))
sight_failed None name seen number now result e is h = tt
sight_failed (Some m) name seen number now result e is h =
    subst (λ (r : Result (Option Found) CaptureError). IsFound r now (next_in seen (left_at m name seen.known.at) number)) (sym is)
    (error_by e now now (content m name) (next_in seen (left_at m name seen.known.at) number) h)

-- what was told of the packet's block, with the answer of the walk in full
pub sighted_at : (held : Option Contents) (name : List ℕ) (seen : Seen) (number : ℕ) (now : List Interface) (found : Option Sighted) (s : Sighted) → found ≡ Some s →
    Told held (λ m. IsSighted (Ok found) now (content m name) (next_in seen (left_at m name seen.known.at) number)) → Told held (λ m. next_in seen (left_at m name seen.known.at) number ≡ Ok (step_at s now (content m name)))
sighted_at held name seen number now found s is h = subst (λ (o : Option Sighted). Told held (λ m. IsSighted (Ok o) now (content m name) (next_in seen (left_at m name seen.known.at) number))) is h

pub found_told : (held : Option Contents) (name : List ℕ) (seen : Seen) (number : ℕ) (now : List Interface) (s : Sighted) (r : Rec) (behind : Known) →
    Told held (λ m. next_in seen (left_at m name seen.known.at) number ≡ Ok (step_at s now (content m name))) → Told held (λ m. r ≡ record_of s.known (left_at m name s.known.at) s.packet) →
    behind ≡ known_behind s.known s.packet → Told held (λ m. next_in seen (left_at m name seen.known.at) number ≡ Ok (Gives r (seen_by behind (drop s.first now))))
found_told None name seen number now s r behind e is k = tt
found_told (Some m) name seen number now s r behind e is k = e ∙ (λ i. Ok (Gives (sym is i) (seen_by (sym k i) (drop s.first now))))
