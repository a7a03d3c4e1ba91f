-- Which records the limit on errors keeps back. RFC 4443, section 2.4 (f), asks for such a limit; that all records of a run
-- share one, and that it is asked in their order, is ours.
use Rattle.std.specs.Prelude.{◌≡◌, ℕ, ◌+◌, Bool, true, false, not, List, [], ◌∷◌, ◌++◌, length, map, replicate, Option, Some, None, slice_get}
use Rattle.std.specs.Option.{option_map}
use Rattle.capture_io.specs.Record.{nanoseconds}
use Rattle.capture_io.specs.declared.forms.Form.{Form}
use Rattle.capture_io.specs.declared.forms.Rec.{Rec}
use Rattle.error_limit.specs.Limits.{Bucket, IsMarked, Stands}
use Rattle.item_stage.specs.Items.{items_in}
use Rattle.item_stage.specs.declared.entries.Entry.{Entry}
use Rattle.ip_codec.specs.declared.items.Item.{Item}
use Rattle.run_output.specs.Outputs.{Course, verdict_at}
use Rattle.verdict_core.specs.declared.verdicts.Reply.{Reply}
use Rattle.verdict_core.specs.declared.verdicts.Reply.TheVariants as reply
use Rattle.verdict_core.specs.declared.verdicts.Verdict.{Verdict}
use Rattle.verdict_core.specs.declared.verdicts.Verdict.TheVariants as verdict

abbrev pub is_told : Reply → Bool
is_told reply.Silent = false
is_told _ = true

-- an error goes to the sender of the packet
abbrev pub tells : Verdict → Bool
tells (verdict.Drop why told) = is_told told
tells _ = false

-- an error's record by its number, and its time in nanoseconds
pub record Told : Type 0 where
  pub number : ℕ
  pub time : ℕ

abbrev pub told_if : Bool → ℕ → ℕ → List Told
told_if true number time = (record { number = number; time = time }) ∷ []
told_if false number time = []

-- the errors about the records of a capture of this form, from a number on, in the order of the records
abbrev pub told_from : Course → Form → ℕ → List Rec → List Entry → List Told
told_from c form number (r ∷ rs) (e ∷ es) =
    told_if (tells (verdict_at c number e.item)) number (nanoseconds form r.seconds r.fraction) ++ told_from c form (number + 1) rs es
told_from c form number _ _ = []

abbrev pub times_of : List Told → List ℕ
times_of told = map (λ t. t.time) told

-- which of the errors are sent
abbrev pub passed_in : Course → List Told → List Bool
passed_in c told = map (λ t. not (c.limited t.number)) told

-- Which errors are sent, by their times in order: those that a limit of so many a second lets through, or all where there is no
-- limit.
abbrev pub AreSent : Option ℕ → List ℕ → List Bool → Type 0
AreSent (Some rate) times sent = IsMarked rate times sent
AreSent None times sent = sent ≡ replicate (length times) true

-- The limit keeps back errors alone, and of the errors about the first records of a run just those that it does not let through.
pub record IsLimited (rate : Option ℕ) (form : Form) (rs : List Rec) (es : List Entry) (c : Course) : Type 0 where
  pub errors : (number : ℕ) (i : Item) → slice_get (items_in es) number ≡ Some i → c.limited number ≡ true → tells (verdict_at c number i) ≡ true
  pub sent : AreSent rate (times_of (told_from c form 0 rs es)) (passed_in c (told_from c form 0 rs es))

-- how many errors a second a limiter lets through
abbrev pub rate_of : Option Bucket → Option ℕ
rate_of limit = option_map (λ b. b.rate) limit

-- a limiter was asked about errors of these times, and marked those that are sent so
abbrev pub WasAsked : Option Bucket → List ℕ → List Bool → Type 0
WasAsked (Some b) times sent = Stands b times sent
WasAsked None times sent = sent ≡ replicate (length times) true

-- a limiter was asked about all errors about these first records of a run, and about nothing else
abbrev pub HasAsked : Form → List Rec → List Entry → Course → Option Bucket → Type 0
HasAsked form rs es c limit = (sent : List Bool) × WasAsked limit (times_of (told_from c form 0 rs es)) sent
