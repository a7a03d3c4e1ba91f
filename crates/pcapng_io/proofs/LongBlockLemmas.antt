-- A long block, by its front and its end.
use Rattle.std.proofs.Common.{◌≡◌, ℕ, ◌+◌, ◌-◌, ◌^◌, ◌<◌, ◌≤◌, ◌==◌, nat_lt, false, List, [], ◌∷◌, length, drop, Option, Some, None, Result, Ok, Err, refl, sym, ◌∙◌, ap, subst, arith}
use Rattle.std.proofs.lemmas.Bool.Decides.{nat_tests}
use Rattle.aftr_io.specs.Contents.{Contents, content}
use Rattle.aftr_base.specs.First.{first_true}
use Rattle.capture_io.specs.Answers.{Agrees}
use Rattle.capture_io.specs.Fronts.{IsStart}
use Rattle.capture_io.specs.declared.forms.CaptureBad.{CaptureBad}
use Rattle.capture_io.specs.declared.forms.CaptureError.{CaptureError}
use Rattle.capture_io.specs.declared.ng_bad.NgBad.{NgBad}
use Rattle.pcapng_io.specs.declared.block.Block.{Block}
use Rattle.pcapng_io.specs.declared.block.Block.TheVariants as block
use Rattle.pcapng_io.specs.declared.block.Passed.{Passed}
use Rattle.pcapng_io.specs.declared.frame.Frame.{Frame}
use Rattle.pcapng_io.specs.declared.fronts.Front.TheVariants as front
use Rattle.pcapng_io.specs.Results.{unless, ◌>>=◌}
use Rattle.pcapng_io.specs.Seen.{Seen}
use Rattle.pcapng_io.specs.Blocks.{block_in, body_in, size_of}
use Rattle.pcapng_io.specs.Files.{IsBefore}
use Rattle.pcapng_io.specs.Frames.{head_in}
use Rattle.pcapng_io.specs.Fronts.{front_in, needed_by}
use Rattle.pcapng_io.specs.Long.{IsInLong, StandsAt, StandsIn, WithFront, ended, tail_of}
use Rattle.capture_io.specs.Windows.{Ahead}
use Rattle.pcapng_io.proofs.BlockLemmas.{block_frame, body_total, HasTotal, near}
use Rattle.pcapng_io.proofs.FrameLemmas.{frame_head, head_is, head_refused, head_sound, tail_of_is}
use Rattle.pcapng_io.proofs.StartLemmas.{fields_same, head_same, open_short, start_long, to_body}

-- the same behind a test that gives one frame alone
one_frame : {A : Type 0} (refusal : Option NgBad) (frame : Frame) (f : Frame → Result A CaptureBad) → (unless refusal (Ok frame) >>= f) ≡ (unless refusal (Ok frame) >>= (λ x. f frame))
one_frame None frame f = refl
one_frame (Some refusal) frame f = refl

-- a front that is long and open: what it says of its block
pub record IsLong (seen : Seen) (first : List ℕ) (frame : Frame) : Type 0 where
  pub near : seen.known.at ≤ 2 ^ 62
  pub head : head_in seen.known.big first seen.known.at ≡ Ok frame
  pub long : 262176 ≤ length first
  pub less : length first < frame.total

pub is_near : (seen : Seen) (window : Ahead) (number : ℕ) → front_in seen window.bytes window.last number ≡ front.More → seen.known.at ≤ 2 ^ 62
is_near seen window number is_open = (open_short seen window.bytes window.last number is_open).near_by

pub is_long : (seen : Seen) (window : Ahead) (number : ℕ) (slice : List ℕ) (head : Result Frame CaptureBad) (frame : Frame) → front_in seen window.bytes window.last number ≡ front.More → 262176 ≤ length window.bytes →
    slice ≡ window.bytes → head ≡ head_in seen.known.big slice seen.known.at → head ≡ Ok frame → IsLong seen window.bytes frame
is_long seen window number slice head frame is_open long same is e =
    let short = open_short seen window.bytes window.last number is_open in
    let there : head_in seen.known.big window.bytes seen.known.at ≡ Ok frame = ap (λ l. head_in seen.known.big l seen.known.at) (sym same) ∙ (sym is ∙ e) in
    record { near = short.near_by; head = there; long = long; less = omega (arith, short.less, ap needed_by there) }

some_bytes : (l : List ℕ) → 12 ≤ length l → (length l == 0) ≡ false
some_bytes l h = grind (arith, nat_tests)

pub head_failed : (seen : Seen) (first slice left : List ℕ) (number : ℕ) (head : Result Frame CaptureBad) (refusal : CaptureBad) → seen.known.at ≤ 2 ^ 62 → 262176 ≤ length first → slice ≡ first →
    head ≡ head_in seen.known.big slice seen.known.at → head ≡ Err refusal → IsStart first left → block_in seen left number ≡ Err refusal
head_failed seen first slice left number head refusal n long same is e s =
    let there : head_in seen.known.big left seen.known.at ≡ Err refusal =
    head_same seen.known.big first left seen.known.at s (omega (arith, long)) ∙ (ap (λ l. head_in seen.known.big l seen.known.at) (sym same) ∙ (sym is ∙ e)) in
    to_body seen left number (near seen.known.at n) (some_bytes left (omega (arith, long, start_long first left s)))
    ∙ ap (λ r. r >>= (λ f. body_in seen left number f)) (head_refused seen.known.big left seen.known.at refusal there)

module _ (seen : Seen) (first left : List ℕ) (number : ℕ) (frame : Frame) (long : IsLong seen first frame) (s : IsStart first left) where
  head_there : head_in seen.known.big left seen.known.at ≡ Ok frame
  head_there = head_same seen.known.big first left seen.known.at s (omega (arith, long.long)) ∙ long.head

  -- the block is what its body says, where its end lets that stand
  pub block_ended : block_in seen left number ≡ ended frame left seen.known.at (body_in seen left number frame)
  block_ended =
      let some = (head_sound seen.known.big first seen.known.at frame long.head).some in
      to_body seen left number (near seen.known.at long.near) (some_bytes left (omega (arith, long.long, start_long first left s)))
      ∙ (ap (λ r. r >>= (λ f. body_in seen left number f)) (tail_of_is seen.known.big left seen.known.at frame head_there some)
      ∙ one_frame (first_true ((nat_lt (length (drop (frame.total - 4) left)) 4, _) ∷ (_, _) ∷ [])) frame (λ f. body_in seen left number f))

  pub long_inside : (place : ℕ) (b : Block) → place < seen.known.at + frame.total → block_in seen left number ≡ Ok b → IsBefore place seen.known.at b
  long_inside place b within e =
      block_frame seen left number b place long.near
      (λ other f.
      let is : other ≡ frame = sym (head_is seen.known.big left seen.known.at other (frame_head seen.known.big left seen.known.at other f)) ∙ head_is seen.known.big left seen.known.at frame head_there in
      omega (arith, within, ap (λ (x : Frame). x.total) is)) e

-- what the fields say, where the end lets it stand
fields_told : (seen : Seen) (window : Ahead) (slice left : List ℕ) (number : ℕ) (frame f : Frame) (read said : Result Block CaptureBad) → (frame.kind ≡ 1 → ⊥) → 262176 ≤ length window.bytes → slice ≡ window.bytes →
    read ≡ body_in seen slice number frame → read ≡ said → IsStart window.bytes left → tail_of frame left seen.known.at ≡ Ok f → ended frame left seen.known.at (body_in seen left number frame) ≡ said
fields_told seen window slice left number frame f read said kind long same is e s t =
    ap (λ r. r >>= (λ x. body_in seen left number frame)) t
    ∙ (fields_same seen window.bytes left number frame s kind (omega (arith, long)) ∙ (ap (λ l. body_in seen l number frame) (sym same) ∙ (sym is ∙ e)))

-- the same of all bytes that begin with the window
pub with_fields : (held : Option Contents) (name : List ℕ) (seen : Seen) (window : Ahead) (slice : List ℕ) (number : ℕ) (frame f : Frame) (read said : Result Block CaptureBad) → (frame.kind ≡ 1 → ⊥) →
    262176 ≤ length window.bytes → slice ≡ window.bytes → read ≡ body_in seen slice number frame → read ≡ said →
    WithFront held name seen.known.at window (λ all. tail_of frame (drop seen.known.at all) seen.known.at ≡ Ok f) →
    WithFront held name seen.known.at window (λ all. ended frame (drop seen.known.at all) seen.known.at (body_in seen (drop seen.known.at all) number frame) ≡ said)
with_fields None name seen window slice number frame f read said kind long same is e told = tt
with_fields (Some m) name seen window slice number frame f read said kind long same is e told = λ s.
    fields_told seen window slice (drop seen.known.at (content m name)) number frame f read said kind long same is e s.start (told s)

pub passed_size : (seen : Seen) (slice : List ℕ) (number : ℕ) (frame : Frame) (read : Result Block CaptureBad) (b : Block) (p : Passed) → read ≡ body_in seen slice number frame → read ≡ Ok b → b ≡ block.Passed p → size_of p ≡ frame.total
passed_size seen slice number frame read b p is e same = subst (λ (x : Block). HasTotal frame.total x) same (body_total seen slice number frame b (sym is ∙ e))

pub never_end : (seen : Seen) (slice : List ℕ) (number : ℕ) (frame : Frame) (read : Result Block CaptureBad) (b : Block) → read ≡ body_in seen slice number frame → read ≡ Ok b → b ≡ block.End → ⊥
never_end seen slice number frame read b is e same = subst (λ (x : Block). HasTotal frame.total x) same (body_total seen slice number frame b (sym is ∙ e))

pub with_size : (held : Option Contents) (name : List ℕ) (at total : ℕ) (first window : Ahead) (b : Block) (p : Passed) → b ≡ block.Passed p → size_of p ≡ total → WithFront held name at first (StandsAt (at + total) window) →
    WithFront held name at first (λ all. StandsIn all at window b)
with_size held name at total first window b p is same s =
    let moved : WithFront held name at first (StandsAt (at + size_of p) window) = subst (λ n. WithFront held name at first (StandsAt (at + n) window)) (sym same) s in
    subst (λ (x : Block). WithFront held name at first (λ all. StandsIn all at window x)) (sym is) moved

-- a place of the block, as the answers of a long one tell it
pub in_long : (held : Option Contents) (name : List ℕ) (seen : Seen) (number : ℕ) (window : Ahead) (frame : Frame) (place : ℕ) → IsLong seen window.bytes frame → (seen.known.at ≤ place) × (place < seen.known.at + frame.total) →
    IsInLong held name seen number window place
in_long None name seen number window frame place long within = (within.0, tt)
in_long (Some m) name seen number window frame place long within = (
  within.0,
  λ f b e. long_inside seen window.bytes (drop seen.known.at (content m name)) number frame long f.start place b within.1 e,
)

agrees_same : (e : CaptureError) (a b : Result Block CaptureBad) → a ≡ b → Agrees {T = Block} (Err e) b → Agrees {T = Block} (Err e) a
agrees_same e a b same told = subst (λ (r : Result Block CaptureBad). Agrees {T = Block} (Err e) r) (sym same) told

pub long_failed : (held : Option Contents) (name : List ℕ) (seen : Seen) (number : ℕ) (window : Ahead) (frame : Frame) (e : CaptureError) → IsLong seen window.bytes frame →
    WithFront held name seen.known.at window (λ all. Agrees {T = Block} (Err e) (ended frame (drop seen.known.at all) seen.known.at (body_in seen (drop seen.known.at all) number frame))) →
    WithFront held name seen.known.at window (λ all. Agrees {T = Block} (Err e) (block_in seen (drop seen.known.at all) number))
long_failed None name seen number window frame e long told = tt
long_failed (Some m) name seen number window frame e long told = λ f.
    let left = drop seen.known.at (content m name) in
    agrees_same e (block_in seen left number) (ended frame left seen.known.at (body_in seen left number frame)) (block_ended seen window.bytes left number frame long f.start) (told f)

pub long_told : (held : Option Contents) (name : List ℕ) (seen : Seen) (number : ℕ) (window : Ahead) (frame : Frame) (said : Result Block CaptureBad) → IsLong seen window.bytes frame →
    WithFront held name seen.known.at window (λ all. ended frame (drop seen.known.at all) seen.known.at (body_in seen (drop seen.known.at all) number frame) ≡ said) →
    WithFront held name seen.known.at window (λ all. block_in seen (drop seen.known.at all) number ≡ said)
long_told None name seen number window frame said long told = tt
long_told (Some m) name seen number window frame said long told = λ f.
    block_ended seen window.bytes (drop seen.known.at (content m name)) number frame long f.start ∙ told f

pub head_told : (held : Option Contents) (name : List ℕ) (seen : Seen) (window : Ahead) (slice : List ℕ) (number : ℕ) (head : Result Frame CaptureBad) (refusal : CaptureBad) → seen.known.at ≤ 2 ^ 62 → 262176 ≤ length window.bytes →
    slice ≡ window.bytes → head ≡ head_in seen.known.big slice seen.known.at → head ≡ Err refusal →
    WithFront held name seen.known.at window (λ all. block_in seen (drop seen.known.at all) number ≡ Err refusal)
head_told None name seen window slice number head refusal n long same is e = tt
head_told (Some m) name seen window slice number head refusal n long same is e = λ f.
    head_failed seen window.bytes slice (drop seen.known.at (content m name)) number head refusal n long same is e f.start
