-- A frame from the first twelve bytes of a block and its last four.
use Rattle.std.proofs.Common.{◌≡◌, ℕ, ◌-◌, ◌≤◌, ◌%◌, ◌==◌, nat_lt, Bool, true, false, not, ◌&&◌, ◌||◌, if◌then◌else◌, List, [], ◌∷◌, length, drop, take, Result, Ok, Err, refl, sym, ◌∙◌, ap, subst, arith}
use Rattle.std.proofs.lemmas.List.{length-drop, length-take}
use Rattle.std.proofs.lemmas.Bool.Decides.{nat_tests}
use Rattle.aftr_base.specs.First.{first_true}
use Rattle.capture_io.specs.Words.{word_at}
use Rattle.capture_io.specs.declared.forms.CaptureBad.{CaptureBad}
use Rattle.capture_io.specs.declared.ng_bad.NgBad.TheVariants as ng
use Rattle.pcapng_io.specs.declared.frame.Frame.{Frame}
use Rattle.pcapng_io.specs.Results.{unless}
use Rattle.pcapng_io.specs.Frames.{begins_section, enhanced_packet_type, frame_at, frame_in, has_no_order, head_in, interface_type, is_no_total, least_total, section_type, simple_packet_type}
use Rattle.pcapng_io.specs.Long.{tail_in, tail_of}
use Rattle.capture_io.proofs.LawLemmas.{span_front, short_front}

-- the answers, by what the tests gave
abbrev head_by : Bool → Bool → Bool → ℕ → Frame → Result Frame CaptureBad
head_by cut order size at frame = unless (first_true ((cut, ng.Cut at) ∷ (order, ng.Order at) ∷ (size, ng.Length at) ∷ [])) (Ok frame)

abbrev tail_by : Bool → Bool → ℕ → Frame → Result Frame CaptureBad
tail_by less differs at frame = unless (first_true ((less, ng.Cut at) ∷ (differs, ng.Length at) ∷ [])) (Ok frame)

abbrev frame_by : Bool → Bool → Bool → Bool → Bool → ℕ → Frame → Result Frame CaptureBad
frame_by cut order size less differs at frame =
    unless (first_true ((cut, ng.Cut at) ∷ (order, ng.Order at) ∷ (size, ng.Length at) ∷ (less, ng.Cut at) ∷ (differs, ng.Length at) ∷ [])) (Ok frame)

refused_by : (cut order size less differs : Bool) (at : ℕ) (frame : Frame) (refusal : CaptureBad) →
    head_by cut order size at frame ≡ Err refusal → frame_by cut order size less differs at frame ≡ Err refusal
refused_by true order size less differs at frame refusal e = e
refused_by false true size less differs at frame refusal e = e
refused_by false false true less differs at frame refusal e = e
refused_by false false false less differs at frame refusal e = absurd (cc)

tail_is_by : (cut order size less differs : Bool) (at : ℕ) (frame other : Frame) →
    head_by cut order size at frame ≡ Ok other → frame_by cut order size less differs at frame ≡ tail_by less differs at frame
tail_is_by true order size less differs at frame other e = absurd (cc)
tail_is_by false true size less differs at frame other e = absurd (cc)
tail_is_by false false true less differs at frame other e = absurd (cc)
tail_is_by false false false less differs at frame other e = refl

head_is_by : (cut order size : Bool) (at : ℕ) (frame other : Frame) → head_by cut order size at frame ≡ Ok other → frame ≡ other
head_is_by true order size at frame other e = absurd (cc)
head_is_by false true size at frame other e = absurd (cc)
head_is_by false false true at frame other e = absurd (cc)
head_is_by false false false at frame other e = cc

-- what is known of a frame
record Passed (size less : Bool) (frame other : Frame) : Type 0 where
  passed_is : frame ≡ other
  passed_size : size ≡ false
  passed_less : less ≡ false

passed_by : (cut order size less differs : Bool) (at : ℕ) (frame other : Frame) → frame_by cut order size less differs at frame ≡ Ok other → Passed size less frame other
passed_by true order size less differs at frame other e = absurd (cc)
passed_by false true size less differs at frame other e = absurd (cc)
passed_by false false true less differs at frame other e = absurd (cc)
passed_by false false false true differs at frame other e = absurd (cc)
passed_by false false false false true at frame other e = absurd (cc)
passed_by false false false false false at frame other e = record { passed_is = cc; passed_size = refl; passed_less = refl }

pub head_front : (big : Bool) (left : List ℕ) (at : ℕ) → head_in big (take 12 left) at ≡ head_in big left at
head_front big left at =
    rw (short_front left 12, span_front left 12 0 4 (omega arith), span_front left 12 4 4 (omega arith), span_front left 12 8 4 (omega arith)) refl

pub head_is : (big : Bool) (left : List ℕ) (at : ℕ) (frame : Frame) → head_in big left at ≡ Ok frame → frame_at big left ≡ frame
head_is big left at frame e = head_is_by (nat_lt (length left) 12) (begins_section left && has_no_order left) (is_no_total (frame_at big left)) at (frame_at big left) frame e

pub head_refused : (big : Bool) (left : List ℕ) (at : ℕ) (refusal : CaptureBad) → head_in big left at ≡ Err refusal → frame_in big left at ≡ Err refusal
head_refused big left at refusal e =
    refused_by (nat_lt (length left) 12) (begins_section left && has_no_order left) (is_no_total (frame_at big left)) (nat_lt (length left) (frame_at big left).total)
    (not (word_at (frame_at big left).big left ((frame_at big left).total - 4) == (frame_at big left).total)) at (frame_at big left) refusal e

tail_short : (left : List ℕ) (total : ℕ) → 4 ≤ total → nat_lt (length (take 4 (drop (total - 4) left))) 4 ≡ nat_lt (length left) total
tail_short left total some = grind (arith, nat_tests, length-take 4 (drop (total - 4) left), length-drop (total - 4) left)

tail_same : (frame : Frame) (left : List ℕ) (at : ℕ) → 4 ≤ frame.total →
    tail_in frame (take 4 (drop (frame.total - 4) left)) at ≡ tail_by (nat_lt (length left) frame.total) (not (word_at frame.big left (frame.total - 4) == frame.total)) at frame
tail_same frame left at some = rw (tail_short left frame.total some, span_front (drop (frame.total - 4) left) 4 0 4 (omega arith)) refl

pub tail_is : (big : Bool) (left : List ℕ) (at : ℕ) (frame : Frame) → head_in big left at ≡ Ok frame → 12 ≤ frame.total →
    frame_in big left at ≡ tail_in frame (take 4 (drop (frame.total - 4) left)) at
tail_is big left at frame e some =
    let is : frame_at big left ≡ frame = head_is big left at frame e in
    let P : Frame → Type 0 = λ f. tail_by (nat_lt (length left) f.total) (not (word_at f.big left (f.total - 4) == f.total)) at f ≡ tail_in frame (take 4 (drop (frame.total - 4) left)) at in
    tail_is_by (nat_lt (length left) 12) (begins_section left && has_no_order left) (is_no_total (frame_at big left)) (nat_lt (length left) (frame_at big left).total)
    (not (word_at (frame_at big left).big left ((frame_at big left).total - 4) == (frame_at big left).total)) at (frame_at big left) frame e
    ∙ subst P (sym is) (sym (tail_same frame left at (omega arith)))

least_by : (s i e p : Bool) → 12 ≤ (if s then 28 else if i then 20 else if e then 32 else if p then 16 else 12)
least_by true i e p = omega arith
least_by false true e p = omega arith
least_by false false true p = omega arith
least_by false false false true = omega arith
least_by false false false false = omega arith

pub least_some : (kind : ℕ) → 12 ≤ least_total kind
least_some kind = least_by (kind == section_type) (kind == interface_type) (kind == enhanced_packet_type) (kind == simple_packet_type)

pub record IsFrame (big : Bool) (left : List ℕ) (frame : Frame) : Type 0 where
  pub is : frame_at big left ≡ frame
  pub least : least_total frame.kind ≤ frame.total
  pub some : 12 ≤ frame.total
  pub whole : frame.total ≤ length left

or_right : (a b : Bool) → (a || b) ≡ false → b ≡ false
or_right true b e = absurd (cc)
or_right false b e = e

-- what is known of a frame by the first twelve bytes alone
pub record IsHead (left : List ℕ) (frame : Frame) : Type 0 where
  pub least : least_total frame.kind ≤ frame.total
  pub some : 12 ≤ frame.total
  pub there : 12 ≤ length left

head_passed_by : (cut order size : Bool) (at : ℕ) (frame other : Frame) → head_by cut order size at frame ≡ Ok other → (size ≡ false) × (cut ≡ false)
head_passed_by true order size at frame other e = absurd (cc)
head_passed_by false true size at frame other e = absurd (cc)
head_passed_by false false true at frame other e = absurd (cc)
head_passed_by false false false at frame other e = (refl, refl)

frame_sizes : (frame : Frame) → is_no_total frame ≡ false → least_total frame.kind ≤ frame.total
frame_sizes frame e =
    let size : nat_lt frame.total (least_total frame.kind) ≡ false = or_right (not (frame.total % 4 == 0)) (nat_lt frame.total (least_total frame.kind)) e in
    grind (arith, nat_tests)

pub frame_is : (big : Bool) (left : List ℕ) (at : ℕ) (frame : Frame) → frame_in big left at ≡ Ok frame → IsFrame big left frame
frame_is big left at frame e =
    let passed = passed_by (nat_lt (length left) 12) (begins_section left && has_no_order left) (is_no_total (frame_at big left)) (nat_lt (length left) (frame_at big left).total)
    (not (word_at (frame_at big left).big left ((frame_at big left).total - 4) == (frame_at big left).total)) at (frame_at big left) frame e in
    let size : is_no_total frame ≡ false = subst (λ (f : Frame). is_no_total f ≡ false) passed.passed_is passed.passed_size in
    let less : nat_lt (length left) frame.total ≡ false = subst (λ (f : Frame). nat_lt (length left) f.total ≡ false) passed.passed_is passed.passed_less in
    let least : least_total frame.kind ≤ frame.total = frame_sizes frame size in
    record { is = passed.passed_is; least = least; some = omega (arith, least_some frame.kind); whole = grind (arith, nat_tests) }

pub head_sound : (big : Bool) (left : List ℕ) (at : ℕ) (frame : Frame) → head_in big left at ≡ Ok frame → IsHead left frame
head_sound big left at frame e =
    let passed = head_passed_by (nat_lt (length left) 12) (begins_section left && has_no_order left) (is_no_total (frame_at big left)) at (frame_at big left) frame e in
    let size : is_no_total frame ≡ false = subst (λ (f : Frame). is_no_total f ≡ false) (head_is big left at frame e) passed.0 in
    let cut : nat_lt (length left) 12 ≡ false = passed.1 in
    let least : least_total frame.kind ≤ frame.total = frame_sizes frame size in
    record { least = least; some = omega (arith, least, least_some frame.kind); there = grind (arith, nat_tests) }

-- a frame that is not refused is that of its first twelve bytes
pub frame_head : (big : Bool) (left : List ℕ) (at : ℕ) (frame : Frame) → frame_in big left at ≡ Ok frame → head_in big left at ≡ Ok frame
frame_head big left at frame e = by_head (head_in big left at) refl
  where
    by_head : (r : Result Frame CaptureBad) → head_in big left at ≡ r → head_in big left at ≡ Ok frame
    by_head (Err refusal) h = let none : frame_in big left at ≡ Err refusal = head_refused big left at refusal h in absurd (cc)
    by_head (Ok other) h = h ∙ ap Ok (sym (head_is big left at other h) ∙ (frame_is big left at frame e).is)

-- the same frame, by the test of its last four bytes where they stand
pub tail_tests : (big : Bool) (left : List ℕ) (at : ℕ) (frame : Frame) → head_in big left at ≡ Ok frame →
    frame_in big left at ≡ unless (first_true ((nat_lt (length left) frame.total, ng.Cut at) ∷ (not (word_at frame.big left (frame.total - 4) == frame.total), ng.Length at) ∷ [])) (Ok frame)
tail_tests big left at frame e =
    let P : Frame → Type 0 = λ f. frame_in big left at ≡ tail_by (nat_lt (length left) f.total) (not (word_at f.big left (f.total - 4) == f.total)) at f in
    subst P (head_is big left at frame e) (tail_is_by (nat_lt (length left) 12) (begins_section left && has_no_order left) (is_no_total (frame_at big left)) (nat_lt (length left) (frame_at big left).total)
    (not (word_at (frame_at big left).big left ((frame_at big left).total - 4) == (frame_at big left).total)) at (frame_at big left) frame e)

pub tail_of_is : (big : Bool) (left : List ℕ) (at : ℕ) (frame : Frame) → head_in big left at ≡ Ok frame → 12 ≤ frame.total → frame_in big left at ≡ tail_of frame left at
tail_of_is big left at frame e some =
    tail_is big left at frame e some ∙ rw (short_front (drop (frame.total - 4) left) 4, span_front (drop (frame.total - 4) left) 4 0 4 (omega arith)) refl
