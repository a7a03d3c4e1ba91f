-- What the front of what is left tells of the block that stands there.
use Rattle.std.proofs.Common.{◌≡◌, ℕ, ◌+◌, ◌-◌, ◌^◌, ◌<◌, ◌≤◌, ◌==◌, nat_lt, Bool, true, false, not, ◌&&◌, if◌then◌else◌, List, length, take, Result, Ok, Err, refl, sym, ◌∙◌, ap, subst, arith}
use Rattle.std.proofs.lemmas.List.{length-take, take-take}
use Rattle.std.proofs.lemmas.Bool.Decides.{nat_tests}
use Rattle.aftr_base.specs.Numbers.{span}
use Rattle.capture_io.specs.declared.forms.CaptureBad.{CaptureBad}
use Rattle.capture_io.specs.declared.forms.Rec.{Rec}
use Rattle.capture_io.specs.Fronts.{IsFront, IsStart}
use Rattle.pcapng_io.specs.declared.frame.Frame.{Frame}
use Rattle.pcapng_io.specs.declared.block.Block.{Block}
use Rattle.pcapng_io.specs.declared.block.Block.TheVariants as block
use Rattle.pcapng_io.specs.declared.fronts.Front.{Front}
use Rattle.pcapng_io.specs.declared.fronts.Front.TheVariants as front
use Rattle.pcapng_io.specs.Results.{◌>>=◌}
use Rattle.pcapng_io.specs.Seen.{Seen}
use Rattle.pcapng_io.specs.Frames.{enhanced_packet_type, frame_in, head_in, interface_type, least_total, old_packet_type, section_type, simple_packet_type}
use Rattle.pcapng_io.specs.Interfaces.{block_by, interface_in, option_bytes, options_in, resolution_of, start_in}
use Rattle.pcapng_io.specs.Packets.{enhanced_in, section_in, simple_in}
use Rattle.pcapng_io.specs.Blocks.{block_in, body_in}
use Rattle.pcapng_io.specs.Captures.{Gives, next_in}
use Rattle.pcapng_io.specs.Files.{IsBefore}
use Rattle.pcapng_io.specs.Long.{tail_in}
use Rattle.pcapng_io.specs.Fronts.{front_by, front_in, is_short, needed, needed_by}
use Rattle.capture_io.proofs.LawLemmas.{span_front}
use Rattle.pcapng_io.proofs.FrameLemmas.{frame_head, frame_is, head_front, head_refused, head_sound, tail_is}
use Rattle.pcapng_io.proofs.KindLemmas.{enhanced_front, section_front, simple_front, start_front}
use Rattle.pcapng_io.proofs.BlockLemmas.{block_frame}
use Rattle.pcapng_io.proofs.WalkLemmas.{block_before}

pub start_long : (first left : List ℕ) → IsStart first left → length first ≤ length left
start_long first left s = omega (arith, ap length s, length-take (length first) left)

-- bytes within the start
pub at_start : (first left : List ℕ) (at count : ℕ) → IsStart first left → at + count ≤ length first → span left at count ≡ span first at count
at_start first left at count s within =
    sym (span_front left (length first) at count within) ∙ ap (λ l. span l at count) s

-- what is read of so many first bytes is read of the start
pub by_front : {A : Type 0} (read : List ℕ → A) (n : ℕ) (first left : List ℕ) → ((l : List ℕ) → read (take n l) ≡ read l) →
    IsStart first left → n ≤ length first → read left ≡ read first
by_front read n first left same s within =
    let front : take n first ≡ take n left = ap (take n) (sym s) ∙ take-take n (length first) left within in
    sym (same left) ∙ (ap read (sym front) ∙ same first)

pub head_same : (big : Bool) (first left : List ℕ) (at : ℕ) → IsStart first left → 12 ≤ length first → head_in big left at ≡ head_in big first at
head_same big first left at s within = by_front (λ l. head_in big l at) 12 first left (λ l. head_front big l at) s within

frame_same : (big : Bool) (first left : List ℕ) (at : ℕ) (frame : Frame) → IsStart first left → head_in big first at ≡ Ok frame → frame.total ≤ length first →
    frame_in big left at ≡ frame_in big first at
frame_same big first left at frame s e whole =
    let head = head_sound big first at frame e in
    let there : head_in big left at ≡ Ok frame = head_same big first left at s head.there ∙ e in
    let tail : span left (frame.total - 4) 4 ≡ span first (frame.total - 4) 4 = at_start first left (frame.total - 4) 4 s (omega (arith, head.some, whole)) in
    tail_is big left at frame there head.some ∙ (ap (λ l. tail_in frame l at) tail ∙ sym (tail_is big first at frame e head.some))

pub both_by : {A : Type 0} (test : Bool) (a b c d : A) → (test ≡ true → a ≡ b) → (test ≡ false → c ≡ d) → (if test then a else c) ≡ (if test then b else d)
both_by true a b c d same other = same refl
both_by false a b c d same other = other refl

interface_same : (seen : Seen) (first left : List ℕ) (frame : Frame) → IsStart first left → 20 ≤ frame.total → frame.total ≤ length first →
    interface_in seen left frame ≡ interface_in seen first frame
interface_same seen first left frame s least whole =
    let start : start_in seen left frame ≡ start_in seen first frame = by_front (λ l. start_in seen l frame) 16 first left (λ l. start_front seen frame l) s (omega arith) in
    let options : option_bytes frame left ≡ option_bytes frame first = at_start first left 16 (frame.total - 20) s (omega arith) in
    λ i. start i >>= (λ x. resolution_of seen.known.at (options_in frame.big (options i)) >>= (λ byte. block_by seen.known.at x byte frame))

least_section : (kind total : ℕ) → (kind == section_type) ≡ true → least_total kind ≤ total → 28 ≤ total
least_section kind total s least = let is : least_total kind ≡ 28 = rw s refl in omega arith

least_interface : (kind total : ℕ) → (kind == section_type) ≡ false → (kind == interface_type) ≡ true → least_total kind ≤ total → 20 ≤ total
least_interface kind total s i least = let is : least_total kind ≡ 20 = rw (s, i) refl in omega arith

least_enhanced : (kind total : ℕ) → (kind == section_type) ≡ false → (kind == interface_type) ≡ false → (kind == enhanced_packet_type) ≡ true → least_total kind ≤ total → 32 ≤ total
least_enhanced kind total s i e least = let is : least_total kind ≡ 32 = rw (s, i, e) refl in omega arith

least_simple : (kind total : ℕ) → (kind == section_type) ≡ false → (kind == interface_type) ≡ false → (kind == enhanced_packet_type) ≡ false → (kind == simple_packet_type) ≡ true →
    least_total kind ≤ total → 16 ≤ total
least_simple kind total s i e p least = let is : least_total kind ≡ 16 = rw (s, i, e, p) refl in omega arith

body_same : (seen : Seen) (first left : List ℕ) (number : ℕ) (frame : Frame) → IsStart first left → least_total frame.kind ≤ frame.total → frame.total ≤ length first →
    body_in seen left number frame ≡ body_in seen first number frame
body_same seen first left number frame s least whole =
    both_by (frame.kind == section_type) _ _ _ _
    (λ is. by_front (λ l. section_in seen.known.at l frame) 14 first left (λ l. section_front seen.known.at frame l) s (omega (arith, least_section frame.kind frame.total is least, whole)))
    (λ no_section. both_by (frame.kind == old_packet_type) _ _ _ _ (λ is. refl)
    (λ no_old. both_by (frame.kind == interface_type) _ _ _ _
    (λ is. interface_same seen first left frame s (least_interface frame.kind frame.total no_section is least) whole)
    (λ no_interface. both_by (frame.kind == enhanced_packet_type) _ _ _ _
    (λ is. by_front (λ l. enhanced_in seen l number frame) 24 first left (λ l. enhanced_front seen number frame l) s
    (omega (arith, least_enhanced frame.kind frame.total no_section no_interface is least, whole)))
    (λ no_enhanced. both_by (frame.kind == simple_packet_type) _ _ _ _
    (λ is. by_front (λ l. simple_in seen l number frame) 12 first left (λ l. simple_front seen number frame l) s
    (omega (arith, least_simple frame.kind frame.total no_section no_interface no_enhanced is least, whole)))
    (λ other. refl)))))

-- of a block that is no interface its first fields are enough
pub fields_same : (seen : Seen) (first left : List ℕ) (number : ℕ) (frame : Frame) → IsStart first left → (frame.kind ≡ 1 → ⊥) → 28 ≤ length first → body_in seen left number frame ≡ body_in seen first number frame
fields_same seen first left number frame s kind there =
    both_by (frame.kind == section_type) _ _ _ _ (λ is. by_front (λ l. section_in seen.known.at l frame) 14 first left (λ l. section_front seen.known.at frame l) s (omega (arith, there)))
    (λ no_section. both_by (frame.kind == old_packet_type) _ _ _ _ (λ is. refl)
    (λ no_old. both_by (frame.kind == interface_type) _ _ _ _ (λ is. absurd (kind (grind (arith, nat_tests))))
    (λ no_interface. both_by (frame.kind == enhanced_packet_type) _ _ _ _
    (λ is. by_front (λ l. enhanced_in seen l number frame) 24 first left (λ l. enhanced_front seen number frame l) s (omega (arith, there)))
    (λ no_enhanced. both_by (frame.kind == simple_packet_type) _ _ _ _
    (λ is. by_front (λ l. simple_in seen l number frame) 12 first left (λ l. simple_front seen number frame l) s (omega (arith, there)))
    (λ other. refl)))))

pub to_body : (seen : Seen) (left : List ℕ) (number : ℕ) → nat_lt (2 ^ 62) seen.known.at ≡ false → (length left == 0) ≡ false →
    block_in seen left number ≡ (frame_in seen.known.big left seen.known.at >>= (λ f. body_in seen left number f))
to_body seen left number n z = rw (n, z) refl

short_needs : (far less : Bool) → (not far && less) ≡ false → far ≡ false → less ≡ false
short_needs true less e f = absurd (cc)
short_needs false less e f = e

-- where enough bytes are there, they say what all say
block_same : (seen : Seen) (first left : List ℕ) (number : ℕ) → IsStart first left → is_short seen first ≡ false → block_in seen left number ≡ block_in seen first number
block_same seen first left number s enough = by_far (nat_lt (2 ^ 62) seen.known.at) refl
  where
    some_bytes : (l : List ℕ) → 12 ≤ length l → (length l == 0) ≡ false
    some_bytes l h = grind (arith, nat_tests)

    bodies : (r : Result Frame CaptureBad) → frame_in seen.known.big first seen.known.at ≡ r →
        (r >>= (λ f. body_in seen left number f)) ≡ (r >>= (λ f. body_in seen first number f))
    bodies (Err refusal) e = refl
    bodies (Ok frame) e =
        let is = frame_is seen.known.big first seen.known.at frame e in
        body_same seen first left number frame s is.least is.whole

    frames : (r : Result Frame CaptureBad) → head_in seen.known.big first seen.known.at ≡ r → needed_by r ≤ length first → 12 ≤ length first →
        frame_in seen.known.big left seen.known.at ≡ frame_in seen.known.big first seen.known.at
    frames (Err refusal) e whole there =
        head_refused seen.known.big left seen.known.at refusal (head_same seen.known.big first left seen.known.at s there ∙ e)
        ∙ sym (head_refused seen.known.big first seen.known.at refusal e)
    frames (Ok frame) e whole there = frame_same seen.known.big first left seen.known.at frame s e whole

    twelve : (r : Result Frame CaptureBad) → head_in seen.known.big first seen.known.at ≡ r → needed_by r ≤ length first → 12 ≤ length first
    twelve (Err refusal) e whole = whole
    twelve (Ok frame) e whole = (head_sound seen.known.big first seen.known.at frame e).there

    by_far : (far : Bool) → nat_lt (2 ^ 62) seen.known.at ≡ far → block_in seen left number ≡ block_in seen first number
    by_far true n = rw n refl
    by_far false n =
        let less : nat_lt (length first) (needed seen.known.big first seen.known.at) ≡ false =
        short_needs (nat_lt (2 ^ 62) seen.known.at) (nat_lt (length first) (needed seen.known.big first seen.known.at)) enough n in
        let whole : needed seen.known.big first seen.known.at ≤ length first = grind (arith, nat_tests) in
        let there : 12 ≤ length first = twelve (head_in seen.known.big first seen.known.at) refl whole in
        let long : 12 ≤ length left = omega (arith, there, start_long first left s) in
        to_body seen left number n (some_bytes left long)
        ∙ (ap (λ r. r >>= (λ f. body_in seen left number f)) (frames (head_in seen.known.big first seen.known.at) refl whole there)
        ∙ (bodies (frame_in seen.known.big first seen.known.at) refl ∙ sym (to_body seen first number n (some_bytes first there))))

-- what the front says is what all bytes say
abbrev pub Tells : Front → Result Block CaptureBad → Type 0
Tells (front.Packet p) read = read ≡ Ok (block.Packet p)
Tells (front.Passed p) read = read ≡ Ok (block.Passed p)
Tells front.End read = read ≡ Ok block.End
Tells (front.Bad refusal) read = read ≡ Err refusal
Tells front.More read = Unit {0}

tells_by : (read : Result Block CaptureBad) → Tells (front_by read) read
tells_by (Err refusal) = refl
tells_by (Ok block.End) = refl
tells_by (Ok (block.Packet p)) = refl
tells_by (Ok (block.Passed p)) = refl

told_open : (seen : Seen) (first left : List ℕ) (number : ℕ) (short : Bool) → is_short seen first ≡ short → IsStart first left →
    Tells (if short then front.More else front_by (block_in seen first number)) (block_in seen left number)
told_open seen first left number true e s = tt
told_open seen first left number false e s =
    subst (λ (b : Result Block CaptureBad). Tells (front_by (block_in seen first number)) b) (sym (block_same seen first left number s e)) (tells_by (block_in seen first number))

pub front_told : (seen : Seen) (first : List ℕ) (last : Bool) (left : List ℕ) (number : ℕ) → IsFront first last left → Tells (front_in seen first last number) (block_in seen left number)
front_told seen first true left number f =
    subst (λ (l : List ℕ). Tells (front_by (block_in seen first number)) (block_in seen l number)) (sym (f.whole refl)) (tells_by (block_in seen first number))
front_told seen first false left number f = told_open seen first left number (is_short seen first) refl f.start

-- what the front says of itself
said_by : (more : Bool) (read : Result Block CaptureBad) → Tells (if more then front.More else front_by read) read
said_by true read = tt
said_by false read = tells_by read

pub front_said : (seen : Seen) (first : List ℕ) (last : Bool) (number : ℕ) (f : Front) → front_in seen first last number ≡ f → Tells f (block_in seen first number)
front_said seen first last number f e =
    subst (λ (x : Front). Tells x (block_in seen first number)) e (said_by (not last && is_short seen first) (block_in seen first number))

-- where the front is open, more may come and it is short
never_more : (read : Result Block CaptureBad) → front_by read ≡ front.More → ⊥
never_more (Err refusal) e = absurd (cc)
never_more (Ok block.End) e = absurd (cc)
never_more (Ok (block.Packet p)) e = absurd (cc)
never_more (Ok (block.Passed p)) e = absurd (cc)

pub record IsShort (seen : Seen) (first : List ℕ) (last : Bool) : Type 0 where
  pub more : last ≡ false
  pub near_by : seen.known.at ≤ 2 ^ 62
  pub less : length first < needed seen.known.big first seen.known.at

short_by : (seen : Seen) (first : List ℕ) (last far less : Bool) (read : Result Block CaptureBad) → nat_lt (2 ^ 62) seen.known.at ≡ far →
    nat_lt (length first) (needed seen.known.big first seen.known.at) ≡ less → (if not last && (not far && less) then front.More else front_by read) ≡ front.More →
    IsShort seen first last
short_by seen first true far less read f l e = absurd (never_more read e)
short_by seen first false true less read f l e = absurd (never_more read e)
short_by seen first false false false read f l e = absurd (never_more read e)
short_by seen first false false true read f l e = record { more = refl; near_by = grind (arith, nat_tests); less = grind (arith, nat_tests) }

pub open_short : (seen : Seen) (first : List ℕ) (last : Bool) (number : ℕ) → front_in seen first last number ≡ front.More → IsShort seen first last
open_short seen first last number e =
    short_by seen first last (nat_lt (2 ^ 62) seen.known.at) (nat_lt (length first) (needed seen.known.big first seen.known.at)) (block_in seen first number) refl refl e

-- and the block that stands there ends behind it
in_frame : (big : Bool) (first left : List ℕ) (at : ℕ) (frame : Frame) → IsStart first left → length first < needed big first at → frame_in big left at ≡ Ok frame → length first < frame.total
in_frame big first left at frame s less e = by_twelve (nat_lt (length first) 12) refl
  where
    by_twelve : (cut : Bool) → nat_lt (length first) 12 ≡ cut → length first < frame.total
    by_twelve true c =
        let some = (frame_is big left at frame e).some in
        let short : length first < 12 = grind (arith, nat_tests) in
        omega (arith, some, short)
    by_twelve false c =
        let there : 12 ≤ length first = grind (arith, nat_tests) in
        let same : head_in big first at ≡ Ok frame = sym (head_same big first left at s there) ∙ frame_head big left at frame e in
        omega (arith, less, ap needed_by same)

pub open_block : (seen : Seen) (first left : List ℕ) (last : Bool) (number : ℕ) (b : Block) → IsShort seen first last → IsStart first left →
    block_in seen left number ≡ Ok b → IsBefore (seen.known.at + length first) seen.known.at b
open_block seen first left last number b short s e =
    block_frame seen left number b (seen.known.at + length first) short.near_by
    (λ frame f. omega (arith, in_frame seen.known.big first left seen.known.at frame s short.less f)) e

pub open_before : (seen : Seen) (first left : List ℕ) (last : Bool) (number : ℕ) (r : Rec) (behind : Seen) → IsShort seen first last → IsStart first left →
    next_in seen left number ≡ Ok (Gives r behind) → seen.known.at + length first < r.next_at
open_before seen first left last number r behind short s e =
    block_before seen left number (seen.known.at + length first) r behind (λ b is. open_block seen first left last number b short s is) e
