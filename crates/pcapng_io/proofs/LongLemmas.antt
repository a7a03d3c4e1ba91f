-- Blocks of which no more is kept than the front.
use Rattle.std.proofs.Common.{◌≡◌, ℕ, ◌+◌, ◌-◌, ◌<◌, ◌≤◌, nat_lt, Bool, true, false, List, [], ◌∷◌, length, drop, take, Option, Some, None, Result, Ok, Err, refl, sym, ◌∙◌, ap, subst, arith}
use Rattle.std.proofs.lemmas.List.{drop-drop, length-drop, length-take, take_rest}
use Rattle.std.proofs.lemmas.Bool.{true≢false}
use Rattle.std.proofs.lemmas.Bool.Decides.{nat_tests}
use Rattle.aftr_io.specs.Contents.{Contents, content}
use Rattle.aftr_base.specs.Numbers.{span}
use Rattle.capture_io.specs.Fronts.{IsFront, IsStart}
use Rattle.capture_io.proofs.LawLemmas.{front_behind}
use Rattle.capture_io.specs.declared.forms.CaptureBad.{CaptureBad}
use Rattle.pcapng_io.specs.declared.frame.Frame.{Frame}
use Rattle.capture_io.specs.declared.forms.CaptureBad.TheVariants as bad
use Rattle.capture_io.specs.declared.forms.CaptureError.{CaptureError}
use Rattle.capture_io.specs.declared.forms.CaptureError.TheVariants as error
use Rattle.capture_io.specs.declared.ng_bad.NgBad.TheVariants as ng
use Rattle.capture_io.specs.Answers.{Agrees}
use Rattle.pcapng_io.specs.Results.{◌>>=◌}
use Rattle.pcapng_io.specs.Long.{IsEnd, StandsAt, WithFront, all_from, ended, tail_in, tail_of, with_found}
use Rattle.capture_io.specs.Windows.{Ahead, IsMore}
use Rattle.pcapng_io.specs.declared.interface.OptionHead.{OptionHead}
use Rattle.pcapng_io.specs.Interfaces.{block_by, interface_in, option_at, option_bytes, options_in, resolution_of, rest_from, start_in, value_in}
use Rattle.pcapng_io.specs.declared.interface.Start.{Start}
use Rattle.pcapng_io.specs.declared.block.Block.{Block}
use Rattle.pcapng_io.specs.Seen.{Seen}
use Rattle.pcapng_io.proofs.KindLemmas.{start_front}
use Rattle.pcapng_io.proofs.OptionLemmas.{head_cut, none_first, option_of, value_cut}
use Rattle.pcapng_io.proofs.StartLemmas.{at_start, by_front}

-- the window before anything is read
pub with_begins : (held : Option Contents) (name : List ℕ) (from : ℕ) (window : Ahead) → WithFront held name from window (StandsAt from window)
with_begins None name from window = tt
with_begins (Some m) name from window = λ f. f

-- bytes were let go
pub stands_passed : (all : List ℕ) (here count now : ℕ) (window rest : Ahead) → count ≤ length window.bytes → rest.bytes ≡ drop count window.bytes → rest.last ≡ window.last → now ≡ here + count →
    StandsAt here window all → StandsAt now rest all
stands_passed all here count now window rest within bytes last is f =
    let P : List ℕ → Bool → ℕ → Type 0 = λ l b n. IsFront l b (drop n all) in
    subst (λ n. P rest.bytes rest.last n) (sym is)
    (subst (λ (l : List ℕ). P l rest.last (here + count)) (sym bytes)
    (subst (λ (b : Bool). P (drop count window.bytes) b (here + count)) (sym last) (front_behind window.bytes all window.last here count within f)))

module _ (held : Option Contents) (name : List ℕ) (from : ℕ) (first : Ahead) (here : ℕ) (window : Ahead) (stands : WithFront held name from first (StandsAt here window)) where
  pub with_passed : (rest : Ahead) (count now : ℕ) → count ≤ length window.bytes → rest.bytes ≡ drop count window.bytes → rest.last ≡ window.last → now ≡ here + count →
      WithFront held name from first (StandsAt now rest)
  with_passed rest count now within bytes last is = by_held held stands
    where
      by_held : (h : Option Contents) → WithFront h name from first (StandsAt here window) → WithFront h name from first (StandsAt now rest)
      by_held None s = tt
      by_held (Some m) s = λ f. stands_passed (content m name) here count now window rest within bytes last is (s f)

  pub with_more : (after : Option Contents) (now : Ahead) → after ≡ held → IsMore after name here window now → WithFront held name from first (StandsAt here now)
  with_more after now same read = by_held held stands (subst (λ (h : Option Contents). IsMore h name here window now) same read)
    where
      by_held : (h : Option Contents) → WithFront h name from first (StandsAt here window) → IsMore h name here window now → WithFront h name from first (StandsAt here now)
      by_held None s r = tt
      by_held (Some m) s r = λ f. r (s f).start

  pub with_then : {Q : List ℕ → Type 0} → ((all : List ℕ) → StandsAt here window all → Q all) → WithFront held name from first Q
  with_then {Q} each = by_held held stands
    where
      by_held : (h : Option Contents) → WithFront h name from first (StandsAt here window) → WithFront h name from first Q
      by_held None s = tt
      by_held (Some m) s = λ f. each (content m name) (s f)

no_bytes : (l : List ℕ) → length l ≡ 0 → l ≡ []
no_bytes [] e = refl
no_bytes (x ∷ l) e = absurd (omega arith)

same_end : (last left : List ℕ) → left ≡ last → IsEnd last left
same_end last left is = record { few = ap (λ l. nat_lt (length l) 4) (sym is); word = ap (λ l. span l 0 4) (sym is) }

-- where the bytes are read up to the block's last, or nothing stands behind them
pub end_there : (all : List ℕ) (here end : ℕ) (rest : Ahead) → here ≤ end → (here < end → length rest.bytes ≡ 0) → (rest.last ≡ false → end + 4 ≤ here + length rest.bytes) →
    StandsAt here rest all → IsEnd rest.bytes (drop end all)
end_there all here end rest order none there f = by_last rest.last refl
  where
    place : end ≡ here + (end - here)
    place = omega arith

    later : drop (end - here) (drop here all) ≡ drop end all
    later = drop-drop (end - here) here all ∙ ap (λ n. drop n all) (sym place)

    by_test : (b : Bool) → nat_lt here end ≡ b → rest.last ≡ true → IsEnd rest.bytes (drop end all)
    by_test true t last =
        let nothing : length rest.bytes ≡ 0 = none (grind (arith, nat_tests)) in
        let size : length (drop here all) ≡ 0 = ap length (f.whole last) ∙ nothing in
        let empty : drop end all ≡ [] = no_bytes (drop end all) (omega (arith, ap length later, length-drop (end - here) (drop here all), size)) in
        same_end rest.bytes (drop end all) (empty ∙ sym (no_bytes rest.bytes nothing))
    by_test false t last =
        let same : here ≡ end = grind (arith, nat_tests) in
        same_end rest.bytes (drop end all) (ap (λ n. drop n all) (sym same) ∙ f.whole last)

    by_last : (b : Bool) → rest.last ≡ b → IsEnd rest.bytes (drop end all)
    by_last true last = by_test (nat_lt here end) refl last
    by_last false last =
        let far : end + 4 ≤ here + length rest.bytes = there last in
        let same : here ≡ end = by_order (nat_lt here end) refl far in
        let four : 4 ≤ length rest.bytes = omega (arith, far, same) in
        let s : IsStart rest.bytes (drop end all) = subst (λ n. IsStart rest.bytes (drop n all)) same f.start in
        let long : length rest.bytes ≤ length (drop end all) = omega (arith, ap length s, length-take (length rest.bytes) (drop end all)) in
        record { few = grind (arith, nat_tests); word = sym (at_start rest.bytes (drop end all) 0 4 s four) }
      where
        by_order : (b : Bool) → nat_lt here end ≡ b → end + 4 ≤ here + length rest.bytes → here ≡ end
        by_order true t far = absurd (omega (arith, far, none (grind (arith, nat_tests))))
        by_order false t far = grind (arith, nat_tests)

pub at_end : (all : List ℕ) (here end : ℕ) (rest : Ahead) → here ≤ end → (here < end → length rest.bytes ≡ 0) → 4 ≤ length rest.bytes → StandsAt here rest all → StandsAt end rest all
at_end all here end rest order none four f = by_order (nat_lt here end) refl
  where
    by_order : (b : Bool) → nat_lt here end ≡ b → StandsAt end rest all
    by_order true t = absurd (omega (arith, four, none (grind (arith, nat_tests))))
    by_order false t = let same : here ≡ end = grind (arith, nat_tests) in subst (λ n. StandsAt n rest all) same f

-- bytes that are all let go in front of the last four
pub all_passed : (bytes slice rest : List ℕ) (here end count : ℕ) → slice ≡ bytes → (count < end - here → count ≡ length slice) → rest ≡ drop count bytes → here + count < end → length rest ≡ 0
all_passed bytes slice rest here end count same all is less =
    omega (arith, ap length is, length-drop count bytes, ap length same, all (omega arith))

-- a block's end, by bytes that say the same of it
tail_same : (frame : Frame) (last left : List ℕ) (at : ℕ) → IsEnd last left → tail_in frame last at ≡ tail_in frame left at
tail_same frame last left at e = rw (e.few, e.word) refl

pub tail_told : (all : List ℕ) (frame : Frame) (at end : ℕ) (last : List ℕ) (read said : Result Frame CaptureBad) → end ≡ at + frame.total - 4 → 4 ≤ frame.total → IsEnd last (drop end all) →
    read ≡ tail_in frame last at → read ≡ said → tail_of frame (drop at all) at ≡ said
tail_told all frame at end last read said place least e is s =
    let there : drop (frame.total - 4) (drop at all) ≡ drop end all = drop-drop (frame.total - 4) at all ∙ ap (λ n. drop n all) (omega (arith, place)) in
    ap (λ l. tail_in frame l at) there ∙ (sym (tail_same frame last (drop end all) at e) ∙ (sym is ∙ s))

pub with_each : {P Q : List ℕ → Type 0} → (held : Option Contents) (name : List ℕ) (from : ℕ) (first : Ahead) → ((all : List ℕ) → P all → Q all) → WithFront held name from first P → WithFront held name from first Q
with_each None name from first each s = tt
with_each (Some m) name from first each s = λ f. each (content m name) (s f)

-- an option and its value, in bytes of which the first are there
pub option_there : (big : Bool) (first bytes : List ℕ) (place : ℕ) (o : OptionHead) → IsStart first bytes → place + 4 ≤ length first → o ≡ option_at big (take (place + 4 - place) (drop place first)) →
    o ≡ option_at big (span bytes place 4)
option_there big first bytes place o s within e = head_cut big first place o e ∙ ap (option_at big) (sym (at_start first bytes place 4 s within))

pub value_there : (at : ℕ) (found : Option ℕ) (o : OptionHead) (first bytes : List ℕ) (place behind : ℕ) (read said : Result (Option ℕ) CaptureBad) → IsStart first bytes → behind ≡ place + o.count → behind ≤ length first →
    read ≡ value_in at found (record { code = o.code; value = take (behind - place) (drop place first) }) → read ≡ said → value_in at found (option_of o bytes place) ≡ said
value_there at found o first bytes place behind read said s is within e r =
    let same : span bytes place o.count ≡ span first place o.count = at_start first bytes place o.count s (omega (arith, is, within)) in
    (λ i. value_in at found (record { code = o.code; value = same i })) ∙ value_cut at found o first place behind read said is e r

pub end_told : (held : Option Contents) (name : List ℕ) (from : ℕ) (first : Ahead) (frame : Frame) (at end : ℕ) (slice last : List ℕ) (read said : Result Frame CaptureBad) → end ≡ at + frame.total - 4 → 4 ≤ frame.total →
    slice ≡ last → read ≡ tail_in frame slice at → read ≡ said → WithFront held name from first (λ all. IsEnd last (drop end all)) → WithFront held name from first (λ all. tail_of frame (drop at all) at ≡ said)
end_told held name from first frame at end slice last read said place least same is s e =
    with_each held name from first (λ all x. tail_told all frame at end last read said place least x (is ∙ ap (λ l. tail_in frame l at) same) s) e

-- what the options give, by what was found in front of a place
abbrev pub GivesFrom : Frame → ℕ → ℕ → ℕ → Option ℕ → List ℕ → Type 0
GivesFrom frame at here place found all = frame.total ≤ length (drop at all) →
    resolution_of at (options_in frame.big (option_bytes frame (drop at all))) ≡ all_from frame.big (drop at all) at (here - at + place) (frame.total - 4) found

from_there : (big : Bool) (left : List ℕ) (at n p e : ℕ) (found : Option ℕ) → all_from big (drop n left) at p (e - n) found ≡ all_from big left at (n + p) e found
from_there big left at n p e found =
    let same : rest_from (drop n left) p (e - n) ≡ rest_from left (n + p) e =
    ap (λ l. take (e - n - p) l) (drop-drop p n left) ∙ ap (λ k. take k (drop (n + p) left)) (omega arith) in
    ap (λ l. with_found found (resolution_of at (options_in big l))) same

pub with_first : (held : Option Contents) (name : List ℕ) (frame : Frame) (at : ℕ) (first : Ahead) → 20 ≤ frame.total → WithFront held name (at + 16) first (GivesFrom frame at (at + 16) 0 None)
with_first None name frame at first least = tt
with_first (Some m) name frame at first least = λ f whole.
    let left = drop at (content m name) in
    let size : frame.total - 20 ≡ frame.total - 4 - 16 = omega arith in
    let place : 16 ≡ at + 16 - at + 0 = omega arith in
    ap (λ n. resolution_of at (options_in frame.big (take n (drop 16 left)))) size
    ∙ (none_first frame.big left at 16 (frame.total - 4) ∙ ap (λ n. all_from frame.big left at n (frame.total - 4) None) place)

-- the bytes from a place of the block on
block_there : (all : List ℕ) (at here : ℕ) → at ≤ here → drop (here - at) (drop at all) ≡ drop here all
block_there all at here order = drop-drop (here - at) at all ∙ ap (λ n. drop n all) (omega (arith, order))

-- the walk from there on gives what all options give
walked_on : (all : List ℕ) (frame : Frame) (at here place left : ℕ) (found : Option ℕ) → at ≤ here → left ≡ at + frame.total - 4 - here → here ≤ at + frame.total - 4 → GivesFrom frame at here place found all → frame.total ≤ length (drop at all) →
    resolution_of at (options_in frame.big (option_bytes frame (drop at all))) ≡ all_from frame.big (drop here all) at place left found
walked_on all frame at here place left found order is inside gives whole =
    let shift : all_from frame.big (drop (here - at) (drop at all)) at place (frame.total - 4 - (here - at)) found ≡ all_from frame.big (drop at all) at (here - at + place) (frame.total - 4) found =
    from_there frame.big (drop at all) at (here - at) place (frame.total - 4) found in
    let size : frame.total - 4 - (here - at) ≡ left = omega (arith, is, order) in
    gives whole ∙ (sym shift ∙ (λ i. all_from frame.big (block_there all at here order i) at place (size i) found))

long_enough : (all : List ℕ) (frame : Frame) (at here left : ℕ) → at ≤ here → left ≡ at + frame.total - 4 - here → frame.total ≤ length (drop at all) → left ≤ length (drop here all)
long_enough all frame at here left order is whole = omega (arith, whole, length-drop at all, length-drop here all, is, order)

-- what is said stands where the end lets it
end_whole : (frame : Frame) (left : List ℕ) (at : ℕ) (f : Frame) → 4 ≤ frame.total → tail_of frame left at ≡ Ok f → frame.total ≤ length left
end_whole frame left at f least e = by_test (nat_lt (length (drop (frame.total - 4) left)) 4) refl
  where
    by_test : (b : Bool) → nat_lt (length (drop (frame.total - 4) left)) 4 ≡ b → frame.total ≤ length left
    by_test true t = let none : tail_of frame left at ≡ Err (bad.Ng (ng.Cut at)) = rw t refl in absurd (cc)
    by_test false t = let four : 4 ≤ length (drop (frame.total - 4) left) = grind (arith, nat_tests) in omega (arith, four, least, length-drop (frame.total - 4) left)

pub ended_well : {A : Type 0} → (frame : Frame) (left : List ℕ) (at : ℕ) (f : Frame) (said given : Result A CaptureBad) → 4 ≤ frame.total → (frame.total ≤ length left → said ≡ given) → tail_of frame left at ≡ Ok f →
    ended frame left at said ≡ given
ended_well frame left at f said given least is e = ap (λ r. r >>= (λ x. said)) e ∙ is (end_whole frame left at f least e)

pub ended_failed : {A : Type 0} → (frame : Frame) (left : List ℕ) (at : ℕ) (said : Result A CaptureBad) (e : CaptureError) → Agrees {T = Frame} (Err e) (tail_of frame left at) → Agrees {T = A} (Err e) (ended frame left at said)
ended_failed frame left at said (error.Bad refusal) a = ap (λ r. r >>= (λ x. said)) a
ended_failed frame left at said error.ReadFault a = tt
ended_failed frame left at said error.OutOfMemory a = tt

pub ended_cut : {A : Type 0} → (frame : Frame) (left : List ℕ) (at : ℕ) (said : Result A CaptureBad) → length left + 4 ≤ frame.total + 3 → ended frame left at said ≡ Err (bad.Ng (ng.Cut at))
ended_cut frame left at said short =
    let few : nat_lt (length (drop (frame.total - 4) left)) 4 ≡ true = grind (arith, nat_tests, length-drop (frame.total - 4) left) in
    let cut : tail_of frame left at ≡ Err (bad.Ng (ng.Cut at)) = rw few refl in
    ap (λ r. r >>= (λ x. said)) cut

-- a step that goes on where the window stands
pub with_joined : (P : List ℕ → Type 0) (held after : Option Contents) (name : List ℕ) (from : ℕ) (first : Ahead) (here : ℕ) (window : Ahead) → after ≡ held → WithFront held name from first (StandsAt here window) →
    WithFront after name here window P → WithFront held name from first P
with_joined P held after name from first here window same stands told = by_held held stands (subst (λ (h : Option Contents). WithFront h name here window P) same told)
  where
    by_held : (h : Option Contents) → WithFront h name from first (StandsAt here window) → WithFront h name here window P → WithFront h name from first P
    by_held None s t = tt
    by_held (Some m) s t = λ f. t (s f)

pub with_both : {P Q R : List ℕ → Type 0} → (held : Option Contents) (name : List ℕ) (from : ℕ) (first : Ahead) → ((all : List ℕ) → P all → Q all → R all) →
    WithFront held name from first P → WithFront held name from first Q → WithFront held name from first R
with_both None name from first each s t = tt
with_both (Some m) name from first each s t = λ f. each (content m name) (s f) (t f)

pub with_three : {P Q R S : List ℕ → Type 0} → (held : Option Contents) (name : List ℕ) (from : ℕ) (first : Ahead) → ((all : List ℕ) → P all → Q all → R all → S all) →
    WithFront held name from first P → WithFront held name from first Q → WithFront held name from first R → WithFront held name from first S
with_three None name from first each s t u = tt
with_three (Some m) name from first each s t u = λ f. each (content m name) (s f) (t f) (u f)

-- what the walk over the options that are there says of all
abbrev pub Says : Bool → List ℕ → ℕ → ℕ → ℕ → Option ℕ → (List ℕ → Result (Option ℕ) CaptureBad) → Type 0
Says big slice at place left found said = (bytes : List ℕ) → IsStart slice bytes → left ≤ length bytes → all_from big bytes at place left found ≡ said bytes

module _ (all : List ℕ) (frame : Frame) (at here place left : ℕ) (found : Option ℕ) (window : Ahead) (slice : List ℕ) (same : slice ≡ window.bytes) (order : at ≤ here)
    (is : left ≡ at + frame.total - 4 - here) (inside : here ≤ at + frame.total - 4) (stands : StandsAt here window all) (gives : GivesFrom frame at here place found all) where
  walk_gives : (said : List ℕ → Result (Option ℕ) CaptureBad) → Says frame.big slice at place left found said → frame.total ≤ length (drop at all) →
      resolution_of at (options_in frame.big (option_bytes frame (drop at all))) ≡ said (drop here all)
  walk_gives said says whole =
      let start : IsStart slice (drop here all) = subst (λ l. IsStart l (drop here all)) (sym same) stands.start in
      walked_on all frame at here place left found order is inside gives whole ∙ says (drop here all) start (long_enough all frame at here left order is whole)

  pub walk_over : (given : Result (Option ℕ) CaptureBad) (f : Frame) → 4 ≤ frame.total → Says frame.big slice at place left found (λ bytes. given) → tail_of frame (drop at all) at ≡ Ok f →
      ended frame (drop at all) at (resolution_of at (options_in frame.big (option_bytes frame (drop at all)))) ≡ given
  walk_over given f least says e =
      ended_well frame (drop at all) at f (resolution_of at (options_in frame.big (option_bytes frame (drop at all)))) given least (walk_gives (λ bytes. given) says) e

  pub walk_cut : window.last ≡ true → length slice < left → ended frame (drop at all) at (resolution_of at (options_in frame.big (option_bytes frame (drop at all)))) ≡ Err (bad.Ng (ng.Cut at))
  walk_cut last short =
      ended_cut frame (drop at all) at (resolution_of at (options_in frame.big (option_bytes frame (drop at all))))
      (omega (arith, short, ap length same, ap length (stands.whole last), length-drop here all, length-drop at all, is, order, inside))

  pub walk_more : (next count : ℕ) (now : Option ℕ) → count ≤ next → Says frame.big slice at place left found (λ bytes. all_from frame.big bytes at next left now) →
      GivesFrom frame at (here + count) (next - count) now all
  walk_more next count now within says whole =
      let size : frame.total - 4 - (here - at) ≡ left = omega (arith, is, order) in
      let shift : all_from frame.big (drop here all) at next left now ≡ all_from frame.big (drop at all) at (here - at + next) (frame.total - 4) now =
      (λ i. all_from frame.big (sym (block_there all at here order) i) at next (sym size i) now) ∙ from_there frame.big (drop at all) at (here - at) next (frame.total - 4) now in
      let place_is : here - at + next ≡ here + count - at + (next - count) = omega (arith, within, order) in
      walk_gives (λ bytes. all_from frame.big bytes at next left now) says whole ∙ (shift ∙ ap (λ n. all_from frame.big (drop at all) at n (frame.total - 4) now) place_is)

-- an interface, by its fixed fields, its options and its end
pub interface_told : (seen : Seen) (left : List ℕ) (frame : Frame) (start : Result Start CaptureBad) (s : Start) (found : Option ℕ) (read said : Result Block CaptureBad) →
    start_in seen left frame ≡ start → start ≡ Ok s → ended frame left seen.known.at (resolution_of seen.known.at (options_in frame.big (option_bytes frame left))) ≡ Ok found →
    read ≡ block_by seen.known.at s found frame → read ≡ said → ended frame left seen.known.at (interface_in seen left frame) ≡ said
interface_told seen left frame start s found read said st is e r q = by_tail (tail_of frame left seen.known.at) refl
  where
    options : Result (Option ℕ) CaptureBad
    options = resolution_of seen.known.at (options_in frame.big (option_bytes frame left))

    by_tail : (t : Result Frame CaptureBad) → tail_of frame left seen.known.at ≡ t → ended frame left seen.known.at (interface_in seen left frame) ≡ said
    by_tail (Err refusal) t = let none : ended frame left seen.known.at options ≡ Err refusal = ap (λ x. x >>= (λ f. options)) t in absurd (cc)
    by_tail (Ok f) t =
        let given : options ≡ Ok found = sym (ap (λ x. x >>= (λ f. options)) t) ∙ e in
        let fields : start_in seen left frame ≡ Ok s = st ∙ is in
        let body : interface_in seen left frame ≡ block_by seen.known.at s found frame =
        ap (λ x. x >>= (λ y. options >>= (λ byte. block_by seen.known.at y byte frame))) fields ∙ ap (λ x. x >>= (λ byte. block_by seen.known.at s byte frame)) given in
        ap (λ x. x >>= (λ f. interface_in seen left frame)) t ∙ (body ∙ (sym r ∙ q))

pub interface_refused : (seen : Seen) (left : List ℕ) (frame f : Frame) (start : Result Start CaptureBad) (refusal : CaptureBad) → start_in seen left frame ≡ start → start ≡ Err refusal → tail_of frame left seen.known.at ≡ Ok f →
    ended frame left seen.known.at (interface_in seen left frame) ≡ Err refusal
interface_refused seen left frame f start refusal st is t =
    ap (λ x. x >>= (λ f. interface_in seen left frame)) t
    ∙ ap (λ x. x >>= (λ y. resolution_of seen.known.at (options_in frame.big (option_bytes frame left)) >>= (λ byte. block_by seen.known.at y byte frame))) (st ∙ is)

abbrev refused : CaptureBad → Result (Option ℕ) CaptureBad
refused a = Err a

same_refusal : (a b : CaptureBad) → refused a ≡ refused b → a ≡ b
same_refusal a b e = by_cases (refused a) (refused b) refl refl e
  where
    by_cases : (r s : Result (Option ℕ) CaptureBad) → r ≡ Err a → s ≡ Err b → r ≡ s → a ≡ b
    by_cases r s p q e = cc

-- where the options or the end refuse the block, they refuse what is said of it
pub interface_failed : (seen : Seen) (left : List ℕ) (frame : Frame) (s : Start) (e : CaptureError) → start_in seen left frame ≡ Ok s →
    Agrees {T = Option ℕ} (Err e) (ended frame left seen.known.at (resolution_of seen.known.at (options_in frame.big (option_bytes frame left)))) → Agrees {T = Block} (Err e) (ended frame left seen.known.at (interface_in seen left frame))
interface_failed seen left frame s (error.Bad refusal) st a = by_tail (tail_of frame left seen.known.at) refl
  where
    options : Result (Option ℕ) CaptureBad
    options = resolution_of seen.known.at (options_in frame.big (option_bytes frame left))

    by_tail : (t : Result Frame CaptureBad) → tail_of frame left seen.known.at ≡ t → ended frame left seen.known.at (interface_in seen left frame) ≡ Err refusal
    by_tail (Err other) t =
        let same : ended frame left seen.known.at options ≡ Err other = ap (λ x. x >>= (λ f. options)) t in
        let is : other ≡ refusal = same_refusal other refusal (sym same ∙ a) in
        ap (λ x. x >>= (λ f. interface_in seen left frame)) t ∙ ap Err is
    by_tail (Ok f) t =
        let given : options ≡ Err refusal = sym (ap (λ x. x >>= (λ f. options)) t) ∙ a in
        ap (λ x. x >>= (λ f. interface_in seen left frame)) t
        ∙ (ap (λ x. x >>= (λ y. options >>= (λ byte. block_by seen.known.at y byte frame))) st ∙ ap (λ x. x >>= (λ byte. block_by seen.known.at s byte frame)) given)
interface_failed seen left frame s error.ReadFault st a = tt
interface_failed seen left frame s error.OutOfMemory st a = tt

-- the fixed fields, where the first bytes are there
pub fields_there : (seen : Seen) (frame : Frame) (slice left : List ℕ) (window : Ahead) → slice ≡ window.bytes → 16 ≤ length window.bytes → IsStart window.bytes left → start_in seen left frame ≡ start_in seen slice frame
fields_there seen frame slice left window same long s =
    by_front (λ l. start_in seen l frame) 16 window.bytes left (λ l. start_front seen frame l) s long ∙ ap (λ l. start_in seen l frame) (sym same)

-- the answer, as the code has it
pub agrees_failed : {T : Type 0} → (held : Option Contents) (name : List ℕ) (from : ℕ) (first : Ahead) (read : List ℕ → Result T CaptureBad) (result : Result T CaptureError) (e : CaptureError) → result ≡ Err e →
    WithFront held name from first (λ all. Agrees {T = T} (Err e) (read all)) → WithFront held name from first (λ all. Agrees result (read all))
agrees_failed {T} held name from first read result e is told =
    subst (λ (r : Result T CaptureError). WithFront held name from first (λ all. Agrees r (read all))) (sym is) told

-- the bytes from a place of the window on, as the code has them
pub rest_stands : (all : List ℕ) (at n : ℕ) (window rest : Ahead) (slice : List ℕ) → slice ≡ window.bytes → n ≤ length window.bytes → rest ≡ record { bytes = take (length slice - n) (drop n slice); last = false } →
    StandsAt at window all → StandsAt (at + n) rest all
rest_stands all at n window rest slice same within is s =
    let bytes : take (length slice - n) (drop n slice) ≡ drop n window.bytes = take_rest slice n ∙ ap (drop n) same in
    let start : IsStart (drop n window.bytes) (drop (at + n) all) = (front_behind window.bytes all window.last at n within s).start in
    let given : IsFront (take (length slice - n) (drop n slice)) false (drop (at + n) all) =
    record { start = subst (λ l. IsStart l (drop (at + n) all)) (sym bytes) start; whole = λ e. absurd (true≢false (sym e)) } in
    subst (λ (w : Ahead). StandsAt (at + n) w all) (sym is) given

pub with_rest : (held : Option Contents) (name : List ℕ) (at n : ℕ) (window rest : Ahead) (slice : List ℕ) → slice ≡ window.bytes → n ≤ length window.bytes → rest ≡ record { bytes = take (length slice - n) (drop n slice); last = false } →
    WithFront held name at window (StandsAt (at + n) rest)
with_rest None name at n window rest slice same within is = tt
with_rest (Some m) name at n window rest slice same within is = λ f. rest_stands (content m name) at n window rest slice same within is f
