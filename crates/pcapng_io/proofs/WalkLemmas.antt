-- From block to block.
use Rattle.std.proofs.Common.{◌≡◌, ℕ, zero, suc, ◌+◌, ◌^◌, ◌<◌, ◌≤◌, ◌==◌, nat_lt, Bool, true, false, List, [], ◌∷◌, length, take, drop, All, IsSome, Option, Some, None, Result, Ok, Err, refl, sym, ◌∙◌, ap, subst, arith}
use Rattle.std.proofs.lemmas.List.{drop-drop, length-drop, length-take, take-take}
use Rattle.std.proofs.lemmas.List.Elements.{All-nil, All-cons, All-append}
use Rattle.std.proofs.lemmas.Bool.Decides.{nat_tests}
use Rattle.aftr_io.specs.Contents.{Contents, content, Told}
use Rattle.aftr_io.specs.Outside.{OnlyReads, Readable}
use Rattle.capture_io.specs.declared.forms.Rec.{Rec}
use Rattle.capture_io.specs.declared.forms.CaptureBad.{CaptureBad}
use Rattle.capture_io.specs.declared.forms.CaptureBad.TheVariants as bad
use Rattle.capture_io.specs.declared.forms.CaptureError.{CaptureError}
use Rattle.capture_io.specs.declared.forms.CaptureError.TheVariants as error
use Rattle.capture_io.specs.declared.ng_bad.NgBad.TheVariants as ng
use Rattle.capture_io.specs.Answers.{Agrees}
use Rattle.pcapng_io.specs.declared.frame.Frame.{Frame}
use Rattle.pcapng_io.specs.declared.interface.Interface.{Interface}
use Rattle.pcapng_io.specs.declared.block.Block.{Block}
use Rattle.pcapng_io.specs.declared.block.Block.TheVariants as block
use Rattle.pcapng_io.specs.declared.block.Known.{Known}
use Rattle.pcapng_io.specs.declared.block.Packet.{Packet}
use Rattle.pcapng_io.specs.declared.block.Passed.{Passed}
use Rattle.pcapng_io.specs.declared.block.Passed.TheVariants as passed
use Rattle.pcapng_io.specs.declared.walk.Sighted.{Sighted}
use Rattle.pcapng_io.specs.Results.{◌>>=◌}
use Rattle.pcapng_io.specs.Seen.{IsSoundSeen, Seen, seen_by}
use Rattle.pcapng_io.specs.Frames.{frame_in}
use Rattle.pcapng_io.specs.Blocks.{block_in, body_in, first_link, interfaces_after, known_after, len_of, record_of, seen_after, seen_behind, size_of}
use Rattle.pcapng_io.specs.Captures.{Ends, Gives, next_in, next_within, Step, step_by}
use Rattle.pcapng_io.specs.Files.{IsBefore, IsCounted, IsInBlock, left_at}
use Rattle.pcapng_io.specs.Answers.{IsBeforePacket, IsSighted, step_at}
use Rattle.pcapng_io.proofs.FrameLemmas.{frame_is}
use Rattle.pcapng_io.proofs.BlockLemmas.{body_total, HasTotal}

abbrev IsBlock : Block → Type 0
IsBlock block.End = ⊥
IsBlock (block.Packet p) = Unit {0}
IsBlock (block.Passed p) = Unit {0}

total_is : (total : ℕ) (b : Block) → HasTotal total b → len_of b ≡ total
total_is total block.End h = absurd h
total_is total (block.Packet p) h = h
total_is total (block.Passed p) h = h

-- a block stands among the bytes that are left
pub record IsSized (seen : Seen) (left : List ℕ) (total : ℕ) : Type 0 where
  pub some : 12 ≤ total
  pub whole : total ≤ length left
  pub near : seen.known.at ≤ 2 ^ 62

pub sized : (seen : Seen) (left : List ℕ) (number : ℕ) (b : Block) → IsBlock b → block_in seen left number ≡ Ok b → IsSized seen left (len_of b)
sized seen left number b some e = by_far (nat_lt (2 ^ 62) seen.known.at) refl
  where
    by_frame : (r : Result Frame CaptureBad) → frame_in seen.known.big left seen.known.at ≡ r → nat_lt (2 ^ 62) seen.known.at ≡ false → (length left == 0) ≡ false → IsSized seen left (len_of b)
    by_frame (Err refusal) f n z =
        let none : block_in seen left number ≡ Err refusal = rw (n, z) (ap (λ r. r >>= (λ x. body_in seen left number x)) f) in absurd (cc)
    by_frame (Ok frame) f n z =
        let is : block_in seen left number ≡ body_in seen left number frame = rw (n, z) (ap (λ r. r >>= (λ x. body_in seen left number x)) f) in
        let total : len_of b ≡ frame.total = total_is frame.total b (body_total seen left number frame b (sym is ∙ e)) in
        let of_frame = frame_is seen.known.big left seen.known.at frame f in
        let near : seen.known.at ≤ 2 ^ 62 = grind (arith, nat_tests) in
        record { some = omega (arith, of_frame.some); whole = omega (arith, of_frame.whole); near = near }

    by_end : (end : Bool) → (length left == 0) ≡ end → nat_lt (2 ^ 62) seen.known.at ≡ false → IsSized seen left (len_of b)
    by_end true z n =
        let ends : block_in seen left number ≡ Ok block.End = rw (n, z) refl in
        let is : block.End ≡ b = cc in
        absurd (subst IsBlock (sym is) some)
    by_end false z n = by_frame (frame_in seen.known.big left seen.known.at) refl n z

    by_far : (far : Bool) → nat_lt (2 ^ 62) seen.known.at ≡ far → IsSized seen left (len_of b)
    by_far true n = let none : block_in seen left number ≡ Err (bad.Ng (ng.Far seen.known.at)) = rw n refl in absurd (cc)
    by_far false n = by_end (length left == 0) refl n

-- counting more blocks changes nothing
same_next : (n m number : ℕ) (seen : Seen) (left : List ℕ) → length left < n → length left < m → next_within n number seen left ≡ next_within m number seen left
same_next zero m number seen left f g = absurd (omega arith)
same_next (suc n) zero number seen left f g = absurd (omega arith)
same_next (suc n) (suc m) number seen left f g =
    by_block n m number seen left (block_in seen left number) refl
    (λ p e. same_next n m number (seen_after seen p) (drop (size_of p) left)
    (omega (arith, (sized seen left number (block.Passed p) tt e).some, (sized seen left number (block.Passed p) tt e).whole, length-drop (size_of p) left))
    (omega (arith, (sized seen left number (block.Passed p) tt e).some, (sized seen left number (block.Passed p) tt e).whole, length-drop (size_of p) left)))
  where
    by_block : (n m number : ℕ) (seen : Seen) (left : List ℕ) (b : Result Block CaptureBad) → block_in seen left number ≡ b →
        ((p : Passed) → block_in seen left number ≡ Ok (block.Passed p) → next_within n number (seen_after seen p) (drop (size_of p) left) ≡ next_within m number (seen_after seen p) (drop (size_of p) left)) →
        step_by (next_within n number) seen left (block_in seen left number) ≡ step_by (next_within m number) seen left (block_in seen left number)
    by_block n m number seen left (Err refusal) e later = ap (step_by (next_within n number) seen left) e ∙ sym (ap (step_by (next_within m number) seen left) e)
    by_block n m number seen left (Ok block.End) e later = ap (step_by (next_within n number) seen left) e ∙ sym (ap (step_by (next_within m number) seen left) e)
    by_block n m number seen left (Ok (block.Packet p)) e later = ap (step_by (next_within n number) seen left) e ∙ sym (ap (step_by (next_within m number) seen left) e)
    by_block n m number seen left (Ok (block.Passed p)) e later =
        ap (step_by (next_within n number) seen left) e ∙ (later p e ∙ sym (ap (step_by (next_within m number) seen left) e))

-- what a block says of the next packet
pub next_refused : (seen : Seen) (left : List ℕ) (number : ℕ) (refusal : CaptureBad) → block_in seen left number ≡ Err refusal → next_in seen left number ≡ Err refusal
next_refused seen left number refusal e = ap (step_by (next_within (length left) number) seen left) e

pub next_ends : (seen : Seen) (left : List ℕ) (number : ℕ) → block_in seen left number ≡ Ok block.End → next_in seen left number ≡ Ok Ends
next_ends seen left number e = ap (step_by (next_within (length left) number) seen left) e

pub next_packet : (seen : Seen) (left : List ℕ) (number : ℕ) (p : Packet) → block_in seen left number ≡ Ok (block.Packet p) → next_in seen left number ≡ Ok (Gives (record_of seen.known left p) (seen_behind seen p))
next_packet seen left number p e = ap (step_by (next_within (length left) number) seen left) e

pub next_passed : (seen : Seen) (left : List ℕ) (number : ℕ) (p : Passed) → block_in seen left number ≡ Ok (block.Passed p) →
    next_in seen left number ≡ next_in (seen_after seen p) (drop (size_of p) left) number
next_passed seen left number p e =
    let size = sized seen left number (block.Passed p) tt e in
    ap (step_by (next_within (length left) number) seen left) e
    ∙ same_next (length left) (suc (length (drop (size_of p) left))) number (seen_after seen p) (drop (size_of p) left) (omega (arith, size.some, size.whole, length-drop (size_of p) left)) (omega arith)

pub after_at : (known : Known) (p : Passed) → (known_after known p).at ≡ known.at + size_of p
after_at known (passed.Section big total) = refl
after_at known (passed.Interface interface link total) = refl
after_at known (passed.Other total) = refl

-- the end of a packet's record
abbrev pub end_of : Step → ℕ
end_of (Gives r behind) = r.next_at
end_of Ends = 0

-- a packet ends behind the place from which on it is looked for
behind_within : (n number : ℕ) (seen : Seen) (left : List ℕ) (r : Rec) (behind : Seen) → next_within n number seen left ≡ Ok (Gives r behind) → seen.known.at + 12 ≤ r.next_at
behind_within zero number seen left r behind e = absurd (cc)
behind_within (suc n) number seen left r behind e =
    by_block n number seen left r behind (block_in seen left number) refl e (λ p f. behind_within n number (seen_after seen p) (drop (size_of p) left) r behind f)
  where
    by_block : (n number : ℕ) (seen : Seen) (left : List ℕ) (r : Rec) (behind : Seen) (b : Result Block CaptureBad) → block_in seen left number ≡ b →
        step_by (next_within n number) seen left (block_in seen left number) ≡ Ok (Gives r behind) →
        ((p : Passed) → next_within n number (seen_after seen p) (drop (size_of p) left) ≡ Ok (Gives r behind) → (seen_after seen p).known.at + 12 ≤ r.next_at) → seen.known.at + 12 ≤ r.next_at
    by_block n number seen left r behind (Err refusal) b e later =
        let none : step_by (next_within n number) seen left (block_in seen left number) ≡ Err refusal = ap (step_by (next_within n number) seen left) b in absurd (cc)
    by_block n number seen left r behind (Ok block.End) b e later =
        let none : step_by (next_within n number) seen left (block_in seen left number) ≡ Ok Ends = ap (step_by (next_within n number) seen left) b in absurd (cc)
    by_block n number seen left r behind (Ok (block.Packet p)) b e later =
        let gives : step_by (next_within n number) seen left (block_in seen left number) ≡ Ok (Gives (record_of seen.known left p) (seen_behind seen p)) = ap (step_by (next_within n number) seen left) b in
        let same : Gives (record_of seen.known left p) (seen_behind seen p) ≡ Gives r behind = cc in
        let end : seen.known.at + p.total ≡ r.next_at = ap end_of same in
        omega (arith, (sized seen left number (block.Packet p) tt b).some)
    by_block n number seen left r behind (Ok (block.Passed p)) b e later =
        let passes : step_by (next_within n number) seen left (block_in seen left number) ≡ next_within n number (seen_after seen p) (drop (size_of p) left) = ap (step_by (next_within n number) seen left) b in
        omega (arith, later p (sym passes ∙ e), after_at seen.known p)

pub next_behind : (seen : Seen) (left : List ℕ) (number : ℕ) (r : Rec) (behind : Seen) → next_in seen left number ≡ Ok (Gives r behind) → seen.known.at + 12 ≤ r.next_at
next_behind seen left number r behind e = behind_within (suc (length left)) number seen left r behind e

-- a place in a block is before the end of the next packet
pub block_before : (seen : Seen) (left : List ℕ) (number place : ℕ) (r : Rec) (behind : Seen) → ((b : Block) → block_in seen left number ≡ Ok b → IsBefore place seen.known.at b) →
    next_in seen left number ≡ Ok (Gives r behind) → place < r.next_at
block_before seen left number place r behind within e = by_block (block_in seen left number) refl
  where
    by_block : (b : Result Block CaptureBad) → block_in seen left number ≡ b → place < r.next_at
    by_block (Err refusal) b = let none : next_in seen left number ≡ Err refusal = next_refused seen left number refusal b in absurd (cc)
    by_block (Ok block.End) b = let none : next_in seen left number ≡ Ok Ends = next_ends seen left number b in absurd (cc)
    by_block (Ok (block.Packet p)) b =
        let gives : next_in seen left number ≡ Ok (Gives (record_of seen.known left p) (seen_behind seen p)) = next_packet seen left number p b in
        let same : Gives (record_of seen.known left p) (seen_behind seen p) ≡ Gives r behind = cc in
        let end : seen.known.at + p.total ≡ r.next_at = ap end_of same in
        omega (arith, within (block.Packet p) b)
    by_block (Ok (block.Passed p)) b =
        let later : next_in (seen_after seen p) (drop (size_of p) left) number ≡ Ok (Gives r behind) = sym (next_passed seen left number p b) ∙ e in
        omega (arith, within (block.Passed p) b, next_behind (seen_after seen p) (drop (size_of p) left) number r behind later, after_at seen.known p)

-- what the walk knows at a block
pub record IsWalk (held : Option Contents) (name : List ℕ) (known : Known) (interfaces : List Interface) (number : ℕ) (here : Known) (first : ℕ) (now : List Interface) : Type 0 where
  pub stands : Told held (λ m. next_in (seen_by known interfaces) (left_at m name known.at) number ≡ next_in (seen_by here (drop first now)) (left_at m name here.at) number)
  pub front : take (length interfaces) now ≡ interfaces
  pub within : first ≤ length now
  pub from : known.at ≤ here.at
  pub link : here.link ≡ known.link
  pub sound : IsSoundSeen (seen_by here (drop first now))

take_whole : {A : Type 0} → (l : List A) → take (length l) l ≡ l
take_whole [] = refl
take_whole (x ∷ l) = ap (λ t. x ∷ t) (take_whole l)

pub walk_begins : (held : Option Contents) (name : List ℕ) (known : Known) (interfaces : List Interface) (number : ℕ) → IsSoundSeen (seen_by known interfaces) → IsWalk held name known interfaces number known 0 interfaces
walk_begins held name known interfaces number sound = record {
  stands = told_refl held;
  front = take_whole interfaces;
  within = omega arith;
  from = omega arith;
  link = refl;
  sound = sound;
}
  where
    told_refl : (h : Option Contents) → Told h (λ m. next_in (seen_by known interfaces) (left_at m name known.at) number ≡ next_in (seen_by known interfaces) (left_at m name known.at) number)
    told_refl None = tt
    told_refl (Some m) = refl

same_link : (link : Option ℕ) (other : ℕ) → IsSome link → first_link link other ≡ link
same_link None other some = absurd (cc)
same_link (Some link) other some = refl

pub keeps_link : (known : Known) (p : Passed) → IsSome known.link → (known_after known p).link ≡ known.link
keeps_link known (passed.Section big total) some = refl
keeps_link known (passed.Interface interface link total) some = same_link known.link link some
keeps_link known (passed.Other total) some = refl

keeps_nanos : (known : Known) (p : Passed) → (known_after known p).nanos ≡ known.nanos
keeps_nanos known (passed.Section big total) = refl
keeps_nanos known (passed.Interface interface link total) = refl
keeps_nanos known (passed.Other total) = refl

counted_after : (interfaces : List Interface) (p : Passed) → IsCounted p → All (λ (i : Interface). 0 < i.ticks) interfaces → All (λ (i : Interface). 0 < i.ticks) (interfaces_after interfaces p)
counted_after interfaces (passed.Section big total) counted each = λ k d within. absurd (omega arith)
counted_after interfaces (passed.Interface interface link total) counted each =
    All-append (λ (i : Interface). 0 < i.ticks) interfaces (interface ∷ []) each (All-cons (λ (i : Interface). 0 < i.ticks) interface [] counted (All-nil (λ (i : Interface). 0 < i.ticks)))
counted_after interfaces (passed.Other total) counted each = each

pub sound_after : (known : Known) (interfaces : List Interface) (p : Passed) → IsCounted p → IsSoundSeen (seen_by known interfaces) → IsSoundSeen (seen_after (seen_by known interfaces) p)
sound_after known interfaces p counted sound = record {
  time = omega (arith, sound.time, keeps_nanos known p);
  counted = counted_after interfaces p counted sound.counted;
  linked = subst IsSome (sym (keeps_link known p sound.linked)) sound.linked;
}

pub pass_at : (seen : Seen) (bytes : List ℕ) (number : ℕ) (p : Passed) → block_in seen (drop seen.known.at bytes) number ≡ Ok (block.Passed p) →
    next_in seen (drop seen.known.at bytes) number ≡ next_in (seen_after seen p) (drop (known_after seen.known p).at bytes) number
pass_at seen bytes number p e =
    next_passed seen (drop seen.known.at bytes) number p e
    ∙ ap (λ l. next_in (seen_after seen p) l number) (drop-drop (size_of p) seen.known.at bytes ∙ ap (λ n. drop n bytes) (sym (after_at seen.known p)))

pass_told : (held : Option Contents) (name : List ℕ) (known here : Known) (interfaces section : List Interface) (number : ℕ) (p : Passed) (b : Block) → b ≡ block.Passed p →
    Told held (λ m. next_in (seen_by known interfaces) (left_at m name known.at) number ≡ next_in (seen_by here section) (left_at m name here.at) number) →
    Told held (λ m. block_in (seen_by here section) (left_at m name here.at) number ≡ Ok b) →
    Told held (λ m. next_in (seen_by known interfaces) (left_at m name known.at) number ≡ next_in (seen_after (seen_by here section) p) (left_at m name (known_after here p).at) number)
pass_told None name known here interfaces section number p b is stands e = tt
pass_told (Some m) name known here interfaces section number p b is stands e = stands ∙ pass_at (seen_by here section) (content m name) number p (e ∙ ap Ok is)

pub front_kept : (interfaces before now : List Interface) → take (length interfaces) before ≡ interfaces → take (length before) now ≡ before → take (length interfaces) now ≡ interfaces
front_kept interfaces before now first second =
    let less : length interfaces ≤ length before = omega (arith, ap length first, length-take (length interfaces) before) in
    sym (take-take (length interfaces) (length before) now less) ∙ (ap (take (length interfaces)) second ∙ first)

pub walk_passes : (held : Option Contents) (name : List ℕ) (known here next : Known) (interfaces before now : List Interface) (number first later : ℕ) (p : Passed) →
    IsWalk held name known interfaces number here first before → (b : Block) → b ≡ block.Passed p → Told held (λ m. block_in (seen_by here (drop first before)) (left_at m name here.at) number ≡ Ok b) → IsCounted p →
    next ≡ known_after here p → later ≤ length now → take (length before) now ≡ before → drop later now ≡ interfaces_after (drop first before) p →
    IsWalk held name known interfaces number next later now
walk_passes held name known here next interfaces before now number first later p walk b is e counted k l f s =
    let seen : seen_after (seen_by here (drop first before)) p ≡ seen_by next (drop later now) = λ i. seen_by (sym k i) (sym s i) in
    let At : Seen → Type 0 = λ x. Told held (λ m. next_in (seen_by known interfaces) (left_at m name known.at) number ≡ next_in x (left_at m name x.known.at) number) in
    record {
      stands = subst At seen (pass_told held name known here interfaces (drop first before) number p b is walk.stands e);
      front = front_kept interfaces before now walk.front f;
      within = l;
      from = omega (arith, walk.from, after_at here p, ap (λ x. x.at) k);
      link = ap (λ (x : Known). x.link) k ∙ (keeps_link here p walk.sound.linked ∙ walk.link);
      sound = subst IsSoundSeen seen (sound_after here (drop first before) p counted walk.sound);
    }

-- the walk's answers
failed_by : (step : Result Step CaptureBad) (b : Result Block CaptureBad) (e : CaptureError) (interfaces : List Interface) (bytes : List ℕ) → ((refusal : CaptureBad) → b ≡ Err refusal → step ≡ Err refusal) →
    Agrees {T = Block} (Err e) b → IsSighted (Err e) interfaces bytes step
failed_by step b (error.Bad refusal) interfaces bytes follows a = follows refusal a
failed_by step b error.ReadFault interfaces bytes follows a = tt
failed_by step b error.OutOfMemory interfaces bytes follows a = tt

pub walk_failed : (held : Option Contents) (name : List ℕ) (known here : Known) (interfaces before : List Interface) (number first : ℕ) (result : Result (Option Sighted) CaptureError) (e : CaptureError) → result ≡ Err e →
    IsWalk held name known interfaces number here first before → Told held (λ m. Agrees {T = Block} (Err e) (block_in (seen_by here (drop first before)) (left_at m name here.at) number)) →
    Told held (λ m. IsSighted result before (content m name) (next_in (seen_by known interfaces) (left_at m name known.at) number))
walk_failed None name known here interfaces before number first result e is walk a = tt
walk_failed (Some m) name known here interfaces before number first result e is walk a =
    subst (λ (r : Result (Option Sighted) CaptureError). IsSighted r before (content m name) (next_in (seen_by known interfaces) (left_at m name known.at) number)) (sym is)
    (failed_by (next_in (seen_by known interfaces) (left_at m name known.at) number) (block_in (seen_by here (drop first before)) (left_at m name here.at) number) e before (content m name)
    (λ refusal r. walk.stands ∙ next_refused (seen_by here (drop first before)) (left_at m name here.at) number refusal r) a)

pub walk_ends : (held : Option Contents) (name : List ℕ) (known here : Known) (interfaces before : List Interface) (number first : ℕ) (b : Block) → b ≡ block.End → IsWalk held name known interfaces number here first before →
    Told held (λ m. block_in (seen_by here (drop first before)) (left_at m name here.at) number ≡ Ok b) → Told held (λ m. next_in (seen_by known interfaces) (left_at m name known.at) number ≡ Ok Ends)
walk_ends None name known here interfaces before number first b is walk e = tt
walk_ends (Some m) name known here interfaces before number first b is walk e = walk.stands ∙ next_ends (seen_by here (drop first before)) (left_at m name here.at) number (e ∙ ap Ok is)

pub walk_found : (held : Option Contents) (name : List ℕ) (known here : Known) (interfaces before : List Interface) (number first : ℕ) (p : Packet) (b : Block) → b ≡ block.Packet p → IsWalk held name known interfaces number here first before →
    Told held (λ m. block_in (seen_by here (drop first before)) (left_at m name here.at) number ≡ Ok b) →
    Told held (λ m. next_in (seen_by known interfaces) (left_at m name known.at) number ≡ Ok (step_at (record { packet = p; known = here; first = first }) before (content m name)))
walk_found None name known here interfaces before number first p b is walk e = tt
walk_found (Some m) name known here interfaces before number first p b is walk e =
    walk.stands ∙ next_packet (seen_by here (drop first before)) (left_at m name here.at) number p (e ∙ ap Ok is)

-- a place in the block where the walk is is before the end of the next packet
pub walk_inside : (held : Option Contents) (name : List ℕ) (known here : Known) (interfaces before : List Interface) (number first place : ℕ) → IsWalk held name known interfaces number here first before →
    IsInBlock held name (seen_by here (drop first before)) number place → IsBeforePacket held name (seen_by known interfaces) number place
walk_inside None name known here interfaces before number first place walk within = (omega (arith, walk.from, within.0), tt)
walk_inside (Some m) name known here interfaces before number first place walk within = (
  omega (arith, walk.from, within.0),
  λ r behind e. block_before (seen_by here (drop first before)) (left_at m name here.at) number place r behind within.1 (sym walk.stands ∙ e),
)

-- what was told of a block, of the files as they were at first, and of the section's interfaces
pub block_moved : (after held : Option Contents) (name : List ℕ) (here : Known) (number : ℕ) (section list : List Interface) (answer : Result Block CaptureError) → after ≡ held → section ≡ list →
    Told after (λ m. Agrees answer (block_in (seen_by here section) (left_at m name here.at) number)) → Told held (λ m. Agrees answer (block_in (seen_by here list) (left_at m name here.at) number))
block_moved after held name here number section list answer same is told =
    let At : Option Contents → Type 0 = λ h. Told h (λ m. Agrees answer (block_in (seen_by here section) (left_at m name here.at) number)) in
    let Of : List Interface → Type 0 = λ l. Told held (λ m. Agrees answer (block_in (seen_by here l) (left_at m name here.at) number)) in
    subst Of is (subst At same told)

pub inside_moved : (after held : Option Contents) (name : List ℕ) (here : Known) (number place : ℕ) (section list : List Interface) → after ≡ held → section ≡ list → IsInBlock after name (seen_by here section) number place →
    IsInBlock held name (seen_by here list) number place
inside_moved after held name here number place section list same is within =
    let At : Option Contents → Type 0 = λ h. IsInBlock h name (seen_by here section) number place in
    let Of : List Interface → Type 0 = λ l. IsInBlock held name (seen_by here l) number place in
    subst Of is (subst At same within)

-- nothing failed
pub quiet : (name : List ℕ) (Q : ℕ → Type 0) (a c : Readable) → c ≡ a → OnlyReads false name Q a c
quiet name Q a c same =
    let R : Readable → Type 0 = λ o. OnlyReads false name Q a o in
    subst R (sym same) (record { held = refl; lost = refl; last = refl })
