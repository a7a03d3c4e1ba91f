-- The file header: the blocks up to the first interface.
use Rattle.std.proofs.Common.{◌≡◌, ℕ, zero, suc, ◌<◌, ◌≤◌, List, [], ◌∷◌, length, drop, Option, Some, None, Result, Ok, Err, IfOk, IfErr, refl, sym, ◌∙◌, ap, subst, arith}
use Rattle.std.proofs.lemmas.List.{drop-drop, length-drop}
use Rattle.aftr_io.specs.Contents.{Contents, content, Told}
use Rattle.capture_io.specs.declared.forms.CaptureBad.{CaptureBad}
use Rattle.capture_io.specs.declared.forms.CaptureError.{CaptureError}
use Rattle.capture_io.specs.declared.forms.CaptureError.TheVariants as error
use Rattle.capture_io.specs.Answers.{Agrees}
use Rattle.pcapng_io.specs.declared.interface.Interface.{Interface}
use Rattle.pcapng_io.specs.declared.block.Block.{Block}
use Rattle.pcapng_io.specs.declared.block.Block.TheVariants as block
use Rattle.pcapng_io.specs.declared.block.Known.{Known}
use Rattle.pcapng_io.specs.declared.block.Packet.{Packet}
use Rattle.pcapng_io.specs.declared.block.Passed.{Passed}
use Rattle.pcapng_io.specs.declared.block.Passed.TheVariants as passed
use Rattle.pcapng_io.specs.Seen.{Seen, seen_by}
use Rattle.pcapng_io.specs.Blocks.{block_in, known_after, seen_after, size_of}
use Rattle.pcapng_io.specs.Captures.{as_plain, at_start, header_in, open_by, open_within}
use Rattle.pcapng_io.specs.Files.{IsBefore, IsInBlock, left_at}
use Rattle.pcapng_io.specs.Answers.{EndsBehind, IsInHeader}
use Rattle.pcapng_io.specs.Standing.{Opens, Standing, stands_in}
use Rattle.capture_io.specs.Windows.{Ahead, IsAtFront}
use Rattle.pcapng_io.proofs.WalkLemmas.{after_at, sized}

abbrev pub IsPlain : Passed → Type 0
IsPlain (passed.Section big total) = Unit {0}
IsPlain (passed.Interface interface link total) = ⊥
IsPlain (passed.Other total) = Unit {0}

abbrev pub open_in : Seen → List ℕ → Result Seen CaptureBad
open_in seen left = open_within (suc (length left)) seen left

same_open : (n m : ℕ) (seen : Seen) (left : List ℕ) → length left < n → length left < m → open_within n seen left ≡ open_within m seen left
same_open zero m seen left f g = absurd (omega arith)
same_open (suc n) zero seen left f g = absurd (omega arith)
same_open (suc n) (suc m) seen left f g =
    by_block n m seen left (block_in seen left 0) refl
    (λ p e. same_open n m (seen_after seen p) (drop (size_of p) left)
    (omega (arith, (sized seen left 0 (block.Passed p) tt e).some, (sized seen left 0 (block.Passed p) tt e).whole, length-drop (size_of p) left))
    (omega (arith, (sized seen left 0 (block.Passed p) tt e).some, (sized seen left 0 (block.Passed p) tt e).whole, length-drop (size_of p) left)))
  where
    by_block : (n m : ℕ) (seen : Seen) (left : List ℕ) (b : Result Block CaptureBad) → block_in seen left 0 ≡ b →
        ((p : Passed) → block_in seen left 0 ≡ Ok (block.Passed p) → open_within n (seen_after seen p) (drop (size_of p) left) ≡ open_within m (seen_after seen p) (drop (size_of p) left)) →
        open_by (open_within n) seen left (block_in seen left 0) ≡ open_by (open_within m) seen left (block_in seen left 0)
    by_block n m seen left (Err refusal) e later = ap (open_by (open_within n) seen left) e ∙ sym (ap (open_by (open_within m) seen left) e)
    by_block n m seen left (Ok block.End) e later = ap (open_by (open_within n) seen left) e ∙ sym (ap (open_by (open_within m) seen left) e)
    by_block n m seen left (Ok (block.Packet p)) e later = ap (open_by (open_within n) seen left) e ∙ sym (ap (open_by (open_within m) seen left) e)
    by_block n m seen left (Ok (block.Passed (passed.Section big total))) e later =
        ap (open_by (open_within n) seen left) e ∙ (later (passed.Section big total) e ∙ sym (ap (open_by (open_within m) seen left) e))
    by_block n m seen left (Ok (block.Passed (passed.Interface interface link total))) e later = ap (open_by (open_within n) seen left) e ∙ sym (ap (open_by (open_within m) seen left) e)
    by_block n m seen left (Ok (block.Passed (passed.Other total))) e later =
        ap (open_by (open_within n) seen left) e ∙ (later (passed.Other total) e ∙ sym (ap (open_by (open_within m) seen left) e))

open_refused : (seen : Seen) (left : List ℕ) (refusal : CaptureBad) → block_in seen left 0 ≡ Err refusal → open_in seen left ≡ Err refusal
open_refused seen left refusal e = ap (open_by (open_within (length left)) seen left) e

open_ends : (seen : Seen) (left : List ℕ) → block_in seen left 0 ≡ Ok block.End → open_in seen left ≡ Ok (as_plain seen)
open_ends seen left e = ap (open_by (open_within (length left)) seen left) e

open_packet : (seen : Seen) (left : List ℕ) (p : Packet) → block_in seen left 0 ≡ Ok (block.Packet p) → open_in seen left ≡ Ok (as_plain seen)
open_packet seen left p e = ap (open_by (open_within (length left)) seen left) e

open_interface : (seen : Seen) (left : List ℕ) (i : Interface) (link total : ℕ) → block_in seen left 0 ≡ Ok (block.Passed (passed.Interface i link total)) → open_in seen left ≡ Ok (seen_after seen (passed.Interface i link total))
open_interface seen left i link total e = ap (open_by (open_within (length left)) seen left) e

shorter : (seen : Seen) (left : List ℕ) (p : Passed) → block_in seen left 0 ≡ Ok (block.Passed p) → length (drop (size_of p) left) < length left
shorter seen left p e = omega (arith, (sized seen left 0 (block.Passed p) tt e).some, (sized seen left 0 (block.Passed p) tt e).whole, length-drop (size_of p) left)

open_passed : (seen : Seen) (left : List ℕ) (p : Passed) → IsPlain p → block_in seen left 0 ≡ Ok (block.Passed p) → open_in seen left ≡ open_in (seen_after seen p) (drop (size_of p) left)
open_passed seen left (passed.Section big total) plain e =
    ap (open_by (open_within (length left)) seen left) e
    ∙ same_open (length left) (suc (length (drop total left))) (seen_after seen (passed.Section big total)) (drop total left) (shorter seen left (passed.Section big total) e) (omega arith)
open_passed seen left (passed.Interface interface link total) plain e = absurd plain
open_passed seen left (passed.Other total) plain e =
    ap (open_by (open_within (length left)) seen left) e
    ∙ same_open (length left) (suc (length (drop total left))) (seen_after seen (passed.Other total)) (drop total left) (shorter seen left (passed.Other total) e) (omega arith)

-- a header ends where the reader begins, or behind it
forward_within : (n : ℕ) (seen : Seen) (left : List ℕ) (opened : Seen) → open_within n seen left ≡ Ok opened → seen.known.at ≤ opened.known.at
forward_within zero seen left opened e = let same : as_plain seen ≡ opened = cc in omega (arith, ap (λ (s : Seen). s.known.at) same)
forward_within (suc n) seen left opened e =
    by_block n seen left opened (block_in seen left 0) refl e (λ p f. forward_within n (seen_after seen p) (drop (size_of p) left) opened f)
  where
    by_block : (n : ℕ) (seen : Seen) (left : List ℕ) (opened : Seen) (b : Result Block CaptureBad) → block_in seen left 0 ≡ b → open_by (open_within n) seen left (block_in seen left 0) ≡ Ok opened →
        ((p : Passed) → open_within n (seen_after seen p) (drop (size_of p) left) ≡ Ok opened → (seen_after seen p).known.at ≤ opened.known.at) → seen.known.at ≤ opened.known.at
    by_block n seen left opened (Err refusal) b e later = let none : open_by (open_within n) seen left (block_in seen left 0) ≡ Err refusal = ap (open_by (open_within n) seen left) b in absurd (cc)
    by_block n seen left opened (Ok block.End) b e later =
        let is : open_by (open_within n) seen left (block_in seen left 0) ≡ Ok (as_plain seen) = ap (open_by (open_within n) seen left) b in
        let same : as_plain seen ≡ opened = cc in omega (arith, ap (λ (s : Seen). s.known.at) same)
    by_block n seen left opened (Ok (block.Packet p)) b e later =
        let is : open_by (open_within n) seen left (block_in seen left 0) ≡ Ok (as_plain seen) = ap (open_by (open_within n) seen left) b in
        let same : as_plain seen ≡ opened = cc in omega (arith, ap (λ (s : Seen). s.known.at) same)
    by_block n seen left opened (Ok (block.Passed (passed.Section big total))) b e later =
        let is : open_by (open_within n) seen left (block_in seen left 0) ≡ open_within n (seen_after seen (passed.Section big total)) (drop total left) = ap (open_by (open_within n) seen left) b in
        omega (arith, later (passed.Section big total) (sym is ∙ e))
    by_block n seen left opened (Ok (block.Passed (passed.Interface interface link total))) b e later =
        let is : open_by (open_within n) seen left (block_in seen left 0) ≡ Ok (seen_after seen (passed.Interface interface link total)) = ap (open_by (open_within n) seen left) b in
        let same : seen_after seen (passed.Interface interface link total) ≡ opened = cc in omega (arith, ap (λ (s : Seen). s.known.at) same)
    by_block n seen left opened (Ok (block.Passed (passed.Other total))) b e later =
        let is : open_by (open_within n) seen left (block_in seen left 0) ≡ open_within n (seen_after seen (passed.Other total)) (drop total left) = ap (open_by (open_within n) seen left) b in
        omega (arith, later (passed.Other total) (sym is ∙ e))

-- what is known at a block in front of the first interface
abbrev pub OpensFrom : Option Contents → List ℕ → Known → Type 0
OpensFrom held name known = Told held (λ m. header_in (content m name) ≡ open_in (seen_by known []) (left_at m name known.at))

pub opens_begins : (held : Option Contents) (name : List ℕ) → OpensFrom held name at_start.known
opens_begins None name = tt
opens_begins (Some m) name = refl

open_failed_by : (header : Result Seen CaptureBad) (b : Result Block CaptureBad) (e : CaptureError) → ((refusal : CaptureBad) → b ≡ Err refusal → header ≡ Err refusal) → Agrees {T = Block} (Err e) b → Agrees {T = Seen} (Err e) header
open_failed_by header b (error.Bad refusal) follows a = follows refusal a
open_failed_by header b error.ReadFault follows a = tt
open_failed_by header b error.OutOfMemory follows a = tt

pub open_failed : (held : Option Contents) (name : List ℕ) (known : Known) (result : Result Seen CaptureError) (e : CaptureError) → result ≡ Err e → OpensFrom held name known →
    Told held (λ m. Agrees {T = Block} (Err e) (block_in (seen_by known []) (left_at m name known.at) 0)) → Told held (λ m. Agrees result (header_in (content m name)))
open_failed None name known result e is opens a = tt
open_failed (Some m) name known result e is opens a =
    subst (λ (r : Result Seen CaptureError). Agrees r (header_in (content m name))) (sym is)
    (open_failed_by (header_in (content m name)) (block_in (seen_by known []) (left_at m name known.at) 0) e (λ refusal r. opens ∙ open_refused (seen_by known []) (left_at m name known.at) refusal r) a)

pub opened_end : (held : Option Contents) (name : List ℕ) (known : Known) (b : Block) → b ≡ block.End → OpensFrom held name known → Told held (λ m. block_in (seen_by known []) (left_at m name known.at) 0 ≡ Ok b) →
    Told held (λ m. header_in (content m name) ≡ Ok (as_plain (seen_by known [])))
opened_end None name known b is opens e = tt
opened_end (Some m) name known b is opens e = opens ∙ open_ends (seen_by known []) (left_at m name known.at) (e ∙ ap Ok is)

pub opened_packet : (held : Option Contents) (name : List ℕ) (known : Known) (b : Block) (p : Packet) → b ≡ block.Packet p → OpensFrom held name known → Told held (λ m. block_in (seen_by known []) (left_at m name known.at) 0 ≡ Ok b) →
    Told held (λ m. header_in (content m name) ≡ Ok (as_plain (seen_by known [])))
opened_packet None name known b p is opens e = tt
opened_packet (Some m) name known b p is opens e = opens ∙ open_packet (seen_by known []) (left_at m name known.at) p (e ∙ ap Ok is)

pub opened_interface : (held : Option Contents) (name : List ℕ) (known : Known) (b : Block) (i : Interface) (link total : ℕ) (now : Known) (interfaces : List Interface) → b ≡ block.Passed (passed.Interface i link total) → OpensFrom held name known →
    Told held (λ m. block_in (seen_by known []) (left_at m name known.at) 0 ≡ Ok b) → now ≡ known_after known (passed.Interface i link total) → interfaces ≡ i ∷ [] →
    Told held (λ m. header_in (content m name) ≡ Ok (seen_by now interfaces))
opened_interface None name known b i link total now interfaces is opens e k l = tt
opened_interface (Some m) name known b i link total now interfaces is opens e k l =
    opens ∙ (open_interface (seen_by known []) (left_at m name known.at) i link total (e ∙ ap Ok is) ∙ (λ j. Ok (seen_by (sym k j) (sym l j))))

pub opens_on : (held : Option Contents) (name : List ℕ) (known now : Known) (b : Block) (p : Passed) → b ≡ block.Passed p → IsPlain p → OpensFrom held name known →
    Told held (λ m. block_in (seen_by known []) (left_at m name known.at) 0 ≡ Ok b) → now ≡ known_after known p → OpensFrom held name now
opens_on None name known now b p is plain opens e k = tt
opens_on (Some m) name known now b p is plain opens e k =
    let seen : seen_after (seen_by known []) p ≡ seen_by now [] = no_interfaces known now p plain k in
    let At : Seen → Type 0 = λ x. header_in (content m name) ≡ open_in x (left_at m name x.known.at) in
    subst At seen
    (opens ∙ (open_passed (seen_by known []) (left_at m name known.at) p plain (e ∙ ap Ok is)
    ∙ ap (λ l. open_in (seen_after (seen_by known []) p) l) (drop-drop (size_of p) known.at (content m name) ∙ ap (λ n. drop n (content m name)) (sym (after_at known p)))))
  where
    no_interfaces : (known now : Known) (p : Passed) → IsPlain p → now ≡ known_after known p → seen_after (seen_by known []) p ≡ seen_by now []
    no_interfaces known now (passed.Section big total) plain k = ap (λ (x : Known). seen_by x []) (sym k)
    no_interfaces known now (passed.Interface i link total) plain k = absurd plain
    no_interfaces known now (passed.Other total) plain k = ap (λ (x : Known). seen_by x []) (sym k)

pub plain_keeps : (known now : Known) (p : Passed) → IsPlain p → now ≡ known_after known p → now.nanos ≡ known.nanos
plain_keeps known now (passed.Section big total) plain k = ap (λ (x : Known). x.nanos) k
plain_keeps known now (passed.Interface i link total) plain k = absurd plain
plain_keeps known now (passed.Other total) plain k = ap (λ (x : Known). x.nanos) k

pub plain_links : (known now : Known) (p : Passed) → IsPlain p → now ≡ known_after known p → now.link ≡ known.link
plain_links known now (passed.Section big total) plain k = ap (λ (x : Known). x.link) k
plain_links known now (passed.Interface i link total) plain k = absurd plain
plain_links known now (passed.Other total) plain k = ap (λ (x : Known). x.link) k

behind_by : (place end : ℕ) (interfaces : List Interface) → place < end → EndsBehind place interfaces end
behind_by place end [] h = tt
behind_by place end (interface ∷ interfaces) h = h

-- a place in the block where the reader is is before the end of the first interface's block
header_at : (bytes : List ℕ) (known : Known) (place : ℕ) (opened : Seen) → ((b : Block) → block_in (seen_by known []) (drop known.at bytes) 0 ≡ Ok b → IsBefore place known.at b) →
    open_in (seen_by known []) (drop known.at bytes) ≡ Ok opened → EndsBehind place opened.interfaces opened.known.at
header_at bytes known place opened within e = by_block (block_in (seen_by known []) (drop known.at bytes) 0) refl
  where
    stays : as_plain (seen_by known []) ≡ opened → EndsBehind place opened.interfaces opened.known.at
    stays same = subst (λ (s : Seen). EndsBehind place s.interfaces s.known.at) same tt

    by_block : (b : Result Block CaptureBad) → block_in (seen_by known []) (drop known.at bytes) 0 ≡ b → EndsBehind place opened.interfaces opened.known.at
    by_block (Err refusal) b = let is : open_in (seen_by known []) (drop known.at bytes) ≡ Err refusal = open_refused (seen_by known []) (drop known.at bytes) refusal b in absurd (cc)
    by_block (Ok block.End) b = let is : open_in (seen_by known []) (drop known.at bytes) ≡ Ok (as_plain (seen_by known [])) = open_ends (seen_by known []) (drop known.at bytes) b in stays cc
    by_block (Ok (block.Packet p)) b = let is : open_in (seen_by known []) (drop known.at bytes) ≡ Ok (as_plain (seen_by known [])) = open_packet (seen_by known []) (drop known.at bytes) p b in stays cc
    by_block (Ok (block.Passed (passed.Interface i link total))) b =
        let is : open_in (seen_by known []) (drop known.at bytes) ≡ Ok (seen_after (seen_by known []) (passed.Interface i link total)) = open_interface (seen_by known []) (drop known.at bytes) i link total b in
        let same : seen_after (seen_by known []) (passed.Interface i link total) ≡ opened = cc in
        behind_by place opened.known.at opened.interfaces (omega (arith, ap (λ (s : Seen). s.known.at) same, within (block.Passed (passed.Interface i link total)) b))
    by_block (Ok (block.Passed (passed.Section big total))) b =
        let is : open_in (seen_after (seen_by known []) (passed.Section big total)) (drop total (drop known.at bytes)) ≡ Ok opened = sym (open_passed (seen_by known []) (drop known.at bytes) (passed.Section big total) tt b) ∙ e in
        behind_by place opened.known.at opened.interfaces (omega (
          arith,
          within (block.Passed (passed.Section big total)) b,
          forward_within (suc (length (drop total (drop known.at bytes)))) (seen_after (seen_by known []) (passed.Section big total)) (drop total (drop known.at bytes)) opened is,
        ))
    by_block (Ok (block.Passed (passed.Other total))) b =
        let is : open_in (seen_after (seen_by known []) (passed.Other total)) (drop total (drop known.at bytes)) ≡ Ok opened = sym (open_passed (seen_by known []) (drop known.at bytes) (passed.Other total) tt b) ∙ e in
        behind_by place opened.known.at opened.interfaces (omega (
          arith,
          within (block.Passed (passed.Other total)) b,
          forward_within (suc (length (drop total (drop known.at bytes)))) (seen_after (seen_by known []) (passed.Other total)) (drop total (drop known.at bytes)) opened is,
        ))

pub open_inside : (held : Option Contents) (name : List ℕ) (known : Known) (place : ℕ) → OpensFrom held name known → IsInBlock held name (seen_by known []) 0 place → IsInHeader held name place
open_inside None name known place opens within = tt
open_inside (Some m) name known place opens within = λ opened e. header_at (content m name) known place opened within.1 (sym opens ∙ e)

pub plain_by : (p : Passed) → ((interface : Interface) (link total : ℕ) → p ≡ passed.Interface interface link total → ⊥) → IsPlain p
plain_by (passed.Section big total) other = tt
plain_by (passed.Interface interface link total) other = other interface link total refl
plain_by (passed.Other total) other = tt

-- a reader that stands behind the header
pub opened_told : (held : Option Contents) (name : List ℕ) (result : Result Standing CaptureError) (seen : Seen) (window : Ahead) → Told held (λ m. header_in (content m name) ≡ Ok seen) →
    IsAtFront held name seen.known.at window → IfOk result (λ r. r ≡ record { seen = seen; ahead = window.bytes }) → IfErr result (λ e. e ≡ error.OutOfMemory) →
    Told held (λ m. Opens result (content m name))
opened_told None name result seen window header stands is memory = tt
opened_told (Some m) name result seen window header stands is memory = by_result result is memory
  where
    by_result : (r : Result Standing CaptureError) → IfOk r (λ x. x ≡ record { seen = seen; ahead = window.bytes }) → IfErr r (λ e. e ≡ error.OutOfMemory) → Opens r (content m name)
    by_result (Ok reader) is memory =
        let P : Standing → Type 0 = λ x. (header_in (content m name) ≡ Ok x.seen) × stands_in x (content m name) in
        subst P (sym is) (header, stands.start)
    by_result (Err e) is memory = subst (λ (x : CaptureError). Opens (Err x) (content m name)) (sym memory) tt
