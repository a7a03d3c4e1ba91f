-- Where the refusals of blocks come from.
use Rattle.std.proofs.Common.{◌≡◌, ℕ, ◌-◌, ◌^◌, ◌==◌, nat_lt, not, ◌&&◌, Bool, true, false, if◌then◌else◌, List, [], length, Option, Some, None, Result, Ok, Err, refl, sym, ap, subst, arith}
use Rattle.std.specs.List.{list_any}
use Rattle.std.specs.Prelude.{IfErr}
use Rattle.std.proofs.lemmas.Bool.Decides.{nat_tests}
use Rattle.capture_io.specs.Header.{is_known_link}
use Rattle.capture_io.specs.Refusals.{IsOfFirstBlocks, IsOfRecord, RefusesHeader}
use Rattle.capture_io.specs.Words.{half_at, word_at}
use Rattle.capture_io.specs.declared.forms.CaptureBad.{CaptureBad}
use Rattle.capture_io.specs.declared.forms.CaptureBad.TheVariants as bad
use Rattle.capture_io.specs.declared.forms.CaptureError.{CaptureError}
use Rattle.capture_io.specs.declared.forms.CaptureError.TheVariants as error
use Rattle.capture_io.specs.declared.ng_bad.NgBad.{NgBad}
use Rattle.capture_io.specs.declared.ng_bad.NgBad.TheVariants as ng
use Rattle.pcapng_io.specs.declared.block.Block.{Block}
use Rattle.pcapng_io.specs.declared.block.Block.TheVariants as block
use Rattle.pcapng_io.specs.declared.block.Known.{Known}
use Rattle.pcapng_io.specs.declared.block.Passed.TheVariants as passed
use Rattle.pcapng_io.specs.declared.frame.Frame.{Frame}
use Rattle.pcapng_io.specs.declared.fronts.Front.TheVariants as front
use Rattle.pcapng_io.specs.declared.interface.Start.{Start}
use Rattle.pcapng_io.specs.Answers.{IsOfBlock, RefusesBlock}
use Rattle.pcapng_io.specs.Blocks.{block_in, body_in}
use Rattle.pcapng_io.specs.Frames.{begins_section, enhanced_packet_type, frame_at, frame_in, has_no_order, head_in, interface_type, is_no_total, old_packet_type, section_type, simple_packet_type}
use Rattle.pcapng_io.specs.Fronts.{front_by, front_in, is_short}
use Rattle.pcapng_io.specs.Interfaces.{BlockOption, block_by, interface_in, interface_of, is_bad_resolution, is_other_link, is_too_fine, first_resolution, link_at, option_bytes, options_in, resolution_of, resolution_or_default, start_in, ticks_per_second}
use Rattle.pcapng_io.specs.Packets.{captured_in, enhanced_in, enhanced_packet, seconds_of, section_in, sender_in, simple_captured_in, simple_in, simple_packet, ticks_in}
use Rattle.pcapng_io.specs.Results.{unless, ◌>>=◌}
use Rattle.pcapng_io.specs.Seen.{Seen, seen_by}

-- a refusal is one of these
abbrev Only : {A : Type 0} → (CaptureBad → Type 0) → Result A CaptureBad → Type 0
Only P (Ok a) = Unit {0}
Only P (Err refusal) = P refusal

abbrev OnlyOf : (NgBad → Type 0) → Option NgBad → Type 0
OnlyOf Q None = Unit {0}
OnlyOf Q (Some refusal) = Q refusal

only_test : (Q : NgBad → Type 0) (test : Bool) (refusal : NgBad) (rest : Option NgBad) → (test ≡ true → Q refusal) → (test ≡ false → OnlyOf Q rest) → OnlyOf Q (if test then Some refusal else rest)
only_test Q true refusal rest first later = first refl
only_test Q false refusal rest first later = later refl

only_unless : {A : Type 0} (P : CaptureBad → Type 0) (o : Option NgBad) (good : Result A CaptureBad) → OnlyOf (λ r. P (bad.Ng r)) o → Only P good → Only P (unless o good)
only_unless P None good first later = later
only_unless P (Some refusal) good first later = first

only_then : {A B : Type 0} (P : CaptureBad → Type 0) (r : Result A CaptureBad) (f : A → Result B CaptureBad) → Only P r → ((a : A) → Only P (f a)) → Only P (r >>= f)
only_then P (Ok a) f first later = later a
only_then P (Err refusal) f first later = first

only_if : {A : Type 0} (P : CaptureBad → Type 0) (test : Bool) (a b : Result A CaptureBad) → Only P a → Only P b → Only P (if test then a else b)
only_if P true a b first later = first
only_if P false a b first later = later

module _ (P : CaptureBad → Type 0) (seen : Seen) (plain : (r : NgBad) → IsOfFirstBlocks r → P (bad.Ng r)) (many : nat_lt 65535 (length seen.interfaces) ≡ true → P (bad.Ng (ng.Interfaces seen.known.at)))
    (mixed : (link : ℕ) → is_other_link seen.known.link link ≡ true → P (bad.Ng (ng.MixedLinks seen.known.at))) (packets : (length seen.interfaces == 0) ≡ false → (r : NgBad) → P (bad.Ng r)) (left : List ℕ) (number : ℕ) where
  abbrev Q : NgBad → Type 0
  Q r = P (bad.Ng r)

  frame_only : Only P (frame_in seen.known.big left seen.known.at)
  frame_only =
      let at = seen.known.at in
      let frame = frame_at seen.known.big left in
      only_unless P _ (Ok frame)
      (only_test Q (nat_lt (length left) 12) (ng.Cut at) _ (λ is. plain (ng.Cut at) tt) (λ no.
      only_test Q (begins_section left && has_no_order left) (ng.Order at) _ (λ is. plain (ng.Order at) tt) (λ no.
      only_test Q (is_no_total frame) (ng.Length at) _ (λ is. plain (ng.Length at) tt) (λ no.
      only_test Q (nat_lt (length left) frame.total) (ng.Cut at) _ (λ is. plain (ng.Cut at) tt) (λ no.
      only_test Q (not (word_at frame.big left (frame.total - 4) == frame.total)) (ng.Length at) None (λ is. plain (ng.Length at) tt) (λ no. tt)))))) tt

  start_only : (frame : Frame) → Only P (start_in seen left frame)
  start_only frame =
      let at = seen.known.at in
      let link = link_at frame left in
      only_unless P _ (Ok (record { link = link; most = word_at frame.big left 12 }))
      (only_test Q (nat_lt 65535 (length seen.interfaces)) (ng.Interfaces at) _ many (λ no.
      only_test Q (not (is_known_link link)) (ng.Link at link) _ (λ is. plain (ng.Link at link) tt) (λ no.
      only_test Q (is_other_link seen.known.link link) (ng.MixedLinks at) None (mixed link) (λ no. tt)))) tt

  resolution_only : (options : Option (List BlockOption)) → Only P (resolution_of seen.known.at options)
  resolution_only None = plain (ng.Options seen.known.at) tt
  resolution_only (Some options) = only_if P (list_any is_bad_resolution options) (Err (bad.Ng (ng.Options seen.known.at))) (Ok (first_resolution options)) (plain (ng.Options seen.known.at) tt) tt

  interface_only : (most byte : ℕ) → Only P (interface_of seen.known.at most byte)
  interface_only most byte = only_if P (is_too_fine byte) (Err (bad.Ng (ng.Resolution seen.known.at))) (Ok (record { ticks = ticks_per_second byte; most = most })) (plain (ng.Resolution seen.known.at) tt) tt

  interfaces_only : (frame : Frame) → Only P (interface_in seen left frame)
  interfaces_only frame =
      only_then P (start_in seen left frame) _ (start_only frame) (λ start.
      only_then P (resolution_of seen.known.at (options_in frame.big (option_bytes frame left))) _ (resolution_only (options_in frame.big (option_bytes frame left))) (λ byte.
      only_then P (interface_of seen.known.at start.most (resolution_or_default byte)) _ (interface_only start.most (resolution_or_default byte)) (λ interface. tt)))

  enhanced_only : (frame : Frame) → Only P (enhanced_in seen left number frame)
  enhanced_only frame =
      let at = seen.known.at in
      let some : (not (nat_lt (word_at frame.big left 8) (length seen.interfaces)) ≡ false) → (length seen.interfaces == 0) ≡ false = λ is. grind (arith, nat_tests) in
      only_unless P _ (Ok (block.Packet (enhanced_packet seen left frame)))
      (only_test Q (not (nat_lt (word_at frame.big left 8) (length seen.interfaces))) (ng.Interface at) _ (λ is. plain (ng.Interface at) tt) (λ no.
      only_test Q (number == 2 ^ 31) (ng.TooMany at) _ (λ is. packets (some no) (ng.TooMany at)) (λ x.
      only_test Q (nat_lt 262144 (captured_in frame left)) (ng.TooLong at) _ (λ is. packets (some no) (ng.TooLong at)) (λ y.
      only_test Q (nat_lt (frame.total - 32) (captured_in frame left)) (ng.Captured at) _ (λ is. packets (some no) (ng.Captured at)) (λ z.
      only_test Q (not (nat_lt (seconds_of (sender_in seen frame left) (ticks_in frame left)) (2 ^ 32))) (ng.Time at) None (λ is. packets (some no) (ng.Time at)) (λ u. tt)))))) tt

  simple_only : (frame : Frame) → Only P (simple_in seen left number frame)
  simple_only frame =
      let at = seen.known.at in
      only_unless P _ (Ok (block.Packet (simple_packet seen left frame)))
      (only_test Q (length seen.interfaces == 0) (ng.Interface at) _ (λ is. plain (ng.Interface at) tt) (λ no.
      only_test Q (number == 2 ^ 31) (ng.TooMany at) _ (λ is. packets no (ng.TooMany at)) (λ x.
      only_test Q (nat_lt 262144 (simple_captured_in seen frame left)) (ng.TooLong at) _ (λ is. packets no (ng.TooLong at)) (λ y.
      only_test Q (nat_lt (frame.total - 16) (simple_captured_in seen frame left)) (ng.Captured at) None (λ is. packets no (ng.Captured at)) (λ z. tt))))) tt

  body_only : (frame : Frame) → Only P (body_in seen left number frame)
  body_only frame =
      only_if P (frame.kind == section_type) (section_in seen.known.at left frame) _
      (only_if P (half_at frame.big left 12 == 1) (Ok (block.Passed (passed.Section frame.big frame.total))) (Err (bad.Ng (ng.Version seen.known.at))) tt (plain (ng.Version seen.known.at) tt))
      (only_if P (frame.kind == old_packet_type) (Err (bad.Ng (ng.Old seen.known.at))) _ (plain (ng.Old seen.known.at) tt)
      (only_if P (frame.kind == interface_type) (interface_in seen left frame) _ (interfaces_only frame)
      (only_if P (frame.kind == enhanced_packet_type) (enhanced_in seen left number frame) _ (enhanced_only frame)
      (only_if P (frame.kind == simple_packet_type) (simple_in seen left number frame) (Ok (block.Passed (passed.Other frame.total))) (simple_only frame) tt))))

  block_only : Only P (block_in seen left number)
  block_only =
      only_if P (nat_lt (2 ^ 62) seen.known.at) (Err (bad.Ng (ng.Far seen.known.at))) _ (plain (ng.Far seen.known.at) tt)
      (only_if P (length left == 0) (Ok block.End) _ tt
      (only_then P (frame_in seen.known.big left seen.known.at) (λ frame. body_in seen left number frame) frame_only body_only))

  pub only_refused : (refusal : CaptureBad) → block_in seen left number ≡ Err refusal → P refusal
  only_refused refusal is = let B : Result Block CaptureBad → Type 0 = λ r. Only P r in subst B is block_only

module _ (seen : Seen) where
  abbrev K : CaptureBad → Type 0
  K = IsOfBlock seen

  no_interface : (P : ℕ → Bool) (b : Bool) → P (length seen.interfaces) ≡ b → length seen.interfaces ≡ 0 → P 0 ≡ b
  no_interface P b is none = let T : ℕ → Type 0 = λ n. P n ≡ b in subst T none is

  first_ones : (r : NgBad) → IsOfFirstBlocks r → K (bad.Ng r)
  first_ones r first = λ none no_link. first

  many_ones : nat_lt 65535 (length seen.interfaces) ≡ true → K (bad.Ng (ng.Interfaces seen.known.at))
  many_ones many = λ none no_link. absurd (let is : nat_lt 65535 0 ≡ true = no_interface (λ n. nat_lt 65535 n) true many none in cc)

  mixed_ones : (link : ℕ) → is_other_link seen.known.link link ≡ true → K (bad.Ng (ng.MixedLinks seen.known.at))
  mixed_ones link other = λ none no_link. absurd (let L : Option ℕ → Type 0 = λ l. is_other_link l link ≡ true in let is : is_other_link None link ≡ true = subst L no_link other in cc)

  packet_ones : (length seen.interfaces == 0) ≡ false → (r : NgBad) → K (bad.Ng r)
  packet_ones some r = λ none no_link. absurd (let is : (0 == 0) ≡ false = no_interface (λ n. n == 0) false some none in cc)

  only_err : {A : Type 0} (r : Result A CaptureBad) (refusal : CaptureBad) → Only K r → r ≡ Err refusal → K refusal
  only_err {A} r refusal only is = let T : Result A CaptureBad → Type 0 = λ q. Only K q in subst T is only

  pub block_kind : (left : List ℕ) (number : ℕ) (refusal : CaptureBad) → block_in seen left number ≡ Err refusal → IsOfBlock seen refusal
  block_kind left number refusal is = only_refused K seen first_ones many_ones mixed_ones packet_ones left number refusal is

  pub body_kind : (left : List ℕ) (number : ℕ) (frame : Frame) (refusal : CaptureBad) → body_in seen left number frame ≡ Err refusal → IsOfBlock seen refusal
  body_kind left number frame refusal is =
      only_err (body_in seen left number frame) refusal (body_only K seen first_ones many_ones mixed_ones packet_ones left number frame) is

  pub start_kind : (left : List ℕ) (frame : Frame) (refusal : CaptureBad) → start_in seen left frame ≡ Err refusal → IsOfBlock seen refusal
  start_kind left frame refusal is =
      only_err (start_in seen left frame) refusal (start_only K seen first_ones many_ones mixed_ones packet_ones left 0 frame) is

  pub made_kind : (start : Start) (byte : Option ℕ) (frame : Frame) (refusal : CaptureBad) → block_by seen.known.at start byte frame ≡ Err refusal → IsOfBlock seen refusal
  made_kind start byte frame refusal is =
      only_err (block_by seen.known.at start byte frame) refusal
      (only_then K (interface_of seen.known.at start.most (resolution_or_default byte)) _
      (interface_only K seen first_ones many_ones mixed_ones packet_ones [] 0 start.most (resolution_or_default byte)) (λ interface. tt)) is

  pub head_kind : (left : List ℕ) (refusal : CaptureBad) → head_in seen.known.big left seen.known.at ≡ Err refusal → IsOfBlock seen refusal
  head_kind left refusal is =
      let at = seen.known.at in
      let frame = frame_at seen.known.big left in
      let Q : NgBad → Type 0 = λ r. K (bad.Ng r) in
      only_err (head_in seen.known.big left at) refusal
      (only_unless K _ (Ok frame)
      (only_test Q (nat_lt (length left) 12) (ng.Cut at) _ (λ is. first_ones (ng.Cut at) tt) (λ no.
      only_test Q (begins_section left && has_no_order left) (ng.Order at) _ (λ is. first_ones (ng.Order at) tt) (λ no.
      only_test Q (is_no_total frame) (ng.Length at) None (λ is. first_ones (ng.Length at) tt) (λ no. tt)))) tt) is

-- a refusal of a block is one of a record
pub of_record : (seen : Seen) (refusal : CaptureBad) → IsOfBlock seen refusal → IsOfRecord refusal
of_record seen (bad.Ng r) is = tt
of_record seen bad.Magic is = absurd is
of_record seen bad.Version is = absurd is
of_record seen (bad.Link number) is = absurd is
of_record seen (bad.CutHeader at) is = absurd is
of_record seen (bad.CutRecord at) is = absurd is
of_record seen (bad.TooLong at) is = absurd is
of_record seen (bad.TooMany at) is = absurd is

pub block_refused : (seen : Seen) (left : List ℕ) (number : ℕ) (refusal : CaptureBad) → block_in seen left number ≡ Err refusal → IsOfRecord refusal
block_refused seen left number refusal is = of_record seen refusal (block_kind seen left number refusal is)

-- a block of the file header is refused
pub opening_refused : (known : Known) (e : CaptureError) → known.link ≡ None → RefusesBlock (seen_by known []) e → RefusesHeader e
opening_refused known (error.Bad (bad.Ng r)) no_link is = is refl no_link
opening_refused known (error.Bad bad.Magic) no_link is = absurd is
opening_refused known (error.Bad bad.Version) no_link is = absurd is
opening_refused known (error.Bad (bad.Link number)) no_link is = absurd is
opening_refused known (error.Bad (bad.CutHeader at)) no_link is = absurd is
opening_refused known (error.Bad (bad.CutRecord at)) no_link is = absurd is
opening_refused known (error.Bad (bad.TooLong at)) no_link is = absurd is
opening_refused known (error.Bad (bad.TooMany at)) no_link is = absurd is
opening_refused known error.ReadFault no_link is = tt
opening_refused known error.OutOfMemory no_link is = tt

pub passed_on : {T : Type 0} (seen : Seen) (r : Result T CaptureError) (e : CaptureError) → r ≡ Err e → RefusesBlock seen e → IfErr r (RefusesBlock seen)
passed_on {T} seen r e is refuses = let R : Result T CaptureError → Type 0 = λ q. IfErr q (RefusesBlock seen) in subst R (sym is) refuses

pub refused_by : (T : Type 0) (r : Result T CaptureError) (e : CaptureError) → r ≡ Err e → RefusesHeader e → IfErr r RefusesHeader
refused_by T r e is refuses = let R : Result T CaptureError → Type 0 = λ q. IfErr q RefusesHeader in subst R (sym is) refuses

by_front : (short : Bool) (b : Result Block CaptureBad) (refusal : CaptureBad) → (if short then front.More else front_by b) ≡ front.Bad refusal → b ≡ Err refusal
by_front true b refusal e = absurd (cc e)
by_front false (Err other) refusal e = let same : other ≡ refusal = cc e in ap (λ (r : CaptureBad). let x : Result Block CaptureBad = Err r in x) same
by_front false (Ok block.End) refusal e = absurd (cc e)
by_front false (Ok (block.Packet p)) refusal e = absurd (cc e)
by_front false (Ok (block.Passed p)) refusal e = absurd (cc e)

-- what the front refuses is refused as a block
pub front_refused : (seen : Seen) (first : List ℕ) (last : Bool) (number : ℕ) (refusal : CaptureBad) → front_in seen first last number ≡ front.Bad refusal → block_in seen first number ≡ Err refusal
front_refused seen first last number refusal is = by_front (not last && is_short seen first) (block_in seen first number) refusal is
