-- Bytes that are read behind the start of what is left.
use Rattle.std.proofs.Common.{◌≡◌, ℕ, ◌+◌, ◌-◌, ◌<◌, ◌≤◌, Bool, true, false, if◌then◌else◌, List, [], ◌++◌, length, take, drop, Option, Some, None, refl, sym, ◌∙◌, ap, subst, arith}
use Rattle.std.proofs.Math.Seq.{take-add}
use Rattle.std.proofs.lemmas.Bool.{true≢false}
use Rattle.std.proofs.lemmas.List.{append-nil, drop-drop, drop-take, length-append, length-drop, length-take, length-take-le, take-append-drop, take-take, take_all}
use Rattle.std.proofs.lemmas.List.Edits.{take-paste}
use Rattle.std.specs.List.{copy_within}
use Rattle.aftr_io.specs.Contents.{Contents, content, Told}
use Rattle.capture_io.specs.Fronts.{IsStart}
use Rattle.capture_io.specs.Windows.{Ahead, IsBehind, IsMore}

start_more : (left before part after : List ℕ) (got count : ℕ) → got ≤ length before → count ≤ length part →
    take (got + count) after ≡ take got before ++ take count part → take count part ≡ take count (drop got left) →
    IsStart (take got before) left → IsStart (take (got + count) after) left
start_more left before part after got count in_before in_part joined behind s =
    let size : length (take got before) ≡ got = length-take-le got before in_before in
    let front : take got left ≡ take got before = ap (λ n. take n left) (sym size) ∙ s in
    let both : take (got + count) left ≡ take got before ++ take count part = take-add got count left ∙ (λ i. front i ++ sym behind i) in
    let far : length (take (got + count) after) ≡ got + count =
    ap length joined ∙ (length-append (take got before) (take count part) ∙ omega (arith, size, length-take-le count part in_part)) in
    ap (λ n. take n left) far ∙ (both ∙ sym joined)

-- nothing stands behind
whole_start : (first left : List ℕ) → IsStart first left → drop (length first) left ≡ [] → left ≡ first
whole_start first left s none =
    sym (take-append-drop (length first) left) ∙ ((λ i. s i ++ none i) ∙ append-nil first)

-- the front of a buffer, and what came behind it
pub more_by : (held : Option Contents) (name : List ℕ) (at : ℕ) (before now : List ℕ) (filled count : ℕ) → filled ≤ length before → filled + count ≤ length now →
    take filled now ≡ take filled before → IsBehind held name (at + filled) now filled count → Told held (λ m. count ≡ 0 → drop (at + filled) (content m name) ≡ []) →
    (last : Bool) → (last ≡ true → count ≡ 0) → IsMore held name at (record { bytes = take filled before; last = false }) (record { bytes = take (filled + count) now; last = last })
more_by None name at before now filled count in_before in_now front behind none last zero = tt
more_by (Some m) name at before now filled count in_before in_now front behind none last zero = λ s.
    let bytes = content m name in
    let joined : take (filled + count) now ≡ take filled before ++ take count (drop filled now) = take-add filled count now ∙ ap (λ l. l ++ take count (drop filled now)) front in
    let there : take count (drop filled now) ≡ take count (drop filled (drop at bytes)) = behind ∙ ap (λ l. take count l) (sym (drop-drop filled at bytes)) in
    let start : IsStart (take (filled + count) now) (drop at bytes) =
    start_more (drop at bytes) before (drop filled now) now filled count in_before (omega (arith, in_now, length-drop filled now)) joined there s in
    let size : length (take (filled + count) now) ≡ filled + count = length-take-le (filled + count) now in_now in
    record {
      start = start;
      whole = λ h.
          let place : at + length (take (filled + count) now) ≡ at + filled = omega (arith, size, zero h) in
          whole_start (take (filled + count) now) (drop at bytes) start (drop-drop (length (take (filled + count) now)) at bytes ∙ (ap (λ n. drop n bytes) place ∙ none (zero h)));
    }

-- bytes that were moved to the front
pub moved_front : (bytes : List ℕ) (from end : ℕ) → from ≤ end → end ≤ length bytes → take (end - from) (copy_within bytes from end 0) ≡ drop from (take end bytes)
moved_front bytes from end order within =
    let count = end - from in
    let size : count ≡ 0 + count = omega arith in
    let split : end ≡ from + count = omega arith in
    let there : take count (copy_within bytes from end 0) ≡ take count (drop from bytes) =
    ap (λ k. take k (copy_within bytes from end 0)) size ∙ take-paste bytes 0 (drop from bytes) count (omega arith) (omega (arith, length-drop from bytes)) in
    there ∙ sym (ap (λ k. drop from (take k bytes)) split ∙ drop-take from count bytes)

-- a start of a start
pub start_of_start : (first more left : List ℕ) → IsStart first more → IsStart more left → IsStart first left
start_of_start first more left s t =
    let within : length first ≤ length more = omega (arith, ap length s, length-take (length first) more) in
    sym (take-take (length first) (length more) left within) ∙ (ap (take (length first)) t ∙ s)

-- what is kept of the rest is a start of it
pub kept_start : (ended : Bool) (kept rest : List ℕ) → kept ≡ (if ended then [] else rest) → IsStart kept rest
kept_start true kept rest e = subst (λ (l : List ℕ). IsStart l rest) (sym e) refl
kept_start false kept rest e = subst (λ (l : List ℕ). IsStart l rest) (sym e) (take_all (length rest) rest (omega arith))

-- what stands behind the bytes that were used, where it was put in front of another buffer
pub rest_moved : (buffer slice next : List ℕ) (filled used : ℕ) (last ended : Bool) (window : Ahead) → record { bytes = take filled buffer; last = last } ≡ window → filled ≤ length buffer →
    used ≤ length window.bytes → ended ≡ false → slice ≡ buffer → take (length (take (filled - used) (drop used slice))) next ≡ take (filled - used) (drop used slice) →
    take (filled - used) next ≡ (if ended then [] else drop used window.bytes)
rest_moved buffer slice next filled used last ended window view size within more same front =
    let bytes : take filled buffer ≡ window.bytes = ap (λ (a : Ahead). a.bytes) view in
    let order : used ≤ filled = omega (arith, ap length bytes, length-take-le filled buffer size) in
    let far : used + (filled - used) ≡ filled = omega arith in
    let many : length (take (filled - used) (drop used slice)) ≡ filled - used = omega (arith, length-take (filled - used) (drop used slice), length-drop used slice, ap length same) in
    let part : take (filled - used) (drop used slice) ≡ drop used (take filled buffer) =
    ap (λ l. take (filled - used) (drop used l)) same ∙ (sym (drop-take used (filled - used) buffer) ∙ ap (λ n. drop used (take n buffer)) far) in
    let rest : take (filled - used) next ≡ drop used window.bytes = ap (λ n. take n next) (sym many) ∙ (front ∙ (part ∙ ap (drop used) bytes)) in
    rest ∙ sym (ap (λ b. if b then [] else drop used window.bytes) more)

-- nothing was read yet
pub none_more : (held : Option Contents) (name : List ℕ) (at : ℕ) (window : Ahead) → window.last ≡ false → IsMore held name at window window
none_more None name at window more = tt
none_more (Some m) name at window more = λ s. record { start = s; whole = λ h. absurd (true≢false (sym h ∙ more)) }

-- and more was read behind that
pub more_then : (held after : Option Contents) (name : List ℕ) (at : ℕ) (first mid now : Ahead) → after ≡ held → IsMore held name at first mid → IsMore after name at mid now → IsMore held name at first now
more_then held after name at first mid now same before behind = by_held held before (subst (λ (h : Option Contents). IsMore h name at mid now) same behind)
  where
    by_held : (h : Option Contents) → IsMore h name at first mid → IsMore h name at mid now → IsMore h name at first now
    by_held None f g = tt
    by_held (Some m) f g = λ s. g (f s).start

-- a turn reads more, or nothing more comes
pub fetch_smaller : (before after : ℕ) (was is : Bool) → before < 262160 → was ≡ false → before ≤ after → (is ≡ false → before < after) →
    262161 - (after + (if is then 1 else 0)) < 262161 - (before + (if was then 1 else 0))
fetch_smaller before after was true short more least longer = rw more (omega arith)
fetch_smaller before after was false short more least longer = rw more (omega (arith, longer refl))
