-- Lemmas on what is written, read back.
use Rattle.std.proofs.Common.{◌≡◌, ℕ, suc, ◌+◌, ◌^◌, ◌<◌, ◌≤◌, ◌==◌, nat_lt, Bool, true, false, List, [], ◌∷◌, ◌++◌, length, drop, take, map, flat_map, All, None, Ok, refl, sym, ◌∙◌, ap, subst, arith}
use Rattle.std.proofs.lemmas.List.{drop-drop, length-append}
use Rattle.std.proofs.Math.Seq.{take-append_seam, drop-append_seam}
use Rattle.std.proofs.lemmas.Nat.{from_le_bytes-to_le_bytes_4, from_be_bytes-to_be_bytes_4}
use Rattle.std.proofs.lemmas.Bool.Decides.{nat_tests}
use Rattle.aftr_base.specs.Numbers.{span}
use Rattle.capture_io.specs.declared.forms.Rec.{Rec}
use Rattle.capture_io.specs.declared.forms.Next.TheVariants as next
use Rattle.capture_io.specs.Words.{word_at}
use Rattle.capture_io.specs.Header.{form_in, header_in, has_some_magic, is_version_2_4, is_known_link}
use Rattle.capture_io.specs.Record.{captured, next_in, record_in}
use Rattle.capture_io.specs.Capture.{IsCapture, Splits}
use Rattle.capture_io.specs.Written.{IsRecordable, TimedPacket, header_bytes, record_bytes, recorded, spelled, timed, capture_bytes, written_form}

-- a header that meets none of the refusals is read
header_read : (bytes : List ℕ) → nat_lt (length bytes) 24 ≡ false → has_some_magic bytes ≡ true → is_version_2_4 bytes ≡ true → is_known_link (form_in bytes).link ≡ true →
    header_in bytes ≡ Ok (form_in bytes)
header_read bytes long magic version link = rw (long, magic, version, link) refl

pub header_back : (nano : Bool) (rest : List ℕ) → header_in (header_bytes nano ++ rest) ≡ Ok (written_form nano)
header_back true rest = header_read (header_bytes true ++ rest) (grind (arith, nat_tests)) refl refl refl
header_back false rest = header_read (header_bytes false ++ rest) (grind (arith, nat_tests)) refl refl refl

-- the lengths and words of a record that was spelled
record SpellsBack (big : Bool) (seconds fraction : ℕ) (bytes rest left : List ℕ) : Type 0 where
  back_seconds : word_at big left 0 ≡ seconds
  back_fraction : word_at big left 4 ≡ fraction
  back_captured : captured big left ≡ length bytes
  back_rest : drop 16 left ≡ bytes ++ rest
  back_length : length left ≡ 16 + length (bytes ++ rest)

words_back : (big : Bool) (seconds fraction original : ℕ) (bytes rest : List ℕ) → seconds < 2 ^ 32 → fraction < 2 ^ 32 → length bytes < 2 ^ 32 →
    SpellsBack big seconds fraction bytes rest (spelled big seconds fraction original bytes ++ rest)
words_back true seconds fraction original bytes rest s f n = record {
  back_seconds = from_be_bytes-to_be_bytes_4 seconds s;
  back_fraction = from_be_bytes-to_be_bytes_4 fraction f;
  back_captured = from_be_bytes-to_be_bytes_4 (length bytes) n;
  back_rest = refl;
  back_length = omega arith;
}
words_back false seconds fraction original bytes rest s f n = record {
  back_seconds = from_le_bytes-to_le_bytes_4 seconds s;
  back_fraction = from_le_bytes-to_le_bytes_4 fraction f;
  back_captured = from_le_bytes-to_le_bytes_4 (length bytes) n;
  back_rest = refl;
  back_length = omega arith;
}

-- where none of the conditions holds a record stands
stands : (big : Bool) (left : List ℕ) (at number : ℕ) → number < 2 ^ 31 → captured big left ≤ 262144 → 16 + captured big left ≤ length left →
    next_in big left at number ≡ Ok (next.Rec (record_in big left at))
stands big left at number few small enough =
    let some : (length left == 0) ≡ false = grind (arith, nat_tests) in
    let in_count : (number == 2 ^ 31) ≡ false = grind (arith, nat_tests) in
    let long : nat_lt (length left) 16 ≡ false = grind (arith, nat_tests) in
    let fits : nat_lt 262144 (captured big left) ≡ false = grind (arith, nat_tests) in
    let whole : nat_lt (length left) (16 + captured big left) ≡ false = grind (arith, nat_tests) in
    rw (some, in_count, long, fits, whole) refl

-- the record of a place, of these parts
abbrev pub rec_of : ℕ → ℕ → ℕ → List ℕ → Rec
rec_of at seconds fraction bytes = record { seconds = seconds; fraction = fraction; bytes = bytes; next_at = at + 16 + length bytes }

read_back : (big : Bool) (seconds fraction at number : ℕ) (bytes rest left : List ℕ) → number < 2 ^ 31 → length bytes ≤ 262144 →
    SpellsBack big seconds fraction bytes rest left → next_in big left at number ≡ Ok (next.Rec (rec_of at seconds fraction bytes))
read_back big seconds fraction at number bytes rest left few small back =
    let enough : 16 + captured big left ≤ length left = omega (arith, back.back_captured, back.back_length, length-append bytes rest) in
    let front : span left 16 (captured big left) ≡ bytes =
    ap (λ n. take n (drop 16 left)) back.back_captured ∙ (ap (λ l. take (length bytes) l) back.back_rest ∙ take-append_seam bytes rest) in
    let end : at + 16 + captured big left ≡ at + 16 + length bytes = ap (λ n. at + 16 + n) back.back_captured in
    let same : record_in big left at ≡ rec_of at seconds fraction bytes =
    λ i. record { seconds = back.back_seconds i; fraction = back.back_fraction i; bytes = front i; next_at = end i } in
    stands big left at number few (omega (arith, back.back_captured)) enough ∙ ap (λ r. Ok (next.Rec r)) same

rest_back : (big : Bool) (seconds fraction : ℕ) (bytes rest left : List ℕ) → SpellsBack big seconds fraction bytes rest left → drop (16 + length bytes) left ≡ rest
rest_back big seconds fraction bytes rest left back =
    sym (drop-drop (length bytes) 16 left) ∙ (ap (λ l. drop (length bytes) l) back.back_rest ∙ drop-append_seam bytes rest)

-- the bytes of the records of a list of packets
abbrev pub spelling : TimedPacket → List ℕ
spelling p = record_bytes p.seconds p.fraction p.packet

abbrev Records : List ℕ → List TimedPacket → ℕ → ℕ → Type 0
Records left packets at number = (rs : List Rec) × Splits false left at number rs None × (map timed rs ≡ packets)

one_more : (p : TimedPacket) (packets : List TimedPacket) (at number : ℕ) (left rest : List ℕ) → number < 2 ^ 31 → length p.packet ≤ 262144 →
    SpellsBack false p.seconds p.fraction p.packet rest left → Records rest packets (at + 16 + length p.packet) (number + 1) → Records left (p ∷ packets) at number
one_more p packets at number left rest few small back after =
    let behind : rest ≡ drop (16 + length p.packet) left = sym (rest_back false p.seconds p.fraction p.packet rest left back) in
    let After : List ℕ → Type 0 = λ l. Splits false l (at + 16 + length p.packet) (number + 1) after.0 None in (
      rec_of at p.seconds p.fraction p.packet ∷ after.0,
      (read_back false p.seconds p.fraction at number p.packet rest left few small back, subst After behind after.1),
      ap (λ l. p ∷ l) after.2,
    )

records_back : (packets : List TimedPacket) (at number : ℕ) → All IsRecordable packets → number + length packets ≤ 2 ^ 31 → Records (flat_map spelling packets) packets at number
records_back [] at number each few = ([], refl, refl)
records_back (p ∷ packets) at number each few =
    let first : IsRecordable p = each 0 p (omega arith) in
    let others : All IsRecordable packets = λ k d within. each (suc k) d (omega arith) in
    let after : Records (flat_map spelling packets) packets (at + 16 + length p.packet) (number + 1) = records_back packets (at + 16 + length p.packet) (number + 1) others (omega arith) in
    let back : SpellsBack false p.seconds p.fraction p.packet (flat_map spelling packets) (flat_map spelling (p ∷ packets)) =
    words_back false p.seconds p.fraction (length p.packet) p.packet (flat_map spelling packets) first.seconds first.fraction (omega (arith, first.size)) in
    one_more p packets at number (flat_map spelling (p ∷ packets)) (flat_map spelling packets) (omega arith) first.size back after

pub capture_back : (nano : Bool) (packets : List TimedPacket) → All IsRecordable packets → length packets ≤ 2 ^ 31 →
    (rs : List Rec) × IsCapture (capture_bytes nano packets) (Ok (written_form nano)) rs None × (map timed rs ≡ packets)
capture_back nano packets each few =
    let found : Records (flat_map spelling packets) packets 24 0 = records_back packets 24 0 each (omega arith) in
    (found.0, (header_back nano (flat_map spelling packets), found.1), found.2)

pub each_back : (big : Bool) (p : TimedPacket) (original at number : ℕ) (rest : List ℕ) → IsRecordable p → number < 2 ^ 31 →
    next_in big (spelled big p.seconds p.fraction original p.packet ++ rest) at number ≡ Ok (next.Rec (recorded at p))
each_back big p original at number rest fit few =
    read_back big p.seconds p.fraction at number p.packet rest (spelled big p.seconds p.fraction original p.packet ++ rest) few fit.size
    (words_back big p.seconds p.fraction original p.packet rest fit.seconds fit.fraction (omega (arith, fit.size)))
