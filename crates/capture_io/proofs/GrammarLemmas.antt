-- What is read is what is spelled.
use Rattle.std.proofs.Common.{◌≡◌, ℕ, zero, suc, ◌+◌, ◌<◌, ◌≤◌, Bool, true, false, List, [], ◌∷◌, ◌++◌, length, drop, take, get_or, All, Ok, refl, sym, ◌∙◌, ap, subst, append_assoc, arith}
use Rattle.std.proofs.lemmas.List.{drop-drop, get_or-drop, length-take, length-drop, take-append-drop}
use Rattle.std.proofs.lemmas.Nat.{le_bytes_4, be_bytes_4}
use Rattle.aftr_base.specs.Numbers.{span}
use Rattle.capture_io.specs.declared.forms.Rec.{Rec}
use Rattle.capture_io.specs.declared.forms.Next.TheVariants as next
use Rattle.capture_io.specs.Words.{word_bytes, word_at}
use Rattle.capture_io.specs.Record.{captured, next_in, record_in}
use Rattle.capture_io.specs.Written.{spelled}
use Rattle.capture_io.proofs.RecordLemmas.{record_is, record_whole}

byte_at : (left : List ℕ) (i : ℕ) → All (λ b. b < 256) left → get_or left i 0 < 256
byte_at [] i each = omega arith
byte_at (x ∷ left) zero each = each 0 0 (omega arith)
byte_at (x ∷ left) (suc i) each = byte_at left i (λ k d within. each (suc k) d (omega arith))

byte_of_front : (count : ℕ) (left : List ℕ) (i : ℕ) → ((k : ℕ) → get_or left k 0 < 256) → get_or (take count left) i 0 < 256
byte_of_front zero left i each = omega arith
byte_of_front (suc count) [] i each = omega arith
byte_of_front (suc count) (x ∷ left) zero each = each 0
byte_of_front (suc count) (x ∷ left) (suc i) each = byte_of_front count left i (λ k. each (suc k))

byte_of_span : (left : List ℕ) (at i : ℕ) → All (λ b. b < 256) left → get_or (span left at 4) i 0 < 256
byte_of_span left at i each = byte_of_front 4 (drop at left) i (λ k. rw (get_or-drop at left k 0) (byte_at left (at + k) each))

length_of_span : (left : List ℕ) (at : ℕ) → at + 4 ≤ length left → length (span left at 4) ≡ 4
length_of_span left at within = omega (arith, length-take 4 (drop at left), length-drop at left)

-- a word that is read is spelled by the bytes that it was read from
word_spelled : (big : Bool) (left : List ℕ) (at : ℕ) → All (λ b. b < 256) left → at + 4 ≤ length left → word_bytes big (word_at big left at) ≡ span left at 4
word_spelled true left at each within = be_bytes_4 (span left at 4) (word_at true left at) (length_of_span left at within) (λ i. byte_of_span left at i each) refl
word_spelled false left at each within = le_bytes_4 (span left at 4) (word_at false left at) (length_of_span left at within) (λ i. byte_of_span left at i each) refl

four : (left : List ℕ) (at : ℕ) → drop at left ≡ span left at 4 ++ drop (at + 4) left
four left at = sym (take-append-drop 4 (drop at left)) ∙ ap (λ l. span left at 4 ++ l) (drop-drop 4 at left)

joined : (a b c d e f l l4 l8 l12 l16 : List ℕ) → l ≡ a ++ l4 → l4 ≡ b ++ l8 → l8 ≡ c ++ l12 → l12 ≡ d ++ l16 → l16 ≡ e ++ f → l ≡ a ++ b ++ c ++ d ++ e ++ f
joined a b c d e f l l4 l8 l12 l16 p q r s t =
    let flat : a ++ (b ++ (c ++ (d ++ (e ++ f)))) ≡ a ++ b ++ c ++ d ++ e ++ f = simp append_assoc in
    p ∙ (ap (λ x. a ++ x) (q ∙ ap (λ x. b ++ x) (r ∙ ap (λ x. c ++ x) (s ∙ ap (λ x. d ++ x) t))) ∙ flat)

front_spelled : (big : Bool) (left : List ℕ) (at : ℕ) → All (λ b. b < 256) left → 16 + captured big left ≤ length left →
    left ≡ word_bytes big (word_at big left 0) ++ word_bytes big (word_at big left 4) ++ word_bytes big (word_at big left 8) ++ word_bytes big (word_at big left 12) ++ span left 16 (captured big left) ++ drop (16 + captured big left) left
front_spelled big left at each enough =
    joined (word_bytes big (word_at big left 0)) (word_bytes big (word_at big left 4)) (word_bytes big (word_at big left 8)) (word_bytes big (word_at big left 12)) (span left 16 (captured big left)) (drop (16 + captured big left) left)
    left (drop 4 left) (drop 8 left) (drop 12 left) (drop 16 left)
    (four left 0 ∙ ap (λ w. w ++ drop 4 left) (sym (word_spelled big left 0 each (omega arith))))
    (four left 4 ∙ ap (λ w. w ++ drop 8 left) (sym (word_spelled big left 4 each (omega arith))))
    (four left 8 ∙ ap (λ w. w ++ drop 12 left) (sym (word_spelled big left 8 each (omega arith))))
    (four left 12 ∙ ap (λ w. w ++ drop 16 left) (sym (word_spelled big left 12 each (omega arith))))
    (sym (take-append-drop (captured big left) (drop 16 left)) ∙ ap (λ l. span left 16 (captured big left) ++ l) (drop-drop (captured big left) 16 left))

abbrev BeginsWith : Bool → List ℕ → Rec → Type 0
BeginsWith big left r = (original : ℕ) × (left ≡ spelled big r.seconds r.fraction original r.bytes ++ drop (16 + length r.bytes) left)

record_spelled : (big : Bool) (left : List ℕ) (at : ℕ) → All (λ b. b < 256) left → 16 + captured big left ≤ length left → BeginsWith big left (record_in big left at)
record_spelled big left at each enough =
    let size : captured big left ≡ length (span left 16 (captured big left)) = omega (arith, length-take (captured big left) (drop 16 left), length-drop 16 left) in
    let P : ℕ → Type 0 = λ n. left ≡ word_bytes big (word_at big left 0) ++ word_bytes big (word_at big left 4) ++ word_bytes big n ++ word_bytes big (word_at big left 12) ++ span left 16 (captured big left) ++ drop (16 + n) left in
    (word_at big left 12, subst P size (front_spelled big left at each enough))

pub read_spelled : (big : Bool) (left : List ℕ) (at number : ℕ) (r : Rec) → All (λ b. b < 256) left → next_in big left at number ≡ Ok (next.Rec r) → BeginsWith big left r
read_spelled big left at number r each e =
    let P : Rec → Type 0 = λ x. BeginsWith big left x in
    subst P (record_is big left at number r e) (record_spelled big left at each (record_whole big left at number r e))
