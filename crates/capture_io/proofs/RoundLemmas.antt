-- A round of a classic capture, from what was fetched and taken.
use Rattle.std.proofs.Common.{◌≡◌, ℕ, ◌+◌, ◌<◌, ◌≤◌, Bool, true, false, List, [], ◌∷◌, length, take, drop, map, All, Option, Some, None, Ok, refl, sym, ◌∙◌, ap, subst, suc, arith}
use Rattle.std.proofs.lemmas.Bool.{true≢false}
use Rattle.std.proofs.lemmas.List.{length-map, length-take}
use Rattle.aftr_base.specs.Numbers.{span}
use Rattle.aftr_io.specs.Contents.{Contents, content, Told}
use Rattle.aftr_io.specs.Outside.{OnlyReads, Readable}
use Rattle.aftr_io.proofs.OutsideLemmas.{reads_wider}
use Rattle.capture_io.specs.declared.forms.Next.TheVariants as next
use Rattle.capture_io.specs.declared.forms.Rec.{Rec}
use Rattle.capture_io.specs.declared.fronts.Taken.{Taken}
use Rattle.capture_io.specs.declared.records.Place.{Place}
use Rattle.capture_io.specs.Classic.{IsTaken}
use Rattle.capture_io.specs.Fronts.{IsFront, IsStart, front_in, is_more}
use Rattle.capture_io.specs.Record.{next_in}
use Rattle.capture_io.specs.Records.{IsWithin, placed}
use Rattle.capture_io.specs.Rounds.{GoesOn, IsCount, IsInNext, IsPlaced, bytes_captured, is_cut}
use Rattle.capture_io.specs.Taken.{AreTaken, Ended, left_at}
use Rattle.capture_io.specs.Windows.{Ahead, IsMore}
use Rattle.capture_io.proofs.FetchLemmas.{start_of_start}
use Rattle.capture_io.proofs.FrontLemmas.{span_front}
use Rattle.capture_io.proofs.WindowLemmas.{front_behind, open_ends, open_more}

-- a record's bytes are where they were before the rest of the buffer was looked at
same_placed : (buffer : List ℕ) (filled : ℕ) (p : Place) → IsWithin (take filled buffer) p → placed (take filled buffer) p ≡ placed buffer p
same_placed buffer filled p within =
    let in_front : p.from + p.count ≤ filled = omega (arith, length-take filled buffer, within) in
    let same : span (take filled buffer) p.from p.count ≡ span buffer p.from p.count = span_front buffer filled p.from p.count in_front in
    λ i. record { seconds = p.seconds; fraction = p.fraction; bytes = same i; next_at = p.next_at }

pub same_records : (buffer : List ℕ) (filled : ℕ) (places : List Place) → All (IsWithin (take filled buffer)) places → map (placed (take filled buffer)) places ≡ map (placed buffer) places
same_records buffer filled [] each = refl
same_records buffer filled (p ∷ places) each =
    let first : IsWithin (take filled buffer) p = each 0 p (omega arith) in
    let others : All (IsWithin (take filled buffer)) places = λ k d within. each (suc k) d (omega arith) in
    λ i. same_placed buffer filled p first i ∷ same_records buffer filled places others i

-- the places lie in the whole buffer too
pub wider_places : (buffer : List ℕ) (filled : ℕ) (places : List Place) → All (IsWithin (take filled buffer)) places → All (IsWithin buffer) places
wider_places buffer filled places each = λ k d within. omega (arith, each k d within, length-take filled buffer)

-- what was taken off the bytes that are there, as the code has them
pub taken_of : (big : Bool) (window : Ahead) (at number most : ℕ) (places : List Place) (taken : Taken) (piece : List ℕ) (last : Bool) → piece ≡ window.bytes → last ≡ window.last →
    AreTaken big piece last at number most (map (placed piece) places) taken.used taken.number (bytes_captured (map (placed piece) places)) →
    Ended big piece last at taken.used taken.number taken.ending → (taken.ending ≡ None → 0 < length places) → All (IsWithin piece) places → is_cut taken.ending ≡ false →
    IsTaken big window false at number most places taken
taken_of big window at number most places taken piece last bytes_is last_is are ended some within well =
    let P : Ahead → Type 0 = λ w. IsTaken big w false at number most places taken in
    let given : P (record { bytes = piece; last = last }) = record { are = are; ended = ended; some = some; within = within; cut = well; stays = λ h. absurd (true≢false (sym h)) } in
    subst P (λ i. record { bytes = bytes_is i; last = last_is i }) given

module _ (big : Bool) (window : Ahead) (failed : Bool) (at number most : ℕ) (places : List Place) (taken : Taken) (records : List Rec)
    (t : IsTaken big window failed at number most places taken)
    (is : records ≡ map (placed window.bytes) places) where
  are : AreTaken big window.bytes window.last at number most records taken.used taken.number (bytes_captured records)
  are = let P : List Rec → Type 0 = λ l. AreTaken big window.bytes window.last at number most l taken.used taken.number (bytes_captured l) in subst P (sym is) t.are

  pub round_count : IsCount number most (record { records = records; number = taken.number; ending = taken.ending })
  round_count =
      let as_many : length records ≡ length places = ap length is ∙ length-map places (placed window.bytes) in
      record {
        numbered = are.numbered;
        most = are.few;
        some = λ none. omega (arith, as_many, t.some none);
        few = are.count;
        bytes = are.within;
        sizes = are.sizes;
      }

  pub round_placed : IsPlaced at (at + taken.used) (record { records = records; number = taken.number; ending = taken.ending })
  round_placed = record { forward = omega arith; within = are.placed }

  goes : (kept bytes : List ℕ) → IsStart kept (drop taken.used window.bytes) → IsFront window.bytes window.last (drop at bytes) →
      GoesOn (λ bytes. IsStart kept (drop (at + taken.used) bytes)) (left_at big at) (left_at big (at + taken.used)) bytes number (record { records = records; number = taken.number; ending = taken.ending })
  goes kept bytes s f = record {
    stands = start_of_start kept (drop taken.used window.bytes) (drop (at + taken.used) bytes) s (front_behind window.bytes bytes window.last at taken.used are.inside f).start;
    follows = are.follows bytes f;
    ended = t.ended bytes f;
  }

  pub round_told : (held : Option Contents) (name ahead kept : List ℕ) (before : Ahead) → before.bytes ≡ ahead → IsStart kept (drop taken.used window.bytes) → IsMore held name at before window →
      Told held (λ m. IsStart ahead (drop at (content m name)) →
      GoesOn (λ bytes. IsStart kept (drop (at + taken.used) bytes)) (left_at big at) (left_at big (at + taken.used)) (content m name) number (record { records = records; number = taken.number; ending = taken.ending }))
  round_told None name ahead kept before same rest fetched = tt
  round_told (Some m) name ahead kept before same rest fetched = λ s.
      let P : List ℕ → Type 0 = λ l. IsStart l (drop at (content m name)) in
      goes kept (content m name) rest (fetched (subst P (sym same) s))

-- where a read failed, the record that stands there ends behind the place of the read
cut_ends : (big : Bool) (piece bytes : List ℕ) (last : Bool) (at number used nth place : ℕ) (r : Rec) → used ≡ 0 → nth ≡ number → place ≡ at + length piece →
    is_more (front_in big piece last at number) ≡ true → IsFront piece last (drop at bytes) → next_in big (drop (at + used) bytes) (at + used) nth ≡ Ok (next.Rec r) → place < r.next_at
cut_ends big piece bytes last at number used nth place r none same is more f found =
    let here : at + used ≡ at = omega arith in
    let P : ℕ → ℕ → Type 0 = λ k n. next_in big (drop k bytes) k n ≡ Ok (next.Rec r) in
    let at_number : P (at + used) number = subst (λ (n : ℕ). P (at + used) n) same found in
    let at_start : P at number = subst (λ (k : ℕ). P k number) here at_number in
    omega (arith, is, open_ends big piece (drop at bytes) at number r (open_more big piece last at number more) f.start at_start)

pub cut_inside : (held : Option Contents) (name ahead : List ℕ) (before window : Ahead) (big : Bool) (at number place : ℕ) (taken : Taken) → taken.used ≡ 0 → taken.number ≡ number →
    place ≡ at + length window.bytes → before.bytes ≡ ahead → is_more (front_in big window.bytes window.last at number) ≡ true → IsMore held name at before window →
    IsInNext name (λ bytes. IsStart ahead (drop at bytes)) (left_at big (at + taken.used)) (at + taken.used) held taken.number place
cut_inside None name ahead before window big at number place taken none same is given more told = (omega arith, tt)
cut_inside (Some m) name ahead before window big at number place taken none same is given more told = (
  omega arith,
  λ s r rs e splits.
      let P : List ℕ → Type 0 = λ l. IsStart l (drop at (content m name)) in
      cut_ends big window.bytes (content m name) window.last at number taken.used taken.number place r none same is more (told (subst P (sym given) s)) splits.0,
)

reads_in : (cut : Bool) (name : List ℕ) (P Q : ℕ → Type 0) (a b : Readable) → (cut ≡ true → (place : ℕ) → P place → Q place) → OnlyReads cut name P a b → OnlyReads cut name Q a b
reads_in true name P Q a b wider r = reads_wider true name P Q a b (wider refl) r
reads_in false name P Q a b wider r = record { held = r.held; lost = r.lost; last = r.last }

pub round_reads : (cut failed : Bool) (name : List ℕ) (P Q : ℕ → Type 0) (a b : Readable) → cut ≡ failed → (failed ≡ true → (place : ℕ) → P place → Q place) →
    OnlyReads failed name P a b → OnlyReads cut name Q a b
round_reads cut failed name P Q a b same wider r =
    let R : Bool → Type 0 = λ x. OnlyReads x name Q a b in
    subst R (sym same) (reads_in failed name P Q a b wider r)
