-- Bytes that were read ahead, and the search for the next packets in them.
use Rattle.std.proofs.Common.{◌≡◌, ℕ, ◌+◌, ◌-◌, ◌^◌, ◌<◌, ◌≤◌, Bool, true, false, if◌then◌else◌, List, [], ◌++◌, length, drop, map, All, Option, Some, None, Err, refl, sym, ◌∙◌, ap, subst, arith}
use Rattle.std.proofs.lemmas.List.{length-map}
use Rattle.std.proofs.lemmas.Bool.{true≢false}
use Rattle.aftr_io.specs.Contents.{Contents, content, Told}
use Rattle.aftr_io.specs.declared.outside.Fault.{Fault}
use Rattle.aftr_io.specs.declared.outside.Fault.TheVariants as fault
use Rattle.aftr_io.specs.Outside.{OnlyReads, Readable, has_failed}
use Rattle.capture_io.specs.declared.records.Place.{Place}
use Rattle.capture_io.specs.declared.rounds.Ending.{Ending}
use Rattle.capture_io.specs.declared.rounds.Ending.TheVariants as end
use Rattle.capture_io.specs.Fronts.{IsFront, IsStart}
use Rattle.capture_io.specs.Records.{IsWithin, placed}
use Rattle.capture_io.specs.Rounds.{IsEnding, IsInNext, Precedes, bytes_captured}
use Rattle.pcapng_io.specs.declared.pieces.Taken.{Taken}
use Rattle.pcapng_io.specs.Seen.{IsSoundSeen, Seen}
use Rattle.pcapng_io.specs.Pieces.{AreBlocks, Ended, IsFound, IsOpen, IsSearch}
use Rattle.pcapng_io.specs.Rounds.{left_of}
use Rattle.capture_io.specs.Windows.{Ahead, IsMore}
use Rattle.pcapng_io.proofs.PieceLemmas.{rest_front}

pub search_begins : (held : Option Contents) (name : List ℕ) (old : Seen) (window : Ahead) (number : ℕ) → window.last ≡ false → IsSoundSeen old → IsSearch held name old old window.bytes window number
search_begins held name old window number more sound = record {
  passes = stands held;
  follows = all held;
  forward = omega arith;
  link = refl;
  sound = sound;
}
  where
    stands : (h : Option Contents) → Told h (λ m. IsStart window.bytes (drop old.known.at (content m name)) → IsFront window.bytes window.last (drop old.known.at (content m name)))
    stands None = tt
    stands (Some m) = λ s. record { start = s; whole = λ h. absurd (true≢false (sym h ∙ more)) }

    all : (h : Option Contents) → Told h (λ m. IsStart window.bytes (drop old.known.at (content m name)) → Precedes (left_of old) (left_of old) (content m name) number [] number)
    all None = tt
    all (Some m) = λ s rs e splits. splits

module _ (held : Option Contents) (name : List ℕ) (old now later : Seen) (ahead : List ℕ) (window : Ahead) (number most : ℕ) (places : List Place) (taken : Taken) (total : ℕ)
    (search : IsSearch held name old now ahead window number)
    (t : AreBlocks now later window.bytes window.last number most (map (placed window.bytes) places) taken.used taken.number total) where
  joined : (h : Option Contents) → Told h (λ m. IsStart ahead (drop old.known.at (content m name)) → IsFront window.bytes window.last (drop now.known.at (content m name))) →
      Told h (λ m. IsStart ahead (drop old.known.at (content m name)) → Precedes (left_of old) (left_of now) (content m name) number [] number) →
      Told h (λ m. IsStart ahead (drop old.known.at (content m name)) → Precedes (left_of old) (left_of later) (content m name) number (map (placed window.bytes) places) taken.number)
  joined None fronts follows = tt
  joined (Some m) fronts follows = λ s rs e splits. follows s (map (placed window.bytes) places ++ rs) e (t.follows (content m name) (fronts s) rs e splits)

  -- what was found ends the search
  pub search_found : Ended now later window.bytes window.last taken.number taken.ending → IsFound held name old later ahead window.bytes places number taken
  search_found ended = by_held held search.passes (joined held search.passes search.follows)
    where
      by_held : (h : Option Contents) → Told h (λ m. IsStart ahead (drop old.known.at (content m name)) → IsFront window.bytes window.last (drop now.known.at (content m name))) →
          Told h (λ m. IsStart ahead (drop old.known.at (content m name)) → Precedes (left_of old) (left_of later) (content m name) number (map (placed window.bytes) places) taken.number) →
          IsFound h name old later ahead window.bytes places number taken
      by_held None fronts follows = tt
      by_held (Some m) fronts follows = λ s. record {
        stands = (rest_front now later window.bytes (content m name) window.last taken.used t.at t.inside (fronts s)).start;
        follows = follows s;
        ended = ended (content m name) (fronts s);
      }

  -- where only blocks without packets were taken, the search goes on with the rest
  pub search_passes : (rest : Ahead) → places ≡ [] → rest.bytes ≡ drop taken.used window.bytes → rest.last ≡ window.last → (taken.number ≡ number) × IsSearch held name old later ahead rest number
  search_passes rest none bytes last =
      let same : taken.number ≡ number = omega (arith, t.numbered, length-map places (placed window.bytes), ap length none) in (
        same,
        record {
          passes = fronts held search.passes;
          follows = after held (joined held search.passes search.follows) same;
          forward = omega (arith, search.forward, t.at);
          link = t.link ∙ search.link;
          sound = t.sound;
        },
      )
    where
      fronts : (h : Option Contents) → Told h (λ m. IsStart ahead (drop old.known.at (content m name)) → IsFront window.bytes window.last (drop now.known.at (content m name))) →
          Told h (λ m. IsStart ahead (drop old.known.at (content m name)) → IsFront rest.bytes rest.last (drop later.known.at (content m name)))
      fronts None f = tt
      fronts (Some m) f = λ s.
          let P : List ℕ → Bool → Type 0 = λ l b. IsFront l b (drop later.known.at (content m name)) in
          subst (λ (b : Bool). P rest.bytes b) (sym last) (subst (λ (l : List ℕ). P l window.last) (sym bytes)
          (rest_front now later window.bytes (content m name) window.last taken.used t.at t.inside (f s)))

      after : (h : Option Contents) → Told h (λ m. IsStart ahead (drop old.known.at (content m name)) → Precedes (left_of old) (left_of later) (content m name) number (map (placed window.bytes) places) taken.number) →
          taken.number ≡ number → Told h (λ m. IsStart ahead (drop old.known.at (content m name)) → Precedes (left_of old) (left_of later) (content m name) number [] number)
      after None f same = tt
      after (Some m) f same = λ s rs e splits.
          let Q : List Place → ℕ → Type 0 = λ l n. Precedes (left_of old) (left_of later) (content m name) number (map (placed window.bytes) l) n in
          (subst (λ (n : ℕ). Q [] n) same (subst (λ (l : List Place). Q l taken.number) none (f s))) rs e splits

-- more was read: the search goes on
pub search_more : (held after : Option Contents) (name : List ℕ) (old now : Seen) (ahead : List ℕ) (window more : Ahead) (number : ℕ) → after ≡ held → IsSearch held name old now ahead window number →
    IsMore after name now.known.at window more → IsSearch held name old now ahead more number
search_more held after name old now ahead window more number same search read = record {
  passes = reads held search.passes (subst (λ (h : Option Contents). IsMore h name now.known.at window more) same read);
  follows = search.follows;
  forward = search.forward;
  link = search.link;
  sound = search.sound;
}
  where
    reads : (h : Option Contents) → Told h (λ m. IsStart ahead (drop old.known.at (content m name)) → IsFront window.bytes window.last (drop now.known.at (content m name))) →
        IsMore h name now.known.at window more → Told h (λ m. IsStart ahead (drop old.known.at (content m name)) → IsFront more.bytes more.last (drop now.known.at (content m name)))
    reads None f r = tt
    reads (Some m) f r = λ s. r (f s).start

-- a read failed: nothing was found, and the place is one of the next packet
pub cut_found : (held : Option Contents) (name : List ℕ) (old now : Seen) (ahead : List ℕ) (window : Ahead) (number : ℕ) (taken : Taken) → IsSearch held name old now ahead window number →
    taken.used ≡ 0 → taken.number ≡ number → taken.ending ≡ Some end.ReadFault → IsFound held name old now ahead window.bytes [] number taken
cut_found None name old now ahead window number taken search none same is = tt
cut_found (Some m) name old now ahead window number taken search none same is = λ s. record {
  stands = subst (λ (n : ℕ). IsStart (drop n window.bytes) (drop now.known.at (content m name))) (sym none) (search.passes s).start;
  follows = subst (λ (n : ℕ). Precedes (left_of old) (left_of now) (content m name) number [] n) (sym same) (search.follows s);
  ended = subst (λ (e : Option Ending). IsEnding (left_of now) (content m name) taken.number e) (sym is) tt;
}

pub cut_inside : (held : Option Contents) (name : List ℕ) (old now : Seen) (ahead : List ℕ) (window : Ahead) (number place : ℕ) → IsSearch held name old now ahead window number →
    IsOpen now window.bytes window.last number → place ≡ now.known.at + length window.bytes →
    IsInNext name (λ all. IsStart ahead (drop old.known.at all)) (left_of now) now.known.at held number place
cut_inside None name old now ahead window number place search unsaid is = (omega arith, tt)
cut_inside (Some m) name old now ahead window number place search unsaid is = (
  omega arith,
  λ s r rs e splits. omega (arith, is, unsaid.before (drop now.known.at (content m name)) r splits.0 (search.passes s).start splits.1),
)

-- what was taken off the bytes that are there
pub record IsTaken (now later : Seen) (window : Ahead) (number most : ℕ) (places : List Place) (taken : Taken) : Type 0 where
  pub are : AreBlocks now later window.bytes window.last number most (map (placed window.bytes) places) taken.used taken.number (bytes_captured (map (placed window.bytes) places))
  pub ended : Ended now later window.bytes window.last taken.number taken.ending
  pub unsaid : taken.ending ≡ None → places ≡ [] → IsOpen later (drop taken.used window.bytes) window.last taken.number
  pub within : All (IsWithin window.bytes) places

-- as the code has the bytes
pub taken_of : (now later : Seen) (window : Ahead) (number most : ℕ) (places : List Place) (taken : Taken) (piece : List ℕ) (last : Bool) → piece ≡ window.bytes → last ≡ window.last →
    AreBlocks now later piece last number most (map (placed piece) places) taken.used taken.number (bytes_captured (map (placed piece) places)) →
    Ended now later piece last taken.number taken.ending →
    (taken.ending ≡ None → places ≡ [] → IsOpen later (drop taken.used piece) last taken.number) → All (IsWithin piece) places →
    IsTaken now later window number most places taken
taken_of now later window number most places taken piece last bytes_is last_is blocks ended unsaid within =
    let P : Ahead → Type 0 = λ w. IsTaken now later w number most places taken in
    let given : P (record { bytes = piece; last = last }) = record { are = blocks; ended = ended; unsaid = unsaid; within = within } in
    subst P (λ i. record { bytes = bytes_is i; last = last_is i }) given

-- the search ends with what was taken
pub found_of : (held : Option Contents) (name : List ℕ) (old now later : Seen) (ahead : List ℕ) (window : Ahead) (number most : ℕ) (places : List Place) (taken : Taken) →
    IsSearch held name old now ahead window number → IsTaken now later window number most places taken → IsFound held name old later ahead window.bytes places number taken
found_of held name old now later ahead window number most places taken search t =
    search_found held name old now later ahead window number most places taken (bytes_captured (map (placed window.bytes) places)) search t.are t.ended

-- Nothing was found in the bytes that were there, and those that were taken were let go: the search goes on with the rest, which is open.
pub record IsUnfound (held : Option Contents) (name : List ℕ) (old now later : Seen) (ahead : List ℕ) (window rest : Ahead) (number used : ℕ) (places : List Place) : Type 0 where
  pub none : places ≡ []
  pub search : IsSearch held name old later ahead rest number
  pub is_open : IsOpen later rest.bytes rest.last number
  pub at : later.known.at ≡ now.known.at + used
  pub inside : used ≤ length window.bytes

-- as the code has the bytes and the places
pub unfound : {held : Option Contents} {name : List ℕ} {old now later : Seen} {ahead : List ℕ} {window : Ahead} {number most : ℕ} {piece : List ℕ} {last : Bool} {found : List Place} →
    (places : List Place) (taken : Taken) (rest : Ahead) → IsSearch held name old now ahead window number → piece ≡ window.bytes → last ≡ window.last →
    AreBlocks now later piece last number most (map (placed piece) places) taken.used taken.number (bytes_captured (map (placed piece) places)) →
    Ended now later piece last taken.number taken.ending →
    (taken.ending ≡ None → places ≡ [] → IsOpen later (drop taken.used piece) last taken.number) → All (IsWithin piece) places →
    found ≡ places → (taken.ending ≡ None) × (found ≡ []) → rest.bytes ≡ drop taken.used window.bytes → rest.last ≡ window.last →
    IsUnfound held name old now later ahead window rest number taken.used places
unfound {held} {name} {old} {now} {later} {ahead} {window} {number} {most} {piece} {last} places taken rest search bytes_is last_is blocks ended unsaid within same nothing bytes rest_last =
    let t : IsTaken now later window number most places taken = taken_of now later window number most places taken piece last bytes_is last_is blocks ended unsaid within in
    let none : places ≡ [] = sym same ∙ nothing.1 in
    let passed = search_passes held name old now later ahead window number most places taken (bytes_captured (map (placed window.bytes) places)) search t.are rest none bytes rest_last in
    let given : IsOpen later (drop taken.used window.bytes) window.last taken.number = t.unsaid nothing.0 none in
    record {
      none = none;
      search = passed.1;
      is_open = subst (λ (l : List ℕ). IsOpen later l rest.last number) (sym bytes)
          (subst (λ (b : Bool). IsOpen later (drop taken.used window.bytes) b number) (sym rest_last)
          (subst (λ (n : ℕ). IsOpen later (drop taken.used window.bytes) window.last n) passed.0 given));
      at = t.are.at;
      inside = t.are.inside;
    }

-- the search after a read that failed
pub failed_found : (held : Option Contents) (name : List ℕ) (old later : Seen) (ahead : List ℕ) (rest more : Ahead) (number : ℕ) (places : List Place) (cut : Taken) → places ≡ [] →
    IsSearch held name old later ahead rest number → more ≡ rest → cut.used ≡ 0 → cut.number ≡ number → cut.ending ≡ Some end.ReadFault → IsFound held name old later ahead more.bytes places number cut
failed_found held name old later ahead rest more number places cut none search same used nth ending =
    let found : IsFound held name old later ahead rest.bytes [] number cut = cut_found held name old later ahead rest number cut search used nth ending in
    subst (λ (a : Ahead). IsFound held name old later ahead a.bytes places number cut) (sym same) (subst (λ (l : List Place). IsFound held name old later ahead rest.bytes l number cut) (sym none) found)

-- a read that failed, by its error
pub failed_reads : (T : Type 0) (name : List ℕ) (P : ℕ → Type 0) (e : Fault) (a b : Readable) → e ≡ fault.Failed → OnlyReads (has_failed {T = T} (Err e)) name P a b → OnlyReads true name P a b
failed_reads T name P e a b is r = subst (λ (x : Fault). OnlyReads (has_failed {T = T} (Err x)) name P a b) is r

-- a turn reads more, or nothing more comes
pub closer : (at before_at used before after : ℕ) (was is : Bool) → at ≡ before_at + used → before ≡ used + (before - used) → used ≤ before → before_at + before < 2 ^ 63 → was ≡ false →
    before - used ≤ after → (is ≡ false → before - used < after) →
    2 ^ 63 + 1 - (at + after + (if is then 1 else 0)) < 2 ^ 63 + 1 - (before_at + before + (if was then 1 else 0))
closer at before_at used before after was true at_is split within small none least longer = rw none (omega arith)
closer at before_at used before after was false at_is split within small none least longer = rw none (omega (arith, longer refl))
