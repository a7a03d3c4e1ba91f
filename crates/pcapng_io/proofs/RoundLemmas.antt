-- A round, from the packets that were found.
use Rattle.std.proofs.Common.{◌≡◌, ℕ, ◌<◌, Bool, false, List, drop, map, All, Option, Some, None, sym, subst}
use Rattle.aftr_io.specs.Contents.{Contents, content, Told}
use Rattle.aftr_io.specs.Outside.{OnlyReads, Readable}
use Rattle.capture_io.specs.declared.forms.Rec.{Rec}
use Rattle.capture_io.specs.declared.records.Place.{Place}
use Rattle.capture_io.specs.declared.rounds.Round.{Round}
use Rattle.capture_io.specs.Fronts.{IsStart}
use Rattle.capture_io.specs.Records.{placed}
use Rattle.capture_io.specs.Rounds.{GoesOn, IsCount, IsInNext, IsPlaced, is_cut}
use Rattle.pcapng_io.specs.declared.block.Known.{Known}
use Rattle.pcapng_io.specs.declared.interface.Interface.{Interface}
use Rattle.pcapng_io.specs.declared.pieces.Taken.{Taken}
use Rattle.pcapng_io.specs.Seen.{IsSoundSeen, Seen, seen_by}
use Rattle.pcapng_io.specs.Pieces.{IsFound, round_of}
use Rattle.pcapng_io.specs.Rounds.{left_of}
use Rattle.pcapng_io.specs.Standing.{stands_in, Standing}
use Rattle.capture_io.proofs.LawLemmas.{start_of_start}

-- the records of the round are those that were found
abbrev pub round_with : List Rec → Taken → Round
round_with records taken = record { records = records; number = taken.number; ending = taken.ending }

pub count_with : (number most : ℕ) (records : List Rec) (bytes : List ℕ) (places : List Place) (taken : Taken) → records ≡ map (placed bytes) places →
    IsCount number most (round_of bytes places taken) → IsCount number most (round_with records taken)
count_with number most records bytes places taken is count = subst (λ (l : List Rec). IsCount number most (round_with l taken)) (sym is) count

pub placed_with : (before : Standing) (known : Known) (interfaces : List Interface) (ahead : List ℕ) (at : ℕ) (records : List Rec) (bytes : List ℕ) (places : List Place) (taken : Taken) →
    record { seen = seen_by known interfaces; ahead = ahead } ≡ before → records ≡ map (placed bytes) places →
    IsPlaced known.at at (round_of bytes places taken) → IsPlaced before.seen.known.at at (round_with records taken)
placed_with before known interfaces ahead at records bytes places taken view is p =
    subst (λ (s : Standing). IsPlaced s.seen.known.at at (round_with records taken)) view (subst (λ (l : List Rec). IsPlaced known.at at (round_with l taken)) (sym is) p)

-- what is kept of the bytes stands behind the records
pub told_with : (held : Option Contents) (name : List ℕ) (before after : Standing) (given bytes : List ℕ) (number : ℕ) (records : List Rec) (places : List Place) (taken : Taken) →
    given ≡ before.ahead → records ≡ map (placed bytes) places → IsStart after.ahead (drop taken.used bytes) →
    IsFound held name before.seen after.seen given bytes places number taken →
    Told held (λ m. stands_in before (content m name) → GoesOn (stands_in after) (left_of before.seen) (left_of after.seen) (content m name) number (round_with records taken))
told_with None name before after given bytes number records places taken g is kept found = tt
told_with (Some m) name before after given bytes number records places taken g is kept found = λ s.
    let goes = found (subst (λ (l : List ℕ). IsStart l (drop before.seen.known.at (content m name))) (sym g) s) in
    let P : List Rec → Type 0 = λ l. GoesOn (stands_in after) (left_of before.seen) (left_of after.seen) (content m name) number (round_with l taken) in
    subst P (sym is) (record {
      stands = start_of_start after.ahead (drop taken.used bytes) (drop after.seen.known.at (content m name)) kept goes.stands;
      follows = goes.follows;
      ended = goes.ended;
    })

-- a call in which no read failed
pub quiet_reads : (name : List ℕ) (P Q : ℕ → Type 0) (cut : Bool) (a b : Readable) → cut ≡ false → OnlyReads cut name P a b → OnlyReads false name Q a b
quiet_reads name P Q cut a b same r =
    let given : OnlyReads false name P a b = subst (λ (c : Bool). OnlyReads c name P a b) same r in
    record { held = given.held; lost = given.lost; last = given.last }

-- other interfaces, each with some ticks
pub sound_with : (known : Known) (before now : List Interface) → IsSoundSeen (seen_by known before) → All (λ (i : Interface). 0 < i.ticks) now → IsSoundSeen (seen_by known now)
sound_with known before now sound counted = record { time = sound.time; counted = counted; linked = sound.linked }

-- a call that reads, from where the reader stands
pub reads_with : (name : List ℕ) (before seen : Standing) (given : List ℕ) (later : Seen) (taken : Taken) (a b : Readable) → seen ≡ before → given ≡ seen.ahead →
    OnlyReads (is_cut taken.ending) name (IsInNext name (λ all. IsStart given (drop seen.seen.known.at all)) (left_of later) later.known.at a.held taken.number) a b →
    OnlyReads (is_cut taken.ending) name (IsInNext name (stands_in before) (left_of later) later.known.at a.held taken.number) a b
reads_with name before seen given later taken a b view g r =
    subst (λ (s : Standing). OnlyReads (is_cut taken.ending) name (IsInNext name (stands_in s) (left_of later) later.known.at a.held taken.number) a b) view
    (subst (λ (l : List ℕ). OnlyReads (is_cut taken.ending) name (IsInNext name (λ all. IsStart l (drop seen.seen.known.at all)) (left_of later) later.known.at a.held taken.number) a b) g r)

-- the round, from where the reader stands
pub told_round : (held : Option Contents) (name : List ℕ) (before seen after : Standing) (given bytes : List ℕ) (number : ℕ) (records : List Rec) (places : List Place) (taken : Taken) →
    seen ≡ before → given ≡ seen.ahead → records ≡ map (placed bytes) places → IsStart after.ahead (drop taken.used bytes) →
    IsFound held name seen.seen after.seen given bytes places number taken →
    Told held (λ m. stands_in before (content m name) → GoesOn (stands_in after) (left_of before.seen) (left_of after.seen) (content m name) number (round_with records taken))
told_round held name before seen after given bytes number records places taken view g is kept found =
    subst (λ (s : Standing). Told held (λ m. stands_in s (content m name) → GoesOn (stands_in after) (left_of s.seen) (left_of after.seen) (content m name) number (round_with records taken))) view
    (told_with held name seen after given bytes number records places taken g is kept found)
