-- A long block, as one of a round.
use Rattle.std.proofs.Common.{◌≡◌, ℕ, ◌+◌, ◌^◌, ◌<◌, ◌≤◌, true, List, [], ◌∷◌, ◌++◌, length, drop, take, map, Option, Some, None, Result, Ok, Err, refl, sym, ◌∙◌, ap, subst, arith}
use Rattle.std.proofs.lemmas.List.{length-drop, length-take-le}
use Rattle.std.proofs.lemmas.List.Elements.{All-nil, All-cons}
use Rattle.std.proofs.lemmas.Bool.{true≢false}
use Rattle.aftr_io.specs.Contents.{Contents, content, Told}
use Rattle.aftr_base.specs.Numbers.{span}
use Rattle.aftr_io.specs.Outside.{OnlyReads, Readable}
use Rattle.aftr_io.proofs.OutsideLemmas.{reads_wider}
use Rattle.capture_io.specs.declared.forms.CaptureBad.{CaptureBad}
use Rattle.capture_io.specs.declared.forms.CaptureError.{CaptureError}
use Rattle.capture_io.specs.declared.forms.CaptureError.TheVariants as error
use Rattle.capture_io.specs.Answers.{Agrees, is_read_fault}
use Rattle.capture_io.specs.declared.forms.Rec.{Rec}
use Rattle.capture_io.specs.declared.records.Place.{Place}
use Rattle.capture_io.specs.declared.rounds.Ending.{Ending}
use Rattle.capture_io.specs.declared.rounds.Ending.TheVariants as end
use Rattle.capture_io.specs.Fronts.{IsFront, IsStart}
use Rattle.capture_io.specs.Records.{IsWithin, placed}
use Rattle.capture_io.specs.Rounds.{IsCount, IsEnding, IsInNext, Precedes, is_cut}
use Rattle.pcapng_io.specs.declared.block.Block.{Block}
use Rattle.pcapng_io.specs.declared.block.Block.TheVariants as block
use Rattle.pcapng_io.specs.declared.block.Known.{Known}
use Rattle.pcapng_io.specs.declared.block.Packet.{Packet}
use Rattle.pcapng_io.specs.declared.block.Passed.{Passed}
use Rattle.pcapng_io.specs.declared.interface.Interface.{Interface}
use Rattle.pcapng_io.specs.declared.pieces.Taken.{Taken}
use Rattle.pcapng_io.specs.declared.fronts.Front.TheVariants as front
use Rattle.pcapng_io.specs.Blocks.{block_in, interfaces_after, known_after, known_behind, record_of, seen_after, seen_behind, size_of}
use Rattle.pcapng_io.specs.Captures.{Gives, next_in}
use Rattle.pcapng_io.specs.Files.{IsBefore, IsCounted, IsSoundPacket}
use Rattle.pcapng_io.specs.Fronts.{front_in}
use Rattle.pcapng_io.specs.Long.{IsInLong, StandsAt, StandsIn, WithFront}
use Rattle.pcapng_io.specs.declared.long_packets.Long.{Long}
use Rattle.pcapng_io.specs.Pieces.{IsFound, IsLongTaken, IsRound, IsSearch, LongReads, place_of, round_of}
use Rattle.pcapng_io.specs.Rounds.{left_of}
use Rattle.pcapng_io.specs.Seen.{IsSoundSeen, Seen, seen_by}
use Rattle.capture_io.specs.Windows.{Ahead}
use Rattle.pcapng_io.proofs.PieceLemmas.{passed_left}
use Rattle.pcapng_io.proofs.SplitLemmas.{split_on}
use Rattle.pcapng_io.proofs.StartLemmas.{at_start, open_short}
use Rattle.pcapng_io.proofs.WalkLemmas.{after_at, block_before, keeps_link, next_ends, next_packet, next_refused, pass_at, sound_after}

drop_whole : (l : List ℕ) (n : ℕ) → n ≡ length l → drop n l ≡ []
drop_whole l n is = by_list l (drop n l) (omega (arith, length-drop n l, is))
  where
    by_list : (l d : List ℕ) → length d ≡ 0 → d ≡ []
    by_list l [] e = refl
    by_list l (x ∷ d) e = absurd (omega arith)

-- no byte is left, and so what is left of the bytes stands anywhere
none_stands : (bytes all : List ℕ) (used at : ℕ) → used ≡ length bytes → IsStart (drop used bytes) (drop at all)
none_stands bytes all used at is = subst (λ (l : List ℕ). IsStart l (drop at all)) (sym (drop_whole bytes used is)) refl

open_front : (seen : Seen) (first : Ahead) (number : ℕ) (all : List ℕ) → front_in seen first.bytes first.last number ≡ front.More → IsStart first.bytes (drop seen.known.at all) → StandsAt seen.known.at first all
open_front seen first number all more s = record { start = s; whole = λ e. absurd (true≢false (sym e ∙ (open_short seen first.bytes first.last number more).more)) }

-- without packets
pub none_count : (number most : ℕ) (bytes : List ℕ) (taken : Taken) (ending : Ending) → number ≤ 2 ^ 31 → 1 ≤ most → taken.number ≡ number → taken.ending ≡ Some ending → IsCount number most (round_of bytes [] taken)
none_count number most bytes taken ending few some same is = record {
  numbered = omega (arith, same);
  most = omega (arith, same, few);
  some = λ none. let wrong : Some ending ≡ None = sym is ∙ none in absurd (cc);
  few = omega arith;
  bytes = omega (arith, some);
  sizes = λ k d within. absurd (omega arith);
}

module _ (held : Option Contents) (name : List ℕ) (old : Seen) (first window : Ahead) (number most : ℕ) (more : front_in old first.bytes first.last number ≡ front.More) (sound : IsSoundSeen old) (few : number ≤ 2 ^ 31) (some : 1 ≤ most) where
  -- the packets ended here
  pub long_ended : (ending : Ending) (taken : Taken) (places : List Place) → places ≡ [] → taken ≡ record { used = length window.bytes; known = old.known; number = number; ending = Some ending } →
      WithFront held name old.known.at first (λ all. IsEnding (left_of old) all number (Some ending)) →
      IsFound held name old (seen_by taken.known old.interfaces) first.bytes window.bytes places number taken × IsRound old (seen_by taken.known old.interfaces) window.bytes places number most taken
  long_ended ending taken places none is told =
      let given : Taken = record { used = length window.bytes; known = old.known; number = number; ending = Some ending } in
      let P : List Place → Taken → Type 0 = λ l t. IsFound held name old (seen_by t.known old.interfaces) first.bytes window.bytes l number t × IsRound old (seen_by t.known old.interfaces) window.bytes l number most t in
      let found : P [] given = (
        by_held held told,
        record {
          count = none_count number most window.bytes given ending few some refl refl;
          placed = record { forward = omega arith; within = All-nil (λ r. r.next_at ≤ old.known.at) };
          within = All-nil (IsWithin window.bytes);
          used = omega arith;
          link = refl;
          sound = sound;
        },
      ) in
      subst (λ (l : List Place). P l taken) (sym none) (subst (λ (t : Taken). P [] t) (sym is) found)
    where
      by_held : (h : Option Contents) → WithFront h name old.known.at first (λ all. IsEnding (left_of old) all number (Some ending)) →
          IsFound h name old old first.bytes window.bytes [] number (record { used = length window.bytes; known = old.known; number = number; ending = Some ending })
      by_held None t = tt
      by_held (Some m) t = λ s. record {
        stands = none_stands window.bytes (content m name) (length window.bytes) old.known.at refl;
        follows = λ rs e splits. splits;
        ended = t (open_front old first number (content m name) more s);
      }

  -- a packet
  module _ (p : Packet) (packet : IsSoundPacket number p) (there : p.start + p.count ≤ length window.bytes) where
    abbrev r : Rec
    r = placed window.bytes (place_of p 0 old.known.at)

    size : length r.bytes ≡ p.count
    size =
        let is : length (take p.count (drop (0 + p.start) window.bytes)) ≡ p.count = length-take-le p.count (drop (0 + p.start) window.bytes) (omega (arith, length-drop (0 + p.start) window.bytes, there)) in
        is

    abbrev taken_is : Taken
    taken_is = record { used = length window.bytes; known = known_behind old.known p; number = number + 1; ending = None }

    same_record : (all : List ℕ) → StandsAt old.known.at window all → record_of old.known (drop old.known.at all) p ≡ r
    same_record all s =
        let zero : p.start ≡ 0 + p.start = omega arith in
        let same : span (drop old.known.at all) p.start p.count ≡ span window.bytes (0 + p.start) p.count =
        at_start window.bytes (drop old.known.at all) p.start p.count s.start there ∙ ap (λ n. span window.bytes n p.count) zero in
        λ i. record { seconds = p.seconds; fraction = p.nanos; bytes = same i; next_at = old.known.at + p.total }

    found : (all : List ℕ) → StandsAt old.known.at window all → block_in old (drop old.known.at all) number ≡ Ok (block.Packet p) → next_in old (drop old.known.at all) number ≡ Ok (Gives r (seen_behind old p))
    found all s e = next_packet old (drop old.known.at all) number p e ∙ ap (λ x. Ok (Gives x (seen_behind old p))) (same_record all s)

    pub long_packet : (used : ℕ) (known : Known) (places pushed : List Place) (pl : Place) → used ≡ length window.bytes → known ≡ known_behind old.known p → places ≡ [] → pushed ≡ places ++ pl ∷ [] → pl ≡ place_of p 0 old.known.at →
        WithFront held name old.known.at first (λ all. block_in old (drop old.known.at all) number ≡ Ok (block.Packet p)) → WithFront held name old.known.at first (StandsAt old.known.at window) →
        let taken : Taken = record { used = used; known = known; number = number + 1; ending = None } in
        IsFound held name old (seen_by known old.interfaces) first.bytes window.bytes pushed number taken × IsRound old (seen_by known old.interfaces) window.bytes pushed number most taken
    long_packet used known places pushed pl u k none items is told stands =
        let P : ℕ → Known → List Place → Type 0 = λ n x l.
        IsFound held name old (seen_by x old.interfaces) first.bytes window.bytes l number (record { used = n; known = x; number = number + 1; ending = None })
        × IsRound old (seen_by x old.interfaces) window.bytes l number most (record { used = n; known = x; number = number + 1; ending = None }) in
        let one : P (length window.bytes) (known_behind old.known p) (place_of p 0 old.known.at ∷ []) = (
          by_held held told stands,
          record {
            count = record {
              numbered = omega arith;
              most = omega (arith, packet.in_count);
              some = λ e. omega arith;
              few = omega arith;
              bytes = omega (arith, some);
              sizes = All-cons (λ x. length x.bytes ≤ 262144) r [] (omega (arith, size, packet.size)) (All-nil (λ x. length x.bytes ≤ 262144));
            };
            placed = record { forward = omega arith; within = All-cons (λ x. x.next_at ≤ old.known.at + p.total) r [] (omega arith) (All-nil (λ x. x.next_at ≤ old.known.at + p.total)) };
            within = All-cons (IsWithin window.bytes) (place_of p 0 old.known.at) [] (omega (arith, there)) (All-nil (IsWithin window.bytes));
            used = omega arith;
            link = refl;
            sound = record { time = packet.time; counted = sound.counted; linked = sound.linked };
          },
        ) in
        let same : place_of p 0 old.known.at ∷ [] ≡ pushed = (λ i. sym is i ∷ []) ∙ (ap (λ l. l ++ pl ∷ []) (sym none) ∙ sym items) in
        subst (λ n. P n known pushed) (sym u) (subst (λ (x : Known). P (length window.bytes) x pushed) (sym k) (subst (λ (l : List Place). P (length window.bytes) (known_behind old.known p) l) same one))
      where
        by_held : (h : Option Contents) → WithFront h name old.known.at first (λ all. block_in old (drop old.known.at all) number ≡ Ok (block.Packet p)) → WithFront h name old.known.at first (StandsAt old.known.at window) →
            IsFound h name old (seen_behind old p) first.bytes window.bytes (place_of p 0 old.known.at ∷ []) number taken_is
        by_held None t w = tt
        by_held (Some m) t w = λ s.
            let f = open_front old first number (content m name) more s in
            record {
              stands = none_stands window.bytes (content m name) (length window.bytes) (old.known.at + p.total) refl;
              follows = λ rs e splits. split_on old (seen_behind old p) (content m name) number r (found (content m name) (w f) (t f)) rs e splits;
              ended = tt;
            }

  -- another block
  pub long_passed : (p : Passed) (known : Known) (interfaces : List Interface) → IsCounted p → known ≡ known_after old.known p → interfaces ≡ interfaces_after old.interfaces p →
      WithFront held name old.known.at first (λ all. block_in old (drop old.known.at all) number ≡ Ok (block.Passed p)) → WithFront held name old.known.at first (StandsAt (old.known.at + size_of p) window) →
      IsSearch held name old (seen_by known interfaces) first.bytes window number
  long_passed p known interfaces counted k l told stands =
      let same : seen_after old p ≡ seen_by known interfaces = λ i. seen_by (sym k i) (sym l i) in
      subst (λ (x : Seen). IsSearch held name old x first.bytes window number) same (record {
        passes = fronts held stands;
        follows = after held told;
        forward = omega (arith, after_at old.known p);
        link = keeps_link old.known p sound.linked;
        sound = sound_after old.known old.interfaces p counted sound;
      })
    where
      fronts : (h : Option Contents) → WithFront h name old.known.at first (StandsAt (old.known.at + size_of p) window) →
          Told h (λ m. IsStart first.bytes (drop old.known.at (content m name)) → IsFront window.bytes window.last (drop (known_after old.known p).at (content m name)))
      fronts None w = tt
      fronts (Some m) w = λ s. subst (λ n. StandsAt n window (content m name)) (sym (after_at old.known p)) (w (open_front old first number (content m name) more s))

      after : (h : Option Contents) → WithFront h name old.known.at first (λ all. block_in old (drop old.known.at all) number ≡ Ok (block.Passed p)) →
          Told h (λ m. IsStart first.bytes (drop old.known.at (content m name)) → Precedes (left_of old) (left_of (seen_after old p)) (content m name) number [] number)
      after None t = tt
      after (Some m) t = λ s rs e splits.
          passed_left old (seen_after old p) (content m name) number rs e (pass_at old (content m name) number p (t (open_front old first number (content m name) more s))) splits

  -- a read that failed was one of the next packet
  pub long_inside : (place : ℕ) → IsInLong held name old number first place → IsInNext name (λ all. IsStart first.bytes (drop old.known.at all)) (left_of old) old.known.at held number place
  long_inside place within = (within.0, by_held held within.1)
    where
      by_held : (h : Option Contents) → WithFront h name old.known.at first (λ all. (b : Block) → block_in old (drop old.known.at all) number ≡ Ok b → IsBefore place old.known.at b) →
          Told h (λ m. IsStart first.bytes (drop old.known.at (content m name)) → (r : Rec) (rs : List Rec) (e : Option CaptureBad) → left_of old (content m name) number (r ∷ rs) e → place < r.next_at)
      by_held None t = tt
      by_held (Some m) t = λ s r rs e splits. block_before old (drop old.known.at (content m name)) number place r splits.0 (t (open_front old first number (content m name) more s)) splits.1

  pub long_reads : (e : CaptureError) (taken : Taken) (a b : Readable) → a.held ≡ held → e ≡ error.ReadFault → taken ≡ record { used = length window.bytes; known = old.known; number = number; ending = Some end.ReadFault } →
      OnlyReads (is_read_fault {T = Block} (Err e)) name (IsInLong held name old number first) a b →
      OnlyReads (is_cut taken.ending) name (IsInNext name (λ all. IsStart first.bytes (drop old.known.at all)) (left_of (seen_by taken.known old.interfaces)) taken.known.at a.held taken.number) a b
  long_reads e taken a b same is t reads =
      let given : OnlyReads true name (IsInLong held name old number first) a b = subst (λ (x : CaptureError). OnlyReads (is_read_fault {T = Block} (Err x)) name (IsInLong held name old number first) a b) is reads in
      let wide : OnlyReads true name (IsInNext name (λ all. IsStart first.bytes (drop old.known.at all)) (left_of old) old.known.at held number) a b = reads_wider true name _ _ a b (λ place. long_inside place) given in
      let Q : Option Contents → Type 0 = λ h. OnlyReads true name (IsInNext name (λ all. IsStart first.bytes (drop old.known.at all)) (left_of old) old.known.at h number) a b in
      let P : Taken → Type 0 = λ x. OnlyReads (is_cut x.ending) name (IsInNext name (λ all. IsStart first.bytes (drop old.known.at all)) (left_of (seen_by x.known old.interfaces)) x.known.at a.held x.number) a b in
      subst P (sym t) (subst Q (sym same) wide)

pub with_unit : (held : Option Contents) (name : List ℕ) (at : ℕ) (first : Ahead) → WithFront held name at first (λ all. Unit {0})
with_unit None name at first = tt
with_unit (Some m) name at first = λ f. tt

pub ending_refused : (held : Option Contents) (name : List ℕ) (seen : Seen) (first : Ahead) (number : ℕ) (e : CaptureError) (refusal : CaptureBad) → e ≡ error.Bad refusal →
    WithFront held name seen.known.at first (λ all. Agrees {T = Block} (Err e) (block_in seen (drop seen.known.at all) number)) → WithFront held name seen.known.at first (λ all. IsEnding (left_of seen) all number (Some (end.Bad refusal)))
ending_refused held name seen first number e refusal is told =
    by_held held (subst (λ (x : CaptureError). WithFront held name seen.known.at first (λ all. Agrees {T = Block} (Err x) (block_in seen (drop seen.known.at all) number))) is told)
  where
    by_held : (h : Option Contents) → WithFront h name seen.known.at first (λ all. block_in seen (drop seen.known.at all) number ≡ Err refusal) → WithFront h name seen.known.at first (λ all. IsEnding (left_of seen) all number (Some (end.Bad refusal)))
    by_held None t = tt
    by_held (Some m) t = λ f. next_refused seen (drop seen.known.at (content m name)) number refusal (t f)

pub ending_end : (held : Option Contents) (name : List ℕ) (seen : Seen) (first : Ahead) (number : ℕ) (b : Block) → b ≡ block.End →
    WithFront held name seen.known.at first (λ all. block_in seen (drop seen.known.at all) number ≡ Ok b) → WithFront held name seen.known.at first (λ all. IsEnding (left_of seen) all number (Some end.End))
ending_end held name seen first number b is told =
    by_held held (subst (λ (x : Block). WithFront held name seen.known.at first (λ all. block_in seen (drop seen.known.at all) number ≡ Ok x)) is told)
  where
    by_held : (h : Option Contents) → WithFront h name seen.known.at first (λ all. block_in seen (drop seen.known.at all) number ≡ Ok block.End) → WithFront h name seen.known.at first (λ all. IsEnding (left_of seen) all number (Some end.End))
    by_held None t = tt
    by_held (Some m) t = λ f. next_ends seen (drop seen.known.at (content m name)) number (t f)

-- a block that was read, by what it is
pub block_is : (held : Option Contents) (name : List ℕ) (seen : Seen) (first : Ahead) (number : ℕ) (b other : Block) → b ≡ other →
    WithFront held name seen.known.at first (λ all. block_in seen (drop seen.known.at all) number ≡ Ok b) → WithFront held name seen.known.at first (λ all. block_in seen (drop seen.known.at all) number ≡ Ok other)
block_is held name seen first number b other is told = subst (λ (x : Block). WithFront held name seen.known.at first (λ all. block_in seen (drop seen.known.at all) number ≡ Ok x)) is told

pub stands_is : (held : Option Contents) (name : List ℕ) (at : ℕ) (first window : Ahead) (b other : Block) → b ≡ other → WithFront held name at first (λ all. StandsIn all at window b) → WithFront held name at first (λ all. StandsIn all at window other)
stands_is held name at first window b other is s = subst (λ (x : Block). WithFront held name at first (λ all. StandsIn all at window x)) is s

-- what was told of the block, with the section's interfaces as a list
pub told_by : (held : Option Contents) (name : List ℕ) (first : Ahead) (known : Known) (slice list : List Interface) (number : ℕ) (answer : Result Block CaptureError) → slice ≡ list →
    WithFront held name known.at first (λ all. Agrees answer (block_in (seen_by known slice) (drop known.at all) number)) → WithFront held name known.at first (λ all. Agrees answer (block_in (seen_by known list) (drop known.at all) number))
told_by held name first known slice list number answer is told =
    subst (λ (l : List Interface). WithFront held name known.at first (λ all. Agrees answer (block_in (seen_by known l) (drop known.at all) number))) is told

pub reads_by : (held : Option Contents) (name : List ℕ) (first : Ahead) (known : Known) (slice list : List Interface) (number : ℕ) (e : CaptureError) (a b : Readable) → slice ≡ list →
    OnlyReads (is_read_fault {T = Block} (Err e)) name (IsInLong held name (seen_by known slice) number first) a b → OnlyReads (is_read_fault {T = Block} (Err e)) name (IsInLong held name (seen_by known list) number first) a b
reads_by held name first known slice list number e a b is reads =
    subst (λ (l : List Interface). OnlyReads (is_read_fault {T = Block} (Err e)) name (IsInLong held name (seen_by known l) number first) a b) is reads

abbrev IsBeforeNext : Seen → List ℕ → ℕ → ℕ → Contents → Type 0
IsBeforeNext other name nth place m = (r : Rec) (rs : List Rec) (e : Option CaptureBad) → left_of other (content m name) nth (r ∷ rs) e → place < r.next_at

-- a search, and what came behind it
module _ (held after : Option Contents) (name : List ℕ) (old now later : Seen) (ahead : List ℕ) (window : Ahead) (number : ℕ) (same : after ≡ held) (search : IsSearch held name old now ahead window number) where
  pub search_then : (more : Ahead) → IsSearch after name now later window.bytes more number → IsSearch held name old later ahead more number
  search_then more then_ =
      let step : IsSearch held name now later window.bytes more number = subst (λ (h : Option Contents). IsSearch h name now later window.bytes more number) same then_ in
      record {
        passes = fronts held search.passes step.passes;
        follows = follow held search.passes search.follows step.follows;
        forward = omega (arith, search.forward, step.forward);
        link = step.link ∙ search.link;
        sound = step.sound;
      }
    where
      fronts : (h : Option Contents) → Told h (λ m. IsStart ahead (drop old.known.at (content m name)) → IsFront window.bytes window.last (drop now.known.at (content m name))) →
          Told h (λ m. IsStart window.bytes (drop now.known.at (content m name)) → IsFront more.bytes more.last (drop later.known.at (content m name))) →
          Told h (λ m. IsStart ahead (drop old.known.at (content m name)) → IsFront more.bytes more.last (drop later.known.at (content m name)))
      fronts None f k = tt
      fronts (Some m) f k = λ s. k (f s).start

      follow : (h : Option Contents) → Told h (λ m. IsStart ahead (drop old.known.at (content m name)) → IsFront window.bytes window.last (drop now.known.at (content m name))) →
          Told h (λ m. IsStart ahead (drop old.known.at (content m name)) → Precedes (left_of old) (left_of now) (content m name) number [] number) →
          Told h (λ m. IsStart window.bytes (drop now.known.at (content m name)) → Precedes (left_of now) (left_of later) (content m name) number [] number) →
          Told h (λ m. IsStart ahead (drop old.known.at (content m name)) → Precedes (left_of old) (left_of later) (content m name) number [] number)
      follow None f p q = tt
      follow (Some m) f p q = λ s rs e splits. p s rs e (q (f s).start rs e splits)

  pub found_then : (bytes : List ℕ) (places : List Place) (taken : Taken) → IsFound after name now later window.bytes bytes places number taken → IsFound held name old later ahead bytes places number taken
  found_then bytes places taken found = by_held held search.passes search.follows (subst (λ (h : Option Contents). IsFound h name now later window.bytes bytes places number taken) same found)
    where
      by_held : (h : Option Contents) → Told h (λ m. IsStart ahead (drop old.known.at (content m name)) → IsFront window.bytes window.last (drop now.known.at (content m name))) →
          Told h (λ m. IsStart ahead (drop old.known.at (content m name)) → Precedes (left_of old) (left_of now) (content m name) number [] number) →
          IsFound h name now later window.bytes bytes places number taken → IsFound h name old later ahead bytes places number taken
      by_held None f p g = tt
      by_held (Some m) f p g = λ s.
          let goes = g (f s).start in
          record {
            stands = goes.stands;
            follows = λ rs e splits. p s (map (placed bytes) places ++ rs) e (goes.follows rs e splits);
            ended = goes.ended;
          }

  pub round_then : (most : ℕ) (bytes : List ℕ) (places : List Place) (taken : Taken) → IsRound now later bytes places number most taken → IsRound old later bytes places number most taken
  round_then most bytes places taken r = record {
    count = r.count;
    placed = record { forward = omega (arith, search.forward, r.placed.forward); within = r.placed.within };
    within = r.within;
    used = r.used;
    link = r.link ∙ search.link;
    sound = r.sound;
  }

  pub next_then : (other : Seen) (nth place : ℕ) → IsInNext name (λ all. IsStart window.bytes (drop now.known.at all)) (left_of other) other.known.at after nth place →
      IsInNext name (λ all. IsStart ahead (drop old.known.at all)) (left_of other) other.known.at held nth place
  next_then other nth place within =
      (within.0, by_held held search.passes (subst (λ (h : Option Contents). Told h (λ m. IsStart window.bytes (drop now.known.at (content m name)) → IsBeforeNext other name nth place m)) same within.1))
    where
      by_held : (h : Option Contents) → Told h (λ m. IsStart ahead (drop old.known.at (content m name)) → IsFront window.bytes window.last (drop now.known.at (content m name))) →
          Told h (λ m. IsStart window.bytes (drop now.known.at (content m name)) → IsBeforeNext other name nth place m) → Told h (λ m. IsStart ahead (drop old.known.at (content m name)) → IsBeforeNext other name nth place m)
      by_held None f w = tt
      by_held (Some m) f w = λ s. w (f s).start

pub long_is : (held : Option Contents) (name : List ℕ) (old : Seen) (interfaces : List Interface) (ahead : List ℕ) (window : Ahead) (places : List Place) (number most : ℕ) (l other : Long) → l ≡ other →
    IsLongTaken held name old interfaces ahead window places number most l → IsLongTaken held name old interfaces ahead window places number most other
long_is held name old interfaces ahead window places number most l other is taken = subst (λ (x : Long). IsLongTaken held name old interfaces ahead window places number most x) is taken

pub long_read : (name : List ℕ) (old : Seen) (interfaces : List Interface) (ahead : List ℕ) (a b : Readable) (l other : Long) → l ≡ other → LongReads (Ok l) name old interfaces ahead a b → LongReads (Ok other) name old interfaces ahead a b
long_read name old interfaces ahead a b l other is reads = subst (λ (x : Long). LongReads (Ok x) name old interfaces ahead a b) is reads
