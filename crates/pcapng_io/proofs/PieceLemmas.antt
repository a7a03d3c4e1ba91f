-- Blocks that are taken off the front of a piece, one more.
use Rattle.std.proofs.Common.{◌≡◌, ℕ, ◌+◌, ◌-◌, ◌^◌, ◌<◌, ◌≤◌, Bool, List, [], ◌∷◌, ◌++◌, length, get_or, take, drop, map, All, Option, Some, None, Ok, refl, sym, ◌∙◌, ap, subst, append_assoc, arith}
use Rattle.std.proofs.lemmas.List.{drop-drop, get_or-append-add, length-drop, length-map, length-take-le, map-append, take_rest}
use Rattle.std.proofs.lemmas.List.Elements.{All-nil}
use Rattle.aftr_base.specs.Numbers.{span}
use Rattle.capture_io.specs.declared.forms.CaptureBad.{CaptureBad}
use Rattle.capture_io.specs.declared.forms.Rec.{Rec}
use Rattle.capture_io.specs.declared.records.Place.{Place}
use Rattle.capture_io.specs.declared.rounds.Ending.TheVariants as end
use Rattle.capture_io.specs.Fronts.{IsFront}
use Rattle.capture_io.specs.Records.{IsWithin, placed}
use Rattle.capture_io.specs.Rounds.{all_but_last, bytes_captured}
use Rattle.capture_io.proofs.LawLemmas.{all_more, but_last, captured_more, front_behind, length_more}
use Rattle.pcapng_io.specs.declared.block.Block.TheVariants as block
use Rattle.pcapng_io.specs.declared.block.Known.{Known}
use Rattle.pcapng_io.specs.declared.block.Packet.{Packet}
use Rattle.pcapng_io.specs.declared.block.Passed.{Passed}
use Rattle.pcapng_io.specs.declared.fronts.Front.{Front}
use Rattle.pcapng_io.specs.declared.fronts.Front.TheVariants as front
use Rattle.pcapng_io.specs.declared.interface.Interface.{Interface}
use Rattle.pcapng_io.specs.Seen.{IsSoundSeen, Seen, seen_by}
use Rattle.pcapng_io.specs.Blocks.{block_in, interfaces_after, known_after, known_behind, record_of, seen_after, seen_behind, size_of}
use Rattle.pcapng_io.specs.Captures.{Gives, next_in, Splits}
use Rattle.pcapng_io.specs.Files.{IsSound, IsSoundPacket}
use Rattle.pcapng_io.specs.Fronts.{front_in, IsSoundFront}
use Rattle.pcapng_io.specs.Pieces.{AreBlocks, Ended, IsOpen, IsTimed, last_place, place_of}
use Rattle.pcapng_io.specs.Rounds.{left_of}
use Rattle.pcapng_io.proofs.StartLemmas.{Tells, at_start, front_said, front_told, open_before, open_short}
use Rattle.pcapng_io.proofs.SplitLemmas.{record_end, split_on}
use Rattle.pcapng_io.proofs.WalkLemmas.{after_at, keeps_link, next_behind, next_ends, next_packet, next_refused, pass_at, sized, sound_after}

pub blocks_none : (old : Seen) (piece : List ℕ) (last : Bool) (number most : ℕ) → number ≤ 2 ^ 31 → 1 ≤ most → IsSoundSeen old → AreBlocks old old piece last number most [] 0 number 0
blocks_none old piece last number most few some sound = record {
  follows = λ bytes f rs e splits. splits;
  numbered = omega arith;
  few = few;
  at = omega arith;
  inside = omega arith;
  count = omega arith;
  captured = refl;
  within = omega (arith, some);
  placed = All-nil (λ r. r.next_at ≤ old.known.at);
  sizes = All-nil (λ r. length r.bytes ≤ 262144);
  link = refl;
  sound = sound;
}

-- the rest of a piece is the front of what is left where it stands
pub rest_front : (old now : Seen) (piece bytes : List ℕ) (last : Bool) (used : ℕ) → now.known.at ≡ old.known.at + used → used ≤ length piece →
    IsFront piece last (drop old.known.at bytes) → IsFront (drop used piece) last (drop now.known.at bytes)
rest_front old now piece bytes last used at inside f =
    let P : ℕ → Type 0 = λ n. IsFront (drop used piece) last (drop n bytes) in
    subst P (sym at) (front_behind piece bytes last old.known.at used inside f)

-- what is left behind a block that is passed is what was left
rest_of : (now behind : Seen) (bytes : List ℕ) (number : ℕ) (r : Rec) (more : List Rec) (e : Option CaptureBad) → next_in now (drop now.known.at bytes) number ≡ Ok (Gives r behind) →
    Splits behind (drop (behind.known.at - now.known.at) (drop now.known.at bytes)) (number + 1) more e → Splits behind (drop behind.known.at bytes) (number + 1) more e
rest_of now behind bytes number r more e found splits =
    let far : now.known.at + 12 ≤ r.next_at = next_behind now (drop now.known.at bytes) number r behind found in
    let end_is : r.next_at ≡ behind.known.at = record_end now (drop now.known.at bytes) number r behind found in
    let place : now.known.at + (behind.known.at - now.known.at) ≡ behind.known.at = omega (arith, far, end_is) in
    let same : drop (behind.known.at - now.known.at) (drop now.known.at bytes) ≡ drop behind.known.at bytes =
    drop-drop (behind.known.at - now.known.at) now.known.at bytes ∙ ap (λ n. drop n bytes) place in
    subst (λ (l : List ℕ). Splits behind l (number + 1) more e) same splits

pub passed_left : (seen now : Seen) (bytes : List ℕ) (number : ℕ) (rs : List Rec) (e : Option CaptureBad) →
    next_in seen (drop seen.known.at bytes) number ≡ next_in now (drop now.known.at bytes) number → left_of now bytes number rs e → left_of seen bytes number rs e
passed_left seen now bytes number [] None same splits = same ∙ splits
passed_left seen now bytes number [] (Some refusal) same splits = same ∙ splits
passed_left seen now bytes number (r ∷ rs) e same splits =
    split_on seen splits.0 bytes number r (same ∙ splits.1) rs e (rest_of now splits.0 bytes number r rs e splits.1 splits.2)

-- a packet at the front of the rest of a piece lies in the piece
pub packet_fits : (now : Seen) (piece : List ℕ) (last : Bool) (used nth : ℕ) (p : Packet) → used ≤ length piece → front_in now (drop used piece) last nth ≡ front.Packet p →
    used + p.total ≤ length piece
packet_fits now piece last used nth p within e =
    let size = sized now (drop used piece) nth (block.Packet p) tt (front_said now (drop used piece) last nth (front.Packet p) e) in
    omega (arith, size.whole, length-drop used piece, within)

pub place_within : (piece : List ℕ) (p : Packet) (used at : ℕ) (places pushed : List Place) (pl : Place) → pushed ≡ places ++ pl ∷ [] → pl ≡ place_of p used at →
    used + p.total ≤ length piece → p.start + p.count < p.total → All (IsWithin piece) places → All (IsWithin piece) pushed
place_within piece p used at places pushed pl items is fits inside each =
    let same : places ++ place_of p used at ∷ [] ≡ pushed = ap (λ (x : Place). places ++ x ∷ []) (sym is) ∙ sym items in
    let P : List Place → Type 0 = λ l. All (IsWithin piece) l in
    subst P same (all_more (IsWithin piece) places (place_of p used at) each (omega (arith, fits, inside)))

module _ (old now : Seen) (piece : List ℕ) (last : Bool) (number most : ℕ) (places : List Place) (used nth total : ℕ)
    (t : AreBlocks old now piece last number most (map (placed piece) places) used nth total) where
  abbrev pub rs : List Rec
  rs = map (placed piece) places

  told : (f : Front) (bytes : List ℕ) → front_in now (drop used piece) last nth ≡ f → IsFront piece last (drop old.known.at bytes) → Tells f (block_in now (drop now.known.at bytes) nth)
  told f bytes e front_is =
      subst (λ (x : Front). Tells x (block_in now (drop now.known.at bytes) nth)) e
      (front_told now (drop used piece) last (drop now.known.at bytes) nth (rest_front old now piece bytes last used t.at t.inside front_is))

  pub ended_end : front_in now (drop used piece) last nth ≡ front.End → Ended old now piece last nth (Some end.End)
  ended_end e = λ bytes f. next_ends now (drop now.known.at bytes) nth (told front.End bytes e f)

  pub ended_bad : (refusal : CaptureBad) → front_in now (drop used piece) last nth ≡ front.Bad refusal → Ended old now piece last nth (Some (end.Bad refusal))
  ended_bad refusal e = λ bytes f. next_refused now (drop now.known.at bytes) nth refusal (told (front.Bad refusal) bytes e f)

  pub is_open : front_in now (drop used piece) last nth ≡ front.More → length (drop used piece) < 2 ^ 32 → IsOpen now (drop used piece) last nth
  is_open e less =
      let short = open_short now (drop used piece) last nth e in
      record {
        said = e;
        more = short.more;
        near = short.near_by;
        short = less;
        before = λ left r behind s found. open_before now (drop used piece) left last nth r behind short s found;
      }

  module _ (p : Packet) (sound : IsSoundPacket nth p) (e : front_in now (drop used piece) last nth ≡ front.Packet p) where
    abbrev pub place : Place
    place = place_of p used now.known.at

    abbrev pub r : Rec
    r = placed piece place

    whole : used + p.total ≤ length piece
    whole = packet_fits now piece last used nth p t.inside e

    size : length r.bytes ≡ p.count
    size =
        let stands : length (take p.count (drop (used + p.start) piece)) ≡ p.count =
        length-take-le p.count (drop (used + p.start) piece) (omega (arith, length-drop (used + p.start) piece, whole, sound.inside)) in
        stands

    same_record : (bytes : List ℕ) → IsFront piece last (drop old.known.at bytes) → record_of now.known (drop now.known.at bytes) p ≡ r
    same_record bytes f =
        let front_is = rest_front old now piece bytes last used t.at t.inside f in
        let there : span (drop now.known.at bytes) p.start p.count ≡ span (drop used piece) p.start p.count =
        at_start (drop used piece) (drop now.known.at bytes) p.start p.count front_is.start (omega (arith, length-drop used piece, whole, sound.inside)) in
        let same : span (drop now.known.at bytes) p.start p.count ≡ span piece (used + p.start) p.count = there ∙ ap (λ l. take p.count l) (drop-drop p.start used piece) in
        λ i. record { seconds = p.seconds; fraction = p.nanos; bytes = same i; next_at = now.known.at + p.total }

    found : (bytes : List ℕ) → IsFront piece last (drop old.known.at bytes) → next_in now (drop now.known.at bytes) nth ≡ Ok (Gives r (seen_behind now p))
    found bytes f =
        next_packet now (drop now.known.at bytes) nth p (told (front.Packet p) bytes e f) ∙ ap (λ x. Ok (Gives x (seen_behind now p))) (same_record bytes f)

    packet_more : length places < 16384 → total < most →
        AreBlocks old (seen_behind now p) piece last number most (map (placed piece) (places ++ place ∷ [])) (used + p.total) (nth + 1) (total + p.count)
    packet_more few less =
        let same : map (placed piece) (places ++ place ∷ []) ≡ rs ++ r ∷ [] = map-append (placed piece) places (place ∷ []) in
        let longer : length (rs ++ r ∷ []) ≡ length rs + 1 = length_more rs r in
        let as_many : length rs ≡ length places = length-map places (placed piece) in
        let P : List Rec → Type 0 = λ l. AreBlocks old (seen_behind now p) piece last number most l (used + p.total) (nth + 1) (total + p.count) in
        subst P (sym same) (record {
          follows = λ bytes f more x splits.
              let Q : List Rec → Type 0 = λ l. left_of old bytes number l x in
              subst Q (sym (append_assoc rs (r ∷ []) more)) (t.follows bytes f (r ∷ more) x (split_on now (seen_behind now p) bytes nth r (found bytes f) more x splits));
          numbered = omega (arith, t.numbered, longer);
          few = omega (arith, sound.in_count);
          at = omega (arith, t.at);
          inside = whole;
          count = omega (arith, longer, as_many, few);
          captured = omega (arith, t.captured, captured_more rs r, size);
          within = let all : bytes_captured (all_but_last (rs ++ r ∷ [])) ≡ bytes_captured rs = ap bytes_captured (but_last rs r) in omega (arith, all, t.captured, less);
          placed = all_more (λ x. x.next_at ≤ now.known.at + p.total) rs r (λ k d in_rs. omega (arith, t.placed k d in_rs)) (omega arith);
          sizes = all_more (λ x. length x.bytes ≤ 262144) rs r t.sizes (omega (arith, size, sound.size));
          link = t.link;
          sound = record { time = sound.time; counted = t.sound.counted; linked = t.sound.linked };
        })

    -- the same, as the code has it
    pub packet_taken : (pushed : List Place) (pl : Place) (known : Known) → pushed ≡ places ++ pl ∷ [] → pl ≡ place → known ≡ known_behind now.known p → length places < 16384 → total < most →
        AreBlocks old (seen_by known now.interfaces) piece last number most (map (placed piece) pushed) (used + p.total) (nth + 1) (total + p.count)
    packet_taken pushed pl known items is k few less =
        let same : places ++ place ∷ [] ≡ pushed = ap (λ (x : Place). places ++ x ∷ []) (sym is) ∙ sym items in
        let P : List Place → Known → Type 0 = λ l x. AreBlocks old (seen_by x now.interfaces) piece last number most (map (placed piece) l) (used + p.total) (nth + 1) (total + p.count) in
        subst (λ (x : Known). P pushed x) (sym k) (subst (λ (l : List Place). P l (known_behind now.known p)) same (packet_more few less))

    pub packet_within : (pushed : List Place) (pl : Place) → pushed ≡ places ++ pl ∷ [] → pl ≡ place → All (IsWithin piece) places → All (IsWithin piece) pushed
    packet_within pushed pl items is each = place_within piece p used now.known.at places pushed pl items is whole sound.inside each

    pub packet_inside : used + p.total ≤ length piece
    packet_inside = whole

  module _ (p : Passed) (sound : IsSound nth (block.Passed p)) (e : front_in now (drop used piece) last nth ≡ front.Passed p) where
    pub passed_inside : used + size_of p ≤ length piece
    passed_inside =
        let size = sized now (drop used piece) nth (block.Passed p) tt (front_said now (drop used piece) last nth (front.Passed p) e) in
        omega (arith, size.whole, length-drop used piece, t.inside)

    pub passed_taken : (known : Known) (interfaces : List Interface) → known ≡ known_after now.known p → interfaces ≡ interfaces_after now.interfaces p →
        AreBlocks old (seen_by known interfaces) piece last number most (map (placed piece) places) (used + size_of p) nth total
    passed_taken known interfaces k l =
        let P : Seen → Type 0 = λ x. AreBlocks old x piece last number most (map (placed piece) places) (used + size_of p) nth total in
        let same : seen_after now p ≡ seen_by known interfaces = λ i. seen_by (sym k i) (sym l i) in
        subst P same (record {
          follows = λ bytes f more x splits. t.follows bytes f more x (passed_left now (seen_after now p) bytes nth more x (pass_at now bytes nth p (told (front.Passed p) bytes e f)) splits);
          numbered = t.numbered;
          few = t.few;
          at = omega (arith, t.at, after_at now.known p);
          inside = passed_inside;
          count = t.count;
          captured = t.captured;
          within = t.within;
          placed = λ k d in_rs. omega (arith, t.placed k d in_rs, after_at now.known p);
          sizes = t.sizes;
          link = keeps_link now.known p t.sound.linked ∙ t.link;
          sound = sound_after now.known now.interfaces p sound.2 t.sound;
        })

-- the front of the rest of a piece, as the code has it
pub front_of_rest : (seen : Seen) (piece : List ℕ) (last : Bool) (used nth : ℕ) (said : Front) →
    said ≡ front_in seen (take (length piece - used) (drop used piece)) last nth → front_in seen (drop used piece) last nth ≡ said
front_of_rest seen piece last used nth said e = ap (λ (l : List ℕ). front_in seen l last nth) (sym (take_rest piece used)) ∙ sym e

pub said_at : (known : Known) (interfaces slice : List Interface) (piece : List ℕ) (last : Bool) (used nth : ℕ) (result said : Front) → slice ≡ interfaces →
    result ≡ front_in (seen_by known slice) (take (length piece - used) (drop used piece)) last nth → result ≡ said →
    front_in (seen_by known interfaces) (drop used piece) last nth ≡ said
said_at known interfaces slice piece last used nth result said same says is =
    front_of_rest (seen_by known interfaces) piece last used nth said
    (sym is ∙ (says ∙ ap (λ (l : List Interface). front_in (seen_by known l) (take (length piece - used) (drop used piece)) last nth) same))

pub sound_said : (nth : ℕ) (result said : Front) → result ≡ said → IsSoundFront nth result → IsSoundFront nth said
sound_said nth result said is sound = subst (IsSoundFront nth) is sound

-- what is known so many bytes further on, behind a packet of this time
abbrev pub known_further : Known → ℕ → ℕ → ℕ → Known
known_further known more seconds nanos = record known { at = known.at + more; seconds = seconds; nanos = nanos }

-- the number of the next packet, where there are more places than before
abbrev pub number_further : ℕ → List Place → List Place → ℕ
number_further number before now = number + (length now - length before)

-- one packet more
pub taken_further : (old : Seen) (known : Known) (interfaces : List Interface) (piece : List ℕ) (last : Bool) (number most : ℕ) (initial places pushed : List Place)
    (begun used next total seconds nanos : ℕ) (p : Packet) (pl : Place) → begun ≤ used → length initial ≤ length places →
    AreBlocks old (seen_by (known_further known (used - begun) seconds nanos) interfaces) piece last number most (map (placed piece) places) used (number_further next initial places) total →
    IsSoundPacket (number_further next initial places) p →
    front_in (seen_by (known_further known (used - begun) seconds nanos) interfaces) (drop used piece) last (number_further next initial places) ≡ front.Packet p →
    pushed ≡ places ++ pl ∷ [] → pl ≡ place_of p used (known.at + (used - begun)) → length places < 16384 → total < most →
    AreBlocks old (seen_by (known_further known (used + p.total - begun) p.seconds p.nanos) interfaces) piece last number most (map (placed piece) pushed) (used + p.total)
    (number_further next initial pushed) (total + p.count)
taken_further old known interfaces piece last number most initial places pushed begun used next total seconds nanos p pl forward grown t sound e items is few less =
    let now = seen_by (known_further known (used - begun) seconds nanos) interfaces in
    let at : known.at + (used + p.total - begun) ≡ known.at + (used - begun) + p.total = omega (arith, forward) in
    let longer : length pushed ≡ length places + 1 = ap length items ∙ length_more places pl in
    let one : number_further next initial places + 1 ≡ number_further next initial pushed = omega (arith, longer, grown) in
    let behind : known_further known (used + p.total - begun) p.seconds p.nanos ≡ known_behind now.known p =
    λ i. record known { at = at i; seconds = p.seconds; nanos = p.nanos } in
    let P : ℕ → Type 0 = λ n. AreBlocks old (seen_by (known_further known (used + p.total - begun) p.seconds p.nanos) interfaces) piece last number most
    (map (placed piece) pushed) (used + p.total) n (total + p.count) in
    subst P one (packet_taken old now piece last number most places used (number_further next initial places) total t p sound e pushed pl
    (known_further known (used + p.total - begun) p.seconds p.nanos) items is behind few less)

pub last_pushed : (places pushed : List Place) (pl : Place) → pushed ≡ places ++ pl ∷ [] → last_place pushed ≡ pl
last_pushed places pushed pl items =
    let none : Place = record { seconds = 0; fraction = 0; from = 0; count = 0; next_at = 0 } in
    let at : length (places ++ pl ∷ []) - 1 ≡ length places + 0 = omega (arith, length_more places pl) in
    ap last_place items ∙ (ap (λ n. get_or (places ++ pl ∷ []) n none) at ∙ get_or-append-add places (pl ∷ []) 0 none)

pub timed_behind : (known behind : Known) (p : Packet) (places pushed : List Place) (pl : Place) (from at : ℕ) → pushed ≡ places ++ pl ∷ [] → pl ≡ place_of p from at →
    behind ≡ known_behind known p → IsTimed behind pushed
timed_behind known behind p places pushed pl from at items is k =
    let last : last_place pushed ≡ place_of p from at = last_pushed places pushed pl items ∙ is in
    let longer : length pushed ≡ length places + 1 = ap length items ∙ length_more places pl in
    record {
      some = omega (arith, longer);
      seconds = ap (λ (x : Place). x.seconds) last ∙ sym (ap (λ (x : Known). x.seconds) k);
      nanos = ap (λ (x : Place). x.fraction) last ∙ sym (ap (λ (x : Known). x.nanos) k);
    }

-- what is known behind the packets that have these places
abbrev pub known_by : Known → ℕ → List Place → Known
known_by known more places = known_further known more (last_place places).seconds (last_place places).fraction

-- the time that is kept with the place
pub taken_timed : (old : Seen) (known : Known) (interfaces : List Interface) (piece : List ℕ) (last : Bool) (number most : ℕ) (places pushed : List Place) (more used from at next total : ℕ) (p : Packet)
    (pl : Place) → pushed ≡ places ++ pl ∷ [] → pl ≡ place_of p from at →
    AreBlocks old (seen_by (known_further known more p.seconds p.nanos) interfaces) piece last number most (map (placed piece) pushed) used next total →
    AreBlocks old (seen_by (known_by known more pushed) interfaces) piece last number most (map (placed piece) pushed) used next total
taken_timed old known interfaces piece last number most places pushed more used from at next total p pl items is t =
    let P : Place → Type 0 = λ x. AreBlocks old (seen_by (known_further known more x.seconds x.fraction) interfaces) piece last number most (map (placed piece) pushed) used next total in
    subst P (sym (last_pushed places pushed pl items ∙ is)) t

-- the same by another writing of the place, of the number and of the last place
pub taken_behind : (old : Seen) (known : Known) (interfaces : List Interface) (piece : List ℕ) (last : Bool) (number most : ℕ) (places : List Place)
    (used further at next nth total : ℕ) (found : Place) → at ≡ known.at + further → nth ≡ next → found ≡ last_place places →
    AreBlocks old (seen_by (known_by known further places) interfaces) piece last number most (map (placed piece) places) used next total →
    AreBlocks old (seen_by (record known { at = at; seconds = found.seconds; nanos = found.fraction }) interfaces) piece last number most (map (placed piece) places) used nth total
taken_behind old known interfaces piece last number most places used further at next nth total found at_is nth_is found_is t =
    let P : ℕ → ℕ → Place → Type 0 = λ a n x. AreBlocks old (seen_by (record known { at = a; seconds = x.seconds; nanos = x.fraction }) interfaces) piece last number most
    (map (placed piece) places) used n total in
    subst (λ a. P a nth found) (sym at_is) (subst (λ n. P (known.at + further) n found) (sym nth_is) (subst (P (known.at + further) next) (sym found_is) t))
