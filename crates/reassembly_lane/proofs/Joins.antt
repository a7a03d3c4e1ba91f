-- The bytes of parts without a gap, one behind the other, are their datagram.
use Rattle.std.proofs.Common.{◌≡◌, ℕ, ◌+◌, ◌-◌, ◌<◌, ◌≤◌, Bool, true, false, ◌||◌, cond, List, [], ◌∷◌, ◌++◌, length, get_or, take, drop, refl, sym, ◌∙◌, ap, arith, Some}
use Rattle.std.specs.Prelude.{find, unwrap_or, All}
use Rattle.std.specs.List.{list_any}
use Rattle.std.proofs.lemmas.Bool.Decides.{nat_tests}
use Rattle.std.proofs.lemmas.Bool.{false≢true}
use Rattle.std.proofs.lemmas.List.{take_at, drop_at, drop_more, take_all, take-append-drop, get_or-take, get_or-drop}
use Rattle.std.proofs.lemmas.List.Concat.{flat_map-append, length-flat_map}
use Rattle.std.proofs.lemmas.List.Elements.{All-from_get_or, All-head, All-tail}
use Rattle.std.proofs.lemmas.List.FromFn.{fill_by_all}
use Rattle.reassembly_lane.specs.declared.parts.Part.{Part}
use Rattle.reassembly_lane.specs.Parts.{start, past, holds, covered, byte_in, byte_at, datagram, no_part}
use Rattle.reassembly_lane.specs.Datagrams.{StandsIn}
use Rattle.reassembly_lane.specs.Joined.{joined}
use Rattle.reassembly_lane.specs.Sound.{part_at}
use Rattle.reassembly_lane.proofs.Covers.{reach, IsTight, tight_start, covered_at}

-- ---- bytes in which each part stands are the datagram where the parts cover them
holds_from : (place : ℕ) (part : Part) → holds place part ≡ true → start part ≤ place
holds_from place part h = grind (arith, nat_tests)

holds_before : (place : ℕ) (part : Part) → holds place part ≡ true → place < past part
holds_before place part h = grind (arith, nat_tests)

byte_stands : (bytes : List ℕ) (part : Part) (place : ℕ) → StandsIn bytes part → holds place part ≡ true → byte_in place part ≡ get_or bytes place 0
byte_stands bytes part place st h =
    let a : start part ≤ place = holds_from place part h in
    let b : place < past part = holds_before place part h in
    let i : place - start part < length part.body = omega arith in
    let e : start part + (place - start part) ≡ place = omega arith in
    ap (λ (l : List ℕ). get_or l (place - start part) 0) (sym st)
    ∙ get_or-take (length part.body) (drop (start part) bytes) (place - start part) 0 i
    ∙ get_or-drop (start part) bytes (place - start part) 0
    ∙ ap (λ (k : ℕ). get_or bytes k 0) e

pub byte_at_stands : (bytes : List ℕ) (parts : List Part) (place : ℕ) → All (StandsIn bytes) parts → list_any (holds place) parts ≡ true → byte_at parts place ≡ get_or bytes place 0
byte_at_stands bytes [] place st h = absurd (false≢true h)
byte_at_stands bytes (p ∷ ps) place st h =
    by_first (holds place p) refl (byte_at_stands bytes ps place (All-tail (StandsIn bytes) p ps st)) h
  where
    by_first : (b : Bool) → holds place p ≡ b → (list_any (holds place) ps ≡ true → byte_at ps place ≡ get_or bytes place 0) → (b || list_any (holds place) ps) ≡ true → byte_in place (unwrap_or (cond b (Some p) (find (holds place) ps)) no_part) ≡ get_or bytes place 0
    by_first true e rest h = byte_stands bytes p place (All-head (StandsIn bytes) p ps st) e
    by_first false e rest h = rest h

pub datagram_is : (bytes : List ℕ) (parts : List Part) (end : ℕ) → length bytes ≡ end → All (StandsIn bytes) parts → covered parts end ≡ true → datagram parts end ≡ bytes
datagram_is bytes parts end e st c =
    sym (fill_by_all (byte_at parts) bytes end 0 e (λ k h. sym (byte_at_stands bytes parts k st (covered_at parts end k c h))))

-- ---- parts without a gap stand in their joined bytes
module _ (parts : List Part) (t : IsTight parts) where
  joined_front : (k : ℕ) → k ≤ length parts → length (joined (take k parts)) ≡ reach parts k
  joined_front k h = length-flat_map (λ part. part.body) (take k parts) ∙ t.tight k h

  joined_split : (k : ℕ) → k < length parts → joined parts ≡ joined (take k parts) ++ ((part_at parts k).body ++ joined (drop (k + 1) parts))
  joined_split k h =
      ap joined (sym (take-append-drop k parts) ∙ ap (λ (l : List Part). take k parts ++ l) (drop_more parts k no_part h))
      ∙ flat_map-append (λ part. part.body) (take k parts) (part_at parts k ∷ drop (k + 1) parts)

  pub joined_stands : All (StandsIn (joined parts)) parts
  joined_stands = All-from_get_or (StandsIn (joined parts)) parts no_part (λ k h.
      let e : joined parts ≡ joined (take k parts) ++ ((part_at parts k).body ++ joined (drop (k + 1) parts)) = joined_split k h in
      let n : length (joined (take k parts)) ≡ start (part_at parts k) = joined_front k (omega arith) ∙ sym (tight_start parts t k h) in
      ap (λ (l : List ℕ). take (length (part_at parts k).body) (drop (start (part_at parts k)) l)) e
      ∙ ap (take (length (part_at parts k).body)) (drop_at (joined (take k parts)) ((part_at parts k).body ++ joined (drop (k + 1) parts)) (start (part_at parts k)) n)
      ∙ take_at (part_at parts k).body (joined (drop (k + 1) parts)) (length (part_at parts k).body) refl)

  pub joined_long : length (joined parts) ≡ reach parts (length parts)
  joined_long = ap (λ (l : List Part). length (joined l)) (sym (take_all (length parts) parts (omega arith))) ∙ joined_front (length parts) (omega arith)
