-- Pieces that are whole and do not clash stand in their datagram, in whatever order they came.
use Rattle.std.proofs.Common.{◌≡◌, ℕ, zero, suc, ◌+◌, ◌-◌, ◌<◌, ◌≤◌, Bool, true, false, ◌||◌, cond, min, List, [], ◌∷◌, ◌++◌, length, get_or, take, drop, refl, sym, ◌∙◌, ap, arith, Some}
use Rattle.std.specs.Prelude.{if◌then◌else◌, find, unwrap_or, fold}
use Rattle.std.specs.List.{list_any}
use Rattle.std.specs.declared.cmp.Ordering.{Ordering}
use Rattle.std.proofs.lemmas.Bool.Decides.{nat_tests}
use Rattle.std.proofs.lemmas.Bool.{false≢true}
use Rattle.std.proofs.lemmas.List.{ext_get_or, get_or-take, get_or-drop, length-take, length-drop}
use Rattle.std.proofs.lemmas.List.Elements.{All-from_get_or}
use Rattle.std.proofs.lemmas.List.Folds.{list_any_at}
use Rattle.std.proofs.lemmas.List.FromFn.{length-map-range_with_len, get_or-map-range_with_len}
use Rattle.std.proofs.lemmas.List.Sums.{fold-append}
use Rattle.reassembly_lane.specs.declared.parts.Part.{Part}
use Rattle.reassembly_lane.specs.Datagrams.{IsDatagram, StandsIn}
use Rattle.reassembly_lane.specs.History.{clash_within}
use Rattle.reassembly_lane.specs.LaneHistory.{Past, past_after, past_among, past_late_numbers}
use Rattle.reassembly_lane.specs.Lanes.{Arrival}
use Rattle.reassembly_lane.specs.Laws.{told, HistoriesJoin}
use Rattle.reassembly_lane.specs.Parts.{start, past, clash, holds, end_of, whole_end, byte_in, byte_at, datagram, no_part}
use Rattle.reassembly_lane.specs.Sound.{part_at}
use Rattle.reassembly_lane.proofs.Orders.{ends_at, end_any, any_index, last_at, past_at}
use Rattle.reassembly_lane.proofs.Wholes.{end_from_whole}

or_left : (a b : Bool) → (a || b) ≡ false → a ≡ false
or_left true b h = h
or_left false b h = refl

or_right : (a b : Bool) → (a || b) ≡ false → b ≡ false
or_right true b h = absurd (false≢true (sym h))
or_right false b h = h

none_at : (test : Part → Bool) (q : List Part) → list_any test q ≡ false → (k : ℕ) → k < length q → test (part_at q k) ≡ false
none_at test q h k l = by_bool (test (part_at q k)) refl
  where
    by_bool : (b : Bool) → test (part_at q k) ≡ b → test (part_at q k) ≡ false
    by_bool true e = absurd (false≢true (sym h ∙ list_any_at test q k no_part l e))
    by_bool false e = e

-- ---- a piece's byte is the datagram's
shared : (place : ℕ) (a b : Part) → holds place a ≡ true → holds place b ≡ true → clash a b ≡ true
shared place a b h k = grind (arith, nat_tests)

byte_held : (q : List Part) (k place : ℕ) → clash_within q ≡ false → k < length q → holds place (part_at q k) ≡ true → byte_at q place ≡ byte_in place (part_at q k)
byte_held [] k place c l h = absurd (omega arith)
byte_held (x ∷ xs) zero place c l h = ap (λ (b : Bool). byte_in place (unwrap_or (cond b (Some x) (find (holds place) xs)) no_part)) h
byte_held (x ∷ xs) (suc k) place c l h =
    by_first (holds place x) refl (byte_held xs k place (or_right (list_any (clash x) xs) (clash_within xs) c) (omega arith) h)
  where
    by_first : (b : Bool) → holds place x ≡ b → byte_at xs place ≡ byte_in place (part_at xs k) → byte_in place (unwrap_or (cond (holds place x) (Some x) (find (holds place) xs)) no_part) ≡ byte_in place (part_at xs k)
    by_first true e ih = absurd (false≢true (sym (none_at (clash x) xs (or_left (list_any (clash x) xs) (clash_within xs) c) k (omega arith)) ∙ shared place x (part_at xs k) e h))
    by_first false e ih = ap (λ (b : Bool). byte_in place (unwrap_or (cond b (Some x) (find (holds place) xs)) no_part)) e ∙ ih

-- ---- no piece ends behind the datagram's end
not_behind : (last other : Part) → last.more ≡ false → clash last other ≡ false → past other ≤ past last
not_behind last other m c = grind (arith, nat_tests)

not_behind_either : (other last : Part) → last.more ≡ false → clash other last ≡ false → past other ≤ past last
not_behind_either other last m c = grind (arith, nat_tests)

within_end : (q : List Part) (end : ℕ) → clash_within q ≡ false → end_of q ≡ Some end → (k : ℕ) → k < length q → past (part_at q k) ≤ end
within_end [] end c e k l = absurd (omega arith)
within_end (x ∷ xs) end c e k l = by_more x.more refl e (within_end xs end (or_right (list_any (clash x) xs) (clash_within xs) c)) k l
  where
    apart : list_any (clash x) xs ≡ false
    apart = or_left (list_any (clash x) xs) (clash_within xs) c

    by_last : x.more ≡ false → past x ≡ end → (k : ℕ) → k < length (x ∷ xs) → past (part_at (x ∷ xs) k) ≤ end
    by_last m same zero l = omega arith
    by_last m same (suc k) l =
        let b : past (part_at xs k) ≤ past x = not_behind x (part_at xs k) m (none_at (clash x) xs apart k (omega arith)) in
        omega arith

    by_rest : end_of xs ≡ Some end → ((k : ℕ) → k < length xs → past (part_at xs k) ≤ end) → (k : ℕ) → k < length (x ∷ xs) → past (part_at (x ∷ xs) k) ≤ end
    by_rest f ih zero l =
        let i = any_index (ends_at end) xs (end_any xs end f) in
        let b : past x ≤ past (part_at xs i.0) = not_behind_either x (part_at xs i.0) (last_at 0 end (part_at xs i.0) i.2) (none_at (clash x) xs apart i.0 i.1) in
        let same : past (part_at xs i.0) ≡ end = past_at end (part_at xs i.0) i.2 in
        omega arith
    by_rest f ih (suc k) l = ih k (omega arith)

    by_more : (b : Bool) → x.more ≡ b → (if b then end_of xs else Some (past x)) ≡ Some end → (end_of xs ≡ Some end → (k : ℕ) → k < length xs → past (part_at xs k) ≤ end) → (k : ℕ) → k < length (x ∷ xs) → past (part_at (x ∷ xs) k) ≤ end
    by_more true m f ih k l = by_rest f (ih f) k l
    by_more false m f ih k l = let same : past x ≡ end = cc in by_last m same k l

-- ---- so each stands in it
held_at : (part : Part) (i : ℕ) → i < length part.body → holds (start part + i) part ≡ true
held_at part i l = grind (arith, nat_tests)

pub datagram_holds : (q : List Part) (end : ℕ) → clash_within q ≡ false → whole_end q ≡ Some end → IsDatagram q end (datagram q end)
datagram_holds q end c w = record {
  long = length-map-range_with_len (byte_at q) 0 end;
  each = All-from_get_or (StandsIn (datagram q end)) q no_part (λ k l. stands k l);
}
  where
    long : length (datagram q end) ≡ end
    long = length-map-range_with_len (byte_at q) 0 end

    stands : (k : ℕ) → k < length q → StandsIn (datagram q end) (part_at q k)
    stands k l =
        let b : past (part_at q k) ≤ end = within_end q end c (end_from_whole q end w) k l in
        let n : length (take (length (part_at q k).body) (drop (start (part_at q k)) (datagram q end))) ≡ min (length (part_at q k).body) (length (datagram q end) - start (part_at q k)) = length-take (length (part_at q k).body) (drop (start (part_at q k)) (datagram q end)) ∙ ap (min (length (part_at q k).body)) (length-drop (start (part_at q k)) (datagram q end)) in
        let m : length (take (length (part_at q k).body) (drop (start (part_at q k)) (datagram q end))) ≡ length (part_at q k).body = omega (arith, long) in
        ext_get_or 0 (take (length (part_at q k).body) (drop (start (part_at q k)) (datagram q end))) (part_at q k).body m (λ i h.
        let j : i < length (part_at q k).body = omega arith in
        let e : (start (part_at q k) + i) - start (part_at q k) ≡ i = omega arith in
        get_or-take (length (part_at q k).body) (drop (start (part_at q k)) (datagram q end)) i 0 j
        ∙ get_or-drop (start (part_at q k)) (datagram q end) i 0
        ∙ get_or-map-range_with_len (byte_at q) 0 end (start (part_at q k) + i) (start (part_at q k) + i) 0 (omega arith) (omega arith)
        ∙ byte_held q k (start (part_at q k) + i) c l (held_at (part_at q k) i j)
        ∙ ap (λ (x : ℕ). get_or (part_at q k).body x 0) e)

-- ---- two lists of pieces
told_append : {K : Type 0} (cmp : K → K → Ordering) (pasts : List (K × Past)) (front back : List (Arrival K)) → told cmp pasts (front ++ back) ≡ told cmp pasts front ++ told cmp (fold (past_after cmp) pasts front) back
told_append cmp pasts [] back = refl
told_append cmp pasts (piece ∷ front) back = ap (λ l. ((past_among cmp pasts piece).answer, past_late_numbers piece.time pasts) ∷ l) (told_append cmp (past_after cmp pasts piece) front back)

pub joined_histories : {K : Type 0} (cmp : K → K → Ordering) → HistoriesJoin cmp
joined_histories cmp front back = (fold-append (past_after cmp) [] front back, told_append cmp [] front back)
