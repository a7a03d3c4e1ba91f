-- The parts of a round, one behind the other.
use Rattle.std.proofs.Common.{◌≡◌, ℕ, suc, ◌+◌, ◌*◌, ◌<◌, ◌≤◌, ◌-◌, min, Bool, false, List, [], ◌∷◌, ◌++◌, All, length, drop, take, flat_map, sym, ◌∙◌, ap, refl, subst, arith, append_assoc, append-nil}
use Rattle.std.specs.Prelude.{IfOk, Result, Ok, Err, is_err, slice_index_or}
use Rattle.aftr_base.specs.declared.lists.OutOfMemory.{OutOfMemory}
use Rattle.std.proofs.lemmas.List.{drop-drop, drop_min, length-drop, length-take-le, take-append-drop, take_min}
use Rattle.std.proofs.lemmas.List.Concat.{flat_map-append}
use Rattle.capture_io.specs.declared.written.Written.{Written}
use Rattle.aftr_text.specs.declared.summaries.Totals.{Totals}
use Rattle.run_output.specs.Cells.{ArePartsFrom, ArePartsUnless, Cell, IsMore, IsPart, IsPartUnless, chunk, counted, lines_of, packets_of}
use Rattle.run_output.specs.Counting.{IsWithin, no_totals}
use Rattle.run_output.specs.Rendering.{lines_in, packets_in}
use Rattle.run_output.specs.declared.parts.Part.{Part}

-- the chunks behind the first one are those of the rest
pub next_chunk : (size place : ℕ) (cs : List Cell) → chunk size (suc place) cs ≡ chunk size place (drop size cs)
next_chunk size place cs =
    let more : suc place * size ≡ size + place * size = omega arith in
    ap (λ (k : ℕ). take size (drop k cs)) more ∙ sym (ap (take size) (drop-drop (place * size) size cs))

pub first_chunk : (size : ℕ) (cs : List Cell) → chunk size 0 cs ≡ take size cs
first_chunk size cs =
    let none : 0 * size ≡ 0 = omega arith in ap (λ (k : ℕ). take size (drop k cs)) none

-- a list of parts that each tell of their chunk tells of all
pub chunks_join : (f : Cell → List ℕ) (g : Part → List ℕ) (size : ℕ) (parts : List Part) (cs : List Cell) →
    ((place : ℕ) (d : Part) → place < length parts → g (slice_index_or parts place d) ≡ flat_map f (chunk size place cs)) →
    length cs ≤ length parts * size → flat_map g parts ≡ flat_map f cs
chunks_join f g size [] [] each few = refl
chunks_join f g size [] (c ∷ cs) each few =
    let none : 0 * size ≡ 0 = omega arith in absurd (omega (arith, few, none))
chunks_join f g size (p ∷ parts) cs each few =
    let here : g p ≡ flat_map f (take size cs) = each 0 p (omega arith) ∙ ap (flat_map f) (first_chunk size cs) in
    let more : suc (length parts) * size ≡ size + length parts * size = omega arith in
    let rest : flat_map g parts ≡ flat_map f (drop size cs) =
    chunks_join f g size parts (drop size cs)
    (λ place d inside. each (suc place) d (omega (arith, inside)) ∙ ap (flat_map f) (next_chunk size place cs))
    (omega (arith, few, more, length-drop size cs)) in
    ap (λ l. l ++ flat_map g parts) here ∙ (ap (λ l. flat_map f (take size cs) ++ l) rest
    ∙ (sym (flat_map-append f (take size cs) (drop size cs)) ∙ ap (flat_map f) (take-append-drop size cs)))

-- ---- the parts from a place on
pub from_first : (w : Written) (size : ℕ) (cs : List Cell) (parts : List Part) → ArePartsFrom w size 0 cs parts → ArePartsUnless w size cs parts
from_first w size cs parts are place d inside =
    let same : 0 + place ≡ place = omega arith in
    subst (λ (n : ℕ). IsPartUnless w (chunk size n cs) (slice_index_or parts place d)) same (are place d inside)

-- what each part holds, where memory was wanted in none
pub part_is : (w : Written) (size : ℕ) (cs : List Cell) (parts : List Part) → ArePartsUnless w size cs parts → All (λ (p : Part). p.failed ≡ false) parts →
    (place : ℕ) (d : Part) → place < length parts → IsPart w (chunk size place cs) (slice_index_or parts place d)
part_is w size cs parts are whole place d inside = are place d inside (whole place d inside)

pub packets_joined : (w : Written) (size : ℕ) (cs : List Cell) (parts : List Part) → ArePartsUnless w size cs parts → All (λ (p : Part). p.failed ≡ false) parts →
    length cs ≤ length parts * size → packets_in parts ≡ flat_map (packets_of w) cs
packets_joined w size cs parts are whole few =
    chunks_join (packets_of w) (λ p. p.packets.items) size parts cs (λ place d inside. (part_is w size cs parts are whole place d inside).packets) few

pub lines_joined : (w : Written) (size : ℕ) (cs : List Cell) (parts : List Part) → ArePartsUnless w size cs parts → All (λ (p : Part). p.failed ≡ false) parts →
    length cs ≤ length parts * size → lines_in parts ≡ flat_map lines_of cs
lines_joined w size cs parts are whole few =
    chunks_join lines_of (λ p. p.lines.items) size parts cs (λ place d inside. (part_is w size cs parts are whole place d inside).lines) few

-- the first records of a part, from a place on, stand in it: with what is left, up to the part's end, it has what it is to have
pub record HasBegun (w : Written) (cs : List Cell) (from to i : ℕ) (p : Part) : Type 0 where
  pub packets : p.packets.items ++ flat_map (packets_of w) (take (to - i) (drop i cs)) ≡ flat_map (packets_of w) (take (to - from) (drop from cs))
  pub lines : p.lines.items ++ flat_map lines_of (take (to - i) (drop i cs)) ≡ flat_map lines_of (take (to - from) (drop from cs))
  pub counts : counted p.counted (take (to - i) (drop i cs)) ≡ counted no_totals (take (to - from) (drop from cs))
  pub within : IsWithin p.counted (i - from)

pub begun_first : (w : Written) (cs : List Cell) (from to : ℕ) (p : Part) → IsPart w [] p → HasBegun w cs from to from p
begun_first w cs from to p empty =
    let ds : List Cell = take (to - from) (drop from cs) in
    let none : from - from ≡ 0 = omega arith in
    record {
      packets = ap (λ l. l ++ flat_map (packets_of w) ds) empty.packets;
      lines = ap (λ l. l ++ flat_map lines_of ds) empty.lines;
      counts = ap (λ t. counted t ds) empty.counts;
      within = subst (IsWithin p.counted) (sym none) empty.within;
    }

pub begun_more : (w : Written) (cs : List Cell) (from to i : ℕ) (c : Cell) (old new : Part) → from ≤ i → i < to → drop i cs ≡ c ∷ drop (suc i) cs →
    IsMore w c old new → IsWithin new.counted new.counted.records → HasBegun w cs from to i old → HasBegun w cs from to (i + 1) new
begun_more w cs from to i c old new after before there more within begun =
    let rest : List Cell = take (to - (i + 1)) (drop (i + 1) cs) in
    let many : to - i ≡ suc (to - (i + 1)) = omega (arith, before) in
    let place : suc i ≡ i + 1 = omega arith in
    let opened : take (to - i) (drop i cs) ≡ c ∷ rest =
    ap (take (to - i)) there ∙ (ap (λ (k : ℕ). take k (c ∷ drop (suc i) cs)) many ∙ ap (λ (k : ℕ). c ∷ take (to - (i + 1)) (drop k cs)) place) in
    let number : new.counted.records ≡ i + 1 - from = omega (arith, after, ap (λ t. t.records) more.counts, begun.within.records) in
    record {
      packets = ap (λ l. l ++ flat_map (packets_of w) rest) more.packets
          ∙ (append_assoc old.packets.items (packets_of w c) (flat_map (packets_of w) rest)
          ∙ (ap (λ l. old.packets.items ++ flat_map (packets_of w) l) (sym opened) ∙ begun.packets));
      lines = ap (λ l. l ++ flat_map lines_of rest) more.lines
          ∙ (append_assoc (old.lines.items) (lines_of c) (flat_map lines_of rest)
          ∙ (ap (λ l. old.lines.items ++ flat_map lines_of l) (sym opened) ∙ begun.lines));
      counts = ap (λ t. counted t rest) more.counts ∙ (ap (counted old.counted) (sym opened) ∙ begun.counts);
      within = subst (IsWithin new.counted) number within;
    }

pub begun_last : (w : Written) (cs : List Cell) (from to i : ℕ) (p : Part) → from ≤ to → i ≡ to → to ≤ length cs → HasBegun w cs from to i p →
    IsPart w (take (to - from) (drop from cs)) p
begun_last w cs from to i p order ended inside begun =
    let none : to - i ≡ 0 = omega (arith, ended) in
    let left : take (to - i) (drop i cs) ≡ [] = ap (λ (k : ℕ). take k (drop i cs)) none in
    let size : i - from ≡ length (take (to - from) (drop from cs)) =
    omega (arith, ended, order, inside, length-drop from cs, length-take-le (to - from) (drop from cs) (omega (arith, order, inside, length-drop from cs))) in
    record {
      packets = sym (append-nil p.packets.items) ∙ (ap (λ l. p.packets.items ++ flat_map (packets_of w) l) (sym left) ∙ begun.packets);
      lines = sym (append-nil (p.lines.items)) ∙ (ap (λ l. p.lines.items ++ flat_map lines_of l) (sym left) ∙ begun.lines);
      counts = ap (counted p.counted) (sym left) ∙ begun.counts;
      within = subst (IsWithin p.counted) size begun.within;
    }

-- the records of a part, up to the end of the list
pub clamped : (cs : List Cell) (size place from to : ℕ) → from ≡ min (place * size) (length cs) → to ≡ min (from + size) (length cs) →
    take (to - from) (drop from cs) ≡ chunk size place cs
clamped cs size place from to from_is to_is =
    let first : drop from cs ≡ drop (place * size) cs = ap (λ (k : ℕ). drop k cs) from_is ∙ drop_min (place * size) cs in
    let many : to - from ≡ min size (length (drop from cs)) = omega (arith, from_is, to_is, length-drop from cs) in
    ap (λ (k : ℕ). take k (drop from cs)) many ∙ (take_min size (drop from cs) ∙ ap (take size) first)

pub is_empty : (w : Written) (p : Part) → p.packets.items ≡ [] → p.lines.items ≡ [] → p.counted ≡ no_totals → IsPart w [] p
is_empty w p packets lines counts =
    let none : IsWithin no_totals 0 = record { records = refl; held = omega arith; forwarded = omega arith; dropped = omega arith; packets = omega arith } in
    record { packets = packets; lines = lines; counts = counts; within = subst (λ (t : Totals). IsWithin t 0) (sym counts) none }

-- what a part holds is not the room that it has
pub same_written : (w : Written) (cs : List Cell) (p q : Part) → q.packets.items ≡ p.packets.items → q.lines.items ≡ p.lines.items → q.counted ≡ p.counted →
    IsPart w cs p → IsPart w cs q
same_written w cs p q packets lines counts part = record {
  packets = packets ∙ part.packets;
  lines = lines ∙ part.lines;
  counts = counts ∙ part.counts;
  within = subst (λ (t : Totals). IsWithin t (length cs)) (sym counts) part.within;
}

-- whether memory was wanted is no part of what a part holds
pub same_part : (w : Written) (cs : List Cell) (p : Part) (failed : Bool) → IsPart w cs p →
    IsPart w cs (record { packets = p.packets; lines = p.lines; counted = p.counted; failed = failed })
same_part w cs p failed part = record { packets = part.packets; lines = part.lines; counts = part.counts; within = part.within }

-- what is so where a call answered no error
pub if_done : {P : Type 0} (r : Result Unit OutOfMemory) (failed : Bool) → failed ≡ is_err r → failed ≡ false → IfOk r (λ _. P) → P
if_done (Ok done) failed is none here = here
if_done (Err error) failed is none here = absurd (cc (is, none))
