-- What is true of all that waits in lanes of IPv4 fragments, through one more of them.
use Rattle.std.proofs.Common.{◌≡◌, ℕ, zero, suc, ◌+◌, ◌<◌, ◌≤◌, Bool, true, false, ◌&&◌, ◌||◌, cond, List, [], ◌∷◌, length, take, drop, refl, sym, ◌∙◌, ap, subst, arith, Option, Some, None}
use Rattle.std.specs.Prelude.{nat_lt, if◌then◌else◌, find, unwrap_or, slice_set}
use Rattle.std.specs.List.{All, list_any, prefix_len, range_with_len}
use Rattle.std.specs.declared.cmp.Ordering.{Ordering}
use Rattle.std.proofs.lemmas.Bool.Decides.{nat_tests}
use Rattle.std.proofs.lemmas.List.{length-map}
use Rattle.std.proofs.lemmas.List.Elements.{All-append, All-cons, All-drop, All-head, All-nil, All-replicate, All-set, All-tail, All-take}
use Rattle.std.proofs.lemmas.List.FromFn.{length-range_with_len}
use Rattle.reassembly_lane.specs.declared.answer.Answer.TheVariants as answer
use Rattle.reassembly_lane.specs.declared.answer.FragBad.TheVariants as bad
use Rattle.reassembly_lane.specs.declared.answer.Fed.{Fed}
use Rattle.reassembly_lane.specs.declared.parts.Part.{Part}
use Rattle.reassembly_lane.specs.Contexts.{Partial, placed}
use Rattle.reassembly_lane.specs.Lanes.{Arrival, fed}
use Rattle.reassembly_lane.specs.Parts.{byte_at, covered, datagram, end_of, end_if_covered, first_of, holds, longest, no_part, past, whole_answer, whole_end}
use Rattle.reassembly_lane.specs.Sound.{IsSoundPart}
use Rattle.reassembly_lane.proofs.Laws.{EachStays, Stays, each_fed}
use Rattle.item_stage.specs.Heads.{CanBeJoined, EachContext, EachLane, HasHeader, IsHeader, IsKept, PartsKept}
use Rattle.item_stage.specs.Fragments.{first_head, part_of4}
use Rattle.item_stage.specs.Turns.{arriving}
use Rattle.item_stage.specs.Waiting.{RowTurn, Waiting, lane_at, no_row, row_fed, row_turn}
use Rattle.ip_codec.specs.Packet4.{IsBounded4, Packet4}

-- ---- parts
each_placed : (part : Part) (ps : List Part) → IsKept part → All IsKept ps → All IsKept (placed part ps)
each_placed part ps p h =
    let n : ℕ = prefix_len (λ other. nat_lt other.offset part.offset) ps in
    All-append IsKept (take n ps) (part ∷ drop n ps) (All-take IsKept n ps h) (All-cons IsKept part (drop n ps) p (All-drop IsKept n ps h))

-- ---- the answer of one datagram
first_any : (ps : List Part) (end : ℕ) → covered ps (suc end) ≡ true → list_any (holds 0) ps ≡ true
first_any ps zero e = by_test (list_any (holds 0) ps) e
  where
    by_test : (b : Bool) → (b && true) ≡ true → b ≡ true
    by_test true e = refl
    by_test false e = e
first_any ps (suc end) e = first_any ps end (by_test (list_any (holds (suc end)) ps) e)
  where
    by_test : (b : Bool) → (b && covered ps (suc end)) ≡ true → covered ps (suc end) ≡ true
    by_test true e = e
    by_test false e = cc

-- the part with the first byte
record IsFirst (part : Part) : Type 0 where
  pub header : IsHeader part.head
  pub counts : part.extra ≡ length part.head

first_kept : (ps : List Part) → All IsKept ps → list_any (holds 0) ps ≡ true → IsFirst (first_of ps)
first_kept [] h e = cc
first_kept (p ∷ ps) h e = by_test (holds 0 p) refl e (first_kept ps (All-tail IsKept p ps h))
  where
    by_test : (b : Bool) → holds 0 p ≡ b → (b || list_any (holds 0) ps) ≡ true → (list_any (holds 0) ps ≡ true → IsFirst (first_of ps)) →
        IsFirst (unwrap_or (cond b (Some p) (find (holds 0) ps)) no_part)
    by_test true held e ih =
        let zero_is : p.offset ≡ 0 = grind (arith, nat_tests) in
        let kept : IsKept p = All-head IsKept p ps h in
        record { header = kept.headed.header zero_is; counts = kept.headed.counts zero_is }
    by_test false held e ih = ih e

end_filled : (ps : List Part) (end : ℕ) → All IsKept ps → end_of ps ≡ Some end → 0 < end
end_filled [] end h e = cc
end_filled (p ∷ ps) end h e = by_more p.more e (end_filled ps end (All-tail IsKept p ps h))
  where
    by_more : (b : Bool) → (if b then end_of ps else Some (past p)) ≡ Some end → (end_of ps ≡ Some end → 0 < end) → 0 < end
    by_more true e ih = ih e
    by_more false e ih = let same : past p ≡ end = cc in omega (arith, same, (All-head IsKept p ps h).filled)

whole_covered : (ps : List Part) (o : Option ℕ) (end : ℕ) → end_if_covered ps o ≡ Some end → (o ≡ Some end) × (covered ps end ≡ true)
whole_covered ps None end e = cc
whole_covered ps (Some at) end e = by_test (covered ps at) refl e
  where
    by_test : (b : Bool) → covered ps at ≡ b → (if b then Some at else None) ≡ Some end → (Some at ≡ Some end) × (covered ps end ≡ true)
    by_test true c e = let same : at ≡ end = cc in (e, subst (λ (n : ℕ). covered ps n ≡ true) same c)
    by_test false c e = cc

whole_joined : (ps : List Part) (end : ℕ) → All IsKept ps → whole_end ps ≡ Some end → CanBeJoined (whole_answer ps end)
whole_joined ps end h e =
    let both : (end_of ps ≡ Some end) × (covered ps end ≡ true) = whole_covered ps (end_of ps) end e in
    by_end end (end_filled ps end h both.0) both.1
  where
    by_first : (end : ℕ) → IsFirst (first_of ps) → (b : Bool) → nat_lt longest ((first_of ps).extra + end) ≡ b →
        CanBeJoined (if b then answer.Refused bad.Long else answer.Whole (first_of ps).head (datagram ps end))
    by_first end f true t = tt
    by_first end f false t =
        let fits : (first_of ps).extra + end ≤ 65535 = grind (arith, nat_tests) in
        let size : length (datagram ps end) ≡ end = length-map (range_with_len 0 end) (byte_at ps) ∙ length-range_with_len 0 end in
        (f.header, omega (arith, fits, size, f.counts))

    by_end : (end : ℕ) → 0 < end → covered ps end ≡ true → CanBeJoined (whole_answer ps end)
    by_end zero l c = absurd (omega (arith, l))
    by_end (suc n) l c = by_first (suc n) (first_kept ps h (first_any ps n c)) (nat_lt longest ((first_of ps).extra + suc n)) refl

-- ---- a lane: what is kept of each datagram, and what is said to each fragment
kept_stays : (part : Part) → HasHeader part → Stays PartsKept CanBeJoined part
kept_stays part headed = record {
  held = tt;
  refused = λ why. tt;
  emptied = λ partial why h. All-nil IsKept;
  longer = λ sound partial h. each_placed part partial.parts (kept sound) h;
  whole = λ sound partial end h e. whole_joined (placed part partial.parts) end (each_placed part partial.parts (kept sound) h) e;
}
  where
    kept : IsSoundPart part → IsKept part
    kept sound = record { filled = sound.filled; headed = headed }

module _ {K : Type 0} where
  keeps_fed : (cmp : K → K → Ordering) (es : List (K × Partial)) (piece : Arrival K) → EachContext es → HasHeader piece.part → EachStays PartsKept CanBeJoined (fed cmp es piece)
  keeps_fed cmp es piece each headed = each_fed PartsKept CanBeJoined cmp es piece (kept_stays piece.part headed) (All-nil IsKept) each

  -- ---- a row
  each_at : (row : List (List (K × Partial))) (lane : ℕ) → EachLane row → EachContext (lane_at row lane)
  each_at [] lane h = All-nil PartsKept
  each_at (a ∷ row) zero h = All-head EachContext a row h
  each_at (a ∷ row) (suc lane) h = each_at row lane (All-tail EachContext a row h)

-- ---- a fragment that was read
pub header_of_part : (packet : Packet4) → IsBounded4 packet → HasHeader (part_of4 packet)
header_of_part packet h = record {
  header = λ e. subst IsHeader (sym (kept packet.offset e)) (record { words = h.whole_words; least = h.least_header; most = h.most_header });
  counts = λ e. ap length (sym (kept packet.offset e));
}
  where
    kept : (offset : ℕ) → offset ≡ 0 → first_head offset packet.header ≡ packet.header
    kept zero e = refl
    kept (suc n) e = absurd (omega (arith, e))

-- a row of IPv4 fragments, through one more
row_keeps : {K : Type 0} (cmp : K → K → Ordering) (old new : Waiting K) (lane : ℕ) (piece : Arrival K) (said : Fed) → EachLane old → HasHeader piece.part →
    row_turn said new ≡ row_fed cmp old lane piece → EachLane new × CanBeJoined said.answer
row_keeps {K} cmp old new lane piece said h p e =
    let k : EachStays PartsKept CanBeJoined (fed cmp (lane_at old lane) piece) = keeps_fed cmp (lane_at old lane) piece (each_at old lane h) p in
    let rows : new ≡ slice_set old lane (fed cmp (lane_at old lane) piece).contexts = ap (λ (t : RowTurn K). t.row) e in
    let says : said.answer ≡ (fed cmp (lane_at old lane) piece).answer = ap (λ (t : RowTurn K). t.answer) e in (
      subst (λ (r : Waiting K). EachLane r) (sym rows) (All-set EachContext old lane (fed cmp (lane_at old lane) piece).contexts k.each h),
      subst CanBeJoined (sym says) k.answer,
    )

pub feed_keeps : {K : Type 0} (cmp : K → K → Ordering) (old new : Waiting K) (lane : ℕ) (piece : Arrival K) (key : K) (time number : ℕ) (packet : Packet4) (said : Fed) →
    EachLane old → IsBounded4 packet → piece ≡ arriving key time number (part_of4 packet) → row_turn said new ≡ row_fed cmp old lane piece → EachLane new × CanBeJoined said.answer
feed_keeps {K} cmp old new lane piece key time number packet said h b is e =
    let part : piece.part ≡ part_of4 packet = ap (λ (a : Arrival K). a.part) is in
    row_keeps cmp old new lane piece said h (subst HasHeader (sym part) (header_of_part packet b)) e

-- a row in which nothing waits
pub none_waits : {K : Type 0} → EachLane (no_row {K = K})
none_waits {K} = All-replicate EachContext 16 [] (All-nil PartsKept)
