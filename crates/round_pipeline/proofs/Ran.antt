-- A run that has ended, as its caller sees it.
use Rattle.std.proofs.Common.{Bool, List, arith, ap, false, length, map, subst, sym, ℕ, [], ◌+◌, ◌++◌, ◌<◌, ◌≤◌, ◌∙◌, ◌≡◌, ◌⊎◌}
use Rattle.std.proofs.lemmas.List.{get_or-map}
use Rattle.std.specs.Prelude.{IsSome, Option, slice_index_or}
use Rattle.rtrb.specs.Ring.{known_items, received, sent}
use Rattle.round_pipeline.specs.declared.capture.ReadEnd.{ReadEnd}
use Rattle.round_pipeline.specs.declared.finished.Finished.{Finished}
use Rattle.round_pipeline.specs.declared.finished.Seat.{Seat}
use Rattle.round_pipeline.specs.declared.rings.Returned.{Returned}
use Rattle.round_pipeline.specs.declared.writer.WriteEnd.{WriteEnd}
use Rattle.round_pipeline.specs.Lists.{buffers, fresh, in_order, put_well, share}
use Rattle.round_pipeline.specs.Pipelines.{IsRunning, buffers_left, judges_of}
use Rattle.round_pipeline.specs.Rounds.{AreJudged, HasRun}
use Rattle.round_pipeline.proofs.Joins.{length_in_order}
use Rattle.round_pipeline.proofs.Left.{buffers_append, buffers_fresh}
use Rattle.round_pipeline.proofs.Totals.{total_le, total_rounds, total_well, well_append, well_fresh, well_in_order}

-- what a worker's buffers went through, by lists
belt_of : {T : Type 0} (rooms before : List T) (left backs first : List (Returned T)) → fresh rooms ++ left ≡ first ++ backs → first ≡ fresh before →
    (rooms ++ buffers left ≡ before ++ buffers backs) × (length rooms ≤ length before + put_well backs)
belt_of {T} rooms before left backs first goes is =
    let e : fresh rooms ++ left ≡ fresh before ++ backs = goes ∙ ap (λ (l : List (Returned T)). l ++ backs) is in (
      ap (λ (l : List T). l ++ buffers left) (sym (buffers_fresh rooms)) ∙ sym (buffers_append (fresh rooms) left) ∙ ap (λ (l : List (Returned T)). buffers l) e
          ∙ buffers_append (fresh before) backs ∙ ap (λ (l : List T). l ++ buffers backs) (buffers_fresh before),
      omega (arith, ap (λ (l : List (Returned T)). put_well l) e, well_append (fresh rooms) left, well_append (fresh before) backs, well_fresh rooms, well_fresh before),
    )

module _ {S J W T E : Type 0} (fills : S → T → S → T → Bool → Type 0) (judges : J → T → J → T → Type 0) (puts : W → T → W → T → Option E → Type 0)
    (n : ℕ) {source : S} (seats : List (Seat T J)) {sink : W} (first : List (WriteEnd T)) (f : Finished T S J W E) where
  pub has_run : (r0 : ReadEnd T) (j0 : Seat T J) (w0 : WriteEnd T) → length seats ≡ n → length first ≡ n → IsRunning fills judges puts n source seats sink first f →
      ((i : ℕ) (d : WriteEnd T) → i < n → sent (slice_index_or first i d).back ≡ fresh (buffers (sent (slice_index_or first i d).back))) →
      ((i : ℕ) (r : ReadEnd T) (w : WriteEnd T) → i < n →
      received (slice_index_or f.reads.items i r).back ++ known_items (slice_index_or f.reads.items i r).back ≡ sent (slice_index_or f.writes.items i w).back) →
      (f.more ≡ false) ⊎ IsSome f.answer →
      HasRun fills judges puts n source (judges_of seats) sink (map (λ w. buffers (sent w.back)) first) f.source (judges_of f.seats.items) f.sink (buffers_left f) f.answer
  has_run r0 j0 w0 many_seats many_first was quiet left ended =
      let order = was.order in
      let there = λ (r : ReadEnd T). buffers (known_items r.back) in
      let laid = λ (w : WriteEnd T). buffers (sent w.back) in
      let belts = λ (i : ℕ) (l : i < n).
      belt_of (in_order (share order i was.rooms)) (laid (slice_index_or first i w0)) (known_items (slice_index_or f.reads.items i r0).back) (in_order (share order i was.backs))
      (sent (slice_index_or first i w0).back)
      (ap (λ (x : List (Returned T)). x ++ known_items (slice_index_or f.reads.items i r0).back) (sym (was.took i r0 l)) ∙ left i r0 w0 l ∙ was.gave i w0 l) (quiet i w0 l) in
      let before = λ (i : ℕ) (l : i < n). get_or-map (λ (w : WriteEnd T). buffers (sent w.back)) first i w0 [] (omega (arith, l, many_first)) in
      record {
        order = order;
        rooms = was.rooms;
        rounds = was.rounds;
        products = was.products;
        backs = was.backs;
        more = f.more;
        below = was.below;
        many = was.many;
        filled = was.filled;
        judged = λ i d l.
            let P1 : J → Type 0 = λ x. AreJudged judges x (share order i was.rounds) (share order i was.products) (slice_index_or (judges_of f.seats.items) i d) in
            let P2 : J → Type 0 = λ x. AreJudged judges (slice_index_or seats i j0).judge (share order i was.rounds) (share order i was.products) x in
            subst P1 (sym (get_or-map (λ (s : Seat T J). s.judge) seats i j0 d (omega (arith, l, many_seats))))
            (subst P2 (sym (get_or-map (λ (s : Seat T J). s.judge) f.seats.items i j0 d (omega (arith, l, was.sizes.1)))) (was.judged i j0 l));
        put = was.put;
        belt = λ i l.
            ap (λ (x : List T). in_order (share order i was.rooms) ++ x) (get_or-map (λ (r : ReadEnd T). buffers (known_items r.back)) f.reads.items i r0 [] (omega (arith, l, was.sizes.0)))
            ∙ (belts i l).0 ∙ ap (λ (x : List T). x ++ buffers (in_order (share order i was.backs))) (sym (before i l));
        in_vain =
            let all = total_le n (λ i. length (share order i was.rooms)) (λ i. length (slice_index_or (map (λ (w : WriteEnd T). buffers (sent w.back)) first) i []))
            (λ i. put_well (share order i was.backs))
            (λ i l. omega (arith, (belts i l).1, ap (λ (x : List T). length x) (before i l), length_in_order (share order i was.rooms), well_in_order (share order i was.backs))) in
            omega (arith, all, total_rounds n order was.rooms was.below was.many_rooms, total_well n order was.backs was.below was.many_backs);
        ended = ended;
      }
