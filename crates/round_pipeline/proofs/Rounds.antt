-- A round that one thread reads, judges and puts.
use Rattle.std.proofs.Common.{Bool, List, arith, ap, append_assoc, length, length-set, refl, subst, suc, sym, true, false, ℕ, [], ◌++◌, ◌<◌, ◌∙◌, ◌∷◌, ◌≡◌, ◌≢◌, inl, inr}
use Rattle.std.proofs.lemmas.Bool.{cases_eq}
use Rattle.std.proofs.lemmas.Grind.{get_or-set_at}
use Rattle.std.proofs.lemmas.List.{get_or-set_other}
use Rattle.std.specs.Prelude.{None, Option, is_some, slice_index_or, slice_set}
use Rattle.rtrb.specs.Ends.{SameRing}
use Rattle.rtrb.specs.Ring.{IsPair, known_items, received, sent}
use Rattle.rtrb.specs.declared.end.End.{End}
use Rattle.round_pipeline.specs.declared.capture.ReadEnd.{ReadEnd}
use Rattle.round_pipeline.specs.declared.finished.Finished.{Finished}
use Rattle.round_pipeline.specs.declared.finished.Seat.{Seat}
use Rattle.round_pipeline.specs.declared.rings.Returned.{Returned}
use Rattle.round_pipeline.specs.declared.writer.WriteEnd.{WriteEnd}
use Rattle.round_pipeline.specs.Ends.{SameReadEnd, SameWriteEnd}
use Rattle.round_pipeline.specs.Lists.{fresh, in_order, share}
use Rattle.round_pipeline.specs.Pipelines.{IsRunning}
use Rattle.round_pipeline.specs.Rounds.{AreFilled, AreJudged, ArePut}
use Rattle.round_pipeline.proofs.Places.{at_set, at_set_with}
use Rattle.round_pipeline.proofs.Shares.{share_here, share_there}
use Rattle.round_pipeline.proofs.Turns.{fresh_snoc}

-- two ends of one ring, after each moved
pub pair_on : {T A P : Type 0} (a b a' b' : End T A P) → SameRing a b → SameRing a a' → SameRing b b' → SameRing a' b'
pair_on a b a' b' p s t = (
  t.0 ∙ p.0 ∙ sym s.0,
  t.1 ∙ p.1 ∙ sym s.1,
  t.2 ∙ p.2 ∙ sym s.2,
  t.3 ∙ p.3 ∙ sym s.3,
)

-- the ends of the first line have moved: each line's ends are still of one ring, and the other lines have what they had
module _ {T : Type 0} where
  pairs_set : (n : ℕ) (reads : List (ReadEnd T)) (writes : List (WriteEnd T)) (read read' : ReadEnd T) (write write' : WriteEnd T) → 0 < n → length reads ≡ n →
      length writes ≡ n → ((d : ReadEnd T) → slice_index_or reads 0 d ≡ read) → ((d : WriteEnd T) → slice_index_or writes 0 d ≡ write) →
      ((i : ℕ) (r : ReadEnd T) (w : WriteEnd T) → i < n → IsPair (slice_index_or writes i w).back (slice_index_or reads i r).back) →
      SameReadEnd read read' → SameWriteEnd write write' → (i : ℕ) (r : ReadEnd T) (w : WriteEnd T) → i < n →
      IsPair (slice_index_or (slice_set writes 0 write') i w).back (slice_index_or (slice_set reads 0 read') i r).back
  pairs_set n reads writes read read' write write' some many many_writes is_read is_write pairs same_read same_write i r w fits =
      let Q1 : WriteEnd T → Type 0 = λ x. IsPair x.back (slice_index_or (slice_set reads 0 read') i r).back in
      elim (cases_eq i 0) [
        | inl zeroth ↦
            let w1 : slice_index_or (slice_set writes 0 write') i w ≡ write' = get_or-set_at writes 0 i write' w zeroth (omega (arith, some, many_writes)) in
            let r1 : slice_index_or (slice_set reads 0 read') i r ≡ read' = get_or-set_at reads 0 i read' r zeroth (omega (arith, some, many)) in
            let Q2 : ReadEnd T → Type 0 = λ x. IsPair write'.back x.back in
            let Q3 : WriteEnd T → Type 0 = λ x. IsPair x.back (slice_index_or reads 0 r).back in
            let Q4 : ReadEnd T → Type 0 = λ x. IsPair write.back x.back in
            let before : IsPair write.back read.back = subst Q4 (is_read r) (subst Q3 (is_write w) (pairs 0 r w some)) in
            subst Q1 (sym w1) (subst Q2 (sym r1) (pair_on write.back.end read.back.end write'.back.end read'.back.end before same_write.back.0 same_read.back.0))
        | inr other ↦
            let Q2 : ReadEnd T → Type 0 = λ x. IsPair (slice_index_or writes i w).back x.back in
            subst Q1 (sym (get_or-set_other writes 0 i write' w other)) (subst Q2 (sym (get_or-set_other reads 0 i read' r other)) (pairs i r w fits))
      ]

  left_set : (reads : List (ReadEnd T)) (writes : List (WriteEnd T)) (read' : ReadEnd T) (write' : WriteEnd T) (i : ℕ) (r : ReadEnd T) (w : WriteEnd T) → i ≢ 0 →
      received (slice_index_or reads i r).back ++ known_items (slice_index_or reads i r).back ≡ sent (slice_index_or writes i w).back →
      received (slice_index_or (slice_set reads 0 read') i r).back ++ known_items (slice_index_or (slice_set reads 0 read') i r).back
      ≡ sent (slice_index_or (slice_set writes 0 write') i w).back
  left_set reads writes read' write' i r w other left =
      let Q1 : WriteEnd T → Type 0 = λ x.
      received (slice_index_or (slice_set reads 0 read') i r).back ++ known_items (slice_index_or (slice_set reads 0 read') i r).back ≡ sent x.back in
      let Q2 : ReadEnd T → Type 0 = λ x. received x.back ++ known_items x.back ≡ sent (slice_index_or writes i w).back in
      subst Q1 (sym (get_or-set_other writes 0 i write' w other)) (subst Q2 (sym (get_or-set_other reads 0 i read' r other)) left)

module _ {S J W T E : Type 0} (fills : S → T → S → T → Bool → Type 0) (judges : J → T → J → T → Type 0) (puts : W → T → W → T → Option E → Type 0)
    (n : ℕ) {source : S} {seats : List (Seat T J)} {sink : W} {first : List (WriteEnd T)} (f now : Finished T S J W E) where
  pub run_more : (read read' : ReadEnd T) (seat seat' : Seat T J) (write write' : WriteEnd T) (room round product back : T) → 0 < n →
      IsRunning fills judges puts n source seats sink first f → f.more ≡ true → f.answer ≡ None →
      ((d : ReadEnd T) → slice_index_or f.reads.items 0 d ≡ read) → ((d : Seat T J) → slice_index_or f.seats.items 0 d ≡ seat) →
      ((d : WriteEnd T) → slice_index_or f.writes.items 0 d ≡ write) →
      now.reads.items ≡ slice_set f.reads.items 0 read' → now.seats.items ≡ slice_set f.seats.items 0 seat' → now.writes.items ≡ slice_set f.writes.items 0 write' →
      SameReadEnd read read' → SameWriteEnd write write' →
      received read'.back ≡ received read.back ++ record { buffer = room; over = false } ∷ [] →
      fills f.source room now.source round now.more → judges seat.judge round seat'.judge product → puts f.sink product now.sink back now.answer →
      sent write'.back ≡ sent write.back ++ record { buffer = back; over = is_some now.answer } ∷ [] →
      IsRunning fills judges puts n source seats sink first now
  run_more read read' seat seat' write write' room round product back some was on none is_read is_seat is_write reads seats_now writes same_read same_write took filled judged put gave =
      let order = was.order in
      let given : Returned T = record { buffer = back; over = is_some now.answer } in
      let RP : List (ReadEnd T) → Type 0 = λ l. (i : ℕ) (d : ReadEnd T) → i < n → received (slice_index_or l i d).back ≡ fresh (in_order (share (0 ∷ order) i (room ∷ was.rooms))) in
      let WP : List (WriteEnd T) → Type 0 = λ l. (i : ℕ) (d : WriteEnd T) → i < n →
      sent (slice_index_or l i d).back ≡ sent (slice_index_or first i d).back ++ in_order (share (0 ∷ order) i (given ∷ was.backs)) in
      let JP : List (Seat T J) → Type 0 = λ l. (i : ℕ) (d : Seat T J) → i < n →
      AreJudged judges (slice_index_or seats i d).judge (share (0 ∷ order) i (round ∷ was.rounds)) (share (0 ∷ order) i (product ∷ was.products)) (slice_index_or l i d).judge in
      let F : Bool → Type 0 = λ b. AreFilled fills source was.rooms was.rounds f.source b in
      let A : Option E → Type 0 = λ a. ArePut puts sink was.products was.backs f.sink a in
      record {
        order = 0 ∷ order;
        rooms = room ∷ was.rooms;
        rounds = round ∷ was.rounds;
        products = product ∷ was.products;
        backs = given ∷ was.backs;
        sizes = (
          ap (λ (l : List (ReadEnd T)). length l) reads ∙ length-set f.reads.items 0 read' ∙ was.sizes.0,
          ap (λ (l : List (Seat T J)). length l) seats_now ∙ length-set f.seats.items 0 seat' ∙ was.sizes.1,
          ap (λ (l : List (WriteEnd T)). length l) writes ∙ length-set f.writes.items 0 write' ∙ was.sizes.2,
        );
        below = (some, was.below);
        many = (ap (λ k. suc k) was.many.0, ap (λ k. suc k) was.many.1);
        many_rooms = ap (λ k. suc k) was.many_rooms;
        many_backs = ap (λ k. suc k) was.many_backs;
        filled = (f.source, subst F on was.filled, filled);
        judged = subst JP (sym seats_now) (λ i d. at_set_with d
            (λ j x. AreJudged judges (slice_index_or seats j d).judge (share (0 ∷ order) j (round ∷ was.rounds)) (share (0 ∷ order) j (product ∷ was.products)) x.judge)
            f.seats.items 0 n seat' was.sizes.1 some
            (λ j fits other.
            let Q1 : List T → Type 0 = λ l. AreJudged judges (slice_index_or seats j d).judge l (share order j was.products) (slice_index_or f.seats.items j d).judge in
            let Q2 : List T → Type 0 = λ l. AreJudged judges (slice_index_or seats j d).judge (share (0 ∷ order) j (round ∷ was.rounds)) l (slice_index_or f.seats.items j d).judge in
            subst Q2 (sym (share_there order 0 j product was.products (λ same. other (sym same))))
            (subst Q1 (sym (share_there order 0 j round was.rounds (λ same. other (sym same)))) (was.judged j d fits)))
            (let Q1 : List T → Type 0 = λ l. AreJudged judges (slice_index_or seats 0 d).judge l (product ∷ share order 0 was.products) seat'.judge in
            let Q2 : List T → Type 0 = λ l. AreJudged judges (slice_index_or seats 0 d).judge (share (0 ∷ order) 0 (round ∷ was.rounds)) l seat'.judge in
            let Q3 : Seat T J → Type 0 = λ x. judges x.judge round seat'.judge product in
            subst Q2 (sym (share_here order 0 0 product was.products refl)) (subst Q1 (sym (share_here order 0 0 round was.rounds refl))
            ((slice_index_or f.seats.items 0 d).judge, was.judged 0 d some, subst Q3 (sym (is_seat d)) judged))) i);
        put = (f.sink, None, subst A none was.put, put, refl);
        took = subst RP (sym reads) (at_set (λ i e. received e.back ≡ fresh (in_order (share (0 ∷ order) i (room ∷ was.rooms)))) f.reads.items 0 n read' was.sizes.0 some
            (λ i e fits other. was.took i e fits ∙ ap (λ (l : List T). fresh (in_order l)) (sym (share_there order 0 i room was.rooms (λ same. other (sym same)))))
            (took ∙ ap (λ (x : ReadEnd T). received x.back ++ record { buffer = room; over = false } ∷ []) (sym (is_read read))
            ∙ ap (λ (l : List (Returned T)). l ++ record { buffer = room; over = false } ∷ []) (was.took 0 read some)
            ∙ sym (fresh_snoc (in_order (share order 0 was.rooms)) room)
            ∙ ap (λ (l : List T). fresh (in_order l)) (sym (share_here order 0 0 room was.rooms refl))));
        gave = subst WP (sym writes) (λ i e. at_set_with e
            (λ j x. sent x.back ≡ sent (slice_index_or first j e).back ++ in_order (share (0 ∷ order) j (given ∷ was.backs))) f.writes.items 0 n write' was.sizes.2 some
            (λ j fits other. was.gave j e fits
            ∙ ap (λ (l : List (Returned T)). sent (slice_index_or first j e).back ++ in_order l) (sym (share_there order 0 j given was.backs (λ same. other (sym same)))))
            (gave
            ∙ ap (λ (x : WriteEnd T). sent x.back ++ given ∷ []) (sym (is_write e))
            ∙ ap (λ (l : List (Returned T)). l ++ given ∷ []) (was.gave 0 e some)
            ∙ append_assoc (sent (slice_index_or first 0 e).back) (in_order (share order 0 was.backs)) (given ∷ [])
            ∙ ap (λ (l : List (Returned T)). sent (slice_index_or first 0 e).back ++ in_order l) (sym (share_here order 0 0 given was.backs refl))) i);
        pairs = λ i r w fits.
            let P1 : List (WriteEnd T) → Type 0 = λ l. IsPair (slice_index_or l i w).back (slice_index_or now.reads.items i r).back in
            let P2 : List (ReadEnd T) → Type 0 = λ l. IsPair (slice_index_or (slice_set f.writes.items 0 write') i w).back (slice_index_or l i r).back in
            subst P1 (sym writes) (subst P2 (sym reads) (pairs_set n f.reads.items f.writes.items read read' write write' some was.sizes.0 was.sizes.2 is_read is_write was.pairs
            same_read same_write i r w fits));
        left = λ i r w fits other.
            let P1 : List (WriteEnd T) → Type 0 = λ l.
            received (slice_index_or now.reads.items i r).back ++ known_items (slice_index_or now.reads.items i r).back ≡ sent (slice_index_or l i w).back in
            let P2 : List (ReadEnd T) → Type 0 = λ l.
            received (slice_index_or l i r).back ++ known_items (slice_index_or l i r).back ≡ sent (slice_index_or (slice_set f.writes.items 0 write') i w).back in
            subst P1 (sym writes) (subst P2 (sym reads) (left_set f.reads.items f.writes.items read' write' i r w other (was.left i r w fits other)));
      }

-- the first line was looked at
module _ {S J W T E : Type 0} (fills : S → T → S → T → Bool → Type 0) (judges : J → T → J → T → Type 0) (puts : W → T → W → T → Option E → Type 0)
    (n : ℕ) {source : S} {seats : List (Seat T J)} {sink : W} {first : List (WriteEnd T)} (f now : Finished T S J W E) where
  pub run_settled : (read read' : ReadEnd T) (write write' : WriteEnd T) → 0 < n → IsRunning fills judges puts n source seats sink first f →
      ((d : ReadEnd T) → slice_index_or f.reads.items 0 d ≡ read) → ((d : WriteEnd T) → slice_index_or f.writes.items 0 d ≡ write) →
      now.reads.items ≡ slice_set f.reads.items 0 read' → now.writes.items ≡ slice_set f.writes.items 0 write' → now.seats ≡ f.seats →
      now.source ≡ f.source → now.sink ≡ f.sink → now.answer ≡ f.answer → now.more ≡ f.more →
      SameReadEnd read read' → SameWriteEnd write write' → received read'.back ≡ received read.back → sent write'.back ≡ sent write.back →
      IsRunning fills judges puts n source seats sink first now
  run_settled read read' write write' some was is_read is_write reads writes seats_now source_now sink_now answer_now more_now same_read same_write took gave =
      let order = was.order in
      let RP : List (ReadEnd T) → Type 0 = λ l. (i : ℕ) (d : ReadEnd T) → i < n → received (slice_index_or l i d).back ≡ fresh (in_order (share order i was.rooms)) in
      let WP : List (WriteEnd T) → Type 0 = λ l. (i : ℕ) (d : WriteEnd T) → i < n →
      sent (slice_index_or l i d).back ≡ sent (slice_index_or first i d).back ++ in_order (share order i was.backs) in
      record {
        order = order;
        rooms = was.rooms;
        rounds = was.rounds;
        products = was.products;
        backs = was.backs;
        sizes = (
          ap (λ (l : List (ReadEnd T)). length l) reads ∙ length-set f.reads.items 0 read' ∙ was.sizes.0,
          ap (λ (l : _). length l.items) seats_now ∙ was.sizes.1,
          ap (λ (l : List (WriteEnd T)). length l) writes ∙ length-set f.writes.items 0 write' ∙ was.sizes.2,
        );
        below = was.below;
        many = was.many;
        many_rooms = was.many_rooms;
        many_backs = was.many_backs;
        filled = rw (source_now, more_now) was.filled;
        judged = rw seats_now was.judged;
        put = rw (sink_now, answer_now) was.put;
        took = subst RP (sym reads) (at_set (λ i e. received e.back ≡ fresh (in_order (share order i was.rooms))) f.reads.items 0 n read' was.sizes.0 some
            (λ i e fits other. was.took i e fits) (took ∙ ap (λ (x : ReadEnd T). received x.back) (sym (is_read read)) ∙ was.took 0 read some));
        gave = subst WP (sym writes) (λ i e. at_set_with e
            (λ j x. sent x.back ≡ sent (slice_index_or first j e).back ++ in_order (share order j was.backs)) f.writes.items 0 n write' was.sizes.2 some
            (λ j fits other. was.gave j e fits) (gave ∙ ap (λ (x : WriteEnd T). sent x.back) (sym (is_write e)) ∙ was.gave 0 e some) i);
        pairs = λ i r w fits.
            let P1 : List (WriteEnd T) → Type 0 = λ l. IsPair (slice_index_or l i w).back (slice_index_or now.reads.items i r).back in
            let P2 : List (ReadEnd T) → Type 0 = λ l. IsPair (slice_index_or (slice_set f.writes.items 0 write') i w).back (slice_index_or l i r).back in
            subst P1 (sym writes) (subst P2 (sym reads) (pairs_set n f.reads.items f.writes.items read read' write write' some was.sizes.0 was.sizes.2 is_read is_write was.pairs
            same_read same_write i r w fits));
        left = λ i r w fits other.
            let P1 : List (WriteEnd T) → Type 0 = λ l.
            received (slice_index_or now.reads.items i r).back ++ known_items (slice_index_or now.reads.items i r).back ≡ sent (slice_index_or l i w).back in
            let P2 : List (ReadEnd T) → Type 0 = λ l.
            received (slice_index_or l i r).back ++ known_items (slice_index_or l i r).back ≡ sent (slice_index_or (slice_set f.writes.items 0 write') i w).back in
            subst P1 (sym writes) (subst P2 (sym reads) (left_set f.reads.items f.writes.items read' write' i r w other (was.left i r w fits other)));
      }
