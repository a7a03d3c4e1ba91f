-- What a turn at the source makes of the rounds that were read.
use Rattle.std.proofs.Common.{Bool, List, arith, ap, false, length, length-set, refl, suc, sym, true, ℕ, [], ◌++◌, ◌<◌, ◌∙◌, ◌∷◌, ◌≡◌, append-nil}
use Rattle.std.specs.Prelude.{None, Option, Some, slice_index_or, slice_set}
use Rattle.rtrb.specs.Ring.{received, sent}
use Rattle.round_pipeline.specs.declared.capture.ReadEnd.{ReadEnd}
use Rattle.round_pipeline.specs.declared.rings.Returned.{Returned}
use Rattle.round_pipeline.specs.Ends.{HasFilled, IsUnread, SameReadEnd, WasEnded}
use Rattle.round_pipeline.specs.Lists.{fresh, in_order, share, told}
use Rattle.round_pipeline.specs.Threads.{IsTurning}
use Rattle.round_pipeline.proofs.Places.{at_set}
use Rattle.round_pipeline.proofs.Shares.{share_here, share_there}

pub fresh_snoc : {T : Type 0} (xs : List T) (x : T) → fresh (xs ++ x ∷ []) ≡ fresh xs ++ record { buffer = x; over = false } ∷ []
fresh_snoc [] x = refl
fresh_snoc (y ∷ xs) x = let e = fresh_snoc xs x in λ i. record { buffer = y; over = false } ∷ e i

-- the same ends
pub same_self : {T : Type 0} (e : ReadEnd T) → SameReadEnd e e
same_self e = record { work = ((refl, refl, refl, refl), refl); back = ((refl, refl, refl, refl), refl) }

pub same_on : {T : Type 0} {a b c : ReadEnd T} → SameReadEnd a b → SameReadEnd b c → SameReadEnd a c
same_on s t = record {
  work = (
    (t.work.0.0 ∙ s.work.0.0, t.work.0.1 ∙ s.work.0.1, t.work.0.2 ∙ s.work.0.2, t.work.0.3 ∙ s.work.0.3),
    t.work.1 ∙ s.work.1,
  );
  back = (
    (t.back.0.0 ∙ s.back.0.0, t.back.0.1 ∙ s.back.0.1, t.back.0.2 ∙ s.back.0.2, t.back.0.3 ∙ s.back.0.3),
    t.back.1 ∙ s.back.1,
  );
}

module _ {S T : Type 0} (fills : S → T → S → T → Bool → Type 0) (n : ℕ) {start u now : S} (lines : List (ReadEnd T)) (at : ℕ) (d line : ReadEnd T) where
  pub turn_more : {more : Bool} {turns next : List (Option ℕ)} → at < n → IsTurning fills n start u lines turns true false →
      HasFilled fills u now (slice_index_or lines at d) line more → next ≡ turns ++ Some at ∷ [] →
      IsTurning fills n start now (slice_set lines at line) next more false
  turn_more inside was got goes =
      let round = got.round in
      let room = got.room in
      let order = was.order in
      record {
        order = at ∷ order;
        rooms = room ∷ was.rooms;
        rounds = round ∷ was.rounds;
        size = length-set lines at line ∙ was.size;
        below = (inside, was.below);
        many = ap (λ k. suc k) was.many;
        many_rounds = ap (λ k. suc k) was.many_rounds;
        turns_are = goes ∙ ap (λ (l : List (Option ℕ)). l ++ Some at ∷ []) (was.turns_are ∙ append-nil (told order)) ∙ sym (append-nil (told (at ∷ order)));
        gave = at_set (λ i e. sent e.work ≡ told (share (at ∷ order) i (round ∷ was.rounds)) ++ []) lines at n line was.size inside
            (λ i e fits other. was.gave i e fits ∙ ap (λ (l : List T). told l ++ []) (sym (share_there order at i round was.rounds (λ same. other (sym same)))))
            (got.gave ∙ ap (λ (l : List (Option T)). l ++ Some round ∷ []) (was.gave at d inside ∙ append-nil (told (share order at was.rounds)))
            ∙ ap (λ (l : List T). told l) (sym (share_here order at at round was.rounds refl))
            ∙ sym (append-nil (told (share (at ∷ order) at (round ∷ was.rounds)))));
        took = at_set (λ i e. received e.back ≡ fresh (in_order (share (at ∷ order) i (room ∷ was.rooms)))) lines at n line was.size inside
            (λ i e fits other. was.took i e fits ∙ ap (λ (l : List T). fresh (in_order l)) (sym (share_there order at i room was.rooms (λ same. other (sym same)))))
            (got.took ∙ ap (λ (l : List (Returned T)). l ++ record { buffer = room; over = false } ∷ []) (was.took at d inside)
            ∙ sym (fresh_snoc (in_order (share order at was.rooms)) room)
            ∙ ap (λ (l : List T). fresh (in_order l)) (sym (share_here order at at room was.rooms refl)));
        filled = (u, was.filled, got.filled);
      }

  -- nothing was read of this line
  pub turn_none : {turns : List (Option ℕ)} → at < n → IsTurning fills n start u lines turns true false → IsUnread (slice_index_or lines at d) line → now ≡ u →
      IsTurning fills n start now (slice_set lines at line) turns true false
  turn_none inside was none same = record {
    order = was.order;
    rooms = was.rooms;
    rounds = was.rounds;
    size = length-set lines at line ∙ was.size;
    below = was.below;
    many = was.many;
    many_rounds = was.many_rounds;
    turns_are = was.turns_are;
    gave = at_set (λ i e. sent e.work ≡ told (share was.order i was.rounds) ++ []) lines at n line was.size inside (λ i e fits other. was.gave i e fits)
        (none.work ∙ was.gave at d inside);
    took = at_set (λ i e. received e.back ≡ fresh (in_order (share was.order i was.rooms))) lines at n line was.size inside (λ i e fits other. was.took i e fits)
        (none.back ∙ was.took at d inside);
    filled = rw same was.filled;
  }

-- all were told that no more is read
pub turn_all : {S T : Type 0} (fills : S → T → S → T → Bool → Type 0) (n : ℕ) {start now : S} {lines after : List (ReadEnd T)} {turns last : List (Option ℕ)} {more : Bool} →
    IsTurning fills n start now lines turns more false → length after ≡ length lines →
    ((i : ℕ) (d : ReadEnd T) → i < length lines → WasEnded (slice_index_or lines i d) (slice_index_or after i d)) → last ≡ turns ++ None ∷ [] →
    IsTurning fills n start now after last more true
turn_all {T = T} fills n {after = after} was size all goes =
    let ended = λ (i : ℕ) (d : ReadEnd _) (fits : i < n). all i d (omega (arith, was.size, fits)) in
    record {
      order = was.order;
      rooms = was.rooms;
      rounds = was.rounds;
      size = size ∙ was.size;
      below = was.below;
      many = was.many;
      many_rounds = was.many_rounds;
      turns_are = goes ∙ ap (λ (l : List (Option ℕ)). l ++ None ∷ []) (was.turns_are ∙ append-nil (told was.order));
      gave = λ i d fits. (ended i d fits).work ∙ ap (λ (l : List (Option T)). l ++ None ∷ []) (was.gave i d fits ∙ append-nil (told (share was.order i was.rounds)));
      took = λ i d fits. ap (λ (c : _). received c) (ended i d fits).back ∙ was.took i d fits;
      filled = was.filled;
    }
