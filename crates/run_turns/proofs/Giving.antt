-- Seats that come back.
use Rattle.run_turns.proofs.Words.{◌≡◌, ◌≢◌, ℕ, ◌+◌, ◌≤◌, List, [], ◌∷◌, ◌++◌, All, length, refl, ◌∙◌, ap, arith, subst, sum_by}
use Rattle.run_turns.proofs.Words.{AreasValue, HasJoined, IsFree, IsNewLine, TurnSeat, reads_of, share_of, sum_by-append, sum_by-cons, zero, suc}
use Rattle.std.specs.Prelude.{slice_index_or}
use Rattle.area_swap.specs.Values.{IsIdle, IsOf, SeatValue}
use Rattle.area_swap.specs.declared.board.View.{View}
use Rattle.area_swap.specs.Views.{together}
use Rattle.round_pipeline.specs.Lists.{total}
use Rattle.run_turns.specs.Turns.{IsHere, reads_in, shares_in}
use Rattle.run_turns.specs.declared.turn.TurnSeat.TheVariants as seat
use Rattle.worker_gate.specs.Holders.{FreeValue}
use Rattle.run_turns.proofs.Elements.{all_before}

total_next : (f : ℕ → ℕ) (n : ℕ) → total f n + f n ≡ total f (n + 1)
total_next f n = subst (λ (k : ℕ). total f n + f n ≡ total f k) next refl where
  next : suc n ≡ n + 1
  next = omega arith

-- a buffer that is free is of its areas
pub free_here : (areas : AreasValue) (s : TurnSeat) → IsFree areas s → IsHere areas s
free_here areas (seat.Free free) is = is
free_here areas (seat.Held held) is = absurd is
free_here areas seat.Away is = tt

pub joined_none : {areas : AreasValue} {s : SeatValue} → IsOf areas s → IsIdle s.known → HasJoined areas 0 0 s s
joined_none of idle = record { its_areas = of; idle = idle; draws = refl; right = refl; share_is = omega arith; reads_are = omega arith }

-- so much was joined, whichever way it is counted
pub joined_as : {areas : AreasValue} {share reads k r : ℕ} {before now : SeatValue} → HasJoined areas k r before now → k ≡ share → reads ≤ r →
    HasJoined areas share reads before now
joined_as j same fewer = record {
  its_areas = j.its_areas;
  idle = j.idle;
  draws = j.draws;
  right = j.right;
  share_is = omega (arith, j.share_is, same);
  reads_are = omega (arith, j.reads_are, fewer);
}

-- one more was joined
pub joined_more : {areas : AreasValue} {k r : ℕ} {before middle now : SeatValue} (more : View) → HasJoined areas k r before middle → IsOf areas now → IsIdle now.known →
    now.known ≡ together middle.known more → now.known.actor.draws ≡ middle.known.actor.draws → now.known.right ≡ middle.known.right →
    HasJoined areas (k + more.share) (r + more.reads) before now
joined_more {areas} {k} {r} {before} {middle} {now} more j of idle is draws right = record {
  its_areas = of;
  idle = idle;
  draws = draws ∙ j.draws;
  right = right ∙ j.right;
  share_is = omega (arith, ap (λ (v : View). v.share) is, j.share_is);
  reads_are = omega (arith, ap (λ (v : View). v.reads) is, j.reads_are);
}

pub joined_both : {areas : AreasValue} {k r l q : ℕ} {before middle now : SeatValue} → HasJoined areas k r before middle → HasJoined areas l q middle now →
    HasJoined areas (k + l) (r + q) before now
joined_both a b = record {
  its_areas = b.its_areas;
  idle = b.idle;
  draws = b.draws ∙ a.draws;
  right = b.right ∙ a.right;
  share_is = omega (arith, a.share_is, b.share_is);
  reads_are = omega (arith, a.reads_are, b.reads_are);
}

module _ {T : Type 0} (areas : AreasValue) (seat_in : T → TurnSeat) where
  abbrev shares : T → ℕ
  shares t = share_of (seat_in t)

  abbrev reads : T → ℕ
  reads t = reads_of (seat_in t)

  -- the buffers of `all` but those of `left` are given back
  pub record LineGiven (all left : List T) (before now : SeatValue) : Type 0 where
    pub share : ℕ
    pub count : ℕ
    pub joined : HasJoined areas share count before now
    pub shares_are : share + sum_by shares left ≡ sum_by shares all
    pub reads_are : sum_by reads all ≤ count + sum_by reads left

  pub line_none : (all : List T) {before : SeatValue} → IsOf areas before → IsIdle before.known → LineGiven all all before before
  line_none all of idle = record { share = 0; count = 0; joined = joined_none of idle; shares_are = omega arith; reads_are = omega arith }

  pub line_all : {all left : List T} {before now : SeatValue} → LineGiven all left before now → left ≡ [] → HasJoined areas (sum_by shares all) (sum_by reads all) before now
  line_all {all} {left} given none =
      joined_as given.joined (omega (arith, given.shares_are, ap (λ (l : List T). sum_by shares l) none))
      (omega (arith, given.reads_are, ap (λ (l : List T). sum_by reads l) none))

  -- a buffer without a seat
  pub line_away : {all left rest : List T} {before now : SeatValue} {t : T} → LineGiven all left before now → left ≡ t ∷ rest → shares t ≡ 0 → reads t ≡ 0 →
      LineGiven all rest before now
  line_away {all} {left} {rest} {before} {now} {t} given is none nor = record {
    share = given.share;
    count = given.count;
    joined = given.joined;
    shares_are = omega (arith, given.shares_are, ap (λ (l : List T). sum_by shares l) is, sum_by-cons shares t rest, none);
    reads_are = omega (arith, given.reads_are, ap (λ (l : List T). sum_by reads l) is, sum_by-cons reads t rest, nor);
  }

  pub line_more : {all left rest : List T} {before now next : SeatValue} {t : T} (more : View) → LineGiven all left before now → left ≡ t ∷ rest →
      more.share ≡ shares t → reads t ≤ more.reads → IsOf areas next → IsIdle next.known → next.known ≡ together now.known more →
      next.known.actor.draws ≡ now.known.actor.draws → next.known.right ≡ now.known.right → LineGiven all rest before next
  line_more {all} {left} {rest} {before} {now} {next} {t} more given is share_is reads_is of idle both draws right = record {
    share = given.share + more.share;
    count = given.count + more.reads;
    joined = joined_more more given.joined of idle both draws right;
    shares_are = omega (arith, given.shares_are, ap (λ (l : List T). sum_by shares l) is, sum_by-cons shares t rest, share_is);
    reads_are = omega (arith, given.reads_are, ap (λ (l : List T). sum_by reads l) is, sum_by-cons reads t rest, reads_is);
  }

  -- the buffers of the first few workers are given back, and those of the others are as they were
  pub record LinesGiven (done : ℕ) (first left : ℕ → List T) (before now : SeatValue) : Type 0 where
    pub joined : HasJoined areas (total (λ i. sum_by shares (first i)) done) (total (λ i. sum_by reads (first i)) done) before now
    pub others : (i : ℕ) → done ≤ i → left i ≡ first i

  pub lines_none : (first : ℕ → List T) {before : SeatValue} → IsOf areas before → IsIdle before.known → LinesGiven 0 first first before before
  lines_none first of idle = record { joined = joined_none of idle; others = λ i less. refl }

  pub lines_more : {done : ℕ} {first left rest : ℕ → List T} {before now next : SeatValue} → LinesGiven done first left before now →
      HasJoined areas (sum_by shares (left done)) (sum_by reads (left done)) now next → ((i : ℕ) → i ≢ done → rest i ≡ left i) →
      LinesGiven (done + 1) first rest before next
  lines_more {done} {first} {left} {rest} {before} {now} {next} given joined others = record {
    joined = joined_as (joined_both given.joined
        (subst (λ (l : List T). HasJoined areas (sum_by shares l) (sum_by reads l) now next) (given.others done (omega arith)) joined)) (total_next (λ i. sum_by shares (first i)) done)
        (omega (arith, total_next (λ i. sum_by reads (first i)) done));
    others = λ i less. others i (λ is. absurd (omega (arith, less, is))) ∙ given.others i (omega (arith, less));
  }

-- the seats of `all` but those of `left` are given back
pub record SpareGiven (areas : AreasValue) (all left : List FreeValue) (before now : SeatValue) : Type 0 where
  pub share : ℕ
  pub count : ℕ
  pub joined : HasJoined areas share count before now
  pub shares_are : share + shares_in left ≡ shares_in all
  pub reads_are : reads_in all ≤ count + reads_in left
  pub its_areas : All (λ (f : FreeValue). f.areas ≡ areas) left

module _ {areas : AreasValue} where
  pub spare_none : (all : List FreeValue) {before : SeatValue} → All (λ (f : FreeValue). f.areas ≡ areas) all → IsOf areas before → IsIdle before.known →
      SpareGiven areas all all before before
  spare_none all its of idle =
      record { share = 0; count = 0; joined = joined_none of idle; shares_are = omega arith; reads_are = omega arith; its_areas = its }

  pub spare_all : {all left : List FreeValue} {before now : SeatValue} → SpareGiven areas all left before now → left ≡ [] →
      HasJoined areas (shares_in all) (reads_in all) before now
  spare_all {all} {left} given none =
      joined_as given.joined (omega (arith, given.shares_are, ap (λ (l : List FreeValue). shares_in l) none))
      (omega (arith, given.reads_are, ap (λ (l : List FreeValue). reads_in l) none))

  pub spare_more : {all left rest : List FreeValue} {before now next : SeatValue} (free : FreeValue) → SpareGiven areas all left before now →
      left ≡ rest ++ free ∷ [] → IsOf areas next → IsIdle next.known → next.known ≡ together now.known free.known →
      next.known.actor.draws ≡ now.known.actor.draws → next.known.right ≡ now.known.right → SpareGiven areas all rest before next
  spare_more {all} {left} {rest} {before} {now} {next} free given is of idle both draws right = record {
    share = given.share + free.known.share;
    count = given.count + free.known.reads;
    joined = joined_more free.known given.joined of idle both draws right;
    shares_are = omega (
      arith,
      given.shares_are,
      ap (λ (l : List FreeValue). shares_in l) is,
      sum_by-append (λ (f : FreeValue). f.known.share) rest (free ∷ []),
      sum_by-cons (λ (f : FreeValue). f.known.share) free [],
    );
    reads_are = omega (
      arith,
      given.reads_are,
      ap (λ (l : List FreeValue). reads_in l) is,
      sum_by-append (λ (f : FreeValue). f.known.reads) rest (free ∷ []),
      sum_by-cons (λ (f : FreeValue). f.known.reads) free [],
    );
    its_areas = all_before (λ (f : FreeValue). f.areas ≡ areas) rest (free ∷ [])
        (subst (λ (l : List FreeValue). All (λ (f : FreeValue). f.areas ≡ areas) l) is given.its_areas);
  }

-- nothing was lent to these buffers
module _ {T : Type 0} (f : T → ℕ) (IsNew : T → Type 0) (none : (t : T) → IsNew t → f t ≡ 0) where
  sum_none : (xs : List T) → All IsNew xs → sum_by f xs ≡ 0
  sum_none [] all = refl
  sum_none (x ∷ xs) all =
      omega (arith, sum_by-cons f x xs, none x (all zero x (omega arith)), sum_none xs (λ k d inside. all (suc k) d (omega (arith, inside))))

  pub total_none : (lines : List (List T)) (n : ℕ) → n ≤ length lines → All (IsNewLine IsNew) lines → total (λ i. sum_by f (slice_index_or lines i [])) n ≡ 0
  total_none lines zero many all = refl
  total_none lines (suc n) many all =
      omega (arith, total_none lines n (omega (arith, many)) all, sum_none (slice_index_or lines n []) (all n [] (omega (arith, many))).each)
