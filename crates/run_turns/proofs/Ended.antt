-- What a run through the pipeline leaves.
use Rattle.run_turns.proofs.Words.{◌≡◌, ◌≢◌, ℕ, ◌+◌, ◌<◌, ◌≤◌, ◌⊎◌, List, [], ◌∷◌, All, length, Option, None, Some, Bool, true, false, inl, inr, refl, sym, ◌∙◌, ap, arith, subst}
use Rattle.run_turns.proofs.Words.{AreasValue, Fault, Filled, HasDrawn, HasEnded, HasFilled, HasPassedTurn, Judged, JudgesTurn, PutsBy, Putting, Readable, RoundLaws, Setup, Spot}
use Rattle.run_turns.proofs.Words.{Taking, TurnSeat, WrittenFiles, rate_of, reads_of, share_of, sum_by, sum_by-cons}
use Rattle.round_pipeline.specs.declared.rings.Returned.{Returned}
use Rattle.round_pipeline.specs.Lists.{share, total}
use Rattle.round_pipeline.specs.Rounds.{AreFilled, ArePut, HasRun, IsPut}
use Rattle.std.specs.Prelude.{IsSome, slice_index_or}
use Rattle.run_turns.specs.Fills.{filled}
use Rattle.run_turns.specs.Passes.{HasPut}
use Rattle.run_turns.specs.Turns.{reads_in, shares_in}
use Rattle.run_turns.proofs.Belts.{belts_sum, of_back}
use Rattle.run_turns.proofs.EndLemmas.{SomeLeft}
use Rattle.run_turns.proofs.JudgedTurns.{judged_once, judged_reads, judged_share, no_limit}
use Rattle.run_turns.proofs.Keeping.{Keeps, step_over, step_put}
use Rattle.run_turns.proofs.Turning.{IsJudgedBy, IsLine, each_judged, turns_keep}

-- a round as the source leaves it
abbrev pub as_filled : Judged → Filled
as_filled j = filled j.start j.round j.seat j.versions j.refused

-- The source has given its last round: no record is left.
abbrev pub HasGone : {C : Type 0} → Taking C → Type 0
HasGone s = (s.at.ahead ≡ []) × (s.at.ending ≢ None)

last_of : {C : Type 0} {x : Setup} {place : C → Spot} {a b : Taking C} {room turn : Filled} {more : Bool} → HasFilled x place a b room turn more →
    turn.refused ≡ false → more ≡ false → HasGone b
last_of {C} {x} {place} {a} {b} {room} {turn} {more} f is ends = by_round (f.whole is) where
  by_round : (a.refused ≡ false) × ((b.refused ≡ false) × (HasEnded x place a b room turn more ⊎ HasDrawn x place a b room turn more)) → HasGone b
  by_round (going, (still, inl ended)) = (ended.ahead, ended.ended)
  by_round (going, (still, inr drawn)) = drawn.ends ends

module _ {C S J T W : Type 0} (laws : RoundLaws) (x : Setup) (areas : AreasValue) (place : C → Spot) (some : (r : C) → SomeLeft (place r).left) (limited : Bool)
    (no_rate : limited ≡ false → x.run.errors ≡ None)
    (source : S → Taking C) (sink : W → Putting) (view : T → Judged) (s0 : S) (w0 : W) (IsSource : S → S → Type 0) (IsJudge : J → Type 0) (IsSink : W → W → Type 0)
    (fills : S → T → S → T → Bool → Type 0) (judges : J → T → J → T → Type 0) (puts : W → T → W → T → Option Fault → Type 0)
    (on_fill : (s r : S) (t u : T) (more : Bool) → IsSource s0 s → fills s t r u more →
    IsSource s0 r × HasFilled x place (source s) (source r) (as_filled (view t)) (as_filled (view u)) more)
    (on_judge : (j k : J) (t u : T) → IsJudge j → judges j t k u → IsJudge k × JudgesTurn x areas limited (view t) (view u))
    (on_put : (a b : W) (t u : T) (why : Option Fault) → IsSink w0 a → puts a t b u why →
    IsSink w0 b × HasPut x areas (sink a) (sink b) (view t) (view u).seat why × (rate_of (sink b).limit ≡ rate_of (sink a).limit))
    (first : Spot) (known : ℕ) where
  stays : (j k : J) (t u : T) → IsJudge j → judges j t k u → IsJudge k
  stays j k t u is did = (on_judge j k t u is did).0

  abbrev Judged_by : T → T → Type 0
  Judged_by = IsJudgedBy judges IsJudge stays

  abbrev shares : T → ℕ
  shares t = share_of (view t).seat

  abbrev reads : T → ℕ
  reads t = reads_of (view t).seat

  abbrev files0 : Readable
  files0 = (source s0).at.files

  abbrev outputs0 : WrittenFiles
  outputs0 = (sink w0).files

  abbrev Keeping : S → W → ℕ → Option Fault → Type 0
  Keeping s w now answer =
      Keeps laws x areas place some first files0 outputs0 (source s0).dealer.seat.known.share (source s0).dealer.seat.known.reads (source s) (sink w) now answer

  record IsKept (rooms : List T) (backs : List (Returned T)) (s : S) (more : Bool) (w : W) (answer : Option Fault) : Type 0 where
    is_source : IsSource s0 s
    is_sink : IsSink w0 w
    now : ℕ
    keeps : Keeping s w now answer
    all_shares : sum_by (of_back shares) backs + shares_in (source s).seats ≡ sum_by shares rooms + shares_in (source s0).seats
    all_reads : now + (sum_by reads rooms + reads_in (source s0).seats) ≤ known + (sum_by (of_back reads) backs + reads_in (source s).seats)
    gone : answer ≡ None → more ≡ false → HasGone (source s)

  did : (round product : T) → Judged_by round product → JudgesTurn x areas limited (view round) (view product)
  did round product by = (on_judge by.before by.now round product by.is_judge by.did).1

  module _ {rooms : List T} {backs : List (Returned T)} {s r : S} {w : W} {room round product : T} {back : Returned T} {more : Bool} where
    turn_over : (why : Fault) → IsKept rooms backs s true w (Some why) → fills s room r round more → Judged_by round product → back.buffer ≡ product →
        IsKept (room ∷ rooms) (back ∷ backs) r more w (Some why)
    turn_over why kept filling by same =
        let f = on_fill s r room round more kept.is_source filling in
        let share_is : shares back.buffer ≡ shares round =
        ap (λ (t : T). shares t) same ∙ judged_share x areas limited (view round) (view product) (did round product by) in
        let reads_are : reads round ≤ reads back.buffer =
        subst (λ (t : T). reads round ≤ reads t) (sym same) (judged_reads x areas limited (view round) (view product) (did round product by)) in
        record {
          is_source = f.0;
          is_sink = kept.is_sink;
          now = kept.now;
          keeps = step_over laws x areas place some first files0 outputs0 kept.keeps f.1;
          all_shares = omega (arith, kept.all_shares, f.1.share, share_is, sum_by-cons shares room rooms, sum_by-cons (of_back shares) back backs);
          all_reads = omega (arith, kept.all_reads, f.1.reads, reads_are, sum_by-cons reads room rooms, sum_by-cons (of_back reads) back backs);
          gone = λ answered ends. absurd (cc answered);
        }

    turn_put : (v : W) (answer : Option Fault) → IsKept rooms backs s true w None → fills s room r round more → Judged_by round product →
        puts w product v back.buffer answer → IsKept (room ∷ rooms) (back ∷ backs) r more v answer
    turn_put v answer kept filling by putting =
        let f = on_fill s r room round more kept.is_source filling in
        let p = on_put w v product back.buffer answer kept.is_sink putting in
        let put : HasPut x areas (sink w) (sink v) (view product) (view back.buffer).seat answer = p.1 in
        let unlimited = λ (is : limited ≡ false). no_limit (sink w).limit (kept.keeps.rate ∙ no_rate is) in
        let passed : HasPassedTurn x areas (sink w).limit (sink v).limit (view round) put.passed =
        judged_once x areas limited (view round) (view product) put.passed unlimited (did round product by) put.judged in
        let step = step_put laws x areas place some first files0 outputs0 (sink v) kept.keeps f.1 (refl, (refl, (refl, (refl, refl)))) passed p.2 answer put.put in
        let share_is : shares back.buffer ≡ shares round = ap (λ (t : TurnSeat). share_of t) put.seat ∙ passed.share in
        let reads_are : reads back.buffer ≡ reads_of put.passed.seat = ap (λ (t : TurnSeat). reads_of t) put.seat in
        record {
          is_source = f.0;
          is_sink = p.0;
          now = kept.now + step.0;
          keeps = step.1;
          all_shares = omega (arith, kept.all_shares, f.1.share, share_is, sum_by-cons shares room rooms, sum_by-cons (of_back shares) back backs);
          all_reads = omega (arith, kept.all_reads, f.1.reads, reads_are, step.2, sum_by-cons reads room rooms, sum_by-cons (of_back reads) back backs);
          gone = λ answered ends. gone_by f.1 (subst (λ (a : Option Fault). PutsBy x a (sink w) (sink v) put.passed) answered put.put) passed ends;
        } where
          gone_by : HasFilled x place (source s) (source r) (as_filled (view room)) (as_filled (view round)) more → {m : Judged} →
              PutsBy x None (sink w) (sink v) m → HasPassedTurn x areas (sink w).limit (sink v).limit (view round) m → more ≡ false → HasGone (source r)
          gone_by f {m} (whole, puts) passed ends = by_refused (view round).refused refl where
            by_refused : (b : Bool) → (view round).refused ≡ b → HasGone (source r)
            by_refused false is = last_of f is ends
            by_refused true is = absurd (cc (passed.refuses is, whole))

  turn : (rooms : List T) (backs : List (Returned T)) (s r : S) (w v : W) (answer answer' : Option Fault) (room round product : T) (back : Returned T) (more : Bool) →
      IsKept rooms backs s true w answer → fills s room r round more → Judged_by round product → IsPut puts w answer product v answer' back.buffer →
      IsKept (room ∷ rooms) (back ∷ backs) r more v answer'
  turn rooms backs s r w v None answer' room round product back more kept filling by put = turn_put v answer' kept filling by put
  turn rooms backs s r w v (Some why) answer' room round product back more kept filling by (same, answered, back_is) =
      rw (same, answered) (turn_over why kept filling by back_is)

  -- a run that has ended
  pub record IsOver (n : ℕ) (before after : List (List T)) (s : S) (w : W) (answer : Option Fault) : Type 0 where
    pub is_source : IsSource s0 s
    pub is_sink : IsSink w0 w
    pub now : ℕ
    pub keeps : Keeping s w now answer
    pub all_shares : total (λ i. sum_by shares (slice_index_or after i [])) n + shares_in (source s).seats
        ≡ total (λ i. sum_by shares (slice_index_or before i [])) n + shares_in (source s0).seats
    pub all_reads : now + (total (λ i. sum_by reads (slice_index_or before i [])) n + reads_in (source s0).seats)
        ≤ known + (total (λ i. sum_by reads (slice_index_or after i [])) n + reads_in (source s).seats)
    pub gone : answer ≡ None → HasGone (source s)

  many_rooms : (start now : S) (rooms rounds : List T) (more : Bool) → AreFilled fills start rooms rounds now more → length rooms ≡ length rounds
  many_rooms start now [] [] more filled = refl
  many_rooms start now [] (r ∷ rounds) more filled = absurd filled
  many_rooms start now (a ∷ rooms) [] more filled = absurd filled
  many_rooms start now (a ∷ rooms) (r ∷ rounds) more filled =
      omega (arith, many_rooms start filled.0 rooms rounds true filled.1)

  many_backs : (start now : W) (products : List T) (backs : List (Returned T)) (answer : Option Fault) → ArePut puts start products backs now answer →
      length backs ≡ length products
  many_backs start now [] [] answer put = refl
  many_backs start now [] (b ∷ backs) answer put = absurd put
  many_backs start now (p ∷ products) [] answer put = absurd put
  many_backs start now (p ∷ products) (b ∷ backs) answer put =
      omega (arith, many_backs start put.0 products backs put.1 put.2)

  pub is_over : (n : ℕ) (team team' : List J) (before after : List (List T)) (s : S) (w : W) (answer : Option Fault) →
      HasRun fills judges puts n s0 team w0 before s team' w after answer → n ≡ length team → All IsJudge team → IsSource s0 s0 → IsSink w0 w0 →
      Keeping s0 w0 known None → IsOver n before after s w answer
  is_over n team team' before after s w answer ran many all_judges is_source is_sink start =
      let each = each_judged judges IsJudge stays n ran.order ran.rounds ran.products ran.below ran.many.0 ran.many.1 line in
      let kept : IsKept ran.rooms ran.backs s ran.more w answer =
      turns_keep fills judges puts IsJudge stays IsKept turn ran.rooms ran.rounds ran.products ran.backs s0 s ran.more w0 w answer ran.filled each ran.put at_first in
      let sums = λ (f : T → ℕ).
      belts_sum f n ran.order ran.rooms ran.backs (λ i. slice_index_or before i []) (λ i. slice_index_or after i []) ran.below
      (many_rooms s0 s ran.rooms ran.rounds ran.more ran.filled ∙ ran.many.0) (many_backs w0 w ran.products ran.backs answer ran.put ∙ ran.many.1) ran.belt in
      record {
        is_source = kept.is_source;
        is_sink = kept.is_sink;
        now = kept.now;
        keeps = kept.keeps;
        all_shares = omega (arith, kept.all_shares, sums shares);
        all_reads = omega (arith, kept.all_reads, sums reads);
        gone = λ none. kept.gone none (last ran.ended none);
      } where
        line : (i : ℕ) → i < n → IsLine judges IsJudge stays (share ran.order i ran.rounds) (share ran.order i ran.products)
        line i inside = by_team team team' refl refl where
          by_team : (all all' : List J) → all ≡ team → all' ≡ team' → IsLine judges IsJudge stays (share ran.order i ran.rounds) (share ran.order i ran.products)
          by_team [] all' same same' = absurd (omega (arith, inside, many, ap (λ (l : List J). length l) same))
          by_team (d ∷ rest) all' same same' = (
            slice_index_or team i d,
            slice_index_or team' i d,
            all_judges i d (omega (arith, inside, many)),
            ran.judged i d inside,
          )

        at_first : IsKept [] [] s0 true w0 None
        at_first = record {
          is_source = is_source;
          is_sink = is_sink;
          now = known;
          keeps = start;
          all_shares = refl;
          all_reads = omega arith;
          gone = λ none ends. absurd (cc ends);
        }

        last : (ran.more ≡ false) ⊎ IsSome answer → answer ≡ None → ran.more ≡ false
        last (inl ends) none = ends
        last (inr is) none = absurd (cc (subst IsSome none is))
