-- What the threads made, put together.
use Rattle.std.proofs.Common.{Bool, List, arith, ap, append_assoc, append-nil, cond, false, length, refl, subst, suc, sym, true, ℕ, [], ◌++◌, ◌<◌, ◌∙◌, ◌∷◌, ◌≡◌}
use Rattle.std.proofs.lemmas.List.{length-append}
use Rattle.std.specs.Prelude.{None, Option, Some, slice_index_or, ◌==◌}
use Rattle.rtrb.specs.Ring.{known_items, sent}
use Rattle.round_pipeline.specs.declared.capture.ReadEnd.{ReadEnd}
use Rattle.round_pipeline.specs.declared.finished.Finished.{Finished}
use Rattle.round_pipeline.specs.declared.finished.Seat.{Seat}
use Rattle.round_pipeline.specs.declared.writer.WriteEnd.{WriteEnd}
use Rattle.round_pipeline.specs.Ends.{HaveMet, SameJudgeEnd, SameReadEnd, SameWriteEnd}
use Rattle.round_pipeline.specs.Lists.{in_order, share, told}
use Rattle.round_pipeline.specs.Pipelines.{IsRunning}
use Rattle.round_pipeline.specs.Rounds.{AreJudged}
use Rattle.round_pipeline.specs.Threads.{AreLines, HaveServed, IsTurning, IsWriting}
use Rattle.round_pipeline.proofs.Rounds.{pair_on}

head_of : {X : Type 0} → X → List X → X
head_of x [] = x
head_of x (y ∷ ys) = y

tail_of : {X : Type 0} → List X → List X
tail_of [] = []
tail_of (y ∷ ys) = ys

same_snoc : {X : Type 0} (xs ys : List X) (x y : X) → xs ++ x ∷ [] ≡ ys ++ y ∷ [] → (xs ≡ ys) × (x ≡ y)
unfolding head_of tail_of
same_snoc [] [] x y same = (refl, ap (λ (l : List _). head_of x l) same)
same_snoc [] (b ∷ ys) x y same = absurd (omega (arith, ap (λ (l : List _). length l) same, length-append ys (y ∷ [])))
same_snoc (a ∷ xs) [] x y same = absurd (omega (arith, ap (λ (l : List _). length l) same, length-append xs (x ∷ [])))
same_snoc (a ∷ xs) (b ∷ ys) x y same =
    let rest = same_snoc xs ys x y (ap (λ (l : List _). tail_of l) same) in
    let first : a ≡ b = ap (λ (l : List _). head_of a l) same in
    ((λ i. first i ∷ rest.0 i), rest.1)

module _ {T : Type 0} where
  pub length_in_order : (xs : List T) → length (in_order xs) ≡ length xs
  length_in_order [] = refl
  length_in_order (x ∷ xs) = omega (arith, length_in_order xs, length-append (in_order xs) (x ∷ []))

  in_order_same : (xs ys : List T) → in_order xs ≡ in_order ys → xs ≡ ys
  in_order_same [] [] same = refl
  in_order_same [] (y ∷ ys) same = absurd (omega (arith, ap (λ (l : List T). length l) same, length-append (in_order ys) (y ∷ [])))
  in_order_same (x ∷ xs) [] same = absurd (omega (arith, ap (λ (l : List T). length l) same, length-append (in_order xs) (x ∷ [])))
  in_order_same (x ∷ xs) (y ∷ ys) same =
      let parts = same_snoc (in_order xs) (in_order ys) x y same in
      let rest = in_order_same xs ys parts.0 in
      λ i. parts.1 i ∷ rest i

  -- one begins with the other
  abbrev Begins : List T → List T → Type 0
  Begins xs ys = (rest : List T) × (in_order xs ++ rest ≡ in_order ys)

  begins_whole : (xs ys : List T) → Begins xs ys → length xs ≡ length ys → xs ≡ ys
  begins_whole xs ys ([], same) long = in_order_same xs ys (sym (append-nil (in_order xs)) ∙ same)
  begins_whole xs ys (z ∷ rest, same) long =
      absurd (omega (arith, long, ap (λ (l : List T). length l) same, length-append (in_order xs) (z ∷ rest), length_in_order xs, length_in_order ys))

  -- what comes before the first end
  somes : List (Option T) → List T
  somes [] = []
  somes (None ∷ rest) = []
  somes (Some x ∷ rest) = x ∷ somes rest

  somes_told : (ys : List T) (rest : List (Option T)) → somes (told ys ++ rest) ≡ in_order ys ++ somes rest
  unfolding somes
  somes_told [] rest = refl
  somes_told (y ∷ ys) rest =
      ap (λ (l : List (Option T)). somes l) (append_assoc (told ys) (Some y ∷ []) rest) ∙ somes_told ys (Some y ∷ rest)
      ∙ sym (append_assoc (in_order ys) (y ∷ []) (somes rest))

  somes_ended : (ys : List T) (rest : List (Option T)) → somes ((told ys ++ None ∷ []) ++ rest) ≡ in_order ys
  unfolding somes
  somes_ended ys rest =
      ap (λ (l : List (Option T)). somes l) (append_assoc (told ys) (None ∷ []) rest) ∙ somes_told ys (None ∷ rest) ∙ append-nil (in_order ys)

  -- what was taken of a ring that was ended, with its end
  ended_same : (xs ys : List T) (rest : List (Option T)) → (told xs ++ None ∷ []) ++ rest ≡ told ys ++ None ∷ [] → xs ≡ ys
  unfolding somes
  ended_same xs ys rest same =
      in_order_same xs ys
      (sym (somes_ended xs rest) ∙ ap (λ (l : List (Option T)). somes l) (same ∙ sym (append-nil (told ys ++ None ∷ []))) ∙ somes_ended ys [])

  -- and without its end
  ended_begins : (xs ys : List T) (rest : List (Option T)) → told xs ++ rest ≡ told ys ++ None ∷ [] → Begins xs ys
  unfolding somes
  ended_begins xs ys rest same =
      (somes rest, sym (somes_told xs rest) ∙ ap (λ (l : List (Option T)). somes l) (same ∙ sym (append-nil (told ys ++ None ∷ []))) ∙ somes_ended ys [])

  length_told : (xs : List T) → length (told xs) ≡ length xs
  length_told [] = refl
  length_told (x ∷ xs) = omega (arith, length_told xs, length-append (told xs) (Some x ∷ []))

  -- a ring without an end gives none
  not_ended : (xs ys : List T) (rest : List (Option T)) → (told xs ++ None ∷ []) ++ rest ≡ told ys → ⊥
  unfolding somes
  not_ended xs ys rest same =
      let e : in_order xs ≡ in_order ys =
      sym (somes_ended xs rest) ∙ ap (λ (l : List (Option T)). somes l) (same ∙ sym (append-nil (told ys))) ∙ somes_told ys [] ∙ append-nil (in_order ys) in
      omega (
        arith,
        ap (λ (l : List T). length l) e,
        ap (λ (l : List (Option T)). length l) same,
        length-append (told xs ++ None ∷ []) rest,
        length-append (told xs) (None ∷ []),
        length_told xs,
        length_told ys,
        length_in_order xs,
        length_in_order ys,
      )

-- rounds and products are as many
judged_many : {J T : Type 0} (judges : J → T → J → T → Type 0) (start now : J) (rounds products : List T) → AreJudged judges start rounds products now →
    length rounds ≡ length products
judged_many judges start now [] [] judged = refl
judged_many judges start now [] (p ∷ products) judged = absurd judged
judged_many judges start now (r ∷ rounds) [] judged = absurd judged
judged_many judges start now (r ∷ rounds) (p ∷ products) judged = ap (λ k. suc k) (judged_many judges start judged.0 rounds products judged.1)

-- a share is as long as any other of as many rounds
length_cond : {X Y : Type 0} (b : Bool) (x : X) (xs : List X) (y : Y) (ys : List Y) → length xs ≡ length ys → length (cond b (x ∷ xs) xs) ≡ length (cond b (y ∷ ys) ys)
length_cond true x xs y ys e = ap (λ m. suc m) e
length_cond false x xs y ys e = e

pub share_many : {X Y : Type 0} (order : List ℕ) (i : ℕ) (xs : List X) (ys : List Y) → length xs ≡ length ys → length (share order i xs) ≡ length (share order i ys)
share_many [] i xs ys e = refl
share_many (w ∷ order) i [] [] e = refl
share_many (w ∷ order) i [] (y ∷ ys) e = absurd (omega (arith, e))
share_many (w ∷ order) i (x ∷ xs) [] e = absurd (omega (arith, e))
share_many (w ∷ order) i (x ∷ xs) (y ∷ ys) e =
    length_cond (w == i) x (share order i xs) y (share order i ys) (share_many order i xs ys (omega (arith, e)))

pub first_of : {X : Type 0} (xs : List X) → 0 < length xs → X
first_of [] some = absurd (omega (arith, some))
first_of (x ∷ xs) some = x

-- once the writer was told the end, all were
has_turned : {S W T E : Type 0} (fills : S → T → S → T → Bool → Type 0) (puts : W → T → W → T → Option E → Type 0) (n : ℕ) {source now : S} {sink sink' : W} (reads' : List (ReadEnd T))
    (writes writes' : List (WriteEnd T)) {turns got : List (Option ℕ)} (left : List (Option ℕ)) {more : Bool} (answer : Option E) (closed : Bool) →
    IsTurning fills n source now reads' turns more closed → IsWriting puts n sink writes got true sink' answer writes' →
    got ++ left ≡ turns → IsTurning fills n source now reads' turns more true
has_turned fills puts n reads' writes writes' left answer true read written met = read
has_turned fills puts n reads' writes writes' left answer false read written met =
    absurd (not_ended written.order read.order left
    (ap (λ (l : List (Option ℕ)). l ++ left) (sym written.turns_are) ∙ met ∙ read.turns_are ∙ append-nil (told read.order)))

module _ {S J T W E : Type 0} {ready_j : J → Type 0} (fills : S → T → S → T → Bool → Type 0) (judges : J → T → J → T → Type 0) (puts : W → T → W → T → Option E → Type 0)
    (n : ℕ) {source : S} (seats seats' : List (Seat T J)) {sink : W} (reads' : List (ReadEnd T)) (writes writes' : List (WriteEnd T)) (f : Finished T S J W E)
    {turns got : List (Option ℕ)} (left : List (Option ℕ)) where
  pub has_running : (closed : Bool) (r0 : ReadEnd T) (j0 : Seat T J) (w0 : WriteEnd T) → HaveServed ready_j judges n seats seats' →
      IsTurning fills n source f.source reads' turns f.more closed → IsWriting puts n sink writes got true f.sink f.answer writes' → got ++ left ≡ turns →
      ((i : ℕ) (r : ReadEnd T) (j : Seat T J) (w : WriteEnd T) → i < n →
      HaveMet (slice_index_or reads' i r) (slice_index_or seats' i j).line (slice_index_or writes' i w) (slice_index_or f.reads.items i r) (slice_index_or f.writes.items i w)) →
      ((i : ℕ) (j : Seat T J) → i < n → (slice_index_or f.seats.items i j).judge ≡ (slice_index_or seats' i j).judge) →
      (length f.reads.items ≡ n) × (length f.seats.items ≡ n) × (length f.writes.items ≡ n) →
      IsRunning fills judges puts n source seats sink writes f
  has_running closed r0 j0 w0 served some_read written met_turns met same sizes =
      let read = has_turned fills puts n reads' writes writes' left f.answer closed some_read written met_turns in
      let order : List ℕ = read.order in
      let rounds : List T = read.rounds in
      let products : List T = written.products in
      let one : written.order ≡ order =
      ended_same written.order order left (ap (λ (l : List (Option ℕ)). l ++ left) (sym written.turns_are) ∙ met_turns ∙ read.turns_are) in
      let many_products : length products ≡ length order = written.many ∙ ap (λ (l : List ℕ). length l) one in
      let taken = λ (i : ℕ) (d : Seat T J) (l : i < n).
      ended_same (served.each i d l).judged.rounds (share order i rounds) (met i r0 d w0 l).work_left
      (ap (λ (x : List (Option T)). x ++ (met i r0 d w0 l).work_left) (sym (served.each i d l).judged.took_are) ∙ (met i r0 d w0 l).work ∙ read.gave i r0 l) in
      let begun = λ (i : ℕ) (d : Seat T J) (l : i < n).
      ended_begins (share order i products) (served.each i d l).judged.products (met i r0 d w0 l).made_left
      (ap (λ (x : List (Option T)). x ++ (met i r0 d w0 l).made_left)
      (sym (written.took i w0 l ∙ ap (λ (o : List ℕ). told (share o i products)) one)) ∙ (met i r0 d w0 l).made ∙ (served.each i d l).judged.gave_are) in
      let made = λ (i : ℕ) (d : Seat T J) (l : i < n).
      begins_whole (share order i products) (served.each i d l).judged.products (begun i d l)
      (share_many order i products rounds (many_products ∙ sym read.many_rounds) ∙ sym (ap (λ (x : List T). length x) (taken i d l))
      ∙ judged_many judges _ _ (served.each i d l).judged.rounds (served.each i d l).judged.products (served.each i d l).judged.judged) in
      record {
        order = order;
        rooms = read.rooms;
        rounds = rounds;
        products = products;
        backs = written.backs;
        sizes = sizes;
        below = read.below;
        many = (read.many_rounds, many_products);
        many_rooms = read.many;
        many_backs = written.many_backs ∙ ap (λ (l : List ℕ). length l) one;
        filled = read.filled;
        judged = λ i d l.
            let did = (served.each i d l).judged in
            let start = (slice_index_or seats i d).judge in
            let now = (slice_index_or seats' i d).judge in
            let P1 : List T → Type 0 = λ x. AreJudged judges start x did.products now in
            let P2 : List T → Type 0 = λ x. AreJudged judges start (share order i rounds) x now in
            let P3 : J → Type 0 = λ x. AreJudged judges start (share order i rounds) (share order i products) x in
            subst P3 (sym (same i d l)) (subst P2 (sym (made i d l)) (subst P1 (taken i d l) did.judged));
        put = written.put;
        took = λ i d l. (met i d j0 w0 l).took ∙ read.took i d l;
        gave = λ i d l. (met i r0 j0 d l).gave ∙ written.gave i d l ∙ ap (λ (o : List ℕ). sent (slice_index_or writes i d).back ++ in_order (share o i written.backs)) one;
        pairs = λ i r w l. (met i r j0 w l).pair;
        left = λ i r w l other.
            let m = met i r j0 w l in
            ap (λ (x : List _). x ++ known_items (slice_index_or f.reads.items i r).back) m.took ∙ m.left ∙ sym m.gave;
      }

-- the ends are still those of one line
pub lines_on : {T J : Type 0} (n : ℕ) (reads reads' : List (ReadEnd T)) (seats seats' : List (Seat T J)) (writes writes' : List (WriteEnd T)) →
    AreLines n reads seats writes →
    ((i : ℕ) (d : ReadEnd T) → i < n → SameReadEnd (slice_index_or reads i d) (slice_index_or reads' i d)) →
    ((i : ℕ) (d : Seat T J) → i < n → SameJudgeEnd (slice_index_or seats i d).line (slice_index_or seats' i d).line) →
    ((i : ℕ) (d : WriteEnd T) → i < n → SameWriteEnd (slice_index_or writes i d) (slice_index_or writes' i d)) →
    AreLines n reads' seats' writes'
lines_on n reads reads' seats seats' writes writes' lines r j w i a b c l =
    let e = lines i a b c l in
    let x = r i a l in
    let y = j i b l in
    let z = w i c l in
    record {
      work = pair_on (slice_index_or reads i a).work.end (slice_index_or seats i b).line.work.end (slice_index_or reads' i a).work.end
          (slice_index_or seats' i b).line.work.end e.work x.work.0 y.work.0;
      made = pair_on (slice_index_or seats i b).line.made.end (slice_index_or writes i c).made.end (slice_index_or seats' i b).line.made.end
          (slice_index_or writes' i c).made.end e.made y.made.0 z.made.0;
      back = pair_on (slice_index_or writes i c).back.end (slice_index_or reads i a).back.end (slice_index_or writes' i c).back.end
          (slice_index_or reads' i a).back.end e.back z.back.0 x.back.0;
    }
