-- A lane stands for its history, piece by piece.
use Rattle.std.proofs.Common.{◌≡◌, ℕ, suc, Bool, true, false, not, cond, List, [], ◌∷◌, length, map, filter, refl, sym, ◌∙◌, ap, subst, Option, Some, None, Result, Ok, Err}
use Rattle.std.specs.Prelude.{if◌then◌else◌, nat_le, IfOk}
use Rattle.reassembly_lane.specs.declared.answer.Fed.{Fed}
use Rattle.std.specs.List.{AllZip}
use Rattle.std.specs.declared.cmp.Ordering.{Ordering}
use Rattle.std.specs.declared.cmp.Ordering.TheVariants.{Less, Equal, Greater}
use Rattle.std.specs.Ordering.{match_ordering}
use Rattle.std.specs.Map.{lookup, set_value, remove_entry}
use Rattle.std.specs.BTreeMap.{is_at, insert_entry}
use Rattle.std.proofs.lemmas.List.Sums.{fold_push}
use Rattle.reassembly_lane.specs.declared.answer.Answer.{Answer}
use Rattle.reassembly_lane.specs.declared.answer.Answer.TheVariants as answer
use Rattle.reassembly_lane.specs.declared.answer.FragBad.TheVariants as bad
use Rattle.reassembly_lane.specs.Contexts.{Partial, Outcome, with_part}
use Rattle.reassembly_lane.specs.History.{Fate, fate}
use Rattle.reassembly_lane.specs.LaneHistory.{Past, PastOutcome, with_piece, begun_by, pasts_open_at, past_late_numbers, past_first_numbers, past_going_on, past_beginning, past_found, past_among, past_after, waiting, StandsFor, SameContext, Remembers, Follows}
use Rattle.reassembly_lane.specs.Lanes.{Arrival, LaneOutcome, answering, waits, open_at, late_numbers, first_numbers, most_contexts, is_odd, is_long, fresh, put_back, put_new, going_on, beginning, found, among, fed}
use Rattle.reassembly_lane.specs.Numbers.{IsAscending}
use Rattle.reassembly_lane.specs.Sound.{IsSoundPart}
use Rattle.reassembly_lane.proofs.Fates.{LeftSame, IsSameStep, same_step, stands_fresh}
use Rattle.reassembly_lane.proofs.GoesOn.{sound_part}

abbrev Same : {K : Type 0} → List (K × Past) → List (K × Partial) → Type 0
Same xs ys = AllZip SameContext xs ys

abbrev SameFound : Option Past → Option Partial → Type 0
SameFound None None = Unit {0}
SameFound None (Some y) = ⊥
SameFound (Some x) None = ⊥
SameFound (Some x) (Some y) = StandsFor x y

-- ---- through words on lists
module _ {K : Type 0} where
  same_waits : (time : ℕ) (a : K × Past) (b : K × Partial) → SameContext a b → waits time a.1.begun ≡ waits time b.1.begun
  same_waits time a b s = ap (waits time) s.1.begun

  pub same_open : (time : ℕ) (xs : List (K × Past)) (ys : List (K × Partial)) → Same xs ys → Same (pasts_open_at time xs) (open_at time ys)
  same_open time [] [] s = tt
  same_open time [] (b ∷ ys) s = absurd s
  same_open time (a ∷ xs) [] s = absurd s
  same_open time (a ∷ xs) (b ∷ ys) s = by_test (waits time a.1.begun) (waits time b.1.begun) (same_waits time a b s.0) (same_open time xs ys s.1)
    where
      by_test : (v w : Bool) → v ≡ w → Same (pasts_open_at time xs) (open_at time ys) → Same (cond v (a ∷ pasts_open_at time xs) (pasts_open_at time xs)) (cond w (b ∷ open_at time ys) (open_at time ys))
      by_test true true e r = (s.0, r)
      by_test true false e r = cc
      by_test false true e r = cc
      by_test false false e r = r

  pub same_length : (xs : List (K × Past)) (ys : List (K × Partial)) → Same xs ys → length xs ≡ length ys
  same_length [] [] s = refl
  same_length [] (b ∷ ys) s = absurd s
  same_length (a ∷ xs) [] s = absurd s
  same_length (a ∷ xs) (b ∷ ys) s = ap suc (same_length xs ys s.1)

  pub same_late : (time : ℕ) (xs : List (K × Past)) (ys : List (K × Partial)) → Same xs ys → past_late_numbers time xs ≡ late_numbers time ys
  same_late time [] [] s = refl
  same_late time [] (b ∷ ys) s = absurd s
  same_late time (a ∷ xs) [] s = absurd s
  same_late time (a ∷ xs) (b ∷ ys) s = by_test (waits time a.1.begun) (waits time b.1.begun) (same_waits time a b s.0) (same_late time xs ys s.1)
    where
      by_test : (v w : Bool) → v ≡ w → past_late_numbers time xs ≡ late_numbers time ys →
          map (λ e. e.1.number) (cond (not v) (a ∷ filter (λ e. not (waits time e.1.begun)) xs) (filter (λ e. not (waits time e.1.begun)) xs))
          ≡ map (λ e. e.1.number) (cond (not w) (b ∷ filter (λ e. not (waits time e.1.begun)) ys) (filter (λ e. not (waits time e.1.begun)) ys))
      by_test true true e r = r
      by_test true false e r = cc
      by_test false true e r = cc
      by_test false false e r = ap (λ (n : ℕ). n ∷ past_late_numbers time xs) s.0.1.number ∙ ap (λ (l : List ℕ). b.1.number ∷ l) r

  pub same_firsts : (xs : List (K × Past)) (ys : List (K × Partial)) → Same xs ys → past_first_numbers xs ≡ first_numbers ys
  same_firsts [] [] s = refl
  same_firsts [] (b ∷ ys) s = absurd s
  same_firsts (a ∷ xs) [] s = absurd s
  same_firsts (a ∷ xs) (b ∷ ys) s = ap (λ (n : ℕ). n ∷ past_first_numbers xs) s.0.1.number ∙ ap (λ (l : List ℕ). b.1.number ∷ l) (same_firsts xs ys s.1)

  same_lookup : (test : K → Bool) (xs : List (K × Past)) (ys : List (K × Partial)) → Same xs ys → SameFound (lookup test xs) (lookup test ys)
  same_lookup test [] [] s = tt
  same_lookup test [] (b ∷ ys) s = absurd s
  same_lookup test (a ∷ xs) [] s = absurd s
  same_lookup test (a ∷ xs) (b ∷ ys) s = by_test (test a.0) (test b.0) (ap test s.0.0) (same_lookup test xs ys s.1)
    where
      by_test : (v w : Bool) → v ≡ w → SameFound (lookup test xs) (lookup test ys) → SameFound (cond v (Some a.1) (lookup test xs)) (cond w (Some b.1) (lookup test ys))
      by_test true true e r = s.0.1
      by_test true false e r = cc
      by_test false true e r = cc
      by_test false false e r = r

  same_remove : (test : K → Bool) (xs : List (K × Past)) (ys : List (K × Partial)) → Same xs ys → Same (remove_entry test xs) (remove_entry test ys)
  same_remove test [] [] s = tt
  same_remove test [] (b ∷ ys) s = absurd s
  same_remove test (a ∷ xs) [] s = absurd s
  same_remove test (a ∷ xs) (b ∷ ys) s = by_test (test a.0) (test b.0) (ap test s.0.0) (same_remove test xs ys s.1)
    where
      by_test : (v w : Bool) → v ≡ w → Same (remove_entry test xs) (remove_entry test ys) → Same (cond v xs (a ∷ remove_entry test xs)) (cond w ys (b ∷ remove_entry test ys))
      by_test true true e r = s.1
      by_test true false e r = cc
      by_test false true e r = cc
      by_test false false e r = (s.0, r)

  same_set : (test : K → Bool) (xs : List (K × Past)) (ys : List (K × Partial)) (x : Past) (y : Partial) → Same xs ys → StandsFor x y → Same (set_value test xs x) (set_value test ys y)
  same_set test [] [] x y s f = tt
  same_set test [] (b ∷ ys) x y s f = absurd s
  same_set test (a ∷ xs) [] x y s f = absurd s
  same_set test (a ∷ xs) (b ∷ ys) x y s f = by_test (test a.0) (test b.0) (ap test s.0.0) (same_set test xs ys x y s.1 f)
    where
      by_test : (v w : Bool) → v ≡ w → Same (set_value test xs x) (set_value test ys y) → Same (cond v ((a.0, x) ∷ xs) (a ∷ set_value test xs x)) (cond w ((b.0, y) ∷ ys) (b ∷ set_value test ys y))
      by_test true true e r = ((s.0.0, f), s.1)
      by_test true false e r = cc
      by_test false true e r = cc
      by_test false false e r = (s.0, r)

  same_insert : (cmp : K → K → Ordering) (xs : List (K × Past)) (ys : List (K × Partial)) (key : K) (x : Past) (y : Partial) → Same xs ys → StandsFor x y → Same (insert_entry cmp xs key x) (insert_entry cmp ys key y)
  same_insert cmp [] [] key x y s f = ((refl, f), tt)
  same_insert cmp [] (b ∷ ys) key x y s f = absurd s
  same_insert cmp (a ∷ xs) [] key x y s f = absurd s
  same_insert cmp (a ∷ xs) (b ∷ ys) key x y s f = by_order (cmp key a.0) (cmp key b.0) (ap (cmp key) s.0.0) (same_insert cmp xs ys key x y s.1 f)
    where
      by_order : (v w : Ordering) → v ≡ w → Same (insert_entry cmp xs key x) (insert_entry cmp ys key y) → Same (match_ordering v ((key, x) ∷ a ∷ xs) ((a.0, x) ∷ xs) (a ∷ insert_entry cmp xs key x)) (match_ordering w ((key, y) ∷ b ∷ ys) ((b.0, y) ∷ ys) (b ∷ insert_entry cmp ys key y))
      by_order Less Less e r = ((refl, f), (s.0, s.1))
      by_order Less Equal e r = cc
      by_order Less Greater e r = cc
      by_order Equal Less e r = cc
      by_order Equal Equal e r = ((s.0.0, f), s.1)
      by_order Equal Greater e r = cc
      by_order Greater Less e r = cc
      by_order Greater Equal e r = cc
      by_order Greater Greater e r = (s.0, r)

-- ---- one piece
record IsSameOutcome {K : Type 0} (past : PastOutcome K) (now : LaneOutcome K) : Type 0 where
  contexts : Same past.pasts now.contexts
  answer : past.answer ≡ now.answer

module _ {K : Type 0} (cmp : K → K → Ordering) where
  same_going_on : (xs : List (K × Past)) (ys : List (K × Partial)) (key : K) (past : Past) (outcome : Outcome) (came : Fate) → Same xs ys → IsSameStep past outcome came → IsSameOutcome (past_going_on cmp xs key past came) (going_on cmp ys key outcome)
  same_going_on xs ys key past outcome came s h = record { contexts = by_left outcome.left h.left; answer = sym h.answer }
    where
      by_left : (l : Option Partial) → LeftSame past l came.ends → Same (if came.ends then remove_entry (is_at (cmp key)) xs else set_value (is_at (cmp key)) xs past) (put_back cmp ys key l)
      by_left None e = subst (λ (b : Bool). Same (if b then remove_entry (is_at (cmp key)) xs else set_value (is_at (cmp key)) xs past) (remove_entry (is_at (cmp key)) ys)) (sym e) (same_remove (is_at (cmp key)) xs ys s)
      by_left (Some partial) e = subst (λ (b : Bool). Same (if b then remove_entry (is_at (cmp key)) xs else set_value (is_at (cmp key)) xs past) (set_value (is_at (cmp key)) ys partial)) (sym e.0) (same_set (is_at (cmp key)) xs ys past partial s e.1)

  same_beginning : (xs : List (K × Past)) (ys : List (K × Partial)) (key : K) (past : Past) (outcome : Outcome) (came : Fate) → Same xs ys → IsSameStep past outcome came → IsSameOutcome (past_beginning cmp xs key past came) (beginning cmp ys key outcome)
  same_beginning xs ys key past outcome came s h = record { contexts = by_left outcome.left h.left; answer = sym h.answer }
    where
      by_left : (l : Option Partial) → LeftSame past l came.ends → Same (if came.ends then xs else insert_entry cmp xs key past) (put_new cmp ys key l)
      by_left None e = subst (λ (b : Bool). Same (if b then xs else insert_entry cmp xs key past) ys) (sym e) s
      by_left (Some partial) e = subst (λ (b : Bool). Same (if b then xs else insert_entry cmp xs key past) (insert_entry cmp ys key partial)) (sym e.0) (same_insert cmp xs ys key past partial s e.1)

  same_found : (xs : List (K × Past)) (ys : List (K × Partial)) (piece : Arrival K) (x : Option Past) (y : Option Partial) → Same xs ys → IsSoundPart piece.part → SameFound x y → IsSameOutcome (past_found cmp xs piece x) (found cmp ys piece y)
  same_found xs ys piece (Some past) (Some partial) s o f = same_going_on xs ys piece.key (with_piece past piece.part) (with_part partial piece.part) (fate (with_piece past piece.part).pieces) s (same_step past partial piece.part f o)
  same_found xs ys piece (Some past) None s o f = absurd f
  same_found xs ys piece None (Some partial) s o f = absurd f
  same_found xs ys piece None None s o f =
      by_room (nat_le most_contexts (length (pasts_open_at piece.time xs))) (nat_le most_contexts (length (open_at piece.time ys)))
      (ap (nat_le most_contexts) (same_length (pasts_open_at piece.time xs) (open_at piece.time ys) (same_open piece.time xs ys s)))
    where
      first : IsSameStep (begun_by piece) (with_part (fresh piece.time piece.number) piece.part) (fate (begun_by piece).pieces)
      first = same_step (record { begun = piece.time; number = piece.number; pieces = [] }) (fresh piece.time piece.number) piece.part (stands_fresh piece.time piece.number) o

      by_room : (v w : Bool) → v ≡ w → IsSameOutcome (if v then record { pasts = xs; answer = answer.Refused bad.Full } else past_beginning cmp xs piece.key (begun_by piece) (fate (begun_by piece).pieces)) (if w then answering (answer.Refused bad.Full) ys else beginning cmp ys piece.key (with_part (fresh piece.time piece.number) piece.part))
      by_room true true e = record { contexts = s; answer = refl }
      by_room true false e = cc
      by_room false true e = cc
      by_room false false e = same_beginning xs ys piece.key (begun_by piece) (with_part (fresh piece.time piece.number) piece.part) (fate (begun_by piece).pieces) s first

  same_among : (xs : List (K × Past)) (ys : List (K × Partial)) (piece : Arrival K) → Same xs ys → IsSameOutcome (past_among cmp xs piece) (among cmp ys piece)
  same_among xs ys piece s = by_tests (is_odd piece.part) (is_long piece.part) refl refl
    where
      by_tests : (a b : Bool) → is_odd piece.part ≡ a → is_long piece.part ≡ b → IsSameOutcome
          (if a then record { pasts = xs; answer = answer.Refused bad.Odd } else if b then record { pasts = xs; answer = answer.Refused bad.Long } else past_found cmp xs piece (lookup (is_at (cmp piece.key)) (pasts_open_at piece.time xs)))
          (if a then answering (answer.Refused bad.Odd) ys else if b then answering (answer.Refused bad.Long) ys else found cmp ys piece (lookup (is_at (cmp piece.key)) (open_at piece.time ys)))
      by_tests true b e f = record { contexts = s; answer = refl }
      by_tests false true e f = record { contexts = s; answer = refl }
      by_tests false false e f = same_found xs ys piece (lookup (is_at (cmp piece.key)) (pasts_open_at piece.time xs)) (lookup (is_at (cmp piece.key)) (open_at piece.time ys)) s (sound_part piece.part e f) (same_lookup (is_at (cmp piece.key)) (pasts_open_at piece.time xs) (open_at piece.time ys) (same_open piece.time xs ys s))

  -- a lane that stands for a history stands for it with one piece more
  pub follows : (history : List (Arrival K)) (piece : Arrival K) (old new : List (K × Partial)) (said : Answer) (ended : List ℕ) → answering said new ≡ fed cmp old piece → IsAscending (late_numbers piece.time old) ended → Remembers cmp history old → Follows cmp history piece said ended new
  follows history piece old new said ended f a s =
      let o : IsSameOutcome (past_among cmp (waiting cmp history) piece) (among cmp old piece) = same_among (waiting cmp history) old piece s in
      let now : new ≡ open_at piece.time (among cmp old piece).contexts = ap (λ (x : LaneOutcome K). x.contexts) f in
      record {
        remembers =
            subst (λ (l : List (K × Past)). Same l new) (sym (fold_push (past_after cmp) [] history piece))
            (subst (λ (l : List (K × Partial)). Same (past_after cmp (waiting cmp history) piece) l) (sym now)
            (same_open piece.time (past_among cmp (waiting cmp history) piece).pasts (among cmp old piece).contexts o.contexts));
        answers = ap (λ (x : LaneOutcome K). x.answer) f ∙ sym o.answer;
        ends = subst (λ (l : List ℕ). IsAscending l ended) (sym (same_late piece.time (waiting cmp history) old s)) a;
      }

  pub follows_ok : {E : Type 0} (piece : Arrival K) (old new : List (K × Partial)) (r : Result Fed E) → IfOk r (λ said. answering said.answer new ≡ fed cmp old piece) → IfOk r (λ said. IsAscending (late_numbers piece.time old) said.ended) → IfOk r (λ said. (history : List (Arrival K)) → Remembers cmp history old → Follows cmp history piece said.answer said.ended new)
  follows_ok piece old new (Err x) f a = f
  follows_ok piece old new (Ok said) f a = λ history s. follows history piece old new said.answer said.ended f a s

  pub firsts : (history : List (Arrival K)) (now : List (K × Partial)) (numbers : List ℕ) → IsAscending (first_numbers now) numbers → Remembers cmp history now → IsAscending (past_first_numbers (waiting cmp history)) numbers
  firsts history now numbers a s = subst (λ (l : List ℕ). IsAscending l numbers) (sym (same_firsts (waiting cmp history) now s)) a
