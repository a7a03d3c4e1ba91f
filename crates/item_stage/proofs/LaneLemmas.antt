-- What is true of each piece by the key that it waits under, through one piece more.
use Rattle.std.proofs.Common.{◌≡◌, ℕ, zero, suc, Bool, true, false, cond, List, [], ◌∷◌, ◌++◌, length, refl, subst, take, drop, inl, inr, Option, Some, None}
use Rattle.std.specs.Prelude.{nat_le, nat_lt, if◌then◌else◌}
use Rattle.std.specs.List.{list_any, prefix_len}
use Rattle.std.specs.declared.cmp.Ordering.{Ordering}
use Rattle.std.specs.declared.cmp.Ordering.TheVariants as order
use Rattle.std.specs.Ordering.{match_ordering, is_eq}
use Rattle.std.specs.Map.{lookup, remove_entry, set_value}
use Rattle.std.specs.BTreeMap.{insert_entry, is_at}
use Rattle.reassembly_lane.specs.Contexts.{Outcome, Partial, staying, refusing, finished, unless_refused, with_part, placed, most_parts}
use Rattle.reassembly_lane.specs.Lanes.{Arrival, LaneOutcome, waits, answering, open_at, most_contexts, is_odd, is_long, fresh, put_back, put_new, beginning, found, among, fed}
use Rattle.reassembly_lane.specs.Parts.{clash, datagram, first_of, is_same, whole_end}
use Rattle.reassembly_lane.specs.declared.answer.Answer.{Answer}
use Rattle.reassembly_lane.specs.declared.answer.Answer.TheVariants as answer
use Rattle.reassembly_lane.specs.declared.answer.FragBad.{FragBad}
use Rattle.reassembly_lane.specs.declared.answer.FragBad.TheVariants as bad
use Rattle.reassembly_lane.specs.declared.parts.Part.{Part}
use Rattle.item_stage.specs.Sources.{Among, Each}

-- ---- each of a list
pub each_appended : {X : Type 0} (P : X → Type 0) (xs ys : List X) → Each P xs → Each P ys → Each P (xs ++ ys)
each_appended P [] ys first second = second
each_appended P (x ∷ xs) ys first second = (first.0, each_appended P xs ys first.1 second)

each_taken : {X : Type 0} (P : X → Type 0) (n : ℕ) (xs : List X) → Each P xs → Each P (take n xs)
each_taken P zero xs each = tt
each_taken P (suc n) [] each = tt
each_taken P (suc n) (x ∷ xs) each = (each.0, each_taken P n xs each.1)

each_dropped : {X : Type 0} (P : X → Type 0) (n : ℕ) (xs : List X) → Each P xs → Each P (drop n xs)
each_dropped P zero xs each = each
each_dropped P (suc n) [] each = tt
each_dropped P (suc n) (x ∷ xs) each = each_dropped P n xs each.1

pub each_weaker : {X : Type 0} (P Q : X → Type 0) → ((x : X) → P x → Q x) → (xs : List X) → Each P xs → Each Q xs
each_weaker P Q weaker [] each = tt
each_weaker P Q weaker (x ∷ xs) each = (weaker x each.0, each_weaker P Q weaker xs each.1)

pub among_more : {X : Type 0} (P : X → Type 0) (xs ys : List X) → Among P xs → Among P (xs ++ ys)
among_more P [] ys some = absurd some
among_more P (x ∷ xs) ys (inl here) = inl here
among_more P (x ∷ xs) ys (inr later) = inr (among_more P xs ys later)

pub among_last : {X : Type 0} (P : X → Type 0) (xs : List X) (x : X) → P x → Among P (xs ++ x ∷ [])
among_last P [] x is = inl is
among_last P (y ∷ xs) x is = inr (among_last P xs x is)

-- ---- one datagram
-- a datagram put together is put together from such pieces
abbrev pub MadeOf : (Part → Type 0) → Answer → Type 0
MadeOf Q (answer.Whole head body) =
    (pieces : List Part) × ((end : ℕ) × (Each Q pieces × ((head ≡ (first_of pieces).head) × (body ≡ datagram pieces end))))
MadeOf Q answer.Held = Unit {0}
MadeOf Q (answer.Refused why) = Unit {0}

abbrev Left : (Part → Type 0) → Option Partial → Type 0
Left Q None = Unit {0}
Left Q (Some partial) = Each Q partial.parts

record Comes (Q : Part → Type 0) (outcome : Outcome) : Type 0 where
  left : Left Q outcome.left
  answer : MadeOf Q outcome.answer

module _ (Q : Part → Type 0) (part : Part) (is : Q part) (partial : Partial) (each : Each Q partial.parts) where
  all_placed : Each Q (placed part partial.parts)
  all_placed =
      let n : ℕ = prefix_len (λ other. nat_lt other.offset part.offset) partial.parts in
      each_appended Q (take n partial.parts) (part ∷ drop n partial.parts) (each_taken Q n partial.parts each) (is, each_dropped Q n partial.parts each)

  made_whole : (end : ℕ) (long : Bool) → MadeOf Q
      (if long then answer.Refused bad.Long else answer.Whole (first_of (placed part partial.parts)).head (datagram (placed part partial.parts) end))
  made_whole end true = tt
  made_whole end false = (placed part partial.parts, (end, (all_placed, (refl, refl))))

  by_end : (o : Option ℕ) → Comes Q (finished partial (placed part partial.parts) o)
  by_end None = record { left = all_placed; answer = tt }
  by_end (Some end) = record { left = tt; answer = made_whole end _ }

  by_tests : (a b c : Bool) → Comes Q
      (if a then staying partial answer.Held else if b then refusing partial bad.Overlap else if c then refusing partial bad.Many
      else finished partial (placed part partial.parts) (whole_end (placed part partial.parts)))
  by_tests true b c = record { left = each; answer = tt }
  by_tests false true c = record { left = tt; answer = tt }
  by_tests false false true = record { left = tt; answer = tt }
  by_tests false false false = by_end (whole_end (placed part partial.parts))

  by_refusal : (r : Option FragBad) → Comes Q (unless_refused r partial part)
  by_refusal (Some why) = record { left = each; answer = tt }
  by_refusal None =
      by_tests (list_any (λ other. is_same other part) partial.parts) (list_any (clash part) partial.parts) (nat_le most_parts (length partial.parts))

  comes : Comes Q (with_part partial part)
  comes = by_refusal partial.refused

-- ---- a lane
abbrev pub Waits : {K : Type 0} → (K → Part → Type 0) → List (K × Partial) → Type 0
Waits P es = Each (λ e. Each (P e.0) e.1.parts) es

is_equal : (o : Ordering) → is_eq o ≡ true → o ≡ order.Equal
is_equal order.Equal e = refl
is_equal order.Less e = absurd cc
is_equal order.Greater e = absurd cc

-- what is so of a piece under a key is so under each key that is equal to it
pub record IsOfKeys {K : Type 0} (P : K → Part → Type 0) (cmp : K → K → Ordering) : Type 0 where
  pub to : (a b : K) (part : Part) → cmp a b ≡ order.Equal → P a part → P b part
  pub fro : (a b : K) (part : Part) → cmp a b ≡ order.Equal → P b part → P a part

pub record Keeps {K : Type 0} (P : K → Part → Type 0) (key : K) (turn : LaneOutcome K) : Type 0 where
  pub waits : Waits P turn.contexts
  pub answer : MadeOf (P key) turn.answer

module _ {K : Type 0} (P : K → Part → Type 0) (cmp : K → K → Ordering) (keys : IsOfKeys P cmp) where
  waits_open : (time : ℕ) (es : List (K × Partial)) → Waits P es → Waits P (open_at time es)
  waits_open time [] each = tt
  waits_open time (e ∷ es) each = by_test (waits time e.1.begun) (waits_open time es each.1)
    where
      by_test : (b : Bool) → Waits P (open_at time es) → Waits P (if b then e ∷ open_at time es else open_at time es)
      by_test true rest = (each.0, rest)
      by_test false rest = rest

  waits_removed : (key : K) (es : List (K × Partial)) → Waits P es → Waits P (remove_entry (is_at (cmp key)) es)
  waits_removed key [] each = tt
  waits_removed key (e ∷ es) each = by_test (is_at (cmp key) e.0) (waits_removed key es each.1)
    where
      by_test : (b : Bool) → Waits P (remove_entry (is_at (cmp key)) es) → Waits P (cond b es (e ∷ remove_entry (is_at (cmp key)) es))
      by_test true rest = each.1
      by_test false rest = (each.0, rest)

  all_to : (a b : K) (parts : List Part) → cmp a b ≡ order.Equal → Each (P a) parts → Each (P b) parts
  all_to a b parts e each = each_weaker (P a) (P b) (λ part is. keys.to a b part e is) parts each

  all_fro : (a b : K) (parts : List Part) → cmp a b ≡ order.Equal → Each (P b) parts → Each (P a) parts
  all_fro a b parts e each = each_weaker (P b) (P a) (λ part is. keys.fro a b part e is) parts each

  waits_set : (key : K) (partial : Partial) → Each (P key) partial.parts → (es : List (K × Partial)) → Waits P es → Waits P (set_value (is_at (cmp key)) es partial)
  waits_set key partial is [] each = tt
  waits_set key partial is (e ∷ es) each = by_test (is_at (cmp key) e.0) refl (waits_set key partial is es each.1)
    where
      by_test : (b : Bool) → is_at (cmp key) e.0 ≡ b → Waits P (set_value (is_at (cmp key)) es partial) →
          Waits P (cond b ((e.0, partial) ∷ es) (e ∷ set_value (is_at (cmp key)) es partial))
      by_test true same rest = (all_to key e.0 partial.parts (is_equal (cmp key e.0) same) is, each.1)
      by_test false same rest = (each.0, rest)

  waits_inserted : (key : K) (partial : Partial) → Each (P key) partial.parts → (es : List (K × Partial)) → Waits P es → Waits P (insert_entry cmp es key partial)
  waits_inserted key partial is [] each = (is, tt)
  waits_inserted key partial is (e ∷ es) each = by_order (cmp key e.0) refl (waits_inserted key partial is es each.1)
    where
      by_order : (o : Ordering) → cmp key e.0 ≡ o → Waits P (insert_entry cmp es key partial) →
          Waits P (match_ordering o ((key, partial) ∷ e ∷ es) ((e.0, partial) ∷ es) (e ∷ insert_entry cmp es key partial))
      by_order order.Less same rest = (is, each)
      by_order order.Equal same rest = (all_to key e.0 partial.parts same is, each.1)
      by_order order.Greater same rest = (each.0, rest)

  found_is : (key : K) (es : List (K × Partial)) → Waits P es → (partial : Partial) → lookup (is_at (cmp key)) es ≡ Some partial → Each (P key) partial.parts
  found_is key [] each partial there = absurd cc
  found_is key (e ∷ es) each partial there = by_test (is_at (cmp key) e.0) refl (λ is. found_is key es each.1 partial is) there
    where
      by_test : (b : Bool) → is_at (cmp key) e.0 ≡ b → (lookup (is_at (cmp key)) es ≡ Some partial → Each (P key) partial.parts) →
          cond b (Some e.1) (lookup (is_at (cmp key)) es) ≡ Some partial → Each (P key) partial.parts
      by_test true same later is =
          let this : e.1 ≡ partial = cc in
          subst (λ (p : Partial). Each (P key) p.parts) this (all_fro key e.0 e.1.parts (is_equal (cmp key e.0) same) each.0)
      by_test false same later is = later is

  module _ (es : List (K × Partial)) (piece : Arrival K) (is : P piece.key piece.part) (each : Waits P es) where
    put_back_waits : (o : Option Partial) → Left (P piece.key) o → Waits P (put_back cmp es piece.key o)
    put_back_waits None left = waits_removed piece.key es each
    put_back_waits (Some partial) left = waits_set piece.key partial left es each

    put_new_waits : (o : Option Partial) → Left (P piece.key) o → Waits P (put_new cmp es piece.key o)
    put_new_waits None left = each
    put_new_waits (Some partial) left = waits_inserted piece.key partial left es each

    keeps_found : (o : Option Partial) → lookup (is_at (cmp piece.key)) (open_at piece.time es) ≡ o → Keeps P piece.key (found cmp es piece o)
    keeps_found (Some partial) e =
        let comes = comes (P piece.key) piece.part is partial (found_is piece.key (open_at piece.time es) (waits_open piece.time es each) partial e) in
        record { waits = put_back_waits (with_part partial piece.part).left comes.left; answer = comes.answer }
    keeps_found None e = by_room (nat_le most_contexts (length (open_at piece.time es)))
      where
        by_room : (b : Bool) → Keeps P piece.key
            (if b then answering (answer.Refused bad.Full) es else beginning cmp es piece.key (with_part (fresh piece.time piece.number) piece.part))
        by_room true = record { waits = each; answer = tt }
        by_room false =
            let comes = comes (P piece.key) piece.part is (fresh piece.time piece.number) tt in
            record { waits = put_new_waits (with_part (fresh piece.time piece.number) piece.part).left comes.left; answer = comes.answer }

    keeps_among : Keeps P piece.key (among cmp es piece)
    keeps_among = by_shape (is_odd piece.part) (is_long piece.part)
      where
        by_shape : (a b : Bool) → Keeps P piece.key
            (if a then answering (answer.Refused bad.Odd) es else if b then answering (answer.Refused bad.Long) es
            else found cmp es piece (lookup (is_at (cmp piece.key)) (open_at piece.time es)))
        by_shape true b = record { waits = each; answer = tt }
        by_shape false true = record { waits = each; answer = tt }
        by_shape false false = keeps_found (lookup (is_at (cmp piece.key)) (open_at piece.time es)) refl

    pub keeps_fed : Keeps P piece.key (fed cmp es piece)
    keeps_fed = record { waits = waits_open piece.time (among cmp es piece).contexts keeps_among.waits; answer = keeps_among.answer }
