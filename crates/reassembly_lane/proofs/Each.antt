-- What is true of each datagram that waits and of each answer, through one more piece.
use Rattle.std.proofs.Common.{◌≡◌, ℕ, Bool, true, false, cond, List, [], ◌∷◌, length, refl, subst, Option, Some, None}
use Rattle.std.specs.Prelude.{nat_le, if◌then◌else◌}
use Rattle.std.specs.List.{All, list_any}
use Rattle.std.specs.Option.{IfSome}
use Rattle.std.specs.declared.cmp.Ordering.{Ordering}
use Rattle.std.specs.Map.{lookup, values_of}
use Rattle.std.specs.BTreeMap.{is_at}
use Rattle.std.proofs.lemmas.List.Elements.{All-cons, All-head, All-nil, All-tail}
use Rattle.std.proofs.lemmas.Map.Views.{All-map-remove_entry, All-values-insert_entry, All-values-set_value, IfSome-lookup_from_All}
use Rattle.reassembly_lane.specs.declared.answer.Answer.{Answer}
use Rattle.reassembly_lane.specs.declared.answer.Answer.TheVariants as answer
use Rattle.reassembly_lane.specs.declared.answer.FragBad.{FragBad}
use Rattle.reassembly_lane.specs.declared.answer.FragBad.TheVariants as bad
use Rattle.reassembly_lane.specs.declared.parts.Part.{Part}
use Rattle.reassembly_lane.specs.Contexts.{Outcome, Partial, staying, refusing, finished, unless_refused, with_part, placed, most_parts}
use Rattle.reassembly_lane.specs.Lanes.{Arrival, LaneOutcome, waits, answering, open_at, most_contexts, is_odd, is_long, fresh, put_back, put_new, beginning, found, among, fed}
use Rattle.reassembly_lane.specs.Parts.{is_same, clash, whole_answer, whole_end}
use Rattle.reassembly_lane.specs.Sound.{IsSoundPart}
use Rattle.reassembly_lane.proofs.GoesOn.{sound_part}

-- what is true of each datagram, and of each answer, and stays so with this part
pub record Stays (P : Partial → Type 0) (Q : Answer → Type 0) (part : Part) : Type 0 where
  pub held : Q answer.Held
  pub refused : (why : FragBad) → Q (answer.Refused why)
  pub emptied : (partial : Partial) (why : FragBad) → P partial → P (record partial { parts = []; refused = Some why })
  pub longer : IsSoundPart part → (partial : Partial) → P partial → P (record partial { parts = placed part partial.parts })
  pub whole : IsSoundPart part → (partial : Partial) (end : ℕ) → P partial → whole_end (placed part partial.parts) ≡ Some end → Q (whole_answer (placed part partial.parts) end)

-- ---- what comes of one datagram
pub record Comes (P : Partial → Type 0) (Q : Answer → Type 0) (outcome : Outcome) : Type 0 where
  pub left : IfSome outcome.left P
  pub answer : Q outcome.answer

module _ (P : Partial → Type 0) (Q : Answer → Type 0) (part : Part) (stays : Stays P Q part) (sound : IsSoundPart part) (partial : Partial) (is : P partial) where
  comes_finished : (o : Option ℕ) → whole_end (placed part partial.parts) ≡ o → Comes P Q (finished partial (placed part partial.parts) o)
  comes_finished None e = record { left = stays.longer sound partial is; answer = stays.held }
  comes_finished (Some end) e = record { left = tt; answer = stays.whole sound partial end is e }

  comes_by_tests : (a b c : Bool) → Comes P Q
      (if a then staying partial answer.Held else if b then refusing partial bad.Overlap else if c then refusing partial bad.Many
      else finished partial (placed part partial.parts) (whole_end (placed part partial.parts)))
  comes_by_tests true b c = record { left = is; answer = stays.held }
  comes_by_tests false true c = record { left = stays.emptied partial bad.Overlap is; answer = stays.refused bad.Overlap }
  comes_by_tests false false true = record { left = stays.emptied partial bad.Many is; answer = stays.refused bad.Many }
  comes_by_tests false false false = comes_finished (whole_end (placed part partial.parts)) refl

  comes_unless : (r : Option FragBad) → Comes P Q (unless_refused r partial part)
  comes_unless (Some why) = record { left = is; answer = stays.refused why }
  comes_unless None =
      comes_by_tests (list_any (λ other. is_same other part) partial.parts) (list_any (clash part) partial.parts) (nat_le most_parts (length partial.parts))

  pub comes_with : Comes P Q (with_part partial part)
  comes_with = comes_unless partial.refused

-- ---- through an edit
module _ {K : Type 0} (P : Partial → Type 0) where
  pub each_put_back : (cmp : K → K → Ordering) (es : List (K × Partial)) (key : K) (o : Option Partial) → All P (values_of es) → IfSome o P → All P (values_of (put_back cmp es key o))
  each_put_back cmp es key None each p = All-map-remove_entry (is_at (cmp key)) (λ e. e.1) P es each
  each_put_back cmp es key (Some partial) each p = All-values-set_value (is_at (cmp key)) P es partial each p

  pub each_put_new : (cmp : K → K → Ordering) (es : List (K × Partial)) (key : K) (o : Option Partial) → All P (values_of es) → IfSome o P → All P (values_of (put_new cmp es key o))
  each_put_new cmp es key None each p = each
  each_put_new cmp es key (Some partial) each p = All-values-insert_entry cmp key partial P es each p

  pub each_open : (time : ℕ) (es : List (K × Partial)) → All P (values_of es) → All P (values_of (open_at time es))
  each_open time [] each = All-nil P
  each_open time (a ∷ es) each = by_test (waits time a.1.begun) (each_open time es (All-tail P a.1 (values_of es) each))
    where
      by_test : (b : Bool) → All P (values_of (open_at time es)) → All P (values_of (cond b (a ∷ open_at time es) (open_at time es)))
      by_test true ih = All-cons P a.1 (values_of (open_at time es)) (All-head P a.1 (values_of es) each) ih
      by_test false ih = ih

-- ---- through a piece
pub record EachStays {K : Type 0} (P : Partial → Type 0) (Q : Answer → Type 0) (turn : LaneOutcome K) : Type 0 where
  pub each : All P (values_of turn.contexts)
  pub answer : Q turn.answer

module _ {K : Type 0} (P : Partial → Type 0) (Q : Answer → Type 0) (cmp : K → K → Ordering) (es : List (K × Partial)) (piece : Arrival K)
    (stays : Stays P Q piece.part) (new : P (fresh piece.time piece.number)) (each : All P (values_of es)) where
  each_found : IsSoundPart piece.part → (o : Option Partial) → lookup (is_at (cmp piece.key)) (open_at piece.time es) ≡ o → EachStays P Q (found cmp es piece o)
  each_found sound (Some partial) e =
      let is : P partial =
      subst (λ (o : Option Partial). IfSome o P) e (IfSome-lookup_from_All P (is_at (cmp piece.key)) (open_at piece.time es) (each_open P piece.time es each)) in
      let comes : Comes P Q (with_part partial piece.part) = comes_with P Q piece.part stays sound partial is in
      record { each = each_put_back P cmp es piece.key (with_part partial piece.part).left each comes.left; answer = comes.answer }
  each_found sound None e = by_room (nat_le most_contexts (length (open_at piece.time es)))
    where
      begun : Partial
      begun = fresh piece.time piece.number

      comes : Comes P Q (with_part begun piece.part)
      comes = comes_with P Q piece.part stays sound begun new

      by_room : (b : Bool) → EachStays P Q (if b then answering (answer.Refused bad.Full) es else beginning cmp es piece.key (with_part (fresh piece.time piece.number) piece.part))
      by_room true = record { each = each; answer = stays.refused bad.Full }
      by_room false = record { each = each_put_new P cmp es piece.key (with_part begun piece.part).left each comes.left; answer = comes.answer }

  pub each_among : EachStays P Q (among cmp es piece)
  each_among = by_tests (is_odd piece.part) refl (is_long piece.part) refl
    where
      by_tests : (a : Bool) → is_odd piece.part ≡ a → (b : Bool) → is_long piece.part ≡ b → EachStays P Q
          (if a then answering (answer.Refused bad.Odd) es else if b then answering (answer.Refused bad.Long) es
          else found cmp es piece (lookup (is_at (cmp piece.key)) (open_at piece.time es)))
      by_tests true odd b long = record { each = each; answer = stays.refused bad.Odd }
      by_tests false odd true long = record { each = each; answer = stays.refused bad.Long }
      by_tests false odd false long = each_found (sound_part piece.part odd long) (lookup (is_at (cmp piece.key)) (open_at piece.time es)) refl

  pub each_fed : EachStays P Q (fed cmp es piece)
  each_fed = record { each = each_open P piece.time (among cmp es piece).contexts each_among.each; answer = each_among.answer }
