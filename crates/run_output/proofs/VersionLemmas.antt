-- The lines of tables, load by load.
use Rattle.std.proofs.Common.{◌≡◌, inl, inr, ℕ, zero, suc, ◌+◌, ◌-◌, ◌<◌, ◌≤◌, Bool, true, false, not, List, [], ◌∷◌, ◌++◌, length, take, drop, Option, Some, None, slice_get, sym, ◌∙◌, ap, refl, subst, arith, append_assoc, append-nil}
use Rattle.std.specs.Option.{is_some}
use Rattle.std.specs.Prelude.{slice_index_or}
use Rattle.std.proofs.lemmas.Bool.{cases_lt}
use Rattle.std.proofs.lemmas.List.{drop_all, length-drop, take_all}
use Rattle.aftr_base.specs.Appended.{Extends}
use Rattle.aftr_text.specs.declared.jobs.LoadWords.{LoadWords}
use Rattle.reload_plan.specs.declared.loads.Slot.{Slot}
use Rattle.reload_plan.specs.declared.loads.Slot.TheVariants as slot
use Rattle.run_output.specs.Versions.{AreTold, EndsInForce, IsTold, NamedSlot, NoneIsDue, between, load_lines, named, point_of, slot_text, version_text}

abbrev pub IsRefused : Slot → Type 0
IsRefused (slot.Refused cause) = Unit {0}
IsRefused (slot.Version version) = ⊥

-- the loads from one place on and before another are refused
abbrev pub AreRefused : List Slot → ℕ → ℕ → Type 0
AreRefused slots from to = (k : ℕ) (s : Slot) → from ≤ k → k < to → slice_get slots k ≡ Some s → IsRefused s

slot_there : (slots : List Slot) (k : ℕ) (s : Slot) → slice_get slots k ≡ Some s → drop k slots ≡ s ∷ drop (suc k) slots
slot_there [] k s there = absurd (cc there)
slot_there (x ∷ xs) zero s there = ap (λ (y : Slot). y ∷ xs) (cc there)
slot_there (x ∷ xs) (suc k) s there = slot_there xs k s there

some_slot : (slots : List Slot) (k : ℕ) → k < length slots → (s : Slot) × (slice_get slots k ≡ Some s)
some_slot [] k inside = absurd (omega (arith, inside))
some_slot (x ∷ xs) zero inside = (x, refl)
some_slot (x ∷ xs) (suc k) inside = some_slot xs k (omega (arith, inside))

-- refused loads between two places hide none that is due
pub due_behind : (points : List ℕ) (slots : List Slot) (from to count : ℕ) → to ≡ from + count → to ≤ length slots → AreRefused slots from to →
    NoneIsDue points (drop to slots) → NoneIsDue points (drop from slots)
due_behind points slots from to zero is inside refused none =
    let same : to ≡ from = omega (arith, is) in subst (λ (k : ℕ). NoneIsDue points (drop k slots)) same none
due_behind points slots from to (suc count) is inside refused none =
    let here = some_slot slots from (omega (arith, is, inside)) in
    let rest : NoneIsDue points (drop (suc from) slots) =
    due_behind points slots (suc from) to count (omega (arith, is)) inside (λ k s after before at. refused k s (omega (arith, after)) before at) none in
    let opened : drop from slots ≡ here.0 ∷ drop (suc from) slots = slot_there slots from here.0 here.1 in
    subst (NoneIsDue points) (sym opened) (skipped points here.0 (drop (suc from) slots) (refused from here.0 (omega arith) (omega (arith, is)) here.1) rest) where
      skipped : (points : List ℕ) (s : Slot) (rest : List Slot) → IsRefused s → NoneIsDue points rest → NoneIsDue points (s ∷ rest)
      skipped points (slot.Refused cause) rest refused none = none
      skipped points (slot.Version version) rest refused none = absurd refused

-- behind the last load none is due
pub none_behind : (points : List ℕ) (slots : List Slot) (k : ℕ) → length slots ≤ k → NoneIsDue points (drop k slots)
none_behind points slots k past = subst (NoneIsDue points) (sym (drop_all k slots past)) tt

-- the load at a place is a table that is not in force
pub not_due : (points : List ℕ) (slots : List Slot) (k version : ℕ) → slice_get slots k ≡ Some (slot.Version version) → point_of points version ≡ None →
    NoneIsDue points (drop k slots)
not_due points slots k version there none = subst (NoneIsDue points) (sym (slot_there slots k (slot.Version version) there)) none

-- a load by its name and by what became of it

pub named_length : (loads : List LoadWords) (slots : List Slot) → length slots ≡ length loads → length (named loads slots) ≡ length loads
named_length [] slots same = refl
named_length (l ∷ loads) [] same = absurd (omega (arith, same))
named_length (l ∷ loads) (s ∷ slots) same = ap suc (named_length loads slots (omega (arith, same)))

named_there : (loads : List LoadWords) (slots : List Slot) (k : ℕ) (l : LoadWords) (s : Slot) → slice_get loads k ≡ Some l → slice_get slots k ≡ Some s →
    drop k (named loads slots) ≡ (record { name = l.name; slot = s }) ∷ drop (suc k) (named loads slots)
named_there [] slots k l s load slot_is = absurd (cc load)
named_there (x ∷ loads) [] k l s load slot_is = absurd (cc slot_is)
named_there (x ∷ loads) (y ∷ slots) zero l s load slot_is =
    let load_is : x ≡ l = cc load in
    let is : y ≡ s = cc slot_is in
    λ j. (record { name = (load_is j).name; slot = is j }) ∷ named loads slots
named_there (x ∷ loads) (y ∷ slots) (suc k) l s load slot_is = named_there loads slots k l s load slot_is

-- the loads between two places, the first one apart
opened : (loads : List LoadWords) (slots : List Slot) (at to : ℕ) (l : LoadWords) (s : Slot) → at < to → slice_get loads at ≡ Some l → slice_get slots at ≡ Some s →
    between at to (named loads slots) ≡ (record { name = l.name; slot = s }) ∷ between (at + 1) to (named loads slots)
opened loads slots at to l s inside load slot_is =
    let ns : List NamedSlot = named loads slots in
    let many : to - at ≡ suc (to - (at + 1)) = omega (arith, inside) in
    let place : suc at ≡ at + 1 = omega arith in
    let n : NamedSlot = record { name = l.name; slot = s } in
    ap (take (to - at)) (named_there loads slots at l s load slot_is)
    ∙ (ap (λ (k : ℕ). take k (n ∷ drop (suc at) ns)) many ∙ ap (λ (k : ℕ). n ∷ take (to - (at + 1)) (drop k ns)) place)

-- one line more
pub load_more : (points : List ℕ) (loads : List LoadWords) (slots : List Slot) (at to : ℕ) (l : LoadWords) (s : Slot) (old new all : List ℕ) → at < to →
    slice_get loads at ≡ Some l → slice_get slots at ≡ Some s → new ≡ old ++ slot_text points l.name s →
    old ++ load_lines points (between at to (named loads slots)) ≡ all → new ++ load_lines points (between (at + 1) to (named loads slots)) ≡ all
load_more points loads slots at to l s old new all inside load slot_is more left =
    let rest : List NamedSlot = between (at + 1) to (named loads slots) in
    ap (λ text. text ++ load_lines points rest) more
    ∙ (append_assoc old (slot_text points l.name s) (load_lines points rest)
    ∙ (ap (λ k. old ++ load_lines points k) (sym (opened loads slots at to l s inside load slot_is)) ∙ left))

-- no line is left
pub load_last : (points : List ℕ) (ns : List NamedSlot) (at to : ℕ) (text all : List ℕ) → to ≤ at → text ++ load_lines points (between at to ns) ≡ all → text ≡ all
load_last points ns at to text all past left =
    let none : to - at ≡ 0 = omega (arith, past) in
    sym (append-nil text) ∙ (sym (ap (λ (k : ℕ). text ++ load_lines points (take k (drop at ns))) none) ∙ left)

-- all loads from a place on
pub to_the_end : (ns : List NamedSlot) (from to : ℕ) → to ≡ length ns → between from to ns ≡ drop from ns
to_the_end ns from to is = take_all (to - from) (drop from ns) (omega (arith, is, length-drop from ns))

-- later points change nothing of the lines of tables in force
pub point_kept : (points later : List ℕ) (version point : ℕ) → point_of points version ≡ Some point → point_of (points ++ later) version ≡ Some point
point_kept points later version point is = kept points later (version - 1) point is where
  kept : (points later : List ℕ) (k point : ℕ) → slice_get points k ≡ Some point → slice_get (points ++ later) k ≡ Some point
  kept [] later k point is = absurd (cc is)
  kept (p ∷ points) later zero point is = is
  kept (p ∷ points) later (suc k) point is = kept points later k point is

-- what is read at a place
pub load_read : (loads : List LoadWords) (k : ℕ) (d : LoadWords) → k < length loads → slice_get loads k ≡ Some (slice_index_or loads k d)
load_read [] k d inside = absurd (omega (arith, inside))
load_read (x ∷ loads) zero d inside = refl
load_read (x ∷ loads) (suc k) d inside = load_read loads k d (omega (arith, inside))

pub slot_read : (slots : List Slot) (k : ℕ) (d : Slot) → k < length slots → slice_get slots k ≡ Some (slice_index_or slots k d)
slot_read [] k d inside = absurd (omega (arith, inside))
slot_read (x ∷ slots) zero d inside = refl
slot_read (x ∷ slots) (suc k) d inside = slot_read slots k d (omega (arith, inside))

-- a place more that is refused
pub refused_more : (slots : List Slot) (from at : ℕ) (s : Slot) → slice_get slots at ≡ Some s → IsRefused s → AreRefused slots from at → AreRefused slots from (at + 1)
refused_more slots from at s there refused are k t after before is =
    elim (cases_lt k at) [
      | inl less ↦ are k t after less is
      | inr past ↦
          let here : k ≡ at = omega (arith, past, before) in
          let same : Some t ≡ Some s = sym is ∙ (ap (slice_get slots) here ∙ there) in
          let slot_is : s ≡ t = cc same in
          subst IsRefused slot_is refused
    ]

pub none_refused : (slots : List Slot) (at : ℕ) → AreRefused slots at at
none_refused slots at k s after before is = absurd (omega (arith, after, before))

pub none_told : (points : List ℕ) (slots : List Slot) (at : ℕ) → AreTold points slots at at
none_told points slots at k s after before is = absurd (omega (arith, after, before))

refused_told : (points : List ℕ) (s : Slot) → IsRefused s → IsTold points s
refused_told points (slot.Refused cause) refused = tt
refused_told points (slot.Version version) refused = absurd refused

-- a table in force, behind refused loads
pub told_more : (points : List ℕ) (slots : List Slot) (from last at version : ℕ) → slice_get slots at ≡ Some (slot.Version version) →
    (point : ℕ) × (point_of points version ≡ Some point) → AreTold points slots from last → AreRefused slots last at → AreTold points slots from (at + 1)
told_more points slots from last at version there point told refused k s after before is =
    elim (cases_lt k last) [
      | inl less ↦ told k s after less is
      | inr past ↦ elim (cases_lt k at) [
        | inl less ↦ refused_told points s (refused k s past less is)
        | inr end ↦
            let here : k ≡ at = omega (arith, end, before) in
            let same : Some s ≡ Some (slot.Version version) = sym is ∙ (ap (slice_get slots) here ∙ there) in
            let slot_is : slot.Version version ≡ s = sym (cc same) in
            subst (IsTold points) slot_is point
      ]
    ]

-- whether there is a value
pub none_if : (o : Option ℕ) (none : Bool) → is_some o ≡ not none → none ≡ true → o ≡ None
none_if None none is true_is = refl
none_if (Some x) none is true_is = absurd (cc (is, ap not true_is))

pub some_if : (o : Option ℕ) (none : Bool) → is_some o ≡ not none → none ≡ false → (x : ℕ) × (o ≡ Some x)
some_if None none is false_is = absurd (cc (is, ap not false_is))
some_if (Some x) none is false_is = (x, refl)

-- loads that are told

AllTold : List ℕ → List NamedSlot → Type 0
AllTold points [] = Unit {0}
AllTold points (n ∷ ns) = IsTold points n.slot × AllTold points ns

all_told : (points : List ℕ) (loads : List LoadWords) (slots : List Slot) (from to count : ℕ) → to ≡ from + count → to ≤ length slots → length slots ≡ length loads →
    AreTold points slots from to → AllTold points (between from to (named loads slots))
unfolding AllTold
all_told points loads slots from to zero is inside same told =
    let none : to - from ≡ 0 = omega (arith, is) in
    let empty : between from to (named loads slots) ≡ [] = ap (λ (k : ℕ). take k (drop from (named loads slots))) none in
    subst (AllTold points) (sym empty) tt
all_told points loads slots from to (suc count) is inside same told =
    let s = some_slot slots from (omega (arith, is, inside)) in
    let l = some_load loads from (omega (arith, is, inside, same)) in
    let rest : AllTold points (between (from + 1) to (named loads slots)) =
    all_told points loads slots (from + 1) to count (omega (arith, is)) inside same (λ k t after before at. told k t (omega (arith, after)) before at) in
    subst (AllTold points) (sym (opened loads slots from to l.0 s.0 (omega (arith, is)) l.1 s.1)) (told from s.0 (omega arith) (omega (arith, is)) s.1, rest) where
      some_load : (loads : List LoadWords) (k : ℕ) → k < length loads → (l : LoadWords) × (slice_get loads k ≡ Some l)
      some_load [] k inside = absurd (omega (arith, inside))
      some_load (x ∷ loads) zero inside = (x, refl)
      some_load (x ∷ loads) (suc k) inside = some_load loads k (omega (arith, inside))

lines_kept : (points later : List ℕ) (ns : List NamedSlot) → AllTold points ns → load_lines points ns ≡ load_lines (points ++ later) ns
unfolding AllTold
lines_kept points later [] told = refl
lines_kept points later (n ∷ ns) told =
    let first = kept points later n.name n.slot told.0 in
    let rest = lines_kept points later ns told.1 in
    λ j. first j ++ rest j where
      kept : (points later name : List ℕ) (s : Slot) → IsTold points s → slot_text points name s ≡ slot_text (points ++ later) name s
      kept points later name (slot.Refused cause) told = refl
      kept points later name (slot.Version version) told =
          ap (version_text name version) (told.1 ∙ sym (point_kept points later version told.0 told.1))

-- later points change nothing of the lines of loads that are told
pub told_lines : (points later : List ℕ) (loads : List LoadWords) (slots : List Slot) (from to : ℕ) → from ≤ to → to ≤ length slots → length slots ≡ length loads → AreTold points slots from to →
    load_lines points (between from to (named loads slots)) ≡ load_lines (points ++ later) (between from to (named loads slots))
told_lines points later loads slots from to order inside same told =
    lines_kept points later (between from to (named loads slots)) (all_told points loads slots from to (to - from) (omega (arith, order)) inside same told)

-- a table in force is the last of those that are told
pub ends_more : (points : List ℕ) (slots : List Slot) (from last at version : ℕ) → from ≤ last → last ≤ at → slice_get slots at ≡ Some (slot.Version version) →
    (point : ℕ) × (point_of points version ≡ Some point) → EndsInForce points slots from (at + 1)
ends_more points slots from last at version after inside there point =
    let place : at ≡ at + 1 - 1 = omega arith in
    inr (
      omega (arith, after, inside),
      record {
        version = version;
        slot_is = subst (λ (k : ℕ). slice_get slots k ≡ Some (slot.Version version)) place there;
        point = point.0;
        point_is = point.1;
      },
    )

-- what is put behind a text stands behind what stood in front of that
pub put_on : (old text after part : List ℕ) → Extends old text → after ≡ text ++ part → Extends old after
put_on old text after part kept is = (kept.0 ++ part, is ∙ (ap (λ (l : List ℕ). l ++ part) kept.1 ∙ append_assoc old kept.0 part))
