-- A part and its neighbours.
use Rattle.std.proofs.Common.{◌≡◌, ℕ, ◌-◌, ◌<◌, ◌≤◌, Bool, true, false, ◌||◌, List, length, get_or, refl, sym, ◌∙◌, ap, ⊎_elim, arith}
use Rattle.std.proofs.lemmas.Bool.Decides.{nat_tests}
use Rattle.std.proofs.lemmas.Bool.{cases_lt, cases_eq, false≢true}
use Rattle.std.proofs.lemmas.List.{get_or_read}
use Rattle.std.proofs.lemmas.List.Folds.{list_any_none, list_any_at}
use Rattle.std.specs.List.{list_any}
use Rattle.std.proofs.lemmas.List.Elements.{All-from_get_or}
use Rattle.reassembly_lane.specs.declared.parts.Part.{Part}
use Rattle.reassembly_lane.specs.Parts.{start, past, is_same, clash, no_part}
use Rattle.reassembly_lane.specs.Sound.{part_at, IsPlace, IsSoundPart, IsSound, clash_in_front, clash_behind}

pub record IsBefore (a b : Part) : Type 0 where
  pub far : past a ≤ start b
  pub goes_on : a.more ≡ true

-- a part without a clash stands before or behind the other, by their offsets
pub before_from_clash : (part other : Part) → 0 < length part.body → 0 < length other.body → other.offset < part.offset → clash part other ≡ false → IsBefore other part
before_from_clash part other f g h e = record { far = grind (arith, nat_tests); goes_on = grind (arith, nat_tests) }

pub behind_from_clash : (part other : Part) → 0 < length part.body → 0 < length other.body → part.offset ≤ other.offset → clash part other ≡ false → IsBefore part other
behind_from_clash part other f g h e = record { far = grind (arith, nat_tests); goes_on = grind (arith, nat_tests) }

pub clash_from_before : (part other : Part) → 0 < length part.body → 0 < length other.body → IsBefore other part → clash part other ≡ false
clash_from_before part other f g h = let far = h.far in let goes = h.goes_on in grind (arith, nat_tests)

pub clash_from_behind : (part other : Part) → 0 < length part.body → 0 < length other.body → IsBefore part other → clash part other ≡ false
clash_from_behind part other f g h = let far = h.far in let goes = h.goes_on in grind (arith, nat_tests)

-- ---- among parts that are sound, by the place of the new one
pub offset_in_front : (parts : List Part) (offset place i : ℕ) → IsSound parts → IsPlace parts offset place → i < place → (part_at parts i).offset < offset
offset_in_front parts offset place i s p h =
    let near : (part_at parts (place - 1)).offset < offset = p.before (omega arith) in
    let within : place ≤ length parts = p.within in
    ⊎_elim
    (λ (e : i ≡ place - 1). rw e near)
    (λ (ne : i ≡ place - 1 → ⊥).
    let far : past (part_at parts i) ≤ start (part_at parts (place - 1)) = s.apart i (place - 1) (omega arith) (omega arith) in
    omega arith)
    (cases_eq i (place - 1))

pub offset_behind : (parts : List Part) (offset place i : ℕ) → IsSound parts → IsPlace parts offset place → place ≤ i → i < length parts → offset ≤ (part_at parts i).offset
offset_behind parts offset place i s p h l =
    let near : offset ≤ (part_at parts place).offset = p.behind (omega arith) in
    ⊎_elim
    (λ (e : i ≡ place). rw e near)
    (λ (ne : i ≡ place → ⊥).
    let far : past (part_at parts place) ≤ start (part_at parts i) = s.apart place i (omega arith) l in
    omega arith)
    (cases_eq i place)

-- each part in front of the place stands before the new one where its neighbour does
pub all_in_front : (parts : List Part) (part : Part) (place : ℕ) → IsSound parts → place ≤ length parts → (0 < place → IsBefore (part_at parts (place - 1)) part) → (i : ℕ) → i < place → IsBefore (part_at parts i) part
all_in_front parts part place s w near i h =
    let n : IsBefore (part_at parts (place - 1)) part = near (omega arith) in
    ⊎_elim
    (λ (e : i ≡ place - 1). rw e n)
    (λ (ne : i ≡ place - 1 → ⊥).
    let far : past (part_at parts i) ≤ start (part_at parts (place - 1)) = s.apart i (place - 1) (omega arith) (omega arith) in
    let goes : (part_at parts i).more ≡ true = s.follows i (omega arith) in
    let nf : past (part_at parts (place - 1)) ≤ start part = n.far in
    record { far = omega arith; goes_on = goes })
    (cases_eq i (place - 1))

pub all_behind : (parts : List Part) (part : Part) (place : ℕ) → IsSound parts → (place < length parts → IsBefore part (part_at parts place)) → (i : ℕ) → place ≤ i → i < length parts → IsBefore part (part_at parts i)
all_behind parts part place s near i h l =
    let n : IsBefore part (part_at parts place) = near (omega arith) in
    ⊎_elim
    (λ (e : i ≡ place). rw e n)
    (λ (ne : i ≡ place → ⊥).
    let far : past (part_at parts place) ≤ start (part_at parts i) = s.apart place i (omega arith) l in
    let nf : past part ≤ start (part_at parts place) = n.far in
    record { far = omega arith; goes_on = n.goes_on })
    (cases_eq i place)

-- a new part without a clash, among all
pub record IsFree (parts : List Part) (part : Part) (place : ℕ) : Type 0 where
  pub in_front : (i : ℕ) → i < place → IsBefore (part_at parts i) part
  pub behind : (i : ℕ) → place ≤ i → i < length parts → IsBefore part (part_at parts i)

none_at : (parts : List Part) (part : Part) → list_any (clash part) parts ≡ false → (i : ℕ) → i < length parts → clash part (part_at parts i) ≡ false
none_at parts part e i l =
    elim (clash part (part_at parts i)) as (λ (b : Bool). clash part (part_at parts i) ≡ b → b ≡ false) [
      | true ↦ λ h. absurd (false≢true (sym e ∙ list_any_at (clash part) parts i no_part l h))
      | false ↦ λ h. refl
    ] refl

pub free_from_none : (parts : List Part) (part : Part) (place : ℕ) → IsSound parts → IsSoundPart part → IsPlace parts part.offset place → list_any (clash part) parts ≡ false → IsFree parts part place
free_from_none parts part place s q p e = record {
  in_front = λ i h.
      let w : place ≤ length parts = p.within in
      before_from_clash part (part_at parts i) q.filled (s.filled i (omega arith)) (offset_in_front parts part.offset place i s p h) (none_at parts part e i (omega arith));
  behind = λ i h l.
      behind_from_clash part (part_at parts i) q.filled (s.filled i l) (offset_behind parts part.offset place i s p h l) (none_at parts part e i l);
}

none_from_free : (parts : List Part) (part : Part) (place : ℕ) → IsSound parts → IsSoundPart part → IsFree parts part place → list_any (clash part) parts ≡ false
none_from_free parts part place s q f =
    list_any_none (clash part) parts (All-from_get_or (λ other. clash part other ≡ false) parts no_part (λ i l.
    ⊎_elim
    (λ (h : i < place). clash_from_before part (part_at parts i) q.filled (s.filled i l) (f.in_front i h))
    (λ (h : place ≤ i). clash_from_behind part (part_at parts i) q.filled (s.filled i l) (f.behind i h l))
    (cases_lt i place)))

in_front_or_not : (parts : List Part) (place : ℕ) (part : Part) → clash_in_front parts place part ≡ false → 0 < place → clash part (part_at parts (place - 1)) ≡ false
in_front_or_not parts place part e h = grind (arith, nat_tests)

behind_or_not : (parts : List Part) (place : ℕ) (part : Part) → clash_behind parts place part ≡ false → place < length parts → clash part (part_at parts place) ≡ false
behind_or_not parts place part e h = grind (arith, nat_tests)

-- it is enough to ask the neighbours
pub clash_is_near : (parts : List Part) (part : Part) (place : ℕ) → IsSound parts → IsSoundPart part → IsPlace parts part.offset place → list_any (clash part) parts ≡ (clash_in_front parts place part || clash_behind parts place part)
clash_is_near parts part place s q p =
    let w : place ≤ length parts = p.within in
    elim (clash_in_front parts place part) as (λ (b : Bool). clash_in_front parts place part ≡ b → list_any (clash part) parts ≡ (b || clash_behind parts place part)) [
      | true ↦ λ h. list_any_at (clash part) parts (place - 1) no_part (front_place parts place part w h) (front_clash parts place part h)
      | false ↦ λ h.
          elim (clash_behind parts place part) as (λ (b : Bool). clash_behind parts place part ≡ b → list_any (clash part) parts ≡ b) [
            | true ↦ λ k. list_any_at (clash part) parts place no_part (behind_place parts place part k) (behind_clash parts place part k)
            | false ↦ λ k. none_from_free parts part place s q (record {
              in_front = all_in_front parts part place s w (λ z. before_from_clash part (part_at parts (place - 1)) q.filled (s.filled (place - 1) (omega arith)) (p.before z) (in_front_or_not parts place part h z));
              behind = all_behind parts part place s (λ z. behind_from_clash part (part_at parts place) q.filled (s.filled place z) (p.behind z) (behind_or_not parts place part k z));
            })
          ] refl
    ] refl
  where
    front_place : (parts : List Part) (place : ℕ) (part : Part) → place ≤ length parts → clash_in_front parts place part ≡ true → place - 1 < length parts
    front_place parts place part w h = grind (arith, nat_tests)

    front_clash : (parts : List Part) (place : ℕ) (part : Part) → clash_in_front parts place part ≡ true → clash part (part_at parts (place - 1)) ≡ true
    front_clash parts place part h = grind (arith, nat_tests)

    behind_place : (parts : List Part) (place : ℕ) (part : Part) → clash_behind parts place part ≡ true → place < length parts
    behind_place parts place part h = grind (arith, nat_tests)

    behind_clash : (parts : List Part) (place : ℕ) (part : Part) → clash_behind parts place part ≡ true → clash part (part_at parts place) ≡ true
    behind_clash parts place part h = grind (arith, nat_tests)

-- ---- repeats
other_offset : (a b : Part) → (a.offset ≡ b.offset → ⊥) → is_same a b ≡ false
other_offset a b ne = grind (arith, nat_tests)

pub no_repeat_past : (parts : List Part) (part : Part) (place : ℕ) → IsSound parts → IsPlace parts part.offset place → length parts ≤ place → list_any (λ other. is_same other part) parts ≡ false
no_repeat_past parts part place s p h =
    list_any_none (λ other. is_same other part) parts (All-from_get_or (λ other. is_same other part ≡ false) parts no_part (λ i l.
    let low : (part_at parts i).offset < part.offset = offset_in_front parts part.offset place i s p (omega arith) in
    other_offset (part_at parts i) part (omega arith)))

pub repeat_at_place : (parts : List Part) (part : Part) (place : ℕ) → IsSound parts → IsPlace parts part.offset place → place < length parts → list_any (λ other. is_same other part) parts ≡ is_same (part_at parts place) part
repeat_at_place parts part place s p h =
    elim (is_same (part_at parts place) part) as (λ (b : Bool). is_same (part_at parts place) part ≡ b → list_any (λ other. is_same other part) parts ≡ b) [
      | true ↦ λ e. list_any_at (λ other. is_same other part) parts place no_part h e
      | false ↦ λ e.
          list_any_none (λ other. is_same other part) parts (All-from_get_or (λ other. is_same other part ≡ false) parts no_part (λ i l.
          ⊎_elim
          (λ (k : i < place).
          let low : (part_at parts i).offset < part.offset = offset_in_front parts part.offset place i s p k in
          other_offset (part_at parts i) part (omega arith))
          (λ (k : place ≤ i).
          ⊎_elim
          (λ (z : i ≡ place). rw z e)
          (λ (z : i ≡ place → ⊥).
          let far : past (part_at parts place) ≤ start (part_at parts i) = s.apart place i (omega arith) l in
          let full : 0 < length (part_at parts place).body = s.filled place h in
          let high : part.offset ≤ (part_at parts place).offset = p.behind h in
          other_offset (part_at parts i) part (omega arith))
          (cases_eq i place))
          (cases_lt i place)))
    ] refl

-- ---- as the code reads them
pub repeat_read : (parts : List Part) (part : Part) (place : ℕ) (x : Part) → IsSound parts → IsPlace parts part.offset place → place < length parts → x ≡ get_or parts place x → is_same x part ≡ list_any (λ other. is_same other part) parts
repeat_read parts part place x s p h r =
    ap (λ (o : Part). is_same o part) (get_or_read parts place x h r no_part) ∙ sym (repeat_at_place parts part place s p h)

pub clash_is_behind : (parts : List Part) (part : Part) (place : ℕ) → IsSound parts → IsSoundPart part → IsPlace parts part.offset place → false ≡ clash_in_front parts place part → clash_behind parts place part ≡ list_any (clash part) parts
clash_is_behind parts part place s q p e =
    ap (λ (b : Bool). b || clash_behind parts place part) e ∙ sym (clash_is_near parts part place s q p)
