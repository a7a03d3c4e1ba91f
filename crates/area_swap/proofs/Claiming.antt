-- What the steps of a claim make of the seat, from what each of them told.
use Rattle.std.proofs.Common.{◌≡◌, ◌≢◌, ℕ, ◌+◌, ◌%◌, ◌<◌, [], subst, sym, refl, ap, ◌∙◌, arith, inl, inr}
use Rattle.std.proofs.lemmas.Bool.{cases_eq}
use Rattle.swap_core.specs.declared.actors.ActorState.{ActorState}
use Rattle.swap_core.specs.declared.actors.ActorState.TheVariants.{Idle, Looked, Asks, Holds}
use Rattle.area_swap.specs.declared.answers.Seen.{Seen}
use Rattle.area_swap.specs.declared.board.View.{View}
use Rattle.area_swap.specs.Views.{unpacked, acting, reading, asking}
use Rattle.area_swap.specs.Rule.{Sees}
use Rattle.area_swap.specs.Answers.{HoldsNow, HasMoved}
use Rattle.area_swap.specs.SeatSteps.{Stepped, Seated, LookedAt, Entered, Confirmed, LeftIt}
use Rattle.area_swap.specs.Values.{HoldsAtMost, IsRowOf, IsWorker}

same_looked : (s : ActorState) (v w : ℕ) → s ≡ Looked v → s ≡ Looked w → v ≡ w
same_looked s v w e k = let both : Looked v ≡ Looked w = sym e ∙ k in cc

same_asked : (s : ActorState) (a b : ℕ) → s ≡ Asks a → s ≡ Asks b → a ≡ b
same_asked s a b e k = let both : Asks a ≡ Asks b = sym e ∙ k in cc

-- a seat that looked at s
abbrev looking : View → Seen → View
looking v s = acting (reading v s) (Looked s.version)

module _ (v : View) (s t : Seen) (first : Sees v s) (second : Sees (asking v s) t) where
  holds_now : t.version % 2 ≡ s.version % 2 → HoldsNow t.version v (acting (reading (asking v s) t) (Holds (s.version % 2) t.version))
  holds_now same =
      let twice : v.looks + 1 + 1 ≡ v.looks + 2 = omega arith in
      record {
        after = λ i. record (acting (reading (asking v s) t) (Holds (sym same i) t.version)) { looks = twice i };
        second = refl;
        sees_first = first;
        sees_second = second;
        same_area = sym same;
        earlier = first.later;
        later = second.later;
        drawn = second.drawn;
        there = second.there;
        holds = ap (λ (a : ℕ). Holds a t.version) (sym same);
        held = refl;
        size = second.planned.sizes t.version [] second.there;
      }

  has_moved : v.actor.state ≡ Idle → t.version % 2 ≢ s.version % 2 → HasMoved s.version t.version v (acting (reading (asking v s) t) Idle)
  has_moved idle other =
      let twice : v.looks + 1 + 1 ≡ v.looks + 2 = omega arith in
      let same : record { state = Idle; draws = v.actor.draws } ≡ v.actor =
      λ i. record { state = sym idle i; draws = v.actor.draws } in
      record {
        after = λ i. record (reading (asking v s) t) { looks = twice i; actor = same i };
        first = refl;
        second = refl;
        sees_first = first;
        sees_second = second;
        other_area = λ e. other (sym e);
        rises =
            elim (cases_eq s.version t.version) [
              | inl e ↦ absurd (other (ap (λ (n : ℕ). n % 2) (sym e)))
              | inr n ↦ omega (arith, second.later.version)
            ];
        earlier = first.later;
        later = second.later;
      }

module _ {st1 : Stepped} {m0 m1 : Seated} {n1 : ℕ} (k1 : LookedAt st1 m0 n1 m1) where
  looked_view : m1 ≡ (looking m0.0 (unpacked n1), m0.1)
  looked_view = k1.after

  pub looks_at : m1.0.actor.state ≡ Looked (unpacked n1).version
  looks_at = ap (λ (m : Seated). m.0.actor.state) looked_view

  pub looked_plan : m1.0.plan ≡ m0.0.plan
  looked_plan = ap (λ (m : Seated). m.0.plan) looked_view

  pub looked_share : 0 < m0.0.share → 0 < m1.0.share
  looked_share l = let P : Seated → Type 0 = λ m. 0 < m.0.share in subst P (sym looked_view) l

module _ {st1 st2 : Stepped} {m0 m1 m2 : Seated} {n1 n2 : ℕ} (k1 : LookedAt st1 m0 n1 m1) (k2 : Entered st2 m1 n2 m2) where
  same_version : k2.version ≡ (unpacked n1).version
  same_version = same_looked m1.0.actor.state k2.version (unpacked n1).version k2.looked (looks_at k1)

  asked_view : m2 ≡ (asking m0.0 (unpacked n1), m0.1)
  asked_view =
      k2.after ∙ ap (λ (w : ℕ). (acting m1.0 (Asks (w % 2)), m1.1)) same_version
      ∙ ap (λ (m : Seated). (acting m.0 (Asks ((unpacked n1).version % 2)), m.1)) (looked_view k1)

  pub asks_for : m2.0.actor.state ≡ Asks ((unpacked n1).version % 2)
  asks_for = ap (λ (m : Seated). m.0.actor.state) asked_view

  pub asked_plan : m2.0.plan ≡ m0.0.plan
  asked_plan = ap (λ (m : Seated). m.0.plan) asked_view

  pub asked_share : 0 < m0.0.share → 0 < m2.0.share
  asked_share l = let P : Seated → Type 0 = λ m. 0 < m.0.share in subst P (sym asked_view) l

module _ {st1 st2 st3 : Stepped} {m0 m1 m2 m3 : Seated} {n1 n2 n3 : ℕ} (k1 : LookedAt st1 m0 n1 m1) (k2 : Entered st2 m1 n2 m2) (k3 : Confirmed st3 m2 n3 m3) where
  same_area : k3.area ≡ (unpacked n1).version % 2
  same_area = same_asked m2.0.actor.state k3.area ((unpacked n1).version % 2) k3.asked (asks_for k1 k2)

  second_look : Sees (asking m0.0 (unpacked n1)) (unpacked n3)
  second_look = let P : Seated → Type 0 = λ m. Sees m.0 (unpacked n3) in subst P (asked_view k1 k2) k3.sees

  moved_view : (unpacked n3).version % 2 ≢ (unpacked n1).version % 2 → m3 ≡ (reading (asking m0.0 (unpacked n1)) (unpacked n3), m0.1)
  moved_view other =
      k3.moved (λ e. other (e ∙ same_area)) ∙ ap (λ (m : Seated). (reading m.0 (unpacked n3), m.1)) (asked_view k1 k2)

  held_view : (unpacked n3).version % 2 ≡ (unpacked n1).version % 2
      → m3 ≡ (acting (reading (asking m0.0 (unpacked n1)) (unpacked n3)) (Holds ((unpacked n1).version % 2) (unpacked n3).version), m0.1)
  held_view same =
      k3.held (same ∙ sym same_area)
      ∙ ap (λ (a : ℕ). (acting (reading m2.0 (unpacked n3)) (Holds a (unpacked n3).version), m2.1)) same_area
      ∙ ap (λ (m : Seated). (acting (reading m.0 (unpacked n3)) (Holds ((unpacked n1).version % 2) (unpacked n3).version), m.1)) (asked_view k1 k2)

  pub held_is : (unpacked n3).version % 2 ≡ (unpacked n1).version % 2 → HoldsNow (unpacked n3).version m0.0 m3.0
  held_is same =
      let P : Seated → Type 0 = λ m. HoldsNow (unpacked n3).version m0.0 m.0 in
      subst P (sym (held_view same)) (holds_now m0.0 (unpacked n1) (unpacked n3) k1.sees second_look same)

  pub still_asks : (unpacked n3).version % 2 ≢ (unpacked n1).version % 2 → m3.0.actor.state ≡ Asks ((unpacked n1).version % 2)
  still_asks other = ap (λ (m : Seated). m.0.actor.state) (moved_view other)

  pub shared_after : (unpacked n3).version % 2 ≢ (unpacked n1).version % 2 → 0 < m0.0.share → 0 < m3.0.share
  shared_after other l = let P : Seated → Type 0 = λ m. 0 < m.0.share in subst P (sym (moved_view other)) l

  pub plan_after : (unpacked n3).version % 2 ≢ (unpacked n1).version % 2 → m3.0.plan ≡ m0.0.plan
  plan_after other = ap (λ (m : Seated). m.0.plan) (moved_view other)

  module _ {st4 : Stepped} {m4 : Seated} {n4 : ℕ} (k4 : LeftIt st4 m3 n4 m4) (other : (unpacked n3).version % 2 ≢ (unpacked n1).version % 2) where
    left_view : m4 ≡ (acting (reading (asking m0.0 (unpacked n1)) (unpacked n3)) Idle, m0.1)
    left_view = k4.after ∙ ap (λ (m : Seated). (acting m.0 Idle, m.1)) (moved_view other)

    pub moved_is : m0.0.actor.state ≡ Idle → HasMoved (unpacked n1).version (unpacked n3).version m0.0 m4.0
    moved_is idle =
        let P : Seated → Type 0 = λ m. HasMoved (unpacked n1).version (unpacked n3).version m0.0 m.0 in
        subst P (sym left_view) (has_moved m0.0 (unpacked n1) (unpacked n3) k1.sees second_look idle other)

    pub worker_again : (held row : ℕ) → IsWorker m0.0 → m0.1 ≡ [] → IsRowOf held row m0.0
        → IsWorker m4.0 × HoldsAtMost held m4.0 × (m4.1 ≡ []) × IsRowOf held row m4.0
    worker_again held row w bare begins =
        let P : Seated → Type 0 = λ m. IsWorker m.0 × HoldsAtMost held m.0 × (m.1 ≡ []) × IsRowOf held row m.0 in
        subst P (sym left_view) (record { shared = w.shared; no_desk = w.no_desk }, inl refl, bare, begins)
