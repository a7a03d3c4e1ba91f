-- What the steps of a draw make of the seat, from what each of them told.
use Rattle.std.proofs.Common.{◌≡◌, ◌≢◌, ℕ, ◌+◌, ◌-◌, ◌%◌, ◌<◌, ◌≤◌, min, [], subst, sym, refl, ap, ◌∙◌, arith, inl, inr}
use Rattle.swap_core.specs.Plans.{Tables, limit}
use Rattle.swap_core.specs.States.{consecutive}
use Rattle.swap_core.specs.declared.actors.ActorState.TheVariants.{Idle, Holds}
use Rattle.area_swap.specs.declared.answers.DrawRun.{DrawRun}
use Rattle.area_swap.specs.declared.answers.DrawRun.TheVariants as run
use Rattle.area_swap.specs.declared.answers.Seen.{Seen}
use Rattle.area_swap.specs.declared.board.View.{View}
use Rattle.area_swap.specs.Views.{packed, unpacked, reading, taking, held_version, IsUpTo}
use Rattle.area_swap.specs.Rule.{Sees}
use Rattle.area_swap.specs.Answers.{HasDrawn, IsNotHeld, IsAtEnd, IsAtLimit, HasLost, RunDrawn, Drawn, one_of}
use Rattle.area_swap.specs.SeatSteps.{Stepped, Seated, Glanced, Drew}
use Rattle.area_swap.specs.Values.{HoldsAtMost, HoldsOne, HoldsStill, IsRowOf, IsWorker}

pub pack_unpack : (n : ℕ) → packed (unpacked n) ≡ n
pack_unpack n = omega arith

-- what the seat keeps of the version is what it holds
pub held_is : (v : View) (held : ℕ) → HoldsAtMost held v → HoldsOne v → held_version v ≡ held
held_is v held state holds =
    elim state [
      | inl idle ↦ absurd (let is : Idle ≡ Holds (held_version v % 2) (held_version v) = sym idle ∙ holds in cc)
      | inr e ↦ let is : Holds (held % 2) held ≡ Holds (held_version v % 2) (held_version v) = sym e ∙ holds in cc
    ]

module _ {st1 : Stepped} {m0 m1 : Seated} {n1 : ℕ} (k1 : Glanced st1 m0 n1 m1) (s : Seen) (es : s ≡ unpacked n1) where
  pub glanced_view : m1 ≡ (reading m0.0 s, m0.1)
  glanced_view = k1.after ∙ ap (λ (t : Seen). (reading m0.0 t, m0.1)) (sym es)

  pub glanced_sees : Sees m0.0 s
  glanced_sees = subst (Sees m0.0) (sym es) k1.sees

  pub glanced_plan : m1.0.plan ≡ m0.0.plan
  glanced_plan = ap (λ (m : Seated). m.0.plan) glanced_view

  pub glanced_right : 0 < m0.0.right → 0 < m1.0.right
  glanced_right l = let P : Seated → Type 0 = λ m. 0 < m.0.right in subst P (sym glanced_view) l

  pub glanced_share : 0 < m0.0.share → 0 < m1.0.share
  glanced_share l = let P : Seated → Type 0 = λ m. 0 < m.0.share in subst P (sym glanced_view) l

  pub glanced_word : packed m1.0.seen ≡ n1
  glanced_word = ap (λ (m : Seated). packed m.0.seen) glanced_view ∙ ap packed es ∙ pack_unpack n1

  pub not_held : (held : ℕ) → s.version ≢ held → IsNotHeld s.version held m0.0 m1.0
  not_held held other =
      let P : Seated → Type 0 = λ m. IsNotHeld s.version held m0.0 m.0 in
      subst P (sym glanced_view) (record { after = refl; version = refl; other = other; sees = glanced_sees })

  pub at_end : (end held : ℕ) → s.version ≡ held → end ≤ s.records → IsAtEnd end held m0.0 m1.0
  at_end end held same l =
      let P : Seated → Type 0 = λ m. IsAtEnd end held m0.0 m.0 in
      subst P (sym glanced_view) (record { after = refl; in_force = same; reached = l; sees = glanced_sees })

  pub at_limit : (p : Tables) (end most held : ℕ) → s.version ≡ held → s.records < end → most ≡ limit p s.version → s.records ≡ most
      → IsAtLimit p end most held m0.0 m1.0
  at_limit p end most held same l e here =
      let P : Seated → Type 0 = λ m. IsAtLimit p end most held m0.0 m.0 in
      subst P (sym glanced_view)
      (record {
        after = refl;
        in_force = same;
        below_end = l;
        limit_is = ap (λ (w : ℕ). limit p w) (sym same) ∙ sym e;
        reached = here;
        sees = glanced_sees;
      })

  -- there is room below the limit
  pub below_limit : (p : Tables) (most : ℕ) → m0.0.plan ≡ p → most ≡ limit p s.version → s.records ≢ most → s.records < limit p s.version
  below_limit p most plan e other =
      let Within : Tables → Type 0 = λ q. s.records ≤ limit q s.version in
      let within : s.records ≤ limit p s.version = subst Within plan glanced_sees.within in
      omega arith

  -- and below the held version's limit there are so many numbers more
  pub room_after : (p : Tables) (most count : ℕ) → m0.0.plan ≡ p → most ≡ limit p s.version → s.records + count ≤ most
      → m1.0.seen.records + count ≤ limit m1.0.plan m1.0.seen.version
  room_after p most count plan e fits =
      let P : Seated → Type 0 = λ m. m.0.seen.records + count ≤ limit m.0.plan m.0.seen.version in
      let Room : Tables → Type 0 = λ q. s.records + count ≤ limit q s.version in
      let here : s.records + count ≤ limit p s.version = omega arith in
      subst P (sym glanced_view) (subst Room (sym plan) here)

  -- the seat holds the version that it read
  pub holds_after : (a held : ℕ) → m0.0.actor.state ≡ Holds a held → s.version ≡ held → m1.0.actor.state ≡ Holds a m1.0.seen.version
  holds_after a held holds same =
      let P : Seated → Type 0 = λ m. m.0.actor.state ≡ Holds a m.0.seen.version in
      subst P (sym glanced_view) (holds ∙ ap (λ (w : ℕ). Holds a w) (sym same))

  pub small_after : m1.0.seen.records < 4294967296
  small_after =
      let P : Seated → Type 0 = λ m. m.0.seen.records < 4294967296 in
      subst P (sym glanced_view) (omega (arith, glanced_sees.small))

  pub no_wrap : (count : ℕ) → count < 4294967296 → n1 + count < 18446744073709551616
  no_wrap count small =
      let word : packed s ≡ n1 = ap packed es ∙ pack_unpack n1 in
      omega (arith, glanced_sees.small, glanced_sees.few)

  module _ {st2 : Stepped} {m2 : Seated} {n2 : ℕ} (k2 : Drew st2 m1 n2 m2) where
    later_sees : Sees (reading m0.0 s) (unpacked n2)
    later_sees = let P : Seated → Type 0 = λ m. Sees m.0 (unpacked n2) in subst P glanced_view k2.sees

    taken_view : (count : ℕ) → st2.first ≡ n1 → st2.second ≡ n1 + count → n2 ≡ n1
        → m2 ≡ (taking (reading (reading m0.0 s) s) (consecutive s.records count s.version), m0.1)
    taken_view count first second hit =
        let same : unpacked n2 ≡ s = ap unpacked hit ∙ sym es in
        let many : st2.second - st2.first ≡ count = omega arith in
        k2.taken (hit ∙ sym first)
        ∙ ap (λ (t : Seen). (taking (reading m1.0 t) (consecutive t.records (st2.second - st2.first) t.version), m1.1)) same
        ∙ ap (λ (k : ℕ). (taking (reading m1.0 s) (consecutive s.records k s.version), m1.1)) many
        ∙ ap (λ (m : Seated). (taking (reading m.0 s) (consecutive s.records count s.version), m.1)) glanced_view

    pub taken_is : (p : Tables) (end most held top count : ℕ) → m0.0.plan ≡ p → st2.first ≡ n1 → st2.second ≡ n1 + count → n2 ≡ n1
        → s.version ≡ held → top ≡ limit p s.version → count ≡ min most (min (end - s.records) (top - s.records)) → 1 ≤ count
        → s.records + count ≤ end → s.records + count ≤ top → HasDrawn p end most s.records count held m0.0 m2.0
    taken_is p end most held top count plan first second hit same e many some_one below_end below_limit =
        let twice : m0.0.looks + 1 + 1 ≡ m0.0.looks + 2 = omega arith in
        let P : Seated → Type 0 = λ m. HasDrawn p end most s.records count held m0.0 m.0 in
        let top_is : top ≡ limit p held = e ∙ ap (λ (w : ℕ). limit p w) same in
        subst P (sym (taken_view count first second hit))
        (record {
          after = λ i. record (taking (reading (reading m0.0 s) s) (consecutive s.records count (same i))) { looks = twice i };
          in_force = same;
          is_next = refl;
          sees_first = glanced_sees;
          sees_second = subst (Sees (reading m0.0 s)) (ap unpacked hit ∙ sym es) later_sees;
          same = refl;
          many = many ∙ ap (λ (l : ℕ). min most (min (end - s.records) (l - s.records))) top_is;
          some_one = some_one;
          below_end = below_end;
          below_limit = omega arith;
          earlier = glanced_sees.later;
          drawn = glanced_sees.drawn;
        })

    lost_view : n2 ≢ st2.first → m2 ≡ (reading (reading m0.0 s) (unpacked n2), m0.1)
    lost_view missed = k2.lost missed ∙ ap (λ (m : Seated). (reading m.0 (unpacked n2), m.1)) glanced_view

    pub lost_is : (p : Tables) (end held most : ℕ) → m0.0.plan ≡ p → st2.first ≡ n1 → n2 ≢ n1 → s.version ≡ held → s.records < end
        → most ≡ limit p s.version → s.records ≢ most → HasLost p end n1 n2 held m0.0 m2.0
    lost_is p end held most plan first missed same l e other =
        let twice : m0.0.looks + 1 + 1 ≡ m0.0.looks + 2 = omega arith in
        let P : Seated → Type 0 = λ m. HasLost p end n1 n2 held m0.0 m.0 in
        let Room : ℕ → Type 0 = λ w. s.records < limit p w in
        let word : packed s ≡ n1 = ap packed es ∙ pack_unpack n1 in
        let found : packed (unpacked n2) ≡ n2 = pack_unpack n2 in
        let later : IsUpTo s (unpacked n2) = later_sees.later in
        subst P (sym (lost_view (λ h. missed (h ∙ first))))
        (record {
          after = λ i. record (reading (reading m0.0 s) (unpacked n2)) { looks = twice i };
          first = word;
          second = found;
          sees_first = glanced_sees;
          sees_second = later_sees;
          in_force = same;
          below_end = l;
          below_limit = subst Room same (below_limit p most plan e other);
          rises = omega (arith, later.version, later.records);
          earlier = glanced_sees.later;
          later = later;
          drawn = glanced_sees.drawn;
        })

    -- the seat is a worker's, and holds what it held
    pub lost_again : (held row : ℕ) → n2 ≢ st2.first → IsWorker m0.0 → HoldsAtMost held m0.0 → m0.1 ≡ [] → IsRowOf held row m0.0
        → IsWorker m2.0 × HoldsAtMost held m2.0 × (m2.1 ≡ []) × IsRowOf held row m2.0
    lost_again held row missed w holds bare begins =
        let P : Seated → Type 0 = λ m. IsWorker m.0 × HoldsAtMost held m.0 × (m.1 ≡ []) × IsRowOf held row m.0 in
        subst P (sym (lost_view missed)) (record { shared = w.shared; no_desk = w.no_desk }, holds, bare, begins)

    pub taken_again : (held row count : ℕ) → st2.first ≡ n1 → st2.second ≡ n1 + count → n2 ≡ n1 → IsWorker m0.0 → HoldsAtMost held m0.0
        → m0.1 ≡ [] → IsRowOf held row m0.0 → IsWorker m2.0 × HoldsAtMost held m2.0 × (m2.1 ≡ []) × IsRowOf held row m2.0
    taken_again held row count first second hit w holds bare begins =
        let P : Seated → Type 0 = λ m. IsWorker m.0 × HoldsAtMost held m.0 × (m.1 ≡ []) × IsRowOf held row m.0 in
        subst P (sym (taken_view count first second hit)) (record { shared = w.shared; no_desk = w.no_desk }, holds, bare, begins)

    pub lost_still : n2 ≢ st2.first → HoldsOne m0.0 → HoldsStill m0.0 m2.0
    lost_still missed holds =
        let P : Seated → Type 0 = λ m. HoldsStill m0.0 m.0 in
        subst P (sym (lost_view missed)) (record { holds = holds; version = refl; table = refl; share = refl; right = refl })

    pub taken_still : (count : ℕ) → st2.first ≡ n1 → st2.second ≡ n1 + count → n2 ≡ n1 → HoldsOne m0.0 → HoldsStill m0.0 m2.0
    taken_still count first second hit holds =
        let P : Seated → Type 0 = λ m. HoldsStill m0.0 m.0 in
        subst P (sym (taken_view count first second hit))
        (record { holds = holds; version = refl; table = refl; share = refl; right = refl })

-- the state of a holding seat, by the version that it keeps
pub holds_it : (v : View) (held : ℕ) → HoldsAtMost held v → HoldsOne v → v.actor.state ≡ Holds (held % 2) held
holds_it v held state holds = holds ∙ ap (λ (n : ℕ). Holds (n % 2) n) (held_is v held state holds)

-- a run of at most one number is one
pub one_drawn : (r : DrawRun) (p : Tables) (end held : ℕ) (v w : View) → RunDrawn r p end 1 held v w → Drawn (one_of r) p end held v w
one_drawn (run.Taken number count) p end held v w h =
    let one : count ≡ 1 = omega (arith, h.many, h.some_one) in
    let P : ℕ → Type 0 = λ n. HasDrawn p end 1 number n held v w in
    subst P one h
one_drawn (run.Moved now) p end held v w h = h
one_drawn run.End p end held v w h = h
one_drawn (run.Hold records) p end held v w h = h
one_drawn (run.Lost saw found) p end held v w h = h
