use Rattle.std.proofs.Common.{rules, arith, ◌≡◌, ◌+◌, ◌<◌, ◌≤◌, ◌⊎◌, length, ◌∙◌, ap, sym, subst}
use Rattle.swap_core.specs.Plans.{Tables, window}
use Rattle.swap_core.specs.declared.plan.Window.{Window}
use Rattle.area_swap.specs.Answers.{NoneDue, LaterDue, NowDue}
use Rattle.area_swap.specs.Values.{AreasValue, SeatValue, IsResting, IsReady}
use Rattle.area_swap.proofs.Belonging.{knows_plan}
use Rattle.area_swap.proofs.Deskwork.{not_writing, none_is, later_is, now_is}
use Rattle.area_swap.proofs.DeskSteps.{finds_due}
use Rattle.area_swap.proofs.areas.Areas.due.Goals as goal

pub load-requires : goal.load-requires
load-requires c =
    let phase : IsResting c.desk.inside.place.me.0 ⊎ IsReady c.desk.inside.place.me.0 =
    let P : SeatValue → Type 0 = λ s. IsResting s.known ⊎ IsReady s.known in subst P (sym c.desk.view_is) c.requires.phase in (
      search rules,
      omega (arith, c.self.invariant.2),
      finds_due _ _ _ _ (knows_plan _ _ _ _ _ _ _ c.self.view_is c.desk.view_is c.requires.areas c.self.invariant.0) c.desk.invariant.0.has
          (not_writing _ phase),
    )

pub returns-then-next-len-clause-due : goal.returns-then-next-len-clause-due
returns-then-next-len-clause-due c =
    let phase : IsResting c.desk.inside.place.me.0 ⊎ IsReady c.desk.inside.place.me.0 =
    let P : SeatValue → Type 0 = λ s. IsResting s.known ⊎ IsReady s.known in subst P (sym c.desk.view_is) c.requires.phase in
    let plans : c.desk.inside.place.me.0.plan ≡ c.self.inside.plan =
    knows_plan _ _ _ _ _ _ _ c.self.view_is c.desk.view_is c.requires.areas c.self.invariant.0 ∙ c.self.invariant.0 in
    let L : Tables → Type 0 = λ p. length p.tables ≤ c.halves-seen.result.version + 1 in
    let last : length c.desk.inside.place.me.0.plan.tables ≤ c.halves-seen.result.version + 1 = subst L (sym plans) (omega arith) in
    let P : AreasValue → Type 0 = λ a. NoneDue a.plan c.desk.inside.place.me.0 c.load.new.seat.me.0 in
    let Q : SeatValue → Type 0 = λ s. NoneDue c.args.self.now.plan s.known c.load.new.seat.me.0 in
    let R : Tables → Type 0 = λ p. NoneDue p c.desk.inside.place.me.0 c.load.new.seat.me.0 in
    subst Q c.desk.view_is (subst P c.self.view_is (subst R plans
    (none_is c.load.ensures.2 _ c.halves-seen.ensures c.desk.invariant.0.has phase last)))

pub returns-then-seen-earliest-clause-due : goal.returns-then-seen-earliest-clause-due
returns-then-seen-earliest-clause-due c =
    let phase : IsResting c.desk.inside.place.me.0 ⊎ IsReady c.desk.inside.place.me.0 =
    let P : SeatValue → Type 0 = λ s. IsResting s.known ⊎ IsReady s.known in subst P (sym c.desk.view_is) c.requires.phase in
    let plans : c.desk.inside.place.me.0.plan ≡ c.self.inside.plan =
    knows_plan _ _ _ _ _ _ _ c.self.view_is c.desk.view_is c.requires.areas c.self.invariant.0 ∙ c.self.invariant.0 in
    let L : Tables → Type 0 = λ p. c.halves-seen.result.version + 1 < length p.tables in
    let more : c.halves-seen.result.version + 1 < length c.desk.inside.place.me.0.plan.tables = subst L (sym plans) (omega arith) in
    let earliest : c.window-earliest.result.earliest ≡ (window c.desk.inside.place.me.0.plan (c.halves-seen.result.version + 1)).earliest =
    ap (λ (w : Window). w.earliest) c.window-earliest.ensures ∙ ap (λ (p : Tables). (window p (c.halves-seen.result.version + 1)).earliest) (sym plans) in
    let P : AreasValue → Type 0 = λ a. LaterDue a.plan c.halves-seen.result.records c.window-earliest.result.earliest c.desk.inside.place.me.0 c.load.new.seat.me.0 in
    let Q : SeatValue → Type 0 = λ s. LaterDue c.args.self.now.plan c.halves-seen.result.records c.window-earliest.result.earliest s.known c.load.new.seat.me.0 in
    let R : Tables → Type 0 = λ p. LaterDue p c.halves-seen.result.records c.window-earliest.result.earliest c.desk.inside.place.me.0 c.load.new.seat.me.0 in
    subst Q c.desk.view_is (subst P c.self.view_is (subst R plans
    (later_is c.load.ensures.2 _ c.halves-seen.ensures c.desk.invariant.0.has phase more _ earliest c.if-seen-earliest.true)))

pub returns-clause-due : goal.returns-clause-due
returns-clause-due c =
    let plans : c.desk.inside.place.me.0.plan ≡ c.self.inside.plan =
    knows_plan _ _ _ _ _ _ _ c.self.view_is c.desk.view_is c.requires.areas c.self.invariant.0 ∙ c.self.invariant.0 in
    let L : Tables → Type 0 = λ p. c.halves-seen.result.version + 1 < length p.tables in
    let more : c.halves-seen.result.version + 1 < length c.desk.inside.place.me.0.plan.tables = subst L (sym plans) (omega arith) in
    let reached : (window c.desk.inside.place.me.0.plan (c.halves-seen.result.version + 1)).earliest ≤ c.halves-seen.result.records =
    let W : Tables → Type 0 = λ p. (window p (c.halves-seen.result.version + 1)).earliest ≤ c.halves-seen.result.records in
    let until : (window c.self.inside.plan (c.halves-seen.result.version + 1)).earliest ≤ c.halves-seen.result.records =
    omega (arith, ap (λ (w : Window). w.earliest) c.window-earliest.ensures) in
    subst W (sym plans) until in
    let P : AreasValue → Type 0 = λ a. NowDue a.plan c.desk.inside.place.me.0 c.load.new.seat.me.0 in
    let Q : SeatValue → Type 0 = λ s. NowDue c.args.self.now.plan s.known c.load.new.seat.me.0 in
    let R : Tables → Type 0 = λ p. NowDue p c.desk.inside.place.me.0 c.load.new.seat.me.0 in
    subst Q c.desk.view_is (subst P c.self.view_is (subst R plans (now_is c.load.ensures.2 _ c.halves-seen.ensures more reached)))
