use Rattle.std.proofs.Common.{rules, arith, ◌≡◌, ◌+◌, ◌%◌, ◌∙◌, ℕ, List, length, ap, sym, subst}
use Rattle.area_swap.specs.Places.{claims_place}
use Rattle.area_swap.specs.Values.{SeatValue, IsReady}
use Rattle.area_swap.specs.Views.{spare_of}
use Rattle.area_swap.proofs.Belonging.{knows_plan}
use Rattle.area_swap.proofs.DeskSteps.{counts_claims}
use Rattle.area_swap.proofs.areas.Areas.quiet.Goals as goal

pub load-count-requires : goal.load-count-requires
load-count-requires c =
    let ready : IsReady c.desk.inside.place.me.0 =
    let P : SeatValue → Type 0 = λ s. IsReady s.known in subst P (sym c.desk.view_is) c.requires.phase in
    let points : c.len.result ≡ length c.desk.inside.place.me.0.points = omega (arith, ap (λ (l : List ℕ). length l) c.desk.invariant.2) in
    let place : c.claims_at-claims.result ≡ claims_place (spare_of c.desk.inside.place.me.0) =
    c.claims_at-claims.ensures ∙ ap (λ (n : ℕ). claims_place ((n + 1) % 2)) points in (
      search rules,
      omega (arith, c.self.invariant.2, c.claims_at-claims.ensures),
      counts_claims _ _ _ _ (knows_plan _ _ _ _ _ _ _ c.self.view_is c.desk.view_is c.requires.areas c.self.invariant.0) c.desk.invariant.0.has
          _ ready place,
    )
