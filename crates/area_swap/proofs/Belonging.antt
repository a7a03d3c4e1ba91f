-- A seat of the areas knows their plan.
use Rattle.std.proofs.Common.{◌≡◌, sym, ap, ◌∙◌}
use Rattle.atomic_table.specs.Seated.{TableId}
use Rattle.swap_core.specs.Plans.{Tables}
use Rattle.area_swap.specs.declared.board.View.{View}
use Rattle.area_swap.specs.Values.{AreasValue, SeatValue, IsOf}

abbrev areas_value : TableId → Tables → AreasValue
areas_value z p = record { table_id = z; plan = p }

abbrev seat_value : TableId → View → SeatValue
seat_value z v = record { table_id = z; known = v }

pub knows_plan : (z y : TableId) (plan key : Tables) (v : View) (areas : AreasValue) (seat : SeatValue) → areas_value z plan ≡ areas
    → seat_value y v ≡ seat → IsOf areas seat → key ≡ plan → v.plan ≡ key
knows_plan z y plan key v areas seat a b of k =
    ap (λ (s : SeatValue). s.known.plan) b ∙ of.same_plan ∙ sym (ap (λ (x : AreasValue). x.plan) a) ∙ sym k
