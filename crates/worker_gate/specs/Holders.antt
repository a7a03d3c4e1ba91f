-- Seats without the right to draw: an idle one, and one that holds the version of a round. All of it is ours.
use Rattle.std.specs.Prelude.{◌≡◌, ℕ, ◌<◌, [], length}
use Rattle.area_swap.specs.declared.board.View.{View}
use Rattle.area_swap.specs.Values.{AreasValue, SeatValue, HoldsOne, IsIdle, IsOf}
use Rattle.area_swap.specs.Views.{held_version}

-- An idle seat of these areas that has drawn nothing and may not draw.
pub record IsFreeSeat (areas : AreasValue) (s : SeatValue) : Type 0 where
  pub its_areas : IsOf areas s
  pub idle : IsIdle s.known
  pub undrawn : s.known.actor.draws ≡ []
  pub no_right : s.known.right ≡ 0

-- A seat of these areas that holds this version, has drawn nothing and may not draw.
pub record IsHeldSeat (areas : AreasValue) (version : ℕ) (s : SeatValue) : Type 0 where
  pub its_areas : IsOf areas s
  pub holds : HoldsOne s.known
  pub held : held_version s.known ≡ version
  pub there : version < length areas.plan.tables
  pub undrawn : s.known.actor.draws ≡ []
  pub no_right : s.known.right ≡ 0

-- What contracts see of a free seat, and of one that holds a version.
pub record FreeValue : Type 0 where
  pub areas : AreasValue
  pub known : View

pub record HeldValue : Type 0 where
  pub areas : AreasValue
  pub version : ℕ
  pub known : View
