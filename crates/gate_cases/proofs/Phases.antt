-- Where it was asked whether a table is due, the desk rests or is ready.
use Rattle.std.proofs.Common.{◌≡◌, ◌⊎◌, inl, inr, ap}
use Rattle.swap_core.specs.Plans.{Tables}
use Rattle.swap_core.specs.declared.actors.DeskState.{DeskState}
use Rattle.swap_core.specs.declared.actors.DeskState.TheVariants.{Resting, Ready}
use Rattle.area_swap.specs.declared.answers.Due.{Due}
use Rattle.area_swap.specs.declared.answers.Due.TheVariants as due
use Rattle.area_swap.specs.declared.board.View.{View}
use Rattle.area_swap.specs.Answers.{IsDue}

pub asked : (d : Due) (p : Tables) (v w : View) → IsDue d p v w → (w.desk ≡ Resting) ⊎ (w.desk ≡ Ready)
asked due.Now p v w is = inr (ap (λ (t : View). t.desk) is.after)
asked (due.Later records earliest) p v w is = inl is.rests
asked due.None p v w is = inl is.rests
