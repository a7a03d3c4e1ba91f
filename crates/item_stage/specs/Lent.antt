-- The marks that items hold, or that a staged round lends them.
use Rattle.item_stage.specs.Marks.{Kept}
use Rattle.item_stage.specs.declared.rounds.RoundMarks.{RoundMarks}
use Rattle.item_stage.specs.declared.rounds.RoundMarks.TheVariants as round

abbrev pub marks_in : RoundMarks → Kept
marks_in (round.Own marks) = marks
marks_in (round.Lent marks) = marks.now
