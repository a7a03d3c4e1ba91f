-- What the code's types stand for.
use Rattle.std.specs.Prelude.{Option, option_map}
use Rattle.aftr_text.specs.Parts.{Kind, Parts, ends, wants, gives, unknown, argument, in_front}
use Rattle.aftr_text.specs.declared.parts.Kind.{Kind as Told}
use Rattle.aftr_text.specs.declared.parts.Kind.TheVariants as told

abbrev pub kind_seen : Told → Kind
kind_seen told.Ends = ends
kind_seen (told.Wants slot) = wants slot
kind_seen (told.Gives slot value) = gives slot value.now
kind_seen told.Unknown = unknown
kind_seen told.Argument = argument

-- parts in front of those of the rest, if it has some
abbrev pub joined : Parts → Option Parts → Option Parts
joined p rest = option_map (in_front p) rest
