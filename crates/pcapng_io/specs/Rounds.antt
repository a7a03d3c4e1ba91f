-- What a reader has left to read.
use Rattle.std.specs.Prelude.{drop}
use Rattle.capture_io.specs.Rounds.{Left}
use Rattle.pcapng_io.specs.Seen.{Seen}
use Rattle.pcapng_io.specs.Captures.{Splits}

-- what is left, from what a reader knows on
abbrev pub left_of : Seen → Left
left_of seen bytes number rs ending = Splits seen (drop seen.known.at bytes) number rs ending
