-- Reads of a held table are reflexive and transitive.
use Rattle.std.proofs.Common.{ap, refl, ◌∙◌, arith}
use Rattle.area_swap.specs.Reading.{OnlyReads}
use Rattle.area_swap.specs.Values.{SeatValue}

pub reads_nothing : (s : SeatValue) → OnlyReads s s
reads_nothing s = record { rest = refl; rises = omega arith }

pub reads_on : (s t u : SeatValue) → OnlyReads s t → OnlyReads t u → OnlyReads s u
reads_on s t u h k =
    record {
      rest = k.rest ∙ ap (λ (x : SeatValue). record x { known = record x.known { reads = u.known.reads } }) h.rest;
      rises = omega (arith, h.rises, k.rises);
    }
