use Rattle.std.proofs.Common.{◌≡◌, ◌≤◌, ◌-◌, length, take, drop}
use Rattle.aftr_io.specs.Contents.{Told, content}
use Rattle.aftr_io.proofs.pieces.fill.Given as goal

abbrev pub invariant-pieces : goal.invariant-pieces
invariant-pieces g l = let f = g.I.Reading in record {
  within : l.got ≤ length l.into;
  bytes : Told (f.readable l.initial.files).held (λ m. take l.got l.into ≡ take l.got (drop l.at (content m l.name)));
  there : Told (f.readable l.initial.files).held (λ m. l.got ≤ length (drop l.at (content m l.name)));
  readable : f.readable l.files ≡ f.readable l.initial.files;
}

abbrev pub decreases-pieces : goal.decreases-pieces
decreases-pieces g l = length l.into - l.got
