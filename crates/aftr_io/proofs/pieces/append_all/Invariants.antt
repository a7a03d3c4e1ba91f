use Rattle.std.proofs.Common.{◌≡◌, ◌≤◌, ◌-◌, ◌++◌, length, take}
use Rattle.aftr_io.specs.Contents.{Moves, Writes, content}
use Rattle.aftr_io.proofs.pieces.append_all.Given as goal

abbrev pub invariant-pieces : goal.invariant-pieces
invariant-pieces g l = let f = g.O.Writing in record {
  within : l.done ≤ length l.bytes;
  held : Moves (f.written l.initial.files).held (f.written l.files).held (λ m n. Writes m n l.name (content m l.name ++ take l.done l.bytes));
  spoiled : (f.written l.files).spoiled ≡ (f.written l.initial.files).spoiled;
}

abbrev pub decreases-pieces : goal.decreases-pieces
decreases-pieces g l = length l.bytes - l.done
