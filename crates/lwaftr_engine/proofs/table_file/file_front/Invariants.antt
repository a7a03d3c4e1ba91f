use Rattle.lwaftr_engine.proofs.Words.{◌≡◌, ◌≤◌, ◌-◌, length, take, Told, content}
use Rattle.lwaftr_engine.proofs.table_file.file_front.Given as goal

abbrev pub invariant-pieces : goal.invariant-pieces
invariant-pieces g l = let f = g.I.Reading in record {
  within : length l.list.items ≤ l.most;
  bytes : Told (f.readable l.initial.files).held (λ m. l.list.items ≡ take (length l.list.items) (content m l.name));
  readable : f.readable l.files ≡ f.readable l.initial.files;
}

abbrev pub decreases-pieces : goal.decreases-pieces
decreases-pieces g l = l.most - length l.list.items
