use Rattle.lwaftr_engine.proofs.Words.{◌≡◌, ◌≤◌, ◌-◌, length, take, AllZip, Told, HasWindowOf, IsFileOf}
use Rattle.lwaftr_engine.proofs.loads.files_in.Given as goal

abbrev pub invariant-files : goal.invariant-files
invariant-files g l = let f = g.I.Reading in record {
  within : l.at ≤ length l.words;
  texts : Told (f.readable l.initial.files).held (λ m. AllZip (IsFileOf m) (take l.at l.words) l.read.items);
  windows : AllZip HasWindowOf (take l.at l.words) l.read.items;
  readable : f.readable l.files ≡ f.readable l.initial.files;
}

abbrev pub decreases-files : goal.decreases-files
decreases-files g l = length l.words - l.at
