use Rattle.lwaftr_engine.proofs.Words.{◌≡◌, ◌≤◌, ◌-◌, length, take, Told, AreFitFor, AreLoadsOf}
use Rattle.lwaftr_engine.proofs.loads.loads_in.Given as goal

abbrev pub invariant-batches : goal.invariant-batches
invariant-batches g l = let f = g.I.Reading in record {
  within : l.at ≤ length l.words;
  loads : Told (f.readable l.initial.files).held (λ m. AreLoadsOf m (take l.at l.words) l.loads.items);
  fit : AreFitFor (take l.at l.words) l.loads.items;
  readable : f.readable l.files ≡ f.readable l.initial.files;
}

abbrev pub decreases-batches : goal.decreases-batches
decreases-batches g l = length l.words - l.at
