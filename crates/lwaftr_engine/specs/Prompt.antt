-- What command words come to without waiting for anybody.
use Rattle.std.specs.Prelude.{◌≡◌, ◌⊎◌}
use Rattle.lwaftr_engine.specs.Words.{AtOnce, Status}
use Rattle.lwaftr_engine.specs.declared.at_once.AtOnce.TheVariants as at_once
use Rattle.lwaftr_engine.specs.declared.status.Status.TheVariants as status

-- it ended with a status of which this holds
abbrev pub EndsSo : (Status → Type 0) → AtOnce → Type 0
EndsSo Holds (at_once.Ended s) = Holds s
EndsSo Holds _ = ⊥

-- this job is left to others, or memory was short
abbrev pub IsLeft : AtOnce → AtOnce → Type 0
IsLeft job result = (result ≡ job) ⊎ (result ≡ at_once.Ended status.OutOfMemory)
