-- The parts of a round, as they are shown.
use Rattle.lwaftr_engine.proofs.Words.{◌≡◌, ℕ, List, string_bytes, round_log, Pending, lines_in, packets_in, Part, steps_of, Logs, OutputNames, Result, Fault}
use Rattle.lwaftr_engine.proofs.Words.{WrittenFiles}

-- what a round writes, by another writing of it
pub log_shown : (u : Pending) (vs : List ℕ) (parts : List Part) → vs ≡ string_bytes u.versions → parts ≡ u.rendered →
    (names others : OutputNames) (r : Result Unit Fault) (a b : WrittenFiles) → names ≡ others →
    Logs names r (round_log vs (packets_in parts) (lines_in parts)) a b → Logs others r (steps_of u) a b
log_shown u vs parts vs_is parts_is names others r a b same log = rw (← same) (rw (vs_is, parts_is) at log)
