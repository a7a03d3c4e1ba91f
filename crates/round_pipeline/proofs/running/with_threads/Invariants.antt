use Rattle.std.proofs.Common.{◌≡◌}
use Rattle.round_pipeline.proofs.running.with_threads.Given as goal

-- the capture that was given
abbrev pub ghosts-run_in_threads : goal.ghosts-run_in_threads
ghosts-run_in_threads g a = record { begins = λ c. c ≡ a.capture }
