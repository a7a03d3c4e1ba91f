-- The one job that the words ask for.
use Rattle.lwaftr_engine.proofs.Words.{◌≡◌, ◌≤◌, ℕ, List, [], ◌∷◌, AreWorkers, AsksRun, Asks, IsLimit, IsRate, IsWorkers, Parts, RunJob, IsRunJob, Option}
use Rattle.lwaftr_engine.proofs.Words.{Some, None, V4, inl, inr, arith, IfSome}
use Rattle.aftr_text.specs.declared.jobs.Job.TheVariants as asked

workers_of : (given : List (List ℕ)) (workers : ℕ) → AreWorkers given workers → IsWorkers workers
workers_of given workers (inl one) = (omega (arith, one.1), omega (arith, one.1))
workers_of given workers (inr many) = many.1

limit_of : (given : List (List ℕ)) (limit : Option ℕ) → IsLimit given limit → IfSome limit IsRate
limit_of given None is = tt
limit_of given (Some rate) is = is.1

run_job_of : (p : Parts) (run : RunJob) → AsksRun p run → IsRunJob run
run_job_of p run asks = record {
  loads = asks.loads;
  few = asks.few;
  apart = asks.apart;
  rising = asks.rising;
  workers = workers_of p.workers run.workers asks.workers;
  errors = limit_of p.errors run.errors asks.errors;
}

pub asked_run : (words : List (List ℕ)) (run : RunJob) → Asks words (asked.Run run) → IsRunJob run
asked_run [] run asks = absurd asks
asked_run (command ∷ rest) run asks = run_job_of asks.0 run asks.2.1

pub same_check : {a b : List ℕ} → asked.Check a ≡ asked.Check b → a ≡ b
same_check e = cc e

pub same_who : {a b : List ℕ} {v w : V4} {p q : ℕ} → asked.Who a v p ≡ asked.Who b w q → (a ≡ b) × (v ≡ w) × (p ≡ q)
same_who e = (cc e, cc e, cc e)

pub same_migration : {a b c d : List ℕ} → asked.Migrate a b ≡ asked.Migrate c d → (a ≡ c) × (b ≡ d)
same_migration e = (cc e, cc e)

pub demo_asked : (words : List (List ℕ)) (seed count workers : ℕ) → Asks words (asked.Demo seed count workers) →
    ((1 ≤ count) × (count ≤ 1000000)) × IsWorkers workers
demo_asked [] seed count workers asks = absurd asks
demo_asked (command ∷ rest) seed count workers asks = (asks.2.1.counted, asks.2.1.worked)
