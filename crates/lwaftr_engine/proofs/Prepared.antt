-- What the run of the demonstration is told.
use Rattle.lwaftr_engine.proofs.Words.{◌≡◌, true, ℕ, ◌≤◌, List, [], ◌∷◌, cond, unwrap_or, codes, Some, None, refl, ◌∙◌, ap, arith, All-cons, All-nil}
use Rattle.lwaftr_engine.proofs.Words.{eq_by_cmp_equiv, nat_cmp, eq_by_cmp, slice_cmp, nat_list_cmp_total, get, get-insert, insert, Contents, content, AreApart}
use Rattle.lwaftr_engine.proofs.Words.{IsLoad, StandsOnce, names_of, RunJob, IsDemoJob, IsDemoMade, IsShow, Made, Window, capture_of, table_from, half_way}
use Rattle.aftr_text.specs.Jobs.{how_many}

-- the names of the run are apart
abbrev run_of : ℕ → Window → RunJob
run_of workers window = record {
  input = codes "in";
  output = codes "out";
  verdicts = codes "verdicts";
  versions = codes "versions";
  table = codes "first";
  loads = (record { window = window; name = codes "second" }) ∷ [];
  workers = workers;
  errors = None;
}

names_apart : (workers : ℕ) (window : Window) → AreApart (run_of workers window)
unfolding how_many
names_apart workers window =
    let P : List ℕ → Type 0 = λ name. StandsOnce (names_of (run_of workers window)) name in
    All-cons P (codes "out") (codes "verdicts" ∷ codes "versions" ∷ []) refl
    (All-cons P (codes "verdicts") (codes "versions" ∷ []) refl (All-cons P (codes "versions") [] refl (All-nil P)))

pub demo_job : (count workers : ℕ) → count ≤ 1000000 → 1 ≤ workers → workers ≤ 16 → IsDemoJob count (run_of workers (half_way count))
demo_job count workers most some few = record {
  job = record {
    loads = All-cons IsLoad (record { window = half_way count; name = codes "second" }) [] ((omega arith, omega (arith, most)), omega arith) (All-nil IsLoad);
    few = omega arith;
    apart = names_apart workers (half_way count);
    rising = λ k inside. absurd (omega (arith, inside));
    workers = (some, few);
    errors = tt;
  };
  one_load = refl;
  no_limit = refl;
}

content_here : (m : Contents) (name bytes : List ℕ) → content (insert m name bytes) name ≡ bytes
content_here m name bytes =
    let same : eq_by_cmp (slice_cmp nat_cmp) name name ≡ true = (eq_by_cmp_equiv nat_list_cmp_total).refl name in
    ap (λ o. unwrap_or o []) (get-insert nat_list_cmp_total m name bytes name ∙ ap (λ t. cond t (Some bytes) (get m name)) same)

pub is_show : (seed count : ℕ) (old written : Contents) (job : RunJob) (made : Made) → IsDemoJob count job → IsDemoMade count (table_from 0) (table_from 64) made →
    IsShow seed count (record {
      files = record { reading = insert old job.input (capture_of seed count); writing = written };
      job = job;
      made = made;
    })
is_show seed count old written job made is_job is_made =
    record { job = is_job; holds = content_here old job.input (capture_of seed count); made = is_made }
