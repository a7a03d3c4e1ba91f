-- Words ask for one job alone.
use Rattle.std.proofs.Common.{◌≡◌, inl, inr, ℕ, ◌<◌, ◌^◌, List, [], ◌∷◌, Option, Some, None, refl, sym, ◌∙◌, ap, subst, arith}
use Rattle.std.specs.Prelude.{decimal}
use Rattle.std.specs.Borrow.{Bor}
use Rattle.std.proofs.lemmas.Fmt.{decimal_injective}
use Rattle.addr_text.specs.Ipv4.{IsV4Text}
use Rattle.aftr_base.specs.declared.numbers.V4.{V4}
use Rattle.aftr_text.specs.Jobs.{AreWorkers, Asks, AsksCheck, AsksDemo, AsksFor, AsksMigrate, AsksRun, AsksWho, IsLimit, load_texts}
use Rattle.aftr_text.specs.Parts.{Parts, parts_of, texts}
use Rattle.aftr_text.specs.declared.jobs.Job.{Job}
use Rattle.aftr_text.specs.declared.jobs.Job.TheVariants as job
use Rattle.aftr_text.specs.declared.jobs.RunJob.{RunJob}
use Rattle.aftr_text.proofs.AskLemmas.{apart, six, two_firsts, three_firsts}
use Rattle.aftr_text.proofs.LoadLemmas.{one_list}

-- a text spells one IPv4 address
abbrev pub OneAddress : Type 0
OneAddress = (text : List ℕ) (a b : ℕ) → IsV4Text text a → IsV4Text text b → a ≡ b

one_number : (x y : ℕ) → x < 2 ^ 64 → y < 2 ^ 64 → decimal x ∷ [] ≡ decimal y ∷ [] → x ≡ y
one_number x y p q e = let same : decimal x ≡ decimal y = cc in decimal_injective x y p q same

one_count : (given : List (List ℕ)) (x y : ℕ) → AreWorkers given x → AreWorkers given y → x ≡ y
one_count given x y (inl a) (inl b) = a.1 ∙ sym b.1
one_count given x y (inl a) (inr b) = absurd cc
one_count given x y (inr a) (inl b) = absurd cc
one_count given x y (inr a) (inr b) = one_number x y (omega (arith, a.1.1)) (omega (arith, b.1.1)) (sym a.0 ∙ b.0)

one_limit : (given : List (List ℕ)) (x y : Option ℕ) → IsLimit given x → IsLimit given y → x ≡ y
one_limit given None None a b = refl
one_limit given None (Some y) a b = absurd cc
one_limit given (Some x) None a b = absurd cc
one_limit given (Some x) (Some y) a b = ap Some (one_number x y (omega (arith, a.1.1)) (omega (arith, b.1.1)) (sym a.0 ∙ b.0))

one_run : (p : Parts) (x y : RunJob) → AsksRun p x → AsksRun p y → x ≡ y
one_run p x y a b =
    let same = six x.input x.output x.verdicts x.versions x.table (load_texts x.loads) y.input y.output y.verdicts y.versions y.table (load_texts y.loads)
    (sym a.arguments ∙ b.arguments) in
    let loads : x.loads ≡ y.loads = one_list x.loads y.loads a.loads b.loads same.5 in
    let workers : x.workers ≡ y.workers = one_count p.workers x.workers y.workers a.workers b.workers in
    let errors : x.errors ≡ y.errors = one_limit p.errors x.errors y.errors a.errors b.errors in
    λ i. record { input = same.0 i; output = same.1 i; verdicts = same.2 i; versions = same.3 i; table = same.4 i; loads = loads i; workers = workers i; errors = errors i }

one_check : (p : Parts) (x y : List ℕ) → AsksCheck p x → AsksCheck p y → job.Check x ≡ job.Check y
one_check p x y a b = let same : x ∷ [] ≡ y ∷ [] = sym a.arguments ∙ b.arguments in let name : x ≡ y = cc in ap job.Check name

one_who : OneAddress → (p : Parts) (x y : List ℕ) (v w : V4) (m n : ℕ) → AsksWho p x v m → AsksWho p y w n → job.Who x v m ≡ job.Who y w n
one_who one p x y v w m n a b =
    let same = three_firsts x a.address (decimal m) y b.address (decimal n) (sym a.arguments ∙ b.arguments) in
    let number : v.0 ≡ w.0 = one b.address v.0 w.0 (subst (λ (t : List ℕ). IsV4Text t v.0) same.1 a.spelled) b.spelled in
    let v4 : v ≡ w = ap (λ (k : ℕ). record { 0 = k }) number in
    let port : m ≡ n = decimal_injective m n (omega (arith, a.fits)) (omega (arith, b.fits)) same.2 in
    λ i. job.Who (same.0 i) (v4 i) (port i)

one_demo : (p : Parts) (s c w t d x : ℕ) → AsksDemo p s c w → AsksDemo p t d x → job.Demo s c w ≡ job.Demo t d x
one_demo p s c w t d x a b =
    let same = three_firsts (decimal s) (decimal c) (decimal w) (decimal t) (decimal d) (decimal x) (sym a.arguments ∙ b.arguments) in
    let seed : s ≡ t = decimal_injective s t a.seeded b.seeded same.0 in
    let count : c ≡ d = decimal_injective c d (omega (arith, a.counted.1)) (omega (arith, b.counted.1)) same.1 in
    let workers : w ≡ x = decimal_injective w x (omega (arith, a.worked.1)) (omega (arith, b.worked.1)) same.2 in
    λ i. job.Demo (seed i) (count i) (workers i)

one_migrate : (p : Parts) (x y v w : List ℕ) → AsksMigrate p x y → AsksMigrate p v w → job.Migrate x y ≡ job.Migrate v w
one_migrate p x y v w a b =
    let same = two_firsts x y v w (sym a.arguments ∙ b.arguments) in
    λ i. job.Migrate (same.0 i) (same.1 i)

one_for : OneAddress → (command : List ℕ) (p : Parts) (x y : Job) → AsksFor command p x → AsksFor command p y → x ≡ y
one_for one command p (job.Run r) (job.Run s) a b = ap job.Run (one_run p r s a.1 b.1)
one_for one command p (job.Check n) (job.Check k) a b = one_check p n k a.1 b.1
one_for one command p (job.Who n v m) (job.Who k w l) a b = one_who one p n k v w m l a.1 b.1
one_for one command p (job.Demo s c w) (job.Demo t d x) a b = one_demo p s c w t d x a.1 b.1
one_for one command p (job.Migrate i o) (job.Migrate j q) a b = one_migrate p i o j q a.1 b.1
one_for one command p _ _ a b = absurd (apart _ _ refl (sym a.0 ∙ b.0))

same_some : (p q : Parts) → Some p ≡ Some q → p ≡ q
same_some p q e = cc

one_job : OneAddress → (words : List (List ℕ)) (x y : Job) → Asks words x → Asks words y → x ≡ y
one_job one [] x y a b = absurd a
one_job one (command ∷ rest) x y a b =
    let same : a.0 ≡ b.0 = same_some a.0 b.0 (sym a.1 ∙ b.1) in
    one_for one command b.0 x y (subst (λ (p : Parts). AsksFor command p x) same a.2) b.2

-- the words, by the first and the rest
module _ (words rest : List (Bor (List ℕ))) (command : Bor (List ℕ)) (are : words ≡ command ∷ rest) where
  asked : (p : Parts) (j : Job) → parts_of None (texts rest) ≡ Some p → AsksFor command.now p j → Asks (texts words) j
  asked p j is a = subst (λ (l : List (Bor (List ℕ))). Asks (texts l) j) (sym are) (p, is, a)

  pub one_asked : OneAddress → (p : Parts) (j : Job) → parts_of None (texts rest) ≡ Some p → AsksFor command.now p j
      → (other : Job) → Asks (texts words) other → other ≡ j
  one_asked one p j is a other b = one_job one (texts words) other j b (asked p j is a)
