-- Reads, one after another, as one.
use Rattle.std.proofs.Common.{◌≡◌, ℕ, Bool, true, false, List, Option, ◌∙◌, ap, subst}
use Rattle.aftr_io.specs.Contents.{Contents}
use Rattle.aftr_io.specs.Outside.{FailsAt, OnlyReads, Readable}

pub same_readable : (a b : Readable) → b.held ≡ a.held → b.lost ≡ a.lost → b.last ≡ a.last → b ≡ a
same_readable a b held lost last =
    ap (λ (x : Option Contents). let o : Readable = record b { held = x } in o) held
    ∙ ap (λ (x : ℕ). let o : Readable = record b { held = a.held; lost = x } in o) lost
    ∙ ap (λ (x : Option (List ℕ × ℕ)). let o : Readable = record a { last = x } in o) last

-- a call that reads and does not fail leaves the files as they are
pub read_well : (name : List ℕ) (Inside : ℕ → Type 0) (a b : Readable) → OnlyReads false name Inside a b → b ≡ a
read_well name Inside a b r = same_readable a b r.held r.lost r.last

fails_wider : (failed : Bool) (name : List ℕ) (P Q : ℕ → Type 0) (a b : Option (List ℕ × ℕ)) → ((place : ℕ) → P place → Q place) → FailsAt failed name P a b → FailsAt failed name Q a b
fails_wider true name P Q a b wider last = (last.0, wider last.0 last.1, last.2)
fails_wider false name P Q a b wider last = last

-- the place of a read that fails may be known less closely
pub reads_wider : (failed : Bool) (name : List ℕ) (P Q : ℕ → Type 0) (a b : Readable) → ((place : ℕ) → P place → Q place) → OnlyReads failed name P a b → OnlyReads failed name Q a b
reads_wider failed name P Q a b wider r = record {
  held = r.held;
  lost = r.lost;
  last = fails_wider failed name P Q a.last b.last wider r.last;
}

-- a read behind others that left the files as they were
pub reads_then : (failed : Bool) (name : List ℕ) (P Q : ℕ → Type 0) (a b c : Readable) → b ≡ a → ((place : ℕ) → P place → Q place) → OnlyReads failed name P b c → OnlyReads failed name Q a c
reads_then failed name P Q a b c same wider r =
    let R : Readable → Type 0 = λ o. OnlyReads failed name Q o c in subst R same (reads_wider failed name P Q b c wider r)
