-- What holds of the files from one moment to a later one, if it is told.
use Rattle.std.proofs.Common.{None, Option, Some, ℕ, ◌≡◌}
use Rattle.aftr_io.specs.Contents.{Contents, Moves}

pub moves_join : (a b c : Option Contents) (P Q R : Contents → Contents → Type 0) → ((m n o : Contents) → P m n → Q n o → R m o) → Moves a b P → Moves b c Q →
    Moves a c R
moves_join None None None P Q R both first second = tt
moves_join None None (Some o) P Q R both first second = second
moves_join None (Some n) c P Q R both first second = absurd first
moves_join (Some m) None c P Q R both first second = absurd first
moves_join (Some m) (Some n) None P Q R both first second = second
moves_join (Some m) (Some n) (Some o) P Q R both first second = both m n o first second

pub moves_by : (a b : Option Contents) (P Q : Contents → Contents → Type 0) → ((m n : Contents) → P m n → Q m n) → Moves a b P → Moves a b Q
moves_by None None P Q by step = tt
moves_by None (Some n) P Q by step = step
moves_by (Some m) None P Q by step = step
moves_by (Some m) (Some n) P Q by step = by m n step

pub moves_same : (a b : Option Contents) (P : Contents → Contents → Type 0) → ((m : Contents) → P m m) → b ≡ a → Moves a b P
moves_same a b P all same = rw same (here a) where
  here : (h : Option Contents) → Moves h h P
  here None = tt
  here (Some m) = all m

-- a number that is told inside is told outside; it is 0 if the files tell nothing
pub count_out : (a b : Option Contents) (P : ℕ → Contents → Contents → Type 0) → Moves a b (λ m n. (count : ℕ) × P count m n) → (count : ℕ) × Moves a b (P count)
count_out None None P step = (0, tt)
count_out None (Some n) P step = absurd step
count_out (Some m) None P step = absurd step
count_out (Some m) (Some n) P step = step
