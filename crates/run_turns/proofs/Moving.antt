-- What is told of the files, from step to step: of those that are read, which no step changes, and of those that are written.
use Rattle.run_turns.proofs.Words.{◌≡◌, Option, Some, None, Contents, Moves, Told}

-- what holds of all contents
pub told_all : (h : Option Contents) (P : Contents → Type 0) → ((m : Contents) → P m) → Told h P
told_all None P all = tt
told_all (Some m) P all = all m

-- what is told, in other words
pub told_by : (h : Option Contents) (P Q : Contents → Type 0) → ((m : Contents) → P m → Q m) → Told h P → Told h Q
told_by None P Q each told = tt
told_by (Some m) P Q each told = each m told

-- two things that are told
pub told_both : (h : Option Contents) (P Q R : Contents → Type 0) → ((m : Contents) → P m → Q m → R m) → Told h P → Told h Q → Told h R
told_both None P Q R both first second = tt
told_both (Some m) P Q R both first second = both m first second

-- what a step says, in other words
pub moves_by : (a b : Option Contents) (P R : Contents → Contents → Type 0) → ((m n : Contents) → P m n → R m n) → Moves a b P → Moves a b R
moves_by None None P R each step = tt
moves_by None (Some n) P R each step = step
moves_by (Some m) None P R each step = step
moves_by (Some m) (Some n) P R each step = each m n step

-- two steps are one
pub moves_join : (a b c : Option Contents) (P Q R : Contents → Contents → Type 0) → ((m n o : Contents) → P m n → Q n o → R m o) → Moves a b P → Moves b c Q →
    Moves a c R
moves_join None None None P Q R both first second = tt
moves_join None None (Some o) P Q R both first second = second
moves_join None (Some n) c P Q R both first second = absurd first
moves_join (Some m) None c P Q R both first second = absurd first
moves_join (Some m) (Some n) None P Q R both first second = second
moves_join (Some m) (Some n) (Some o) P Q R both first second = both m n o first second

-- and three
pub moves_three : (a b c d : Option Contents) (P Q R S : Contents → Contents → Type 0) → ((m n o p : Contents) → P m n → Q n o → R o p → S m p) →
    Moves a b P → Moves b c Q → Moves c d R → Moves a d S
moves_three a b c d P Q R S all first second third =
    let T : Contents → Contents → Type 0 = λ n p. (o : Contents) × Q n o × R o p in
    moves_join a b d P T S (λ m n p u w. all m n w.0 p u w.1 w.2) first (moves_join b c d Q R T (λ n o p v w. (o, v, w)) second third)

-- a step that does nothing
pub moves_none : (a b : Option Contents) (P : Contents → Contents → Type 0) → ((m : Contents) → P m m) → b ≡ a → Moves a b P
moves_none a b P same is = rw is (by_held a) where
  by_held : (h : Option Contents) → Moves h h P
  by_held None = tt
  by_held (Some m) = same m

-- a step, and what is told of the files that are read
pub told_moves : (h a b : Option Contents) (P : Contents → Type 0) (Q R : Contents → Contents → Contents → Type 0) →
    ((i m n : Contents) → P i → Q i m n → R i m n) → Told h P → Told h (λ i. Moves a b (Q i)) → Told h (λ i. Moves a b (R i))
told_moves h a b P Q R both told step =
    told_both h P (λ i. Moves a b (Q i)) (λ i. Moves a b (R i)) (λ i p q. moves_by a b (Q i) (R i) (λ m n. both i m n p) q) told step

-- what is told of the files that are read, as a step that does nothing
pub told_still : (h a b : Option Contents) (P : Contents → Type 0) (R : Contents → Contents → Contents → Type 0) →
    ((i m : Contents) → P i → R i m m) → b ≡ a → Told h P → Told h (λ i. Moves a b (R i))
told_still h a b P R each same told = told_by h P (λ i. Moves a b (R i)) (λ i p. moves_none a b (R i) (λ m. each i m p) same) told
