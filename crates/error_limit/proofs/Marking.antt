-- One time more: which spans there are, what they count, and what the bucket's level says of them.
use Rattle.std.proofs.Common.{◌≡◌, ◌⊎◌, inl, inr, ℕ, zero, suc, ◌+◌, ◌-◌, ◌*◌, ◌<◌, ◌≤◌, ◌↔◌, max, Bool, true, false, cond, List, [], ◌∷◌, ◌++◌, length, take, drop, get_or, refl, sym, ◌∙◌, ap, subst, arith}
use Rattle.std.specs.List.{count_by}
use Rattle.std.proofs.lemmas.Bool.{cases_lt, true≢false}
use Rattle.std.proofs.lemmas.List.{take-append-le, drop-append-le, length-append}
use Rattle.std.proofs.lemmas.List.Sums.{sum_by-append}
use Rattle.error_limit.specs.Limits.{second, latest, moment, sent_from, MayPass, IsMarked, Bucket, Stands}

-- the times

latest_pushed : (times : List ℕ) (time : ℕ) → latest (times ++ time ∷ []) ≡ max (latest times) time
latest_pushed [] time = omega arith
latest_pushed (first ∷ times) time = omega (arith, latest_pushed times time)

latest_front : (times : List ℕ) (n : ℕ) → latest (take n times) ≤ latest times
latest_front times zero = omega arith
latest_front [] (suc n) = omega arith
latest_front (first ∷ times) (suc n) = omega (arith, latest_front times n)

pub take_whole : {A : Type 0} (xs : List A) (n : ℕ) → length xs ≤ n → take n xs ≡ xs
take_whole {A = A} [] zero l = refl
take_whole {A = A} [] (suc n) l = refl
take_whole {A = A} (x ∷ xs) zero l = absurd (omega arith)
take_whole {A = A} (x ∷ xs) (suc n) l = ap (λ (ys : List A). x ∷ ys) (take_whole xs n (omega arith))

-- an earlier member's moment does not change
moment_kept : (times : List ℕ) (time s : ℕ) → s < length times → moment (times ++ time ∷ []) s ≡ moment times s
moment_kept times time s l = ap latest (take-append-le (s + 1) times (time ∷ []) (omega arith))

moment_last : (times : List ℕ) (time s : ℕ) → s ≡ length times → moment (times ++ time ∷ []) s ≡ latest (times ++ time ∷ [])
moment_last times time s e =
    ap latest (take_whole (times ++ time ∷ []) (s + 1) (omega (arith, length-append times (time ∷ []))))

-- the marks

-- a member of the longer list that was sent is one of the earlier ones, or the last
sent_where : (marks : List Bool) (mark : Bool) (s : ℕ) → get_or (marks ++ mark ∷ []) s false ≡ true
    → ((s < length marks) × (get_or marks s false ≡ true)) ⊎ ((s ≡ length marks) × (mark ≡ true))
sent_where [] mark zero e = inr (refl, e)
sent_where [] mark (suc s) e = absurd (true≢false (sym e))
sent_where (m ∷ marks) mark zero e = inl (omega arith, e)
sent_where (m ∷ marks) mark (suc s) e = elim (sent_where marks mark s e) [
  | inl h ↦ inl (omega (arith, h.0), h.1)
  | inr h ↦ inr (omega (arith, h.0), h.1)
]

pub sent_inside : (marks : List Bool) (s : ℕ) → get_or marks s false ≡ true → s < length marks
sent_inside [] s e = absurd (true≢false (sym e))
sent_inside (m ∷ marks) zero e = omega arith
sent_inside (m ∷ marks) (suc s) e = omega (arith, sent_inside marks s e)

mark_kept : (marks : List Bool) (mark : Bool) (s : ℕ) → s < length marks → get_or (marks ++ mark ∷ []) s false ≡ get_or marks s false
mark_kept [] mark s l = absurd (omega arith)
mark_kept (m ∷ marks) mark zero l = refl
mark_kept (m ∷ marks) mark (suc s) l = mark_kept marks mark s (omega arith)

mark_last : (marks : List Bool) (mark : Bool) (s : ℕ) → s ≡ length marks → get_or (marks ++ mark ∷ []) s false ≡ mark
mark_last [] mark zero e = refl
mark_last [] mark (suc s) e = absurd (omega arith)
mark_last (m ∷ marks) mark zero e = absurd (omega arith)
mark_last (m ∷ marks) mark (suc s) e = mark_last marks mark s (omega arith)

time_kept : (times : List ℕ) (time s : ℕ) → s < length times → get_or (times ++ time ∷ []) s 0 ≡ get_or times s 0
time_kept [] time s l = absurd (omega arith)
time_kept (t ∷ times) time zero l = refl
time_kept (t ∷ times) time (suc s) l = time_kept times time s (omega arith)

time_last : (times : List ℕ) (time s : ℕ) → s ≡ length times → get_or (times ++ time ∷ []) s 0 ≡ time
time_last [] time zero e = refl
time_last [] time (suc s) e = absurd (omega arith)
time_last (t ∷ times) time zero e = absurd (omega arith)
time_last (t ∷ times) time (suc s) e = time_last times time s (omega arith)

-- a count from an earlier member rises where the last one is sent
sent_pushed : (marks : List Bool) (mark : Bool) (s : ℕ) → s ≤ length marks
    → sent_from (marks ++ mark ∷ []) s ≡ sent_from marks s + cond mark 1 0
sent_pushed marks mark s l =
    ap (λ (xs : List Bool). count_by (λ sent. sent) xs) (drop-append-le s marks (mark ∷ []) l)
    ∙ sum_by-append (λ sent. cond sent 1 0) (drop s marks) (mark ∷ []) ∙ omega arith

none_left : {A : Type 0} (xs : List A) (s : ℕ) → s ≡ length xs → drop s xs ≡ []
none_left [] zero e = refl
none_left [] (suc s) e = absurd (omega arith)
none_left (x ∷ xs) zero e = absurd (omega arith)
none_left (x ∷ xs) (suc s) e = none_left xs s (omega arith)

sent_alone : (marks : List Bool) (s : ℕ) → s ≡ length marks → sent_from marks s ≡ 0
sent_alone marks s e = ap (λ (xs : List Bool). count_by (λ sent. sent) xs) (none_left marks s e)

-- a longer span gives more
span_longer : (rate now then from : ℕ) → from ≤ then → then ≤ now → rate * (now - from) ≡ rate * (then - from) + rate * (now - then)
span_longer rate now then from l m =
    let e : now - from ≡ (then - from) + (now - then) = omega arith in
    ap (λ n. rate * n) e ∙ omega arith

module _ (b : Bucket) (times : List ℕ) (marks : List Bool) (time now level : ℕ) (h : Stands b times marks)
    (now_is : now ≡ max b.time time) (level_is : level ≡ b.level - b.rate * (now - b.time)) where
  now_latest : latest (times ++ time ∷ []) ≡ now
  now_latest = omega (arith, latest_pushed times time, h.time)

  size_is : length marks ≡ length times
  size_is = h.marked.size

  earlier : (s : ℕ) → moment times s ≤ b.time
  earlier s = omega (arith, latest_front times (s + 1), h.time)

  -- what an earlier span counts lies below the drained level and what the longer span gives
  still_most : (s : ℕ) → get_or marks s false ≡ true → sent_from marks s * second ≤ level + b.rate * (now - moment times s)
  still_most s sent =
      let before = h.most s sent in
      let longer = span_longer b.rate now b.time (moment times s) (earlier s) (omega arith) in
      omega (arith, before, longer)

  -- where the level did not run dry, the span that filled it fills it still
  still_filled : 0 < level → (s : ℕ) × (get_or marks s false ≡ true) × (sent_from marks s * second ≡ level + b.rate * (now - moment times s))
  still_filled wet = elim h.some [
    | inl dry ↦ absurd (omega arith)
    | inr filled ↦ (let longer = span_longer b.rate now b.time (moment times filled.s) (earlier filled.s) (omega arith) in
        let full = filled.level in
        (filled.s, filled.sent, omega (arith, full, longer)))
  ]

  -- where an error more fits into the bucket, it may pass
  pub may : 1 ≤ b.rate → level + second ≤ b.rate * second → MayPass b.rate times marks time
  may some fits = record {
    alone = omega arith;
    spans = λ s sent.
        let below = still_most s sent in
        let same : b.rate * (latest (times ++ time ∷ []) - moment times s) ≡ b.rate * (now - moment times s) =
        ap (λ n. b.rate * (n - moment times s)) now_latest in
        omega (arith, below, same);
  }

  -- where it may pass, it fits
  fits : 1 ≤ b.rate → MayPass b.rate times marks time → level + second ≤ b.rate * second
  fits some passes = elim (cases_lt 0 level) [
    | inl wet ↦ (let f = still_filled wet in
        let span = passes.spans f.0 f.1 in
        let full = f.2 in
        let same : b.rate * (latest (times ++ time ∷ []) - moment times f.0) ≡ b.rate * (now - moment times f.0) =
        ap (λ n. b.rate * (n - moment times f.0)) now_latest in
        omega (arith, span, full, same))
    | inr dry ↦ omega (arith, passes.alone)
  ]

  -- the marks of the longer list
  marked_more : (mark : Bool) → (mark ≡ true) ↔ MayPass b.rate times marks time → IsMarked b.rate (times ++ time ∷ []) (marks ++ mark ∷ [])
  marked_more mark last = record {
    size = omega (arith, length-append times (time ∷ []), length-append marks (mark ∷ []), size_is);
    each = λ j l. elim (cases_lt j (length times)) [
      | inl less ↦ (let P : Bool → List ℕ → List Bool → ℕ → Type 0 = λ x ts ms t. (x ≡ true) ↔ MayPass b.rate ts ms t in
          let old : P (get_or marks j false) (take j times) (take j marks) (get_or times j 0) = h.marked.each j less in
          let one = subst (λ x. P x (take j times) (take j marks) (get_or times j 0)) (sym (mark_kept marks mark j (omega (arith, size_is)))) old in
          let two = subst (λ ts. P (get_or (marks ++ mark ∷ []) j false) ts (take j marks) (get_or times j 0)) (sym (take-append-le j times (time ∷ []) (omega arith))) one in
          let three = subst (λ ms. P (get_or (marks ++ mark ∷ []) j false) (take j (times ++ time ∷ [])) ms (get_or times j 0)) (sym (take-append-le j marks (mark ∷ []) (omega (arith, size_is)))) two in
          subst (λ t. P (get_or (marks ++ mark ∷ []) j false) (take j (times ++ time ∷ [])) (take j (marks ++ mark ∷ [])) t) (sym (time_kept times time j less)) three)
      | inr more ↦ (let P : Bool → List ℕ → List Bool → ℕ → Type 0 = λ x ts ms t. (x ≡ true) ↔ MayPass b.rate ts ms t in
          let at : j ≡ length times = omega (arith, l, length-append times (time ∷ [])) in
          let one = subst (λ x. P x times marks time) (sym (mark_last marks mark j (omega (arith, size_is, at)))) last in
          let two = subst (λ ts. P (get_or (marks ++ mark ∷ []) j false) ts marks time) (sym (take-append-le j times (time ∷ []) (omega arith) ∙ take_whole times j (omega arith))) one in
          let three = subst (λ ms. P (get_or (marks ++ mark ∷ []) j false) (take j (times ++ time ∷ [])) ms time) (sym (take-append-le j marks (mark ∷ []) (omega (arith, size_is)) ∙ take_whole marks j (omega (arith, size_is)))) two in
          subst (λ t. P (get_or (marks ++ mark ∷ []) j false) (take j (times ++ time ∷ [])) (take j (marks ++ mark ∷ [])) t) (sym (time_last times time j at)) three)
    ];
  }

  -- spans of the longer list that begin at an earlier member
  span_is : (s : ℕ) → s < length times → b.rate * (now - moment (times ++ time ∷ []) s) ≡ b.rate * (now - moment times s)
  span_is s l = ap (λ n. b.rate * (now - n)) (moment_kept times time s l)

  -- an error that was sent
  pub sent : 1 ≤ b.rate → level + second ≤ b.rate * second
      → Stands (record { rate = b.rate; level = level + second; time = now }) (times ++ time ∷ []) (marks ++ true ∷ [])
  sent some fit = record {
    marked = marked_more true ((λ _. may some fit), (λ _. refl));
    time = sym now_latest;
    most = λ s was. elim (sent_where marks true s was) [
      | inl old ↦ (let below = still_most s old.1 in
          let more = sent_pushed marks true s (omega (arith, old.0)) in
          let span = span_is s (omega (arith, old.0, size_is)) in
          omega (arith, below, more, span))
      | inr new ↦ (let count = sent_pushed marks true s (omega (arith, new.0)) in
          let none = sent_alone marks s new.0 in
          omega (arith, count, none))
    ];
    some = inr (elim (cases_lt 0 level) [
      | inl wet ↦ (let f = still_filled wet in
          let inside = sent_inside marks f.0 f.1 in
          let more = sent_pushed marks true f.0 (omega (arith, inside)) in
          let span = span_is f.0 (omega (arith, inside, size_is)) in
          record { s = f.0; sent = mark_kept marks true f.0 inside ∙ f.1; level = omega (arith, f.2, more, span) })
      | inr dry ↦ (let at : length marks ≡ length times = size_is in
          let count = sent_pushed marks true (length marks) (omega arith) in
          let none = sent_alone marks (length marks) refl in
          let last : moment (times ++ time ∷ []) (length marks) ≡ now = moment_last times time (length marks) at ∙ now_latest in
          let span : b.rate * (now - moment (times ++ time ∷ []) (length marks)) ≡ 0 =
          let nothing : now - now ≡ 0 = omega arith in
          ap (λ n. b.rate * (now - n)) last ∙ ap (λ n. b.rate * n) nothing ∙ omega arith in
          record { s = length marks; sent = mark_last marks true (length marks) refl; level = omega (arith, count, none, span) })
    ]);
  }

  -- an error that was kept back
  pub kept : 1 ≤ b.rate → b.rate * second < level + second
      → Stands (record { rate = b.rate; level = level; time = now }) (times ++ time ∷ []) (marks ++ false ∷ [])
  kept some full = record {
    marked = marked_more false ((λ no. absurd (true≢false (sym no))), (λ passes. absurd (omega (arith, fits some passes))));
    time = sym now_latest;
    most = λ s was. elim (sent_where marks false s was) [
      | inl old ↦ (let below = still_most s old.1 in
          let more = sent_pushed marks false s (omega (arith, old.0)) in
          let span = span_is s (omega (arith, old.0, size_is)) in
          omega (arith, below, more, span))
      | inr new ↦ absurd (true≢false (sym new.1))
    ];
    some = elim (cases_lt 0 level) [
      | inl wet ↦ inr (let f = still_filled wet in
          let inside = sent_inside marks f.0 f.1 in
          let more = sent_pushed marks false f.0 (omega (arith, inside)) in
          let span = span_is f.0 (omega (arith, inside, size_is)) in
          record { s = f.0; sent = mark_kept marks false f.0 inside ∙ f.1; level = omega (arith, f.2, more, span) })
      | inr dry ↦ inl (omega arith)
    ];
  }
