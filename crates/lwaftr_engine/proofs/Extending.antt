-- The points that came so far, and those that come by the last record: each table whose window opens by then gets its point.
use Rattle.lwaftr_engine.proofs.Words.{◌≡◌, ℕ, zero, suc, ◌+◌, ◌-◌, ◌<◌, ◌≤◌, ◌⊎◌, List, [], ◌∷◌, ◌++◌, length, get_or, slice_index, refl, ◌∙◌, ap, arith}
use Rattle.lwaftr_engine.proofs.Words.{inl, inr, append-nil, append_assoc, length-append, min, cases_lt, get_or_append_left, All-get_or, IsNotBefore, IsPlan}
use Rattle.lwaftr_engine.proofs.Words.{IsWindow, Tables, always, window, AreAllPoints, AreInWindows, in_force, Window, window_at, settled_points}
use Rattle.lwaftr_engine.proofs.Telling.{in_force_cons, is_none}

last_got : (points : List ℕ) (x : ℕ) → slice_index (points ++ x ∷ []) (length points) ≡ x
last_got [] x = refl
last_got (p ∷ points) x = last_got points x

-- one point more
pushed : (windows : List Window) (points : List ℕ) (records total x : ℕ) → AreInWindows windows points records → records ≤ total → x ≤ total →
    ((k : ℕ) → k + 1 ≡ length points → slice_index points k ≤ x) → (get_or windows (length points) always).earliest ≤ x →
    x ≤ (get_or windows (length points) always).latest →
    AreInWindows windows (points ++ x ∷ []) total
pushed windows points records total x h more in_all above opens closes = record { rising = rising; reached = reached; inside = inside } where
  count : length (points ++ x ∷ []) ≡ length points + 1
  count = length-append points (x ∷ [])

  before : (k : ℕ) → k < length points → slice_index (points ++ x ∷ []) k ≡ slice_index points k
  before k l = get_or_append_left points (x ∷ []) 0 k l

  at_end : (k : ℕ) → k ≡ length points → slice_index (points ++ x ∷ []) k ≡ x
  at_end k is = ap (λ (n : ℕ). slice_index (points ++ x ∷ []) n) is ∙ last_got points x

  rising : (k : ℕ) → k + 1 < length (points ++ x ∷ []) → slice_index (points ++ x ∷ []) k ≤ slice_index (points ++ x ∷ []) (k + 1)
  rising k l = elim (cases_lt (k + 1) (length points)) [
    | inl less ↦ omega (arith, h.rising k less, before k (omega arith), before (k + 1) less)
    | inr more ↦
        let is : k + 1 ≡ length points = omega (arith, more, l, count) in
        omega (arith, above k is, before k (omega arith), at_end (k + 1) is)
  ]

  reached : (k : ℕ) → k < length (points ++ x ∷ []) → slice_index (points ++ x ∷ []) k ≤ total
  reached k l = elim (cases_lt k (length points)) [
    | inl less ↦ omega (arith, h.reached k less, before k less)
    | inr more ↦ omega (arith, at_end k (omega (arith, more, l, count)))
  ]

  inside : (k : ℕ) → k < length (points ++ x ∷ []) →
      ((get_or windows k always).earliest ≤ slice_index (points ++ x ∷ []) k) × (slice_index (points ++ x ∷ []) k ≤ (get_or windows k always).latest)
  inside k l = elim (cases_lt k (length points)) [
    | inl less ↦ (omega (arith, (h.inside k less).0, before k less), omega (arith, (h.inside k less).1, before k less))
    | inr more ↦
        let is : k ≡ length points = omega (arith, more, l, count) in
        let e = ap (λ (n : ℕ). (get_or windows n always).earliest) is in
        let f = ap (λ (n : ℕ). (get_or windows n always).latest) is in
        (omega (arith, opens, at_end k is, e), omega (arith, closes, at_end k is, f))
  ]

-- the records that were drawn are some of those that there are
reached_more : (windows : List Window) (points : List ℕ) (records total : ℕ) → AreInWindows windows points records → records ≤ total →
    AreInWindows windows points total
reached_more windows points records total h more = record { rising = h.rising; reached = λ k l. omega (arith, h.reached k l); inside = h.inside }

-- none of these points is below the number of records drawn
abbrev pub AreBehind : ℕ → List ℕ → Type 0
AreBehind drawn [] = Unit {0}
AreBehind drawn (x ∷ xs) = (drawn ≤ x) × AreBehind drawn xs

-- points that come behind a number change nothing for it
pub in_force_before : (points later : List ℕ) (drawn number : ℕ) → AreBehind drawn later → number < drawn →
    in_force (points ++ later) number ≡ in_force points number
in_force_before [] [] drawn number behind less = refl
in_force_before [] (x ∷ later) drawn number behind less =
    omega (
      arith,
      in_force_cons x later number,
      is_none x number (omega (arith, behind.0, less)),
      in_force_before [] later drawn number behind.1 less,
    )
in_force_before (p ∷ points) later drawn number behind less =
    omega (arith, in_force_cons p (points ++ later) number, in_force_cons p points number, in_force_before points later drawn number behind less)

-- the points that come yet
pub record AreExtended (windows : List Window) (points : List ℕ) (drawn total : ℕ) : Type 0 where
  pub later : List ℕ
  pub behind : AreBehind drawn later
  pub all : AreAllPoints windows (points ++ later) total

module _ (p : Tables) (planned : IsPlan p) (drawn total : ℕ) (more : drawn ≤ total) where
  -- the window that opens next, and the point that it gets if it opens by the last record
  abbrev due : List ℕ → Window
  due points = get_or p.windows (length points) always

  abbrev next_point : List ℕ → ℕ
  next_point points = min total (due points).latest

  extended : (left : ℕ) (points : List ℕ) → left + length points + 1 ≡ length p.tables → AreInWindows p.windows points total →
      (length points < length p.windows → drawn ≤ (due points).latest) → AreExtended p.windows points drawn total
  extended zero points room placed ready = record {
    later = [];
    behind = tt;
    all = rw (append-nil points) (settled_points p planned points total (omega (arith, room)) placed (inl (omega (arith, room))));
  }
  extended (suc left) points room placed ready = elim (cases_lt total (window p (length points + 1)).earliest) [
    | inl late ↦ record {
      later = [];
      behind = tt;
      all = rw (append-nil points) (settled_points p planned points total (omega (arith, room)) placed (inr late));
    }
    | inr opens ↦
        let same = ap (λ (v : Window). v.earliest) (window_at p (length points)) in
        let is = All-get_or IsWindow p.windows (length points) always (omega (arith, room, planned.paired)) planned.each_window in
        let above : (k : ℕ) → k + 1 ≡ length points → slice_index points k ≤ next_point points = λ k at.
        let next : IsNotBefore (get_or p.windows (k + 1) always) (get_or p.windows k always) = planned.rising k (omega (arith, at, room, planned.paired)) in
        let here : (get_or p.windows (k + 1) always).latest ≡ (due points).latest = ap (λ (n : ℕ). (get_or p.windows n always).latest) at in
        omega (arith, next.1, here, (placed.inside k (omega (arith, at))).1, placed.reached k (omega (arith, at))) in
        let one_more = pushed p.windows points total total (next_point points) placed (omega arith) (omega arith) above
        (omega (arith, opens, same, is.0)) (omega arith) in
        let count = length-append points (next_point points ∷ []) in
        let here : drawn ≤ (due points).latest = ready (omega (arith, room, planned.paired)) in
        let still : length (points ++ next_point points ∷ []) < length p.windows → drawn ≤
        (get_or p.windows (length (points ++ next_point points ∷ [])) always).latest =
        λ inside.
        let next : IsNotBefore (get_or p.windows (length points + 1) always) (due points) = planned.rising (length points) (omega (arith, inside, count)) in
        let there = ap (λ (n : ℕ). (get_or p.windows n always).latest) count in
        omega (arith, here, next.1, there) in
        let rest = extended left (points ++ next_point points ∷ []) (omega (arith, room, count)) one_more still in
        record {
          later = next_point points ∷ rest.later;
          behind = (omega (arith, here, more), rest.behind);
          all = rw (← (append_assoc points (next_point points ∷ []) rest.later)) rest.all;
        }
  ]

  -- nothing was drawn yet, or the next window, if there is one, is not ready
  ready_by : (points : List ℕ) → (drawn ≡ 0) ⊎ ((length p.tables ≤ length points + 1) ⊎ (drawn < (window p (length points + 1)).earliest)) →
      length points < length p.windows → drawn ≤ (due points).latest
  ready_by points (inl none) inside = omega (arith, none)
  ready_by points (inr (inl all)) inside = absurd (omega (arith, all, inside, planned.paired))
  ready_by points (inr (inr waits)) inside =
      let same = ap (λ (v : Window). v.earliest) (window_at p (length points)) in
      let is = All-get_or IsWindow p.windows (length points) always inside planned.each_window in
      omega (arith, waits, same, is.0)

  pub points_extend : (points : List ℕ) → length points < length p.tables → AreInWindows p.windows points drawn →
      (drawn ≡ 0) ⊎ ((length p.tables ≤ length points + 1) ⊎ (drawn < (window p (length points + 1)).earliest)) → AreExtended p.windows points drawn total
  points_extend points few placed ready =
      extended (length p.tables - (length points + 1)) points (omega (arith, few)) (reached_more p.windows points drawn total placed more)
      (ready_by points ready)
