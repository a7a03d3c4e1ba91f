-- What the rules of a plan give.
use Rattle.std.proofs.Common.{◌≡◌, ℕ, zero, suc, ◌+◌, ◌-◌, ◌^◌, ◌<◌, ◌≤◌, max, true, false, nat_lt, All, List, [], ◌∷◌, length, get_or, fold, refl, ap, arith, inl, inr, lt-ltb, le-ltb}
use Rattle.std.proofs.lemmas.List.Elements.{All-get_or}
use Rattle.std.proofs.lemmas.Bool.{cases_lt}
use Rattle.swap_core.specs.Plans.{Tables, IsPlan, IsTableSize, IsWindow, IsNotBefore, table, window, limit, width, always}
use Rattle.swap_core.specs.declared.plan.Window.{Window}

-- the longest so far is below the longest of all, and so is each table
abbrev longest_from : ℕ → List (List ℕ) → ℕ
longest_from n ts = fold (λ (longest : ℕ) (words : List ℕ). max longest (length words)) n ts

longest_above : (n : ℕ) (ts : List (List ℕ)) → n ≤ longest_from n ts
longest_above n [] = omega arith
longest_above n (t ∷ ts) = omega (arith, longest_above (max n (length t)) ts)

longest_covers : (n : ℕ) (ts : List (List ℕ)) (k : ℕ) → length (get_or ts k []) ≤ longest_from n ts
longest_covers n [] k = omega arith
longest_covers n (t ∷ ts) zero = omega (arith, longest_above (max n (length t)) ts)
longest_covers n (t ∷ ts) (suc k) = longest_covers (max n (length t)) ts k

pub table_fits : (p : Tables) (k : ℕ) → length (table p k) ≤ width p
table_fits p k = longest_covers 0 p.tables k

-- no table is longer than its limit, so neither is the longest
longest_small : (n : ℕ) (ts : List (List ℕ)) → n ≤ 16777216 → All IsTableSize ts
    → fold (λ (m : ℕ) (t : List ℕ). max m (length t)) n ts ≤ 16777216
longest_small n [] l h = l
longest_small n (t ∷ ts) l h =
    let size : IsTableSize t = h 0 [] (omega arith) in
    longest_small (max n (length t)) ts (omega (arith, size.1)) (λ k d m. h (suc k) d (omega arith))

pub width_small : (p : Tables) → IsPlan p → width p ≤ 16777216
width_small p h = longest_small 0 p.tables (omega arith) h.sizes

pub limit_before : (p : Tables) (v : ℕ) → v < length p.windows → limit p v ≡ (window p (v + 1)).latest
limit_before p v l =
    let test : nat_lt v (length p.windows) ≡ true = lt-ltb v (length p.windows) l in
    rw test refl

pub limit_last : (p : Tables) (v : ℕ) → length p.windows ≤ v → limit p v ≡ 2 ^ 31
limit_last p v l =
    let test : nat_lt v (length p.windows) ≡ false = le-ltb v (length p.windows) l in
    rw test refl

-- window k, by its place in the list
pub window_at : (p : Tables) (k : ℕ) → window p (k + 1) ≡ get_or p.windows k always
window_at p k =
    let e : k + 1 - 1 ≡ k = omega arith in
    ap (λ (n : ℕ). get_or p.windows n always) e

pub limit_small : (p : Tables) (v : ℕ) → IsPlan p → limit p v ≤ 2147483648
limit_small p v h =
    elim (cases_lt v (length p.windows)) [
      | inl l ↦
          let right : IsWindow (get_or p.windows v always) = All-get_or IsWindow p.windows v always l h.each_window in
          let here : limit p v ≡ (window p (v + 1)).latest = limit_before p v l in
          let there : (window p (v + 1)).latest ≡ (get_or p.windows v always).latest = ap (λ (w : Window). w.latest) (window_at p v) in
          omega (arith, right.1)
      | inr l ↦ omega (arith, limit_last p v l)
    ]

-- the limit never falls
pub limit_rises : (p : Tables) (v : ℕ) → IsPlan p → limit p v ≤ limit p (v + 1)
limit_rises p v h =
    elim (cases_lt (v + 1) (length p.windows)) [
      | inl l ↦
          let next : IsNotBefore (get_or p.windows (v + 1) always) (get_or p.windows v always) = h.rising v l in
          let a : limit p v ≡ (window p (v + 1)).latest = limit_before p v (omega arith) in
          let b : limit p (v + 1) ≡ (window p (v + 1 + 1)).latest = limit_before p (v + 1) l in
          let c : (window p (v + 1)).latest ≡ (get_or p.windows v always).latest = ap (λ (w : Window). w.latest) (window_at p v) in
          let d : (window p (v + 1 + 1)).latest ≡ (get_or p.windows (v + 1) always).latest =
          ap (λ (w : Window). w.latest) (window_at p (v + 1)) in
          omega (arith, next.1)
      | inr l ↦ omega (arith, limit_small p v h, limit_last p (v + 1) l)
    ]
