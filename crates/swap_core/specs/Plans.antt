-- The tables that come into force one after another, and when each may. Tables are counted from 0, and window k, from 1,
-- belongs to table k: table k comes into force once as many records were drawn as its window allows.
use Rattle.std.specs.Prelude.{◌≡◌, ℕ, zero, suc, ◌+◌, ◌-◌, ◌^◌, ◌<◌, ◌≤◌, max, nat_lt, if◌then◌else◌, List, []}
use Rattle.std.specs.Prelude.{◌∷◌, ◌++◌, length, slice_index, slice_index_or, replicate, All, fold}
use Rattle.swap_core.specs.declared.plan.Window.{Window}

pub record Tables : Type 0 where
  pub tables : List (List ℕ)
  pub windows : List Window

-- the words of table k
abbrev pub table : Tables → ℕ → List ℕ
table p k = slice_index_or p.tables k []

-- a window that is open from the first record to the last that can be
abbrev pub always : Window
always = record { earliest = 0; latest = 2 ^ 31 }

-- the length of the longest table
abbrev pub width : Tables → ℕ
width p = fold (λ (longest : ℕ) words. max longest (length words)) 0 p.tables

-- The words that stand in the spare area while this version is in force and the next table is not yet written: those of the table
-- that was in force before it, or zeros where none was.
abbrev pub stale : Tables → ℕ → List ℕ
stale p zero = replicate (width p) 0
stale p (suc before) = table p before

-- In these places the next words are those that stand there already.
abbrev pub AreAlike : List ℕ → List ℕ → ℕ → ℕ → Type 0
AreAlike standing next from end =
    (j : ℕ) → from ≤ j → j < end → (j < length standing) × (slice_index standing j ≡ slice_index next j)

-- window k, for k from 1
abbrev pub window : Tables → ℕ → Window
window p k = slice_index_or p.windows (k - 1) always

-- how many records have to be drawn before another version may follow this one: up to the first moment of the next window
abbrev pub threshold : Tables → ℕ → ℕ
threshold p version = if nat_lt version (length p.windows) then (window p (version + 1)).earliest else 2 ^ 31

-- how many records may be drawn while this version is in force: up to the last moment of the next window
abbrev pub limit : Tables → ℕ → ℕ
limit p version = if nat_lt version (length p.windows) then (window p (version + 1)).latest else 2 ^ 31

-- a plan with one table more
abbrev pub longer : Tables → Window → List ℕ → Tables
longer p next words = record { tables = p.tables ++ words ∷ []; windows = p.windows ++ next ∷ [] }

abbrev pub IsTableSize : List ℕ → Type 0
IsTableSize words = (1 ≤ length words) × (length words ≤ 2 ^ 24)

abbrev pub IsWindow : Window → Type 0
IsWindow w = (w.earliest ≤ w.latest) × (w.latest ≤ 2 ^ 31)

-- neither end comes earlier than that of the window before
abbrev pub IsNotBefore : Window → Window → Type 0
IsNotBefore next before = (before.earliest ≤ next.earliest) × (before.latest ≤ next.latest)

pub record IsPlan (p : Tables) : Type 0 where
  -- one window for each table but the first
  pub paired : length p.windows + 1 ≡ length p.tables
  pub few : length p.tables ≤ 256
  pub sizes : All IsTableSize p.tables
  pub each_window : All IsWindow p.windows
  pub rising : (k : ℕ) → k + 1 < length p.windows
      → IsNotBefore (slice_index_or p.windows (k + 1) always) (slice_index_or p.windows k always)

-- a table and its window may come behind those of the plan
pub record MayFollow (p : Tables) (next : Window) (words : List ℕ) : Type 0 where
  pub room : length p.tables < 256
  pub size : IsTableSize words
  pub opens : IsWindow next
  pub not_before : (k : ℕ) → k + 1 ≡ length p.windows → IsNotBefore next (slice_index_or p.windows k always)
