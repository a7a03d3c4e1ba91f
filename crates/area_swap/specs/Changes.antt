-- Which words of a table are not those that stand in its area already: blocks of so many words, listed in order.
use Rattle.std.specs.Prelude.{◌≡◌, ℕ, ◌+◌, ◌*◌, ◌<◌, ◌≤◌, min, List, [], ◌∷◌, length, slice_index_or}
use Rattle.swap_core.specs.Plans.{Tables, AreAlike, stale, table}

-- so many words are a block
abbrev pub block_words : ℕ
block_words = 16

-- From one place to another all words are those that stand there already, but for the words of these blocks.
abbrev pub AreChanges : List ℕ → List ℕ → ℕ → ℕ → List ℕ → Type 0
AreChanges standing next from end [] = (from ≤ end) × AreAlike standing next from end
AreChanges standing next from end (block ∷ blocks) =
    (from ≤ block * block_words) × (block * block_words < length next)
    × AreAlike standing next from (block * block_words)
    × AreChanges standing next (min (length next) (block * block_words + block_words)) end blocks

-- These are the changes of tables, from the second on, from the words that stand in their areas while they come next.
abbrev pub EachIsListed : Tables → List (List ℕ) → Type 0
EachIsListed p lists =
    (version : ℕ) → version < length lists
    → AreChanges (stale p version) (table p (version + 1)) 0 (length (table p (version + 1))) (slice_index_or lists version [])

-- so it is, for each table but the first
pub record AreListed (p : Tables) (lists : List (List ℕ)) : Type 0 where
  pub many : length lists + 1 ≡ length p.tables
  pub each : EachIsListed p lists
