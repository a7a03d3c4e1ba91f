-- Whether a text can begin as TOML, told by its first line that is neither blank nor a comment. So a list in JSON and a line of
-- commas are told apart from a table file, whatever follows.
use Rattle.std.specs.Prelude.{◌≡◌, ℕ, ◌==◌, ◌-◌, Bool, true, false, ◌||◌, List, length, Some, None, is_some, IsUtf8}
use Rattle.toml_parser.specs.Lexical.{Read, first, skip_blank}
use Rattle.toml_parser.specs.Strings.{Key}
use Rattle.table_costs.specs.Costs.{is_too_costly}
pub use Rattle.toml.specs.Parse.{key_equals, header_key, atom, expression, line, skip_bom}

-- behind a key and `=` a list or a table begins, which may go on over lines: 91 `[`, 123 `{`
abbrev pub opens : Read Key → Bool
opens None = false
opens (Some k) = first k.1 == 91 || first k.1 == 123

-- a line of TOML begins here: a header, or a pair whose value is whole or is a list or a table
unfoldable pub begins_line : List ℕ → Bool
begins_line text = opens (key_equals text) || is_some (line text)

-- behind blank lines and comments there is nothing, or a line of TOML begins
unfoldable pub begins_toml : List ℕ → Bool
begins_toml text = length (skip_blank (skip_bom text)) == 0 || begins_line (skip_blank (skip_bom text))

-- where the first line that is neither blank nor a comment begins
abbrev pub first_place : List ℕ → ℕ
first_place text = length text - length (skip_blank (skip_bom text))

-- A file is refused for what it would cost: it is a text in UTF-8 and begins as TOML, and is nested too deep or would cost much.
pub record IsTooCostly (bytes : List ℕ) : Type 0 where
  pub utf8 : IsUtf8 bytes
  pub begins : begins_toml bytes ≡ true
  pub costly : is_too_costly bytes ≡ true
