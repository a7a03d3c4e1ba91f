-- A text that cannot begin as TOML is no document.
use Rattle.std.proofs.Common.{◌≡◌, ℕ, suc, ◌≤◌, ◌==◌, Bool, true, false, ◌||◌, if◌then◌else◌, List, [], length, Option, Some, None, is_some, option_map, Err, ◌⊎◌, inl, inr, refl, sym, subst, ◌∙◌, arith}
use Rattle.toml_parser.specs.Lexical.{Read, first, skip_blank, skip_ws}
use Rattle.toml_parser.specs.Strings.{Key, simple_key}
use Rattle.toml_parser.proofs.StringsLemmas.{key_after_turn}
use Rattle.toml.specs.Data.{Data, Members}
use Rattle.toml.specs.Parse.{atom, ends_line, expression, key_equals, line, skip_bom, parse_document}
use Rattle.toml.specs.Tables.{no_nodes}
pub use Rattle.toml.proofs.Turns.{bom_boundary}
use Rattle.toml.proofs.Turns.{lines_bad, document_none, val_atom}
use Rattle.table_costs.specs.FirstLines.{opens, begins_line, begins_toml}

neither : (a b : Bool) → (a || b) ≡ false → (a ≡ false) × (b ≡ false)
neither true b is = absurd cc
neither false b is = (refl, is)

nothing : {A : Type 0} (o : Option A) → is_some o ≡ false → o ≡ None
nothing None is = refl
nothing (Some x) is = absurd cc

pub no_document : (bytes : List ℕ) → begins_toml bytes ≡ false → parse_document bytes ≡ None
unfolding begins_toml begins_line
no_document bytes never =
    let start : List ℕ = skip_blank (skip_bom bytes) in
    let parts = neither (length start == 0) (opens (key_equals start) || is_some (line start)) never in
    let no_line = neither (opens (key_equals start)) (is_some (line start)) parts.1 in
    document_none bytes (lines_bad (suc (length bytes)) (no_nodes, []) (skip_bom bytes) (omega arith) parts.0 (nothing (line start) no_line.1))

pub no_tree : (bytes : List ℕ) (ms : Members) → parse_document bytes ≡ Some ms → begins_toml bytes ≡ false → ⊥
no_tree bytes ms read never = let no : Some ms ≡ None = sym read ∙ no_document bytes never in absurd cc

-- what is left behind what was read
abbrev pub rest_of : {A : Type 0} → Read A → Option (List ℕ)
rest_of r = option_map (λ p. p.1) r

-- a header begins with no key
no_key : (text : List ℕ) → first text ≡ 91 → key_equals text ≡ None
unfolding key_equals simple_key
no_key text is = rw (key_after_turn 80 [] text (omega arith), is) refl

pub header_begins : (text : List ℕ) → first text ≡ 91 → begins_line text ≡ is_some (line text)
unfolding begins_line
header_begins text is = rw (no_key text is) refl

pub no_pair : (text : List ℕ) (k : Read Key) → (first text == 91) ≡ false → key_equals text ≡ k → None ≡ rest_of k → false ≡ begins_line text
unfolding begins_line line expression
no_pair text None other is h = rw (other, is) refl
no_pair text (Some k) other is h = absurd cc

pub open_pair : (text value : List ℕ) (k : Read Key) → key_equals text ≡ k → Some value ≡ rest_of k → (first value == 91 || first value == 123) ≡ true → true ≡ begins_line text
unfolding begins_line
open_pair text value None is h open_is = absurd cc
open_pair text value (Some k) is h open_is = let same : value ≡ k.1 = cc in rw (is, ← same, open_is) refl

pub no_value : (text value : List ℕ) (k : Read Key) (a : Read Data) → (first text == 91) ≡ false → key_equals text ≡ k → Some value ≡ rest_of k →
    (first value == 91 || first value == 123) ≡ false → atom value ≡ a → None ≡ rest_of a → false ≡ begins_line text
unfolding begins_line line expression
no_value text value None a other is h whole read none = absurd cc
no_value text value (Some k) None other is h whole read none =
    let same : value ≡ k.1 = cc in
    let parts = neither (first value == 91) (first value == 123) whole in
    rw (other, is, ← same, parts.0, parts.1, val_atom 80 value parts.0 parts.1, read) refl
no_value text value (Some k) (Some d) other is h whole read none = absurd cc

pub whole_pair : (text value rest : List ℕ) (k : Read Key) (a : Read Data) → (first text == 91) ≡ false → key_equals text ≡ k → Some value ≡ rest_of k →
    (first value == 91 || first value == 123) ≡ false → atom value ≡ a → Some rest ≡ rest_of a → ends_line (skip_ws rest) ≡ begins_line text
unfolding begins_line line expression
whole_pair text value rest None a other is h whole read some = absurd cc
whole_pair text value rest (Some k) None other is h whole read some = absurd cc
whole_pair text value rest (Some k) (Some d) other is h whole read some =
    let same : value ≡ k.1 = cc in
    let left : rest ≡ d.1 = cc in
    let parts = neither (first value == 91) (first value == 123) whole in
    subst (λ r. ends_line (skip_ws r) ≡ begins_line text) (sym left)
    (rw (other, is, ← same, parts.0, parts.1, val_atom 80 value parts.0 parts.1, read) (by_end (ends_line (skip_ws d.1)) _))
  where
    by_end : {A : Type 0} (b : Bool) (x : A) → b ≡ is_some (if b then Some x else None)
    by_end true x = refl
    by_end false x = refl
