-- One line of a text of the plain form, as the library reads it.
use Rattle.std.proofs.Common.{◌≡◌, ℕ, ◌<◌, ◌==◌, ◌||◌, Bool, true, false, List, [], ◌∷◌, ◌++◌, length, codes, arith, Option, Some, None, refl, sym, ◌∙◌}
use Rattle.toml_parser.specs.Lexical.{first, skip_ws}
use Rattle.toml_parser.specs.Strings.{Key, simple_key, key_after}
use Rattle.toml.specs.Data.{Data}
use Rattle.toml.specs.Tables.{array_table, std_table, key_value}
use Rattle.toml.specs.Parse.{atom, ends_line, expression, header_key, key_equals, line, val}
use Rattle.toml.proofs.Turns.{keyval_ok, val_atom}

neither : (a b : Bool) → (a || b) ≡ false → (a ≡ false) × (b ≡ false)
neither true b is = absurd cc
neither false b is = (refl, is)

pub line_pair : (text value rest : List ℕ) (k : Key) (d : Data) → (first text == 91) ≡ false → key_equals text ≡ Some (k, value) → (first value == 91 || first value == 123) ≡ false →
    atom value ≡ Some (d, rest) → ends_line (skip_ws rest) ≡ true → line text ≡ Some ((k, key_value d), rest)
unfolding line expression
line_pair text value rest k d other key whole read ends =
    let parts = neither (first value == 91) (first value == 123) whole in
    rw (other, keyval_ok (val 80) text value rest k d key (val_atom 80 value parts.0 parts.1 ∙ read), ends) refl

pub line_binding : (rest : List ℕ) → ends_line (skip_ws rest) ≡ true → line (codes "[[binding]]" ++ rest) ≡ Some ((([], codes "binding"), array_table), rest)
unfolding line expression header_key key_after simple_key skip_ws
line_binding rest ends = rw ends refl

pub line_settings : (rest : List ℕ) → ends_line (skip_ws rest) ≡ true → line (codes "[softwire]" ++ rest) ≡ Some ((([], codes "softwire"), std_table), rest)
unfolding line expression header_key key_after simple_key skip_ws
line_settings rest ends = rw ends refl

pub at_binding : (text rest : List ℕ) → text ≡ codes "[[binding]]" ++ rest → ends_line (skip_ws rest) ≡ true → (line text ≡ Some ((([], codes "binding"), array_table), rest)) × (length rest < length text)
at_binding text rest is ends = rw is (line_binding rest ends, omega arith)

pub at_settings : (text rest : List ℕ) → text ≡ codes "[softwire]" ++ rest → ends_line (skip_ws rest) ≡ true → (line text ≡ Some ((([], codes "softwire"), std_table), rest)) × (length rest < length text)
at_settings text rest is ends = rw is (line_settings rest ends, omega arith)
