-- Which key of a file is the first that its table does not have, and where it stands (ours). The tables are those that may have keys, in
-- the order in which a file is judged: the top, `softwire`, and the bindings in their order.
use Rattle.std.specs.Prelude.{◌≡◌, ℕ, ◌+◌, nat_le, Bool, true, false, not, ◌&&◌, if◌then◌else◌, List, [], ◌∷◌, length}
use Rattle.std.specs.Prelude.{Option, Some, None, option_map, option_and_then, Result, Ok, Err}
use Rattle.std.specs.Option.{option_or}
use Rattle.toml.specs.Data.{Data, as_table, Items, no_items, item, Members}
use Rattle.table_costs.specs.Costs.{is_too_costly}
use Rattle.binding_file.specs.Files.{IsDocument, elements_of, most_bytes, top_names, softwire_names, binding_names}
use Rattle.binding_file.specs.Keys.{is_one_of, keys_of, table_at}
use Rattle.table_hints.specs.Lines.{binding_lines, is_told, one_of}
use Rattle.table_hints.specs.declared.lines.Lines.{Lines}
use Rattle.binding_file.specs.declared.names.Name.{Name}
use Rattle.binding_file.specs.declared.names.Name.TheVariants as name
use Rattle.binding_file.specs.declared.names.Place.TheVariants as place
use Rattle.binding_file.specs.declared.refusals.FileRefused.{FileRefused}
use Rattle.table_hints.specs.declared.unknown_keys.Found.{Found}
use Rattle.table_hints.specs.declared.unknown_keys.KeyPlace.{KeyPlace}
use Rattle.table_hints.specs.declared.unknown_keys.KeyPlace.TheVariants as within
use Rattle.table_hints.specs.declared.unknown_keys.UnknownKey.{UnknownKey}

-- the first of these keys that is none of the names
abbrev pub first_other : List Name → List (List ℕ) → Option (List ℕ)
first_other names [] = None
first_other names (key ∷ keys) = if is_one_of names key then first_other names keys else Some key

abbrev pub other_key : List Name → Members → Option (List ℕ)
other_key names ms = first_other names (keys_of ms)

-- what is no table has no key
abbrev pub key_in : List Name → Result Members FileRefused → Option (List ℕ)
key_in names (Ok ms) = other_key names ms
key_in names (Err e) = None

abbrev pub softwire_key : Members → Option (List ℕ)
softwire_key ms = key_in softwire_names (table_at ms (place.Top name.Softwire))

abbrev pub binding_key : Data → Option (List ℕ)
binding_key d = option_and_then (other_key binding_names) (as_table d)

-- a key with the table where it stands
abbrev pub found_at : KeyPlace → Option (List ℕ) → Option (KeyPlace × List ℕ)
found_at p key = option_map (λ k. (p, k)) key

-- that of these bindings, of which the first stands at this place
abbrev pub in_bindings : ℕ → Items → Option (KeyPlace × List ℕ)
in_bindings at no_items = None
in_bindings at (item d ds) = option_or (found_at (within.Binding at) (binding_key d)) (in_bindings (at + 1) ds)

abbrev pub in_elements : Result Items FileRefused → Option (KeyPlace × List ℕ)
in_elements (Ok ds) = in_bindings 0 ds
in_elements (Err e) = None

abbrev pub first_unknown : Members → Option (KeyPlace × List ℕ)
first_unknown ms =
    option_or (found_at within.Top (other_key top_names ms))
    (option_or (found_at within.Softwire (softwire_key ms)) (in_elements (elements_of ms)))

abbrev pub found_of : Found → KeyPlace × List ℕ
found_of found = (found.place, found.key.now)

-- the line of the header of the binding where it stands
abbrev pub line_in : List ℕ → Members → KeyPlace → Option Lines
line_in text ms within.Top = None
line_in text ms within.Softwire = None
line_in text ms (within.Binding i) = option_and_then (one_of i) (binding_lines text ms)

-- what is told of a key that was found
abbrev pub told_key : List ℕ → Members → KeyPlace × List ℕ → UnknownKey
told_key text ms found = record { place = found.0; key = found.1; line = line_in text ms found.0 }

abbrev pub unknown_key : List ℕ → Members → Option UnknownKey
unknown_key text ms = option_map (told_key text ms) (first_unknown ms)

-- a text is read once more for its keys where it is read as a table, and for its lines
abbrev pub is_looked_at : List ℕ → Bool
is_looked_at text = nat_le (length text) most_bytes && (not (is_too_costly text) && is_told text)

-- what is told of a text that is looked at and a document; else nothing
pub record IsUnknownKey (text : List ℕ) (o : Option UnknownKey) : Type 0 where
  pub document : (ms : Members) → is_looked_at text ≡ true → IsDocument text (Ok ms) → o ≡ unknown_key text ms
  pub none : ((ms : Members) → IsDocument text (Ok ms) → ⊥) → o ≡ None
  pub unseen : is_looked_at text ≡ false → o ≡ None
