-- What stands in a TOML table after an insert.
use Rattle.std.proofs.Common.{◌≡◌, ℕ, Bool, ◌||◌, ◌&&◌, is_some, List, [], ◌∷◌, BTreeMap, String, Global, Ordering, Less, Equal, Greater, string_bytes, refl, ap, ◌∙◌}
use Rattle.std.specs.BTreeMap.{insert_entry}
use Rattle.std.specs.List.{list_any, list_all}
use Rattle.std.specs.Map.{keys_of as map_keys}
use Rattle.std.specs.String.{string_cmp}
use Rattle.std.specs.Ordering.{match_ordering}
use Rattle.toml.specs.Data.{no_members, as_table}
use Rattle.toml.specs.View.{view, members_view, table_view, items_view}
use Rattle.toml.specs.declared.value.Value.{Value}
use Rattle.binding_file.specs.Files.{are_tables}
use Rattle.binding_file.specs.Keys.{keys_of as member_keys}
use Rattle.binding_file.specs.Parts.{with_member}

abbrev pub Entry : Type 0
Entry = String Global × Value

match_members : (o : Ordering) (a b c : List Entry) → members_view (match_ordering o a b c) ≡ match_ordering o (members_view a) (members_view b) (members_view c)
match_members Less a b c = refl
match_members Equal a b c = refl
match_members Greater a b c = refl

pub members_view-insert : (k : String Global) (v : Value) (es : List Entry) → members_view (insert_entry string_cmp es k v) ≡ with_member (string_bytes k) (view v) (members_view es)
members_view-insert k v [] = refl
members_view-insert k v (e ∷ es) = match_members (string_cmp k e.0) _ _ _ ∙ rw (members_view-insert k v es)

pub put_done : (k : String Global) (name : List ℕ) (v : Value) (was now : BTreeMap (String Global) Value) → string_bytes k ≡ name → now.entries ≡ insert_entry string_cmp was.entries k v → table_view now ≡ with_member name (view v) (table_view was)
put_done k name v was now same put = ap members_view put ∙ members_view-insert k v was.entries ∙ ap (λ x. with_member x (view v) (table_view was)) same

pub no_entries : (m : BTreeMap (String Global) Value) → m.entries ≡ [] → table_view m ≡ no_members
no_entries m e = ap members_view e

-- the keys, as the map has them and as the members have them
pub any_key : (p : List ℕ → Bool) (es : List Entry) → list_any (λ k. p (string_bytes k)) (map_keys es) ≡ list_any p (member_keys (members_view es))
any_key p [] = refl
any_key p (e ∷ es) = ap (λ b. p (string_bytes e.0) || b) (any_key p es)

pub all_tables : (vs : List Value) → list_all (λ v. is_some (as_table (view v))) vs ≡ are_tables (items_view vs)
all_tables [] = refl
all_tables (v ∷ vs) = ap (λ b. is_some (as_table (view v)) && b) (all_tables vs)
