-- The tree that the writer makes, and the first refusals of the reader.
use Rattle.std.proofs.Common.{IsUtf8, ◌∙◌, false, Bool, ◌≡◌, ℕ, ◌+◌, ◌≤◌, ◌<◌, length, BTreeMap, String, Global, List, [], ◌∷◌, ◌++◌, true, Result, Ok, Err, refl, sym, subst, arith}
use Rattle.std.proofs.lemmas.Bool.Decides.{nat_tests}
use Rattle.binding_rules.specs.Tables.{BindingTable, IsValid}
use Rattle.binding_rules.specs.declared.binding.Binding.{Binding}
use Rattle.toml.specs.Data.{Data, Items, no_items, item, Members, items_depth, push_item}
use Rattle.binding_file.specs.Keys.{Then}
use Rattle.binding_file.specs.Files.{AreElements, are_tables, fits, IsDocument, IsTree, Says, TextOf, TableOf, IsFileCause}
use Rattle.binding_file.specs.Parts.{IsSpelled, AreSpelled, IsRead, file_error_of}
use Rattle.binding_file.specs.declared.refusals.FileRefused.{FileRefused}
use Rattle.binding_file.specs.declared.refusals.FileRefused.TheVariants as refused
use Rattle.binding_file.specs.declared.refusals.FileError.{FileError}
use Rattle.binding_file.specs.declared.refusals.FileError.TheVariants as file_error
use Rattle.binding_rules.specs.declared.refused.TableError.{TableError}
use Rattle.binding_rules.specs.declared.refused.TableError.TheVariants as table_error
use Rattle.binding_rules.specs.Refusals.{IsCause}
use Rattle.table_costs.specs.Costs.{is_too_costly}
use Rattle.table_costs.specs.FirstLines.{IsTooCostly, begins_toml}
use Rattle.table_costs.proofs.FirstLineLemmas.{no_document}
use Rattle.toml.specs.View.{table_view}
use Rattle.toml.specs.declared.value.Value.{Value}

abbrev pub Document : Type 0
Document = BTreeMap (String Global) Value

pub then_ok : {A B : Type 0} (x : Result A FileRefused) (a : A) (Q : A → Type 0) (r : Result B FileRefused) → x ≡ Ok a → Q a → Then x Q r
then_ok x a Q r e q = subst (λ y. Then y Q r) (sym e) q

pub then_err : {A : Type 0} (B : Type 0) (x : Result A FileRefused) (f : FileRefused) (Q : A → Type 0) → x ≡ Err f → Then {A = A} {B = B} x Q (Err f)
then_err B x f Q e = subst (λ y. Then {B = B} y Q (Err f)) (sym e) refl

-- spelled elements are elements from any place on
pub spelled_elements : (at : ℕ) (ds : Items) (bs : List Binding) → AreSpelled ds bs → AreElements at ds (Ok bs)
spelled_elements at no_items [] h = refl
spelled_elements at no_items (b ∷ bs) h = absurd h
spelled_elements at (item d ds) [] h = absurd h
spelled_elements at (item d ds) (b ∷ bs) h = record { gives = Ok b; given = h.0.element at; rest = record { gives = Ok bs; given = spelled_elements (at + 1) ds bs h.1; rest = refl } }

pub spelled_tables : (ds : Items) (bs : List Binding) → AreSpelled ds bs → are_tables ds ≡ true
spelled_tables no_items [] h = refl
spelled_tables no_items (b ∷ bs) h = absurd h
spelled_tables (item d ds) [] h = absurd h
spelled_tables (item d ds) (b ∷ bs) h = rw (h.0.is_table, spelled_tables ds bs h.1) refl

pub spelled_depth : (ds : Items) (bs : List Binding) → AreSpelled ds bs → items_depth ds ≤ 1
spelled_depth no_items [] h = omega arith
spelled_depth no_items (b ∷ bs) h = absurd h
spelled_depth (item d ds) [] h = absurd h
spelled_depth (item d ds) (b ∷ bs) h = omega (arith, h.0.flat, spelled_depth ds bs h.1)

pub spelled_push : (ds : Items) (bs : List Binding) (d : Data) (b : Binding) → AreSpelled ds bs → IsSpelled d b → AreSpelled (push_item ds d) (bs ++ b ∷ [])
spelled_push no_items [] d b h k = (k, tt)
spelled_push no_items (c ∷ bs) d b h k = absurd h
spelled_push (item e ds) [] d b h k = absurd h
spelled_push (item e ds) (c ∷ bs) d b h k = (h.0, spelled_push ds bs d b h.1 k)

fits_small : (bytes : List ℕ) → length bytes ≤ 16777216 → fits bytes ≡ Ok bytes
fits_small bytes small = grind (arith, nat_tests)

-- the causes of the reader's errors
pub cause_big : (bytes : List ℕ) → 16777216 < length bytes → TableOf bytes (Err refused.TooBig)
cause_big bytes big = let e : fits bytes ≡ Err refused.TooBig = grind (arith, nat_tests) in then_err BindingTable (fits bytes) refused.TooBig _ e

-- a text within the size that is not too costly has the answer of what it spells
pub text_answer : (bytes : List ℕ) (r : Result BindingTable FileRefused) → length bytes ≤ 16777216 → (IsTooCostly bytes → ⊥) → TextOf bytes r → TableOf bytes r
text_answer bytes r small cheap h = then_ok (fits bytes) bytes _ _ (fits_small bytes small) (record { gives = Ok bytes; given = (refl, cheap); rest = h })

pub affordable : (bytes : List ℕ) (b : Bool) → b ≡ is_too_costly bytes → b ≡ false → IsTooCostly bytes → ⊥
affordable bytes b is cheap costly = let both : true ≡ false = sym costly.costly ∙ (sym is ∙ cheap) in absurd cc

pub cause_costly : (bytes : List ℕ) → length bytes ≤ 16777216 → IsTooCostly bytes → TableOf bytes (Err refused.TooCostly)
cause_costly bytes small costly =
    then_ok (fits bytes) bytes _ _ (fits_small bytes small) (record { gives = Err refused.TooCostly; given = (refl, costly); rest = refl })

pub refused_text : (bytes : List ℕ) (r : FileRefused) → length bytes ≤ 16777216 → (IsTooCostly bytes → ⊥) → Says bytes (Err r) → TableOf bytes (Err r)
refused_text bytes r small cheap said = text_answer bytes (Err r) small cheap (record { gives = Err r; given = said; rest = refl })

-- a text that does not begin as TOML, whatever it would cost
pub cause_no_line : (bytes : List ℕ) → length bytes ≤ 16777216 → begins_toml bytes ≡ false → TableOf bytes (Err refused.NotToml)
cause_no_line bytes small never =
    refused_text bytes refused.NotToml small (λ costly. let no : true ≡ false = sym costly.begins ∙ never in absurd cc)
    (record { gives = Err refused.NotToml; given = (refl, λ utf8. no_document bytes never); rest = refl })

-- bytes that are no UTF-8 are no document
pub cause_no_text : (bytes : List ℕ) → length bytes ≤ 16777216 → (IsUtf8 bytes → ⊥) → TableOf bytes (Err refused.NotToml)
cause_no_text bytes small never = refused_text bytes refused.NotToml small (λ costly. never costly.utf8) (record { gives = Err refused.NotToml; given = (refl, λ is. absurd (never is)); rest = refl })

pub table_text : (bytes : List ℕ) (ms : Members) (t : BindingTable) → IsDocument bytes (Ok ms) → IsTree ms (Ok t) → IsValid t → TextOf bytes (Ok t)
table_text bytes ms t d h valid = record { gives = Ok t; given = record { gives = Ok ms; given = d; rest = h }; rest = (refl, valid) }

-- what a text says before the rules of tables
pub says_document : (bytes : List ℕ) (r : FileRefused) → IsDocument bytes (Err r) → Says bytes (Err r)
says_document bytes r d = record { gives = Err r; given = d; rest = refl }

pub says_tree : (bytes : List ℕ) (ms : Members) (r : Result BindingTable FileRefused) → IsDocument bytes (Ok ms) → IsTree ms r → Says bytes r
says_tree bytes ms r d h = record { gives = Ok ms; given = d; rest = h }

pub cause_says : (S : Type 0) (f : S → BindingTable) (bytes : List ℕ) (e : FileError) → length bytes ≤ 16777216 → (IsTooCostly bytes → ⊥) → IsRead f (Says bytes) (Err e) → IsFileCause bytes e
cause_says S f bytes (file_error.Refused r) small cheap h = refused_text bytes r small cheap h
cause_says S f bytes file_error.OutOfMemory small cheap h = tt

pub cause_rules_said : (bytes : List ℕ) (t : BindingTable) (e : TableError) → length bytes ≤ 16777216 → (IsTooCostly bytes → ⊥) → Says bytes (Ok t) → IsCause t.edition t.softwire t.bindings e → IsFileCause bytes (file_error_of e)
cause_rules_said bytes t (table_error.Refused q) small cheap h k = text_answer bytes (Err (refused.Rules q)) small cheap (record { gives = Ok t; given = h; rest = (q, refl, k) })
cause_rules_said bytes t table_error.OutOfMemory small cheap h k = tt

pub table_said : (bytes : List ℕ) (t : BindingTable) → length bytes ≤ 16777216 → (IsTooCostly bytes → ⊥) → Says bytes (Ok t) → IsValid t → TableOf bytes (Ok t)
table_said bytes t small cheap h valid = text_answer bytes (Ok t) small cheap (record { gives = Ok t; given = h; rest = (refl, valid) })

pub read_document : (S : Type 0) (f : S → BindingTable) (bytes : List ℕ) (e : FileError) → IsRead (λ (t : Document). table_view t) (IsDocument bytes) (Err e) → IsRead f (Says bytes) (Err e)
read_document S f bytes (file_error.Refused r) d = says_document bytes r d
read_document S f bytes file_error.OutOfMemory d = tt

pub read_tree : (S : Type 0) (f : S → BindingTable) (bytes : List ℕ) (ms : Members) (r : Result S FileError) → IsDocument bytes (Ok ms) → IsRead f (IsTree ms) r → IsRead f (Says bytes) r
read_tree S f bytes ms (Ok s) d h = says_tree bytes ms (Ok (f s)) d h
read_tree S f bytes ms (Err (file_error.Refused r)) d h = says_tree bytes ms (Err r) d h
read_tree S f bytes ms (Err file_error.OutOfMemory) d h = tt
