-- What one more reading of a file says of its bindings and of its refusal.
use Rattle.std.proofs.Common.{◌≡◌, ◌↔◌, ℕ, ◌+◌, ◌<◌, ◌≤◌, Bool, false, true, IsUtf8, List, [], ◌∷◌, length, Option, Some, None, option_map, IfSome, Result, Ok, Err, IfOk, Vec, Global, refl, sym, ap, subst, ◌∙◌, arith}
use Rattle.aftr_base.specs.declared.lists.OutOfMemory.{OutOfMemory}
use Rattle.binding_rules.specs.Tables.{BindingTable, binding_table}
use Rattle.binding_rules.specs.declared.binding.Binding.{Binding}
use Rattle.toml.specs.Data.{Items, no_items, item, Members}
use Rattle.toml.specs.Parse.{parse_document}
use Rattle.binding_file.specs.Keys.{Then, After, table_at}
use Rattle.binding_file.specs.Files.{AreBindings, AreElements, IsDocument, IsElement, IsJudged, IsSoftwire, IsTree, Says, TableOf, elements_of, top_edition}
use Rattle.binding_file.specs.declared.names.Name.TheVariants as name
use Rattle.binding_file.specs.declared.names.Place.TheVariants as place
use Rattle.binding_file.specs.declared.refusals.FileRefused.{FileRefused}
use Rattle.binding_file.specs.declared.refusals.FileRefused.TheVariants as refused
use Rattle.binding_file.proofs.Trees.{cause_big, cause_costly, cause_no_line, text_answer}
use Rattle.table_costs.specs.Costs.{is_too_costly}
use Rattle.table_costs.specs.FirstLines.{IsTooCostly, begins_toml}
use Rattle.table_hints.specs.Lines.{AreBindingLines, binding_count, count_elements, count_items, is_told, lines_for, subject_of, tells_bindings}
use Rattle.table_hints.specs.Rereading.{HasRefusal, IsRereading, IsRuling}
use Rattle.table_hints.specs.declared.rereading.Rereading.{Rereading}

-- what is good of the whole is good of its parts
then_good : {A B : Type 0} (x : Result A FileRefused) (Q : A → Type 0) (b : B) (T : Type 0) → ((a : A) → x ≡ Ok a → Q a → T) → Then {B = B} x Q (Ok b) → T
then_good (Ok a) Q b T each h = each a refl h
then_good (Err e) Q b T each h = absurd cc

after_good : {A B : Type 0} (P : Result A FileRefused → Type 0) (Q : A → Type 0) (b : B) (T : Type 0) → ((a : A) → P (Ok a) → Q a → T) → After {B = B} P Q (Ok b) → T
after_good P Q b T each h = then_good h.gives Q b T (λ a is q. each a (subst P is h.given) q) h.rest

abbrev good : {A : Type 0} → A → Result A FileRefused
good a = Ok a

ok_same : {A : Type 0} (a b : A) → good a ≡ good b → a ≡ b
ok_same a b is = cc

elements_count : (at : ℕ) (ds : Items) (bs : List Binding) → AreElements at ds (Ok bs) → count_items ds ≡ length bs
elements_count at no_items bs h = ap length (sym (ok_same bs [] h))
elements_count at (item d ds) bs h =
    after_good (IsElement at d) _ bs (count_items ds + 1 ≡ length bs) (λ b element more.
    after_good (AreElements (at + 1) ds) _ bs (count_items ds + 1 ≡ length bs) (λ later elements is.
    let whole : length bs ≡ length (b ∷ later) = ap length (ok_same bs (b ∷ later) is) in
    omega (arith, elements_count (at + 1) ds later elements, whole)) more) h

pub tree_count : (ms : Members) (t : BindingTable) → IsTree ms (Ok t) → binding_count ms ≡ length t.bindings
tree_count ms t h =
    then_good (top_edition ms) _ t (binding_count ms ≡ length t.bindings) (λ e first more.
    then_good (table_at ms (place.Top name.Softwire)) _ t (binding_count ms ≡ length t.bindings) (λ inner second rest.
    after_good (IsSoftwire inner) _ t (binding_count ms ≡ length t.bindings) (λ softwire third left.
    after_good (AreBindings ms) _ t (binding_count ms ≡ length t.bindings) (λ bindings elements is.
    bindings_count ms bindings elements ∙ ap (λ (u : BindingTable). length u.bindings) (sym (ok_same t (binding_table e softwire bindings) is))) left) rest) more) h
  where
    bindings_count : (ms : Members) (bs : List Binding) → AreBindings ms (Ok bs) → binding_count ms ≡ length bs
    bindings_count ms bs h = then_good (elements_of ms) _ bs (binding_count ms ≡ length bs) (λ ds is elements. ap count_elements is ∙ elements_count 0 ds bs elements) h

not_costly : (text : List ℕ) → is_too_costly text ≡ false → IsTooCostly text → ⊥
not_costly text cheap costly = let both : true ≡ false = sym costly.costly ∙ cheap in absurd cc

-- by the rules a text that says a table has this answer
pub ruled : (text : List ℕ) (t : BindingTable) (o : Option FileRefused) → length text ≤ 16777216 → is_too_costly text ≡ false → Says text (Ok t) → IsRuling t o → HasRefusal text o
ruled text t None size cheap says h = (t, text_answer text (Ok t) size (not_costly text cheap) (record { gives = Ok t; given = says; rest = h }))
ruled text t (Some e) size cheap says h = text_answer text (Err e) size (not_costly text cheap) (record { gives = Ok t; given = says; rest = h })

-- and one that is refused before them has that refusal
pub refused_before : (text : List ℕ) (ms : Members) (e : FileRefused) → length text ≤ 16777216 → is_too_costly text ≡ false → IsDocument text (Ok ms) → IsTree ms (Err e) → TableOf text (Err e)
refused_before text ms e size cheap document tree =
    text_answer text (Err e) size (not_costly text cheap) (record { gives = Err e; given = record { gives = Ok ms; given = document; rest = tree }; rest = refl })

-- a file has one answer
abbrev One : List ℕ → Type 0
One text = (answer other : Result BindingTable FileRefused) → TableOf text answer → TableOf text other → answer ≡ other

abbrev failed : FileRefused → Result BindingTable FileRefused
failed e = Err e

of_err : (e f : FileRefused) → failed e ≡ failed f → e ≡ f
of_err e f same = cc

refusal_is : (text : List ℕ) (o : Option FileRefused) (refusal : FileRefused) → One text → HasRefusal text o → TableOf text (Err refusal) → o ≡ Some refusal
refusal_is text None refusal one valid has = let both : good valid.0 ≡ failed refusal = one (good valid.0) (failed refusal) valid.1 has in absurd cc
refusal_is text (Some found) refusal one cause has = ap Some (of_err found refusal (one (failed found) (failed refusal) cause has))

pub other_refusal : (text : List ℕ) (o : Option FileRefused) (refusal : FileRefused) (is : Bool) → One text → HasRefusal text o → (is ≡ true) ↔ (o ≡ Some refusal) →
    is ≡ false → TableOf text (Err refusal) → ⊥
other_refusal text o refusal is one answer same other has =
    let both : true ≡ false = sym (same.1 (refusal_is text o refusal one answer has)) ∙ other in absurd cc

pub same_refusal : (text : List ℕ) (o : Option FileRefused) (refusal : FileRefused) (is : Bool) → HasRefusal text o → (is ≡ true) ↔ (o ≡ Some refusal) → is ≡ true →
    TableOf text (Err refusal)
same_refusal text o refusal is answer same it = subst (HasRefusal text) (same.0 it) answer

-- a refusal of a binding is neither for the size nor for the cost nor for TOML
not_of : (e f : FileRefused) → e ≡ f → tells_bindings (subject_of e) ≡ false → tells_bindings (subject_of f) ≡ true → ⊥
not_of e f same none some = let both : true ≡ false = sym some ∙ (ap (λ (g : FileRefused). tells_bindings (subject_of g)) (sym same) ∙ none) in absurd cc

pub big_file : (text : List ℕ) (refusal : FileRefused) → One text → 16777216 < length text → tells_bindings (subject_of refusal) ≡ true → TableOf text (Err refusal) → ⊥
big_file text refusal one big tells has =
    not_of refused.TooBig refusal (of_err refused.TooBig refusal (one (failed refused.TooBig) (failed refusal) (cause_big text big) has)) refl tells

pub costly_file : (text : List ℕ) (refusal : FileRefused) → One text → length text ≤ 16777216 → IsUtf8 text → is_too_costly text ≡ true →
    tells_bindings (subject_of refusal) ≡ true → TableOf text (Err refusal) → ⊥
costly_file text refusal one size utf8 costly tells has = by_begin (begins_toml text) refl
  where
    by_begin : (b : Bool) → begins_toml text ≡ b → ⊥
    by_begin true is =
        not_of refused.TooCostly refusal
        (of_err refused.TooCostly refusal (one (failed refused.TooCostly) (failed refusal) (cause_costly text size (record { utf8 = utf8; begins = is; costly = costly })) has)) refl tells
    by_begin false is =
        not_of refused.NotToml refusal (of_err refused.NotToml refusal (one (failed refused.NotToml) (failed refusal) (cause_no_line text size is) has)) refl tells

-- the lines that are told
pub no_document_lines : (text : List ℕ) → ((ms : Members) → IsDocument text (Ok ms) → ⊥) → AreBindingLines text None
no_document_lines text none = record { document = λ ms told document. absurd (none ms document); none = λ never. refl; untold = λ untold. refl }

pub untold_lines : (text : List ℕ) → is_told text ≡ false → AreBindingLines text None
untold_lines text untold =
    record { document = λ ms told document. let both : true ≡ false = sym told ∙ untold in absurd cc; none = λ never. refl; untold = λ untold. refl }

same_some : (x y : Members) → Some x ≡ Some y → x ≡ y
same_some x y is = cc

pub told_lines : (text : List ℕ) (r : Rereading) (o : Option (List ℕ)) → is_told text ≡ true → IsRereading text r → o ≡ lines_for text r.count → AreBindingLines text o
told_lines text r o told read is = record {
  document = λ ms again document. is ∙ ap (lines_for text) (read.count ∙ ap binding_count (same_some read.members ms (sym read.document.1 ∙ document.1)));
  none = λ never. absurd (never read.members read.document);
  untold = λ untold. let both : true ≡ false = sym told ∙ untold in absurd cc;
}

pub all_lines : (text : List ℕ) (r : Rereading) (o : Result (Option (Vec ℕ Global)) OutOfMemory) → is_told text ≡ true → IsRereading text r →
    IfOk o (λ o. option_map (λ v. v.items) o ≡ lines_for text r.count) → IfOk o (λ o. AreBindingLines text (option_map (λ v. v.items) o))
all_lines text r (Err e) told read are = tt
all_lines text r (Ok o) told read are = told_lines text r (option_map (λ v. v.items) o) told read are

pub its_own : {T : Type 0} (o : Result (Option (Vec ℕ Global)) OutOfMemory) → T → IfOk o (λ o. IfSome o (λ _. T))
its_own (Err e) t = tt
its_own (Ok None) t = tt
its_own (Ok (Some v)) t = t
