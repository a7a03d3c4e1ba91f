-- Where a text stops being a document, and how many bindings one has.
use Rattle.std.proofs.Common.{◌≡◌, ◌↔◌, ℕ, suc, ◌+◌, ◌-◌, ◌<◌, ◌≤◌, Bool, true, false, List, [], ◌∷◌, length, Option, Some, None, IfSome, Result, Ok, Err, IfOk, IsUtf8, refl, ap, sym, ◌∙◌, subst, arith}
use Rattle.std.proofs.lemmas.List.{take_all}
use Rattle.std.specs.Str.{IsValidUpTo}
use Rattle.toml.specs.Parse.{parse_document}
use Rattle.toml.specs.View.{items_view}
use Rattle.toml.specs.declared.value.Value.{Value}
use Rattle.binding_rules.specs.Tables.{BindingTable}
use Rattle.aftr_base.specs.declared.lists.OutOfMemory.{OutOfMemory}
use Rattle.binding_file.specs.Files.{IsDocument, TableOf}
use Rattle.table_costs.specs.FirstLines.{begins_toml, first_place}
use Rattle.table_hints.specs.Lines.{count_items, first_lines, line_at, line_behind, line_ends, AreTrouble, IsOfNoToml, IsReadAsNone, IsSound, IsTrouble}
use Rattle.table_hints.specs.declared.lines.Lines.{Lines}
use Rattle.table_hints.specs.declared.lines.Lines.TheVariants as lines
use Rattle.binding_file.specs.declared.refusals.FileError.TheVariants as file_error
use Rattle.binding_file.specs.declared.refusals.FileRefused.{FileRefused}
use Rattle.binding_file.specs.declared.refusals.FileRefused.TheVariants as refused
use Rattle.table_costs.proofs.FirstLineLemmas.{no_document}
use Rattle.table_hints.proofs.LineLemmas.{few_ends}
use Rattle.binding_file.proofs.Trees.{refused_text, says_document}

pub counted : (vs : List Value) → count_items (items_view vs) ≡ length vs
counted [] = refl
counted (v ∷ vs) = ap (λ (n : ℕ). n + 1) (counted vs) ∙ one_more (length vs)
  where
    one_more : (n : ℕ) → n + 1 ≡ suc n
    one_more n = omega arith

-- the first line is the last one where it is no earlier
pub one_line : (text : List ℕ) (first last : ℕ) (before : List ℕ) → 1 ≤ last → before ≡ first_lines (last - 1) text → first ≤ line_behind before → last ≤ first →
    IsSound (first_lines (first - 1) text) → IsDocument (first_lines last text) (Err refused.NotToml) → IsTrouble text last last
one_line text first last before least is most less sound broken = record {
  ordered = (least, omega arith);
  sound = subst (λ (n : ℕ). IsSound (first_lines (n - 1) text)) same sound;
  broken = broken;
}
  where
    same : first ≡ last
    same =
        let few : line_ends (first_lines (last - 1) text) ≤ last - 1 = few_ends (last - 1) text in
        let is : line_ends before ≡ line_ends (first_lines (last - 1) text) = ap line_ends is in
        omega arith

pub no_begin : (b : Bool) (text : List ℕ) → b ≡ begins_toml text → b ≡ false → IsReadAsNone text
no_begin true text is it = absurd cc
no_begin false text is it = record {
  document = no_document text (sym is);
  cheap = λ costly. let both : true ≡ false = sym costly.begins ∙ sym is in absurd cc;
}

-- where a text stops being UTF-8 is one place
same_end : (text : List ℕ) (m n : ℕ) → IsValidUpTo text m → IsValidUpTo text n → m ≡ n
same_end text m n a b =
    let below : m < n → ⊥ = λ less. a.longest n less b.front in
    let above : n < m → ⊥ = λ less. b.longest m less a.front in
    omega (arith, below, above)

pub no_text_lines : (text : List ℕ) (at line : ℕ) → (IsUtf8 text → ⊥) → IsValidUpTo text at → line ≡ line_at text at → IsOfNoToml text (Some (lines.One line))
no_text_lines text at line never valid is = record {
  no_text = λ other its. ap (λ (n : ℕ). Some (lines.One n)) (is ∙ ap (line_at text) (same_end text at other valid its));
  no_line = λ utf8. absurd (never utf8);
  trouble = λ utf8. absurd (never utf8);
}

no_end : (text : List ℕ) (at : ℕ) → IsUtf8 text → IsValidUpTo text at → ⊥
no_end text at utf8 valid = valid.longest (length text) valid.short (subst IsUtf8 (sym (take_all (length text) text (omega arith))) utf8)

all_lines : (text : List ℕ) (r : Result (Option Lines) OutOfMemory) → IsUtf8 text →
    (begins_toml text ≡ false → IfOk r (λ o. o ≡ Some (lines.One (line_at text (first_place text))))) → (begins_toml text ≡ true → IfOk r (λ o. IfSome o (AreTrouble text))) →
    IfOk r (IsOfNoToml text)
all_lines text (Err e) utf8 no_line trouble = tt
all_lines text (Ok o) utf8 no_line trouble = record {
  no_text = λ at valid. absurd (no_end text at utf8 valid);
  no_line = λ u. no_line;
  trouble = λ u. trouble;
}

pub text_lines : (bytes text : List ℕ) (r : Result (Option Lines) OutOfMemory) → text ≡ bytes → IsUtf8 bytes →
    (begins_toml text ≡ false → IfOk r (λ o. o ≡ Some (lines.One (line_at text (first_place text))))) → (begins_toml text ≡ true → IfOk r (λ o. IfSome o (AreTrouble text))) →
    IfOk r (IsOfNoToml bytes)
text_lines bytes text r same utf8 no_line trouble = subst (λ (t : List ℕ). IfOk r (IsOfNoToml t)) same (all_lines text r (subst IsUtf8 (sym same) utf8) no_line trouble)

refused_by : (bytes : List ℕ) (r : Result (Option Lines) OutOfMemory) → length bytes ≤ 16777216 → IfOk r (λ o. IfSome o (λ l. IsReadAsNone bytes)) →
    IfOk r (λ o. IfSome o (λ l. TableOf bytes (Err refused.NotToml)))
refused_by bytes (Err e) size none = tt
refused_by bytes (Ok None) size none = tt
refused_by bytes (Ok (Some l)) size none = refused_text bytes refused.NotToml size none.cheap (says_document bytes refused.NotToml (refl, λ utf8. none.document))

pub text_refused : (bytes text : List ℕ) (r : Result (Option Lines) OutOfMemory) → length bytes ≤ 16777216 → text ≡ bytes →
    IfOk r (λ o. IfSome o (λ l. IsReadAsNone text)) → IfOk r (λ o. IfSome o (λ l. TableOf bytes (Err refused.NotToml)))
text_refused bytes text r size same none = refused_by bytes r size (subst (λ (t : List ℕ). IfOk r (λ o. IfSome o (λ l. IsReadAsNone t))) same none)
