-- A file has one answer.
use Rattle.std.proofs.Common.{◌≡◌, ℕ, ◌+◌, List, [], ◌∷◌, Some, None, Result, Ok, Err, ap, sym, ◌∙◌, subst}
use Rattle.addr_text.specs.Ipv4.{IsV4Text}
use Rattle.addr_text.specs.Ipv6.{IsV6Text}
use Rattle.binding_rules.specs.Tables.{BindingTable, binding_table}
use Rattle.toml.specs.Data.{Data, Members, Items, no_items, item, as_table}
use Rattle.binding_file.specs.Keys.{Then, After, of_kind, table_at, text_at, IsAddress6, IsAddress4, IsAddress6At, IsAddress4At}
use Rattle.binding_file.specs.Files.{top_edition, elements_of, settings_of, port_set_of, IsSoftwire, IsBinding, IsElement, AreElements, AreBindings, IsTree, IsDocument, Says, IsJudged, TextOf, TableOf, AnswerOf, IsAffordable, fits}
use Rattle.binding_file.specs.declared.names.Name.TheVariants as name
use Rattle.binding_file.specs.declared.names.Place.{Place}
use Rattle.binding_file.specs.declared.names.Place.TheVariants as place
use Rattle.binding_file.specs.declared.refusals.FileRefused.{FileRefused}
use Rattle.binding_file.specs.declared.refusals.FileRefused.TheVariants as refused
use Rattle.binding_file.proofs.FirstRefusals.{one_first}

abbrev pub Unique : {A : Type 0} → (Result A FileRefused → Type 0) → Type 0
Unique {A} P = (x y : Result A FileRefused) → P x → P y → x ≡ y

then_unique : {A B : Type 0} (g : Result A FileRefused) (Q : A → Result B FileRefused → Type 0) → ((a : A) → Unique (Q a)) → Unique (λ r. Then g (λ a. Q a r) r)
then_unique (Ok a) Q each x y h k = each a x y h k
then_unique (Err e) Q each x y h k = h ∙ sym k

after_unique : {A B : Type 0} (P : Result A FileRefused → Type 0) (Q : A → Result B FileRefused → Type 0) → Unique P → ((a : A) → Unique (Q a)) → Unique (λ r. After P (λ a. Q a r) r)
after_unique P Q one each x y h k =
    then_unique k.gives Q each x y (subst (λ g. Then g (λ a. Q a x) x) (one h.gives k.gives h.given k.given) h.rest) k.rest

same_some : (x y : Members) → Some x ≡ Some y → x ≡ y
same_some x y e = cc

some_none : (x : Members) → Some x ≡ None → ⊥
some_none x e = absurd cc

exact_unique : {A : Type 0} (z : Result A FileRefused) → Unique (λ r. r ≡ z)
exact_unique z x y h k = h ∙ sym k

abbrev pub One6 : Type 0
One6 = (text : List ℕ) (a b : ℕ) → IsV6Text text a → IsV6Text text b → a ≡ b

abbrev pub One4 : Type 0
One4 = (text : List ℕ) (a b : ℕ) → IsV4Text text a → IsV4Text text b → a ≡ b

v6_unique : One6 → (p : Place) (text : List ℕ) → Unique (IsAddress6 p text)
v6_unique one p text (Ok a) (Ok b) h k = ap (λ n. Ok (record { 0 = n })) (one text a.0 b.0 h k)
v6_unique one p text (Ok a) (Err f) h k = absurd (k.1 a.0 h)
v6_unique one p text (Err e) (Ok b) h k = absurd (h.1 b.0 k)
v6_unique one p text (Err e) (Err f) h k = ap Err (h.0 ∙ sym k.0)

v4_unique : One4 → (p : Place) (text : List ℕ) → Unique (IsAddress4 p text)
v4_unique one p text (Ok a) (Ok b) h k = ap (λ n. Ok (record { 0 = n })) (one text a.0 b.0 h k)
v4_unique one p text (Ok a) (Err f) h k = absurd (k.1 a.0 h)
v4_unique one p text (Err e) (Ok b) h k = absurd (h.1 b.0 k)
v4_unique one p text (Err e) (Err f) h k = ap Err (h.0 ∙ sym k.0)

address6_unique : One6 → (ms : Members) (p : Place) → Unique (IsAddress6At ms p)
address6_unique one ms p = then_unique (text_at ms p) (λ text r. IsAddress6 p text r) (λ text. v6_unique one p text)

address4_unique : One4 → (ms : Members) (p : Place) → Unique (IsAddress4At ms p)
address4_unique one ms p = then_unique (text_at ms p) (λ text r. IsAddress4 p text r) (λ text. v4_unique one p text)

softwire_unique : One6 → One4 → (ms : Members) → Unique (IsSoftwire ms)
softwire_unique six four ms =
    after_unique (IsAddress6At ms (place.Softwire name.Aftr)) (λ aftr r. After (IsAddress4At ms (place.Softwire name.Own)) (λ own. r ≡ settings_of ms aftr own) r)
    (address6_unique six ms (place.Softwire name.Aftr))
    (λ aftr. after_unique (IsAddress4At ms (place.Softwire name.Own)) (λ own r. r ≡ settings_of ms aftr own) (address4_unique four ms (place.Softwire name.Own)) (λ own. exact_unique (settings_of ms aftr own)))

binding_unique : One6 → One4 → (at : ℕ) (ms : Members) → Unique (IsBinding at ms)
binding_unique six four at ms =
    after_unique (IsAddress6At ms (place.Binding at name.B4)) (λ b4 r. After (IsAddress4At ms (place.Binding at name.Ipv4)) (λ v4. r ≡ port_set_of at ms b4 v4) r)
    (address6_unique six ms (place.Binding at name.B4))
    (λ b4. after_unique (IsAddress4At ms (place.Binding at name.Ipv4)) (λ v4 r. r ≡ port_set_of at ms b4 v4) (address4_unique four ms (place.Binding at name.Ipv4)) (λ v4. exact_unique (port_set_of at ms b4 v4)))

element_unique : One6 → One4 → (at : ℕ) (d : Data) → Unique (IsElement at d)
element_unique six four at d = then_unique (of_kind (place.Top name.Binding) (as_table d)) (λ ms r. IsBinding at ms r) (λ ms. binding_unique six four at ms)

elements_unique : One6 → One4 → (at : ℕ) (ds : Items) → Unique (AreElements at ds)
elements_unique six four at no_items = exact_unique (Ok [])
elements_unique six four at (item d ds) =
    after_unique (IsElement at d) (λ b r. After (AreElements (at + 1) ds) (λ bs. r ≡ Ok (b ∷ bs)) r) (element_unique six four at d)
    (λ b. after_unique (AreElements (at + 1) ds) (λ bs r. r ≡ Ok (b ∷ bs)) (elements_unique six four (at + 1) ds) (λ bs. exact_unique (Ok (b ∷ bs))))

bindings_unique : One6 → One4 → (ms : Members) → Unique (AreBindings ms)
bindings_unique six four ms = then_unique (elements_of ms) (λ ds r. AreElements 0 ds r) (λ ds. elements_unique six four 0 ds)

tree_unique : One6 → One4 → (ms : Members) → Unique (IsTree ms)
tree_unique six four ms =
    then_unique (top_edition ms) (λ e r. Then (table_at ms (place.Top name.Softwire)) (λ inner. After (IsSoftwire inner) (λ s. After (AreBindings ms) (λ bs. r ≡ Ok (binding_table e s bs)) r) r) r)
    (λ e. then_unique (table_at ms (place.Top name.Softwire)) (λ inner r. After (IsSoftwire inner) (λ s. After (AreBindings ms) (λ bs. r ≡ Ok (binding_table e s bs)) r) r)
    (λ inner. after_unique (IsSoftwire inner) (λ s r. After (AreBindings ms) (λ bs. r ≡ Ok (binding_table e s bs)) r) (softwire_unique six four inner)
    (λ s. after_unique (AreBindings ms) (λ bs r. r ≡ Ok (binding_table e s bs)) (bindings_unique six four ms) (λ bs. exact_unique (Ok (binding_table e s bs))))))

document_unique : (bytes : List ℕ) → Unique (IsDocument bytes)
document_unique bytes (Ok x) (Ok y) h k = ap Ok (same_some x y (sym h.1 ∙ k.1))
document_unique bytes (Ok x) (Err f) h k = absurd (some_none x (sym h.1 ∙ k.1 h.0))
document_unique bytes (Err e) (Ok y) h k = absurd (some_none y (sym k.1 ∙ h.1 k.0))
document_unique bytes (Err e) (Err f) h k = ap Err (h.0 ∙ sym k.0)

says_unique : One6 → One4 → (bytes : List ℕ) → Unique (Says bytes)
says_unique six four bytes = after_unique (IsDocument bytes) (λ ms r. IsTree ms r) (document_unique bytes) (λ ms. tree_unique six four ms)

-- a table has one judgement
judged_unique : (t : BindingTable) → Unique (IsJudged t)
judged_unique t (Ok u) (Ok v) h k = ap Ok (h.0 ∙ sym k.0)
judged_unique t (Ok u) (Err f) h k = absurd (h.1 k.0 k.2.applies)
judged_unique t (Err e) (Ok v) h k = absurd (k.1 h.0 h.2.applies)
judged_unique t (Err e) (Err f) h k = ap Err (h.1 ∙ (ap (λ rule. refused.Rules rule) (one_first t.edition t.softwire t.bindings h.0 k.0 h.2 k.2) ∙ sym k.1))

affordable_unique : (bytes : List ℕ) → Unique (IsAffordable bytes)
affordable_unique bytes (Ok x) (Ok y) h k = ap Ok (h.0 ∙ sym k.0)
affordable_unique bytes (Ok x) (Err f) h k = absurd (h.1 k.1)
affordable_unique bytes (Err e) (Ok y) h k = absurd (k.1 h.1)
affordable_unique bytes (Err e) (Err f) h k = ap Err (h.0 ∙ sym k.0)

pub one_answer : One6 → One4 → (bytes : List ℕ) → Unique (TableOf bytes)
one_answer six four bytes =
    then_unique (fits bytes) (λ text r. AnswerOf text r) (λ text. after_unique (IsAffordable text) (λ t r. TextOf t r) (affordable_unique text)
    (λ t. after_unique (Says t) (λ table r. IsJudged table r) (says_unique six four t) judged_unique))
