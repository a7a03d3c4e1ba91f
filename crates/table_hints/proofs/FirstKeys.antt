-- Where a file is refused for an unknown key, a table of it has one.
use Rattle.std.proofs.Common.{◌≡◌, ℕ, ◌+◌, ℤ, pos, negsuc, ◌==◌, nat_le, nat_lt, Bool, true, false, not, ◌||◌, if◌then◌else◌, List, [], ◌∷◌, length, Option, Some, None, is_some, option_and_then, Result, Ok, Err, IfOk, refl, ap, sym, ◌∙◌, subst, arith}
use Rattle.std.specs.List.{list_any}
use Rattle.std.specs.Option.{option_or}
use Rattle.std.proofs.lemmas.Bool.Decides.{nat_tests}
use Rattle.aftr_base.specs.declared.lists.OutOfMemory.{OutOfMemory}
use Rattle.aftr_base.specs.declared.numbers.V4.{V4}
use Rattle.aftr_base.specs.declared.numbers.V6.{V6}
use Rattle.binding_rules.specs.Tables.{BindingTable, binding_table}
use Rattle.binding_rules.specs.declared.binding.Binding.{Binding}
use Rattle.binding_rules.specs.declared.settings.Edition.{Edition}
use Rattle.binding_rules.specs.declared.settings.Edition.TheVariants as edition
use Rattle.toml.specs.Data.{Data, as_integer, as_bool, as_str, as_array, as_table, Items, no_items, item, Members}
use Rattle.table_costs.specs.Costs.{is_too_costly}
use Rattle.table_costs.specs.FirstLines.{IsTooCostly, begins_toml}
use Rattle.table_costs.proofs.FirstLineLemmas.{no_tree}
use Rattle.binding_file.specs.Keys.{◌>>=◌, Then, After, member_at, required, of_kind, table_at, text_at, in_range, number_or, number_at, flag_or, flag_at, IsAddress6, IsAddress4, IsAddress6At, IsAddress4At, is_one_of, keys_of, has_other, known}
use Rattle.binding_file.specs.Files.{top_names, softwire_names, binding_names, edition_from, edition_of, top_edition, settings_of, port_set_of, IsSoftwire, IsBinding, IsElement, AreElements, are_tables, tables_from, tables_or_none, elements_of, AreBindings, IsTree, IsDocument, Says, IsJudged, TextOf, TableOf, most_bytes, AnswerOf, IsAffordable}
use Rattle.table_hints.specs.Lines.{is_told}
use Rattle.table_hints.specs.UnknownKeys.{first_other, other_key, key_in, binding_key, found_at, in_bindings, in_elements, first_unknown, told_key, is_looked_at, IsUnknownKey}
use Rattle.binding_file.specs.declared.names.Name.{Name}
use Rattle.binding_file.specs.declared.names.Name.TheVariants as name
use Rattle.binding_file.specs.declared.names.Place.{Place}
use Rattle.binding_file.specs.declared.names.Place.TheVariants as place
use Rattle.binding_file.specs.declared.refusals.FileRefused.{FileRefused}
use Rattle.binding_file.specs.declared.refusals.FileRefused.TheVariants as refused
use Rattle.table_hints.specs.declared.unknown_keys.KeyPlace.{KeyPlace}
use Rattle.table_hints.specs.declared.unknown_keys.KeyPlace.TheVariants as within
use Rattle.table_hints.specs.declared.unknown_keys.UnknownKey.{UnknownKey}
use Rattle.table_hints.proofs.LineLemmas.{some_mapped}

abbrev is_unknown : FileRefused → Bool
is_unknown refused.UnknownKey = true
is_unknown _ = false

-- no refusal for an unknown key
abbrev IsOther : {A : Type 0} → Result A FileRefused → Type 0
IsOther (Ok a) = Unit {0}
IsOther (Err e) = is_unknown e ≡ false

no_false : true ≡ false → ⊥
no_false is = absurd cc

never : {A : Type 0} (x : Result A FileRefused) → IsOther x → x ≡ Err refused.UnknownKey → ⊥
never {A} x other is = no_false (subst (λ (r : Result A FileRefused). IsOther r) is other)

abbrev failed : (A : Type 0) → FileRefused → Result A FileRefused
failed A e = Err e

same_err : (A : Type 0) (e f : FileRefused) → failed A e ≡ failed A f → e ≡ f
same_err A e f is = cc

bind_other : {A B : Type 0} (x : Result A FileRefused) (f : A → Result B FileRefused) → IsOther x → ((a : A) → IsOther (f a)) → IsOther (x >>= f)
bind_other (Ok a) f other each = each a
bind_other (Err e) f other each = other

through : {A B : Type 0} (x : Result A FileRefused) (f : A → Result B FileRefused) (T : Type 0) → IsOther x → ((a : A) → f a ≡ Err refused.UnknownKey → T) →
    (x >>= f) ≡ Err refused.UnknownKey → T
through (Ok a) f T other each is = each a is
through (Err e) f T other each is = absurd (never (Err e) other is)

then_other : {A B : Type 0} (x : Result A FileRefused) (Q : A → Type 0) (r : Result B FileRefused) → IsOther x →
    ((a : A) → Q a → IsOther r) → Then x Q r → IsOther r
then_other (Ok a) Q r other each h = each a h
then_other {A} {B} (Err e) Q r other each h = subst (λ (s : Result B FileRefused). IsOther s) (sym h) other

then_either : {A : Type 0} (B : Type 0) (x : Result A FileRefused) (Q : A → Type 0) (T : Type 0) → (x ≡ Err refused.UnknownKey → T) → ((a : A) → Q a → T) →
    Then {B = B} x Q (Err refused.UnknownKey) → T
then_either B (Ok a) Q T bad each h = each a h
then_either {A} B (Err e) Q T bad each h = bad (ap (failed A) (same_err B e refused.UnknownKey (sym h)))

after_parts : {A : Type 0} (B : Type 0) (P : Result A FileRefused → Type 0) (Q : A → Type 0) (T : Type 0) → (P (Err refused.UnknownKey) → T) →
    ((a : A) → P (Ok a) → Q a → T) → (x : Result A FileRefused) → P x → Then {B = B} x Q (Err refused.UnknownKey) → T
after_parts B P Q T bad each (Ok a) given rest = each a given rest
after_parts {A} B P Q T bad each (Err e) given rest = bad (subst (λ (f : FileRefused). P (failed A f)) (same_err B e refused.UnknownKey (sym rest)) given)

after_either : {A B : Type 0} (P : Result A FileRefused → Type 0) (Q : A → Type 0) (T : Type 0) → (P (Err refused.UnknownKey) → T) →
    ((a : A) → P (Ok a) → Q a → T) → After {B = B} P Q (Err refused.UnknownKey) → T
after_either {A} {B} P Q T bad each h = after_parts B P Q T bad each h.gives h.given h.rest

-- the refusals of one key
required_other : (p : Place) (o : Option Data) → IsOther (required p o)
required_other p None = refl
required_other p (Some d) = tt

kind_other : {A : Type 0} (p : Place) (o : Option A) → IsOther (of_kind p o)
kind_other p None = refl
kind_other p (Some a) = tt

range_if : (p : Place) (n : ℕ) (b : Bool) → IsOther (if b then Ok n else Err (refused.Range p))
range_if p n true = tt
range_if p n false = refl

range_other : (p : Place) (most : ℕ) (z : ℤ) → IsOther (in_range p most z)
range_other p most (pos n) = range_if p n (nat_le n most)
range_other p most (negsuc n) = refl

number_other : (p : Place) (most default : ℕ) (o : Option Data) → IsOther (number_or p most default o)
number_other p most default None = tt
number_other p most default (Some d) = bind_other (of_kind p (as_integer d)) _ (kind_other p (as_integer d)) (λ z. range_other p most z)

flag_other : (p : Place) (default : Bool) (o : Option Data) → IsOther (flag_or p default o)
flag_other p default None = tt
flag_other p default (Some d) = kind_other p (as_bool d)

number_at_other : (ms : Members) (p : Place) (most default : ℕ) → IsOther (number_at ms p most default)
unfolding number_at
number_at_other ms p most default = number_other p most default (member_at ms p)

flag_at_other : (ms : Members) (p : Place) (default : Bool) → IsOther (flag_at ms p default)
unfolding flag_at
flag_at_other ms p default = flag_other p default (member_at ms p)

text_other : (ms : Members) (p : Place) → IsOther (text_at ms p)
text_other ms p = bind_other (required p (member_at ms p)) _ (required_other p (member_at ms p)) (λ d. kind_other p (as_str d))

table_other : (ms : Members) (p : Place) → IsOther (table_at ms p)
table_other ms p = bind_other (required p (member_at ms p)) _ (required_other p (member_at ms p)) (λ d. kind_other p (as_table d))

spelled6 : (p : Place) (text : List ℕ) (r : Result V6 FileRefused) → IsAddress6 p text r → IsOther r
spelled6 p text (Ok a) h = tt
spelled6 p text (Err e) h = ap is_unknown h.0

spelled4 : (p : Place) (text : List ℕ) (r : Result V4 FileRefused) → IsAddress4 p text r → IsOther r
spelled4 p text (Ok a) h = tt
spelled4 p text (Err e) h = ap is_unknown h.0

no_address6 : (ms : Members) (p : Place) → IsAddress6At ms p (Err refused.UnknownKey) → ⊥
no_address6 ms p h =
    let r : Result V6 FileRefused = Err refused.UnknownKey in
    no_false (then_other (text_at ms p) (λ text. IsAddress6 p text r) r (text_other ms p) (λ text. spelled6 p text r) h)

no_address4 : (ms : Members) (p : Place) → IsAddress4At ms p (Err refused.UnknownKey) → ⊥
no_address4 ms p h =
    let r : Result V4 FileRefused = Err refused.UnknownKey in
    no_false (then_other (text_at ms p) (λ text. IsAddress4 p text r) r (text_other ms p) (λ text. spelled4 p text r) h)

edition_if : (s t : Bool) → IsOther (if s then Ok edition.One else if t then Ok edition.Two else Err refused.Version)
edition_if true t = tt
edition_if false true = tt
edition_if false false = refl

version_other : (z : ℤ) → IsOther (edition_from z)
version_other (pos n) = edition_if (n == 1) (n == 2)
version_other (negsuc n) = refl

edition_other : (ms : Members) → IsOther (edition_of ms)
edition_other ms =
    let p = place.Top name.Version in
    bind_other (required p (member_at ms p)) _ (required_other p (member_at ms p))
    (λ d. bind_other (of_kind p (as_integer d)) _ (kind_other p (as_integer d)) (λ z. version_other z))

tables_if : (ds : Items) (b : Bool) → IsOther (if b then Ok ds else Err (refused.Kind (place.Top name.Binding)))
tables_if ds true = tt
tables_if ds false = refl

items_other : (o : Option Items) → IsOther (tables_from o)
items_other None = refl
items_other (Some ds) = tables_if ds (are_tables ds)

elements_other : (o : Option Data) → IsOther (tables_or_none o)
elements_other None = tt
elements_other (Some d) = items_other (as_array d)

-- a table that is refused for it has such a key
known_if : {A : Type 0} (x : A) (b : Bool) → (if b then Err refused.UnknownKey else Ok x) ≡ Err refused.UnknownKey → b ≡ true
known_if x true is = refl
known_if x false is = absurd cc

none_known : {A : Type 0} (names : List Name) (ms : Members) (x : A) → known names ms x ≡ Err refused.UnknownKey → has_other names ms ≡ true
none_known names ms x is = known_if x (has_other names ms) is

other_if : (t any : Bool) (key : List ℕ) (o : Option (List ℕ)) → any ≡ is_some o → (not t || any) ≡ is_some (if t then o else Some key)
other_if true any key o is = is
other_if false any key o is = refl

any_other : (names : List Name) (keys : List (List ℕ)) → list_any (λ key. not (is_one_of names key)) keys ≡ is_some (first_other names keys)
any_other names [] = refl
any_other names (key ∷ keys) = other_if (is_one_of names key) _ key (first_other names keys) (any_other names keys)

has_key : (names : List Name) (ms : Members) → has_other names ms ≡ true → is_some (other_key names ms) ≡ true
unfolding has_other
has_key names ms has = sym (any_other names (keys_of ms)) ∙ has

abbrev HasKey : List Name → Members → Type 0
HasKey names ms = is_some (other_key names ms) ≡ true

top_has : (ms : Members) → top_edition ms ≡ Err refused.UnknownKey → HasKey top_names ms
top_has ms is = through (edition_of ms) _ (HasKey top_names ms) (edition_other ms) (λ e known. has_key top_names ms (none_known top_names ms e known)) is

settings_have : (ms : Members) (aftr : V6) (own : V4) → settings_of ms aftr own ≡ Err refused.UnknownKey → HasKey softwire_names ms
unfolding settings_of
settings_have ms aftr own is =
    let K = HasKey softwire_names ms in
    through (number_at ms (place.Softwire name.Mtu6) 65535 1500) _ K (number_at_other ms (place.Softwire name.Mtu6) 65535 1500) (λ mtu6.
    through (number_at ms (place.Softwire name.Mtu4) 65535 1500) _ K (number_at_other ms (place.Softwire name.Mtu4) 65535 1500) (λ mtu4.
    through (number_at ms (place.Softwire name.HopLimit) 255 64) _ K (number_at_other ms (place.Softwire name.HopLimit) 255 64) (λ hop_limit.
    through (flag_at ms (place.Softwire name.Hairpin) true) _ K (flag_at_other ms (place.Softwire name.Hairpin) true) (λ hairpin.
    through (flag_at ms (place.Softwire name.IcmpIn) true) _ K (flag_at_other ms (place.Softwire name.IcmpIn) true) (λ icmp_in.
    through (flag_at ms (place.Softwire name.ErrorsUp) false) _ K (flag_at_other ms (place.Softwire name.ErrorsUp) false) (λ errors_up.
    through (flag_at ms (place.Softwire name.ErrorsDown) false) _ K (flag_at_other ms (place.Softwire name.ErrorsDown) false) (λ errors_down known.
    has_key softwire_names ms (none_known softwire_names ms (record {
      aftr = aftr;
      own = own;
      mtu6 = mtu6;
      mtu4 = mtu4;
      hop_limit = hop_limit;
      hairpin = hairpin;
      icmp_in = icmp_in;
      errors_up = errors_up;
      errors_down = errors_down;
    }) known)))))))) is

softwire_has : (ms : Members) → IsSoftwire ms (Err refused.UnknownKey) → HasKey softwire_names ms
softwire_has ms h =
    let K = HasKey softwire_names ms in
    after_either (IsAddress6At ms (place.Softwire name.Aftr)) _ K (λ bad. absurd (no_address6 ms (place.Softwire name.Aftr) bad)) (λ aftr given more.
    after_either (IsAddress4At ms (place.Softwire name.Own)) _ K (λ bad. absurd (no_address4 ms (place.Softwire name.Own) bad)) (λ own read is.
    settings_have ms aftr own (sym is)) more) h

port_set_has : (at : ℕ) (ms : Members) (b4 : V6) (v4 : V4) → port_set_of at ms b4 v4 ≡ Err refused.UnknownKey → HasKey binding_names ms
unfolding port_set_of
port_set_has at ms b4 v4 is =
    let K = HasKey binding_names ms in
    through (number_at ms (place.Binding at name.Offset) 255 0) _ K (number_at_other ms (place.Binding at name.Offset) 255 0) (λ offset.
    through (number_at ms (place.Binding at name.Length) 255 0) _ K (number_at_other ms (place.Binding at name.Length) 255 0) (λ count.
    through (number_at ms (place.Binding at name.Psid) 65535 0) _ K (number_at_other ms (place.Binding at name.Psid) 65535 0) (λ psid known.
    has_key binding_names ms (none_known binding_names ms (record { b4 = b4; v4 = v4; offset = offset; length = count; psid = psid }) known)))) is

binding_has : (at : ℕ) (ms : Members) → IsBinding at ms (Err refused.UnknownKey) → HasKey binding_names ms
binding_has at ms h =
    let K = HasKey binding_names ms in
    after_either (IsAddress6At ms (place.Binding at name.B4)) _ K (λ bad. absurd (no_address6 ms (place.Binding at name.B4) bad)) (λ b4 given more.
    after_either (IsAddress4At ms (place.Binding at name.Ipv4)) _ K (λ bad. absurd (no_address4 ms (place.Binding at name.Ipv4) bad)) (λ v4 read is.
    port_set_has at ms b4 v4 (sym is)) more) h

table_has : (at : ℕ) (o : Option Members) →
    Then (of_kind (place.Top name.Binding) o) (λ ms. IsBinding at ms (Err refused.UnknownKey)) (failed Binding refused.UnknownKey) →
    is_some (option_and_then (other_key binding_names) o) ≡ true
table_has at None h = absurd cc
table_has at (Some ms) h = binding_has at ms h

element_has : (at : ℕ) (d : Data) → IsElement at d (Err refused.UnknownKey) → is_some (binding_key d) ≡ true
element_has at d h = table_has at (as_table d) h

-- the first of two
or_first : {A : Type 0} (a b : Option A) → is_some a ≡ true → is_some (option_or a b) ≡ true
or_first (Some x) b is = refl
or_first None b is = absurd cc

or_second : {A : Type 0} (a b : Option A) → is_some b ≡ true → is_some (option_or a b) ≡ true
or_second (Some x) b is = refl
or_second None b is = is

found : (p : KeyPlace) (key : Option (List ℕ)) → is_some key ≡ true → is_some (found_at p key) ≡ true
found p key is = sym (some_mapped (λ k. (p, k)) key) ∙ is

elements_have : (at : ℕ) (ds : Items) → AreElements at ds (Err refused.UnknownKey) → is_some (in_bindings at ds) ≡ true
elements_have at no_items h = absurd cc
elements_have at (item d ds) h =
    after_either (IsElement at d) _ _ (λ bad. or_first _ _ (found (within.Binding at) (binding_key d) (element_has at d bad))) (λ b given more.
    after_either (AreElements (at + 1) ds) _ _ (λ bad. or_second _ _ (elements_have (at + 1) ds bad)) (λ bs read is. absurd cc) more) h

bindings_have : (x : Result Items FileRefused) → IsOther x →
    Then x (λ ds. AreElements 0 ds (Err refused.UnknownKey)) (failed (List Binding) refused.UnknownKey) →
    is_some (in_elements x) ≡ true
bindings_have (Ok ds) other h = elements_have 0 ds h
bindings_have (Err e) other h = absurd (never (Err e) other (sym h))

-- what the tree says behind the edition
abbrev Behind : Members → Edition → Members → Type 0
Behind ms e table =
    let r = failed BindingTable refused.UnknownKey in
    After (IsSoftwire table) (λ softwire. After (AreBindings ms) (λ bindings. r ≡ Ok (binding_table e softwire bindings)) r) r

behind_has : (ms : Members) (e : Edition) (x : Result Members FileRefused) → IsOther x → Then x (Behind ms e) (failed BindingTable refused.UnknownKey) →
    is_some (option_or (found_at within.Softwire (key_in softwire_names x)) (in_elements (elements_of ms))) ≡ true
behind_has ms e (Err f) other h = absurd (never (Err f) other (sym h))
behind_has ms e (Ok table) other h =
    after_either (IsSoftwire table) _ _ (λ bad. or_first _ _ (found within.Softwire _ (softwire_has table bad))) (λ softwire given more.
    after_either (AreBindings ms) _ _ (λ bad. or_second _ _ (bindings_have (elements_of ms) (elements_other (member_at ms (place.Top name.Binding))) bad))
    (λ bs read is. absurd cc) more) h

tree_has : (ms : Members) → IsTree ms (Err refused.UnknownKey) → is_some (first_unknown ms) ≡ true
tree_has ms h =
    then_either BindingTable (top_edition ms) _ _ (λ bad. or_first _ _ (found within.Top _ (top_has ms bad)))
    (λ e more. or_second _ _ (behind_has ms e (table_at ms (place.Top name.Softwire)) (table_other ms (place.Top name.Softwire)) more)) h

not_judged : (t : BindingTable) → IsJudged t (Err refused.UnknownKey) → ⊥
not_judged t h = let is : refused.UnknownKey ≡ refused.Rules h.0 = h.1 in absurd cc

looked_at : (text : List ℕ) → nat_lt most_bytes (length text) ≡ false → is_told text ≡ true → is_too_costly text ≡ false → is_looked_at text ≡ true
looked_at text small told free = let fits : nat_le (length text) most_bytes ≡ true = grind (arith, nat_tests) in rw (fits, free, told) refl

-- a document that is not refused for its cost
not_costly : (text : List ℕ) (ms : Members) → IsDocument text (Ok ms) → (IsTooCostly text → ⊥) → is_too_costly text ≡ false
not_costly text ms document cheap =
    by_both (begins_toml text) (is_too_costly text) (no_tree text ms document.1) (λ begins costly. cheap (record { utf8 = document.0; begins = begins; costly = costly }))
  where
    by_both : (a b : Bool) → (a ≡ false → ⊥) → (a ≡ true → b ≡ true → ⊥) → b ≡ false
    by_both true true never both = absurd (both refl refl)
    by_both true false never both = refl
    by_both false b never both = absurd (never refl)

said_key : (text : List ℕ) (o : Option UnknownKey) → nat_lt most_bytes (length text) ≡ false → is_told text ≡ true → (IsTooCostly text → ⊥) → IsUnknownKey text o →
    TextOf text (Err refused.UnknownKey) → is_some o ≡ true
said_key text o size told cheap is h =
    after_either (Says text) _ (is_some o ≡ true) (λ says.
    after_either (IsDocument text) _ (is_some o ≡ true) (λ bad. absurd (no_document bad.0)) (λ ms document tree.
    ap is_some (is.document ms (looked_at text size told (not_costly text ms document cheap)) document) ∙ (sym (some_mapped (told_key text ms) (first_unknown ms)) ∙ tree_has ms tree)) says)
    (λ t said judged. absurd (not_judged t judged)) h
  where
    no_document : refused.UnknownKey ≡ refused.NotToml → ⊥
    no_document same = absurd cc

answered_key : (text : List ℕ) (o : Option UnknownKey) → nat_lt most_bytes (length text) ≡ false → is_told text ≡ true → IsUnknownKey text o →
    AnswerOf text (Err refused.UnknownKey) → is_some o ≡ true
answered_key text o size told is h =
    after_either (IsAffordable text) _ (is_some o ≡ true) (λ bad. absurd (no_cost bad.0))
    (λ read affordable spelled. said_key text o size told affordable.1 is (subst (λ t. TextOf t (Err refused.UnknownKey)) affordable.0 spelled)) h
  where
    no_cost : refused.UnknownKey ≡ refused.TooCostly → ⊥
    no_cost same = absurd cc

by_size : (text : List ℕ) (o : Option UnknownKey) → IsUnknownKey text o → is_told text ≡ true → (b : Bool) → nat_lt most_bytes (length text) ≡ b →
    Then (if b then Err refused.TooBig else Ok text) (λ t. AnswerOf t (Err refused.UnknownKey)) (failed BindingTable refused.UnknownKey) →
    is_some o ≡ true
by_size text o is told true size h = absurd cc
by_size text o is told false size h = answered_key text o size told is h

-- a key is told of a file that is refused for one
pub key_is_told : (text : List ℕ) (r : Result (Option UnknownKey) OutOfMemory) → IfOk r (IsUnknownKey text) → TableOf text (Err refused.UnknownKey) →
    is_told text ≡ true → IfOk r (λ o. is_some o ≡ true)
key_is_told text (Err e) is h told = tt
key_is_told text (Ok o) is h told = by_size text o is told (nat_lt most_bytes (length text)) refl h
