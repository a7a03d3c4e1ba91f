-- What a walk over the keys of a table finds, and the binding that it makes.
use Rattle.std.proofs.Common.{◌≡◌, ℕ, Bool, true, false, not, ◌||◌, if◌then◌else◌, List, Option, Some, None, Result, Ok, Err, Ordering, Less, Equal, Greater, nat_cmp, is_eq, refl, ap, sym, subst, ◌∙◌}
use Rattle.std.specs.Cmp.Lexicographic.{slice_cmp}
use Rattle.std.specs.Option.{option_or}
use Rattle.std.specs.Ordering.{match_ordering}
use Rattle.std.proofs.lemmas.Map.Text.{is_eq-slice_cmp}
use Rattle.aftr_base.specs.declared.numbers.V4.{V4}
use Rattle.aftr_base.specs.declared.numbers.V6.{V6}
use Rattle.binding_rules.specs.declared.binding.Binding.{Binding}
use Rattle.toml.specs.Data.{Data, as_table, Members, no_members, member, get_member}
use Rattle.binding_file.specs.Files.{binding_names, port_set_of, IsBinding, IsElement}
use Rattle.binding_file.specs.Keys.{Then, of_kind, number_at, is_one_of, has_other}
use Rattle.binding_file.specs.Names.{key_of}
use Rattle.binding_file.specs.Parts.{data_of, number_from, port_set_from, at_name, AreFields, IsAddress4From, IsAddress6From, IsBindingFrom, IsWith}
use Rattle.binding_file.specs.declared.element.Fields.{Fields}
use Rattle.binding_file.specs.declared.names.Name.{Name}
use Rattle.binding_file.specs.declared.names.Name.TheVariants as name
use Rattle.binding_file.specs.declared.names.Place.TheVariants as place
use Rattle.binding_file.specs.declared.refusals.FileRefused.{FileRefused}

-- what was found so far and the members that are left give what all members do
pub record AreSoFar (fields : Fields) (left all : Members) : Type 0 where
  pub b4_is : option_or (data_of fields.b4) (get_member (key_of name.B4) left) ≡ get_member (key_of name.B4) all
  pub ipv4_is : option_or (data_of fields.ipv4) (get_member (key_of name.Ipv4) left) ≡ get_member (key_of name.Ipv4) all
  pub offset_is : option_or (data_of fields.offset) (get_member (key_of name.Offset) left) ≡ get_member (key_of name.Offset) all
  pub length_is : option_or (data_of fields.length) (get_member (key_of name.Length) left) ≡ get_member (key_of name.Length) all
  pub psid_is : option_or (data_of fields.psid) (get_member (key_of name.Psid) left) ≡ get_member (key_of name.Psid) all
  pub other_is : (fields.has_other || has_other binding_names left) ≡ has_other binding_names all

by_order : (o : Ordering) (d : Data) (later : Option Data) → match_ordering o later (Some d) later ≡ option_or (if is_eq o then Some d else None) later
by_order Less d later = refl
by_order Equal d later = refl
by_order Greater d later = refl

got : (n : Name) (key : List ℕ) (d : Data) (ms : Members) → get_member (key_of n) (member key d ms) ≡ option_or (at_name n key d) (get_member (key_of n) ms)
got n key d ms =
    by_order (slice_cmp nat_cmp (key_of n) key) d (get_member (key_of n) ms)
    ∙ ap (λ (t : Bool). option_or (if t then Some d else None) (get_member (key_of n) ms)) (is_eq-slice_cmp (key_of n) key)

in_turn : (a b c : Option Data) → option_or (option_or a b) c ≡ option_or a (option_or b c)
in_turn None b c = refl
in_turn (Some d) b c = refl

or_turn : (a b c : Bool) → ((a || b) || c) ≡ (a || (b || c))
or_turn true b c = refl
or_turn false b c = refl

or_nothing : (a : Option Data) → option_or a None ≡ a
or_nothing None = refl
or_nothing (Some d) = refl

or_false : (a : Bool) → (a || false) ≡ a
or_false true = refl
or_false false = refl

-- one key more, of one name
one_key : (n : Name) (now before : Option Data) (key : List ℕ) (d : Data) (ms : Members) (whole : Option Data) →
    now ≡ option_or before (at_name n key d) → option_or before (get_member (key_of n) (member key d ms)) ≡ whole → option_or now (get_member (key_of n) ms) ≡ whole
one_key n now before key d ms whole is so_far =
    ap (λ (o : Option Data). option_or o (get_member (key_of n) ms)) is
    ∙ (in_turn before (at_name n key d) (get_member (key_of n) ms)
    ∙ (sym (ap (λ (o : Option Data). option_or before o) (got n key d ms)) ∙ so_far))

other_key : (now before : Bool) (key : List ℕ) (d : Data) (ms : Members) (whole : Bool) →
    now ≡ (before || not (is_one_of binding_names key)) → (before || has_other binding_names (member key d ms)) ≡ whole → (now || has_other binding_names ms) ≡ whole
unfolding has_other
other_key now before key d ms whole is so_far =
    ap (λ (b : Bool). b || has_other binding_names ms) is ∙ (or_turn before (not (is_one_of binding_names key)) (has_other binding_names ms) ∙ so_far)

pub one_more : (now before : Fields) (key : List ℕ) (d : Data) (left all : Members) → IsWith now before key d → AreSoFar before (member key d left) all → AreSoFar now left all
one_more now before key d left all more so_far = record {
  b4_is = one_key name.B4 (data_of now.b4) (data_of before.b4) key d left _ more.b4_is so_far.b4_is;
  ipv4_is = one_key name.Ipv4 (data_of now.ipv4) (data_of before.ipv4) key d left _ more.ipv4_is so_far.ipv4_is;
  offset_is = one_key name.Offset (data_of now.offset) (data_of before.offset) key d left _ more.offset_is so_far.offset_is;
  length_is = one_key name.Length (data_of now.length) (data_of before.length) key d left _ more.length_is so_far.length_is;
  psid_is = one_key name.Psid (data_of now.psid) (data_of before.psid) key d left _ more.psid_is so_far.psid_is;
  other_is = other_key now.has_other before.has_other key d left _ more.other_is so_far.other_is;
}

no_other : has_other binding_names no_members ≡ false
unfolding has_other
no_other = refl

pub all_found : (fields : Fields) (all : Members) → AreSoFar fields no_members all → AreFields fields all
all_found fields all so_far = record {
  b4_is = sym (or_nothing (data_of fields.b4)) ∙ so_far.b4_is;
  ipv4_is = sym (or_nothing (data_of fields.ipv4)) ∙ so_far.ipv4_is;
  offset_is = sym (or_nothing (data_of fields.offset)) ∙ so_far.offset_is;
  length_is = sym (or_nothing (data_of fields.length)) ∙ so_far.length_is;
  psid_is = sym (or_nothing (data_of fields.psid)) ∙ so_far.psid_is;
  other_is = sym (or_false fields.has_other) ∙ (sym (ap (λ (b : Bool). fields.has_other || b) no_other) ∙ so_far.other_is);
}

then_so : {A B : Type 0} (x : Result A FileRefused) (P Q : A → Type 0) (r : Result B FileRefused) → ((a : A) → P a → Q a) → Then x P r → Then x Q r
then_so (Ok a) P Q r so h = so a h
then_so (Err e) P Q r so h = h

same_port_set : (at : ℕ) (fields : Fields) (ms : Members) (b4 : V6) (v4 : V4) → AreFields fields ms → port_set_from at fields b4 v4 ≡ port_set_of at ms b4 v4
unfolding port_set_of number_at number_from
same_port_set at fields ms b4 v4 are = rw (are.offset_is, are.length_is, are.psid_is, are.other_is) refl

-- what the fields of a table make is what the table makes
pub binding_is : (at : ℕ) (fields : Fields) (ms : Members) (r : Result Binding FileRefused) → AreFields fields ms → IsBindingFrom at fields r → IsBinding at ms r
binding_is at fields ms r are made = record {
  gives = made.gives;
  given = subst (λ d. IsAddress6From d (place.Binding at name.B4) made.gives) are.b4_is made.given;
  rest = then_so made.gives _ _ r (λ b4 next. record {
    gives = next.gives;
    given = subst (λ d. IsAddress4From d (place.Binding at name.Ipv4) next.gives) are.ipv4_is next.given;
    rest = then_so next.gives _ _ r (λ v4 last. last ∙ same_port_set at fields ms b4 v4 are) next.rest;
  }) made.rest;
}

-- the same of an element that is the table
pub element_is : (at : ℕ) (d : Data) (ms : Members) (fields : Fields) (r : Result Binding FileRefused) → Some ms ≡ as_table d → AreFields fields ms → IsBindingFrom at fields r → IsElement at d r
element_is at d ms fields r table are made =
    subst (λ (o : Option Members). Then (of_kind (place.Top name.Binding) o) (λ ms. IsBinding at ms r) r) table (binding_is at fields ms r are made)
