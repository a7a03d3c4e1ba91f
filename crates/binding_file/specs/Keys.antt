-- What one key of a TOML table gives: a value, or the refusal at the key's place. Each key is looked up by its name.
use Rattle.std.specs.Prelude.{◌≡◌, ℕ, ℤ, pos, negsuc, nat_le, Bool, not, if◌then◌else◌, List, [], ◌∷◌, Option, Some, None, Result, Ok, Err, bytes_eq}
use Rattle.std.specs.List.{list_any}
use Rattle.aftr_base.specs.declared.numbers.V4.{V4}
use Rattle.aftr_base.specs.declared.numbers.V6.{V6}
use Rattle.addr_text.specs.Ipv4.{IsV4Text}
use Rattle.addr_text.specs.Ipv6.{IsV6Text}
use Rattle.toml.specs.Data.{Data, as_str, as_integer, as_bool, as_table, Members, no_members, member, get_member}
use Rattle.binding_file.specs.Names.{key_of, name_at}
use Rattle.binding_file.specs.declared.names.Name.{Name}
use Rattle.binding_file.specs.declared.names.Place.{Place}
use Rattle.binding_file.specs.declared.refusals.FileRefused.{FileRefused}
use Rattle.binding_file.specs.declared.refusals.FileRefused.TheVariants as refused

-- a step that may be refused, and what follows its value
infixl 10 ◌>>=◌
abbrev pub ◌>>=◌ : {A B : Type 0} → Result A FileRefused → (A → Result B FileRefused) → Result B FileRefused
Ok a >>= f = f a
Err e >>= f = Err e

-- Q of the value; a refusal is that of the whole
abbrev pub Then : {A B : Type 0} → Result A FileRefused → (A → Type 0) → Result B FileRefused → Type 0
Then (Ok a) Q r = Q a
Then (Err e) Q r = r ≡ Err e

-- P gives a value with Q, or its refusal is that of the whole
pub record After {A B : Type 0} (P : Result A FileRefused → Type 0) (Q : A → Type 0) (r : Result B FileRefused) : Type 0 where
  pub gives : Result A FileRefused
  pub given : P gives
  pub rest : Then gives Q r

-- what the key of a place has in the table where it stands
abbrev pub member_at : Members → Place → Option Data
member_at ms p = get_member (key_of (name_at p)) ms

-- a key that has to be there
abbrev pub required : Place → Option Data → Result Data FileRefused
required p None = Err (refused.Missing p)
required p (Some d) = Ok d

-- a value that has to be of the kind that is asked for
abbrev pub of_kind : {A : Type 0} → Place → Option A → Result A FileRefused
of_kind p None = Err (refused.Kind p)
of_kind p (Some x) = Ok x

abbrev pub table_at : Members → Place → Result Members FileRefused
table_at ms p = required p (member_at ms p) >>= (λ d. of_kind p (as_table d))

abbrev pub text_at : Members → Place → Result (List ℕ) FileRefused
text_at ms p = required p (member_at ms p) >>= (λ d. of_kind p (as_str d))

-- an integer from 0 up to the greatest
abbrev pub in_range : Place → ℕ → ℤ → Result ℕ FileRefused
in_range p most (pos n) = if nat_le n most then Ok n else Err (refused.Range p)
in_range p most (negsuc n) = Err (refused.Range p)

-- a key that need not be there, and then has its default
abbrev pub number_or : Place → ℕ → ℕ → Option Data → Result ℕ FileRefused
number_or p most default None = Ok default
number_or p most default (Some d) = of_kind p (as_integer d) >>= (λ z. in_range p most z)

unfoldable pub number_at : Members → Place → ℕ → ℕ → Result ℕ FileRefused
number_at ms p most default = number_or p most default (member_at ms p)

abbrev pub flag_or : Place → Bool → Option Data → Result Bool FileRefused
flag_or p default None = Ok default
flag_or p default (Some d) = of_kind p (as_bool d)

unfoldable pub flag_at : Members → Place → Bool → Result Bool FileRefused
flag_at ms p default = flag_or p default (member_at ms p)

-- the address that the text spells, or that it spells none
abbrev pub IsAddress6 : Place → List ℕ → Result V6 FileRefused → Type 0
IsAddress6 p text (Ok a) = IsV6Text text a.0
IsAddress6 p text (Err e) = (e ≡ refused.Address p) × ((a : ℕ) → IsV6Text text a → ⊥)

abbrev pub IsAddress4 : Place → List ℕ → Result V4 FileRefused → Type 0
IsAddress4 p text (Ok a) = IsV4Text text a.0
IsAddress4 p text (Err e) = (e ≡ refused.Address p) × ((a : ℕ) → IsV4Text text a → ⊥)

abbrev pub IsAddress6At : Members → Place → Result V6 FileRefused → Type 0
IsAddress6At ms p r = Then (text_at ms p) (λ text. IsAddress6 p text r) r

abbrev pub IsAddress4At : Members → Place → Result V4 FileRefused → Type 0
IsAddress4At ms p r = Then (text_at ms p) (λ text. IsAddress4 p text r) r

abbrev pub keys_of : Members → List (List ℕ)
keys_of no_members = []
keys_of (member k d ms) = k ∷ keys_of ms

abbrev pub is_one_of : List Name → List ℕ → Bool
is_one_of names key = list_any (λ n. bytes_eq (key_of n) key) names

-- the table has a key that is none of these
unfoldable pub has_other : List Name → Members → Bool
has_other names ms = list_any (λ key. not (is_one_of names key)) (keys_of ms)

-- the value, unless the table has a key that is none of these
abbrev pub known : {A : Type 0} → List Name → Members → A → Result A FileRefused
known names ms x = if has_other names ms then Err refused.UnknownKey else Ok x
