-- An IPv4 text, as std's grammar reads it and as `decimal` writes it.
use Rattle.std.proofs.Common.{◌≡◌, ℕ, ◌+◌, ◌*◌, ◌/◌, ◌%◌, ◌^◌, ◌<◌, ◌≤◌, ◌↔◌, List, [], ◌∷◌, ◌++◌, Ok, Result, decimal, refl, sym, ap, ◌∙◌, subst, arith, append_assoc}
use Rattle.std.specs.declared.net.ipv4_addr.Ipv4Addr.{Ipv4Addr}
use Rattle.std.specs.Int.Digits.{number_from_digits}
use Rattle.std.specs.Net.Grammar.{IsDotted}
use Rattle.std.specs.Net.Text.{dotted_text}
use Rattle.std.specs.Net.Addr.{ipv4_octets, ipv4_bits}
use Rattle.std.proofs.NetLemmas.Theorems.{IsIpv4Text_unique}
use Rattle.std.proofs.lemmas.Fmt.{decimal_digit, decimal_step}
use Rattle.aftr_base.specs.declared.numbers.V4.{V4}
use Rattle.addr_text.specs.Ipv4.{IsV4Text, v4_text}

-- the bytes of an address, the highest first
abbrev pub bytes_of : ℕ → List ℕ
bytes_of a = (a / 2 ^ 24) ∷ (a / 2 ^ 16 % 256) ∷ (a / 2 ^ 8 % 256) ∷ (a % 256) ∷ []

pub to_dotted : (text : List ℕ) (a : ℕ) → IsV4Text text a → IsDotted text (bytes_of a)
to_dotted text a h = record {
  a = a / 2 ^ 24;
  b = a / 2 ^ 16 % 256;
  c = a / 2 ^ 8 % 256;
  d = a % 256;
  fit = omega (arith, h.fits);
  value = refl;
  spelled = h.spelled;
}

-- four bytes as the number that has them
dotted_number : (a b c d : ℕ) → a < 256 → b < 256 → c < 256 → d < 256 → v4_text (((a * 256 + b) * 256 + c) * 256 + d) ≡ dotted_text a b c d
dotted_number a b c d p q r s =
    let n = ((a * 256 + b) * 256 + c) * 256 + d in
    let first : n / 2 ^ 24 ≡ a = omega arith in
    let second : n / 2 ^ 16 % 256 ≡ b = omega arith in
    let third : n / 2 ^ 8 % 256 ≡ c = omega arith in
    let fourth : n % 256 ≡ d = omega arith in
    rw (first, second, third, fourth) refl

pub from_dotted : (text bytes : List ℕ) → IsDotted text bytes → IsV4Text text (number_from_digits 256 bytes)
from_dotted text bytes h =
    let number : number_from_digits 256 (h.a ∷ h.b ∷ h.c ∷ h.d ∷ []) ≡ ((h.a * 256 + h.b) * 256 + h.c) * 256 + h.d = omega arith in
    subst (λ bs. IsV4Text text (number_from_digits 256 bs)) (sym h.value) (record {
      fits = omega (arith, h.fit);
      spelled = h.spelled ∙ sym (ap v4_text number ∙ dotted_number h.a h.b h.c h.d h.fit.0 h.fit.1 h.fit.2 h.fit.3);
    })

-- the number of an address of std has its bytes for digits
pub v4_number : (text : List ℕ) (a : Ipv4Addr) → IsDotted text (ipv4_octets a) → ipv4_bits a ≡ number_from_digits 256 (ipv4_octets a)
unfolding ipv4_bits
v4_number text a h = rw h.value (omega arith)

-- a text spells one address at most
pub one_number : (text : List ℕ) (a b : ℕ) → IsV4Text text a → IsV4Text text b → a ≡ b
one_number text a b h k =
    let same : bytes_of a ≡ bytes_of b = ap ipv4_octets (IsIpv4Text_unique text (record { octets = bytes_of a }) (record { octets = bytes_of b }) (to_dotted text a h) (to_dotted text b k)) in
    let number : number_from_digits 256 (bytes_of a) ≡ number_from_digits 256 (bytes_of b) = ap (number_from_digits 256) same in
    omega (arith, number)

module _ {E : Type 0} where
  pub v4_found : (text : List ℕ) (n : ℕ) → IsV4Text text n → (a : ℕ) → (◌≡◌ {A = Result V4 E} (Ok (record { 0 = n })) (Ok (record { 0 = a }))) ↔ IsV4Text text a
  v4_found text n h a = (
    λ e.
        let whole : ◌≡◌ {A = V4} (record { 0 = n }) (record { 0 = a }) = cc in
        let same : n ≡ a = ap (λ (x : V4). x.0) whole in
        subst (IsV4Text text) same h,
    λ k. let same : n ≡ a = one_number text n a h k in cc,
  )

decimal_two : (n : ℕ) → 10 ≤ n → n < 100 → decimal n ≡ (48 + n / 10 % 10) ∷ (48 + n % 10) ∷ []
decimal_two n low high =
    let top : n / 10 ≡ n / 10 % 10 = omega arith in
    decimal_step n low (omega arith) ∙ ap (λ ds. ds ++ ((48 + n % 10) ∷ [])) (decimal_digit (n / 10) (omega arith))
    ∙ ap (λ d. (48 + d) ∷ (48 + n % 10) ∷ []) top

decimal_three : (n : ℕ) → 100 ≤ n → n < 256 → decimal n ≡ (48 + n / 100) ∷ (48 + n / 10 % 10) ∷ (48 + n % 10) ∷ []
decimal_three n low high =
    let top : n / 10 / 10 % 10 ≡ n / 100 = omega arith in
    decimal_step n (omega arith) (omega arith)
    ∙ ap (λ ds. ds ++ ((48 + n % 10) ∷ [])) (decimal_two (n / 10) (omega arith) (omega arith))
    ∙ ap (λ d. (48 + d) ∷ (48 + n / 10 % 10) ∷ (48 + n % 10) ∷ []) top

-- the digits of a byte behind what stands there, by how many they are
pub three_digits : (front : List ℕ) (n : ℕ) → 100 ≤ n → n < 256 → ((front ++ ((48 + n / 100) ∷ [])) ++ ((48 + n / 10 % 10) ∷ [])) ++ ((48 + n % 10) ∷ []) ≡ front ++ decimal n
three_digits front n low high = simp append_assoc (ap (λ ds. front ++ ds) (sym (decimal_three n low high)))

pub two_digits : (front : List ℕ) (n : ℕ) → 10 ≤ n → n < 100 → (front ++ ((48 + n / 10 % 10) ∷ [])) ++ ((48 + n % 10) ∷ []) ≡ front ++ decimal n
two_digits front n low high = simp append_assoc (ap (λ ds. front ++ ds) (sym (decimal_two n low high)))

pub one_digit : (front : List ℕ) (n : ℕ) → n < 10 → front ++ ((48 + n % 10) ∷ []) ≡ front ++ decimal n
one_digit front n high =
    let same : n % 10 ≡ n = omega arith in
    ap (λ d. front ++ ((48 + d) ∷ [])) same ∙ ap (λ ds. front ++ ds) (sym (decimal_digit n high))
