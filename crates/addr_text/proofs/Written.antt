-- What is written of an IPv6 address is canonical, and spells it.
use Rattle.std.proofs.Common.{ap₂, ◌≡◌, ℕ, zero, suc, ◌+◌, ◌-◌, ◌/◌, ◌%◌, ◌^◌, ◌<◌, ◌≤◌, inl, inr, Bool, true, false, List, [], ◌∷◌, ◌++◌, length, take, drop, refl, sym, ap, ◌∙◌, subst, arith, lt-ltb, le-ltb, ne_eqb, eq-eqb, append_assoc, append-nil, take-add, take-append-drop, length-take-le, length-drop}
use Rattle.std.proofs.lemmas.Bool.{cases_lt}
use Rattle.std.proofs.lemmas.List.{take_rest}
use Rattle.std.specs.Fmt.{digits, digit_glyph}
use Rattle.std.proofs.lemmas.Fmt.{hex_one_digit, hex_two_digits, digits_is_IsNumeral}
use Rattle.std.specs.Int.Digits.{number_from_digits}
use Rattle.std.specs.Net.Text.{longest_zero_run}
use Rattle.std.proofs.NetLemmas.Texts.{AllSegments, AllSegments-take, AllSegments-drop, IsZeroRun-longest_zero_run, longest_zero_run_first}
use Rattle.addr_text.specs.Ipv6.{IsGroup, AreGroups, AreEightGroups, IsV6Text}
use Rattle.addr_text.specs.Canonical.{groups_of, group_text, groups_text, text_without, IsZeroRun, IsCanonical}

-- the groups of an address are its digits, eight of sixteen bits
groups_number : (a : ℕ) → a ≡ number_from_digits (2 ^ 16) (groups_of a)
unfolding groups_of
groups_number a = omega arith

pub groups_length : (a : ℕ) → length (groups_of a) ≡ 8
unfolding groups_of
groups_length a = refl

groups_fit : (a : ℕ) → a < 2 ^ 128 → AllSegments (groups_of a)
unfolding groups_of
groups_fit a fits zero = omega arith
groups_fit a fits (suc zero) = omega arith
groups_fit a fits (suc (suc zero)) = omega arith
groups_fit a fits (suc (suc (suc zero))) = omega arith
groups_fit a fits (suc (suc (suc (suc zero)))) = omega arith
groups_fit a fits (suc (suc (suc (suc (suc zero))))) = omega arith
groups_fit a fits (suc (suc (suc (suc (suc (suc zero)))))) = omega arith
groups_fit a fits (suc (suc (suc (suc (suc (suc (suc zero))))))) = omega arith
groups_fit a fits (suc (suc (suc (suc (suc (suc (suc (suc k)))))))) = omega arith

abbrev glyph : ℕ → ℕ
glyph d = digit_glyph false d

hex_three : (n : ℕ) → 0x100 ≤ n → n < 0x1000 → group_text n ≡ glyph (n / 0x100) ∷ glyph (n / 0x10 % 16) ∷ glyph (n % 16) ∷ []
unfolding digits
hex_three n low high =
    let one = ne_eqb (n / 16) 0 (omega arith) in
    let two = ne_eqb (n / 16 / 16) 0 (omega arith) in
    let none = eq-eqb (n / 16 / 16 / 16) 0 (omega arith) in
    let top : n / 16 / 16 % 16 ≡ n / 0x100 = omega arith in
    rw (one, two, none, top) refl

hex_four : (n : ℕ) → 0x1000 ≤ n → n < 0x1_0000 → group_text n ≡ glyph (n / 0x1000) ∷ glyph (n / 0x100 % 16) ∷ glyph (n / 0x10 % 16) ∷ glyph (n % 16) ∷ []
unfolding digits
hex_four n low high =
    let one = ne_eqb (n / 16) 0 (omega arith) in
    let two = ne_eqb (n / 16 / 16) 0 (omega arith) in
    let three = ne_eqb (n / 16 / 16 / 16) 0 (omega arith) in
    let none = eq-eqb (n / 16 / 16 / 16 / 16) 0 (omega arith) in
    let top : n / 16 / 16 / 16 % 16 ≡ n / 0x1000 = omega arith in
    let next : n / 16 / 16 % 16 ≡ n / 0x100 % 16 = omega arith in
    rw (one, two, three, none, top, next) refl

-- the digits of a group behind what stands there, by how many they are
pub four_digits : (front : List ℕ) (n : ℕ) → 0x1000 ≤ n → n < 0x1_0000 → (((front ++ (glyph (n / 0x1000) ∷ [])) ++ (glyph (n / 0x100 % 16) ∷ [])) ++ (glyph (n / 0x10 % 16) ∷ [])) ++ (glyph (n % 16) ∷ []) ≡ front ++ group_text n
four_digits front n low high = simp append_assoc (ap (λ ds. front ++ ds) (sym (hex_four n low high)))

pub three_digits : (front : List ℕ) (n : ℕ) → 0x100 ≤ n → n < 0x1000 → ((front ++ (glyph (n / 0x100 % 16) ∷ [])) ++ (glyph (n / 0x10 % 16) ∷ [])) ++ (glyph (n % 16) ∷ []) ≡ front ++ group_text n
three_digits front n low high =
    let top : n / 0x100 % 16 ≡ n / 0x100 = omega arith in
    rw top (simp append_assoc (ap (λ ds. front ++ ds) (sym (hex_three n low high))))

pub two_digits : (front : List ℕ) (n : ℕ) → 0x10 ≤ n → n < 0x100 → (front ++ (glyph (n / 0x10 % 16) ∷ [])) ++ (glyph (n % 16) ∷ []) ≡ front ++ group_text n
two_digits front n low high =
    let top : n / 0x10 % 16 ≡ n / 0x10 = omega arith in
    rw top (simp append_assoc (ap (λ ds. front ++ ds) (sym (hex_two_digits false n low high))))

pub one_digit : (front : List ℕ) (n : ℕ) → n < 0x10 → front ++ (glyph (n % 16) ∷ []) ≡ front ++ group_text n
one_digit front n high =
    let same : n % 16 ≡ n = omega arith in
    rw same (ap (λ ds. front ++ ds) (sym (hex_one_digit false n high)))

group_length : (n : ℕ) → n < 2 ^ 16 → length (group_text n) ≤ 4
group_length n fits =
    elim (cases_lt n 0x10) [
      | inl one ↦ rw (hex_one_digit false n one) (omega arith)
      | inr more ↦ elim (cases_lt n 0x100) [
        | inl two ↦ rw (hex_two_digits false n more two) (omega arith)
        | inr more ↦ elim (cases_lt n 0x1000) [
          | inl three ↦ rw (hex_three n more three) (omega arith)
          | inr four ↦ rw (hex_four n four fits) (omega arith)
        ]
      ]
    ]

group_spelled : (n : ℕ) → n < 2 ^ 16 → IsGroup (group_text n) n
group_spelled n fits =
    let (numeral, value) = digits_is_IsNumeral 16 false (omega arith) (omega arith) n (omega arith) in
    record { digits = numeral.1; some = numeral.0; most = group_length n fits; value = sym value }

groups_spelled : (d : Bool) (gs : List ℕ) → AllSegments gs → AreGroups d (groups_text gs) gs
groups_spelled d [] fits = refl
groups_spelled d (g ∷ []) fits = subst (λ t. IsGroup t g) (sym (append-nil (group_text g))) (group_spelled g (fits 0))
groups_spelled d (g ∷ h ∷ gs) fits =
    inl (group_text g, groups_text (h ∷ gs), refl, group_spelled g (fits 0), groups_spelled d (h ∷ gs) (λ k. fits (suc k)))

-- the text with `::` for the longest run
abbrev pub written : List ℕ → List ℕ
written groups = text_without groups (longest_zero_run groups).0 (longest_zero_run groups).1

written_spelled : (gs : List ℕ) → length gs ≡ 8 → AllSegments gs → AreEightGroups (written gs) gs
written_spelled gs eight fits =
    let start = (longest_zero_run gs).0 in
    let count = (longest_zero_run gs).1 in
    let (within, zeros) = IsZeroRun-longest_zero_run gs in
    let before = length-take-le start gs (omega arith) in
    let behind = length-drop (start + count) gs in
    let gap : 8 - length (take start gs) - length (drop (start + count) gs) ≡ count = omega arith in
    elim (cases_lt count 2) [
      | inl short ↦ rw (lt-ltb count 2 short) (inl (groups_spelled true gs fits, eight))
      | inr long ↦ rw (le-ltb count 2 long) (inr (record {
        before = _;
        after = _;
        front = take start gs;
        back = drop (start + count) gs;
        spelled = refl;
        front_groups = groups_spelled false _ (AllSegments-take start gs fits);
        back_groups = groups_spelled true _ (AllSegments-drop (start + count) gs fits);
        most = omega arith;
        value = rw (gap, ← zeros, ← take-add start count gs) (sym (take-append-drop (start + count) gs));
      }))
    ]

-- what is written without `::`, where the longest run is short
pub written_short : (text front groups : List ℕ) (run : ℕ × ℕ) → run ≡ longest_zero_run groups → run.1 < 2 → front ≡ [] → text ≡ front ++ groups_text groups → text ≡ written groups
written_short text front groups run same short empty e =
    let P : ℕ × ℕ → Type 0 = λ p. text ≡ text_without groups p.0 p.1 in
    let test = lt-ltb run.1 2 short in
    let plain : text ≡ groups_text groups = e ∙ ap (λ f. f ++ groups_text groups) empty in
    subst P same (rw test plain)

-- and with it
pub written_long : (text head middle front groups : List ℕ) (run : ℕ × ℕ) → run ≡ longest_zero_run groups → 2 ≤ run.1 → front ≡ [] → head ≡ front ++ groups_text (take run.0 groups) → middle ≡ head ++ (58 ∷ 58 ∷ []) → length groups ≡ 8 → text ≡ middle ++ groups_text (take (8 - (run.0 + run.1)) (drop (run.0 + run.1) groups)) → text ≡ written groups
written_long text head middle front groups run same long empty first second eight third =
    let n = run.0 + run.1 in
    let rest : take (8 - n) (drop n groups) ≡ drop n groups = subst (λ (m : ℕ). take (m - n) (drop n groups) ≡ drop n groups) eight (take_rest groups n) in
    let all : text ≡ groups_text (take run.0 groups) ++ (58 ∷ 58 ∷ []) ++ groups_text (drop n groups) = rw (third, second, first, empty, rest) refl in
    let P : ℕ × ℕ → Type 0 = λ p. text ≡ text_without groups p.0 p.1 in
    let test = le-ltb run.1 2 long in
    subst P same (rw test all)

-- what is written is canonical
pub canonical : (text groups : List ℕ) (a : ℕ) → groups ≡ groups_of a → text ≡ written groups → IsCanonical text (groups_of a)
canonical text groups a same e = subst (IsCanonical text) same (record {
  start = (longest_zero_run groups).0;
  count = (longest_zero_run groups).1;
  run = IsZeroRun-longest_zero_run groups;
  longest = λ s n h. (longest_zero_run_first groups s n h).0;
  first = λ s h. (longest_zero_run_first groups s _ h).1 refl;
  spelled = e;
})

-- and spells the address
pub spelled : (text groups : List ℕ) (a : ℕ) → a < 2 ^ 128 → groups ≡ groups_of a → text ≡ written groups → IsV6Text text a
spelled text groups a fits same e =
    let eight : length groups ≡ 8 = ap length same ∙ groups_length a in
    let small : AllSegments groups = subst AllSegments (sym same) (groups_fit a fits) in
    record {
      groups = groups;
      spelled = subst (λ t. AreEightGroups t groups) (sym e) (written_spelled groups eight small);
      value = groups_number a ∙ ap (number_from_digits (2 ^ 16)) (sym same);
    }

-- two canonical texts have `::` for the same run
pub one_text : (groups s t : List ℕ) → IsCanonical s groups → IsCanonical t groups → s ≡ t
one_text groups s t h k =
    let count : h.count ≡ k.count = omega (arith, k.longest h.start h.count h.run, h.longest k.start k.count k.run) in
    let at_h : IsZeroRun groups k.start h.count = subst (IsZeroRun groups k.start) (sym count) k.run in
    let at_k : IsZeroRun groups h.start k.count = subst (IsZeroRun groups h.start) count h.run in
    let start : h.start ≡ k.start = omega (arith, h.first k.start at_h, k.first h.start at_k) in
    h.spelled ∙ ap₂ (λ (x y : ℕ). text_without groups x y) start count ∙ sym k.spelled

-- a canonical text is what is written
pub canonical_spells : (text : List ℕ) (a : ℕ) → a < 2 ^ 128 → IsCanonical text (groups_of a) → IsV6Text text a
canonical_spells text a fits h =
    spelled text (groups_of a) a fits refl (one_text (groups_of a) text (written (groups_of a)) h (canonical _ (groups_of a) a refl refl))
