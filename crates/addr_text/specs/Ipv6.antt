-- The texts of an IPv6 address (RFC 4291, section 2.2). Its eight groups of sixteen bits stand in a text the highest first.
use Rattle.std.specs.Prelude.{◌≡◌, ℕ, ◌+◌, ◌-◌, ◌*◌, ◌^◌, ◌<◌, ◌≤◌, ◌⊎◌, Bool, true, false, List, [], ◌∷◌, ◌++◌, length, replicate, codes, IsTrue}
use Rattle.std.specs.Int.Digits.{number_from_digits}
use Rattle.std.specs.Str.Parse.{AllDigits, digits_value}
use Rattle.addr_text.specs.Ipv4.{IsV4Text}

-- one group: one to four hexadecimal digits of either case
pub record IsGroup (text : List ℕ) (group : ℕ) : Type 0 where
  pub digits : AllDigits 16 text
  pub some : 0 < length text
  pub most : length text ≤ 4
  pub value : group ≡ digits_value 16 text

-- Groups with colons between them; no group has no text. Where `dotted` holds, the text of an IPv4 address may stand for the
-- last two (form 3 of the section).
abbrev pub AreGroups : Bool → List ℕ → List ℕ → Type 0
AreGroups dotted text [] = text ≡ []
AreGroups dotted text (g ∷ []) = IsGroup text g
AreGroups dotted text (g ∷ h ∷ gs) =
    ((first rest : List ℕ) × (text ≡ first ++ (codes ":" ++ rest)) × IsGroup first g × AreGroups dotted rest (h ∷ gs))
    ⊎ (IsTrue dotted × (gs ≡ []) × (h < 2 ^ 16) × IsV4Text text (g * 2 ^ 16 + h))

-- `::` stands once for one zero group or more, so at most seven are written (form 2).
pub record IsCompressed (text groups : List ℕ) : Type 0 where
  pub before : List ℕ
  pub after : List ℕ
  pub front : List ℕ
  pub back : List ℕ
  pub spelled : text ≡ before ++ codes "::" ++ after
  pub front_groups : AreGroups false before front
  pub back_groups : AreGroups true after back
  pub most : length front + length back ≤ 7
  pub value : groups ≡ front ++ replicate (8 - length front - length back) 0 ++ back

-- the text writes these eight groups: each of them (form 1), or some with `::`
abbrev pub AreEightGroups : List ℕ → List ℕ → Type 0
AreEightGroups text groups = (AreGroups true text groups × (length groups ≡ 8)) ⊎ IsCompressed text groups

-- the text spells the address, whose digits in base 2 ^ 16 its groups are
pub record IsV6Text (text : List ℕ) (a : ℕ) : Type 0 where
  pub groups : List ℕ
  pub spelled : AreEightGroups text groups
  pub value : a ≡ number_from_digits (2 ^ 16) groups
