-- The texts of IPv6 addresses are those that std's grammar reads.
use Rattle.std.proofs.Common.{◌≡◌, ℕ, ◌+◌, ◌*◌, ◌/◌, ◌%◌, ◌^◌, ◌<◌, ◌↔◌, inl, inr, Bool, true, false, List, [], ◌∷◌, ◌++◌, Ok, Result, length, get_or, drop, refl, sym, ap, ap₂, ◌∙◌, subst, arith, append-nil}
use Rattle.std.specs.Int.Digits.{number_from_digits}
use Rattle.std.specs.Net.Grammar as std
use Rattle.std.specs.Net.Addr.{ipv6_segments, segments_of}
use Rattle.std.proofs.NetLemmas.Theorems.{IsIpv6Text_unique}
use Rattle.aftr_base.specs.declared.numbers.V6.{V6}
use Rattle.addr_text.specs.Ipv4.{IsV4Text}
use Rattle.addr_text.specs.Ipv6.{IsGroup, AreGroups, AreEightGroups, IsV6Text}
use Rattle.addr_text.proofs.Bytes.{bytes_of, to_dotted, from_dotted}

to_group : (text : List ℕ) (g : ℕ) → IsGroup text g → std.IsGroup text g
to_group text g h = (((h.some, h.digits), sym h.value), h.most)

from_group : (text : List ℕ) (g : ℕ) → std.IsGroup text g → IsGroup text g
from_group text g h = record { digits = h.0.0.1; some = h.0.0.0; most = h.1; value = sym h.0.1 }

-- groups behind a colon, and the same groups with none before them
after_colon : (d : Bool) (text : List ℕ) (g : ℕ) (gs : List ℕ) → std.IsGroupsAfter d (58 ∷ []) text (g ∷ gs) → (rest : List ℕ) × (text ≡ 58 ∷ rest) × std.IsGroups d rest (g ∷ gs)
after_colon d text g gs (inl (first, rest, e, h, more)) = (first ++ rest, e, inl (first, rest, refl, h, more))
after_colon d text g gs (inr (last, octets, t, e, h, same)) = (last, e, inr (last, octets, t, refl, h, same))

behind_colon : (d : Bool) (rest : List ℕ) (g : ℕ) (gs : List ℕ) → std.IsGroups d rest (g ∷ gs) → std.IsGroupsAfter d (58 ∷ []) (58 ∷ rest) (g ∷ gs)
behind_colon d text g gs (inl (first, rest, e, h, more)) = inl (first, rest, ap (λ t. 58 ∷ t) e, h, more)
behind_colon d text g gs (inr (last, octets, t, e, h, same)) = inr (last, octets, t, ap (λ t. 58 ∷ t) e, h, same)

-- the two groups of an IPv4 text
from_pair : (text octets : List ℕ) (g h : ℕ) (gs : List ℕ) → std.IsDotted text octets → g ∷ h ∷ gs ≡ segments_of octets → (gs ≡ []) × (h < 2 ^ 16) × IsV4Text text (g * 2 ^ 16 + h)
from_pair text octets g h gs d same =
    let both : g ∷ h ∷ gs ≡ (d.a * 256 + d.b) ∷ (d.c * 256 + d.d) ∷ [] = same ∙ ap segments_of d.value in
    let high : g ≡ d.a * 256 + d.b = ap (λ t. get_or t 0 0) both in
    let low : h ≡ d.c * 256 + d.d = ap (λ t. get_or t 1 0) both in
    let number : number_from_digits 256 octets ≡ g * 2 ^ 16 + h = ap (number_from_digits 256) d.value ∙ omega arith in
    (ap (λ t. drop 2 t) both, omega (arith, d.fit), subst (IsV4Text text) number (from_dotted text octets d))

to_pair : (text : List ℕ) (g h : ℕ) → h < 2 ^ 16 → IsV4Text text (g * 2 ^ 16 + h) → g ∷ h ∷ [] ≡ segments_of (bytes_of (g * 2 ^ 16 + h))
to_pair text g h small v =
    let n = g * 2 ^ 16 + h in
    let high : g ≡ n / 2 ^ 24 * 256 + n / 2 ^ 16 % 256 = omega (arith, v.fits) in
    let low : h ≡ n / 2 ^ 8 % 256 * 256 + n % 256 = omega (arith, v.fits) in
    ap₂ (λ (x y : ℕ). x ∷ y ∷ []) high low

not_one : (text octets : List ℕ) (g : ℕ) → std.IsDotted text octets → g ∷ [] ≡ segments_of octets → ⊥
not_one text octets g d same =
    let both : g ∷ [] ≡ (d.a * 256 + d.b) ∷ (d.c * 256 + d.d) ∷ [] = same ∙ ap segments_of d.value in
    let lengths : 1 ≡ 2 = ap length both in
    omega (arith, lengths)

pub from_groups : (d : Bool) (text gs : List ℕ) → std.IsGroups d text gs → AreGroups d text gs
from_groups d text [] h = h
from_groups d text (g ∷ []) (inl (first, rest, e, h, none)) =
    let same : text ≡ first = e ∙ ap (λ t. first ++ t) none ∙ append-nil first in
    subst (λ t. IsGroup t g) (sym same) (from_group first g h)
from_groups d text (g ∷ []) (inr (last, octets, t, e, h, same)) = absurd (not_one last octets g h same)
from_groups d text (g ∷ h ∷ gs) (inl (first, rest, e, isg, more)) =
    let (tail, split, groups) = after_colon d rest h gs more in
    inl (first, tail, e ∙ ap (λ t. first ++ t) split, from_group first g isg, from_groups d tail (h ∷ gs) groups)
from_groups d text (g ∷ h ∷ gs) (inr (last, octets, t, e, v, same)) =
    let (none, small, pair) = from_pair last octets g h gs v same in
    inr (t, none, small, subst (λ x. IsV4Text x (g * 2 ^ 16 + h)) (sym e) pair)

pub to_groups : (d : Bool) (text gs : List ℕ) → AreGroups d text gs → std.IsGroups d text gs
to_groups d text [] h = h
to_groups d text (g ∷ []) h = inl (text, [], sym (append-nil text), to_group text g h, refl)
to_groups d text (g ∷ h ∷ gs) (inl (first, rest, e, isg, more)) =
    inl (first, 58 ∷ rest, e, to_group first g isg, behind_colon d rest h gs (to_groups d rest (h ∷ gs) more))
to_groups d text (g ∷ h ∷ gs) (inr (t, none, small, v)) =
    inr (text, bytes_of (g * 2 ^ 16 + h), t, refl, to_dotted text _ v, ap (λ xs. g ∷ h ∷ xs) none ∙ to_pair text g h small v)

pub from_colon_hex : (text gs : List ℕ) → std.IsColonHex text gs → AreEightGroups text gs
from_colon_hex text gs (inl (all, eight)) = inl (from_groups true text gs all, eight)
from_colon_hex text gs (inr h) = inr (record {
  before = h.head_text;
  after = h.tail_text;
  front = h.head;
  back = h.tail;
  spelled = h.spelled;
  front_groups = from_groups false _ _ h.head_groups;
  back_groups = from_groups true _ _ h.tail_groups;
  most = omega (arith, h.room);
  value = h.value;
})

pub to_colon_hex : (text gs : List ℕ) → AreEightGroups text gs → std.IsColonHex text gs
to_colon_hex text gs (inl (all, eight)) = inl (to_groups true text gs all, eight)
to_colon_hex text gs (inr h) = inr (record {
  head_text = h.before;
  tail_text = h.after;
  head = h.front;
  tail = h.back;
  spelled = h.spelled;
  head_groups = to_groups false _ _ h.front_groups;
  tail_groups = to_groups true _ _ h.back_groups;
  room = omega (arith, h.most);
  value = h.value;
})

-- a text spells the groups of one address at most
one_eight : (text xs ys : List ℕ) → AreEightGroups text xs → AreEightGroups text ys → xs ≡ ys
one_eight text xs ys h k = ap ipv6_segments (IsIpv6Text_unique text (record { segments = xs }) (record { segments = ys }) (to_colon_hex text xs h) (to_colon_hex text ys k))

-- a text spells one address at most
pub one_v6 : (text : List ℕ) (a b : ℕ) → IsV6Text text a → IsV6Text text b → a ≡ b
one_v6 text a b h k = h.value ∙ ap (number_from_digits (2 ^ 16)) (one_eight text h.groups k.groups h.spelled k.spelled) ∙ sym k.value

module _ {E : Type 0} where
  pub v6_found : (text : List ℕ) (n : ℕ) → IsV6Text text n → (a : ℕ) → (◌≡◌ {A = Result V6 E} (Ok (record { 0 = n })) (Ok (record { 0 = a }))) ↔ IsV6Text text a
  v6_found text n h a = (
    λ e.
        let whole : ◌≡◌ {A = V6} (record { 0 = n }) (record { 0 = a }) = cc in
        let same : n ≡ a = ap (λ (x : V6). x.0) whole in
        subst (IsV6Text text) same h,
    λ k. let same : n ≡ a = one_v6 text n a h k in cc,
  )
