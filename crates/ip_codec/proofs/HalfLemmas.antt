-- A number of 16 bytes is that of its first eight and that of its last eight.
use Rattle.std.proofs.Common.{◌≡◌, ◌<◌, ◌+◌, ◌*◌, ◌/◌, ◌%◌, ℕ, List, [], ◌∷◌, ◌++◌, ap, ◌∙◌, arith}
use Rattle.std.specs.Int.{w64, w128, swap_bytes, to_be_bytes, to_le_bytes}
use Rattle.std.proofs.Math.Nat.{div-div-eq-div-mul}
use borrow.Rule.Slice.PartMut.{put_mid}

abbrev half : ℕ
half = 18446744073709551616

high : (n m : ℕ) → n / half / m % 256 ≡ n / (half * m) % 256
high n m = ap (λ (k : ℕ). k % 256) (div-div-eq-div-mul n half m)

low0 : (n : ℕ) → n % half % 256 ≡ n % 256
low0 n = omega arith

low1 : (n : ℕ) → n % half / 256 % 256 ≡ n / 256 % 256
low1 n = omega arith

low2 : (n : ℕ) → n % half / 65536 % 256 ≡ n / 65536 % 256
low2 n = omega arith

low3 : (n : ℕ) → n % half / 16777216 % 256 ≡ n / 16777216 % 256
low3 n = omega arith

low4 : (n : ℕ) → n % half / 4294967296 % 256 ≡ n / 4294967296 % 256
low4 n = omega arith

low5 : (n : ℕ) → n % half / 1099511627776 % 256 ≡ n / 1099511627776 % 256
low5 n = omega arith

low6 : (n : ℕ) → n % half / 281474976710656 % 256 ≡ n / 281474976710656 % 256
low6 n = omega arith

low7 : (n : ℕ) → n % half / 72057594037927936 % 256 ≡ n / 72057594037927936 % 256
low7 n = omega arith

whole : (n : ℕ) → to_be_bytes w64 (n / half) ++ to_be_bytes w64 (n % half) ≡ to_be_bytes w128 n
whole n = λ i. high n 72057594037927936 i ∷ high n 281474976710656 i ∷ high n 1099511627776 i ∷ high n 4294967296 i ∷ high n 16777216 i ∷ high n 65536 i ∷ high n 256 i ∷ (n / half % 256) ∷ low7 n i ∷ low6 n i ∷ low5 n i ∷ low4 n i ∷ low3 n i ∷ low2 n i ∷ low1 n i ∷ low0 n i ∷ []

pub halves : (n : ℕ) (x y : List ℕ) → x ≡ to_be_bytes w64 (n / half) → y ≡ to_be_bytes w64 (n % half) →
    put_mid 8 8 (x ++ 0 ∷ 0 ∷ 0 ∷ 0 ∷ 0 ∷ 0 ∷ 0 ∷ 0 ∷ []) y ≡ to_be_bytes w128 n
halves n x y first last =
    ap (λ (l : List ℕ). put_mid 8 8 (l ++ 0 ∷ 0 ∷ 0 ∷ 0 ∷ 0 ∷ 0 ∷ 0 ∷ 0 ∷ []) y) first
    ∙ (ap (λ (l : List ℕ). put_mid 8 8 (to_be_bytes w64 (n / half) ++ 0 ∷ 0 ∷ 0 ∷ 0 ∷ 0 ∷ 0 ∷ 0 ∷ 0 ∷ []) l) last ∙ whole n)

-- A number of eight bytes, the first of them the highest, and the bytes of it.
abbrev number : ℕ → ℕ → ℕ → ℕ → ℕ → ℕ → ℕ → ℕ → ℕ
number a b c d e f g h =
    a * 72057594037927936 + b * 281474976710656 + c * 1099511627776 + d * 4294967296 + e * 16777216 + f * 65536 + g * 256 + h

byte0 : (a b c d e f g h : ℕ) → h < 256 → number a b c d e f g h % 256 ≡ h
byte0 a b c d e f g h h_small = omega arith

byte1 : (a b c d e f g h : ℕ) → g < 256 → h < 256 → number a b c d e f g h / 256 % 256 ≡ g
byte1 a b c d e f g h g_small h_small = omega arith

byte2 : (a b c d e f g h : ℕ) → f < 256 → g < 256 → h < 256 → number a b c d e f g h / 65536 % 256 ≡ f
byte2 a b c d e f g h f_small g_small h_small = omega arith

byte3 : (a b c d e f g h : ℕ) → e < 256 → f < 256 → g < 256 → h < 256 → number a b c d e f g h / 16777216 % 256 ≡ e
byte3 a b c d e f g h e_small f_small g_small h_small = omega arith

byte4 : (a b c d e f g h : ℕ) → d < 256 → e < 256 → f < 256 → g < 256 → h < 256 → number a b c d e f g h / 4294967296 % 256 ≡ d
byte4 a b c d e f g h d_small e_small f_small g_small h_small = omega arith

byte5 : (a b c d e f g h : ℕ) → c < 256 → d < 256 → e < 256 → f < 256 → g < 256 → h < 256 → number a b c d e f g h / 1099511627776 % 256 ≡ c
byte5 a b c d e f g h c_small d_small e_small f_small g_small h_small = omega arith

byte6 : (a b c d e f g h : ℕ) → b < 256 → c < 256 → d < 256 → e < 256 → f < 256 → g < 256 → h < 256 → number a b c d e f g h / 281474976710656 % 256 ≡ b
byte6 a b c d e f g h b_small c_small d_small e_small f_small g_small h_small = omega arith

byte7 : (a b c d e f g h : ℕ) → a < 256 → b < 256 → c < 256 → d < 256 → e < 256 → f < 256 → g < 256 → h < 256 → number a b c d e f g h / 72057594037927936 % 256 ≡ a
byte7 a b c d e f g h a_small b_small c_small d_small e_small f_small g_small h_small = omega arith

turned : (a b c d e f g h : ℕ) → a < 256 → b < 256 → c < 256 → d < 256 → e < 256 → f < 256 → g < 256 → h < 256 →
    to_le_bytes w64 (number a b c d e f g h) ≡ h ∷ g ∷ f ∷ e ∷ d ∷ c ∷ b ∷ a ∷ []
turned a b c d e f g h a_small b_small c_small d_small e_small f_small g_small h_small =
    λ i. byte0 a b c d e f g h h_small i
    ∷ byte1 a b c d e f g h g_small h_small i
    ∷ byte2 a b c d e f g h f_small g_small h_small i
    ∷ byte3 a b c d e f g h e_small f_small g_small h_small i
    ∷ byte4 a b c d e f g h d_small e_small f_small g_small h_small i
    ∷ byte5 a b c d e f g h c_small d_small e_small f_small g_small h_small i
    ∷ byte6 a b c d e f g h b_small c_small d_small e_small f_small g_small h_small i
    ∷ byte7 a b c d e f g h a_small b_small c_small d_small e_small f_small g_small h_small i
    ∷ []

-- What a number of eight bytes, turned round, has first is its last byte.
pub half-turned : (n : ℕ) → to_le_bytes w64 (swap_bytes w64 n) ≡ to_be_bytes w64 n
half-turned n =
    turned (n % 256) (n / 256 % 256) (n / 65536 % 256) (n / 16777216 % 256) (n / 4294967296 % 256) (n / 1099511627776 % 256)
    (n / 281474976710656 % 256) (n / 72057594037927936 % 256) (omega arith) (omega arith) (omega arith) (omega arith) (omega arith) (omega arith)
    (omega arith) (omega arith)
