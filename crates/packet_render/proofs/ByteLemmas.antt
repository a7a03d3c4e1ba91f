-- A packet that is read from bytes has the numbers of bytes.
use Rattle.std.proofs.Common.{◌≡◌, ℕ, zero, suc, ◌≤◌, ◌<◌, ◌^◌, List, [], ◌∷◌, length, take, drop, slice_index, Ok, ap, arith}
use Rattle.std.proofs.lemmas.List.{length-take}
use Rattle.aftr_base.specs.Numbers.{big_endian, span}
use Rattle.ip_codec.proofs.Laws.{ip4_of-Ok, ip4_of-shaped}
use Rattle.ip_codec.specs.Packet4.{Packet4, header_len_of, ip4_of, total_len_of}
use Rattle.packet_render.specs.WhatCame.{AreBytes, IsOfBytes}

pub bytes_taken : (n : ℕ) (l : List ℕ) → AreBytes l → AreBytes (take n l)
bytes_taken zero l are = tt
bytes_taken (suc n) [] are = tt
bytes_taken (suc n) (b ∷ l) are = (are.0, bytes_taken n l are.1)

pub bytes_dropped : (n : ℕ) (l : List ℕ) → AreBytes l → AreBytes (drop n l)
bytes_dropped zero l are = are
bytes_dropped (suc n) [] are = tt
bytes_dropped (suc n) (b ∷ l) are = bytes_dropped n l are.1

two_bytes : (l : List ℕ) → AreBytes l → length l ≤ 2 → big_endian l ≤ 65535
two_bytes [] are few = omega arith
two_bytes (a ∷ []) are few = omega (arith, are.0)
two_bytes (a ∷ b ∷ []) are few = omega (arith, are.0, are.1.0)
two_bytes (a ∷ b ∷ c ∷ l) are few = absurd (omega (arith, few))

pub four_bytes : (l : List ℕ) → AreBytes l → length l ≤ 4 → big_endian l < 2 ^ 32
four_bytes [] are few = omega arith
four_bytes (a ∷ []) are few = omega (arith, are.0)
four_bytes (a ∷ b ∷ []) are few = omega (arith, are.0, are.1.0)
four_bytes (a ∷ b ∷ c ∷ []) are few = omega (arith, are.0, are.1.0, are.1.1.0)
four_bytes (a ∷ b ∷ c ∷ d ∷ []) are few = omega (arith, are.0, are.1.0, are.1.1.0, are.1.1.1.0)
four_bytes (a ∷ b ∷ c ∷ d ∷ e ∷ l) are few = absurd (omega (arith, few))

second_byte : (l : List ℕ) → AreBytes l → slice_index l 1 ≤ 255
second_byte [] are = omega arith
second_byte (a ∷ []) are = omega arith
second_byte (a ∷ b ∷ l) are = are.1.0

pub of_bytes : (bytes : List ℕ) (p : Packet4) → AreBytes bytes → ip4_of bytes ≡ Ok p → IsOfBytes p
of_bytes bytes p are read =
    let spelt = ip4_of-Ok bytes p read in
    let shaped = ip4_of-shaped bytes p read in
    let header = take (header_len_of bytes) bytes in
    let is = bytes_taken (header_len_of bytes) bytes are in
    let src_is : p.src ≡ big_endian (span header 12 4) = ap (λ (q : Packet4). q.src) spelt.is in
    let dst_is : p.dst ≡ big_endian (span header 16 4) = ap (λ (q : Packet4). q.dst) spelt.is in
    let tos_is : p.tos ≡ slice_index header 1 = ap (λ (q : Packet4). q.tos) spelt.is in
    let src : big_endian (span header 12 4) < 2 ^ 32 =
    four_bytes (span header 12 4) (bytes_taken 4 (drop 12 header) (bytes_dropped 12 header is)) (omega (arith, length-take 4 (drop 12 header))) in
    let dst : big_endian (span header 16 4) < 2 ^ 32 =
    four_bytes (span header 16 4) (bytes_taken 4 (drop 16 header) (bytes_dropped 16 header is)) (omega (arith, length-take 4 (drop 16 header))) in
    let total : total_len_of bytes ≤ 65535 =
    two_bytes (span bytes 2 2) (bytes_taken 2 (drop 2 bytes) (bytes_dropped 2 bytes are)) (omega (arith, length-take 2 (drop 2 bytes))) in
    record {
      tos = omega (arith, tos_is, second_byte header is);
      src = omega (arith, src_is, src);
      dst = omega (arith, dst_is, dst);
      most = omega (arith, shaped.total_len, total);
    }
