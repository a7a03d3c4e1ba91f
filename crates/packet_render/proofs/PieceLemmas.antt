-- Pieces are read back, and put together they are what was cut.
use Rattle.std.proofs.Common.{◌≡◌, ℕ, ◌≤◌, ◌+◌, ◌*◌, ◌/◌, ◌%◌, ◌<◌, ◌^◌, ◌==◌, inl, inr, Bool, true, false, List, [], ◌∷◌, length, drop, Ok, refl, sym, ◌∙◌, ap, subst, arith}
use Rattle.std.specs.Prelude.{if◌then◌else◌}
use Rattle.std.specs.List.{concat}
use Rattle.std.proofs.lemmas.Bool.{cases_lt}
use Rattle.std.proofs.lemmas.List.{length-append, length-drop}
use Rattle.fragmenter.proofs.KeptLemmas.{padded}
use Rattle.fragmenter.proofs.PieceLemmas.{cut-pieces4, cut-pieces6, few-options, length-piece4, rooms4}
use Rattle.fragmenter.specs.Cutting.{AreParts, IsPart, Room, are_there, packets_of}
use Rattle.fragmenter.specs.Kept.{copied_of}
use Rattle.fragmenter.specs.Pieces4.{options_at, piece4, piece_head, pieces4, room4}
use Rattle.fragmenter.specs.Pieces6.{piece6, pieces6, room6}
use Rattle.ip_codec.proofs.FieldLemmas.{big_endian-word_bytes}
use Rattle.ip_codec.proofs.Laws.{big_endian-bytes_high_first, ip4_of-header4}
use Rattle.ip_codec.specs.Packet4.{Packet4, flag_worth, header4, ip4_of, made4, packet_len}
use Rattle.ip_codec.specs.Packet6.{bytes6, made6}
use Rattle.ip_codec.specs.declared.packet6.Head6.{Head6}
use Rattle.packet_render.specs.WhatCame.{ArePieces4, ArePieces6, IsPiece4, IsPiece6}

-- a part that others follow has a whole number of units of 8 bytes
eight_next : (room : ℕ → Room) (before : ℕ) → (room before).middle % 8 ≡ 0 → (part : List ℕ) (rest : List (List ℕ)) →
    IsPart (room before) part (concat rest) → AreParts room (before + length part) rest → before % 8 ≡ 0 → are_there rest ≡ true → (before + length part) % 8 ≡ 0
eight_next room before middle part [] is fit eight there = absurd cc
eight_next room before middle part (next ∷ more) is fit eight there =
    elim (cases_lt (room before).last (length part + length (concat (next ∷ more)))) [
      | inl over ↦ omega (arith, is.middle over, middle, eight)
      | inr under ↦ absurd (omega (arith, (fit.0).some, length-append next (concat more), ap length (is.last under)))
    ]

-- a part has room
part_room : (r : Room) → r.middle ≤ r.last → (part after : List ℕ) → IsPart r part after → length part ≤ r.last
part_room r fits part after is =
    elim (cases_lt r.last (length part + length after)) [
      | inl over ↦ omega (arith, is.middle over, fits)
      | inr under ↦ omega (arith, under)
    ]

there_too : (made : ℕ → Bool → List ℕ → List ℕ) (before : ℕ) (parts : List (List ℕ)) → are_there (packets_of made before parts) ≡ are_there parts
there_too made before [] = refl
there_too made before (part ∷ rest) = refl

-- ---- IPv4
module _ (q : Packet4) (mtu : ℕ) (least : 576 ≤ mtu) (most : length q.header ≤ 60) (words : length q.header % 4 ≡ 0) (src : q.src < 2 ^ 32) (dst : q.dst < 2 ^ 32) where
  option_words : (before : ℕ) → length (options_at q before) % 4 ≡ 0
  option_words before = by_test (before == 0)
    where
      whole : length (drop 20 q.header) % 4 ≡ 0
      whole = omega (arith, words, length-drop 20 q.header)

      by_test : (b : Bool) → length (if b then drop 20 q.header else copied_of (drop 20 q.header)) % 4 ≡ 0
      by_test true = whole
      by_test false = (padded (drop 20 q.header) whole).whole_words

  abbrev piece_of : ℕ → Bool → List ℕ → Packet4
  piece_of before more part = made4 (piece_head q before more) (options_at q before) part

  piece_read : (before : ℕ) (more : Bool) (part : List ℕ) → before ≤ 65535 → ip4_of (piece4 q before more part) ≡ Ok (piece_of before more part)
  piece_read before more part small =
      ip4_of-header4 (piece_head q before more) (options_at q before) part src dst (omega (arith, small)) (option_words before) (few-options q before most words)

  is_piece : (before : ℕ) (more : Bool) (part after : List ℕ) → before % 8 ≡ 0 → IsPart (room4 q mtu before) part after → IsPiece4 q mtu before more (piece_of before more part)
  is_piece before more part after eight is = record {
    fits =
        omega (
          arith,
          part_room (room4 q mtu before) (omega arith) part after is,
          few-options q before most words,
          least,
          length-append (header4 (piece_head q before more) (options_at q before) (length part)) part,
          length-piece4 q before more part,
        );
    offset = omega (arith, eight);
    mf = refl;
    df = refl;
    tos = refl;
    id = refl;
    reserved = refl;
    ttl = refl;
    protocol = refl;
    src = refl;
    dst = refl;
    options = refl;
  }

  are_pieces : (before : ℕ) (parts : List (List ℕ)) → (are_there parts ≡ true → before % 8 ≡ 0) → before + length (concat parts) ≤ 65535 →
      AreParts (room4 q mtu) before parts → ArePieces4 q mtu before (concat parts) (packets_of (piece4 q) before parts)
  are_pieces before [] eight few fit = refl
  are_pieces before (part ∷ rest) eight few fit =
      let few_next : (before + length part) + length (concat rest) ≤ 65535 = omega (arith, few, length-append part (concat rest)) in
      let more = are_pieces (before + length part) rest (eight_next (room4 q mtu) before (omega arith) part rest fit.0 fit.1 (eight refl)) few_next fit.1 in
      let here = subst (λ (b : Bool). IsPiece4 q mtu before b (piece_of before (are_there rest) part)) (sym (there_too (piece4 q) (before + length part) rest))
      (is_piece before (are_there rest) part (concat rest) (eight refl) fit.0) in
      (piece_of before (are_there rest) part, (piece_read before (are_there rest) part (omega (arith, few)), (here, (concat rest, (refl, more)))))

  pub cut_pieces : (list : List (List ℕ)) → packet_len q ≤ 65535 → mtu < packet_len q → list ≡ pieces4 q mtu → ArePieces4 q mtu 0 q.payload list
  cut_pieces list few long is =
      let cut = (cut-pieces4 q mtu list (rooms4 q mtu least most words) is).cut long in
      let made = are_pieces 0 cut.parts (λ there. refl) (omega (arith, few, ap length cut.joined)) cut.fit in
      subst (λ (l : List (List ℕ)). ArePieces4 q mtu 0 q.payload l) (sym cut.packets)
      (subst (λ (l : List ℕ). ArePieces4 q mtu 0 l (packets_of (piece4 q) 0 cut.parts)) cut.joined made)

-- ---- IPv6
module _ (head : Head6) (body : List ℕ) (mtu id : ℕ) (least : 1280 ≤ mtu) where
  abbrev fragment : ℕ → Bool → List ℕ → List ℕ
  fragment before more part = piece6 (made6 head body) id before more part

  is_fragment : (before : ℕ) (more : Bool) (part after : List ℕ) → before % 8 ≡ 0 → IsPart (room6 mtu before) part after →
      IsPiece6 (bytes6 head body) mtu id before more (fragment before more part)
  is_fragment before more part after eight is = record {
    fits = omega (arith, part_room (room6 mtu before) (omega arith) part after is, least);
    first_word = refl;
    payload_length = refl;
    next_header = refl;
    hop_limit = refl;
    source = refl;
    destination = refl;
    carries = refl;
    unused = refl;
    place = big_endian-word_bytes (before / 8 * 8 + flag_worth more 1) ∙ ap (λ (n : ℕ). n + flag_worth more 1) (omega (arith, eight));
    identification = big_endian-bytes_high_first 4 id;
  }

  are_fragments : (before : ℕ) (parts : List (List ℕ)) → (are_there parts ≡ true → before % 8 ≡ 0) →
      AreParts (room6 mtu) before parts → ArePieces6 (bytes6 head body) mtu id before (concat parts) (packets_of fragment before parts)
  are_fragments before [] eight fit = refl
  are_fragments before (part ∷ rest) eight fit =
      let more = are_fragments (before + length part) rest (eight_next (room6 mtu) before (omega arith) part rest fit.0 fit.1 (eight refl)) fit.1 in
      let here = subst (λ (b : Bool). IsPiece6 (bytes6 head body) mtu id before b (fragment before (are_there rest) part))
      (sym (there_too fragment (before + length part) rest)) (is_fragment before (are_there rest) part (concat rest) (eight refl) fit.0) in
      (here, (concat rest, (refl, more)))

  pub tunnel_pieces : (list : List (List ℕ)) → mtu < length (bytes6 head body) → list ≡ pieces6 (bytes6 head body) (made6 head body) mtu id →
      ArePieces6 (bytes6 head body) mtu id 0 body list
  tunnel_pieces list long is =
      let cut = (cut-pieces6 (bytes6 head body) (made6 head body) mtu id list least is).cut long in
      let made = are_fragments 0 cut.parts (λ there. refl) cut.fit in
      subst (λ (l : List (List ℕ)). ArePieces6 (bytes6 head body) mtu id 0 body l) (sym cut.packets)
      (subst (λ (l : List ℕ). ArePieces6 (bytes6 head body) mtu id 0 l (packets_of fragment 0 cut.parts)) cut.joined made)
