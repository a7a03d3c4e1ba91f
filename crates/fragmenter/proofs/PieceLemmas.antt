-- Lemmas on the pieces of packets: each packet has one list of them, and it is short.
use Rattle.std.proofs.Common.{◌≡◌, ℕ, ◌+◌, ◌%◌, ◌<◌, ◌≤◌, ◌==◌, Bool, true, false, List, [], ◌∷◌, ◌++◌, length, drop, nat_lt, Ok, refl, ◌∙◌, ap, subst, arith, append_assoc, append-nil}
use Rattle.std.specs.Prelude.{if◌then◌else◌, ◌↔◌}
use Rattle.std.proofs.lemmas.List.{length-drop, length-append}
use Rattle.std.proofs.lemmas.Bool.{ltb-false, ltb-true, lt-ltb, le-ltb}
use Rattle.ip_codec.specs.declared.packet4.Head4.{Head4}
use Rattle.ip_codec.specs.Packet4.{Packet4, packet_len, ip4_of, header4}
use Rattle.ip_codec.specs.Packet6.{Packet6, ip6_of}
use Rattle.fragmenter.specs.Cutting.{parts_within}
use Rattle.fragmenter.specs.Pieces4.{room4, piece4, Pieces4, pieces4, fragments4, options_at, piece_head}
use Rattle.fragmenter.specs.Pieces6.{room6, piece6, Pieces6, pieces6, fragments6, with_rest}
use Rattle.fragmenter.specs.Kept.{copied_of}
use Rattle.fragmenter.proofs.KeptLemmas.{padded}
use Rattle.fragmenter.proofs.CutLemmas.{AreRooms, one-cut, is-cut, few-parts, length-packets}

pub rooms6 : (mtu : ℕ) → 1280 ≤ mtu → AreRooms (room6 mtu)
rooms6 mtu least = record { least = λ k. omega arith; fits = λ k. omega arith }

-- the only list of pieces, by whether the packet fits
only6 : (bytes : List ℕ) (packet : Packet6) (mtu id : ℕ) (list : List (List ℕ)) (test : Bool) → 1280 ≤ mtu →
    nat_lt mtu (length bytes) ≡ test → Pieces6 bytes packet mtu id list →
    list ≡ (if test then fragments6 packet mtu id 0 else bytes ∷ [])
only6 bytes packet mtu id list true least long pieces =
    one-cut (room6 mtu) (rooms6 mtu least) (piece6 packet id) packet.body list (pieces.cut (ltb-true mtu (length bytes) long))
only6 bytes packet mtu id list false least short pieces = pieces.fits (ltb-false mtu (length bytes) short)

pub cut-pieces6 : (bytes : List ℕ) (packet : Packet6) (mtu id : ℕ) (list : List (List ℕ)) → 1280 ≤ mtu →
    list ≡ pieces6 bytes packet mtu id → Pieces6 bytes packet mtu id list
cut-pieces6 bytes packet mtu id list least is = record {
  fits = λ h. is ∙ ap (λ (t : Bool). if t then fragments6 packet mtu id 0 else bytes ∷ []) (le-ltb mtu (length bytes) h);
  cut = λ h. is-cut (room6 mtu) (rooms6 mtu least) (piece6 packet id) packet.body list
      (is ∙ ap (λ (t : Bool). if t then fragments6 packet mtu id 0 else bytes ∷ []) (lt-ltb mtu (length bytes) h));
}

pub one6 : (bytes : List ℕ) (packet : Packet6) (mtu id : ℕ) (list : List (List ℕ)) → 1280 ≤ mtu →
    Pieces6 bytes packet mtu id list ↔ (list ≡ pieces6 bytes packet mtu id)
one6 bytes packet mtu id list least =
    (λ pieces. only6 bytes packet mtu id list (nat_lt mtu (length bytes)) least refl pieces, cut-pieces6 bytes packet mtu id list least)

pub few6 : (packet : Packet6) (mtu id : ℕ) → 1280 ≤ mtu → length packet.body ≤ 65535 → length (fragments6 packet mtu id 0) ≤ 54
few6 packet mtu id least most =
    let few = few-parts (room6 mtu) (rooms6 mtu least) 1232 (length packet.body) 0 packet.body (omega arith) (λ k. omega arith) in
    omega (arith, few, length-packets (piece6 packet id) 0 (parts_within (length packet.body) (room6 mtu) 0 packet.body))

either : (test : Bool) (a b : List ℕ) (most : ℕ) → length a ≤ most → length b ≤ most → length (if test then a else b) ≤ most
either true a b most first second = first
either false a b most first second = second

-- the options of every piece have at most 40 bytes, in whole words
pub few-options : (packet : Packet4) (before : ℕ) → length packet.header ≤ 60 → length packet.header % 4 ≡ 0 → length (options_at packet before) ≤ 40
few-options packet before most words =
    let options = drop 20 packet.header in
    let small : length options ≤ 40 = omega (arith, length-drop 20 packet.header) in
    let whole : length options % 4 ≡ 0 = omega (arith, length-drop 20 packet.header) in
    let pads = padded options whole in
    either (before == 0) options (copied_of options) 40 small (omega (arith, pads.no_more, small))

pub rooms4 : (packet : Packet4) (mtu : ℕ) → 576 ≤ mtu → length packet.header ≤ 60 → length packet.header % 4 ≡ 0 → AreRooms (room4 packet mtu)
rooms4 packet mtu least most words = record {
  least = λ k. omega (arith, few-options packet k most words);
  fits = λ k. omega arith;
}

only4 : (packet : Packet4) (mtu : ℕ) (list : List (List ℕ)) (test : Bool) → AreRooms (room4 packet mtu) →
    nat_lt mtu (packet_len packet) ≡ test → Pieces4 packet mtu list →
    list ≡ (if test then fragments4 packet mtu 0 else (packet.header ++ packet.payload) ∷ [])
only4 packet mtu list true rooms long pieces =
    one-cut (room4 packet mtu) rooms (piece4 packet) packet.payload list (pieces.cut (ltb-true mtu (packet_len packet) long))
only4 packet mtu list false rooms short pieces = pieces.fits (ltb-false mtu (packet_len packet) short)

pub cut-pieces4 : (packet : Packet4) (mtu : ℕ) (list : List (List ℕ)) → AreRooms (room4 packet mtu) →
    list ≡ pieces4 packet mtu → Pieces4 packet mtu list
cut-pieces4 packet mtu list rooms is = record {
  fits = λ h. is ∙ ap (λ (t : Bool). if t then fragments4 packet mtu 0 else (packet.header ++ packet.payload) ∷ []) (le-ltb mtu (packet_len packet) h);
  cut = λ h. is-cut (room4 packet mtu) rooms (piece4 packet) packet.payload list
      (is ∙ ap (λ (t : Bool). if t then fragments4 packet mtu 0 else (packet.header ++ packet.payload) ∷ []) (lt-ltb mtu (packet_len packet) h));
}

pub one4 : (packet : Packet4) (mtu : ℕ) (list : List (List ℕ)) → 576 ≤ mtu → length packet.header ≤ 60 → length packet.header % 4 ≡ 0 →
    Pieces4 packet mtu list ↔ (list ≡ pieces4 packet mtu)
one4 packet mtu list least most words =
    let rooms = rooms4 packet mtu least most words in
    (λ pieces. only4 packet mtu list (nat_lt mtu (packet_len packet)) rooms refl pieces, cut-pieces4 packet mtu list rooms)

pub few4 : (packet : Packet4) (mtu : ℕ) → 576 ≤ mtu → length packet.header ≤ 60 → length packet.header % 4 ≡ 0 → 20 ≤ length packet.header →
    packet_len packet ≤ 65535 → length (fragments4 packet mtu 0) ≤ 128
few4 packet mtu least most words least_header most_bytes =
    let few = few-parts (room4 packet mtu) (rooms4 packet mtu least most words) 512 (length packet.payload) 0 packet.payload (omega arith)
    (λ k. omega (arith, few-options packet k most words)) in
    omega (arith, few, length-packets (piece4 packet) 0 (parts_within (length packet.payload) (room4 packet mtu) 0 packet.payload))

-- the pieces that a call cuts are those of the packet that the bytes spell
pub cut-read6 : (bytes : List ℕ) (view p : Packet6) (mtu id : ℕ) (list : List (List ℕ)) → 1280 ≤ mtu → ip6_of bytes ≡ Ok view →
    ip6_of bytes ≡ Ok p → mtu < length bytes → list ≡ fragments6 view mtu id 0 → Pieces6 bytes p mtu id list
cut-read6 bytes view p mtu id list least read also long is =
    let same : view ≡ p = cc in
    record {
      fits = λ h. absurd (omega arith);
      cut = λ h. is-cut (room6 mtu) (rooms6 mtu least) (piece6 p id) p.body list (is ∙ ap (λ (q : Packet6). fragments6 q mtu id 0) same);
    }

pub cut-read4 : (bytes : List ℕ) (view p : Packet4) (mtu : ℕ) (list : List (List ℕ)) → AreRooms (room4 view mtu) → ip4_of bytes ≡ Ok view →
    ip4_of bytes ≡ Ok p → mtu < packet_len view → list ≡ fragments4 view mtu 0 → Pieces4 p mtu list
cut-read4 bytes view p mtu list rooms read also long is =
    let same : view ≡ p = cc in
    let Cut : Packet4 → Type 0 = λ q. Pieces4 q mtu list in
    subst Cut same (record {
      fits = λ h. absurd (omega arith);
      cut = λ h. is-cut (room4 view mtu) rooms (piece4 view) view.payload list is;
    })

pub length-piece4 : (packet : Packet4) (before : ℕ) (more : Bool) (part : List ℕ) →
    length (piece4 packet before more part) ≡ 20 + length (options_at packet before) + length part
length-piece4 packet before more part = omega (arith, length-append (options_at packet before) part)

-- a header that was appended, and the part behind it
pub piece4-written : (out given part wanted first second : List ℕ) (packet : Packet4) (before : ℕ) (more : Bool) (head : Head4) →
    head ≡ piece_head packet before more → given ≡ options_at packet before → part ≡ wanted →
    first ≡ out ++ header4 head given (length part) → second ≡ first ++ part → second ≡ out ++ piece4 packet before more wanted
piece4-written out given part wanted first second packet before more head head_is given_is part_is a b =
    b ∙ ap (λ l. l ++ part) a ∙ append_assoc out (header4 head given (length part)) part
    ∙ (λ i. out ++ (header4 (head_is i) (given_is i) (length (part_is i)) ++ part_is i))

-- nothing stands behind the body
pub fragments-alone : (packet : Packet6) (mtu id : ℕ) → fragments6 (with_rest packet []) mtu id 0 ≡ fragments6 packet mtu id 0
fragments-alone packet mtu id = ap (λ (body : List ℕ). fragments6 (record packet { body = body }) mtu id 0) (append-nil packet.body)
