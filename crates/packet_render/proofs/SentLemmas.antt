-- Lemmas on the packets of a verdict: which they are where a packet fits, and where it is cut.
use Rattle.std.proofs.Common.{◌≡◌, ℕ, ◌+◌, ◌<◌, ◌≤◌, ◌==◌, Bool, List, [], ◌∷◌, ◌++◌, length, drop, Ok, sym, ◌∙◌, ap, arith}
use Rattle.std.specs.Prelude.{if◌then◌else◌}
use Rattle.std.proofs.lemmas.Bool.{le-ltb, lt-ltb}
use Rattle.aftr_base.specs.declared.numbers.V6.{V6}
use Rattle.fragmenter.specs.Cutting.{pieces_of}
use Rattle.fragmenter.specs.Kept.{copied_of}
use Rattle.fragmenter.specs.Pieces4.{fragments4, piece_head, room_beside}
use Rattle.fragmenter.specs.Pieces6.{fragments6, with_rest}
use Rattle.ip_codec.specs.Packet4.{Packet4, header4, ip4_of, packet_len}
use Rattle.packet_render.specs.Pushed.{one_hop_on}
use Rattle.packet_render.specs.Sent.{inward, outward}
use Rattle.softwire_encap.specs.Passing.{lowered, passed}
use Rattle.ip_codec.specs.Packet6.{Packet6}
use Rattle.softwire_encap.specs.Tunnel.{tunnelled, with_body, wrapped}
use Rattle.softwire_encap.proofs.Laws.{like_old}

module _ (p : Packet4) (mtu : ℕ) (is : ip4_of (p.header ++ p.payload) ≡ Ok p) where
  pub passed-len : packet_len (passed p) ≡ packet_len p
  passed-len = ap (λ n. n + length p.payload) (like_old p is).header_len

  pub outward-whole : packet_len p ≤ mtu → outward mtu p ≡ lowered p ∷ []
  outward-whole fits =
      ap (λ (test : Bool). if test then fragments4 (passed p) mtu 0 else lowered p ∷ []) (le-ltb mtu (packet_len (passed p)) (omega (arith, passed-len)))

  -- of the header's bytes only the options count, and they stay
  same-pieces : fragments4 (passed p) mtu 0 ≡ fragments4 (one_hop_on p) mtu 0
  same-pieces =
      ap (λ (options : List ℕ).
      pieces_of (λ before. room_beside mtu (length (if before == 0 then options else copied_of options)))
      (λ before more part. header4 (piece_head (one_hop_on p) before more) (if before == 0 then options else copied_of options) (length part) ++ part)
      0 (drop 0 p.payload))
      (like_old p is).options

  pub outward-cut : mtu < packet_len p → outward mtu p ≡ fragments4 (one_hop_on p) mtu 0
  outward-cut long =
      ap (λ (test : Bool). if test then fragments4 (passed p) mtu 0 else lowered p ∷ []) (lt-ltb mtu (packet_len (passed p)) (omega (arith, passed-len)))
      ∙ same-pieces

  module _ (from to : V6) (hop number : ℕ) where
    pub wrapped-len : length (wrapped from to hop (lowered p)) ≡ 40 + packet_len p
    wrapped-len = omega (arith, (like_old p is).len)

    pub inward-whole : 40 + packet_len p ≤ mtu → inward from to hop mtu number p ≡ wrapped from to hop (lowered p) ∷ []
    inward-whole fits =
        ap (λ (test : Bool). if test then fragments6 (tunnelled from to hop (lowered p)) mtu number 0 else wrapped from to hop (lowered p) ∷ [])
        (le-ltb mtu (length (wrapped from to hop (lowered p))) (omega (arith, wrapped-len)))

    pub inward-cut : mtu < 40 + packet_len p → inward from to hop mtu number p ≡ fragments6 (tunnelled from to hop (lowered p)) mtu number 0
    inward-cut long =
        ap (λ (test : Bool). if test then fragments6 (tunnelled from to hop (lowered p)) mtu number 0 else wrapped from to hop (lowered p) ∷ [])
        (lt-ltb mtu (length (wrapped from to hop (lowered p))) (omega (arith, wrapped-len)))

-- the tunnel packet whose inner packet stands in two parts
pub tunnelled-parts : (from to : V6) (hop : ℕ) (view : Packet6) {first header : List ℕ} → view ≡ tunnelled from to hop first →
    ((rest : List ℕ) → with_body view (first ++ rest) ≡ tunnelled from to hop (first ++ rest)) → first ≡ header → (payload : List ℕ) →
    tunnelled from to hop (header ++ payload) ≡ with_rest view payload
tunnelled-parts from to hop view {first = first} {header = header} is longer header_is payload =
    sym (ap (λ (packet : Packet6). with_body view (packet.body ++ payload)) is ∙ (longer payload ∙ ap (λ (l : List ℕ). tunnelled from to hop (l ++ payload)) header_is))
