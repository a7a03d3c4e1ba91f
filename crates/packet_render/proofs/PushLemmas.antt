-- Lemmas on packets that are recorded behind what a list holds.
use Rattle.std.proofs.Common.{◌≡◌, ℕ, ◌+◌, List, [], ◌∷◌, ◌++◌, length, flat_map, Option, Some, refl, sym, ◌∙◌, ap, subst, append_assoc, append-nil}
use Rattle.aftr_base.specs.Appended.{Extends}
use Rattle.capture_io.specs.Packets.{packet_bytes, packet_head, packet_tail}
use Rattle.capture_io.specs.declared.written.Written.{Written}
use Rattle.packet_render.specs.Pushed.{ArePushed}
use Rattle.packet_render.specs.Sent.{made_of}

regrouped : (out head packet tail : List ℕ) → ((out ++ head) ++ packet) ++ tail ≡ out ++ ((head ++ packet) ++ tail)
regrouped out head packet tail =
    ap (λ l. l ++ tail) (append_assoc out head packet) ∙ append_assoc out (head ++ packet) tail

-- what stands before a packet of this length, the packet, and what stands behind it
pub recorded : (form : Written) (seconds fraction len : ℕ) (out out1 out2 out3 packet : List ℕ) → length packet ≡ len →
    out1 ≡ out ++ packet_head form seconds fraction len → out2 ≡ out1 ++ packet → out3 ≡ out2 ++ packet_tail form len →
    out3 ≡ out ++ packet_bytes form seconds fraction packet
recorded form seconds fraction len out out1 out2 out3 packet len_is is1 is2 is3 =
    is3
    ∙ ap (λ l. l ++ packet_tail form len) (is2 ∙ ap (λ l. l ++ packet) is1)
    ∙ regrouped out (packet_head form seconds fraction len) packet (packet_tail form len)
    ∙ ap (λ n. out ++ (packet_head form seconds fraction n ++ packet ++ packet_tail form n)) (sym len_is)

-- one packet
pub one_pushed : (record_of : List ℕ → List ℕ) (packet out after : List ℕ) → after ≡ out ++ record_of packet →
    ArePushed record_of (packet ∷ []) out after 1
one_pushed record_of packet out after is = record {
  bytes = is ∙ ap (λ l. out ++ l) (sym (append-nil (record_of packet)));
  many = refl;
}

-- what is made of a value that is there
pub made_pushed : {A : Type 0} (record_of : List ℕ → List ℕ) (value : Option A) (x : A) (packets : A → List (List ℕ)) (out after : List ℕ) (count : ℕ) →
    value ≡ Some x → ArePushed record_of (packets x) out after count → ArePushed record_of (made_of value packets) out after count
made_pushed record_of value x packets out after count is pushed =
    subst (λ (ps : List (List ℕ)). ArePushed record_of ps out after count) (sym (ap (λ v. made_of v packets) is)) pushed

-- other packets that are the same
pub same_pushed : (record_of : List ℕ → List ℕ) (packets others : List (List ℕ)) (out after : List ℕ) (count : ℕ) →
    others ≡ packets → ArePushed record_of packets out after count → ArePushed record_of others out after count
same_pushed record_of packets others out after count same pushed =
    subst (λ (ps : List (List ℕ)). ArePushed record_of ps out after count) (sym same) pushed

-- some packets are recorded, and others are left
pub record IsUnderWay (record_of : List ℕ → List ℕ) (all left : List (List ℕ)) (start out : List ℕ) (count : ℕ) : Type 0 where
  pub bytes : out ++ flat_map record_of left ≡ start ++ flat_map record_of all
  pub many : count + length left ≡ length all

-- what two calls leave in front, one behind the other
extends_on : (old middle new : List ℕ) → Extends old middle → Extends middle new → Extends old new
extends_on old middle new first second =
    (first.0 ++ second.0, second.1 ∙ (ap (λ (l : List ℕ). l ++ second.0) first.1 ∙ append_assoc old first.0 second.0))

-- something was appended, then a packet, and a third call appended what it could
pub kept_after : (packet out out1 out2 out3 : List ℕ) → Extends out out1 → out2 ≡ out1 ++ packet → Extends out2 out3 → Extends out out3
kept_after packet out out1 out2 out3 first is more = extends_on out out1 out3 first (extends_on out1 out2 out3 (packet, is) more)

-- a second call appended nothing
pub kept_alone : (out out1 out2 : List ℕ) → Extends out out1 → out2 ≡ out1 → Extends out out2
kept_alone out out1 out2 first same = (first.0, same ∙ first.1)
