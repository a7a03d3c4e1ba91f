-- A lemma on an error that quotes a packet in one part.
use Rattle.std.proofs.Common.{◌≡◌, ℕ, List, [], ◌++◌, Result, Ok, Err, IfOk, Some, false, refl, subst}
use Rattle.std.proofs.lemmas.List.{append-nil}
use Rattle.aftr_base.specs.declared.numbers.V4.{V4}
use Rattle.icmp_codec.specs.Message4.{is_echo}
use Rattle.icmp_codec.specs.Quoted.{EmbeddedPacket, embedded_of}
use Rattle.icmp_errors.specs.Errors4.{TellsOf, error4}
use Rattle.icmp_relay.specs.Quotes.{inner_packet}
use Rattle.icmp_relay.specs.Relayed.{TellsInner, relayed}
use Rattle.icmp_relay.specs.declared.quotes.Quote.{Quote}

-- what is told of an error whose quote has an empty second part, and whose word is the size
pub told_in_one : {A E : Type 0} (r : Result A E) (own : V4) (code mtu word : ℕ) (q : Quote) → word ≡ mtu →
    IfOk r (λ _. is_echo 3 ≡ false → (quoted : EmbeddedPacket) → embedded_of (q.packet.now ++ []) ≡ Some quoted →
    TellsOf own q.src 3 code word (q.packet.now ++ []) quoted (error4 own q.src 3 code word (q.packet.now ++ []))) →
    IfOk r (λ _. TellsInner own code mtu q (relayed own code mtu q))
told_in_one (Ok x) own code mtu word q same told =
    let Told : List ℕ → ℕ → Type 0 = λ l w. embedded_of l ≡ Some (inner_packet q) →
    TellsOf own q.src 3 code w l (inner_packet q) (error4 own q.src 3 code w l) in
    let ByWord : ℕ → Type 0 = λ w. Told q.packet.now w in
    let ByList : List ℕ → Type 0 = λ l. Told l word in
    subst ByWord same (subst ByList (append-nil q.packet.now) (told refl (inner_packet q)))
told_in_one (Err e) own code mtu word q same told = tt
