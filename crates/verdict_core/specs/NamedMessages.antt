-- Which rule a drop of an ICMPv6 message names. The order is that of docs/FORMATS.md, 'The order of the tests' (ours).
use Rattle.std.specs.Prelude.{◌≡◌, ℕ, ◌≤◌, ◌⊎◌, ◌↔◌, false, List, [], ◌∷◌, length, slice_index, Ok}
use Rattle.aftr_base.specs.declared.numbers.V6.{V6}
use Rattle.binding_rules.specs.Tables.{BindingTable}
use Rattle.binding_rules.specs.declared.binding.Want.{Want}
use Rattle.icmp_codec.specs.Message6.{Message6, icmp6_of}
use Rattle.icmp_errors.specs.Answers.{gets_answer}
use Rattle.icmp_relay.specs.Quotes.{TunnelQuote, quote_of}
use Rattle.ip_codec.specs.declared.items.Item.{Item}
use Rattle.ip_codec.specs.declared.rules.Rule.{Rule}
use Rattle.ip_codec.specs.declared.rules.Rule.TheVariants as rule
use Rattle.port_locate.specs.declared.keys.Key.TheVariants as key
use Rattle.verdict_core.specs.Access.{HasQuotedSender, IfMessage, IsOwner}
use Rattle.verdict_core.specs.Named.{IsDroppedBy, IsFirst}
use Rattle.verdict_core.specs.Owners.{IsSubscriberAddress}
use Rattle.verdict_core.specs.Verdicts.{quoted_destination}
use Rattle.verdict_core.specs.declared.verdicts.Verdict.{Verdict}

-- an error that the way of a tunnel packet can give: unreachable, too big, time exceeded, parameter problem (RFC 4443, section 3)
pub record IsTunnelError (message : List ℕ) : Type 0 where
  pub whole : 8 ≤ length message
  pub least : 1 ≤ slice_index message 0
  pub most : slice_index message 0 ≤ 4

-- the message is intact, and quotes a tunnel packet that the router sent
pub record QuotesOwn (t : BindingTable) (src dst : V6) (message : List ℕ) : Type 0 where
  pub error : Message6
  pub read : icmp6_of src.0 dst.0 message ≡ Ok error
  pub quote : TunnelQuote
  pub quoted : quote_of error.rest ≡ Ok quote
  pub from : quote.src6 ≡ t.softwire.aftr.0

-- the quoted packet went to the owner of its destination
pub record WentToOwner (t : BindingTable) (quote : TunnelQuote) : Type 0 where
  pub want : Want
  pub key : quoted_destination quote ≡ key.At want
  pub receiver : IsOwner t quote.inner.dst want quote.dst6

-- the quoted packet did not go to an owner, or came from an address of the table without an owner
abbrev pub LacksOwner : BindingTable → TunnelQuote → Type 0
LacksOwner t quote = (WentToOwner t quote → ⊥) ⊎ (IsSubscriberAddress t quote.inner.src × (HasQuotedSender t quote → ⊥))

-- What keeps a message: it is for another tunnel address; it is no error of a tunnel's way; it is damaged, or quotes no packet of the
-- router's; the quoted packet lacks an owner (RFC 7596, section 6.2); no error may be sent about it (RFC 1122, section 3.2.2). Every other
-- message is passed on, and counts as dropped for the rule 'relayed' (RFC 2473, section 8).
abbrev pub KeepsMessage : BindingTable → V6 → V6 → List ℕ → Rule → Type 0
KeepsMessage t src dst message rule.NotOurs = dst.0 ≡ t.softwire.aftr.0 → ⊥
KeepsMessage t src dst message rule.NotSoftwire = IsTunnelError message → ⊥
KeepsMessage t src dst message rule.RelayBad = QuotesOwn t src dst message → ⊥
KeepsMessage t src dst message rule.RelayNoBinding = (o : QuotesOwn t src dst message) × LacksOwner t o.quote
KeepsMessage t src dst message rule.RelayMute = (o : QuotesOwn t src dst message) × (gets_answer o.quote.inner ≡ false)
KeepsMessage t src dst message rule.Relayed = QuotesOwn t src dst message
KeepsMessage t src dst message _ = ⊥

abbrev pub message_order : List Rule
message_order = rule.NotOurs ∷ rule.NotSoftwire ∷ rule.RelayBad ∷ rule.RelayNoBinding ∷ rule.RelayMute ∷ rule.Relayed ∷ []

-- an ICMPv6 message is dropped by exactly the first rule that keeps it
abbrev pub NamesMessages : BindingTable → Item → Verdict → Type 0
NamesMessages t i v = IfMessage i (λ src dst message. (why : Rule) → IsDroppedBy v why ↔ IsFirst (KeepsMessage t src dst message) message_order why)
