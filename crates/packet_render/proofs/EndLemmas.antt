-- An error that is passed on into a tunnel goes to an owner.
use Rattle.std.proofs.Common.{ℕ}
use Rattle.aftr_base.specs.declared.numbers.V4.{V4}
use Rattle.binding_rules.proofs.Having.{owners_are_listed}
use Rattle.binding_rules.specs.Tables.{BindingTable, IsLawful}
use Rattle.ip_codec.specs.declared.items.Item.{Item}
use Rattle.ip_codec.specs.declared.items.Item.TheVariants as item
use Rattle.ip_codec.specs.declared.rules.Rule.{Rule}
use Rattle.packet_render.specs.Tunnels.{ErrorsReachOwners}
use Rattle.verdict_core.proofs.Items.{fine, some_verdict}
use Rattle.verdict_core.specs.Access.{RelaysOwn}
use Rattle.verdict_core.specs.Fitting.{Fits}
use Rattle.verdict_core.specs.Verdicts.{verdict_of}
use Rattle.verdict_core.specs.declared.verdicts.Path.{Path}
use Rattle.verdict_core.specs.declared.verdicts.Path.TheVariants as path
use Rattle.verdict_core.specs.declared.verdicts.Reply.{Reply}
use Rattle.verdict_core.specs.declared.verdicts.Reply.TheVariants as reply
use Rattle.verdict_core.specs.declared.verdicts.Verdict.{Verdict}
use Rattle.verdict_core.specs.declared.verdicts.Verdict.TheVariants as verdict
use Rattle.packet_render.proofs.ReplyLemmas.{quote_made}

relayed_end : (t : BindingTable) (i : Item) (why : Rule) (own : V4) (code mtu : ℕ) (way : Path) → Fits i (verdict.Drop why (reply.Relay own code mtu way)) →
    RelaysOwn t i (verdict.Drop why (reply.Relay own code mtu way)) → ErrorsReachOwners t i (verdict.Drop why (reply.Relay own code mtu way))
relayed_end t i why own code mtu path.Plain fits relays = tt
relayed_end t (item.Icmp6 src dst message) why own code mtu (path.Tunnel hop from to) fits relays =
    let about = relays.0 in
    let owner = relays.1.1.1.1 in (
      about.quote,
      (
        quote_made src dst message about.error about.quote about.read about.quoted,
        record {
          want = relays.1.1.0;
          asked = relays.1.1.1.0;
          binding = owner.binding;
          whose = owners_are_listed t.bindings (record { 0 = about.quote.inner.src }) relays.1.1.0 owner.binding owner.owner;
          ends = owner.ends;
        },
      ),
    )
relayed_end t (item.Up outer inner) why own code mtu (path.Tunnel hop from to) fits relays = absurd fits.0
relayed_end t (item.Down packet) why own code mtu (path.Tunnel hop from to) fits relays = absurd fits.0
relayed_end t (item.OtherIp6 dst) why own code mtu (path.Tunnel hop from to) fits relays = absurd fits.0
relayed_end t item.Held why own code mtu (path.Tunnel hop from to) fits relays = absurd fits.0
relayed_end t (item.Bad rule) why own code mtu (path.Tunnel hop from to) fits relays = absurd fits.0

by_reply : (t : BindingTable) (i : Item) (why : Rule) (told : Reply) → Fits i (verdict.Drop why told) → RelaysOwn t i (verdict.Drop why told) →
    ErrorsReachOwners t i (verdict.Drop why told)
by_reply t i why (reply.Relay own code mtu way) fits relays = relayed_end t i why own code mtu way fits relays
by_reply t i why reply.Silent fits relays = tt
by_reply t i why (reply.Unreachable own way) fits relays = tt
by_reply t i why (reply.TooBig own mtu way) fits relays = tt
by_reply t i why (reply.Exceeded own way) fits relays = tt
by_reply t i why (reply.Policy from to hop) fits relays = tt

by_verdict : (t : BindingTable) (i : Item) (v : Verdict) → Fits i v → RelaysOwn t i v → ErrorsReachOwners t i v
by_verdict t i (verdict.Drop why told) fits relays = by_reply t i why told fits relays
by_verdict t i (verdict.Outward mtu) fits relays = tt
by_verdict t i (verdict.Inward from to hop mtu back) fits relays = tt
by_verdict t i verdict.Held fits relays = tt

pub errors_reach_owners : (t : BindingTable) (i : Item) → IsLawful t → ErrorsReachOwners t i (verdict_of t i)
errors_reach_owners t i lawful =
    let is = fine t i (verdict_of t i) lawful (some_verdict t i) in
    by_verdict t i (verdict_of t i) is.fits is.relays
