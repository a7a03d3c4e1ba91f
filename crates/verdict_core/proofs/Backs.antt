-- Each line's answer goes back by the way that the packet came, and so does the one that decides.
use Rattle.std.proofs.Common.{◌≡◌, ℕ, ◌-◌, ◌≤◌, ◌==◌, ◌⊎◌, inl, inr, min, max, arith, ◌&&◌, Bool, true, false, if◌then◌else◌, List, [], ◌∷◌, ◌++◌, Option, Some, None, Result, Ok, Err, refl, subst}
use Rattle.aftr_base.specs.declared.numbers.V6.{V6}
use Rattle.binding_rules.specs.Tables.{BindingTable}
use Rattle.icmp_codec.specs.Message6.{Message6, icmp6_of}
use Rattle.icmp_codec.specs.declared.message4.IcmpBad.{IcmpBad}
use Rattle.icmp_relay.specs.Quotes.{TunnelQuote, quote_of}
use Rattle.icmp_relay.specs.declared.quotes.QuoteBad.{QuoteBad}
use Rattle.ip_codec.specs.Packet4.{Packet4, ip4_of}
use Rattle.ip_codec.specs.declared.items.Item.{Item}
use Rattle.ip_codec.specs.declared.items.Item.TheVariants as item
use Rattle.ip_codec.specs.declared.items.Outer.{Outer}
use Rattle.ip_codec.specs.declared.packet4.Ip4Bad.{Ip4Bad}
use Rattle.ip_codec.specs.declared.rules.Rule.{Rule}
use Rattle.ip_codec.specs.declared.rules.Rule.TheVariants as rule
use Rattle.port_locate.specs.Keys.{downstream_key}
use Rattle.icmp_errors.specs.Answers.{about, gets_answer, gets_answer6}
use Rattle.verdict_core.specs.Answers.{dropped, inward_room, no_owner, not_sender, relayed_mtu, time_exceeded, too_large, way_back}
use Rattle.verdict_core.specs.Back.{GoesBack, IsWayBack, RepliesBack}
use Rattle.verdict_core.specs.Lines.{Line, verdict_in}
use Rattle.verdict_core.specs.Verdicts.{down_lines, error_lines, is_bound_address, lines, owner_end, quote_lines, quoted_destination, quoted_source, up_lines, verdict_of, down_refusals, down_ways, hairpin_lines, outward_lines, quote_refusals, receiver_lines, relay_lines}
use Rattle.verdict_core.specs.declared.verdicts.Path.{Path}
use Rattle.verdict_core.specs.declared.verdicts.Path.TheVariants as path
use Rattle.verdict_core.specs.declared.verdicts.Reply.{Reply}
use Rattle.verdict_core.specs.declared.verdicts.Reply.TheVariants as reply
use Rattle.verdict_core.specs.declared.verdicts.Verdict.{Verdict}
use Rattle.verdict_core.proofs.Items.{some_verdict}

abbrev EachAnswer : (Verdict → Type 0) → List Line → Type 0
EachAnswer P [] = Unit {0}
EachAnswer P (line ∷ ls) = P line.answer × EachAnswer P ls

decides : (P : Verdict → Type 0) (ls : List Line) (v : Verdict) → EachAnswer P ls → verdict_in ls ≡ Some v → P v
decides P [] v each is = absurd cc
decides P (line ∷ ls) v each is = by_test line.test (λ e. decides P ls v each.1 e) is
  where
    by_test : (b : Bool) → (verdict_in ls ≡ Some v → P v) → (if b then Some line.answer else verdict_in ls) ≡ Some v → P v
    by_test true rest e = let this : line.answer ≡ v = cc in subst P this each.0
    by_test false rest e = rest e

each_appended : (P : Verdict → Type 0) (ls more : List Line) → EachAnswer P ls → EachAnswer P more → EachAnswer P (ls ++ more)
each_appended P [] more first second = second
each_appended P (line ∷ ls) more first second = (first.0, each_appended P ls more first.1 second)

module _ (t : BindingTable) (i : Item) where
  abbrev Back : Verdict → Type 0
  Back v = GoesBack t.softwire i v

  told_back : (why : Rule) (tells : Bool) (told : Reply) → RepliesBack t.softwire i told → Back (dropped why tells told)
  told_back why true told is = is
  told_back why false told is = tt

  no_owner_back : (why : Rule) (way : Path) (p : Packet4) → IsWayBack t.softwire i way → Back (no_owner t.softwire why way p)
  no_owner_back why way p is = told_back why (t.softwire.errors_down && gets_answer (about p)) (reply.Unreachable t.softwire.own way) (refl, is)

  expired_back : (way : Path) (p : Packet4) → IsWayBack t.softwire i way → Back (time_exceeded t.softwire way p)
  expired_back way p is = told_back rule.Ttl (gets_answer (about p)) (reply.Exceeded t.softwire.own way) (refl, is)

  too_large_back : (room : ℕ) (way : Path) (p : Packet4) → IsWayBack t.softwire i way → (room ≡ t.softwire.mtu6 - 40) ⊎ (room ≡ t.softwire.mtu4) → Back (too_large t.softwire room way p)
  too_large_back room way p is one = told_back rule.TooBig (gets_answer (about p)) (reply.TooBig t.softwire.own room way) (refl, (is, one))

sender_back : (t : BindingTable) (outer : Outer) (inner : List ℕ) → Back t (item.Up outer inner) (not_sender t.softwire outer)
sender_back t outer inner =
    told_back t (item.Up outer inner) rule.NoBinding (t.softwire.errors_up && gets_answer6 outer.src.0)
    (reply.Policy t.softwire.aftr outer.src t.softwire.hop_limit) (refl, (refl, refl))

down_back : (t : BindingTable) (bytes : List ℕ) (r : Result Packet4 Ip4Bad) → EachAnswer (Back t (item.Down bytes)) (down_lines t r)
down_back t bytes (Err why) = (tt, (tt, tt))
down_back t bytes (Ok p) = by_end (owner_end t p.dst (downstream_key p))
  where
    by_end : (end : Option V6) → EachAnswer (Back t (item.Down bytes)) (down_refusals t.softwire p (downstream_key p) ++ down_ways t.softwire p end)
    by_end None = (tt, (tt, (tt, (tt, (no_owner_back t (item.Down bytes) rule.NoBinding path.Plain p refl, (expired_back t (item.Down bytes) path.Plain p refl, (too_large_back t (item.Down bytes) (inward_room t.softwire) path.Plain p refl (inl refl), tt)))))))
    by_end (Some to) = (tt, (tt, (tt, (tt, (no_owner_back t (item.Down bytes) rule.NoBinding path.Plain p refl, (expired_back t (item.Down bytes) path.Plain p refl, (too_large_back t (item.Down bytes) (inward_room t.softwire) path.Plain p refl (inl refl), (tt, tt))))))))

up_back : (t : BindingTable) (outer : Outer) (inner : List ℕ) (r : Result Packet4 Ip4Bad) → EachAnswer (Back t (item.Up outer inner)) (up_lines t outer r)
up_back t outer inner (Err why) = (tt, (tt, (tt, tt)))
up_back t outer inner (Ok p) = (
  tt,
  (
    tt,
    (
      tt,
      (
        sender_back t outer inner,
        (expired_back t (item.Up outer inner) (way_back t.softwire outer) p refl, by_end (owner_end t p.dst (downstream_key p))),
      ),
    ),
  ),
)
  where
    by_end : (end : Option V6) → EachAnswer (Back t (item.Up outer inner)) (hairpin_lines t.softwire outer p (is_bound_address t p.dst) end ++ outward_lines t.softwire outer p)
    by_end None =
        (tt, (no_owner_back t (item.Up outer inner) rule.HairpinNoBinding (way_back t.softwire outer) p refl, (too_large_back t (item.Up outer inner) (inward_room t.softwire) (way_back t.softwire outer) p refl (inl refl), (tt, (too_large_back t (item.Up outer inner) t.softwire.mtu4 (way_back t.softwire outer) p refl (inr refl), (tt, tt))))))
    by_end (Some to) =
        (tt, (no_owner_back t (item.Up outer inner) rule.HairpinNoBinding (way_back t.softwire outer) p refl, (too_large_back t (item.Up outer inner) (inward_room t.softwire) (way_back t.softwire outer) p refl (inl refl), (tt, (tt, (too_large_back t (item.Up outer inner) t.softwire.mtu4 (way_back t.softwire outer) p refl (inr refl), (tt, tt)))))))

-- the size that an error tells fits 16 bits
size_small : (kind word : ℕ) → relayed_mtu kind word ≤ 65535
size_small kind word = by_test (kind == 2)
  where
    by_test : (b : Bool) → (if b then min (max word 1280) 65575 - 40 else 0) ≤ 65535
    by_test true = grind arith
    by_test false = omega arith

module _ (t : BindingTable) (src dst : V6) (message : List ℕ) where
  quote_back : (kind word : ℕ) (r : Result TunnelQuote QuoteBad) → EachAnswer (Back t (item.Icmp6 src dst message)) (quote_lines t kind word r)
  quote_back kind word (Err why) = (tt, tt)
  quote_back kind word (Ok q) = by_end (owner_end t q.inner.src (quoted_source q))
    where
      by_end : (end : Option V6) → EachAnswer (Back t (item.Icmp6 src dst message))
          (quote_refusals t.softwire q ++ (receiver_lines q (owner_end t q.inner.dst (quoted_destination q))
          ++ relay_lines t.softwire kind word q (is_bound_address t q.inner.src) end))
      by_end None = (tt, (tt, (tt, (tt, ((refl, size_small kind word), tt)))))
      by_end (Some to) = (tt, (tt, (tt, (tt, ((refl, size_small kind word), ((refl, size_small kind word), tt))))))

  error_back : (r : Result Message6 IcmpBad) → EachAnswer (Back t (item.Icmp6 src dst message)) (error_lines t r)
  error_back (Err why) = (tt, tt)
  error_back (Ok m) = quote_back m.kind m.word (quote_of m.rest)

each_back : (t : BindingTable) (i : Item) → EachAnswer (Back t i) (lines t i)
each_back t item.Held = (tt, tt)
each_back t (item.Bad why) = (tt, tt)
each_back t (item.Down bytes) = down_back t bytes (ip4_of bytes)
each_back t (item.Up outer inner) = up_back t outer inner (ip4_of inner)
each_back t (item.OtherIp6 dst) = (tt, (tt, tt))
each_back t (item.Icmp6 src dst message) = (tt, (tt, error_back t src dst message (icmp6_of src.0 dst.0 message)))

pub goes_back : (t : BindingTable) (i : Item) → GoesBack t.softwire i (verdict_of t i)
goes_back t i = decides (Back t i) (lines t i) (verdict_of t i) (each_back t i) (some_verdict t i)
