-- The lines on who may send say the same as the relation: none of them is true exactly where the sender owns its source.
use Rattle.std.proofs.Common.{◌≡◌, ℕ, ◌==◌, true, List, ◌++◌, Option, None, Result, Ok, refl, ap, sym, ◌∙◌, subst}
use Rattle.std.proofs.lemmas.Bool.{eqb-true, eq-eqb}
use Rattle.aftr_base.specs.declared.numbers.V6.{V6}
use Rattle.binding_rules.specs.Tables.{BindingTable, IsLawful}
use Rattle.binding_rules.specs.declared.binding.Binding.{Binding}
use Rattle.binding_rules.specs.declared.settings.Softwire.{Softwire}
use Rattle.ip_codec.specs.Packet4.{Packet4, ip4_of}
use Rattle.ip_codec.specs.declared.items.Outer.{Outer}
use Rattle.ip_codec.specs.declared.packet4.Ip4Bad.{Ip4Bad}
use Rattle.port_locate.specs.Keys.{upstream_key}
use Rattle.port_locate.specs.declared.keys.Key.{Key}
use Rattle.port_locate.specs.declared.keys.Key.TheVariants as key
use Rattle.table_words.specs.Answers.{first_b4}
use Rattle.verdict_core.specs.Access.{Permits}
use Rattle.verdict_core.specs.Answers.{ends_at}
use Rattle.verdict_core.specs.Lines.{Line, verdict_in}
use Rattle.verdict_core.specs.Verdicts.{access_lines, owner_end, sender_lines, up_refusals}
use Rattle.verdict_core.proofs.Firsts.{or_true, so_behind}
use Rattle.verdict_core.proofs.Owned.{HasOwner, owner_of}

pub one_packet : (bytes : List ℕ) (p q : Packet4) → ip4_of bytes ≡ Ok p → ip4_of bytes ≡ Ok q → q ≡ p
one_packet bytes p q first second =
    let both : ◌≡◌ {A = Result Packet4 Ip4Bad} (Ok q) (Ok p) = sym second ∙ first in cc

-- where none of the lines is true, the sender owns what its packet comes from
pub sender_owner : (t : BindingTable) (outer : Outer) (p : Packet4) → IsLawful t → verdict_in (access_lines t outer p) ≡ None →
    HasOwner t p.src (upstream_key p) outer.src.0
sender_owner t outer p lawful none =
    owner_of t p.src (upstream_key p) outer.src.0 lawful
    (so_behind (access_lines t outer p) (ends_at (owner_end t p.src (upstream_key p)) outer.src.0) none (λ other. simp (other, or_true)))

pub may_send : (t : BindingTable) (outer : Outer) (inner : List ℕ) (p : Packet4) → IsLawful t → ip4_of inner ≡ Ok p →
    verdict_in (access_lines t outer p) ≡ None → Permits t outer inner
may_send t outer inner p lawful read none =
    let ours = so_behind (access_lines t outer p) (outer.dst.0 == t.softwire.aftr.0) none (λ other. simp (other, or_true)) in
    let owned = sender_owner t outer p lawful none in
    record {
      ours = eqb-true _ _ ours;
      packet = p;
      read = read;
      want = owned.want;
      key = owned.key;
      sender = owned.owner;
    }

-- the lines on who may send, by what the source asks for and the end of its owner's tunnel
abbrev asked : Softwire → Outer → Packet4 → Key → Option V6 → List Line
asked s outer p k end = up_refusals s outer p k ++ sender_lines s outer end

pub permitted_none : (t : BindingTable) (outer : Outer) (inner : List ℕ) (p : Packet4) → ip4_of inner ≡ Ok p → Permits t outer inner →
    verdict_in (access_lines t outer p) ≡ None
permitted_none t outer inner p read permitted = subst (λ (q : Packet4). verdict_in (access_lines t outer q) ≡ None) same none
  where
    same : permitted.packet ≡ p
    same = one_packet inner p permitted.packet read permitted.read

    ours : (outer.dst.0 == t.softwire.aftr.0) ≡ true
    ours = eq-eqb outer.dst.0 t.softwire.aftr.0 permitted.ours

    ends : (permitted.sender.binding.b4.0 == outer.src.0) ≡ true
    ends = eq-eqb permitted.sender.binding.b4.0 outer.src.0 permitted.sender.ends

    none : verdict_in (access_lines t outer permitted.packet) ≡ None
    none =
        ap (λ (k : Key). verdict_in (asked t.softwire outer permitted.packet k (owner_end t permitted.packet.src k))) permitted.key
        ∙ ap (λ (owners : List Binding). verdict_in (asked t.softwire outer permitted.packet (key.At permitted.want) (first_b4 owners))) permitted.sender.owner
        ∙ rw (ours, ends) refl
