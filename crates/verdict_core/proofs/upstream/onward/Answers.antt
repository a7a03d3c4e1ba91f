use Rattle.std.proofs.Common.{◌≡◌, ◌++◌, true, false, Some, None, refl, sym, subst, ◌∙◌}
use Rattle.binding_rules.specs.declared.settings.Softwire.{Softwire}
use Rattle.ip_codec.specs.Packet4.{Packet4, packet4}
use Rattle.ip_codec.specs.declared.items.Outer.{Outer}
use Rattle.table_words.specs.Answers.{has_binding, tunnel_of}
use Rattle.table_words.specs.declared.destination.Destination.{Destination}
use Rattle.verdict_core.specs.Lines.{verdict_in}
use Rattle.verdict_core.specs.Verdicts.{hairpin_lines, outward_lines}
use Rattle.verdict_core.specs.declared.verdicts.Verdict.{Verdict}
use Rattle.verdict_core.proofs.Firsts.{decided_before, decided_behind}
use Rattle.verdict_core.proofs.upstream.onward.Goals as goal

-- what decides by a destination
abbrev Led : Softwire → Outer → Packet4 → Verdict → Destination → Type 0
Led s outer p v d = verdict_in (hairpin_lines s outer p (has_binding d) (tunnel_of d) ++ outward_lines s outer p) ≡ Some v

pub returns-in-Unbound : goal.returns-in-Unbound
returns-in-Unbound c =
    let s = c.args.settings.now in
    let p = packet4 c.args.packet.now in
    subst (Led s c.args.outer.now p c.outward.new.verdict) (sym c.in-Unbound.is)
    (decided_behind (hairpin_lines s c.args.outer.now p false None) (outward_lines s c.args.outer.now p) refl ∙ c.outward.ensures)

pub returns-in-Unowned : goal.returns-in-Unowned
returns-in-Unowned c =
    let s = c.args.settings.now in
    let p = packet4 c.args.packet.now in
    subst (Led s c.args.outer.now p c.hairpin_unowned.new.verdict) (sym c.in-Unowned.is)
    (decided_before (hairpin_lines s c.args.outer.now p true None) (outward_lines s c.args.outer.now p) c.hairpin_unowned.new.verdict c.hairpin_unowned.ensures)

pub returns-in-Owned : goal.returns-in-Owned
returns-in-Owned c =
    let s = c.args.settings.now in
    let p = packet4 c.args.packet.now in
    subst (Led s c.args.outer.now p c.hairpin_owned.new.verdict) (sym c.in-Owned.is)
    (decided_before (hairpin_lines s c.args.outer.now p true (Some c.in-Owned.to)) (outward_lines s c.args.outer.now p) c.hairpin_owned.new.verdict c.hairpin_owned.ensures)
