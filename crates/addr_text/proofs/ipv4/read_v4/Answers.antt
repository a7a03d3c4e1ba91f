use Rattle.std.proofs.Common.{refl, sym, subst, ◌∙◌}
use Rattle.addr_text.specs.Ipv4.{IsV4Text}
use Rattle.addr_text.proofs.Bytes.{bytes_of, to_dotted, from_dotted, v4_number, v4_found}
use Rattle.addr_text.proofs.ipv4.read_v4.Goals as goal
use Rattle.addr_text.proofs.ipv4.read_v4.Goals.{After-to_bits}

spelled : (c : After-to_bits) → IsV4Text c.args.text.now c.to_bits.result
spelled c = subst (IsV4Text c.args.text.now) (sym (c.to_bits.ensures ∙ v4_number c.args.text.now c.in-Ok.address c.in-Ok.ensures.value)) (from_dotted _ _ c.in-Ok.ensures.value)

pub returns-in-Ok-clause-spelled : goal.returns-in-Ok-clause-spelled
returns-in-Ok-clause-spelled c = v4_found c.args.text.now _ (spelled c)

pub returns-in-Ok-clause-bad : goal.returns-in-Ok-clause-bad
returns-in-Ok-clause-bad c = (λ e. absurd cc, λ none. absurd (none _ (spelled c)))

pub returns-in-Err-clause-spelled : goal.returns-in-Err-clause-spelled
returns-in-Err-clause-spelled c a = (λ e. absurd cc, λ h. absurd (c.in-Err.ensures.value (record { octets = bytes_of a }) (to_dotted _ a h)))

pub returns-in-Err-clause-bad : goal.returns-in-Err-clause-bad
returns-in-Err-clause-bad c = (λ _ a h. c.in-Err.ensures.value (record { octets = bytes_of a }) (to_dotted _ a h), λ _. refl)
