use Rattle.std.proofs.Common.{refl, ap, ◌∙◌, ◌^◌}
use Rattle.std.specs.Int.Digits.{number_from_digits}
use Rattle.addr_text.specs.Ipv6.{IsV6Text}
use Rattle.addr_text.proofs.Grammar.{from_colon_hex, to_colon_hex, v6_found}
use Rattle.addr_text.proofs.ipv6.read_v6.Goals as goal
use Rattle.addr_text.proofs.ipv6.read_v6.Goals.{After-joined}

spelled : (c : After-joined) → IsV6Text c.args.text.now c.joined.result
spelled c = record {
  groups = c.in-Ok.address.segments;
  spelled = from_colon_hex _ _ c.in-Ok.ensures.value;
  value = c.joined.ensures ∙ ap (number_from_digits (2 ^ 16)) c.segments.ensures;
}

pub returns-in-Ok-clause-spelled : goal.returns-in-Ok-clause-spelled
returns-in-Ok-clause-spelled c = v6_found c.args.text.now _ (spelled c)

pub returns-in-Ok-clause-bad : goal.returns-in-Ok-clause-bad
returns-in-Ok-clause-bad c = (λ e. absurd cc, λ none. absurd (none _ (spelled c)))

pub returns-in-Err-clause-spelled : goal.returns-in-Err-clause-spelled
returns-in-Err-clause-spelled c a = (λ e. absurd cc, λ h. absurd (c.in-Err.ensures.value (record { segments = h.groups }) (to_colon_hex _ _ h.spelled)))

pub returns-in-Err-clause-bad : goal.returns-in-Err-clause-bad
returns-in-Err-clause-bad c = (λ _ a h. c.in-Err.ensures.value (record { segments = h.groups }) (to_colon_hex _ _ h.spelled), λ _. refl)
