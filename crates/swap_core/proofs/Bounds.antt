-- How large the numbers of a sound state are.
use Rattle.std.proofs.Common.{◌<◌, ◌≤◌, arith}
use Rattle.swap_core.specs.States.{CoreState}
use Rattle.swap_core.specs.Sound.{Sound}
use Rattle.swap_core.proofs.PlanLemmas.{limit_small}

pub few_records : (c : CoreState) → Sound c → c.records ≤ 2147483648
few_records c h = omega (arith, h.within, limit_small c.plan c.version h.planned)

pub few_versions : (c : CoreState) → Sound c → c.version < 256
few_versions c h = omega (arith, h.there, h.planned.few)
