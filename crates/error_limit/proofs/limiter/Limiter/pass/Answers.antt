use Rattle.std.proofs.Common.{rules, ◌*◌, ◌-◌, ℕ, subst, sym, ap, arith}
use Rattle.error_limit.specs.Limits.{Stands}
use Rattle.error_limit.proofs.Marking.{sent, kept}
use Rattle.error_limit.proofs.limiter.Limiter.pass.Goals as goal

-- src/limiter.rt:58:13
pub returns-then-level-rate-clause-stands : goal.returns-then-level-rate-clause-stands
returns-then-level-rate-clause-stands c times marks h =
    kept (record { rate = c.self.inside.rate; level = c.self.inside.level; time = c.self.inside.time }) times marks
    c.args.time c.max-now.result c.saturating_sub-level.result
    (subst (λ b. Stands b times marks) (sym c.self.view_is) h)
    (search rules) (omega (arith, c.saturating_sub-level.ensures, c.saturating_mul-drained.ensures, ap (λ (r : ℕ). r * (c.max-now.result - c.self.inside.time)) c.from-rate.ensures)) (omega arith) (omega arith)

-- src/limiter.rt:46:5
pub returns-clause-stands : goal.returns-clause-stands
returns-clause-stands c times marks h =
    sent (record { rate = c.self.inside.rate; level = c.self.inside.level; time = c.self.inside.time }) times marks
    c.args.time c.max-now.result c.saturating_sub-level.result
    (subst (λ b. Stands b times marks) (sym c.self.view_is) h)
    (search rules) (omega (arith, c.saturating_sub-level.ensures, c.saturating_mul-drained.ensures, ap (λ (r : ℕ). r * (c.max-now.result - c.self.inside.time)) c.from-rate.ensures)) (omega arith) (omega arith)
