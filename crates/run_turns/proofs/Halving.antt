-- A share that is halved as often as there are powers of two in it.
use Rattle.run_turns.proofs.Words.{◌≡◌, ◌≢◌, ℕ, ◌+◌, ◌-◌, ◌^◌, ◌≤◌, zero, suc, arith, refl}
use Rattle.std.specs.Prelude.{◌%◌, ◌/◌}

pub record Halves (halvings share : ℕ) : Type 0 where
  pub even : share % 2 ≡ 0
  pub rest : (share / 2) % 2 ^ (halvings - 1) ≡ 0
  pub twice : 2 ^ halvings ≡ 2 ^ (halvings - 1) + 2 ^ (halvings - 1)

pub halves : (halvings share : ℕ) → halvings ≤ 6 → halvings ≢ 0 → share % 2 ^ halvings ≡ 0 → Halves halvings share
halves zero n few some is = absurd (some refl)
halves (suc zero) n few some is = record { even = omega (arith, is); rest = omega (arith, is); twice = refl }
halves (suc (suc zero)) n few some is = record { even = omega (arith, is); rest = omega (arith, is); twice = refl }
halves (suc (suc (suc zero))) n few some is = record { even = omega (arith, is); rest = omega (arith, is); twice = refl }
halves (suc (suc (suc (suc zero)))) n few some is = record { even = omega (arith, is); rest = omega (arith, is); twice = refl }
halves (suc (suc (suc (suc (suc zero))))) n few some is = record { even = omega (arith, is); rest = omega (arith, is); twice = refl }
halves (suc (suc (suc (suc (suc (suc zero)))))) n few some is = record { even = omega (arith, is); rest = omega (arith, is); twice = refl }
halves (suc (suc (suc (suc (suc (suc (suc h))))))) n few some is = absurd (omega (arith, few))
