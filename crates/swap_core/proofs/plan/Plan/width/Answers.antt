use Rattle.std.proofs.Common.{◌≡◌, ◌≤◌, ℕ, List, max, length, take, fold, ap, sym, subst, ◌∙◌, arith}
use Rattle.std.proofs.lemmas.List.{take_all}
use Rattle.swap_core.specs.Plans.{Tables, IsPlan, width}
use Rattle.swap_core.proofs.PlanLemmas.{width_small}
use Rattle.swap_core.proofs.plan.Plan.width.Goals as goal

pub returns-clause-small : goal.returns-clause-small
returns-clause-small c =
    let same : c.args.self.now.tables ≡ c.self.inside.tables.items = ap (λ (p : Tables). p.tables) (sym c.self.view_is) in
    let past : length c.args.self.now.tables ≤ c.tables.table-index =
    omega (arith, ap (λ (ts : List (List ℕ)). length ts) same, ap (λ (ts : List (List ℕ)). length ts) c.deref-table-items.ensures.value, c.tables-test.false) in
    let all : take c.tables.table-index c.args.self.now.tables ≡ c.args.self.now.tables = take_all c.tables.table-index c.args.self.now.tables past in
    let longest : c.tables.longest ≡ width c.args.self.now =
    c.tables.invariant ∙ ap (λ (ts : List (List ℕ)). fold (λ (n : ℕ) (words : List ℕ). max n (length words)) 0 ts) all in
    omega (arith, width_small c.args.self.now (subst IsPlan c.self.view_is c.self.invariant))
