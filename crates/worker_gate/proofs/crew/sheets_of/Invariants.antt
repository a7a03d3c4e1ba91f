use Rattle.std.proofs.Common.{◌≡◌, ◌≤◌, All, length, vec_capacity}
use Rattle.worker_gate.specs.declared.crew.Sheet.{Sheet}
use Rattle.worker_gate.proofs.crew.sheets_of.Given as goal

abbrev pub invariant-sheets : goal.invariant-sheets
invariant-sheets l =
    record {
      many : length l.sheets.items ≡ l.counter;
      room : l.workers ≤ vec_capacity l.sheets;
      rooms : All (λ (s : Sheet). l.room ≤ s.outcomes.room) l.sheets.items;
    }
