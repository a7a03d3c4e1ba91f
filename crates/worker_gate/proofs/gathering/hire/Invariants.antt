use Rattle.std.proofs.Common.{◌≡◌, ℕ, ◌+◌, ◌-◌, ◌^◌, ◌≤◌, List, All, length, vec_capacity}
use Rattle.ip_codec.specs.declared.items.Item.{Item}
use Rattle.area_swap.specs.Values.{IsOf}
use Rattle.worker_gate.specs.declared.crew.Sheet.{Sheet}
use Rattle.worker_gate.specs.Gathering.{HasJudged, HasRoom, IsAtHand, shares}
use Rattle.worker_gate.proofs.gathering.hire.Given as goal

abbrev pub invariant-sheets : goal.invariant-sheets
invariant-sheets l =
    record {
      areas : IsOf l.areas l.seat;
      seat : l.seat.known ≡ record l.initial.seat.known { share = l.seat.known.share; right = l.seat.known.right };
      rights : l.seat.known.right ≡ l.seat.known.share;
      halves : l.seat.known.share ≡ 2 ^ (16 - length l.workers.items);
      whole : l.seat.known.share + shares l.workers.items ≡ 65536;
      many : length l.sheets.items + length l.workers.items ≡ length l.initial.sheets.items;
      sheet_room : vec_capacity l.sheets ≡ vec_capacity l.initial.sheets;
      worker_room : vec_capacity l.workers ≡ vec_capacity l.initial.workers;
      enough : All (λ (s : Sheet). l.end - l.start ≤ s.outcomes.room) l.sheets.items;
      rooms : (room : ℕ) → All (λ (s : Sheet). room ≤ s.outcomes.room) l.initial.sheets.items → All (λ (s : Sheet). room ≤ s.outcomes.room) l.sheets.items;
      worker_rooms : (room : ℕ) → All (λ (s : Sheet). room ≤ s.outcomes.room) l.initial.sheets.items → All (HasRoom room) l.workers.items;
      at_hand : All (IsAtHand l.areas l.start l.end) l.workers.items;
      judged : (items : List Item) → All (HasJudged l.areas.plan items l.start) l.workers.items;
    }

abbrev pub decreases-sheets : goal.decreases-sheets
decreases-sheets l = length l.sheets.items
