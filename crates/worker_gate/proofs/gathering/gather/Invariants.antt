use Rattle.std.proofs.Common.{◌≡◌, ℕ, ◌+◌, ◌≤◌, List, All, length, vec_capacity}
use Rattle.ip_codec.specs.declared.items.Item.{Item}
use Rattle.area_swap.specs.Values.{IsIdle, IsOf}
use Rattle.worker_gate.specs.declared.crew.Sheet.{Sheet}
use Rattle.worker_gate.specs.Gathering.{Gathered, HasJudged, HasRoom, IsAtHand, shares}
use Rattle.worker_gate.proofs.gathering.gather.Given as goal

abbrev pub invariant-workers : goal.invariant-workers
invariant-workers l =
    record {
      areas : IsOf l.areas l.seat;
      idle : IsIdle l.seat.known;
      at_hand : All (IsAtHand l.areas l.start l.end) l.workers.items;
      whole : l.seat.known.share + shares l.workers.items ≡ l.initial.seat.known.share + shares l.initial.workers.items;
      many : length l.sheets.items + length l.workers.items ≡ length l.initial.workers.items;
      sheet_room : vec_capacity l.sheets ≡ vec_capacity l.initial.sheets;
      worker_room : vec_capacity l.workers ≡ vec_capacity l.initial.workers;
      place_room : vec_capacity l.initial.places ≤ vec_capacity l.places;
      size : l.start + length l.places.items ≡ l.end;
      rooms : (room : ℕ) → All (HasRoom room) l.initial.workers.items → All (HasRoom room) l.workers.items;
      sheet_rooms : (room : ℕ) → All (HasRoom room) l.initial.workers.items → All (λ (s : Sheet). room ≤ s.outcomes.room) l.sheets.items;
      judged : (items : List Item) → All (HasJudged l.areas.plan items l.start) l.initial.workers.items → All (HasJudged l.areas.plan items l.start) l.workers.items;
      gathered : (items : List Item) → All (HasJudged l.areas.plan items l.start) l.initial.workers.items
          → Gathered l.areas.plan items l.start l.end l.initial.seat.known l.seat.known l.sheets.items l.places.items;
    }

abbrev pub decreases-workers : goal.decreases-workers
decreases-workers l = length l.workers.items
