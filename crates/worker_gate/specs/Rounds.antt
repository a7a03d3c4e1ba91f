-- What a round leaves: an outcome for each of its numbers. All of it is ours.
use Rattle.std.specs.Prelude.{◌≡◌, ℕ, ◌+◌, ◌-◌, ◌≤◌, List, ◌++◌, All, length, map}
use Rattle.std.specs.List.{range_with_len, Contains}
use Rattle.ip_codec.specs.declared.items.Item.{Item}
use Rattle.area_swap.specs.declared.board.View.{View}
use Rattle.area_swap.specs.Values.{HasWholeShare, IsIdle}
use Rattle.area_swap.specs.Views.{IsUpTo}
use Rattle.worker_gate.specs.declared.outcomes.Outcome.{Outcome}
use Rattle.worker_gate.specs.Outcomes.{draw_of, IsJudged, asking}

-- There is one outcome for each number from `start` to below `end`, ascending; each is of a draw of this round, and judged under
-- that draw's version. The seat has the whole share, and as many draws as the round's end.
pub record IsRound (items : List Item) (start end : ℕ) (before after : View) (all : List Outcome) : Type 0 where
  pub numbers : map (λ (o : Outcome). o.number) all ≡ range_with_len start (end - start)
  pub news : List (ℕ × ℕ)
  pub draws : after.actor.draws ≡ before.actor.draws ++ news
  pub drawn : All (λ (o : Outcome). Contains news (draw_of o)) all
  pub judged : All (IsJudged before.plan items start) all
  pub many : length after.actor.draws ≡ end
  pub same_plan : after.plan ≡ before.plan
  pub whole : HasWholeShare after
  pub idle : IsIdle after
  pub later : IsUpTo before.seen after.seen
  pub reads : before.reads + asking items start news ≤ after.reads
