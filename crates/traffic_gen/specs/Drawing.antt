-- What is drawn for each record: a linear congruential generator modulo 2^64, with Knuth's multiplier for MMIX and an odd
-- increment. Which parts of the state are taken, and for what, is ours.
use Rattle.std.specs.Prelude.{ℕ, zero, suc, ◌+◌, ◌*◌, ◌/◌, ◌%◌, ◌^◌, ◌==◌, if◌then◌else◌}
use Rattle.traffic_gen.specs.declared.generator.Draw.{Draw}
use Rattle.traffic_gen.specs.declared.generator.Kind.{Kind}
use Rattle.traffic_gen.specs.declared.generator.Kind.TheVariants as kind

-- one turn; no `abbrev`, so that no proof computes with its numbers
unfoldable pub turned : ℕ → ℕ
turned state = (state * 6364136223846793005 + 1442695040888963407) % 2 ^ 64

-- the state after so many turns
abbrev pub state_after : ℕ → ℕ → ℕ
state_after seed zero = seed
state_after seed (suc turns) = turned (state_after seed turns)

abbrev pub kind_of : ℕ → Kind
kind_of number = if number == 0 then kind.Outward else (if number == 1 then kind.Inward else (if number == 2 then kind.Between else kind.Foreign))

-- what the upper half of a state draws, its bits from the lowest up: 8 for the sender, 2 for the kind, 8 for the receiver,
-- and from bit 18 on 6 for the place of the port
abbrev pub parts_of : ℕ → Draw
parts_of word = record {
  sender = word % 2 ^ 8;
  kind = kind_of (word / 2 ^ 8 % 2 ^ 2);
  receiver = word / 2 ^ 10 % 2 ^ 8;
  place = word / 2 ^ 18 % 2 ^ 6;
}

abbrev pub drawn : ℕ → Draw
drawn state = parts_of (state / 2 ^ 32)
