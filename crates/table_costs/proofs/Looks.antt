-- Whether a header is or gets too long, of which so much weight, its bracket included, stands in front; none outside of headers.
use Rattle.std.proofs.Common.{ℕ, zero, suc, ◌+◌, nat_lt, Bool, ◌||◌, List}
use Rattle.table_costs.specs.Costs.{header_weight, most_header, has_long_header}

abbrev pub long_from : ℕ → List ℕ → Bool
long_from zero s = has_long_header s
long_from (suc n) s = nat_lt most_header (n + header_weight s) || has_long_header s
