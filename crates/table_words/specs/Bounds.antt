-- The numbers of a table by which the steps of its lookups are bounded.
use Rattle.std.specs.Prelude.{ℕ, zero, suc, ◌+◌, ◌*◌, ◌/◌, ◌^◌, max, Bool, ◌==◌, nat_le, ◌&&◌, if◌then◌else◌, List, [], ◌∷◌}
use Rattle.std.specs.List.{count_by, list_any}
use Rattle.binding_rules.specs.declared.binding.Binding.{Binding}

-- how many numbers below n pass the test
abbrev pub count_below : (ℕ → Bool) → ℕ → ℕ
count_below test zero = 0
count_below test (suc n) = count_below test n + (if test n then 1 else 0)

-- how many binary digits the number has: one for each power of two that is not above it
abbrev pub binary_digits : ℕ → ℕ
binary_digits n = count_below (λ k. nat_le (2 ^ k) n) n

-- the greatest of the values, or 0 where there are none
abbrev pub greatest : (Binding → ℕ) → List Binding → ℕ
greatest value [] = 0
greatest value (x ∷ xs) = max (value x) (greatest value xs)

-- how many bindings have an address with these top 16 bits
abbrev pub group_size : List Binding → ℕ → ℕ
group_size bindings h = count_by (λ b. b.v4.0 / 65536 == h) bindings

-- the number of binary digits of the greatest number of bindings that agree in the top 16 bits of their addresses; 0
-- where there are no bindings
abbrev pub group_digits : List Binding → ℕ
group_digits bindings = binary_digits (greatest (λ b. group_size bindings (b.v4.0 / 65536)) bindings)

-- a binding of the address has the shape: the number is the offset times 256, plus the length
abbrev pub has_shape : List Binding → ℕ → ℕ → Bool
has_shape bindings a shape = list_any (λ b. (b.v4.0 == a) && (b.offset * 256 + b.length == shape)) bindings

-- more than the number of any shape; not an `abbrev`, so that no proof counts them out
unfoldable pub shape_end : ℕ
shape_end = 65536

-- how many different shapes the bindings of the address have
abbrev pub shape_count : List Binding → ℕ → ℕ
shape_count bindings a = count_below (has_shape bindings a) shape_end

-- the greatest number of different shapes of one address, and at least 1
abbrev pub most_shapes : List Binding → ℕ
most_shapes bindings = max 1 (greatest (λ b. shape_count bindings b.v4.0) bindings)

-- the most steps of a lookup that finds an owner
abbrev pub found_bound : List Binding → ℕ
found_bound bindings = most_shapes bindings * (2 * group_digits bindings + 4) + 4

-- the most steps of any lookup of an owner: after the last shape one more search shows that no other follows
abbrev pub look_bound : List Binding → ℕ
look_bound bindings = most_shapes bindings * (2 * group_digits bindings + 4) + group_digits bindings + 4
