-- One turn more, and one record more.
use Rattle.std.proofs.Common.{◌≡◌, ℕ, ◌+◌, ◌*◌, ◌/◌, ◌%◌, List, ◌++◌, map, false, refl, sym, ◌∙◌, ap, subst, add-one, arith}
use Rattle.std.specs.List.{range_with_len}
use Rattle.std.proofs.Math.Nat.{mod-add-div, add-mul-mod_self_left}
use Rattle.std.proofs.lemmas.List.{flat_map_more}
use Rattle.std.proofs.lemmas.List.FromFn.{map-range_with_len_more}
use Rattle.capture_io.specs.Written.{TimedPacket, capture_bytes, header_bytes, record_bytes}
use Rattle.traffic_gen.specs.declared.generator.Draw.{Draw}
use Rattle.traffic_gen.specs.Drawing.{turned, state_after, drawn}
use Rattle.traffic_gen.specs.Traffic.{generated, record_of, capture_of}

moved : (a b i x : ℕ) → a + b ≡ x → a + i + b ≡ x + i
moved a b i x e = omega arith

-- a remainder before a sum counts for nothing behind it
pub wrapped_sum : (x i m : ℕ) → (x % m + i) % m ≡ (x + i) % m
wrapped_sum x i m =
    sym (add-mul-mod_self_left (x % m + i) m (x / m))
    ∙ ap (λ (n : ℕ). n % m) (moved (x % m) (m * (x / m)) i x (mod-add-div x m))

pub one_turn : (seed n : ℕ) → state_after seed (n + 1) ≡ turned (state_after seed n)
one_turn seed n = rw add-one refl

pub one_more : (seed n state : ℕ) (d : Draw) (bytes after : List ℕ) → state ≡ state_after seed (n + 1) → d ≡ drawn state → bytes ≡ capture_of seed n
    → after ≡ bytes ++ record_bytes (record_of n d).seconds (record_of n d).fraction (record_of n d).packet
    → after ≡ capture_of seed (n + 1)
one_more seed n state d bytes after turn draw before added =
    let P : Draw → Type 0 = λ e. after ≡ bytes ++ record_bytes (record_of n e).seconds (record_of n e).fraction (record_of n e).packet in
    let step : after ≡ bytes ++ record_bytes (generated seed n).seconds (generated seed n).fraction (generated seed n).packet =
    subst P (draw ∙ ap drawn turn) added in
    step
    ∙ ap (λ (l : List ℕ). l ++ record_bytes (generated seed n).seconds (generated seed n).fraction (generated seed n).packet) before
    ∙ flat_map_more (λ (p : TimedPacket). record_bytes p.seconds p.fraction p.packet) (header_bytes false) (map (generated seed) (range_with_len 0 n)) (generated seed n)
    ∙ ap (λ (packets : List TimedPacket). capture_bytes false packets) (sym (map-range_with_len_more (generated seed) 0 n n (omega arith)))
