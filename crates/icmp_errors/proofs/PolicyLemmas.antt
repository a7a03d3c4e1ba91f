-- Lemmas on the policy error: its size, and what it is read as.
use Rattle.std.proofs.Common.{◌≡◌, ℕ, ◌+◌, ◌^◌, ◌<◌, List, ◌++◌, length, take, min, Ok, refl, sym, ◌∙◌, ap, arith}
use Rattle.std.proofs.lemmas.List.{length-append, length-take}
use Rattle.aftr_base.specs.declared.numbers.V6.{V6}
use Rattle.icmp_codec.specs.Message6.{icmp6_bytes, icmp6_of, made_message6}
use Rattle.ip_codec.specs.Packet6.{bytes6}
use Rattle.ip_codec.specs.declared.items.Outer.{Outer}
use Rattle.ip_codec.proofs.Laws.{ip6_of-bytes6}
use Rattle.icmp_errors.specs.Policy6.{TellsPolicy, policy6, policy_head, quoted_head}

pub policy6-size : (from to : V6) (hop : ℕ) (outer : Outer) (inner : List ℕ) →
    length (policy6 from to hop outer inner) ≡ 48 + min 1232 (40 + length inner)
policy6-size from to hop outer inner =
    let whole : length (bytes6 (quoted_head outer) inner) ≡ 40 + length inner = omega arith in
    omega (arith, length-take 1232 (bytes6 (quoted_head outer) inner), whole)

-- the same of an inner packet in two parts
pub policy6-sizes : (from to : V6) (hop : ℕ) (outer : Outer) (first second : List ℕ) →
    length (policy6 from to hop outer (first ++ second)) ≡ 48 + min 1232 (40 + (length first + length second))
policy6-sizes from to hop outer first second =
    policy6-size from to hop outer (first ++ second) ∙ ap (λ n. 48 + min 1232 (40 + n)) (length-append first second)

pub policy6-tells : (from to : V6) (hop : ℕ) (outer : Outer) (inner quote : List ℕ) → from.0 < 2 ^ 128 → to.0 < 2 ^ 128 →
    quote ≡ take 1232 (bytes6 (quoted_head outer) inner) →
    icmp6_of from.0 to.0 (icmp6_bytes from.0 to.0 1 5 0 quote) ≡ Ok (made_message6 1 5 0 quote) →
    TellsPolicy from to hop outer inner (policy6 from to hop outer inner)
policy6-tells from to hop outer inner quote from_fits to_fits quote_is read =
    let front = take 1232 (bytes6 (quoted_head outer) inner) in
    record {
      message = icmp6_bytes from.0 to.0 1 5 0 front;
      packet = ip6_of-bytes6 (policy_head from to hop) (icmp6_bytes from.0 to.0 1 5 0 front) (omega arith) refl from_fits to_fits;
      told = ap (λ q. icmp6_of from.0 to.0 (icmp6_bytes from.0 to.0 1 5 0 q)) (sym quote_is) ∙ read ∙ ap (λ q. Ok (made_message6 1 5 0 q)) quote_is;
    }
