-- Lemmas on the tunnel's header and the packet behind it.
use Rattle.std.proofs.Common.{◌≡◌, ℕ, ◌≤◌, List, [], ◌∷◌, ◌++◌, length, refl, sym, ◌∙◌, ap, append_assoc, arith}
use Rattle.aftr_base.specs.declared.numbers.V6.{V6}
use Rattle.softwire_encap.specs.Tunnel.{tos_of, tunnel_front, tunnelled, with_body, wrapped}

pub front_of_wrapped : (from to : V6) (hop : ℕ) (inner : List ℕ) →
    tunnel_front from to hop (tos_of inner) (length inner) ++ inner ≡ wrapped from to hop inner
front_of_wrapped from to hop inner = refl

-- the header was pushed, and the packet that it is for
pub wrapped-pushed : (from to : V6) (hop tos len : ℕ) (out out1 out2 inner : List ℕ) → tos_of inner ≡ tos → length inner ≡ len →
    out1 ≡ out ++ tunnel_front from to hop tos len → out2 ≡ out1 ++ inner → out2 ≡ out ++ wrapped from to hop inner
wrapped-pushed from to hop tos len out out1 out2 inner tos_is len_is is1 is2 =
    is2
    ∙ ap (λ l. l ++ inner) (is1 ∙ ap (λ t. out ++ tunnel_front from to hop t len) (sym tos_is)
    ∙ ap (λ n. out ++ tunnel_front from to hop (tos_of inner) n) (sym len_is))
    ∙ append_assoc out (tunnel_front from to hop (tos_of inner) (length inner)) inner
    ∙ ap (λ l. out ++ l) (front_of_wrapped from to hop inner)

-- what stands behind the inner bytes makes the body longer, and changes nothing else
pub longer_body : (from to : V6) (hop : ℕ) (inner rest : List ℕ) → 2 ≤ length inner →
    with_body (tunnelled from to hop inner) (inner ++ rest) ≡ tunnelled from to hop (inner ++ rest)
longer_body from to hop [] rest some = absurd (omega arith)
longer_body from to hop (a ∷ []) rest some = absurd (omega arith)
longer_body from to hop (a ∷ b ∷ inner) rest some = refl
