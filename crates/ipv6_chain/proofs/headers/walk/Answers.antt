-- A header that was passed gives the chain of what follows it.
use Rattle.std.proofs.Common.{◌-◌, length, take, drop, refl, sym, ap, ◌∙◌, arith}
use Rattle.std.proofs.lemmas.List.{take_rest, length-drop}
use Rattle.ipv6_chain.proofs.ChainLemmas.{chain-on}
use Rattle.ipv6_chain.proofs.headers.walk.Goals as goal

pub headers-preserved : goal.headers-preserved
headers-preserved c =
    let body = c.args.body.now in
    let at = c.headers.at in
    record {
      chain = chain-on c.headers.number at c.in_ok-len.len _ body (take (length body - at) (drop at body)) c.args.start _ (take_rest body at)
          c.in_ok-len.ensures.0 refl
          (record {
            skipped = sym c.is_skipped.ensures ∙ c.headers-test.true;
            placed = sym c.is_misplaced.ensures ∙ c.if-is_misplaced.false;
            whole = c.in_ok-len.ensures.1;
            unrouted = sym c.has_segments.ensures ∙ c.if-has_segments.false;
          })
          c.headers.invariant.chain;
      inside = omega (arith, c.in_ok-len.ensures.3, ap length (take_rest body at), length-drop at body, c.headers.invariant.inside);
    }
