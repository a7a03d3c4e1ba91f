use Rattle.std.proofs.Common.{All, List, [], ap, false, append_assoc, rules, subst, sym, ◌++◌, ◌∙◌, ◌∷◌, ◌≡◌}
use Rattle.std.specs.Vec.Iter.{into_iter_items}
use Rattle.rtrb.specs.Ring.{sent}
use Rattle.round_pipeline.specs.Lists.{fresh}
use Rattle.round_pipeline.proofs.Left.{all_tail}
use Rattle.round_pipeline.proofs.pipeline.lay_out.Goals as goal

pub buffers-preserved : goal.buffers-preserved
buffers-preserved g c =
    let known = c.buffers.invariant in
    let rest = into_iter_items c.next.new.self in
    let steps : into_iter_items c.buffers.buffer-iterator ≡ c.in-Some.buffer ∷ rest = c.in-Some.ensures.steps.0 in
    let A : List g.row.T.Denot → Type 0 = λ l. All (λ b. g.T.RoundBuffer.empty b) l in
    record {
      same = search rules;
      empty = all_tail g.T.RoundBuffer.empty c.in-Some.buffer rest (subst A steps known.empty);
      laid = ap (λ (l : _). l ++ fresh rest) c.in-Ok.ensures.ok.0
          ∙ append_assoc (sent c.buffers.back) (record { buffer = c.in-Some.buffer; over = false } ∷ []) (fresh rest)
          ∙ ap (λ (l : List g.row.T.Denot). sent c.buffers.back ++ fresh l) (sym steps) ∙ known.laid;
    }
