-- What a put makes of the rounds that were put.
use Rattle.std.proofs.Common.{List, ap, append-nil, append_assoc, arith, length, length-set, refl, subst, suc, sym, true, false, ℕ, [], ◌++◌, ◌<◌, ◌∙◌, ◌∷◌, ◌≡◌}
use Rattle.std.specs.Prelude.{None, Option, Some, is_some, slice_index_or, slice_set}
use Rattle.rtrb.specs.Ring.{received, sent}
use Rattle.round_pipeline.specs.declared.rings.Returned.{Returned}
use Rattle.round_pipeline.specs.declared.writer.WriteEnd.{WriteEnd}
use Rattle.round_pipeline.specs.Ends.{HasPut, SameWriteEnd}
use Rattle.round_pipeline.specs.Lists.{in_order, share, told}
use Rattle.round_pipeline.specs.Threads.{IsWriting}
use Rattle.round_pipeline.proofs.Places.{at_set, at_set_with, at_with}
use Rattle.round_pipeline.proofs.Shares.{share_here, share_there}

-- the same ends
pub write_same : {T : Type 0} (e : WriteEnd T) → SameWriteEnd e e
write_same e = record { made = ((refl, refl, refl, refl), refl); back = ((refl, refl, refl, refl), refl) }

pub write_same_on : {T : Type 0} {a b c : WriteEnd T} → SameWriteEnd a b → SameWriteEnd b c → SameWriteEnd a c
write_same_on s t = record {
  made = (
    (t.made.0.0 ∙ s.made.0.0, t.made.0.1 ∙ s.made.0.1, t.made.0.2 ∙ s.made.0.2, t.made.0.3 ∙ s.made.0.3),
    t.made.1 ∙ s.made.1,
  );
  back = (
    (t.back.0.0 ∙ s.back.0.0, t.back.0.1 ∙ s.back.0.1, t.back.0.2 ∙ s.back.0.2, t.back.0.3 ∙ s.back.0.3),
    t.back.1 ∙ s.back.1,
  );
}

-- one line was changed
pub write_same_set : {T : Type 0} (first lines : List (WriteEnd T)) (at n : ℕ) (d now : WriteEnd T) → length lines ≡ n → at < n →
    ((i : ℕ) (d : WriteEnd T) → i < n → SameWriteEnd (slice_index_or first i d) (slice_index_or lines i d)) →
    SameWriteEnd (slice_index_or lines at d) now → (i : ℕ) (d : WriteEnd T) → i < n → SameWriteEnd (slice_index_or first i d) (slice_index_or (slice_set lines at now) i d)
write_same_set {T} first lines at n d now size inside were same i e =
    let Q : WriteEnd T → Type 0 = λ x. SameWriteEnd (slice_index_or first at e) x in
    at_set_with e (λ j x. SameWriteEnd (slice_index_or first j e) x) lines at n now size inside (λ j fits other. were j e fits)
    (write_same_on (subst Q (at_with lines at e d (omega (arith, size, inside))) (were at e inside)) same) i

module _ {W T E : Type 0} (puts : W → T → W → T → Option E → Type 0) (n : ℕ) {start u now : W} (first lines : List (WriteEnd T)) (at : ℕ) (d line : WriteEnd T)
    {earlier answer : Option E} where
  pub put_more : {turns next : List (Option ℕ)} → at < n → IsWriting puts n start first turns false u earlier lines →
      HasPut puts u earlier (slice_index_or lines at d) now answer line → next ≡ turns ++ Some at ∷ [] →
      IsWriting puts n start first next false now answer (slice_set lines at line)
  put_more inside was got goes =
      let product = got.product in
      let back : Returned T = record { buffer = got.back; over = is_some answer } in
      let order = was.order in
      record {
        order = at ∷ order;
        products = product ∷ was.products;
        backs = back ∷ was.backs;
        size = length-set lines at line ∙ was.size;
        many = ap (λ k. suc k) was.many;
        many_backs = ap (λ k. suc k) was.many_backs;
        turns_are = goes ∙ ap (λ (l : List (Option ℕ)). l ++ Some at ∷ []) (was.turns_are ∙ append-nil (told order)) ∙ sym (append-nil (told (at ∷ order)));
        took = at_set (λ i e. received e.made ≡ told (share (at ∷ order) i (product ∷ was.products))) lines at n line was.size inside
            (λ i e fits other. was.took i e fits ∙ ap (λ (l : List T). told l) (sym (share_there order at i product was.products (λ same. other (sym same)))))
            (got.took ∙ ap (λ (l : List (Option T)). l ++ Some product ∷ []) (was.took at d inside)
            ∙ ap (λ (l : List T). told l) (sym (share_here order at at product was.products refl)));
        gave = λ i e. at_set_with e
            (λ j x. sent x.back ≡ sent (slice_index_or first j e).back ++ in_order (share (at ∷ order) j (back ∷ was.backs))) lines at n line was.size inside
            (λ j fits other. was.gave j e fits
            ∙ ap (λ (l : List (Returned T)). sent (slice_index_or first j e).back ++ in_order l) (sym (share_there order at j back was.backs (λ same. other (sym same)))))
            (got.gave
            ∙ ap (λ (x : WriteEnd T). sent x.back ++ back ∷ []) (at_with lines at d e (omega (arith, was.size, inside)))
            ∙ ap (λ (l : List (Returned T)). l ++ back ∷ []) (was.gave at e inside)
            ∙ append_assoc (sent (slice_index_or first at e).back) (in_order (share order at was.backs)) (back ∷ [])
            ∙ ap (λ (l : List (Returned T)). sent (slice_index_or first at e).back ++ in_order l) (sym (share_here order at at back was.backs refl))) i;
        put = (u, earlier, was.put, got.put, refl);
      }

-- the writer was told the end
pub put_all : {W T E : Type 0} (puts : W → T → W → T → Option E → Type 0) (n : ℕ) {start u : W} (first lines : List (WriteEnd T)) {earlier : Option E}
    {turns next : List (Option ℕ)} → IsWriting puts n start first turns false u earlier lines → next ≡ turns ++ None ∷ [] →
    IsWriting puts n start first next true u earlier lines
put_all puts n first lines was goes = record {
  order = was.order;
  products = was.products;
  backs = was.backs;
  size = was.size;
  many = was.many;
  many_backs = was.many_backs;
  turns_are = goes ∙ ap (λ (l : List (Option ℕ)). l ++ None ∷ []) (was.turns_are ∙ append-nil (told was.order));
  took = was.took;
  gave = was.gave;
  put = was.put;
}
