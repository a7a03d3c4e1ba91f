-- The buffers that are left in the rings.
use Rattle.std.proofs.Common.{All, List, arith, suc, ap, length, length-set, map, refl, sym, ℕ, [], ◌<◌, ◌∙◌, ◌∷◌, ◌≡◌, ◌≢◌, ◌++◌, inl, inr}
use Rattle.std.proofs.lemmas.Bool.{cases_lt}
use Rattle.std.proofs.lemmas.Grind.{get_or-set_at}
use Rattle.std.proofs.lemmas.List.{get_or-map, get_or-set_other, get_or_past, length-map}
use Rattle.std.specs.Prelude.{slice_index_or, slice_set}
use Rattle.rtrb.specs.Ring.{known_items}
use Rattle.round_pipeline.specs.declared.capture.ReadEnd.{ReadEnd}
use Rattle.round_pipeline.specs.declared.rings.Returned.{Returned}
use Rattle.round_pipeline.specs.Lists.{buffers, fresh}

pub buffers_fresh : {T : Type 0} (xs : List T) → buffers (fresh xs) ≡ xs
buffers_fresh [] = refl
buffers_fresh (x ∷ xs) = let e = buffers_fresh xs in λ i. x ∷ e i

pub buffers_append : {T : Type 0} (xs ys : List (Returned T)) → buffers (xs ++ ys) ≡ buffers xs ++ buffers ys
buffers_append [] ys = refl
buffers_append (x ∷ xs) ys = let e = buffers_append xs ys in λ i. x.buffer ∷ e i

pub all_tail : {X : Type 0} (P : X → Type 0) (x : X) (xs : List X) → All P (x ∷ xs) → All P xs
all_tail P x xs all k d fits = all (suc k) d (omega (arith, fits))

module _ {T : Type 0} where
  abbrev there : ReadEnd T → List T
  there r = buffers (known_items r.back)

  -- one was taken
  pub left_here : (reads : List (ReadEnd T)) (at : ℕ) (read read' : ReadEnd T) (b : Returned T) → at < length reads → read ≡ slice_index_or reads at read →
      known_items read.back ≡ b ∷ known_items read'.back →
      slice_index_or (map (λ r. buffers (known_items r.back)) reads) at [] ≡ b.buffer ∷ slice_index_or (map (λ r. buffers (known_items r.back)) (slice_set reads at read')) at []
  left_here reads at read read' b fits is took =
      get_or-map (λ (r : ReadEnd T). there r) reads at read [] fits ∙ ap (λ (r : ReadEnd T). there r) (sym is) ∙ ap (λ (l : List (Returned T)). buffers l) took
      ∙ ap (λ (l : List T). b.buffer ∷ l)
      (sym (get_or-map (λ (r : ReadEnd T). there r) (slice_set reads at read') at read [] (omega (arith, fits, length-set reads at read'))
      ∙ ap (λ (r : ReadEnd T). there r) (get_or-set_at reads at at read' read refl fits)))

  -- other lines keep theirs
  pub left_there : (reads : List (ReadEnd T)) (at i : ℕ) (d read' : ReadEnd T) → i ≢ at →
      slice_index_or (map (λ r. buffers (known_items r.back)) (slice_set reads at read')) i [] ≡ slice_index_or (map (λ r. buffers (known_items r.back)) reads) i []
  left_there reads at i d read' other =
      elim (cases_lt i (length reads)) [
        | inl fits ↦
            get_or-map (λ (r : ReadEnd T). there r) (slice_set reads at read') i d [] (omega (arith, fits, length-set reads at read'))
            ∙ ap (λ (r : ReadEnd T). there r) (get_or-set_other reads at i read' d other) ∙ sym (get_or-map (λ (r : ReadEnd T). there r) reads i d [] fits)
        | inr past ↦
            get_or_past (map (λ (r : ReadEnd T). there r) (slice_set reads at read')) i [] (omega (arith, past, length-map (slice_set reads at read') (λ (r : ReadEnd T). there r), length-set reads at read'))
            ∙ sym (get_or_past (map (λ (r : ReadEnd T). there r) reads) i [] (omega (arith, past, length-map reads (λ (r : ReadEnd T). there r))))
      ]
