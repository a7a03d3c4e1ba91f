-- A worker more.
use Rattle.std.proofs.Common.{List, arith, ap, length, map, subst, sym, [], ◌++◌, ◌∙◌, ◌∷◌, ◌≡◌, inl, inr}
use Rattle.std.proofs.lemmas.Bool.{cases_lt}
use Rattle.std.proofs.lemmas.List.{get_or_append_left, get_or_push, length-append, map-append}
use Rattle.std.specs.Prelude.{slice_index_or}
use Rattle.rtrb.specs.Ring.{sent}
use Rattle.round_pipeline.specs.declared.capture.ReadEnd.{ReadEnd}
use Rattle.round_pipeline.specs.declared.finished.Seat.{Seat}
use Rattle.round_pipeline.specs.declared.writer.WriteEnd.{WriteEnd}
use Rattle.round_pipeline.specs.Ends.{IsNewLine}
use Rattle.round_pipeline.specs.Lists.{buffers, fresh}
use Rattle.round_pipeline.specs.Pipelines.{IsFresh, crew_of}
use Rattle.round_pipeline.proofs.Left.{buffers_fresh}

module _ {T J : Type 0} (reads : List (ReadEnd T)) (seats : List (Seat T J)) (writes : List (WriteEnd T)) (read : ReadEnd T) (seat : Seat T J) (write : WriteEnd T) where
  fresh_more : IsFresh reads seats writes → IsNewLine read seat.line write → IsFresh (reads ++ read ∷ []) (seats ++ seat ∷ []) (writes ++ write ∷ [])
  fresh_more was new = record {
    sizes = (
      omega (arith, was.sizes.0, length-append seats (seat ∷ []), length-append reads (read ∷ [])),
      omega (arith, was.sizes.1, length-append writes (write ∷ []), length-append reads (read ∷ [])),
    );
    lines = λ i r j w fits.
        elim (cases_lt i (length reads)) [
          | inl before ↦
              let Q1 : ReadEnd T → Type 0 = λ x. IsNewLine x (slice_index_or (seats ++ seat ∷ []) i j).line (slice_index_or (writes ++ write ∷ []) i w) in
              let Q2 : Seat T J → Type 0 = λ x. IsNewLine (slice_index_or reads i r) x.line (slice_index_or (writes ++ write ∷ []) i w) in
              let Q3 : WriteEnd T → Type 0 = λ x. IsNewLine (slice_index_or reads i r) (slice_index_or seats i j).line x in
              subst Q1 (sym (get_or_append_left reads (read ∷ []) r i before)) (subst Q2 (sym (get_or_append_left seats (seat ∷ []) j i (omega (arith, before, was.sizes.0))))
              (subst Q3 (sym (get_or_append_left writes (write ∷ []) w i (omega (arith, before, was.sizes.1)))) (was.lines i r j w before)))
          | inr past ↦
              let at : i ≡ length reads = omega (arith, past, fits, length-append reads (read ∷ [])) in
              let Q1 : ReadEnd T → Type 0 = λ x. IsNewLine x (slice_index_or (seats ++ seat ∷ []) i j).line (slice_index_or (writes ++ write ∷ []) i w) in
              let Q2 : Seat T J → Type 0 = λ x. IsNewLine read x.line (slice_index_or (writes ++ write ∷ []) i w) in
              let Q3 : WriteEnd T → Type 0 = λ x. IsNewLine read seat.line x in
              let p1 : slice_index_or (reads ++ read ∷ []) i r ≡ read = get_or_push reads read r i (sym at) in
              let p2 : slice_index_or (seats ++ seat ∷ []) i j ≡ seat = get_or_push seats seat j i (was.sizes.0 ∙ sym at) in
              let p3 : slice_index_or (writes ++ write ∷ []) i w ≡ write = get_or_push writes write w i (was.sizes.1 ∙ sym at) in
              subst Q1 (sym p1) (subst Q2 (sym p2) (subst Q3 (sym p3) new))
        ];
  }

  pub fresh_added : {reads' : List (ReadEnd T)} {seats' : List (Seat T J)} {writes' : List (WriteEnd T)} → reads' ≡ reads ++ read ∷ [] → seats' ≡ seats ++ seat ∷ [] →
      writes' ≡ writes ++ write ∷ [] → IsFresh reads seats writes → IsNewLine read seat.line write → IsFresh reads' seats' writes'
  fresh_added e1 e2 e3 was new = rw (e1, e2, e3) (fresh_more was new)

  pub crew_added : {seats' : List (Seat T J)} {writes' : List (WriteEnd T)} (xs : List T) → seats' ≡ seats ++ seat ∷ [] → writes' ≡ writes ++ write ∷ [] →
      sent write.back ≡ fresh xs →
      crew_of seats' writes' ≡ record { judges = (crew_of seats writes).judges ++ seat.judge ∷ []; buffers = (crew_of seats writes).buffers ++ xs ∷ [] }
  crew_added xs e2 e3 laid =
      let j = ap (λ (l : List (Seat T J)). map (λ s. s.judge) l) e2 ∙ map-append (λ (s : Seat T J). s.judge) seats (seat ∷ []) in
      let b = ap (λ (l : List (WriteEnd T)). map (λ w. buffers (sent w.back)) l) e3 ∙ map-append (λ (w : WriteEnd T). buffers (sent w.back)) writes (write ∷ [])
      ∙ ap (λ (l : List T). map (λ w. buffers (sent w.back)) writes ++ l ∷ []) (ap (λ (l : List _). buffers l) laid ∙ buffers_fresh xs) in
      λ i. record { judges = j i; buffers = b i }
