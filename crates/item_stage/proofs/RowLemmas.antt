-- A row through one fragment, and the numbers of a row.
use Rattle.std.proofs.Common.{◌≡◌, ℕ, zero, suc, ◌+◌, ◌<◌, ◌++◌, List, [], ◌∷◌, length, get_or, sym, ◌∙◌, ap, append_assoc, subst, arith, drop}
use Rattle.std.specs.Prelude.{IsPermutation, slice_set}
use Rattle.std.specs.declared.cmp.Ordering.{Ordering}
use Rattle.std.proofs.lemmas.List.{get_or_default}
use Rattle.std.proofs.lemmas.List.Sorted.{IsPermutation-append_left, IsPermutation-append_right, IsPermutation-trans}
use Rattle.reassembly_lane.specs.Contexts.{Partial}
use Rattle.reassembly_lane.specs.Lanes.{Arrival, LaneOutcome, answering, fed, first_numbers, late_numbers}
use Rattle.reassembly_lane.specs.Numbers.{IsAscending}
use Rattle.reassembly_lane.specs.declared.answer.Answer.{Answer}
use Rattle.reassembly_lane.specs.declared.answer.Fed.{Fed}
use Rattle.item_stage.specs.Ordered.{ascending}
use Rattle.item_stage.specs.Waiting.{RowTurn, Waiting, lane_at, numbers_in, row_fed, row_turn}
use Rattle.ip_codec.specs.Packet4.{fields4, header4}
use Rattle.ip_codec.specs.declared.packet4.Head4.{Head4}
use Rattle.item_stage.specs.Rejoined.{rejoined, whole_head}
use Rattle.item_stage.specs.Turns.{all_waiting}
use Rattle.item_stage.specs.declared.rows.Rows.{Rows}
use Rattle.item_stage.proofs.OrderLemmas.{ascending_same, ascending_only}

module _ {K : Type 0} where
  abbrev made : Waiting K → Answer → List ℕ → RowTurn K
  made row says ended = record { row = row; answer = says; ended = ended }

  same_turn : (r q : Waiting K) (a b : Answer) (e f : List ℕ) → r ≡ q → a ≡ b → e ≡ f →
      made r a e ≡ made q b f
  same_turn r q a b e f x y z = λ i. record { row = x i; answer = y i; ended = z i }

  pub row_is : (cmp : K → K → Ordering) (row seen : Waiting K) (lane : ℕ) (piece : Arrival K) (said : Fed) (old new : List (K × Partial)) → lane < length row → row ≡ seen →
      old ≡ get_or row lane old → answering said.answer new ≡ fed cmp old piece → IsAscending (late_numbers piece.time old) said.ended →
      row_turn said (slice_set row lane new) ≡ row_fed cmp seen lane piece
  row_is cmp row seen lane piece said old new within view read answers ends =
      let here : old ≡ lane_at row lane = read ∙ get_or_default row lane old [] within in
      let contexts : new ≡ (fed cmp (lane_at row lane) piece).contexts =
      ap (λ (t : LaneOutcome K). t.contexts) answers ∙ ap (λ (x : List (K × Partial)). (fed cmp x piece).contexts) here in
      let says : said.answer ≡ (fed cmp (lane_at row lane) piece).answer =
      ap (λ (t : LaneOutcome K). t.answer) answers ∙ ap (λ (x : List (K × Partial)). (fed cmp x piece).answer) here in
      let ended : said.ended ≡ ascending (late_numbers piece.time (lane_at row lane)) =
      ascending_only (late_numbers piece.time old) said.ended ends ∙ ap (λ (x : List (K × Partial)). ascending (late_numbers piece.time x)) here in
      same_turn (slice_set row lane new) (slice_set row lane (fed cmp (lane_at row lane) piece).contexts) said.answer (fed cmp (lane_at row lane) piece).answer said.ended
      (ascending (late_numbers piece.time (lane_at row lane))) (ap (λ (x : List (K × Partial)). slice_set row lane x) contexts) says ended
      ∙ ap (λ (x : Waiting K). row_fed cmp x lane piece) view

  -- ---- the numbers of a row
  left_at : (row : Waiting K) (index : ℕ) (lane : List (K × Partial)) → index < length row → lane ≡ get_or row index lane → drop index row ≡ lane ∷ drop (suc index) row
  left_at [] index lane within read = absurd (omega (arith, within))
  left_at (a ∷ row) zero lane within read = ap (λ (x : List (K × Partial)). x ∷ row) (sym read)
  left_at (a ∷ row) (suc index) lane within read = left_at row index lane (omega (arith, within)) read

  -- those of one lane more
  pub numbers_more : (row : Waiting K) (index next : ℕ) (lane : List (K × Partial)) (all out more new : List ℕ) → index < length row → lane ≡ get_or row index lane → next ≡ index + 1 →
      IsPermutation all (out ++ numbers_in (drop index row)) → IsPermutation (first_numbers lane) more → new ≡ out ++ more → IsPermutation all (new ++ numbers_in (drop next row))
  numbers_more row index next lane all out more new within read next_is so_far here new_is =
      let later : suc index ≡ next = omega (arith, next_is) in
      let opened : out ++ numbers_in (drop index row) ≡ (out ++ first_numbers lane) ++ numbers_in (drop next row) =
      ap (λ (r : Waiting K). out ++ numbers_in r) (left_at row index lane within read)
      ∙ (sym (append_assoc out (first_numbers lane) (numbers_in (drop (suc index) row)))
      ∙ ap (λ (n : ℕ). (out ++ first_numbers lane) ++ numbers_in (drop n row)) later) in
      let moved : IsPermutation all ((out ++ more) ++ numbers_in (drop next row)) =
      IsPermutation-trans all ((out ++ first_numbers lane) ++ numbers_in (drop next row)) ((out ++ more) ++ numbers_in (drop next row))
      (subst (λ (l : List ℕ). IsPermutation all l) opened so_far)
      (IsPermutation-append_left (numbers_in (drop next row)) (out ++ first_numbers lane) (out ++ more) (IsPermutation-append_right out (first_numbers lane) more here)) in
      subst (λ (l : List ℕ). IsPermutation all (l ++ numbers_in (drop next row))) (sym new_is) moved

-- the numbers of three rows
pub all_numbers : (rows : Rows) (none first second third : List ℕ) → none ≡ [] → IsPermutation (none ++ numbers_in rows.outer) first → IsPermutation (first ++ numbers_in rows.inner) second →
    IsPermutation (second ++ numbers_in rows.down) third → ascending third ≡ all_waiting rows
all_numbers rows none first second third empty one two three =
    let outer : IsPermutation (numbers_in rows.outer) first = subst (λ (l : List ℕ). IsPermutation (l ++ numbers_in rows.outer) first) empty one in
    let inner : IsPermutation (numbers_in rows.outer ++ numbers_in rows.inner) second =
    IsPermutation-trans (numbers_in rows.outer ++ numbers_in rows.inner) (first ++ numbers_in rows.inner) second
    (IsPermutation-append_left (numbers_in rows.inner) (numbers_in rows.outer) first outer) two in
    let down : IsPermutation (numbers_in rows.outer ++ numbers_in rows.inner ++ numbers_in rows.down) third =
    IsPermutation-trans (numbers_in rows.outer ++ numbers_in rows.inner ++ numbers_in rows.down) (second ++ numbers_in rows.down) third
    (IsPermutation-append_left (numbers_in rows.down) (numbers_in rows.outer ++ numbers_in rows.inner) second inner) three in
    ascending_same (numbers_in rows.outer ++ numbers_in rows.inner ++ numbers_in rows.down) third down

-- a datagram put together, by its parts
pub rejoined_is : (h : Head4) (options head body bytes : List ℕ) → bytes ≡ header4 h options (length body) ++ body → options ≡ drop 20 head → h ≡ whole_head (fields4 head []) →
    bytes ≡ rejoined head body
rejoined_is h options head body bytes made o f =
    made
    ∙ (ap (λ (l : List ℕ). header4 h l (length body) ++ body) o
    ∙ ap (λ (x : Head4). header4 x (drop 20 head) (length body) ++ body) f)
