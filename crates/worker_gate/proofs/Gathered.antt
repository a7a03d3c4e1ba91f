-- The outcomes of workers, one after another, at the places of their numbers.
use Rattle.std.proofs.Common.{◌≡◌, ◌≢◌, ℕ, ◌+◌, ◌<◌, ◌≤◌, ◌⊎◌, inl, inr, List, [], ◌∷◌, ◌++◌, All, length, map, get_or, count_by, ap, subst, refl, sym, ◌∙◌, arith, length-append}
use Rattle.std.specs.List.{Contains}
use Rattle.std.proofs.Math.ListN as lists
use Rattle.std.proofs.lemmas.List.{append-nil, append_assoc, map-append, length-map, get_or-map, get_or_append_left, get_or_push}
use Rattle.std.proofs.lemmas.List.Elements.{All-nil, All-append, All-cons, All-map, Contains-append_left, Contains-append_right}
use Rattle.ip_codec.specs.declared.items.Item.{Item}
use Rattle.swap_core.specs.Plans.{Tables}
use Rattle.area_swap.specs.declared.board.View.{View}
use Rattle.area_swap.specs.declared.answers.Seen.{Seen}
use Rattle.area_swap.specs.Views.{IsUpTo, latest, together}
use Rattle.area_swap.specs.Values.{AreasValue}
use Rattle.worker_gate.specs.declared.crew.Place.{Place}
use Rattle.worker_gate.specs.declared.crew.Sheet.{Sheet}
use Rattle.worker_gate.specs.declared.outcomes.Outcome.{Outcome}
use Rattle.worker_gate.specs.declared.worker.Worker.{Worker}
use Rattle.worker_gate.specs.Crews.{list_of, no_outcome, outcome_at, sheet_at}
use Rattle.worker_gate.specs.OutcomeLists.{number_of}
use Rattle.worker_gate.specs.Outcomes.{draw_of, Ascends, IsJudged, asking}
use Rattle.worker_gate.specs.Gathering.{AreNoted, Gathered, HasJudged, IsAtHand, IsFound}
use Rattle.worker_gate.proofs.Counts.{drawn_as, count_on, count_no_outcome}
use Rattle.worker_gate.proofs.Served.{asking_on, upto_same}

-- Numbers that ascend stand in a row of numbers.

pub ascends_until : (outs : List Outcome) (low high : ℕ) → Ascends low outs high → low ≤ high
ascends_until [] low high h = h
ascends_until (o ∷ os) low high h =
    let above : low ≤ o.number = h.0 in
    let rest : o.number + 1 ≤ high = ascends_until os (o.number + 1) high h.1 in omega (arith, above, rest)

pub outcomes_inside : (outs : List Outcome) (low high start end : ℕ) → Ascends low outs high → start ≤ low → high ≤ end
    → All (λ (o : Outcome). (start ≤ o.number) × (o.number < end)) outs
outcomes_inside [] low high start end h from until = All-nil (λ (o : Outcome). (start ≤ o.number) × (o.number < end))
outcomes_inside (o ∷ os) low high start end h from until =
    let above : low ≤ o.number = h.0 in
    let first : start ≤ o.number = omega (arith, above, from) in
    let last : o.number + 1 ≤ high = ascends_until os (o.number + 1) high h.1 in
    let below : o.number < end = omega (arith, last, until) in
    let next : start ≤ o.number + 1 = omega (arith, first) in
    All-cons (λ (x : Outcome). (start ≤ x.number) × (x.number < end)) o os (first, below)
    (outcomes_inside os (o.number + 1) high start end h.1 next until)

pub draws_inside : (outs : List Outcome) (low high start end : ℕ) → Ascends low outs high → start ≤ low → high ≤ end
    → All (λ (d : ℕ × ℕ). (start ≤ d.0) × (d.0 < end)) (map draw_of outs)
draws_inside outs low high start end h from until =
    All-map (λ (d : ℕ × ℕ). (start ≤ d.0) × (d.0 < end)) draw_of outs (outcomes_inside outs low high start end h from until)

pub ascends_length : (outs : List Outcome) (low high : ℕ) → Ascends low outs high → low + length outs ≤ high
ascends_length [] low high h = (let k : low ≤ high = h in let m : low + 0 ≤ high = omega (arith, k) in m)
ascends_length (o ∷ os) low high h =
    let above : low ≤ o.number = h.0 in
    let rest : o.number + 1 + length os ≤ high = ascends_length os (o.number + 1) high h.1 in
    let all : low + length (o ∷ os) ≤ high = omega (arith, above, rest) in all

-- Sheets stay where they are when one more comes behind them.

lists_longer : (sheets : List Sheet) (s : Sheet) → map list_of (sheets ++ s ∷ []) ≡ map list_of sheets ++ list_of s ∷ []
lists_longer sheets s = map-append list_of sheets (s ∷ [])

pub sheet_before : (sheets : List Sheet) (s : Sheet) (n : ℕ) → n < length sheets → sheet_at (sheets ++ s ∷ []) n ≡ sheet_at sheets n
sheet_before sheets s n less =
    let inside : n < length (map list_of sheets) = omega (arith, less, length-map sheets list_of) in
    ap (λ (l : List (List Outcome)). get_or l n []) (lists_longer sheets s) ∙ get_or_append_left (map list_of sheets) (list_of s ∷ []) [] n inside

pub sheet_last : (sheets : List Sheet) (s : Sheet) → sheet_at (sheets ++ s ∷ []) (length sheets) ≡ list_of s
sheet_last sheets s =
    ap (λ (l : List (List Outcome)). get_or l (length sheets) []) (lists_longer sheets s)
    ∙ get_or_push (map list_of sheets) (list_of s) [] (length sheets) (length-map sheets list_of)

numbers_inside : (areas : AreasValue) (start end long : ℕ) (w : Worker) → IsAtHand areas start end w → start + long ≡ end
    → All (λ (o : Outcome). (start ≤ o.number) × (o.number < start + long)) w.outcomes.items
numbers_inside areas start end long w h size =
    let P : ℕ → Type 0 = λ n. All (λ (o : Outcome). (start ≤ o.number) × (o.number < n)) w.outcomes.items in
    subst P (sym size) (outcomes_inside w.outcomes.items start w.next start end h.ascending (omega arith) h.work.until)

pub numbers_in_round : (areas : AreasValue) (start end long : ℕ) (w : Worker) → IsAtHand areas start end w → start + long ≡ end
    → All (λ (n : ℕ). (start ≤ n) × (n < start + long)) (map number_of w.outcomes.items)
numbers_in_round areas start end long w h size =
    All-map (λ (n : ℕ). (start ≤ n) × (n < start + long)) number_of w.outcomes.items (numbers_inside areas start end long w h size)

pub few_outcomes : (areas : AreasValue) (start end : ℕ) (w : Worker) → IsAtHand areas start end w → length w.outcomes.items ≤ end
few_outcomes areas start end w h = omega (arith, ascends_length w.outcomes.items start w.next h.ascending, h.work.until)

-- What an earlier worker's places tell still holds.

module _ (p : Tables) (items : List Item) (start : ℕ) (news more : List (ℕ × ℕ)) (sheets : List Sheet) (s : Sheet) (n : ℕ) (place : Place) where
  pub found_before : IsFound p items start news sheets n place → IsFound p items start (news ++ more) (sheets ++ s ∷ []) n place
  found_before f =
      let same : sheet_at (sheets ++ s ∷ []) place.sheet ≡ sheet_at sheets place.sheet = sheet_before sheets s place.sheet f.placed.0 in
      let out : outcome_at (sheets ++ s ∷ []) place ≡ outcome_at sheets place = ap (λ (l : List Outcome). get_or l place.index no_outcome) same in
      let inside : place.sheet < length (sheets ++ s ∷ []) = omega (arith, f.placed.0, length-append sheets (s ∷ [])) in
      let P : List Outcome → Type 0 = λ l. place.index < length l in
      let Q : Outcome → Type 0 = λ o. Contains (news ++ more) (draw_of o) in
      let R : Outcome → Type 0 = λ o. IsJudged p items start o in
      record {
        placed = (inside, subst P (sym same) f.placed.1);
        number_is = ap (λ (o : Outcome). o.number) out ∙ f.number_is;
        drawn = subst Q (sym out) (Contains-append_left news more (draw_of (outcome_at sheets place)) f.drawn);
        judged = subst R (sym out) f.judged;
      }

  -- one of the last worker's own
  pub found_here : (m : ℕ) → place ≡ record { sheet = length sheets; index = m } → m < length s.outcomes.items
      → more ≡ map draw_of s.outcomes.items → All (IsJudged p items start) s.outcomes.items
      → (get_or s.outcomes.items m no_outcome).number ≡ n → IsFound p items start (news ++ more) (sheets ++ s ∷ []) n place
  found_here m at less drawn judged number =
      let here : Place = record { sheet = length sheets; index = m } in
      let o : Outcome = get_or s.outcomes.items m no_outcome in
      let last : sheet_at (sheets ++ s ∷ []) (length sheets) ≡ list_of s = sheet_last sheets s in
      let out : outcome_at (sheets ++ s ∷ []) here ≡ o = ap (λ (l : List Outcome). get_or l m no_outcome) last in
      let inside : length sheets < length (sheets ++ s ∷ []) = omega (arith, length-append sheets (s ∷ [])) in
      let P : List Outcome → Type 0 = λ l. m < length l in
      let own : Contains more (draw_of o) =
      (let L : List (ℕ × ℕ) → Type 0 = λ l. Contains l (draw_of o) in
      let long : m < length (map draw_of s.outcomes.items) = omega (arith, less, length-map s.outcomes.items draw_of) in
      subst L (sym drawn) (m, long, get_or-map draw_of s.outcomes.items m no_outcome (draw_of o) less)) in
      let Q : Outcome → Type 0 = λ x. Contains (news ++ more) (draw_of x) in
      let R : Outcome → Type 0 = λ x. IsJudged p items start x in
      let W : Place → Type 0 = λ x. IsFound p items start (news ++ more) (sheets ++ s ∷ []) n x in
      subst W (sym at)
      (record {
        placed = (inside, subst P (sym last) less);
        number_is = ap (λ (x : Outcome). x.number) out ∙ number;
        drawn = subst Q (sym out) (Contains-append_right news more (draw_of o) own);
        judged = subst R (sym out) (judged m no_outcome less);
      })

-- Before any worker is taken apart.

pub gathered_none : (p : Tables) (items : List Item) (start end : ℕ) (v : View) (places : List Place) → Gathered p items start end v v [] places
gathered_none p items start end v places =
    let unasked : asking items start [] ≡ 0 = refl in
    record {
      news = [];
      draws = sym (append-nil v.actor.draws);
      inside = All-nil (λ (d : ℕ × ℕ). (start ≤ d.0) × (d.0 < end));
      found = λ k d less. inl refl;
      later = upto_same v.seen;
      reads = omega (arith, unasked);
    }

-- One worker more.

upto_latest : (s t u : Seen) → IsUpTo s t → IsUpTo s (latest t u)
upto_latest s t u h = record { version = omega (arith, h.version); records = omega (arith, h.records) }

module _ (areas : AreasValue) (items : List Item) (start end : ℕ) (v w : View) (worker : Worker) (sheets : List Sheet) (s : Sheet) (before after : List Place)
    (same : s.outcomes.items ≡ worker.outcomes.items) (h : Gathered areas.plan items start end v w sheets before) (hand : IsAtHand areas start end worker)
    (judged : HasJudged areas.plan items start worker) where
  abbrev own : List (ℕ × ℕ)
  own = worker.seat.known.actor.draws

  own_is : own ≡ map draw_of s.outcomes.items
  own_is = hand.draws ∙ ap (λ (l : List Outcome). map draw_of l) (sym same)

  own_judged : All (IsJudged areas.plan items start) s.outcomes.items
  own_judged = let P : List Outcome → Type 0 = λ l. All (IsJudged areas.plan items start) l in subst P (sym same) judged.judged

  abbrev Has : List Sheet → List (ℕ × ℕ) → ℕ → Place → Type 0
  Has now draws k place = (count_by (drawn_as (start + k)) draws ≡ 0) ⊎ IsFound areas.plan items start draws now (start + k) place

  other : (k : ℕ) (place : Place) → ((m : ℕ) → m < length s.outcomes.items → (get_or s.outcomes.items m no_outcome).number ≢ start + k)
      → Has sheets h.news k place → Has (sheets ++ s ∷ []) (h.news ++ own) k place
  other k place none (inr f) = inr (found_before areas.plan items start h.news own sheets s (start + k) place f)
  other k place none (inl zero_times) =
      let here : count_by (drawn_as (start + k)) own ≡ 0 =
      ap (λ (l : List (ℕ × ℕ)). count_by (drawn_as (start + k)) l) own_is ∙ count_no_outcome (start + k) s.outcomes.items none in
      let sum : count_by (drawn_as (start + k)) (h.news ++ own) ≡ count_by (drawn_as (start + k)) h.news + count_by (drawn_as (start + k)) own =
      count_on (start + k) h.news own in
      let all : count_by (drawn_as (start + k)) (h.news ++ own) ≡ 0 = omega (arith, sum, here, zero_times) in inl all

  abbrev numbers : List ℕ
  numbers = map number_of s.outcomes.items

  many : length numbers ≡ length s.outcomes.items
  many = length-map s.outcomes.items number_of

  number_at : (m : ℕ) → get_or numbers m 0 ≡ (get_or s.outcomes.items m no_outcome).number
  number_at m = lists.get_or-map number_of s.outcomes.items m no_outcome

  at_place : (k : ℕ) (d : Place)
      → (((m : ℕ) → m < length numbers → get_or numbers m 0 ≢ start + k) × (get_or after k d ≡ get_or before k d))
      ⊎ ((m : ℕ) × (m < length numbers) × (get_or after k d ≡ record { sheet = length sheets; index = m }) × (get_or numbers m 0 ≡ start + k))
      → Has sheets h.news k (get_or before k d) → Has (sheets ++ s ∷ []) (h.news ++ own) k (get_or after k d)
  at_place k d (inl e) f =
      let P : Place → Type 0 = λ x. Has (sheets ++ s ∷ []) (h.news ++ own) k x in
      subst P (sym e.1) (other k (get_or before k d) (λ m less is. e.0 m (omega (arith, less, many)) (number_at m ∙ is)) f)
  at_place k d (inr e) f =
      inr (found_here areas.plan items start h.news own sheets s (start + k) (get_or after k d) e.0 e.2 (omega (arith, e.1, many)) own_is own_judged (sym (number_at e.0) ∙ e.3))

  own_inside : All (λ (d : ℕ × ℕ). (start ≤ d.0) × (d.0 < end)) own
  own_inside =
      let P : ℕ × ℕ → Type 0 = λ d. (start ≤ d.0) × (d.0 < end) in
      let Q : List (ℕ × ℕ) → Type 0 = λ l. All P l in
      subst Q (sym hand.draws) (draws_inside worker.outcomes.items start worker.next start end hand.ascending (omega arith) hand.work.until)

  pub gathered_more : AreNoted start (length sheets) numbers (length numbers) before after → length after ≡ length before
      → Gathered areas.plan items start end v (together w worker.seat.known) (sheets ++ s ∷ []) after
  gathered_more noted long =
      let asked : asking items start (h.news ++ own) ≡ asking items start h.news + asking items start own = asking_on items start h.news own in
      record {
        news = h.news ++ own;
        draws = ap (λ (l : List (ℕ × ℕ)). l ++ own) h.draws ∙ append_assoc v.actor.draws h.news own;
        inside = All-append (λ (d : ℕ × ℕ). (start ≤ d.0) × (d.0 < end)) h.news own h.inside own_inside;
        found = λ k d less. let inside : k < length before = omega (arith, less, long) in at_place k d (noted k d inside) (h.found k d inside);
        later = upto_latest v.seen w.seen worker.seat.known.seen h.later;
        reads = omega (arith, h.reads, judged.reads, asked);
      }
