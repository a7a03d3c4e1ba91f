-- The steps of the desk: it waits, finds the spare area free, writes the next table there, and puts it into force.
use Rattle.std.proofs.Common.{◌≡◌, ℕ, suc, ◌+◌, ◌%◌, ◌<◌, ◌≤◌, ◌≢◌, Bool, false, cond, nat_le, List, [], ◌∷◌, ◌++◌, length, get_or, set, slice_index, subst, sym, refl, ap, ◌∙◌, arith, inl, inr, length-set, get_or-set_same, get_or-set_other}
use borrow.Author.Tests.{lt-leb}
use Rattle.std.proofs.lemmas.Bool.{cases_eq, cases_lt}
use Rattle.std.proofs.lemmas.List.{length_push, get_or_push, get_or_append_left}
use Rattle.std.proofs.lemmas.List.Elements.{All-weaker}
use Rattle.std.proofs.lemmas.List.Sums.{sum_by_push}
use Rattle.swap_core.specs.Plans.{always, limit, stale, table, window, width}
use Rattle.swap_core.specs.Points.{in_force}
use Rattle.swap_core.specs.States.{CoreState, IsActor, area, count_of, spare, next_table, with_desk, written, published}
use Rattle.swap_core.specs.Sound.{Sound, HoldsRightly, IsWriting, IsAtWork, IsDrawRight, BeginsWith, words_written}
use Rattle.swap_core.specs.declared.actors.Actor.{Actor}
use Rattle.swap_core.specs.declared.actors.ActorState.{ActorState}
use Rattle.swap_core.specs.declared.actors.ActorState.TheVariants.{Idle, Looked, Asks, Holds}
use Rattle.swap_core.specs.declared.actors.DeskState.{DeskState}
use Rattle.swap_core.specs.declared.actors.DeskState.TheVariants.{Resting, Ready, Writing}
use Rattle.swap_core.specs.declared.plan.Window.{Window}
use Rattle.swap_core.proofs.PlanLemmas.{limit_before, limit_rises, table_fits, window_at}
use Rattle.swap_core.proofs.Moves.{counted_there, not_written}

-- the desk's state changes, and nothing else
pub desk_moves : (c : CoreState) (d : DeskState) → Sound c
    → ((j : ℕ) → d ≡ Writing j → (j ≤ length (next_table c)) × BeginsWith j (next_table c) (area c (spare c)))
    → words_written c.desk ≤ words_written d
    → ((who : ℕ) (x : Actor) → IsActor c who x → HoldsRightly (with_desk c d) x.state)
    → (IsAtWork d → (c.version + 1 < length c.plan.tables) × ((window c.plan (c.version + 1)).earliest ≤ c.records))
    → Sound (with_desk c d)
desk_moves c d h writing more held next =
    record {
      planned = h.planned;
      there = h.there;
      two_counts = h.two_counts;
      two_areas = h.two_areas;
      rows = h.rows;
      counted = h.counted;
      current = h.current;
      writing = writing;
      left = λ j l. h.left j (omega arith);
      held = held;
      next = next;
      pointed = h.pointed;
      placed = h.placed;
      each_once = h.each_once;
      all_drawn = h.all_drawn;
      under = h.under;
      within = h.within;
    }

-- what is held stays so while the desk writes neither before nor after
held_still : (c : CoreState) (d : DeskState) (s : ActorState) → (IsWriting d → ⊥) → HoldsRightly c s → HoldsRightly (with_desk c d) s
held_still c d Idle n r = tt
held_still c d (Looked v) n r = tt
held_still c d (Asks a) n r = r
held_still c d (Holds a w) n r = (r.0, elim r.1 [ inl e ↦ inl e | inr t ↦ inr (t.0, n) ])

-- the next table's window is reached
pub due_sound : (c : CoreState) → Sound c → (IsWriting c.desk → ⊥) → c.version + 1 < length c.plan.tables
    → (window c.plan (c.version + 1)).earliest ≤ c.records → Sound (with_desk c Ready)
due_sound c h still more reached =
    desk_moves c Ready h (λ j e. cc) (omega (arith, not_written c.desk still))
    (λ who x at. held_still c Ready x.state (λ w. w) (h.held who x at)) (λ _. (more, reached))

-- the desk rests
pub rests_sound : (c : CoreState) → Sound c → (IsWriting c.desk → ⊥) → Sound (with_desk c Resting)
rests_sound c h still =
    desk_moves c Resting h (λ j e. cc) (omega (arith, not_written c.desk still))
    (λ who x at. held_still c Resting x.state (λ w. w) (h.held who x at)) (λ w. absurd w)

-- nobody has claimed the spare area, so who holds a version holds the one in force
pub count_sound : (c : CoreState) → Sound c → c.desk ≡ Ready → count_of c (spare c) ≡ 0 → Sound (with_desk c (Writing 0))
count_sound c h ready none =
    desk_moves c (Writing 0) h writing (omega (arith, ap words_written ready)) (λ who x at. held who x x.state at refl (h.held who x at))
    (λ _. h.next (let P : DeskState → Type 0 = IsAtWork in subst P (sym ready) tt))
  where
    writing : (j : ℕ) → Writing 0 ≡ Writing j → (j ≤ length (next_table c)) × BeginsWith j (next_table c) (area c (spare c))
    writing j e =
        let zero_words : 0 ≡ j = cc in
        (omega arith, λ k l. absurd (omega arith))

    held : (who : ℕ) (x : Actor) (s : ActorState) → IsActor c who x → x.state ≡ s → HoldsRightly c s
        → HoldsRightly (with_desk c (Writing 0)) s
    held who x Idle at e r = tt
    held who x (Looked v) at e r = tt
    held who x (Asks a) at e r = r
    held who x (Holds a w) at e r = (
      r.0,
      elim r.1 [
        | inl now ↦ inl now
        | inr t ↦
            let claimed : 1 ≤ count_of c a = counted_there c who x a h at (inr (w, e)) in
            let there : a ≡ spare c = omega (arith, r.0, t.0) in
            let same : count_of c a ≡ count_of c (spare c) = ap (λ (n : ℕ). count_of c n) there in
            absurd (omega arith)
      ],
    )

-- one word more of the next table
pub write_sound : (c : CoreState) (j : ℕ) → Sound c → c.desk ≡ Writing j → j < length (next_table c) → Sound (written c j)
write_sound c j h desk more =
    record {
      planned = h.planned;
      there = h.there;
      two_counts = h.two_counts;
      two_areas = length-set c.areas (spare c) row ∙ h.two_areas;
      rows = rows;
      counted = h.counted;
      current = λ k l. ap (λ (r : List ℕ). slice_index r k) (elsewhere (c.version % 2) (omega arith)) ∙ h.current k l;
      writing = writing;
      left = left;
      held = λ who x at. held x.state (h.held who x at);
      next = λ _. h.next at_work;
      pointed = h.pointed;
      placed = h.placed;
      each_once = h.each_once;
      all_drawn = h.all_drawn;
      under = h.under;
      within = h.within;
    }
  where
    row : List ℕ
    row = set (area c (spare c)) j (slice_index (next_table c) j)

    at_work : IsAtWork c.desk
    at_work = let P : DeskState → Type 0 = IsAtWork in subst P (sym desk) tt

    busy : IsWriting c.desk
    busy = let P : DeskState → Type 0 = IsWriting in subst P (sym desk) tt

    elsewhere : (a : ℕ) → a ≢ spare c → area (written c j) a ≡ area c a
    elsewhere a n = get_or-set_other c.areas (spare c) a row [] n

    here : area (written c j) (spare c) ≡ row
    here =
        let inside : spare c < length c.areas = omega (arith, h.two_areas) in
        get_or-set_same c.areas (spare c) row [] inside

    rows : (a : ℕ) → a < 2 → length (area (written c j) a) ≡ width c.plan
    rows a l =
        elim (cases_eq a (spare c)) [
          | inl e ↦
              ap (λ (b : ℕ). length (area (written c j) b)) e ∙ ap (λ (r : List ℕ). length r) here
              ∙ length-set (area c (spare c)) j (slice_index (next_table c) j) ∙ h.rows (spare c) (omega arith)
          | inr n ↦ ap (λ (r : List ℕ). length r) (elsewhere a n) ∙ h.rows a l
        ]

    writing : (i : ℕ) → Writing (j + 1) ≡ Writing i
        → (i ≤ length (next_table c)) × BeginsWith i (next_table c) (area (written c j) (spare c))
    writing i e =
        let same : j + 1 ≡ i = cc in (
          omega arith,
          λ k l.
              ap (λ (r : List ℕ). slice_index r k) here
              ∙ elim (cases_eq k j) [
                | inl now ↦
                    let inside : j < length (area c (spare c)) = omega (arith, h.rows (spare c) (omega arith), table_fits c.plan (c.version + 1)) in
                    ap (λ (n : ℕ). slice_index row n) now ∙ get_or-set_same (area c (spare c)) j (slice_index (next_table c) j) 0 inside
                    ∙ ap (λ (n : ℕ). slice_index (next_table c) n) (sym now)
                | inr n ↦
                    let below : k < j = omega arith in
                    get_or-set_other (area c (spare c)) j k (slice_index (next_table c) j) 0 n ∙ (h.writing j desk).1 k below
              ],
        )

    left : (k : ℕ) → j + 1 ≤ k → k < length (stale c.plan c.version)
        → slice_index (area (written c j) (spare c)) k ≡ slice_index (stale c.plan c.version) k
    left k l m =
        let other : k ≢ j = λ e. absurd (omega arith) in
        let behind : words_written c.desk ≤ k = omega (arith, ap words_written desk) in
        ap (λ (r : List ℕ). slice_index r k) here
        ∙ get_or-set_other (area c (spare c)) j k (slice_index (next_table c) j) 0 other ∙ h.left k behind m

    held : (s : ActorState) → HoldsRightly c s → HoldsRightly (written c j) s
    held Idle r = tt
    held (Looked v) r = tt
    held (Asks a) r = r
    held (Holds a w) r = (r.0, elim r.1 [ inl e ↦ inl e | inr t ↦ absurd (t.1 busy) ])

-- the next table is in force
pub publish_sound : (c : CoreState) (j : ℕ) → Sound c → c.desk ≡ Writing j → length (next_table c) ≤ j → Sound (published c)
publish_sound c j h desk done =
    record {
      planned = h.planned;
      there = (h.next at_work).0;
      two_counts = h.two_counts;
      two_areas = h.two_areas;
      rows = h.rows;
      counted = h.counted;
      current = λ k l. (h.writing j desk).1 k (omega arith);
      writing = λ i e. cc;
      left = left;
      held = λ who x at. held x.state (h.held who x at);
      next = λ w. absurd w;
      pointed = length_push c.points c.records ∙ ap (λ (n : ℕ). n + 1) h.pointed;
      placed = record { rising = rising; reached = reached; inside = inside };
      each_once = h.each_once;
      all_drawn = h.all_drawn;
      under = λ who x at. All-weaker (IsDrawRight c) (IsDrawRight (published c)) older x.draws (h.under who x at);
      within = omega (arith, h.within, limit_rises c.plan c.version h.planned);
    }
  where
    at_work : IsAtWork c.desk
    at_work = let P : DeskState → Type 0 = IsAtWork in subst P (sym desk) tt

    busy : IsWriting c.desk
    busy = let P : DeskState → Type 0 = IsWriting in subst P (sym desk) tt

    left : (k : ℕ) → 0 ≤ k → k < length (stale c.plan (c.version + 1))
        → slice_index (area c (spare (published c))) k ≡ slice_index (stale c.plan (c.version + 1)) k
    left k _ l =
        let one : c.version + 1 ≡ suc c.version = omega arith in
        let here : spare (published c) ≡ c.version % 2 = omega arith in
        let inside : k < length (table c.plan c.version) = omega (arith, ap (λ (v : ℕ). length (stale c.plan v)) one) in
        ap (λ (a : ℕ). slice_index (area c a) k) here ∙ h.current k inside ∙ sym (ap (λ (v : ℕ). slice_index (stale c.plan v) k) one)

    held : (s : ActorState) → HoldsRightly c s → HoldsRightly (published c) s
    held Idle r = tt
    held (Looked v) r = tt
    held (Asks a) r = r
    held (Holds a w) r =
        (r.0, elim r.1 [ inl e ↦ inr (ap (λ (n : ℕ). n + 1) e, λ w. w) | inr t ↦ absurd (t.1 busy) ])

    old_point : (k : ℕ) → k < length c.points → slice_index (c.points ++ c.records ∷ []) k ≡ slice_index c.points k
    old_point k l = get_or_append_left c.points (c.records ∷ []) 0 k l

    new_point : (k : ℕ) → length c.points ≡ k → slice_index (c.points ++ c.records ∷ []) k ≡ c.records
    new_point k e = get_or_push c.points c.records 0 k e

    longer : length (c.points ++ c.records ∷ []) ≡ length c.points + 1
    longer = length_push c.points c.records

    rising : (k : ℕ) → k + 1 < length (c.points ++ c.records ∷ [])
        → slice_index (c.points ++ c.records ∷ []) k ≤ slice_index (c.points ++ c.records ∷ []) (k + 1)
    rising k l =
        let inside : k < length c.points = omega (arith, longer) in
        elim (cases_lt (k + 1) (length c.points)) [
          | inl m ↦ omega (arith, old_point k inside, old_point (k + 1) m, h.placed.rising k m)
          | inr m ↦
              let last : length c.points ≡ k + 1 = omega (arith, longer) in
              omega (arith, old_point k inside, new_point (k + 1) last, h.placed.reached k inside)
        ]

    reached : (k : ℕ) → k < length (c.points ++ c.records ∷ []) → slice_index (c.points ++ c.records ∷ []) k ≤ c.records
    reached k l =
        elim (cases_lt k (length c.points)) [
          | inl m ↦ omega (arith, old_point k m, h.placed.reached k m)
          | inr m ↦ let last : length c.points ≡ k = omega (arith, longer) in omega (arith, new_point k last)
        ]

    inside : (k : ℕ) → k < length (c.points ++ c.records ∷ [])
        → ((get_or c.plan.windows k always).earliest ≤ slice_index (c.points ++ c.records ∷ []) k)
        × (slice_index (c.points ++ c.records ∷ []) k ≤ (get_or c.plan.windows k always).latest)
    inside k l =
        elim (cases_lt k (length c.points)) [
          | inl m ↦ (omega (arith, old_point k m, (h.placed.inside k m).0), omega (arith, old_point k m, (h.placed.inside k m).1))
          | inr m ↦
              let last : length c.points ≡ k = omega (arith, longer) in
              let now : c.version ≡ k = omega (arith, h.pointed) in
              let this : window c.plan (c.version + 1) ≡ get_or c.plan.windows k always =
              window_at c.plan c.version ∙ ap (λ (n : ℕ). get_or c.plan.windows n always) now in
              let opens : (window c.plan (c.version + 1)).earliest ≡ (get_or c.plan.windows k always).earliest = ap (λ (w : Window). w.earliest) this in
              let ends : (window c.plan (c.version + 1)).latest ≡ (get_or c.plan.windows k always).latest = ap (λ (w : Window). w.latest) this in
              let due : (window c.plan (c.version + 1)).earliest ≤ c.records = (h.next at_work).1 in
              let more : c.version < length c.plan.windows = omega (arith, (h.next at_work).0, h.planned.paired) in
              let most : limit c.plan c.version ≡ (window c.plan (c.version + 1)).latest = limit_before c.plan c.version more in
              (omega (arith, new_point k last), omega (arith, new_point k last, h.within))
        ]

    older : (d : ℕ × ℕ) → IsDrawRight c d → IsDrawRight (published c) d
    older d r =
        let above : nat_le c.records d.0 ≡ false = lt-leb c.records d.0 r.0 in
        let none : (let k : ℕ = cond (nat_le c.records d.0) 1 0 in k) ≡ 0 = ap (λ (t : Bool). let k : ℕ = cond t 1 0 in k) above in
        let more : in_force (c.points ++ c.records ∷ []) d.0 ≡ in_force c.points d.0 + (let k : ℕ = cond (nat_le c.records d.0) 1 0 in k) =
        sum_by_push (λ (p : ℕ). let k : ℕ = cond (nat_le p d.0) 1 0 in k) c.points c.records in
        (r.0, omega (arith, r.1))
