-- The steps of the desk, each as a step of the machine, or as none.
use Rattle.std.proofs.Common.{◌≡◌, ℕ, ◌+◌, ◌%◌, ◌^◌, ◌<◌, ◌≤◌, true, false, List, [], ◌∷◌, ◌++◌, length, set, slice_index, subst, sym, refl, ap, ◌∙◌, arith, inl, inr}
use mathlib.Core.Option.{some, none}
use lib.ListN.{get_elem?}
use Rattle.std.proofs.lemmas.Bool.{cases_eq, cases_lt}
use Rattle.std.proofs.lemmas.List.{length_push, get_or_push}
use Rattle.atomic_table.specs.Table.{State, Allows, step}
use Rattle.atomic_table.specs.Table as acts
use Rattle.swap_core.specs.Plans.{Tables, AreAlike, stale, table, width, window}
use Rattle.swap_core.specs.States.{count_of, spare, next_table, with_desk, written, published}
use Rattle.swap_core.specs.Sound.{Sound, IsWriting, IsAtWork}
use Rattle.swap_core.specs.declared.actors.Actor.{Actor}
use Rattle.swap_core.specs.declared.actors.DeskState.{DeskState}
use Rattle.swap_core.specs.declared.actors.DeskState.TheVariants.{Resting, Ready, Writing}
use Rattle.swap_core.proofs.Laws.{few_records, few_versions}
use Rattle.swap_core.proofs.Laws.{due_sound, count_sound, standing_sound, write_sound, publish_sound}
use Rattle.swap_core.proofs.Laws.{table_fits, in_window_of}
use Rattle.area_swap.specs.Places.{version_place, claims_place, row_place}
use Rattle.area_swap.specs.declared.answers.Seen.{Seen}
use Rattle.area_swap.specs.declared.board.View.{View}
use Rattle.area_swap.specs.Views.{now_of, packed, unpacked, reading, next_of, spare_of, stale_of, IsUpTo}
use Rattle.area_swap.specs.Rule.{Ruled, IsLawfulView, ShowsWords}
use Rattle.area_swap.specs.SeatSteps.{Seated, FoundDue, FoundWord, Passed, ReadClaims, Wrote, Published}
use Rattle.area_swap.proofs.Packing.{up_to, laid_now, laid_row}
use Rattle.area_swap.proofs.Keeping.{hand_of, same_actors, same_words, shows_desk, fits, seat_step, moment_after}
use Rattle.area_swap.proofs.Learning.{sees_word, sees_claims, unpacks}
use Rattle.area_swap.proofs.WorkerSteps.{read_now}

module _ (p : Tables) (s : State (Unit {0}) View) (r : Ruled p s) (id : ℕ) (v : View) (at : get_elem? s.views id ≡ some v) (has : v.has_desk ≡ true) where
  shown : (v.desk ≡ r.core.desk) × (v.points ≡ r.core.points)
  shown = shows_desk p s r id v at has

  -- the desk knows the version
  knows_version : length v.points ≡ r.core.version
  knows_version = ap (λ (l : List ℕ). length l) shown.1 ∙ r.sound.pointed

  next_is : v.plan ≡ p → next_of v ≡ next_table r.core
  next_is same =
      ap (λ (q : Tables). table q (length v.points + 1)) (same ∙ sym r.same_plan)
      ∙ ap (λ (n : ℕ). table r.core.plan (n + 1)) knows_version

  spare_is : spare_of v ≡ spare r.core
  spare_is = ap (λ (n : ℕ). (n + 1) % 2) knows_version

  -- a view of the desk, whose other parts stay, fits
  fits_desk : (now : Seen) (w : View) → IsUpTo (now_of r.core) now → w.plan ≡ v.plan → w.actor ≡ v.actor → hand_of w ≡ hand_of v
      → w.has_desk ≡ v.has_desk → w.seen ≡ v.seen → w.prior ≡ v.prior → IsLawfulView p now w
  fits_desk now w later plan actor hand desk seen prior =
      let f = fits p s r id v at in
      record {
        same_plan = λ _. plan ∙ f.same_plan (inr has);
        unshared = λ none. actor ∙ f.unshared (sym (ap (λ (h : ℕ × ℕ). h.0) hand) ∙ none);
        rightless = λ none. ap (λ (h : ℕ × ℕ). h.1) hand ∙ f.rightless (sym (ap (λ (h : ℕ × ℕ). h.0) hand) ∙ none);
        undrawn = λ none. ap (λ (x : Actor). x.draws) actor ∙ f.undrawn (sym (ap (λ (h : ℕ × ℕ). h.1) hand) ∙ none);
        seen = record {
          version = omega (arith, ap (λ (t : Seen). t.version) seen, f.seen.version, later.version);
          records = omega (arith, ap (λ (t : Seen). t.records) seen, f.seen.records, later.records);
        };
        prior = record {
          version = omega (arith, ap (λ (t : Seen). t.version) seen, ap (λ (t : Seen). t.version) prior, f.prior.version);
          records = omega (arith, ap (λ (t : Seen). t.records) seen, ap (λ (t : Seen). t.records) prior, f.prior.records);
        };
      }

  not_false : {A : Type 0} → v.has_desk ≡ false → A
  not_false lacks = absurd (let is : true ≡ false = sym has ∙ lacks in cc)

  -- the next table is due
  ready_now : v.plan ≡ p → (IsWriting v.desk → ⊥) → r.core.version + 1 < length v.plan.tables
      → (window v.plan (r.core.version + 1)).earliest ≤ r.core.records
      → Ruled p (record { words = set s.words version_place (slice_index s.words version_place); homes = s.homes; views = set s.views id (record (reading v (unpacked (slice_index s.words version_place))) { desk = Ready }) })
  ready_now same still more reached =
      let plans : v.plan ≡ r.core.plan = same ∙ sym r.same_plan in
      let More : Tables → Type 0 = λ q. r.core.version + 1 < length q.tables in
      let Reached : Tables → Type 0 = λ q. (window q (r.core.version + 1)).earliest ≤ r.core.records in
      let Still : DeskState → Type 0 = λ d. IsWriting d → ⊥ in
      let P : Seen → Type 0 =
      λ t. Ruled p (record { words = set s.words version_place (slice_index s.words version_place); homes = s.homes; views = set s.views id (record (reading v t) { desk = Ready }) }) in
      let f = fits p s r id v at in
      subst P (sym (unpacks p s r id v at))
      (seat_step p s r id v at version_place (slice_index s.words version_place) (record (reading v (now_of r.core)) { desk = Ready }) (with_desk r.core Ready)
      (due_sound r.core r.sound (subst Still shown.0 still) (subst More plans more) (subst Reached plans reached)) refl
      (same_words p s r id v at version_place) (same_actors p s r id v at) refl (λ _. (refl, shown.1)) (λ lacks. not_false lacks)
      (up_to (now_of r.core)) refl
      (record { same_plan = f.same_plan; unshared = f.unshared; rightless = f.rightless; undrawn = f.undrawn; seen = up_to (now_of r.core); prior = f.seen }))

  -- the claims on the spare area are read, and there are some
  claimed_now : (i n : ℕ)
      → Ruled p (record { words = set s.words i (slice_index s.words i); homes = s.homes; views = set s.views id (record v { counted = n; counts = v.counts + 1 }) })
  claimed_now i n =
      seat_step p s r id v at i (slice_index s.words i) (record v { counted = n; counts = v.counts + 1 }) r.core r.sound refl (same_words p s r id v at i)
      (same_actors p s r id v at) refl (λ _. shown) (λ _. (refl, refl)) (up_to (now_of r.core)) refl
      (fits_desk (now_of r.core) (record v { counted = n; counts = v.counts + 1 }) (up_to (now_of r.core)) refl refl refl refl refl refl)

  -- there are none, and writing begins
  free_now : (i n : ℕ) → v.desk ≡ Ready → i ≡ claims_place (spare_of v) → slice_index s.words i ≡ 0
      → Ruled p (record { words = set s.words i (slice_index s.words i); homes = s.homes; views = set s.views id (record v { counted = n; counts = v.counts + 1; desk = Writing 0 }) })
  free_now i n ready place no_claims =
      let in_two : spare r.core < 2 = omega arith in
      let count : count_of r.core (spare r.core) ≡ 0 =
      sym (r.words.claims (spare r.core) in_two) ∙ sym (ap (λ (k : ℕ). slice_index s.words k) (place ∙ ap (λ (a : ℕ). claims_place a) spare_is)) ∙ no_claims in
      seat_step p s r id v at i (slice_index s.words i) (record v { counted = n; counts = v.counts + 1; desk = Writing 0 }) (with_desk r.core (Writing 0))
      (count_sound r.core r.sound (sym shown.0 ∙ ready) count) refl (same_words p s r id v at i)
      (same_actors p s r id v at) refl (λ _. (refl, shown.1)) (λ lacks. not_false lacks) (up_to (now_of r.core)) refl
      (fits_desk (now_of r.core) (record v { counted = n; counts = v.counts + 1; desk = Writing 0 }) (up_to (now_of r.core)) refl refl refl refl refl refl)

  -- another word stands there
  other_now : (i : ℕ)
      → Ruled p (record { words = set s.words i (slice_index s.words i); homes = s.homes; views = set s.views id v })
  other_now i =
      seat_step p s r id v at i (slice_index s.words i) v r.core r.sound refl (same_words p s r id v at i)
      (same_actors p s r id v at) refl (λ _. shown) (λ _. (refl, refl)) (up_to (now_of r.core)) refl (fits p s r id v at)

  stale_is : v.plan ≡ p → stale_of v ≡ stale r.core.plan r.core.version
  stale_is same =
      ap (λ (q : Tables). stale q (length v.points)) (same ∙ sym r.same_plan) ∙ ap (λ (n : ℕ). stale r.core.plan n) knows_version

  -- words of the next table stand there already
  pass_now : v.plan ≡ p → (from end i : ℕ) → v.desk ≡ Writing from → from ≤ end → end ≤ length (next_of v)
      → AreAlike (stale_of v) (next_of v) from end
      → Ruled p (record { words = set s.words i (slice_index s.words i); homes = s.homes; views = set s.views id (record v { desk = Writing end }) })
  pass_now same from end i writing order room alike =
      let desk : r.core.desk ≡ Writing from = sym shown.0 ∙ writing in
      let inside : end ≤ length (next_table r.core) = omega (arith, ap (λ (l : List ℕ). length l) (next_is same)) in
      let P : List ℕ → Type 0 = λ l. AreAlike l (next_of v) from end in
      let Q : List ℕ → Type 0 = λ l. AreAlike (stale r.core.plan r.core.version) l from end in
      let stand : AreAlike (stale r.core.plan r.core.version) (next_table r.core) from end = subst Q (next_is same) (subst P (stale_is same) alike) in
      seat_step p s r id v at i (slice_index s.words i) (record v { desk = Writing end }) (with_desk r.core (Writing end))
      (standing_sound r.core from end r.sound desk order inside stand) refl (same_words p s r id v at i)
      (same_actors p s r id v at) refl (λ _. (refl, shown.1)) (λ lacks. not_false lacks) (up_to (now_of r.core)) refl
      (fits_desk (now_of r.core) (record v { desk = Writing end }) (up_to (now_of r.core)) refl refl refl refl refl refl)

  -- one word more of the next table
  write_now : v.plan ≡ p → (j i x : ℕ) → v.desk ≡ Writing j → j < length (next_of v) → i ≡ row_place (width v.plan) (spare_of v) + j
      → x ≡ slice_index (next_of v) j
      → Ruled p (record { words = set s.words i x; homes = s.homes; views = set s.views id (record v { desk = Writing (j + 1) }) })
  write_now same j i x writing more place word =
      let plans : v.plan ≡ r.core.plan = same ∙ sym r.same_plan in
      let desk : r.core.desk ≡ Writing j = sym shown.0 ∙ writing in
      let left : j < length (next_table r.core) = omega (arith, ap (λ (l : List ℕ). length l) (next_is same)) in
      let in_two : spare r.core < 2 = omega arith in
      let in_row : j < width r.core.plan = omega (arith, table_fits r.core.plan (r.core.version + 1)) in
      let here : i ≡ row_place (width r.core.plan) (spare r.core) + j =
      place ∙ ap (λ (a : ℕ). row_place (width v.plan) a + j) spare_is ∙ ap (λ (q : Tables). row_place (width q) (spare r.core) + j) plans in
      let value : x ≡ slice_index (next_table r.core) j = word ∙ ap (λ (l : List ℕ). slice_index l j) (next_is same) in
      let Here : ℕ → Type 0 = λ k. ShowsWords (set s.words k x) (written r.core j) in
      let Value : ℕ → Type 0 = λ y. ShowsWords (set s.words (row_place (width r.core.plan) (spare r.core) + j) y) (written r.core j) in
      let stored : ShowsWords (set s.words (row_place (width r.core.plan) (spare r.core) + j) (slice_index (next_table r.core) j)) (written r.core j) =
      laid_row s.words _ _ _ _ r.words (spare r.core) j (slice_index (next_table r.core) j) in_two in_row r.sound.two_areas (r.sound.rows (spare r.core) in_two) in
      seat_step p s r id v at i x (record v { desk = Writing (j + 1) }) (written r.core j) (write_sound r.core j r.sound desk left) refl
      (subst Here (sym here) (subst Value (sym value) stored))
      (same_actors p s r id v at) refl (λ _. (refl, shown.1)) (λ lacks. not_false lacks) (up_to (now_of r.core)) refl
      (fits_desk (now_of r.core) (record v { desk = Writing (j + 1) }) (up_to (now_of r.core)) refl refl refl refl refl refl)

  at_work : (j : ℕ) → v.desk ≡ Writing j → IsAtWork r.core.desk
  at_work j e = let P : DeskState → Type 0 = IsAtWork in subst P (sym (sym shown.0 ∙ e)) tt

  done_is : v.plan ≡ p → (j : ℕ) → length (next_of v) ≤ j → length (next_table r.core) ≤ j
  done_is same j l = omega (arith, ap (λ (l : List ℕ). length l) (next_is same))

  sound_then : v.plan ≡ p → v.desk ≡ Writing (length (next_of v)) → Sound (published r.core)
  sound_then same writing =
      publish_sound r.core (length (next_of v)) r.sound (sym shown.0 ∙ writing) (done_is same (length (next_of v)) (omega arith))

  -- the next table comes into force
  publish_now : v.plan ≡ p → v.desk ≡ Writing (length (next_of v))
      → Ruled p (record { words = set s.words version_place ((slice_index s.words version_place + 4294967296) % 2 ^ 64); homes = s.homes; views = set s.views id (record v { desk = Resting; points = v.points ++ (unpacked (slice_index s.words version_place)).records ∷ [] }) })
  publish_now same writing =
      let one_more : IsUpTo (now_of r.core) (now_of (published r.core)) = record { version = omega arith; records = omega arith } in
      let word : (slice_index s.words version_place + 4294967296) % 2 ^ 64 ≡ packed (now_of (published r.core)) =
      omega (arith, r.words.first, few_records r.core r.sound, few_versions r.core r.sound) in
      let P : Seen → Type 0 =
      λ t. Ruled p (record { words = set s.words version_place ((slice_index s.words version_place + 4294967296) % 2 ^ 64); homes = s.homes; views = set s.views id (record v { desk = Resting; points = v.points ++ t.records ∷ [] }) }) in
      subst P (sym (unpacks p s r id v at))
      (seat_step p s r id v at version_place ((slice_index s.words version_place + 4294967296) % 2 ^ 64) (record v { desk = Resting; points = v.points ++ r.core.records ∷ [] }) (published r.core)
      (sound_then same writing) refl
      (laid_now s.words _ _ _ _ r.words ((slice_index s.words version_place + 4294967296) % 2 ^ 64) (now_of (published r.core)) word)
      (same_actors p s r id v at) refl (λ _. (refl, ap (λ (l : List ℕ). l ++ r.core.records ∷ []) shown.1)) (λ lacks. not_false lacks) one_more refl
      (fits_desk (now_of (published r.core)) (record v { desk = Resting; points = v.points ++ r.core.records ∷ [] }) one_more refl refl refl refl refl refl))

  -- the new point
  records_are : (unpacked (slice_index s.words version_place)).records ≡ r.core.records
  records_are = ap (λ (t : Seen). t.records) (unpacks p s r id v at)

  next_there : v.plan ≡ p → v.desk ≡ Writing (length (next_of v)) → length v.points + 1 < length v.plan.tables
  next_there same writing =
      let P : Tables → Type 0 = λ q. r.core.version + 1 < length q.tables in
      let there : r.core.version + 1 < length v.plan.tables =
      subst P (r.same_plan ∙ sym same) (r.sound.next (at_work (length (next_of v)) writing)).0 in
      omega (arith, knows_version)

  in_window : v.plan ≡ p → v.desk ≡ Writing (length (next_of v))
      → ((window v.plan (length v.points + 1)).earliest ≤ (unpacked (slice_index s.words version_place)).records)
      × ((unpacked (slice_index s.words version_place)).records ≤ (window v.plan (length v.points + 1)).latest)
  in_window same writing =
      let after : Sound (published r.core) = sound_then same writing in
      let last : r.core.version < length (r.core.points ++ r.core.records ∷ []) = omega (arith, length_push r.core.points r.core.records, r.sound.pointed) in
      let is : slice_index (r.core.points ++ r.core.records ∷ []) r.core.version ≡ r.core.records =
      get_or_push r.core.points r.core.records 0 r.core.version r.sound.pointed in
      let W : Tables → Type 0 = λ q. ((window q (r.core.version + 1)).earliest ≤ r.core.records) × (r.core.records ≤ (window q (r.core.version + 1)).latest) in
      let N : ℕ → Type 0 = λ n. ((window v.plan (n + 1)).earliest ≤ r.core.records) × (r.core.records ≤ (window v.plan (n + 1)).latest) in
      let R : ℕ → Type 0 = λ n. ((window v.plan (length v.points + 1)).earliest ≤ n) × (n ≤ (window v.plan (length v.points + 1)).latest) in
      let V : ℕ → Type 0 = λ n. ((window r.core.plan (r.core.version + 1)).earliest ≤ n) × (n ≤ (window r.core.plan (r.core.version + 1)).latest) in
      subst R (sym records_are) (subst N (sym knows_version) (subst W (r.same_plan ∙ sym same)
      (subst V is (in_window_of r.core.plan (r.core.points ++ r.core.records ∷ []) r.core.records after.placed r.core.version last))))

  rises : (k : ℕ) → k < length v.points → slice_index v.points k ≤ (unpacked (slice_index s.words version_place)).records
  rises k l =
      let inside : k < length r.core.points = omega (arith, ap (λ (l : List ℕ). length l) shown.1) in
      let same : slice_index v.points k ≡ slice_index r.core.points k = ap (λ (l : List ℕ). slice_index l k) shown.1 in
      omega (arith, r.sound.placed.reached k inside, records_are)

module _ (p : Tables) (slots id : ℕ) (me : Seated) (same : me.0.plan ≡ p) (has : me.0.has_desk ≡ true) where
  pub finds_due : (IsWriting me.0.desk → ⊥) → Allows (Ruled p) slots id me version_place (λ n. n) (FoundDue (step slots version_place 0 0 none) me)
  finds_due still s r deep at range =
      let version_is : (unpacked (slice_index s.words version_place)).version ≡ r.core.version = ap (λ (t : Seen). t.version) (unpacks p s r id me.0 at) in
      let records_is : (unpacked (slice_index s.words version_place)).records ≡ r.core.records = ap (λ (t : Seen). t.records) (unpacks p s r id me.0 at) in
      let stays : View = reading me.0 (unpacked (slice_index s.words version_place)) in
      let stays_ruled : Ruled p (record { words = set s.words version_place (slice_index s.words version_place); homes = s.homes; views = set s.views id stays }) = read_now p s r id me.0 at in
      elim (cases_lt ((unpacked (slice_index s.words version_place)).version + 1) (length me.0.plan.tables)) [
        | inr last ↦ (
          stays,
          acts.keeps,
          tt,
          stays_ruled,
          record {
            none = λ _. refl;
            later = λ more few. refl;
            ready = λ more reached. absurd (omega arith);
            sees = sees_word p s r id me.0 at same;
            now = moment_after p s r id me.0 at version_place (slice_index s.words version_place) stays same stays_ruled;
          },
        )
        | inl more ↦
            elim (cases_lt (unpacked (slice_index s.words version_place)).records (window me.0.plan ((unpacked (slice_index s.words version_place)).version + 1)).earliest) [
              | inl few ↦ (
                stays,
                acts.keeps,
                tt,
                stays_ruled,
                record {
                  none = λ _. refl;
                  later = λ _ _. refl;
                  ready = λ _ reached. absurd (omega arith);
                  sees = sees_word p s r id me.0 at same;
                  now = moment_after p s r id me.0 at version_place (slice_index s.words version_place) stays same stays_ruled;
                },
              )
              | inr reached ↦
                  let w : View = record (reading me.0 (unpacked (slice_index s.words version_place))) { desk = Ready } in
                  let N : ℕ → Type 0 = λ n. (window me.0.plan (n + 1)).earliest ≤ (unpacked (slice_index s.words version_place)).records in
                  let until : (window me.0.plan (r.core.version + 1)).earliest ≤ (unpacked (slice_index s.words version_place)).records = subst N version_is reached in
                  let ruled : Ruled p (record { words = set s.words version_place (slice_index s.words version_place); homes = s.homes; views = set s.views id w }) =
                  ready_now p s r id me.0 at has same still (omega arith) (omega arith) in (
                    w,
                    acts.keeps,
                    tt,
                    ruled,
                    record {
                      none = λ last. absurd (omega arith);
                      later = λ _ few. absurd (omega arith);
                      ready = λ _ _. refl;
                      sees = sees_word p s r id me.0 at same;
                      now = moment_after p s r id me.0 at version_place (slice_index s.words version_place) w same ruled;
                    },
                  )
            ]
      ]

  pub counts_claims : (i : ℕ) → me.0.desk ≡ Ready → i ≡ claims_place (spare_of me.0) → Allows (Ruled p) slots id me i (λ n. n) (ReadClaims (step slots i 0 0 none) me)
  counts_claims i ready place s r deep at range =
      elim (cases_eq (slice_index s.words i) 0) [
        | inl no_claims ↦
            let w : View = record me.0 { counted = slice_index s.words i; counts = me.0.counts + 1; desk = Writing 0 } in
            let ruled : Ruled p (record { words = set s.words i (slice_index s.words i); homes = s.homes; views = set s.views id w }) =
            free_now p s r id me.0 at has i (slice_index s.words i) ready place no_claims in (
              w,
              acts.keeps,
              tt,
              ruled,
              record {
                free = λ _. refl;
                claimed = λ some_one. absurd (some_one no_claims);
                sees = sees_claims p s r id me.0 at same i place;
                now = moment_after p s r id me.0 at i (slice_index s.words i) w same ruled;
              },
            )
        | inr some_one ↦
            let w : View = record me.0 { counted = slice_index s.words i; counts = me.0.counts + 1 } in
            let ruled : Ruled p (record { words = set s.words i (slice_index s.words i); homes = s.homes; views = set s.views id w }) =
            claimed_now p s r id me.0 at has i (slice_index s.words i) in (
              w,
              acts.keeps,
              tt,
              ruled,
              record {
                free = λ no_claims. absurd (some_one no_claims);
                claimed = λ _. refl;
                sees = sees_claims p s r id me.0 at same i place;
                now = moment_after p s r id me.0 at i (slice_index s.words i) w same ruled;
              },
            )
      ]

  pub passes_words : (from end i : ℕ) → me.0.desk ≡ Writing from → from ≤ end → end ≤ length (next_of me.0)
      → AreAlike (stale_of me.0) (next_of me.0) from end → i ≡ row_place (width me.0.plan) (spare_of me.0) + end
      → Allows (Ruled p) slots id me i (λ n. n) (Passed (step slots i 0 0 none) me)
  passes_words from end i writing order room alike place s r deep at range =
      let ruled = pass_now p s r id me.0 at has same from end i writing order room alike in (
        record me.0 { desk = Writing end },
        acts.keeps,
        tt,
        ruled,
        record {
          words = end;
          place = place;
          after = refl;
          now = moment_after p s r id me.0 at i (slice_index s.words i) (record me.0 { desk = Writing end }) same ruled;
        },
      )

  pub finds_word : (j i : ℕ) → me.0.desk ≡ Writing j → j < length (next_of me.0) → i ≡ row_place (width me.0.plan) (spare_of me.0) + j
      → Allows (Ruled p) slots id me i (λ n. n) (FoundWord (step slots i 0 0 none) me)
  finds_word j i writing more place s r deep at range =
      elim (cases_eq (slice_index s.words i) (slice_index (next_of me.0) j)) [
        | inl stands ↦
            let w : View = record me.0 { desk = Writing (j + 1) } in
            let ruled : Ruled p (record { words = set s.words i (slice_index s.words i); homes = s.homes; views = set s.views id w }) =
            write_now p s r id me.0 at has same j i (slice_index s.words i) writing more place stands in (
              w,
              acts.keeps,
              tt,
              ruled,
              record {
                words = j;
                was = writing;
                stands = λ _. refl;
                differs = λ other. absurd (other stands);
                now = moment_after p s r id me.0 at i (slice_index s.words i) w same ruled;
              },
            )
        | inr other ↦
            let ruled : Ruled p (record { words = set s.words i (slice_index s.words i); homes = s.homes; views = set s.views id me.0 }) =
            other_now p s r id me.0 at has i in (
              me.0,
              acts.keeps,
              tt,
              ruled,
              record {
                words = j;
                was = writing;
                stands = λ stands. absurd (other stands);
                differs = λ _. refl;
                now = moment_after p s r id me.0 at i (slice_index s.words i) me.0 same ruled;
              },
            )
      ]

  pub writes_word : (j i x : ℕ) → me.0.desk ≡ Writing j → j < length (next_of me.0) → i ≡ row_place (width me.0.plan) (spare_of me.0) + j
      → x ≡ slice_index (next_of me.0) j → Allows (Ruled p) slots id me i (λ _. x) (λ _. Wrote (step slots i x 0 none) me x)
  writes_word j i x writing more place word s r deep at range =
      let ruled = write_now p s r id me.0 at has same j i x writing more place word in (
        record me.0 { desk = Writing (j + 1) },
        acts.keeps,
        tt,
        ruled,
        record {
          words = j;
          was = writing;
          after = refl;
          now = moment_after p s r id me.0 at i x (record me.0 { desk = Writing (j + 1) }) same ruled;
        },
      )

  pub publishes : me.0.desk ≡ Writing (length (next_of me.0))
      → Allows (Ruled p) slots id me version_place (λ n. (n + 4294967296) % 2 ^ 64) (Published (step slots version_place 4294967296 0 none) me)
  publishes writing s r deep at range =
      let w : View = record me.0 { desk = Resting; points = me.0.points ++ (unpacked (slice_index s.words version_place)).records ∷ [] } in
      let ruled : Ruled p (record { words = set s.words version_place ((slice_index s.words version_place + 4294967296) % 2 ^ 64); homes = s.homes; views = set s.views id w }) =
      publish_now p s r id me.0 at has same writing in (
        w,
        acts.keeps,
        tt,
        ruled,
        record {
          after = refl;
          sees = sees_word p s r id me.0 at same;
          there = next_there p s r id me.0 at has same writing;
          in_window = in_window p s r id me.0 at has same writing;
          rises = rises p s r id me.0 at has;
          now = moment_after p s r id me.0 at version_place ((slice_index s.words version_place + 4294967296) % 2 ^ 64) w same ruled;
        },
      )
