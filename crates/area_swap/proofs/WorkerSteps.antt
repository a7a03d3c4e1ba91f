-- The steps of a worker's seat, each as a step of the machine, or as none.
use Rattle.std.proofs.Common.{◌≡◌, ℕ, ◌+◌, ◌-◌, ◌%◌, ◌^◌, ◌<◌, ◌≤◌, Bool, true, false, eqb, length, set, slice_index, subst, sym, refl, ap, ◌∙◌, arith, inl, inr, eq-eqb, ne_eqb}
use prog.Atomic.{either}
use mathlib.Core.Option.{some, none}
use lib.ListN.{get_elem?}
use Rattle.std.proofs.lemmas.Bool.{cases_eq}
use Rattle.atomic_table.specs.Table.{State, Me, Allows, step}
use Rattle.atomic_table.specs.Table as acts
use Rattle.swap_core.specs.Plans.{Tables, table, width, limit}
use Rattle.swap_core.specs.States.{consecutive, count_of, looked, entered, confirmed, gone, several_drawn}
use Rattle.swap_core.specs.Sound.{HasClaimed, HoldsRightly}
use Rattle.swap_core.specs.declared.actors.ActorState.{ActorState}
use Rattle.swap_core.specs.declared.actors.ActorState.TheVariants.{Idle, Looked, Asks, Holds}
use Rattle.swap_core.proofs.Laws.{few_records}
use Rattle.swap_core.proofs.Laws.{several_sound}
use Rattle.swap_core.proofs.Laws.{looks_sound, enters_sound, confirms_sound, leaves_sound, claimed_area, counted_there, reads_whole}
use Rattle.swap_core.proofs.Laws.{table_fits}
use Rattle.area_swap.specs.Places.{version_place, claims_place, row_place}
use Rattle.area_swap.specs.declared.answers.Seen.{Seen}
use Rattle.area_swap.specs.declared.board.View.{View}
use Rattle.area_swap.specs.Views.{now_of, packed, unpacked, acting, reading, taking, IsUpTo}
use Rattle.area_swap.specs.Rule.{Ruled, IsLawfulView}
use Rattle.area_swap.specs.SeatSteps.{Seated, Glanced, LookedAt, Entered, Confirmed, LeftIt, ReadOne, Drew}
use Rattle.area_swap.proofs.Packing.{up_to, laid_claims, laid_now, same_packed}
use Rattle.area_swap.proofs.Keeping.{actor_at, same_actors, same_words, shows_desk, fits, seat_step, moment_after}
use Rattle.area_swap.proofs.Learning.{sees_word, unpacks, few_claims}

module _ (p : Tables) (s : State (Unit {0}) View) (r : Ruled p s) (id : ℕ) (v : View) (at : get_elem? s.views id ≡ some v) where
  -- a view that reads the version word fits
  fits_reading : IsLawfulView p (now_of r.core) (reading v (now_of r.core))
  fits_reading =
      let f = fits p s r id v at in
      record { same_plan = f.same_plan; unshared = f.unshared; rightless = f.rightless; undrawn = f.undrawn; seen = up_to (now_of r.core); prior = f.seen }

  -- a view with a share fits, whatever its actor does
  fits_acting : (now : Seen) (w : View) (x : ActorState) → 0 < w.share → IsLawfulView p now w → IsLawfulView p now (acting w x)
  fits_acting now w x shared f =
      record { same_plan = f.same_plan; unshared = λ none. absurd (omega arith); rightless = f.rightless; undrawn = f.undrawn; seen = f.seen; prior = f.prior }

  -- the version word is read, and the machine stays
  pub read_now : Ruled p (record { words = set s.words version_place (slice_index s.words version_place); homes = s.homes; views = set s.views id (reading v (unpacked (slice_index s.words version_place))) })
  read_now =
      let P : Seen → Type 0 =
      λ t. Ruled p (record { words = set s.words version_place (slice_index s.words version_place); homes = s.homes; views = set s.views id (reading v t) }) in
      subst P (sym (unpacks p s r id v at))
      (seat_step p s r id v at version_place (slice_index s.words version_place) (reading v (now_of r.core)) r.core r.sound refl (same_words p s r id v at version_place)
      (same_actors p s r id v at) refl (shows_desk p s r id v at) (λ _. (refl, refl)) (up_to (now_of r.core)) refl fits_reading)

  -- an idle worker reads the version, and will claim its area
  look_now : 0 < v.share → v.actor.state ≡ Idle
      → Ruled p (record { words = set s.words version_place (slice_index s.words version_place); homes = s.homes; views = set s.views id (acting (reading v (unpacked (slice_index s.words version_place))) (Looked (unpacked (slice_index s.words version_place)).version)) })
  look_now shared idle =
      let P : Seen → Type 0 =
      λ t. Ruled p (record { words = set s.words version_place (slice_index s.words version_place); homes = s.homes; views = set s.views id (acting (reading v t) (Looked t.version)) }) in
      subst P (sym (unpacks p s r id v at))
      (seat_step p s r id v at version_place (slice_index s.words version_place) (acting (reading v (now_of r.core)) (Looked r.core.version))
      (looked r.core id v.actor) (looks_sound r.core id v.actor r.sound (actor_at p s r id v at) idle) refl (same_words p s r id v at version_place)
      refl refl (shows_desk p s r id v at) (λ _. (refl, refl)) (up_to (now_of r.core)) refl
      (fits_acting (now_of r.core) (reading v (now_of r.core)) (Looked r.core.version) shared fits_reading))

  -- the version read stands in the area that is asked for
  confirm_now : (a : ℕ) → 0 < v.share → v.actor.state ≡ Asks a → r.core.version % 2 ≡ a
      → Ruled p (record { words = set s.words version_place (slice_index s.words version_place); homes = s.homes; views = set s.views id (acting (reading v (unpacked (slice_index s.words version_place))) (Holds a (unpacked (slice_index s.words version_place)).version)) })
  confirm_now a shared asks same =
      let P : Seen → Type 0 =
      λ t. Ruled p (record { words = set s.words version_place (slice_index s.words version_place); homes = s.homes; views = set s.views id (acting (reading v t) (Holds a t.version)) }) in
      subst P (sym (unpacks p s r id v at))
      (seat_step p s r id v at version_place (slice_index s.words version_place) (acting (reading v (now_of r.core)) (Holds a r.core.version))
      (confirmed r.core id v.actor a) (confirms_sound r.core id v.actor a r.sound (actor_at p s r id v at) asks same) refl
      (same_words p s r id v at version_place) refl refl (shows_desk p s r id v at) (λ _. (refl, refl)) (up_to (now_of r.core)) refl
      (fits_acting (now_of r.core) (reading v (now_of r.core)) (Holds a r.core.version) shared fits_reading))

  fits_still : (x : ActorState) → 0 < v.share → IsLawfulView p (now_of r.core) (acting v x)
  fits_still x shared = fits_acting (now_of r.core) v x shared (fits p s r id v at)

  -- one claim more on an area
  enter_now : (version : ℕ) → 0 < v.share → v.actor.state ≡ Looked version
      → Ruled p (record { words = set s.words (claims_place (version % 2)) ((slice_index s.words (claims_place (version % 2)) + 1) % 2 ^ 64); homes = s.homes; views = set s.views id (acting v (Asks (version % 2))) })
  enter_now version shared looks =
      let a : ℕ = version % 2 in
      let la : version % 2 < 2 = omega arith in
      let was : slice_index s.words (claims_place (version % 2)) ≡ count_of r.core (version % 2) = r.words.claims (version % 2) la in
      let few : count_of r.core (version % 2) ≤ 65536 = few_claims p s r (version % 2) la in
      let more : (slice_index s.words (claims_place (version % 2)) + 1) % 2 ^ 64 ≡ count_of r.core (version % 2) + 1 = omega arith in
      let P : ℕ → Type 0 =
      λ x. Ruled p (record { words = set s.words (claims_place (version % 2)) x; homes = s.homes; views = set s.views id (acting v (Asks (version % 2))) }) in
      subst P (sym more)
      (seat_step p s r id v at (claims_place (version % 2)) (count_of r.core (version % 2) + 1) (acting v (Asks (version % 2)))
      (entered r.core id v.actor (version % 2)) (enters_sound r.core id v.actor version r.sound (actor_at p s r id v at) looks) refl
      (laid_claims s.words _ _ _ _ r.words (version % 2) (count_of r.core (version % 2) + 1) la r.sound.two_counts)
      refl refl (shows_desk p s r id v at) (λ _. (refl, refl)) (up_to (now_of r.core)) refl (fits_still (Asks (version % 2)) shared))

  -- one claim less on an area
  leave_now : (a : ℕ) → 0 < v.share → HasClaimed a v.actor.state
      → Ruled p (record { words = set s.words (claims_place a) ((slice_index s.words (claims_place a) + (2 ^ 64 - 1)) % 2 ^ 64); homes = s.homes; views = set s.views id (acting v Idle) })
  leave_now a shared has =
      let la : a < 2 = claimed_area r.core id v.actor a r.sound (actor_at p s r id v at) has in
      let was : slice_index s.words (claims_place a) ≡ count_of r.core a = r.words.claims a la in
      let few : count_of r.core a ≤ 65536 = few_claims p s r a la in
      let some_one : 1 ≤ count_of r.core a = counted_there r.core id v.actor a r.sound (actor_at p s r id v at) has in
      let less : (slice_index s.words (claims_place a) + (2 ^ 64 - 1)) % 2 ^ 64 ≡ count_of r.core a - 1 = omega arith in
      let P : ℕ → Type 0 =
      λ x. Ruled p (record { words = set s.words (claims_place a) x; homes = s.homes; views = set s.views id (acting v Idle) }) in
      subst P (sym less)
      (seat_step p s r id v at (claims_place a) (count_of r.core a - 1) (acting v Idle) (gone r.core id v.actor a)
      (leaves_sound r.core id v.actor a r.sound (actor_at p s r id v at) has) refl
      (laid_claims s.words _ _ _ _ r.words a (count_of r.core a - 1) la r.sound.two_counts)
      refl refl (shows_desk p s r id v at) (λ _. (refl, refl)) (up_to (now_of r.core)) refl (fits_still Idle shared))

  -- a word of the held area is read
  read_word_now : (i : ℕ) → 0 < v.share
      → Ruled p (record { words = set s.words i (slice_index s.words i); homes = s.homes; views = set s.views id (record v { reads = v.reads + 1 }) })
  read_word_now i shared =
      let f = fits p s r id v at in
      seat_step p s r id v at i (slice_index s.words i) (record v { reads = v.reads + 1 }) r.core r.sound refl (same_words p s r id v at i)
      (same_actors p s r id v at) refl (shows_desk p s r id v at) (λ _. (refl, refl)) (up_to (now_of r.core)) refl
      (record { same_plan = f.same_plan; unshared = f.unshared; rightless = f.rightless; undrawn = f.undrawn; seen = f.seen; prior = f.prior })

  -- and is the word of the held table
  word_is : (a w : ℕ) → v.plan ≡ p → v.actor.state ≡ Holds a w → (j : ℕ) → j < length (table v.plan w)
      → slice_index s.words (row_place (width v.plan) a + j) ≡ slice_index (table v.plan w) j
  word_is a w same holds j inside =
      let plans : r.core.plan ≡ v.plan = r.same_plan ∙ sym same in
      let right : HoldsRightly r.core (Holds a w) = subst (HoldsRightly r.core) holds (r.sound.held id v.actor (actor_at p s r id v at)) in
      let la : a < 2 = omega (arith, right.0) in
      let Inside : Tables → Type 0 = λ q. j < length (table q w) in
      let in_table : j < length (table r.core.plan w) = subst Inside (sym plans) inside in
      let in_row : j < width r.core.plan = omega (arith, table_fits r.core.plan w) in
      let Word : Tables → Type 0 = λ q. slice_index s.words (row_place (width q) a + j) ≡ slice_index (table q w) j in
      let here : slice_index s.words (row_place (width r.core.plan) a + j) ≡ slice_index (table r.core.plan w) j =
      r.words.rows a j la in_row ∙ reads_whole r.core id v.actor a w r.sound (actor_at p s r id v at) holds j in_table in
      subst Word plans here

  -- the next numbers are the seat's
  draw_now : (old count a : ℕ) → 0 < v.share → 0 < v.right → slice_index s.words version_place ≡ old → v.actor.state ≡ Holds a r.core.version
      → r.core.records + count ≤ limit r.core.plan r.core.version
      → Ruled p (record { words = set s.words version_place (old + count); homes = s.homes; views = set s.views id (taking (reading v (unpacked (slice_index s.words version_place))) (consecutive (unpacked (slice_index s.words version_place)).records count (unpacked (slice_index s.words version_place)).version)) })
  draw_now old count a shared may found holds room =
      let P : Seen → Type 0 =
      λ t. Ruled p (record { words = set s.words version_place (old + count); homes = s.homes; views = set s.views id (taking (reading v t) (consecutive t.records count t.version)) }) in
      let f = fits p s r id v at in
      let more : IsUpTo (now_of r.core) (now_of (several_drawn r.core id v.actor count)) = record { version = omega arith; records = omega arith } in
      let word : old + count ≡ packed (now_of (several_drawn r.core id v.actor count)) = omega (arith, r.words.first) in
      subst P (sym (unpacks p s r id v at))
      (seat_step p s r id v at version_place (old + count) (taking (reading v (now_of r.core)) (consecutive r.core.records count r.core.version))
      (several_drawn r.core id v.actor count) (several_sound r.core id count a v.actor r.sound (actor_at p s r id v at) holds room) refl
      (laid_now s.words _ _ _ _ r.words (old + count) (now_of (several_drawn r.core id v.actor count)) word)
      refl refl (shows_desk p s r id v at) (λ _. (refl, refl)) more refl
      (record { same_plan = f.same_plan; unshared = λ none. absurd (omega arith); rightless = f.rightless; undrawn = λ none. absurd (omega arith); seen = more; prior = f.seen }))

module _ (p : Tables) (slots id : ℕ) (me : Seated) (same : me.0.plan ≡ p) where
  pub glances : Allows (Ruled p) slots id me version_place (λ n. n) (Glanced (step slots version_place 0 0 none) me)
  glances s r deep at range = (
    reading me.0 (unpacked (slice_index s.words version_place)),
    acts.keeps,
    tt,
    read_now p s r id me.0 at,
    record {
      after = refl;
      sees = sees_word p s r id me.0 at same;
      now = moment_after p s r id me.0 at version_place (slice_index s.words version_place) (reading me.0 (unpacked (slice_index s.words version_place))) same (read_now p s r id me.0 at);
    },
  )

  pub looks : 0 < me.0.share → me.0.actor.state ≡ Idle → Allows (Ruled p) slots id me version_place (λ n. n) (LookedAt (step slots version_place 0 0 none) me)
  looks shared idle s r deep at range =
      let ruled = look_now p s r id me.0 at shared idle in (
        acting (reading me.0 (unpacked (slice_index s.words version_place))) (Looked (unpacked (slice_index s.words version_place)).version),
        acts.keeps,
        tt,
        ruled,
        record {
          after = refl;
          sees = sees_word p s r id me.0 at same;
          now = moment_after p s r id me.0 at version_place (slice_index s.words version_place) (acting (reading me.0 (unpacked (slice_index s.words version_place))) (Looked (unpacked (slice_index s.words version_place)).version)) same ruled;
        },
      )

  enters_there : (version : ℕ) → 0 < me.0.share → me.0.actor.state ≡ Looked version
      → Allows (Ruled p) slots id me (claims_place (version % 2)) (λ n. (n + 1) % 2 ^ 64) (Entered (step slots (claims_place (version % 2)) 1 0 none) me)
  enters_there version shared looks s r deep at range =
      let ruled = enter_now p s r id me.0 at version shared looks in (
        acting me.0 (Asks (version % 2)),
        acts.keeps,
        tt,
        ruled,
        record {
          version = version;
          looked = looks;
          after = refl;
          now = moment_after p s r id me.0 at (claims_place (version % 2)) ((slice_index s.words (claims_place (version % 2)) + 1) % 2 ^ 64) (acting me.0 (Asks (version % 2))) same ruled;
        },
      )

  pub enters : (version i : ℕ) → i ≡ claims_place (version % 2) → 0 < me.0.share → me.0.actor.state ≡ Looked version
      → Allows (Ruled p) slots id me i (λ n. (n + 1) % 2 ^ 64) (Entered (step slots i 1 0 none) me)
  enters version i here shared looks =
      let P : ℕ → Type 0 = λ k. Allows (Ruled p) slots id me k (λ n. (n + 1) % 2 ^ 64) (Entered (step slots k 1 0 none) me) in
      subst P (sym here) (enters_there version shared looks)

  leaves_there : (a : ℕ) → 0 < me.0.share → HasClaimed a me.0.actor.state
      → Allows (Ruled p) slots id me (claims_place a) (λ n. (n + (2 ^ 64 - 1)) % 2 ^ 64) (LeftIt (step slots (claims_place a) 1 0 none) me)
  leaves_there a shared has s r deep at range =
      let ruled = leave_now p s r id me.0 at a shared has in (
        acting me.0 Idle,
        acts.keeps,
        tt,
        ruled,
        record {
          after = refl;
          now = moment_after p s r id me.0 at (claims_place a) ((slice_index s.words (claims_place a) + (2 ^ 64 - 1)) % 2 ^ 64) (acting me.0 Idle) same ruled;
        },
      )

  pub leaves : (a i : ℕ) → i ≡ claims_place a → 0 < me.0.share → HasClaimed a me.0.actor.state
      → Allows (Ruled p) slots id me i (λ n. (n + (2 ^ 64 - 1)) % 2 ^ 64) (LeftIt (step slots i 1 0 none) me)
  leaves a i here shared has =
      let P : ℕ → Type 0 = λ k. Allows (Ruled p) slots id me k (λ n. (n + (2 ^ 64 - 1)) % 2 ^ 64) (LeftIt (step slots k 1 0 none) me) in
      subst P (sym here) (leaves_there a shared has)

  pub confirms : (a : ℕ) → 0 < me.0.share → me.0.actor.state ≡ Asks a → Allows (Ruled p) slots id me version_place (λ n. n) (Confirmed (step slots version_place 0 0 none) me)
  confirms a shared asks s r deep at range =
      let n : ℕ = slice_index s.words version_place in
      let version_is : (unpacked (slice_index s.words version_place)).version ≡ r.core.version = ap (λ (t : Seen). t.version) (unpacks p s r id me.0 at) in
      elim (cases_eq ((unpacked (slice_index s.words version_place)).version % 2) a) [
        | inl e ↦
            let there : r.core.version % 2 ≡ a = ap (λ (w : ℕ). w % 2) (sym version_is) ∙ e in
            let ruled = confirm_now p s r id me.0 at a shared asks there in (
              acting (reading me.0 (unpacked (slice_index s.words version_place))) (Holds a (unpacked (slice_index s.words version_place)).version),
              acts.keeps,
              tt,
              ruled,
              record {
                area = a;
                asked = asks;
                held = λ _. refl;
                moved = λ other. absurd (other e);
                sees = sees_word p s r id me.0 at same;
                now = moment_after p s r id me.0 at version_place (slice_index s.words version_place) (acting (reading me.0 (unpacked (slice_index s.words version_place))) (Holds a (unpacked (slice_index s.words version_place)).version)) same ruled;
              },
            )
        | inr other ↦
            let ruled = read_now p s r id me.0 at in (
              reading me.0 (unpacked (slice_index s.words version_place)),
              acts.keeps,
              tt,
              ruled,
              record {
                area = a;
                asked = asks;
                held = λ e. absurd (other e);
                moved = λ _. refl;
                sees = sees_word p s r id me.0 at same;
                now = moment_after p s r id me.0 at version_place (slice_index s.words version_place) (reading me.0 (unpacked (slice_index s.words version_place))) same ruled;
              },
            )
      ]

  pub reads_word : (i area version : ℕ) → 0 < me.0.share → me.0.actor.state ≡ Holds area version
      → Allows (Ruled p) slots id me i (λ n. n) (ReadOne (step slots i 0 0 none) me)
  reads_word i area version shared holds s r deep at range =
      let ruled = read_word_now p s r id me.0 at i shared in (
        record me.0 { reads = me.0.reads + 1 },
        acts.keeps,
        tt,
        ruled,
        record {
          after = refl;
          area = area;
          version = version;
          held = holds;
          word = λ j inside e.
              ap (λ (k : ℕ). slice_index s.words k) e ∙ word_is p s r id me.0 at area version same holds j inside;
          now = moment_after p s r id me.0 at i (slice_index s.words i) (record me.0 { reads = me.0.reads + 1 }) same ruled;
        },
      )

  pub draws : (old count a : ℕ) → 0 < me.0.share → 0 < me.0.right → packed me.0.seen ≡ old → me.0.seen.records < 4294967296
      → me.0.actor.state ≡ Holds a me.0.seen.version → me.0.seen.records + count ≤ limit me.0.plan me.0.seen.version
      → Allows (Ruled p) slots id me version_place (λ n. either (eqb n old) (old + count) n) (Drew (step slots version_place old (old + count) none) me)
  draws old count a shared may saw small holds room s r deep at range =
      elim (cases_eq (slice_index s.words version_place) old) [
        | inl e ↦
            let same_now : me.0.seen ≡ now_of r.core =
            same_packed me.0.seen (now_of r.core) (saw ∙ sym e ∙ r.words.first) small (omega (arith, few_records r.core r.sound)) in
            let Room : Seen → Type 0 = λ t. t.records + count ≤ limit me.0.plan t.version in
            let in_plan : r.core.records + count ≤ limit me.0.plan r.core.version = subst Room same_now room in
            let Limit : Tables → Type 0 = λ q. r.core.records + count ≤ limit q r.core.version in
            let in_core : r.core.records + count ≤ limit r.core.plan r.core.version = subst Limit (same ∙ sym r.same_plan) in_plan in
            let in_force : me.0.actor.state ≡ Holds a r.core.version = holds ∙ ap (λ (t : Seen). Holds a t.version) same_now in
            let v : ℕ → View = λ k. taking (reading me.0 (unpacked (slice_index s.words version_place))) (consecutive (unpacked (slice_index s.words version_place)).records k (unpacked (slice_index s.words version_place)).version) in
            let more : old + count - old ≡ count = omega arith in
            let Q : ℕ → Type 0 = λ k. Ruled p (record { words = set s.words version_place (old + count); homes = s.homes; views = set s.views id (v k) }) in
            let ruled : Ruled p (record { words = set s.words version_place (old + count); homes = s.homes; views = set s.views id (v (old + count - old)) }) =
            subst Q (sym more) (draw_now p s r id me.0 at old count a shared may e in_force in_core) in
            let P : ℕ → Type 0 = λ x. Ruled p (record { words = set s.words version_place x; homes = s.homes; views = set s.views id (v (old + count - old)) }) in
            let test : eqb (slice_index s.words version_place) old ≡ true = eq-eqb (slice_index s.words version_place) old e in
            let wrote : either (eqb (slice_index s.words version_place) old) (old + count) (slice_index s.words version_place) ≡ old + count =
            ap (λ (b : Bool). either b (old + count) (slice_index s.words version_place)) test in (
              v (old + count - old),
              acts.keeps,
              tt,
              subst P (sym wrote) ruled,
              record {
                taken = λ _. refl;
                lost = λ other. absurd (other e);
                sees = sees_word p s r id me.0 at same;
                now = moment_after p s r id me.0 at version_place (old + count) (v (old + count - old)) same ruled;
              },
            )
        | inr other ↦
            let v : View = reading me.0 (unpacked (slice_index s.words version_place)) in
            let ruled : Ruled p (record { words = set s.words version_place (slice_index s.words version_place); homes = s.homes; views = set s.views id v }) =
            read_now p s r id me.0 at in
            let P : ℕ → Type 0 = λ x. Ruled p (record { words = set s.words version_place x; homes = s.homes; views = set s.views id v }) in
            let test : eqb (slice_index s.words version_place) old ≡ false = ne_eqb (slice_index s.words version_place) old other in
            let wrote : either (eqb (slice_index s.words version_place) old) (old + count) (slice_index s.words version_place) ≡ slice_index s.words version_place =
            ap (λ (b : Bool). either b (old + count) (slice_index s.words version_place)) test in (
              v,
              acts.keeps,
              tt,
              subst P (sym wrote) ruled,
              record {
                taken = λ e. absurd (other e);
                lost = λ _. refl;
                sees = sees_word p s r id me.0 at same;
                now = moment_after p s r id me.0 at version_place (slice_index s.words version_place) v same ruled;
              },
            )
      ]
