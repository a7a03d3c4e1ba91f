-- What the steps of the desk make of its seat, from what each of them told.
use Rattle.std.proofs.Common.{◌≡◌, ◌≢◌, ◌⊎◌, ℕ, ◌+◌, ◌<◌, ◌≤◌, true, List, length, slice_index, subst, sym, refl, ap, ◌∙◌, arith, inl, inr}
use mathlib.Core.Option.{none}
use Rattle.atomic_table.specs.Seated.{TableId}
use Rattle.atomic_table.specs.Table.{Allows, step}
use Rattle.swap_core.specs.Plans.{Tables, AreAlike, window}
use Rattle.swap_core.specs.Sound.{IsWriting, IsAtWork}
use Rattle.swap_core.specs.declared.actors.DeskState.{DeskState}
use Rattle.swap_core.specs.declared.actors.DeskState.TheVariants.{Resting, Ready, Writing}
use Rattle.area_swap.specs.declared.answers.Seen.{Seen}
use Rattle.area_swap.specs.declared.board.View.{View}
use Rattle.area_swap.specs.Values.{HasWritten, IsClear, IsDesk}
use Rattle.area_swap.specs.Views.{unpacked, reading, next_of, stale_of}
use Rattle.area_swap.specs.Rule.{Ruled, Sees}
use Rattle.area_swap.specs.Answers.{NoneDue, LaterDue, NowDue, HasPublished}
use Rattle.area_swap.specs.SeatSteps.{Stepped, Seated, FoundDue, FoundWord, Passed, Wrote, Published}
use Rattle.area_swap.proofs.DeskSteps.{finds_word, passes_words, writes_word}

-- who rests or is ready does not write
pub not_writing : (d : DeskState) → (d ≡ Resting) ⊎ (d ≡ Ready) → IsWriting d → ⊥
not_writing d (inl e) w = let P : DeskState → Type 0 = IsWriting in subst P e w
not_writing d (inr e) w = let P : DeskState → Type 0 = IsWriting in subst P e w

module _ {st : Stepped} {m0 m1 : Seated} {n : ℕ} (k : FoundDue st m0 n m1) (s : Seen) (es : s ≡ unpacked n) where
  due_sees : Sees m0.0 s
  due_sees = subst (Sees m0.0) (sym es) k.sees

  stays_view : m1 ≡ (reading m0.0 (unpacked n), m0.1) → m1 ≡ (reading m0.0 s, m0.1)
  stays_view e = e ∙ ap (λ (t : Seen). (reading m0.0 t, m0.1)) (sym es)

  last_version : length m0.0.plan.tables ≤ s.version + 1 → length m0.0.plan.tables ≤ (unpacked n).version + 1
  last_version l = let P : Seen → Type 0 = λ t. length m0.0.plan.tables ≤ t.version + 1 in subst P es l

  more_versions : s.version + 1 < length m0.0.plan.tables → (unpacked n).version + 1 < length m0.0.plan.tables
  more_versions l = let P : Seen → Type 0 = λ t. t.version + 1 < length m0.0.plan.tables in subst P es l

  -- who is ready has a next table, whose window is reached
  ready_next : m0.0.has_desk ≡ true → m0.0.desk ≡ Ready
      → (s.version + 1 < length m0.0.plan.tables) × ((window m0.0.plan (s.version + 1)).earliest ≤ s.records)
  ready_next has ready =
      let P : DeskState → Type 0 = IsAtWork in
      due_sees.next has (subst P (sym ready) tt)

  pub none_is : m0.0.has_desk ≡ true → (m0.0.desk ≡ Resting) ⊎ (m0.0.desk ≡ Ready) → length m0.0.plan.tables ≤ s.version + 1
      → NoneDue m0.0.plan m0.0 m1.0
  none_is has phase last =
      let rests : m0.0.desk ≡ Resting = elim phase [ inl e ↦ e | inr e ↦ absurd (omega (arith, (ready_next has e).0)) ] in
      let P : Seated → Type 0 = λ m. NoneDue m0.0.plan m0.0 m.0 in
      subst P (sym (stays_view (k.none (last_version last)))) (record { after = refl; last = last; rests = rests; sees = due_sees })

  pub later_is : m0.0.has_desk ≡ true → (m0.0.desk ≡ Resting) ⊎ (m0.0.desk ≡ Ready) → s.version + 1 < length m0.0.plan.tables
      → (earliest : ℕ) → earliest ≡ (window m0.0.plan (s.version + 1)).earliest → s.records < earliest
      → LaterDue m0.0.plan s.records earliest m0.0 m1.0
  later_is has phase more earliest e few =
      let rests : m0.0.desk ≡ Resting = elim phase [ inl h ↦ h | inr ready ↦ absurd (omega (arith, (ready_next has ready).1)) ] in
      let P : Seated → Type 0 = λ m. LaterDue m0.0.plan s.records earliest m0.0 m.0 in
      let F : Seen → Type 0 = λ t. t.records < (window m0.0.plan (t.version + 1)).earliest in
      let too_few : (unpacked n).records < (window m0.0.plan ((unpacked n).version + 1)).earliest = subst F es (omega arith) in
      subst P (sym (stays_view (k.later (more_versions more) too_few)))
      (record { after = refl; more = more; read = refl; wants = sym e; too_few = few; rests = rests; sees = due_sees })

  pub now_is : s.version + 1 < length m0.0.plan.tables → (window m0.0.plan (s.version + 1)).earliest ≤ s.records → NowDue m0.0.plan m0.0 m1.0
  now_is more reached =
      let P : Seated → Type 0 = λ m. NowDue m0.0.plan m0.0 m.0 in
      let F : Seen → Type 0 = λ t. (window m0.0.plan (t.version + 1)).earliest ≤ t.records in
      let view : m1 ≡ (record (reading m0.0 s) { desk = Ready }, m0.1) =
      k.ready (more_versions more) (subst F es reached) ∙ ap (λ (t : Seen). (record (reading m0.0 t) { desk = Ready }, m0.1)) (sym es) in
      subst P (sym view) (record { after = refl; more = more; reached = reached; sees = due_sees })

-- the point is the number of records that the desk found
pub published_is : {st : Stepped} {m0 m1 : Seated} {n : ℕ} → Published st m0 n m1 → (s : Seen) → s ≡ unpacked n → m0.0.has_desk ≡ true
    → HasPublished s.records m0.0 m1.0
published_is {st} {m0} {m1} {n} k s es has =
    let knows : (unpacked n).version ≡ length m0.0.points = sym (k.sees.pointed has) in
    let found : unpacked n ≡ record { version = length m0.0.points; records = (unpacked n).records } =
    ap (λ (w : ℕ). let t : Seen = record { version = w; records = (unpacked n).records } in t) knows in
    let P : ℕ → Type 0 = λ point. HasPublished point m0.0 m1.0 in
    subst P (sym (ap (λ (t : Seen). t.records) es))
    (record {
      after = ap (λ (m : Seated). m.0) k.after;
      sees = subst (Sees m0.0) found k.sees;
      in_window = k.in_window;
      rises = k.rises;
    })

-- the desk writes at this word
abbrev pub writing_at : Seated → ℕ → Seated
writing_at m j = (record m.0 { desk = Writing j }, m.1)

-- who begins to write has a next table
pub next_in : (v : View) (p : Tables) → IsDesk v → IsClear v → v.plan ≡ p → length v.points + 1 < length p.tables
next_in v p desk clear same =
    let W : DeskState → Type 0 = IsAtWork in
    let T : Tables → Type 0 = λ q. length v.points + 1 < length q.tables in
    subst T same (desk.next (subst W (sym clear) tt))

-- what is known while words are written, behind any of them
pub written_on : (id : TableId) (plan : Tables) (words : List ℕ) (row i j : ℕ) (v w : View) → HasWritten id plan words row i v
    → w ≡ record v { desk = Writing j } → HasWritten id plan words row j w
written_on id plan words row i j v w h e =
    let P : View → Type 0 = HasWritten id plan words row j in
    subst P (sym e)
    (record { same_plan = h.same_plan; has = h.has; desk = refl; next = h.next; begins = h.begins; inside = h.inside; small = h.small })

module _ (id : TableId) (p : Tables) (words : List ℕ) (row j slots seat : ℕ) (me : Seated) (h : HasWritten id p words row j me.0) where
  more : j < length words → j < length (next_of me.0)
  more l = omega (arith, ap (λ (l : List ℕ). length l) h.next)

  pub may_pass : (end : ℕ) → j ≤ end → end ≤ length words → AreAlike (stale_of me.0) words j end
      → Allows (Ruled p) slots seat me (row + end) (λ n. n) (Passed (step slots (row + end) 0 0 none) me)
  may_pass end order inside alike =
      let P : List ℕ → Type 0 = λ l. AreAlike (stale_of me.0) l j end in
      let room : end ≤ length (next_of me.0) = omega (arith, ap (λ (l : List ℕ). length l) h.next) in
      passes_words p slots seat me h.same_plan h.has j end (row + end) h.desk order room (subst P h.next alike) (ap (λ (k : ℕ). k + end) h.begins)

  pub may_find : j < length words → Allows (Ruled p) slots seat me (row + j) (λ n. n) (FoundWord (step slots (row + j) 0 0 none) me)
  may_find l = finds_word p slots seat me h.same_plan h.has j (row + j) h.desk (more l) (ap (λ (k : ℕ). k + j) h.begins)

  pub may_write : (x : ℕ) → j < length words → x ≡ slice_index words j
      → Allows (Ruled p) slots seat me (row + j) (λ _. x) (λ _. Wrote (step slots (row + j) x 0 none) me x)
  may_write x l word =
      writes_word p slots seat me h.same_plan h.has j (row + j) x h.desk (more l) (ap (λ (k : ℕ). k + j) h.begins)
      (word ∙ ap (λ (l : List ℕ). slice_index l j) h.next)

pub passed_view : (id : TableId) (p : Tables) (words : List ℕ) (row j end : ℕ) {st : Stepped} {me after : Seated} {n : ℕ} → HasWritten id p words row j me.0
    → Passed st me n after → st.word ≡ row + end → after ≡ writing_at me end
passed_view id p words row j end {st} {me} {after} {n} h k there =
    let same : k.words ≡ end = omega (arith, k.place, h.begins) in
    k.after ∙ ap (λ (i : ℕ). writing_at me i) same

same_writing : (d : DeskState) (i j : ℕ) → d ≡ Writing i → d ≡ Writing j → i ≡ j
same_writing d i j e k = let both : Writing i ≡ Writing j = sym e ∙ k in cc

pub written_view : {st : Stepped} {me after : Seated} {n : ℕ} (m0 : Seated) (j : ℕ) → Wrote st me n after → me ≡ writing_at m0 j
    → after ≡ writing_at m0 (j + 1)
written_view {st} {me} {after} m0 j k e =
    let same : k.words ≡ j = same_writing me.0.desk k.words j k.was (ap (λ (m : Seated). m.0.desk) e) in
    k.after ∙ ap (λ (i : ℕ). (record me.0 { desk = Writing (i + 1) }, me.1)) same
    ∙ ap (λ (m : Seated). (record m.0 { desk = Writing (j + 1) }, m.1)) e

module _ {st : Stepped} {me after : Seated} {n : ℕ} (m0 : Seated) (j : ℕ) (words : List ℕ) (k : FoundWord st me n after) (e : me ≡ writing_at m0 j)
    (next : words ≡ next_of m0.0) where
  found_at : k.words ≡ j
  found_at = same_writing me.0.desk k.words j k.was (ap (λ (m : Seated). m.0.desk) e)

  -- the word of the next table at this place
  next_word : slice_index (next_of me.0) k.words ≡ slice_index words j
  next_word =
      ap (λ (i : ℕ). slice_index (next_of me.0) i) found_at ∙ ap (λ (m : Seated). slice_index (next_of m.0) j) e
      ∙ sym (ap (λ (l : List ℕ). slice_index l j) next)

  pub standing_view : n ≡ slice_index words j → after ≡ writing_at m0 (j + 1)
  standing_view stands =
      k.stands (stands ∙ sym next_word) ∙ ap (λ (i : ℕ). (record me.0 { desk = Writing (i + 1) }, me.1)) found_at
      ∙ ap (λ (m : Seated). (record m.0 { desk = Writing (j + 1) }, m.1)) e

  pub other_view : n ≢ slice_index words j → after ≡ writing_at m0 j
  other_view differs = k.differs (λ stands. differs (stands ∙ next_word)) ∙ e

-- what stands in the spare area does not hang on where the desk writes
pub alike_still : (m0 me : Seated) (words : List ℕ) (i from end : ℕ) → me ≡ writing_at m0 i → AreAlike (stale_of m0.0) words from end
    → AreAlike (stale_of me.0) words from end
alike_still m0 me words i from end e h =
    let P : Seated → Type 0 = λ m. AreAlike (stale_of m.0) words from end in
    subst P (sym e) h
