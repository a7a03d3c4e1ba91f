-- The answer of an actor's step, from the row for its state.
use Rattle.std.proofs.Common.{◌≡◌, ℕ, ◌%◌, ◌<◌, ◌≤◌, Bool, true, false, eqb, ltb, if◌then◌else◌, List, length, get_or, slice_index, subst, sym, refl, ap, ◌∙◌, inl, inr, eq-eqb, ne_eqb, lt-ltb, le-ltb}
use mathlib.Core.Option as maybe
use lib.ListN.{get_elem?}
use Rattle.std.proofs.lemmas.List.{get_or_default}
use Rattle.swap_core.specs.Plans.{table, limit}
use Rattle.swap_core.specs.States.{CoreState, area, confirmed, drawn, gone, next_table, written}
use Rattle.swap_core.specs.Transitions.{Outcome, IsAnswer, yes, no, by_actor, look, enter, confirm, read, draw, leave, write}
use Rattle.swap_core.specs.declared.actors.Actor.{Actor}
use Rattle.swap_core.specs.declared.actors.ActorState.{ActorState}
use Rattle.swap_core.specs.declared.actors.ActorState.TheVariants.{Idle, Looked, Asks, Holds}
use Rattle.swap_core.specs.declared.actors.DeskState.TheVariants.{Writing}
use Rattle.swap_core.specs.declared.steps.NotNow.{NotNow}
use Rattle.swap_core.specs.declared.steps.NotNow.TheVariants.{Stranger, Phase, Moved, Past, Hold}
use Rattle.swap_core.specs.declared.steps.Took.{Took}
use Rattle.swap_core.specs.declared.steps.Took.TheVariants.{Yes, No}
use Rattle.aftr_base.proofs.PlaceLemmas.{at_past}
use Rattle.swap_core.specs.Sound.{HasClaimed}

-- two reads of one place give one element
pub same_read : {A : Type 0} (xs : List A) (i : ℕ) (a b : A) → i < length xs → a ≡ get_or xs i a → b ≡ get_or xs i b → a ≡ b
same_read xs i a b l at_a at_b = at_a ∙ get_or_default xs i a b l ∙ sym at_b

pub refused : (c : CoreState) (o : Outcome) (cause : NotNow) (t : Took) → o ≡ no c cause → t ≡ No cause → IsAnswer o t c
refused c o cause t e says = let P : Outcome → Type 0 = λ p. IsAnswer p t c in subst P (sym e) (says, refl)

pub taken : (after : CoreState) (o : Outcome) (v : ℕ) (t : Took) → o ≡ yes after v → t ≡ Yes v → IsAnswer o t after
taken after o v t e says = let P : Outcome → Type 0 = λ p. IsAnswer p t after in subst P (sym e) (says, refl)

module _ (row : CoreState → Actor → ActorState → Outcome) where
  pub stranger : (b c : CoreState) (who : ℕ) (t : Took) → b ≡ c → length b.actors ≤ who → t ≡ No Stranger
      → IsAnswer (by_actor c (get_elem? c.actors who) (row c)) t c
  stranger b c who t e past says =
      let P : maybe.Option Actor → Type 0 = λ o. IsAnswer (by_actor b o (row b)) t b in
      let Q : CoreState → Type 0 = λ d. IsAnswer (by_actor d (get_elem? d.actors who) (row d)) t d in
      subst Q e (subst P (sym (at_past b.actors who past)) (says, refl))

  pub acts : (b c : CoreState) (who : ℕ) (x : Actor) (s : ActorState) (t : Took) (now : CoreState) → b ≡ c
      → get_elem? b.actors who ≡ maybe.some x → x.state ≡ s → IsAnswer (row b x s) t now
      → IsAnswer (by_actor c (get_elem? c.actors who) (row c)) t now
  acts b c who x s t now e at state a =
      let R : ActorState → Type 0 = λ z. IsAnswer (row b x z) t now in
      let P : maybe.Option Actor → Type 0 = λ o. IsAnswer (by_actor b o (row b)) t now in
      let Q : CoreState → Type 0 = λ d. IsAnswer (by_actor d (get_elem? d.actors who) (row d)) t now in
      subst Q e (subst P (sym at) (subst R (sym state) a))

  -- an answer that changes nothing
  pub still : (b c : CoreState) (who : ℕ) (x : Actor) (s : ActorState) (t : Took) → b ≡ c
      → get_elem? b.actors who ≡ maybe.some x → x.state ≡ s → IsAnswer (row b x s) t b
      → IsAnswer (by_actor c (get_elem? c.actors who) (row c)) t c
  still b c who x s t e at state a =
      let Q : CoreState → Type 0 = λ d. IsAnswer (by_actor c (get_elem? c.actors who) (row c)) t d in
      subst Q e (acts b c who x s t b e at state a)

  pub stays : (b c : CoreState) (who : ℕ) (x : Actor) (s : ActorState) (cause : NotNow) (t : Took) → b ≡ c
      → get_elem? b.actors who ≡ maybe.some x → x.state ≡ s → row b x s ≡ no b cause → t ≡ No cause
      → IsAnswer (by_actor c (get_elem? c.actors who) (row c)) t c
  stays b c who x s cause t e at state r says = still b c who x s t e at state (refused b (row b x s) cause t r says)

-- from another state than the row's, the step is not taken
pub look_else : (c : CoreState) (who : ℕ) (x : Actor) (s : ActorState) → (s ≡ Idle → ⊥) → look c who x s ≡ no c Phase
look_else c who x Idle n = absurd (n refl)
look_else c who x (Looked v) n = refl
look_else c who x (Asks a) n = refl
look_else c who x (Holds a w) n = refl

pub enter_else : (c : CoreState) (who : ℕ) (x : Actor) (s : ActorState) → ((v : ℕ) → s ≡ Looked v → ⊥) → enter c who x s ≡ no c Phase
enter_else c who x Idle n = refl
enter_else c who x (Looked v) n = absurd (n v refl)
enter_else c who x (Asks a) n = refl
enter_else c who x (Holds a w) n = refl

pub confirm_else : (c : CoreState) (who : ℕ) (x : Actor) (s : ActorState) → ((a : ℕ) → s ≡ Asks a → ⊥)
    → confirm c who x s ≡ no c Phase
confirm_else c who x Idle n = refl
confirm_else c who x (Looked v) n = refl
confirm_else c who x (Asks a) n = absurd (n a refl)
confirm_else c who x (Holds a w) n = refl

pub read_else : (c : CoreState) (place : ℕ) (s : ActorState) → ((a w : ℕ) → s ≡ Holds a w → ⊥) → read c place s ≡ no c Phase
read_else c place Idle n = refl
read_else c place (Looked v) n = refl
read_else c place (Asks a) n = refl
read_else c place (Holds a w) n = absurd (n a w refl)

pub draw_else : (c : CoreState) (who : ℕ) (x : Actor) (s : ActorState) → ((a w : ℕ) → s ≡ Holds a w → ⊥)
    → draw c who x s ≡ no c Phase
draw_else c who x Idle n = refl
draw_else c who x (Looked v) n = refl
draw_else c who x (Asks a) n = refl
draw_else c who x (Holds a w) n = absurd (n a w refl)

pub leave_else : (c : CoreState) (who : ℕ) (x : Actor) (s : ActorState) → ((a : ℕ) → HasClaimed a s → ⊥) → leave c who x s ≡ no c Phase
leave_else c who x Idle n = refl
leave_else c who x (Looked v) n = refl
leave_else c who x (Asks a) n = absurd (n a (inl refl))
leave_else c who x (Holds a w) n = absurd (n a (inr (w, refl)))

on_true : (b : Bool) (m n : Outcome) → b ≡ true → (if b then m else n) ≡ m
on_true b m n e = ap (λ (t : Bool). if t then m else n) e

on_false : (b : Bool) (m n : Outcome) → b ≡ false → (if b then m else n) ≡ n
on_false b m n e = ap (λ (t : Bool). if t then m else n) e

-- each row at its tests
pub confirm_moved : (c : CoreState) (who : ℕ) (x : Actor) (a : ℕ) → (c.version % 2 ≡ a → ⊥) → confirm c who x (Asks a) ≡ no c Moved
confirm_moved c who x a n = on_false (eqb (c.version % 2) a) _ _ (ne_eqb (c.version % 2) a n)

pub confirm_held : (c : CoreState) (who : ℕ) (x : Actor) (a : ℕ) → c.version % 2 ≡ a
    → confirm c who x (Asks a) ≡ yes (confirmed c who x a) c.version
confirm_held c who x a e = on_true (eqb (c.version % 2) a) _ _ (eq-eqb (c.version % 2) a e)

pub read_past : (c : CoreState) (place a w : ℕ) → length (table c.plan w) ≤ place → read c place (Holds a w) ≡ no c Past
read_past c place a w l = on_false (ltb place (length (table c.plan w))) _ _ (le-ltb place (length (table c.plan w)) l)

pub read_word : (c : CoreState) (place a w : ℕ) → place < length (table c.plan w)
    → read c place (Holds a w) ≡ yes c (slice_index (area c a) place)
read_word c place a w l = on_true (ltb place (length (table c.plan w))) _ _ (lt-ltb place (length (table c.plan w)) l)

pub draw_moved : (c : CoreState) (who : ℕ) (x : Actor) (a w : ℕ) → (c.version ≡ w → ⊥) → draw c who x (Holds a w) ≡ no c Moved
draw_moved c who x a w n = on_false (eqb c.version w) _ _ (ne_eqb c.version w n)

pub draw_hold : (c : CoreState) (who : ℕ) (x : Actor) (a w : ℕ) → c.version ≡ w → c.records ≡ limit c.plan c.version
    → draw c who x (Holds a w) ≡ no c Hold
draw_hold c who x a w e f =
    on_true (eqb c.version w) _ _ (eq-eqb c.version w e)
    ∙ on_true (eqb c.records (limit c.plan c.version)) _ _ (eq-eqb c.records (limit c.plan c.version) f)

pub draw_next : (c : CoreState) (who : ℕ) (x : Actor) (a w : ℕ) → c.version ≡ w → (c.records ≡ limit c.plan c.version → ⊥)
    → draw c who x (Holds a w) ≡ yes (drawn c who x) c.records
draw_next c who x a w e n =
    on_true (eqb c.version w) _ _ (eq-eqb c.version w e)
    ∙ on_false (eqb c.records (limit c.plan c.version)) _ _ (ne_eqb c.records (limit c.plan c.version) n)

pub write_word : (c : CoreState) (j : ℕ) → j < length (next_table c) → write c (Writing j) ≡ yes (written c j) 0
write_word c j l = on_true (ltb j (length (next_table c))) _ _ (lt-ltb j (length (next_table c)) l)

pub leave_claimed : (c : CoreState) (who : ℕ) (x : Actor) (s : ActorState) (a : ℕ) → HasClaimed a s
    → leave c who x s ≡ yes (gone c who x a) 0
leave_claimed c who x s a (inl e) = ap (λ (z : ActorState). leave c who x z) e
leave_claimed c who x s a (inr t) = ap (λ (z : ActorState). leave c who x z) t.1
