-- What a round's outcomes are under a course of the run.
use Rattle.run_turns.proofs.Words.{◌≡◌, ℕ, ◌+◌, ◌-◌, ◌<◌, List, All, length, get_or, Some, sym, ◌∙◌, ap, arith, slice_get, ◌++◌, BindingTable, Item, items_in}
use Rattle.run_turns.proofs.Words.{Entry, Suits, Course, HasOutcomes, Tables, table, IsCompiled, verdict_of, draw_of, Outcome, AreOutcomes}
use Rattle.run_turns.proofs.Elements.{all_among, all_at, all_behind, number_at}

-- what is known of a round once it is judged
pub record JudgedRound : Type 0 where
  pub plan : Tables
  pub entries : List Entry
  pub start : ℕ
  pub end : ℕ
  pub draws : List (ℕ × ℕ)
  pub news : List (ℕ × ℕ)
  pub after : List (ℕ × ℕ)
  pub after_is : after ≡ draws ++ news
  pub all : List Outcome
  pub are : AreOutcomes plan (items_in entries) start end news all
  pub versions : All (λ (o : Outcome). o.version < length plan.tables) all

module _ (h : JudgedRound) where
  numbered : (k : ℕ) (o : Outcome) → slice_get h.all k ≡ Some o → o.number ≡ h.start + k
  numbered k o at = number_at (λ (x : Outcome). x.number) h.all h.start (h.end - h.start) k o h.are.numbers at

  inside : (k : ℕ) (o : Outcome) → slice_get h.all k ≡ Some o → o.version < length h.plan.tables
  inside k o at = all_at (λ (x : Outcome). x.version < length h.plan.tables) h.all k o h.versions at

  same_verdict : (k : ℕ) (o : Outcome) (i : Item) (t : BindingTable) → slice_get h.all k ≡ Some o → slice_get (items_in h.entries) k ≡ Some i →
      IsCompiled t (table h.plan o.version) → o.verdict ≡ verdict_of t i
  same_verdict k o i t at item_at compiled =
      let place : k ≡ o.number - h.start = omega (arith, numbered k o at) in
      let P : Outcome → Type 0 = λ x.
      (u : BindingTable) (j : Item) → IsCompiled u (table h.plan x.version) → slice_get (items_in h.entries) (x.number - h.start) ≡ Some j →
      x.verdict ≡ verdict_of u j in
      let judged : P o = all_at P h.all k o h.are.judged at in
      judged t i compiled (rw (← place) item_at)

  pub has_outcomes : (c : Course) → Suits h.plan h.after c → HasOutcomes c h.start h.entries h.all
  has_outcomes c suits = record {
    numbers = numbered;
    versions = same_version;
    verdicts = λ k o i at item_at.
        same_verdict k o i (c.tables o.version) at item_at (suits.tables o.version (inside k o at))
        ∙ ap (λ (v : ℕ). verdict_of (c.tables v) i) (same_version k o at);
  } where
    P : ℕ × ℕ → Type 0
    P = λ d. c.version d.0 ≡ d.1

    news : All (λ (d : ℕ × ℕ). c.version d.0 ≡ d.1) h.news
    news = all_behind P h.draws h.news (rw (← h.after_is) suits.versions)

    IsDrawn : Outcome → Type 0
    IsDrawn = λ x. (j : ℕ) × (j < length h.news) × (get_or h.news j (draw_of x) ≡ draw_of x)

    same_version : (k : ℕ) (o : Outcome) → slice_get h.all k ≡ Some o → o.version ≡ c.version o.number
    same_version k o at = sym (all_among P h.news (draw_of o) news (all_at (λ (x : Outcome). IsDrawn x) h.all k o h.are.drawn at))
