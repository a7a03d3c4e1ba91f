-- What a round's outcomes are under a course of the run.
use Rattle.lwaftr_engine.proofs.Words.{◌≡◌, ℕ, ◌+◌, ◌-◌, ◌<◌, ◌≤◌, List, [], All, length, get_or, Some, sym, subst, ◌∙◌, ap, arith, length-map, slice_get}
use Rattle.lwaftr_engine.proofs.Words.{length-range_with_len, slice_get-get_or, slice_get_within, View, BindingTable, IsLawful, Item, items_in, Entry, Suits}
use Rattle.lwaftr_engine.proofs.Words.{Course, AreFitting, HasOutcomes, Tables, table, AreCompiled, IsCompiled, Fits, HasRoom, verdict_of, draw_of, IsRound}
use Rattle.lwaftr_engine.proofs.Words.{Outcome}
use Rattle.lwaftr_engine.proofs.Elements.{all_among, all_at, all_behind, number_at}
use Rattle.ip_codec.specs.declared.items.Item.TheVariants as item

-- what is known of a round once it is judged
pub record JudgedRound : Type 0 where
  pub plan : Tables
  pub entries : List Entry
  pub start : ℕ
  pub end : ℕ
  pub points : List ℕ
  pub before : View
  pub after : View
  pub all : List Outcome
  pub round : IsRound (items_in entries) start end before after all
  pub same_plan : before.plan ≡ plan
  pub counted : end ≡ start + length entries
  pub versions : All (λ (o : Outcome). o.version ≤ length points) all
  pub there : length points < length plan.tables

-- what holds of every verdict under a lawful table
pub record AllFit : Type 0 where
  pub fits : (t : BindingTable) (i : Item) → IsLawful t → Fits i (verdict_of t i)
  pub room : (t : BindingTable) (i : Item) → IsLawful t → HasRoom (verdict_of t i)

module _ (h : JudgedRound) where
  long : length h.all ≡ length h.entries
  long =
      let same = sym (length-map h.all (λ (o : Outcome). o.number)) ∙ ap (λ (l : List ℕ). length l) h.round.numbers in
      omega (arith, same, length-range_with_len h.start (h.end - h.start), h.counted)

  items_count : length (items_in h.entries) ≡ length h.entries
  items_count = length-map h.entries (λ (e : Entry). e.item)

  numbered : (k : ℕ) (o : Outcome) → slice_get h.all k ≡ Some o → o.number ≡ h.start + k
  numbered k o at = number_at (λ (x : Outcome). x.number) h.all h.start (h.end - h.start) k o h.round.numbers at

  inside : (k : ℕ) (o : Outcome) → slice_get h.all k ≡ Some o → o.version < length h.plan.tables
  inside k o at =
      let few = all_at (λ (x : Outcome). x.version ≤ length h.points) h.all k o h.versions at in
      omega (arith, few, h.there)

  same_verdict : (k : ℕ) (o : Outcome) (i : Item) (t : BindingTable) → slice_get h.all k ≡ Some o → slice_get (items_in h.entries) k ≡ Some i →
      IsCompiled t (table h.plan o.version) → o.verdict ≡ verdict_of t i
  same_verdict k o i t at item_at compiled =
      let place : k ≡ o.number - h.start = omega (arith, numbered k o at) in
      let P : Outcome → Type 0 = λ x.
      (u : BindingTable) (j : Item) → IsCompiled u (table h.before.plan x.version) → slice_get (items_in h.entries) (x.number - h.start) ≡ Some j →
      x.verdict ≡ verdict_of u j in
      let judged : P o = all_at P h.all k o h.round.judged at in
      judged t i (rw h.same_plan compiled) (rw (← place) item_at)

  pub has_outcomes : (c : Course) → Suits h.plan h.after.actor.draws c → HasOutcomes c h.start h.entries h.all
  has_outcomes c suits = record {
    numbers = numbered;
    versions = same_version;
    verdicts = λ k o i at item_at.
        same_verdict k o i (c.tables o.version) at item_at (suits.tables o.version (inside k o at))
        ∙ ap (λ (v : ℕ). verdict_of (c.tables v) i) (same_version k o at);
  } where
    P : ℕ × ℕ → Type 0
    P = λ d. c.version d.0 ≡ d.1

    news : All (λ (d : ℕ × ℕ). c.version d.0 ≡ d.1) h.round.news
    news = all_behind P h.before.actor.draws h.round.news (rw (← h.round.draws) suits.versions)

    IsDrawn : Outcome → Type 0
    IsDrawn = λ x. (j : ℕ) × (j < length h.round.news) × (get_or h.round.news j (draw_of x) ≡ draw_of x)

    same_version : (k : ℕ) (o : Outcome) → slice_get h.all k ≡ Some o → o.version ≡ c.version o.number
    same_version k o at = sym (all_among P h.round.news (draw_of o) news (all_at (λ (x : Outcome). IsDrawn x) h.all k o h.round.drawn at))

  pub are_fitting : AllFit → All AreCompiled h.plan.tables → AreFitting h.entries h.all
  are_fitting law compiled = record {
    count = long;
    fits = λ k o i at item_at.
        let words : AreCompiled (table h.plan o.version) = compiled o.version [] (inside k o at) in
        let same = same_verdict k o i words.table at item_at words.of_table in
        subst (Fits i) (sym same) (law.fits words.table i words.of_table.lawful);
    room = λ k o at.
        let words : AreCompiled (table h.plan o.version) = compiled o.version [] (inside k o at) in
        let i : Item = get_or (items_in h.entries) k item.Held in
        let within : k < length (items_in h.entries) = omega (arith, slice_get_within h.all k o at, long, items_count) in
        let same = same_verdict k o i words.table at (slice_get-get_or (items_in h.entries) k item.Held within) words.of_table in
        subst HasRoom (sym same) (law.room words.table i words.of_table.lawful);
  }
