-- Loads that are taken one after another.
use Rattle.std.proofs.Common.{◌≡◌, ℕ, zero, suc, ◌+◌, ◌<◌, ◌≤◌, List, [], ◌∷◌, ◌++◌, length, map, refl, sym, ◌∙◌, ap, subst, arith, append_assoc}
use Rattle.std.specs.Prelude.{All, slice_index_or}
use Rattle.std.proofs.lemmas.List.{append-nil, length-append, length-map}
use Rattle.std.proofs.lemmas.List.Sorted.{length_permutation}
use Rattle.std.proofs.lemmas.List.Elements.{All-append}
use Rattle.swap_core.specs.Plans.{IsNotBefore, IsTableSize, MayFollow, Tables, always}
use Rattle.swap_core.specs.declared.plan.Window.{Window}
use Rattle.table_words.specs.Layout.{AreCompiled, row}
use Rattle.reload_plan.specs.Accepted.{AreSound, IsSound, after, slot_of, slots_from, windows_read, words_read}
use Rattle.reload_plan.specs.declared.loads.Load.{Load}
use Rattle.reload_plan.specs.declared.loads.Loaded.{Loaded}
use Rattle.reload_plan.specs.declared.loads.Loaded.TheVariants as loaded
use Rattle.reload_plan.specs.declared.loads.Slot.{Slot}

-- the plan and the slots so far, and the loads that are left
pub record Taking (start : Tables) (loads : List Load) (p : Tables) (slots : List Slot) (rest : List Load) : Type 0 where
  pub tables : p.tables ++ words_read rest ≡ start.tables ++ words_read loads
  pub windows : p.windows ++ windows_read rest ≡ start.windows ++ windows_read loads
  pub slots_are : slots ++ slots_from (length p.windows) rest ≡ slots_from (length start.windows) loads
  pub room : length p.tables + length rest ≤ 256
  pub sound : AreSound rest
  pub last : (k : ℕ) → k + 1 ≡ length p.windows → (d : Load) → 0 < length rest → IsNotBefore (slice_index_or rest 0 d).window (slice_index_or p.windows k always)
  pub compiled : All AreCompiled p.tables

-- compiled words are few enough for a plan
pub table_size : (words : List ℕ) → AreCompiled words → IsTableSize words
table_size words h =
    let is = h.of_table in
    let same : length is.rows ≡ length h.table.bindings =
    length_permutation (map row h.table.bindings) is.rows is.same ∙ length-map h.table.bindings row in
    (omega (arith, is.size), omega (arith, is.size, same, is.lawful.few))

one : {X : Type 0} (P : X → Type 0) (x : X) → P x → All P (x ∷ [])
one P x h zero d l = h
one P x h (suc k) d l = absurd (omega (arith, l))

tail_sound : (x : Load) (rest : List Load) → AreSound (x ∷ rest) → AreSound rest
tail_sound x rest h = record {
  windows = λ k d l. h.windows (suc k) d (omega (arith, l));
  words = λ k d l. h.words (suc k) d (omega (arith, l));
  rising = λ k d l.
      let place : suc k + 1 ≡ suc (k + 1) = omega arith in
      subst (λ (n : ℕ). IsNotBefore (slice_index_or (x ∷ rest) n d).window (slice_index_or rest k d).window) place (h.rising (suc k) d (omega (arith, l)));
}

not_before : (a b c : Window) → IsNotBefore a b → IsNotBefore b c → IsNotBefore a c
not_before a b c h k = (omega (arith, h.0, k.0), omega (arith, h.1, k.1))

pub may_follow : (start p : Tables) (loads rest : List Load) (slots : List Slot) (x : Load) → Taking start loads p slots (x ∷ rest)
    → (words : List ℕ) → x.loaded ≡ loaded.Words words → MayFollow p x.window words
may_follow start p loads rest slots x t words is = record {
  room = omega (arith, t.room);
  size = table_size words (subst IsSound is (t.sound.words 0 x (omega arith)));
  opens = t.sound.windows 0 x (omega arith);
  not_before = λ k e. t.last k e x (omega arith);
}

same_tables : (p : Tables) (a : List (List ℕ)) (b : List Window) → a ≡ p.tables → b ≡ p.windows → p ≡ record { tables = a; windows = b }
same_tables p a b e f = λ i. record { tables = sym e i; windows = sym f i }

last_window : (ws : List Window) (w : Window) (k : ℕ) → k + 1 ≡ length (ws ++ w ∷ []) → slice_index_or (ws ++ w ∷ []) k always ≡ w
last_window [] w zero e = refl
last_window [] w (suc k) e = absurd (omega (arith, e))
last_window (x ∷ xs) w zero e = absurd (omega (arith, e, length-append xs (w ∷ [])))
last_window (x ∷ xs) w (suc k) e = last_window xs w k (omega (arith, e))

more_by : (start p : Tables) (loads rest : List Load) (slots : List Slot) (w : Window) (l : Loaded)
    → Taking start loads p slots (record { window = w; loaded = l } ∷ rest)
    → Taking start loads (after p (record { window = w; loaded = l })) (slots ++ slot_of l (length p.windows + 1) ∷ []) rest
more_by start p loads rest slots w (loaded.Words words) t = record {
  tables = append_assoc p.tables (words ∷ []) (words_read rest) ∙ t.tables;
  windows = append_assoc p.windows (w ∷ []) (windows_read rest) ∙ t.windows;
  slots_are = append_assoc slots (slot_of (loaded.Words words) (length p.windows + 1) ∷ []) (slots_from (length (p.windows ++ w ∷ [])) rest)
      ∙ ap (λ (n : ℕ). slots ++ (slot_of (loaded.Words words) (length p.windows + 1) ∷ slots_from n rest)) (length-append p.windows (w ∷ []))
      ∙ t.slots_are;
  room = omega (arith, t.room, length-append p.tables (words ∷ []));
  sound = tail_sound (record { window = w; loaded = loaded.Words words }) rest t.sound;
  last = λ k e d l. subst (λ (v : Window). IsNotBefore (slice_index_or rest 0 d).window v) (sym (last_window p.windows w k e))
      (t.sound.rising 0 d (omega (arith, l)));
  compiled = All-append AreCompiled p.tables (words ∷ []) t.compiled (one AreCompiled words (t.sound.words 0 (record { window = w; loaded = loaded.Words words }) (omega arith)));
}
more_by start p loads rest slots w (loaded.Refused cause) t =
    subst (λ (q : Tables). Taking start loads q (slots ++ slot_of (loaded.Refused cause) (length p.windows + 1) ∷ []) rest)
    (same_tables p (p.tables ++ []) (p.windows ++ []) (append-nil p.tables) (append-nil p.windows))
    (record {
      tables = t.tables;
      windows = t.windows;
      slots_are = append_assoc slots (slot_of (loaded.Refused cause) (length p.windows + 1) ∷ []) (slots_from (length p.windows) rest)
          ∙ ap (λ (n : ℕ). slots ++ (slot_of (loaded.Refused cause) (length p.windows + 1) ∷ slots_from n rest)) (plus_none (length p.windows))
          ∙ t.slots_are;
      room = omega (arith, t.room);
      sound = tail_sound (record { window = w; loaded = loaded.Refused cause }) rest t.sound;
      last = λ k e d l. not_before (slice_index_or rest 0 d).window w (slice_index_or p.windows k always)
          (t.sound.rising 0 d (omega (arith, l))) (t.last k e d (omega arith));
      compiled = t.compiled;
    })
  where
    plus_none : (n : ℕ) → n ≡ n + 0
    plus_none n = omega arith

-- one load more
pub more : (start p q : Tables) (loads left rest : List Load) (slots new : List Slot) (x : Load) (s : Slot) → left ≡ x ∷ rest → Taking start loads p slots left
    → q ≡ after p x → new ≡ slots ++ s ∷ [] → s ≡ slot_of x.loaded (length p.windows + 1) → Taking start loads q new rest
more start p q loads left rest slots new x s are t is pushed told =
    let here : Taking start loads p slots (x ∷ rest) = subst (λ (l : List Load). Taking start loads p slots l) are t in
    let next : Taking start loads (after p x) (slots ++ slot_of x.loaded (length p.windows + 1) ∷ []) rest =
    more_by start p loads rest slots x.window x.loaded here in
    let slots_is : slots ++ slot_of x.loaded (length p.windows + 1) ∷ [] ≡ new = ap (λ (r : Slot). slots ++ r ∷ []) (sym told) ∙ sym pushed in
    subst (λ (l : List Slot). Taking start loads q l rest) slots_is
    (subst (λ (r : Tables). Taking start loads r (slots ++ slot_of x.loaded (length p.windows + 1) ∷ []) rest) (sym is) next)
