-- Contexts as lists of keys and what is kept.
use Rattle.std.proofs.Common.{◌≡◌, ℕ, ◌+◌, ◌≤◌, Bool, true, false, not, cond, List, [], ◌∷◌, ◌++◌, length, map, filter, refl, sym, ◌∙◌, ap, subst, Some, None}
use Rattle.std.specs.declared.cmp.Ordering.{Ordering}
use Rattle.std.specs.Cmp.{IsTotalOrder}
use Rattle.std.specs.Map.{lookup, set_value, remove_entry, keys_of, values_of}
use Rattle.std.specs.BTreeMap.{is_at}
use Rattle.std.specs.List.Sorted.{IsStrictlySortedBy}
use Rattle.std.proofs.lemmas.Cmp.{eq_by_cmp_equiv}
use Rattle.std.proofs.lemmas.Map.Keys.{IsDistinct-from_sorted}
use Rattle.std.proofs.lemmas.Map.Entries.{option_filter, lookup-filter-values}
use Rattle.std.proofs.lemmas.Map.Steps.{set_value_same}
use Rattle.std.proofs.lemmas.List.Elements.{All-cons}
use Rattle.std.proofs.lemmas.List.{append_assoc, length-map}
use Rattle.std.proofs.lemmas.List.Filters.{length-filter_both}
use Rattle.reassembly_lane.specs.Contexts.{Partial}
use Rattle.reassembly_lane.specs.Lanes.{waits, open_at, late_numbers}
use Rattle.reassembly_lane.specs.Since.{Since}

abbrev pub still : ℕ → Partial → Bool
still time partial = waits time partial.begun

-- ---- what a look-up finds among those that wait
lookup_open : {K : Type 0} {R : K → K → Ordering} → IsTotalOrder R → (time : ℕ) (q : K) (es : List (K × Partial)) → IsStrictlySortedBy R (keys_of es) → lookup (is_at (R q)) (open_at time es) ≡ option_filter (still time) (lookup (is_at (R q)) es)
lookup_open {R = R} o time q es s = lookup-filter-values (eq_by_cmp_equiv o) (still time) q es (IsDistinct-from_sorted R (keys_of es) s)

pub open_found : {K : Type 0} {R : K → K → Ordering} → IsTotalOrder R → (time : ℕ) (q : K) (es : List (K × Partial)) (x : Partial) (b : Bool) → IsStrictlySortedBy R (keys_of es) → Some x ≡ lookup (is_at (R q)) es → b ≡ waits time x.begun → lookup (is_at (R q)) (open_at time es) ≡ cond b (Some x) None
open_found o time q es x b s e w = lookup_open o time q es s ∙ ap (option_filter (still time)) (sym e) ∙ ap (λ (t : Bool). cond t (Some x) None) (sym w)

pub open_missing : {K : Type 0} {R : K → K → Ordering} → IsTotalOrder R → (time : ℕ) (q : K) (es : List (K × Partial)) → IsStrictlySortedBy R (keys_of es) → None ≡ lookup (is_at (R q)) es → lookup (is_at (R q)) (open_at time es) ≡ None
open_missing o time q es s e = lookup_open o time q es s ∙ ap (option_filter (still time)) (sym e)

-- ---- how many wait
pub late_and_open : {K : Type 0} (time : ℕ) (es : List (K × Partial)) → length (open_at time es) + length (late_numbers time es) ≡ length es
late_and_open time es =
    ap (λ (n : ℕ). length (open_at time es) + n) (length-map (filter (λ e. not (waits time e.1.begun)) es) (λ e. e.1.number))
    ∙ length-filter_both (λ e. waits time e.1.begun) (λ e. not (waits time e.1.begun)) (λ e. refl) es

-- ---- one step of a walk over all
late_head : {K : Type 0} (time : ℕ) (e : K × Partial) (s t : List (K × Partial)) (b : Bool) → s ≡ e ∷ t → waits time e.1.begun ≡ b → late_numbers time s ≡ map (λ x. x.1.number) (cond (not b) (e ∷ filter (λ x. not (waits time x.1.begun)) t) (filter (λ x. not (waits time x.1.begun)) t))
late_head time e s t b h w = ap (late_numbers time) h ∙ ap (λ (v : Bool). map (λ x. x.1.number) (cond (not v) (e ∷ filter (λ x. not (waits time x.1.begun)) t) (filter (λ x. not (waits time x.1.begun)) t))) w

pub late_step : {K : Type 0} (time : ℕ) (e : K × Partial) (s t : List (K × Partial)) (done all : List ℕ) → s ≡ e ∷ t → true ≡ waits time e.1.begun → done ++ late_numbers time s ≡ all → done ++ late_numbers time t ≡ all
late_step time e s t done all h w so_far = ap (λ (l : List ℕ). done ++ l) (sym (late_head time e s t true h (sym w))) ∙ so_far

pub late_push : {K : Type 0} (time number : ℕ) (e : K × Partial) (s t : List (K × Partial)) (done longer all : List ℕ) → s ≡ e ∷ t → false ≡ waits time e.1.begun → longer ≡ done ++ number ∷ [] → number ≡ e.1.number → done ++ late_numbers time s ≡ all → longer ++ late_numbers time t ≡ all
late_push time number e s t done longer all h w n is so_far =
    ap (λ (l : List ℕ). l ++ late_numbers time t) (n ∙ ap (λ (k : ℕ). done ++ k ∷ []) is)
    ∙ append_assoc done (e.1.number ∷ []) (late_numbers time t)
    ∙ ap (λ (l : List ℕ). done ++ l) (sym (late_head time e s t false h (sym w)))
    ∙ so_far

-- whether a context that was read waits
pub reads_waits : (time begun : ℕ) (partial : Partial) (b : Bool) → b ≡ waits time begun → begun ≡ partial.begun → b ≡ waits time partial.begun
reads_waits time begun partial b w e = w ∙ ap (waits time) e

pub since_open_step : {K : Type 0} (time bound : ℕ) (e : K × Partial) (s t : List (K × Partial)) → s ≡ e ∷ t → true ≡ waits time e.1.begun → bound ≤ e.1.begun → Since bound (open_at time t) → Since bound (open_at time s)
since_open_step time bound e s t h w le since =
    subst (Since bound) (sym (ap (open_at time) h ∙ ap (λ (b : Bool). cond b (e ∷ open_at time t) (open_at time t)) (sym w)))
    (All-cons (λ partial. bound ≤ partial.begun) e.1 (values_of (open_at time t)) le since)

pub since_late_step : {K : Type 0} (time bound : ℕ) (e : K × Partial) (s t : List (K × Partial)) → s ≡ e ∷ t → false ≡ waits time e.1.begun → Since bound (open_at time t) → Since bound (open_at time s)
since_late_step time bound e s t h w since =
    subst (Since bound) (sym (ap (open_at time) h ∙ ap (λ (b : Bool). cond b (e ∷ open_at time t) (open_at time t)) (sym w))) since

-- ---- edits at a key
pub remove_after_set : {K : Type 0} (test : K → Bool) (es : List (K × Partial)) (w : Partial) → remove_entry test (set_value test es w) ≡ remove_entry test es
remove_after_set {K = K} test [] w = refl
remove_after_set {K = K} test (e ∷ es) w = by_test (test e.0) refl (remove_after_set test es w)
  where
    by_test : (b : Bool) → test e.0 ≡ b → remove_entry test (set_value test es w) ≡ remove_entry test es → remove_entry test (cond b ((e.0, w) ∷ es) (e ∷ set_value test es w)) ≡ cond b es (e ∷ remove_entry test es)
    by_test true h ih = ap (λ (b : Bool). cond b es ((e.0, w) ∷ remove_entry test es)) h
    by_test false h ih = ap (λ (b : Bool). cond b (set_value test es w) (e ∷ remove_entry test (set_value test es w))) h ∙ ap (λ (l : List (K × Partial)). e ∷ l) ih

-- what was lent and is unchanged leaves all as it was
pub unchanged : {K : Type 0} (test : K → Bool) (es new : List (K × Partial)) (x w : Partial) → Some x ≡ lookup test es → w ≡ x → new ≡ set_value test es w → new ≡ es
unchanged test es new x w f e n = n ∙ ap (set_value test es) e ∙ set_value_same test es x (sym f)
