-- The elements of the array, one by one.
use Rattle.std.proofs.Common.{◌≡◌, ℕ, ◌+◌, ◌<◌, ◌≤◌, List, [], ◌∷◌, ◌++◌, length, drop, get_or, Result, Ok, Err, refl, ap, sym, subst, append_assoc}
use Rattle.std.proofs.lemmas.List.{append-nil, drop_all}
use Rattle.binding_rules.specs.declared.binding.Binding.{Binding}
use Rattle.toml.specs.Data.{Data, Items, item}
use Rattle.toml.specs.View.{view, items_view}
use Rattle.toml.specs.declared.value.Value.{Value}
use Rattle.toml.proofs.Views.{items_view-drop}
use Rattle.binding_file.specs.Files.{IsElement, AreElements}
use Rattle.binding_file.specs.declared.refusals.FileRefused.{FileRefused}

-- bindings before those of a result
abbrev pub before : List Binding → Result (List Binding) FileRefused → Result (List Binding) FileRefused
before bs (Ok more) = Ok (bs ++ more)
before bs (Err e) = Err e

before-before : (bs : List Binding) (b : Binding) (r : Result (List Binding) FileRefused) → before bs (before (b ∷ []) r) ≡ before (bs ++ b ∷ []) r
before-before bs b (Ok more) = ap Ok (sym (append_assoc bs (b ∷ []) more))
before-before bs b (Err e) = refl

one_more : (at : ℕ) (d : Data) (ds : Items) (b : Binding) (r : Result (List Binding) FileRefused) → IsElement at d (Ok b) → AreElements (at + 1) ds r → AreElements at (item d ds) (before (b ∷ []) r)
one_more at d ds b (Ok bs) h k = record { gives = Ok b; given = h; rest = record { gives = Ok bs; given = k; rest = refl } }
one_more at d ds b (Err e) h k = record { gives = Ok b; given = h; rest = record { gives = Err e; given = k; rest = refl } }

-- what the rest gives makes what the whole gives
abbrev pub Ready : List Value → ℕ → List Binding → Type 0
Ready vs at bs = (r : Result (List Binding) FileRefused) → AreElements at (items_view (drop at vs)) r → AreElements 0 (items_view vs) (before bs r)

pub ready_first : (vs : List Value) → Ready vs 0 []
ready_first vs (Ok bs) h = h
ready_first vs (Err e) h = h

pub ready_more : (vs : List Value) (at : ℕ) (bs : List Binding) (b : Binding) (v : Value) → at < length vs → v ≡ get_or vs at v → IsElement at (view v) (Ok b) → Ready vs at bs → Ready vs (at + 1) (bs ++ b ∷ [])
ready_more vs at bs b v within is h ready r k =
    let here : AreElements at (items_view (drop at vs)) (before (b ∷ []) r) =
    subst (λ ds. AreElements at ds (before (b ∷ []) r)) (sym (items_view-drop vs at v within)) (one_more at _ _ b r (subst (λ x. IsElement at (view x) (Ok b)) is h) k) in
    subst (λ x. AreElements 0 (items_view vs) x) (before-before bs b r) (ready (before (b ∷ []) r) here)

pub ready_refused : (vs : List Value) (at : ℕ) (bs : List Binding) (e : FileRefused) (v : Value) → at < length vs → v ≡ get_or vs at v → IsElement at (view v) (Err e) → Ready vs at bs → AreElements 0 (items_view vs) (Err e)
ready_refused vs at bs e v within is h ready =
    ready (Err e) (subst (λ ds. AreElements at ds (Err e)) (sym (items_view-drop vs at v within)) (record { gives = Err e; given = subst (λ x. IsElement at (view x) (Err e)) is h; rest = refl }))

pub ready_done : (vs : List Value) (at : ℕ) (bs : List Binding) → length vs ≤ at → Ready vs at bs → AreElements 0 (items_view vs) (Ok bs)
ready_done vs at bs past ready = subst (λ x. AreElements 0 (items_view vs) (Ok x)) (append-nil bs) (ready (Ok []) (subst (λ ds. AreElements at ds (Ok [])) (sym (ap items_view (drop_all at vs past))) refl))
