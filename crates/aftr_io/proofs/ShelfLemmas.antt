-- A list of names with bytes as a map: what is found, and what a write or a push does.
use Rattle.std.proofs.Common.{◌≡◌, ℕ, zero, suc, Bool, true, false, cond, List, [], ◌∷◌, ◌++◌, set, get_or, Option, Some, None, refl, sym, ◌∙◌, ap, subst, arith, unwrap_or}
use Rattle.std.proofs.lemmas.List.{get_or_default}
use Rattle.std.specs.Ordering.{nat_cmp}
use Rattle.std.specs.Cmp.Lexicographic.{slice_cmp, nat_list_cmp_total}
use Rattle.std.specs.FinMap.{get, insert, from_entries, get-from_entries, get-insert, same_map, from_entries_push}
use Rattle.std.specs.FinMap.Entries.{find}
use Rattle.aftr_io.specs.Contents.{Contents, content}
use Rattle.aftr_io.proofs.ContentLemmas.{same_name, apart_names, equal_names, same_as_itself, different}
use Rattle.aftr_io.specs.Entries.{name_at, bytes_at, IsFirstOf, HasNoneOf}

cond_over : (b c : Bool) (x y z : Option (List ℕ)) → c ≡ b → cond b x z ≡ cond b x (cond c y z)
cond_over true c x y z e = refl
cond_over false c x y z e = sym (ap (λ v. cond v y z) e)

cond_swap : (a b : Bool) (x y z : Option (List ℕ)) → (a ≡ true → b ≡ true → ⊥) → cond a x (cond b y z) ≡ cond b y (cond a x z)
cond_swap true true x y z h = absurd (h refl refl)
cond_swap true false x y z h = refl
cond_swap false b x y z h = refl

find_none : (es : List (List ℕ × List ℕ)) (name : List ℕ) → HasNoneOf es name → find (slice_cmp nat_cmp) name es ≡ None
find_none [] name h = refl
find_none (e ∷ es) name h =
    ap (λ b. cond b (Some e.1) (find (slice_cmp nat_cmp) name es)) (different name e.0 (λ is. h.none zero (omega arith) (sym is)))
    ∙ find_none es name (record { none = λ k in_list. h.none (suc k) (omega arith) })

later : (e : List ℕ × List ℕ) (es : List (List ℕ × List ℕ)) (name : List ℕ) (i : ℕ) → IsFirstOf (e ∷ es) name (suc i) → IsFirstOf es name i
later e es name i h = record { within = omega (arith, h.within); named = h.named; first = λ k below. h.first (suc k) (omega arith) }

find_first : (es : List (List ℕ × List ℕ)) (name : List ℕ) (i : ℕ) → IsFirstOf es name i → find (slice_cmp nat_cmp) name es ≡ Some (bytes_at es i)
find_first [] name i h = absurd (omega (arith, h.within))
find_first (e ∷ es) name zero h =
    ap (λ b. cond b (Some e.1) (find (slice_cmp nat_cmp) name es)) (ap (same_name name) h.named ∙ same_as_itself name)
find_first (e ∷ es) name (suc i) h =
    ap (λ b. cond b (Some e.1) (find (slice_cmp nat_cmp) name es)) (different name e.0 (λ is. h.first zero (omega arith) (sym is)))
    ∙ find_first es name i (later e es name i h)

find_set : (es : List (List ℕ × List ℕ)) (name bytes : List ℕ) (i : ℕ) (q : List ℕ) → IsFirstOf es name i
    → find (slice_cmp nat_cmp) q (set es i (name, bytes)) ≡ cond (same_name q name) (Some bytes) (find (slice_cmp nat_cmp) q es)
find_set [] name bytes i q h = absurd (omega (arith, h.within))
find_set (e ∷ es) name bytes zero q h = cond_over (same_name q name) (same_name q e.0) (Some bytes) (Some e.1) (find (slice_cmp nat_cmp) q es) (ap (same_name q) h.named)
find_set (e ∷ es) name bytes (suc i) q h =
    ap (λ o. cond (same_name q e.0) (Some e.1) o) (find_set es name bytes i q (later e es name i h))
    ∙ cond_swap (same_name q e.0) (same_name q name) (Some e.1) (Some bytes) (find (slice_cmp nat_cmp) q es)
    (λ one two. h.first zero (omega arith) (sym (equal_names q e.0 one) ∙ equal_names q name two))

module _ (es : List (List ℕ × List ℕ)) (name : List ℕ) where
  pub get_first : (i : ℕ) → IsFirstOf es name i → get (from_entries {R = slice_cmp nat_cmp} es) name ≡ Some (bytes_at es i)
  get_first i h = get-from_entries nat_list_cmp_total es name ∙ find_first es name i h

  pub get_none : HasNoneOf es name → get (from_entries {R = slice_cmp nat_cmp} es) name ≡ None
  get_none h = get-from_entries nat_list_cmp_total es name ∙ find_none es name h

  pub content_first : (i : ℕ) → IsFirstOf es name i → content (from_entries es) name ≡ bytes_at es i
  content_first i h = ap (λ o. unwrap_or o []) (get_first i h)

  pub content_none : HasNoneOf es name → content (from_entries es) name ≡ []
  content_none h = ap (λ o. unwrap_or o []) (get_none h)

  -- to write over the first entry of a name is to insert it
  pub set_first : (bytes : List ℕ) (i : ℕ) → IsFirstOf es name i → from_entries {R = slice_cmp nat_cmp} (set es i (name, bytes)) ≡ insert (from_entries es) name bytes
  set_first bytes i h = same_map nat_list_cmp_total apart_names _ _ (λ q.
      get-from_entries nat_list_cmp_total _ q ∙ find_set es name bytes i q h
      ∙ sym (get-insert nat_list_cmp_total (from_entries es) name bytes q ∙ ap (cond (same_name q name) (Some bytes)) (get-from_entries nat_list_cmp_total es q)))

  -- and so is to push a new name
  pub push_new : (bytes : List ℕ) → HasNoneOf es name → from_entries {R = slice_cmp nat_cmp} (es ++ (name, bytes) ∷ []) ≡ insert (from_entries es) name bytes
  push_new bytes h = from_entries_push nat_list_cmp_total apart_names es name bytes (find_none es name h)

-- what a call that looked the name up in the list says of the map
module _ (es seen : List (List ℕ × List ℕ)) (held : Contents) (name : List ℕ) (view : from_entries es ≡ held) (same : seen ≡ es) where
  there : (i : ℕ) → IsFirstOf seen name i → IsFirstOf es name i
  there i first = subst (λ l. IsFirstOf l name i) same first

  missing : HasNoneOf seen name → HasNoneOf es name
  missing none = subst (λ l. HasNoneOf l name) same none

  entry_there : (i : ℕ) (entry : List ℕ × List ℕ) → IsFirstOf seen name i → entry ≡ get_or es i entry → entry ≡ (name_at es i, bytes_at es i)
  entry_there i entry first is = is ∙ get_or_default es i entry ([], []) (there i first).within

  pub found : (i : ℕ) (entry : List ℕ × List ℕ) (bytes : List ℕ) → IsFirstOf seen name i → entry ≡ get_or es i entry → bytes ≡ entry.1 → Some bytes ≡ get held name
  found i entry bytes first is read =
      ap (λ l. Some l) (read ∙ ap (λ e. e.1) (entry_there i entry first is)) ∙ sym (get_first es name i (there i first)) ∙ ap (λ m. get m name) view

  pub not_found : HasNoneOf seen name → None ≡ get held name
  not_found none = sym (get_none es name (missing none)) ∙ ap (λ m. get m name) view

  pub replaced : (i : ℕ) (entry : List ℕ × List ℕ) (bytes : List ℕ) → IsFirstOf seen name i → entry ≡ (name, bytes) → from_entries (set es i entry) ≡ insert held name bytes
  replaced i entry bytes first is =
      ap (λ e. from_entries (set es i e)) is ∙ set_first es name bytes i (there i first) ∙ ap (λ m. insert m name bytes) view

  pub pushed : (entry : List ℕ × List ℕ) (bytes : List ℕ) (now : List (List ℕ × List ℕ)) → HasNoneOf seen name → entry ≡ (name, bytes) → now ≡ es ++ entry ∷ [] → from_entries now ≡ insert held name bytes
  pushed entry bytes now none is after =
      ap from_entries after ∙ ap (λ e. from_entries (es ++ e ∷ [])) is ∙ push_new es name bytes (missing none) ∙ ap (λ m. insert m name bytes) view

  pub grown : (i : ℕ) (entry after : List ℕ × List ℕ) (bytes : List ℕ) → IsFirstOf seen name i → entry ≡ get_or es i entry → after ≡ (entry.0, entry.1 ++ bytes) → from_entries (set es i after) ≡ insert held name (content held name ++ bytes)
  grown i entry after bytes first is now =
      let old = entry_there i entry first is in
      replaced i after (content held name ++ bytes) first
      (now ∙ ap (λ e. (e.0, e.1 ++ bytes)) old ∙ (λ j. ((there i first).named j, (sym (content_first es name i (there i first)) ∙ ap (λ m. content m name) view) j ++ bytes)))

  pub grown_new : (entry : List ℕ × List ℕ) (bytes : List ℕ) (now : List (List ℕ × List ℕ)) → HasNoneOf seen name → entry ≡ (name, bytes) → now ≡ es ++ entry ∷ [] → from_entries now ≡ insert held name (content held name ++ bytes)
  grown_new entry bytes now none is after =
      pushed entry bytes now none is after ∙ ap (λ l. insert held name (l ++ bytes)) (sym (content_none es name (missing none)) ∙ ap (λ m. content m name) view)
