-- A table of handles that each write at the end of a file of their own.
use Rattle.std.proofs.Common.{◌≡◌, ◌≢◌, ℕ, zero, suc, ◌+◌, ◌<◌, ◌≤◌, List, [], ◌∷◌, ◌++◌, length, take, drop, set, Option, Some, None, Result, Ok, Err, refl, sym, ◌∙◌, ap, subst, arith, length-append}
use Rattle.std.specs.Prelude.{slice_index_or, IfOk, OnErr}
use Rattle.std.specs.List.{All, AllPairs, remove}
use Rattle.std.specs.Option.{option_map}
use Rattle.std.proofs.lemmas.List.{length-take-le}
use Rattle.std.proofs.lemmas.List.Elements.{All-nil, All-cons, All-head, All-tail, All-append, All-take, All-drop, All-push, All-set, All-weaker, All-get_or}
use Rattle.std.proofs.lemmas.List.Kept.{AllPairs-cons}
use Rattle.aftr_io.specs.Contents.{Contents, content, Writes}
use Rattle.aftr_io.specs.System.{WritePlace, moved, IsAtEnd, WriteAtEnds, NoneWrites, IsNamed}

all_remove : {X : Type 0} (P : X → Type 0) (xs : List X) (i : ℕ) → All P xs → All P (remove xs i)
all_remove P xs i h = All-append P (take i xs) (drop (suc i) xs) (All-take P i xs h) (All-drop P (suc i) xs h)

module _ {X : Type 0} (R : X → X → Type 0) where
  pairs_head : (x : X) (xs : List X) → AllPairs R (x ∷ xs) → All (R x) xs
  pairs_head x xs h k d within = h zero (suc k) d (omega arith) (omega arith)

  pairs_tail : (x : X) (xs : List X) → AllPairs R (x ∷ xs) → AllPairs R xs
  pairs_tail x xs h i j d below within = h (suc i) (suc j) d (omega arith) (omega arith)

  pairs_remove : (xs : List X) (i : ℕ) → AllPairs R xs → AllPairs R (remove xs i)
  pairs_remove [] zero h = h
  pairs_remove [] (suc i) h = h
  pairs_remove (x ∷ xs) zero h = pairs_tail x xs h
  pairs_remove (x ∷ xs) (suc i) h = AllPairs-cons R x (remove xs i) (all_remove (R x) xs i (pairs_head x xs h)) (pairs_remove xs i (pairs_tail x xs h))

  pairs_push : (xs : List X) (y : X) → All (λ x. R x y) xs → AllPairs R xs → AllPairs R (xs ++ y ∷ [])
  pairs_push [] y each h = AllPairs-cons R y [] (All-nil (R y)) h
  pairs_push (x ∷ xs) y each h = AllPairs-cons R x (xs ++ y ∷ [])
      (All-push (R x) xs y (pairs_head x xs h) (All-head (λ a. R a y) x xs each))
      (pairs_push xs y (All-tail (λ a. R a y) x xs each) (pairs_tail x xs h))

  pairs_set : (xs : List X) (i : ℕ) (old new : X) → ((z : X) → R z old → R z new) → ((z : X) → R old z → R new z)
      → i < length xs → slice_index_or xs i old ≡ old → AllPairs R xs → AllPairs R (set xs i new)
  pairs_set [] i old new left right within is h = absurd (omega (arith, within))
  pairs_set (x ∷ xs) zero old new left right within is h =
      AllPairs-cons R new xs (All-weaker (R x) (R new) (λ z r. right z (subst (λ o. R o z) is r)) xs (pairs_head x xs h)) (pairs_tail x xs h)
  pairs_set (x ∷ xs) (suc i) old new left right within is h =
      AllPairs-cons R x (set xs i new)
      (All-set (R x) xs i new (left x (subst (R x) is (All-get_or (R x) xs i old (omega (arith, within)) (pairs_head x xs h)))) (pairs_head x xs h))
      (pairs_set xs i old new left right (omega (arith, within)) is (pairs_tail x xs h))

module _ {Entry : Type 0} (handle_of : Entry → WritePlace) where
  abbrev Apart : Entry → Entry → Type 0
  Apart a b = (handle_of a).0 ≢ (handle_of b).0

  abbrev Ends : Contents → Entry → Type 0
  Ends held entry = IsAtEnd held (handle_of entry)

  pub ends_removed : (held : Contents) (ws : List Entry) (i : ℕ) → WriteAtEnds handle_of held ws → WriteAtEnds handle_of held (remove ws i)
  ends_removed held ws i ends = (all_remove (Ends held) ws i ends.0, pairs_remove Apart ws i ends.1)

  none_of_pairs : (ws : List Entry) (i : ℕ) (name : List ℕ) → i < length ws → ((other : Entry) → (handle_of (slice_index_or ws i other)).0 ≡ name) → AllPairs Apart ws → NoneWrites handle_of name (remove ws i)
  none_of_pairs [] i name within named apart = absurd (omega (arith, within))
  none_of_pairs (x ∷ ws) zero name within named apart =
      All-weaker (Apart x) (λ w. (handle_of w).0 ≢ name) (λ w r e. r (named x ∙ sym e)) ws (pairs_head Apart x ws apart)
  none_of_pairs (x ∷ ws) (suc i) name within named apart =
      All-cons (λ w. (handle_of w).0 ≢ name) x (remove ws i)
      (λ e. All-get_or (Apart x) ws i x (omega (arith, within)) (pairs_head Apart x ws apart) (e ∙ sym (named x)))
      (none_of_pairs ws i name (omega (arith, within)) named (pairs_tail Apart x ws apart))

  -- once the handle of a name is removed, none writes that file
  pub none_left : (held : Contents) (ws : List Entry) (i : ℕ) (name : List ℕ) → i < length ws → ((other : Entry) → (handle_of (slice_index_or ws i other)).0 ≡ name) → WriteAtEnds handle_of held ws → NoneWrites handle_of name (remove ws i)
  none_left held ws i name within named ends = none_of_pairs ws i name within named ends.1

  -- a write to a file that none of them writes
  end_of_other : (m n : Contents) (name bytes : List ℕ) (w : Entry) → Writes m n name bytes → (handle_of w).0 ≢ name → Ends m w → Ends n w
  end_of_other m n name bytes w writes apart end place is = end place is ∙ ap (λ l. length l) (sym (writes.others (handle_of w).0 apart))

  all_of_others : (m n : Contents) (name bytes : List ℕ) (ws : List Entry) → Writes m n name bytes → NoneWrites handle_of name ws → All (Ends m) ws → All (Ends n) ws
  all_of_others m n name bytes [] writes none ends = All-nil (Ends n)
  all_of_others m n name bytes (w ∷ ws) writes none ends =
      All-cons (Ends n) w ws
      (end_of_other m n name bytes w writes (All-head (λ w. (handle_of w).0 ≢ name) w ws none) (All-head (Ends m) w ws ends))
      (all_of_others m n name bytes ws writes (All-tail (λ w. (handle_of w).0 ≢ name) w ws none) (All-tail (Ends m) w ws ends))

  pub ends_of_others : (m n : Contents) (name bytes : List ℕ) (ws : List Entry) → Writes m n name bytes → NoneWrites handle_of name ws → WriteAtEnds handle_of m ws → WriteAtEnds handle_of n ws
  ends_of_others m n name bytes ws writes none ends = (all_of_others m n name bytes ws writes none ends.0, ends.1)

  pub ends_pushed : (held : Contents) (ws : List Entry) (w : Entry) (name : List ℕ) → (handle_of w).0 ≡ name → Ends held w → NoneWrites handle_of name ws → WriteAtEnds handle_of held ws → WriteAtEnds handle_of held (ws ++ w ∷ [])
  ends_pushed held ws w name is end none ends =
      (All-push (Ends held) ws w ends.0 end, pairs_push Apart ws w (All-weaker (λ a. (handle_of a).0 ≢ name) (λ a. Apart a w) (λ a r e. r (e ∙ is)) ws none) ends.1)

  behind_end : (m n : Contents) (name bytes : List ℕ) (count : ℕ) (place : Option ℕ) → Writes m n name (content m name ++ take count bytes) → count ≤ length bytes → IsAtEnd m (name, place) → IsAtEnd n (moved (name, place) count)
  behind_end m n name bytes count None writes within end p is = absurd cc
  behind_end m n name bytes count (Some q) writes within end p is =
      let old : q ≡ length (content m name) = end q refl in
      let sum : q + count ≡ p = cc in
      let long : length (content n name) ≡ length (content m name) + length (take count bytes) = ap (λ l. length l) writes.here ∙ length-append (content m name) (take count bytes) in
      omega (arith, old, sum, long, length-take-le count bytes within)

  all_written : (m n : Contents) (bytes : List ℕ) (count : ℕ) (ws : List Entry) (i : ℕ) (old new : Entry) → i < length ws → slice_index_or ws i old ≡ old → Writes m n (handle_of old).0 (content m (handle_of old).0 ++ take count bytes) → Ends n new → All (Ends m) ws → AllPairs Apart ws → All (Ends n) (set ws i new)
  all_written m n bytes count [] i old new within is writes end ends apart = absurd (omega (arith, within))
  all_written m n bytes count (w ∷ ws) zero old new within is writes end ends apart =
      All-cons (Ends n) new ws end
      (all_of_others m n _ _ ws writes (All-weaker (Apart w) (λ a. (handle_of a).0 ≢ (handle_of old).0) (λ a r e. r (ap (λ o. (handle_of o).0) is ∙ sym e)) ws (pairs_head Apart w ws apart)) (All-tail (Ends m) w ws ends))
  all_written m n bytes count (w ∷ ws) (suc i) old new within is writes end ends apart =
      All-cons (Ends n) w (set ws i new)
      (end_of_other m n _ _ w writes (λ e. All-get_or (Apart w) ws i old (omega (arith, within)) (pairs_head Apart w ws apart) (e ∙ ap (λ o. (handle_of o).0) (sym is))) (All-head (Ends m) w ws ends))
      (all_written m n bytes count ws i old new (omega (arith, within)) is writes end (All-tail (Ends m) w ws ends) (pairs_tail Apart w ws apart))

  -- a write by one of them
  pub ends_written : (m n : Contents) (bytes : List ℕ) (count : ℕ) (ws : List Entry) (i : ℕ) (old new : Entry) → i < length ws → slice_index_or ws i old ≡ old → count ≤ length bytes → handle_of new ≡ moved (handle_of old) count → Writes m n (handle_of old).0 (content m (handle_of old).0 ++ take count bytes) → WriteAtEnds handle_of m ws → WriteAtEnds handle_of n (set ws i new)
  ends_written m n bytes count ws i old new within is fits after writes ends =
      let name : (handle_of new).0 ≡ (handle_of old).0 = ap (λ h. h.0) after in
      let at_end : Ends m old = subst (Ends m) is (All-get_or (Ends m) ws i old within ends.0) in
      let end : Ends n new = subst (IsAtEnd n) (sym after) (behind_end m n (handle_of old).0 bytes count (handle_of old).1 writes fits at_end) in
      (all_written m n bytes count ws i old new within is writes end ends.0 ends.1, pairs_set Apart ws i old new (λ z r e. r (e ∙ name)) (λ z r e. r (sym name ∙ e)) within is ends.1)

  -- one of them is as it was
  pub ends_kept : (m n : Contents) (ws : List Entry) (i : ℕ) (old new : Entry) → i < length ws → slice_index_or ws i old ≡ old → handle_of new ≡ handle_of old → n ≡ m → WriteAtEnds handle_of m ws → WriteAtEnds handle_of n (set ws i new)
  ends_kept m n ws i old new within is same held ends =
      let name : (handle_of new).0 ≡ (handle_of old).0 = ap (λ h. h.0) same in
      let at_end : Ends m old = subst (Ends m) is (All-get_or (Ends m) ws i old within ends.0) in
      let end : Ends m new = subst (IsAtEnd m) (sym same) at_end in
      subst (λ o. WriteAtEnds handle_of o (set ws i new)) (sym held)
      (All-set (Ends m) ws i new end ends.0, pairs_set Apart ws i old new (λ z r e. r (e ∙ name)) (λ z r e. r (sym name ∙ e)) within is ends.1)

  pub ends_same : (m n : Contents) (xs ys : List Entry) → n ≡ m → ys ≡ xs → WriteAtEnds handle_of m xs → WriteAtEnds handle_of n ys
  ends_same m n xs ys held is ends = subst (λ o. WriteAtEnds handle_of o ys) (sym held) (subst (WriteAtEnds handle_of m) (sym is) ends)

  pub none_same : (name : List ℕ) (xs ys : List Entry) → ys ≡ xs → NoneWrites handle_of name xs → NoneWrites handle_of name ys
  none_same name xs ys is none = subst (NoneWrites handle_of name) (sym is) none

  -- from the names of the entries to those of their handles
  module _ (name_of : Entry → List ℕ) (same : (w : Entry) → (handle_of w).0 ≡ name_of w) (seen ws : List Entry) (is : seen ≡ ws) (name : List ℕ) where
    pub named_handle : (i : ℕ) → IsNamed name_of seen name i → (other : Entry) → (handle_of (slice_index_or ws i other)).0 ≡ name
    named_handle i named other = same (slice_index_or ws i other) ∙ ap (λ (l : List Entry). name_of (slice_index_or l i other)) (sym is) ∙ named other

    pub none_named : All (λ w. name_of w ≢ name) seen → NoneWrites handle_of name ws
    none_named none = subst (NoneWrites handle_of name) is (All-weaker (λ w. name_of w ≢ name) (λ w. (handle_of w).0 ≢ name) (λ w r e. r (sym (same w) ∙ e)) seen none)

-- the handle of a file that was just made
pub end_at_start : (m n : Contents) (handle : WritePlace) (name : List ℕ) → handle ≡ (name, Some 0) → Writes m n name [] → IsAtEnd n handle
end_at_start m n handle name is made = subst (IsAtEnd n) (sym is) (λ place at_start. let zero_is : 0 ≡ place = cc in sym zero_is ∙ ap (λ l. length l) (sym made.here))

-- a handle that always writes at the end
pub end_anywhere : (held : Contents) (handle : WritePlace) (name : List ℕ) → handle ≡ (name, None) → IsAtEnd held handle
end_anywhere held handle name is = subst (IsAtEnd held) (sym is) (λ place never. absurd cc)

pub placed : (name : List ℕ) (at after : Option ℕ) (count : ℕ) → after ≡ option_map (λ place. place + count) at → (name, after) ≡ moved (name, at) count
placed name at after count is = let pair : Option ℕ → WritePlace = λ p. (name, p) in ap pair is

module _ {Entry : Type 0} (handle_of : Entry → WritePlace) where
  -- a write by the one at a place, whether it fails or not
  pub ends_after : {E : Type 0} (m n : Contents) (bytes : List ℕ) (ws : List Entry) (i : ℕ) (old new : Entry) (result : Result ℕ E) → i < length ws → old ≡ slice_index_or ws i old
      → IfOk result (λ count. count ≤ length bytes) → IfOk result (λ count. handle_of new ≡ moved (handle_of old) count) → OnErr result (handle_of new ≡ handle_of old) → OnErr result (n ≡ m)
      → (IsAtEnd m (handle_of old) → IfOk result (λ count. Writes m n (handle_of old).0 (content m (handle_of old).0 ++ take count bytes)))
      → WriteAtEnds handle_of m ws → WriteAtEnds handle_of n (set ws i new)
  ends_after m n bytes ws i old new (Ok count) within is fits after stays same writes ends =
      ends_written handle_of m n bytes count ws i old new within (sym is) fits after (writes (subst (λ w. IsAtEnd m (handle_of w)) (sym is) (All-get_or (λ w. IsAtEnd m (handle_of w)) ws i old within ends.0))) ends
  ends_after m n bytes ws i old new (Err e) within is fits after stays same writes ends = ends_kept handle_of m n ws i old new within (sym is) stays same ends
