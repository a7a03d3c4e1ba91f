-- The slots of the keys of a binding, read and written.
use Rattle.std.proofs.Common.{◌≡◌, ℕ, zero, suc, ◌<◌, ◌⊎◌, ◌↔◌, inl, inr, true, false, Option, Some, None, List, [], ◌∷◌, ◌++◌, Contains, length, slice_set, refl, sym, ap, ◌∙◌, append_assoc, arith}
use Rattle.std.proofs.lemmas.Bool.{eqb-true, eqb-false, eq-eqb, true≢false, cases_eq}
use Rattle.std.proofs.lemmas.List.{append-nil, get_or-set_same, get_or-set_other}
use Rattle.std.proofs.lemmas.List.Elements.{Contains-append_left, Contains-append_right, Contains-append_cases}
use Rattle.std.proofs.lemmas.Option.{none-some, same_Some}
use Rattle.port_set.specs.PortSets.{InSet}
use Rattle.port_set.proofs.Laws.{in_set_true, in_set_from}
use Rattle.binding_rules.specs.declared.binding.Binding.{Binding}
use Rattle.binding_rules.specs.Scans.{IsLeast, IsMet, IsTaken, slot, owner_named, lesser_of}
use Rattle.binding_rules.proofs.Leasts.{least_iff, least_or}

pub contains_one : (p q : ℕ) → Contains (p ∷ []) q → q ≡ p
contains_one p q h =
    let first : h.0 ≡ 0 = omega (arith, h.1) in
    sym (rw first at h.2)

pub one_contains : (p : ℕ) → Contains (p ∷ []) p
one_contains p = (0, omega arith, refl)

least_is : (o : Option ℕ) → IsLeast (λ n. o ≡ Some n) o
least_is None = λ n e. none-some n e
least_is (Some m) = (refl, λ n e. omega (arith, same_Some m n e))

pub met_by_identifier : (bs : List Binding) (a : ℕ) (x : Binding) (owners : List (Option ℕ)) → x.psid < 65536
    → IsLeast (IsMet false x bs a owners) (owner_named bs a (slot owners x.psid))
met_by_identifier bs a x owners l =
    least_iff (λ n. owner_named bs a (slot owners x.psid) ≡ Some n) (IsMet false x bs a owners) (owner_named bs a (slot owners x.psid))
    (λ n e. record { key = x.psid; in_range = l; has = eq-eqb x.psid x.psid refl; named = e })
    (λ n m. ap (λ (k : ℕ). owner_named bs a (slot owners k)) (eqb-true x.psid m.key m.has) ∙ m.named)
    (least_is (owner_named bs a (slot owners x.psid)))

-- what an iterator gave and what is left in it are the whole list
pub given_more : (all given left rest : List ℕ) (p : ℕ) → all ≡ given ++ left → left ≡ p ∷ rest → all ≡ (given ++ p ∷ []) ++ rest
given_more all given left rest p e f = e ∙ ap (λ l. given ++ l) f ∙ sym (append_assoc given (p ∷ []) rest)

pub given_all : (all given left : List ℕ) → all ≡ given ++ left → left ≡ [] → all ≡ given
given_all all given left e f = e ∙ ap (λ l. given ++ l) f ∙ append-nil given

-- a slot of one of the ports names the place
abbrev pub IsNamed : List ℕ → List Binding → ℕ → List (Option ℕ) → ℕ → Type 0
IsNamed ports bs a owners n = (key : ℕ) × Contains ports key × (owner_named bs a (slot owners key) ≡ Some n)

pub named_none : (bs : List Binding) (a : ℕ) (owners : List (Option ℕ)) → IsLeast (IsNamed [] bs a owners) None
named_none bs a owners = λ n h. absurd (omega (arith, h.1.1))

pub named_more : (ports : List ℕ) (p : ℕ) (bs : List Binding) (a : ℕ) (owners : List (Option ℕ)) (m : Option ℕ)
    → IsLeast (IsNamed ports bs a owners) m
    → IsLeast (IsNamed (ports ++ p ∷ []) bs a owners) (lesser_of m (owner_named bs a (slot owners p)))
named_more ports p bs a owners m least =
    least_iff (λ n. IsNamed ports bs a owners n ⊎ (owner_named bs a (slot owners p) ≡ Some n)) (IsNamed (ports ++ p ∷ []) bs a owners)
    (lesser_of m (owner_named bs a (slot owners p)))
    (λ n e. elim e [
      | inl h ↦ (h.0, Contains-append_left ports (p ∷ []) h.0 h.1, h.2)
      | inr h ↦ (p, Contains-append_right ports (p ∷ []) p (one_contains p), h)
    ])
    (λ n h. elim (Contains-append_cases ports (p ∷ []) h.0 h.1) [
      | inl c ↦ inl (h.0, c, h.2)
      | inr c ↦ inr (ap (λ (k : ℕ). owner_named bs a (slot owners k)) (sym (contains_one p h.0 c)) ∙ h.2)
    ])
    (least_or _ _ m (owner_named bs a (slot owners p)) least (least_is (owner_named bs a (slot owners p))))

pub named_all : (ports : List ℕ) (x : Binding) (bs : List Binding) (a : ℕ) (owners : List (Option ℕ)) (m : Option ℕ)
    → ((p : ℕ) → Contains ports p ↔ InSet x.offset x.length x.psid p)
    → IsLeast (IsNamed ports bs a owners) m → IsLeast (IsMet true x bs a owners) m
named_all ports x bs a owners m members least =
    least_iff (IsNamed ports bs a owners) (IsMet true x bs a owners) m
    (λ n h. let in_set : InSet x.offset x.length x.psid h.0 = (members h.0).0 h.1 in
    record { key = h.0; in_range = in_set.is_port; has = in_set_true _ _ _ _ in_set; named = h.2 })
    (λ n h. (h.key, (members h.key).1 (in_set_from _ _ _ _ h.in_range h.has), h.named))
    least

-- the slots of these ports name the place
pub record IsTakenBy (ports : List ℕ) (place : ℕ) (before now : List (Option ℕ)) : Type 0 where
  pub taken : (key : ℕ) → Contains ports key → slot now key ≡ Some place
  pub kept : (key : ℕ) → (Contains ports key → ⊥) → slot now key ≡ slot before key

pub taken_all : (ports : List ℕ) (x : Binding) (place : ℕ) (before now : List (Option ℕ))
    → ((p : ℕ) → Contains ports p ↔ InSet x.offset x.length x.psid p)
    → IsTakenBy ports place before now → IsTaken true x place before now
taken_all ports x place before now members t = record {
  taken = λ key l h. t.taken key ((members key).1 (in_set_from _ _ _ _ l h));
  kept = λ key l h. t.kept key (λ c. true≢false (sym (in_set_true _ _ _ _ ((members key).0 c)) ∙ h));
}

pub taken_none : (place : ℕ) (before : List (Option ℕ)) → IsTakenBy [] place before before
taken_none place before = record { taken = λ key c. absurd (omega (arith, c.1)); kept = λ key c. refl }

pub taken_more : (ports : List ℕ) (p place : ℕ) (before now : List (Option ℕ)) → p < length now
    → IsTakenBy ports place before now → IsTakenBy (ports ++ p ∷ []) place before (slice_set now p (Some place))
taken_more ports p place before now l t = record {
  taken = λ key c. elim (cases_eq key p) [
    | inl e ↦ rw e (get_or-set_same now p (Some place) None l)
    | inr n ↦ get_or-set_other now p key (Some place) None n
        ∙ t.taken key (elim (Contains-append_cases ports (p ∷ []) key c) [ inl h ↦ h | inr h ↦ absurd (n (contains_one p key h)) ])
  ];
  kept = λ key c. elim (cases_eq key p) [
    | inl e ↦ absurd (c (rw e (Contains-append_right ports (p ∷ []) p (one_contains p))))
    | inr n ↦ get_or-set_other now p key (Some place) None n ∙ t.kept key (λ h. c (Contains-append_left ports (p ∷ []) key h))
  ];
}

pub taken_by_identifier : (x : Binding) (place : ℕ) (before : List (Option ℕ)) → x.psid < length before
    → IsTaken false x place before (slice_set before x.psid (Some place))
taken_by_identifier x place before l = record {
  taken = λ key m h. rw (sym (eqb-true x.psid key h)) (get_or-set_same before x.psid (Some place) None l);
  kept = λ key m h. get_or-set_other before x.psid key (Some place) None (λ e. eqb-false x.psid key h (sym e));
}

pub members_moved : (ports given : List ℕ) (o l : ℕ) (x : Binding) → (o ≡ x.offset) × (l ≡ x.length) → ports ≡ given
    → ((p : ℕ) → Contains ports p ↔ InSet o l x.psid p) → (p : ℕ) → Contains given p ↔ InSet x.offset x.length x.psid p
members_moved ports given o l x numbers e members p = rw (← e, ← numbers.0, ← numbers.1) (members p)

-- slots of which none is taken, and one more such slot
pub none_more : (owners : List (Option ℕ)) → ((key : ℕ) → slot owners key ≡ None) → (key : ℕ) → slot (owners ++ None ∷ []) key ≡ None
none_more [] none zero = refl
none_more [] none (suc key) = refl
none_more (o ∷ owners) none zero = none 0
none_more (o ∷ owners) none (suc key) = none_more owners (λ k. none (suc k)) key
