-- The causes that the exits of a reading name are true.
use Rattle.std.proofs.Common.{inl, inr, ◌⊎◌, ◌≡◌, ◌≢◌, ℕ, suc, ◌+◌, ◌<◌, ◌≤◌, List, [], ◌∷◌, ◌++◌, Option, Some, None, drop, length, take, refl, sym, ◌∙◌, ap, subst, codes, arith, append_assoc}
use Rattle.std.specs.Prelude.{slice_get, slice_index_or}
use Rattle.std.specs.Borrow.{Bor}
use Rattle.std.proofs.Math.Seq.{drop-cons}
use Rattle.std.proofs.lemmas.List.{append-nil, length-map, length-take-le, map-append, take-append-drop, take_more}
use Rattle.clap.specs.Words.{Row}
use Rattle.aftr_text.specs.Commands.{words_of}
use Rattle.aftr_text.specs.Faults.{EndsInOption, ForArgument, HasCause, IsBadLoad, IsBadValue, IsFault, IsFaultBehind, IsFaultOf, IsNoNumber, IsRange, IsStray, TakesSoMany, names_in, values_of}
use Rattle.aftr_text.specs.Jobs.{HasNoOptions, IsName}
use Rattle.aftr_text.specs.Parts.{Parts, kind_of, no_parts, parts_of, in_front, texts, unknown, wants}
use Rattle.aftr_text.specs.Seen.{joined}
use Rattle.aftr_text.specs.declared.faults.Fault.{Fault}
use Rattle.aftr_text.specs.declared.faults.Fault.TheVariants as fault
use Rattle.aftr_text.specs.declared.faults.JobError.{JobError}
use Rattle.aftr_text.specs.declared.faults.JobError.TheVariants as error_is
use Rattle.aftr_text.specs.declared.parts.Slot.{Slot}
use Rattle.aftr_text.proofs.AskLemmas.{IsFound}

-- a cause that is named is the only one
same_fault : (a b : Fault) → error_is.Refused a ≡ error_is.Refused b → a ≡ b
same_fault a b e = cc

pub as_cause : (P : Fault → Type 0) (x : Fault) → P x → (f : Fault) → error_is.Refused x ≡ error_is.Refused f → P f
as_cause P x holds f e = subst P (same_fault x f e) holds

pub no_room : (e : JobError) (f : Fault) → e ≡ error_is.Refused f → e ≢ error_is.OutOfMemory
no_room e f told none = absurd cc

pub from_cause : (P : Fault → Type 0) (e : JobError) (x : Fault) → (e ≢ error_is.OutOfMemory → e ≡ error_is.Refused x) → P x
    → (f : Fault) → e ≡ error_is.Refused f → P f
from_cause P e x is holds f told = as_cause P x holds f (sym (is (no_room e f told)) ∙ told)

pub from_load : (P : Fault → Type 0) (e : JobError) (loads : List (List ℕ))
    → (e ≢ error_is.OutOfMemory → (at : ℕ) × (e ≡ error_is.Refused (fault.Load at)) × IsBadLoad loads at)
    → ((at : ℕ) → IsBadLoad loads at → P (fault.Load at)) → (f : Fault) → e ≡ error_is.Refused f → P f
from_load P e loads is holds f told =
    let known = is (no_room e f told) in
    as_cause P (fault.Load known.0) (holds known.0 known.2) f (sym known.1 ∙ told)

-- an argument by the list of all
pub for_argument : (p : Parts) (list : List (List ℕ)) (at : ℕ) (word : List ℕ) (Holds : List ℕ → Type 0) → p.arguments ≡ list → slice_get list at ≡ Some word
    → Holds word → ForArgument p at Holds
for_argument p list at word Holds e is holds = (word, ap (λ (l : List (List ℕ)). slice_get l at) e ∙ is, holds)

empty_word : (word : List ℕ) → (IsName word → ⊥) → word ≡ []
empty_word [] none = refl
empty_word (b ∷ bs) none = absurd (none (omega arith))

pub empty_name : (command : List ℕ) (p : Parts) (e : JobError) (list : List (List ℕ)) (at : ℕ) (word : List ℕ) → p.arguments ≡ list
    → slice_get list at ≡ Some word → at < names_in command → (e ≢ error_is.OutOfMemory → IsName word → ⊥)
    → (e ≢ error_is.OutOfMemory → e ≡ error_is.Refused (fault.Empty at)) → HasCause command p e
empty_name command p e list at word are stands inside none is f told =
    let empty = ap (λ (l : List (List ℕ)). slice_get l at) are ∙ stands ∙ ap Some (empty_word word (none (no_room e f told))) in
    from_cause (IsFaultOf command p) e (fault.Empty at) is (inside, empty) f told

pub no_number : (command : List ℕ) (p : Parts) (e : JobError) (list : List (List ℕ)) (at : ℕ) (word : List ℕ) → p.arguments ≡ list
    → slice_get list at ≡ Some word → (least most : ℕ) → IsRange command at least most → IsNoNumber least most word
    → e ≡ error_is.Refused (fault.Number at least most) → HasCause command p e
no_number command p e list at word are stands least most range none is =
    from_cause (IsFaultOf command p) e (fault.Number at least most) (λ _. is)
    (range, for_argument p list at word (IsNoNumber least most) are stands none)

-- too few arguments, or too many
pub wrong_count : (command : List ℕ) (p : Parts) (e : JobError) → (e ≢ error_is.OutOfMemory → TakesSoMany command (length p.arguments) → ⊥)
    → (e ≢ error_is.OutOfMemory → e ≡ error_is.Refused fault.Count) → HasCause command p e
wrong_count command p e many is f told = from_cause (IsFaultOf command p) e fault.Count is (many (no_room e f told)) f told

-- options behind another command than `run`
pub has_options : (command : List ℕ) (p : Parts) → command ≢ codes "run" → (HasNoOptions p → ⊥) → HasCause command p (error_is.Refused fault.OptionOfRun)
has_options command p other some = as_cause (IsFaultOf command p) fault.OptionOfRun (other, some)

-- the loads among the arguments
pub bad_load : (p : Parts) (rows : List Row) → IsFound p rows → (at : ℕ) → IsBadLoad (words_of rows (codes "loads")) at
    → IsBadLoad (drop 5 p.arguments) at
bad_load p rows found at bad = subst (λ (l : List (List ℕ)). IsBadLoad l at) (sym (ap (drop 5) found.0)) bad

-- a cause behind a command
pub behind : (command : List ℕ) (rest : List (List ℕ)) (p : Parts) → parts_of None rest ≡ Some p → (f : Fault)
    → IsFaultOf command p f → IsFaultBehind command rest f
behind command rest p is fault.Nothing h = absurd h
behind command rest p is (fault.Stray place) h = absurd h
behind command rest p is (fault.NoValue slot) h = absurd h
behind command rest p is _ h = (p, is, h)

pub no_word : (words : List (Bor (List ℕ))) → words ≡ [] → IsFault (texts words) fault.Nothing
no_word words e = subst (λ (l : List (Bor (List ℕ))). IsFault (texts l) fault.Nothing) (sym e) refl

pub of_words : (words rest : List (Bor (List ℕ))) (command : Bor (List ℕ)) → words ≡ command ∷ rest → (f : Fault)
    → IsFaultBehind command.now (texts rest) f → IsFault (texts words) f
of_words words rest command e f h = subst (λ (l : List (Bor (List ℕ))). IsFault (texts l) f) (sym e) h

-- words that are taken apart one by one
one_further : (words : List (Bor (List ℕ))) (at : ℕ) (d : Bor (List ℕ)) → at < length words
    → texts (take (at + 1) words) ≡ texts (take at words) ++ ((slice_index_or words at d).now ∷ [])
one_further words at d inside =
    ap texts (take_more words at d inside) ∙ map-append (λ (b : Bor (List ℕ)). b.now) (take at words) (slice_index_or words at d ∷ [])

-- what the words so far gave, and what any others give, is what they give together
abbrev pub GivesFront : Parts → Option Slot → List (List ℕ) → Type 0
GivesFront p waiting front = (more : List (List ℕ)) → joined p (parts_of waiting more) ≡ parts_of None (front ++ more)

pub front_more : (p new : Parts) (waiting next : Option Slot) (words : List (Bor (List ℕ))) (at : ℕ) (d : Bor (List ℕ)) → at < length words
    → GivesFront p waiting (texts (take at words))
    → ((rest : List (List ℕ)) → joined new (parts_of next rest) ≡ joined p (parts_of waiting ((slice_index_or words at d).now ∷ rest)))
    → GivesFront new next (texts (take (at + 1) words))
front_more p new waiting next words at d inside before taken more =
    taken more ∙ before ((slice_index_or words at d).now ∷ more)
    ∙ ap (parts_of None)
    (sym (ap (λ (l : List (List ℕ)). l ++ more) (one_further words at d inside)
    ∙ append_assoc (texts (take at words)) ((slice_index_or words at d).now ∷ []) more))

front_sound : (p : Parts) (waiting : Option Slot) (front : List (List ℕ)) → waiting ≡ None → GivesFront p waiting front
    → parts_of None front ≡ Some (in_front p no_parts)
front_sound p waiting front e gives =
    ap (parts_of None) (sym (append-nil front)) ∙ sym (gives []) ∙ ap (λ (w : Option Slot). joined p (parts_of w [])) e

pub waits_more : (p new : Parts) (waiting next : Option Slot) (words : List (Bor (List ℕ))) (at : ℕ) (d : Bor (List ℕ)) → at < length words
    → GivesFront p waiting (texts (take at words)) → GivesFront new next (texts (take (at + 1) words))
    → ((slot : Slot) → next ≡ Some slot → (waiting ≡ None) × (kind_of (slice_index_or words at d).now ≡ wants slot))
    → (slot : Slot) → next ≡ Some slot → EndsInOption (texts (take (at + 1) words)) slot
waits_more p new waiting next words at d inside before now waits slot e =
    let known = waits slot e in
    record {
      front = texts (take at words);
      word = (slice_index_or words at d).now;
      last = one_further words at d inside;
      kind = known.1;
      parts = in_front p no_parts;
      sound = front_sound p waiting (texts (take at words)) known.0 before;
      refused = ap (parts_of None) (sym (append-nil (texts (take (at + 1) words)))) ∙ sym (now []) ∙ ap (λ (w : Option Slot). joined new (parts_of w [])) e;
    }

pub stray_at : (p : Parts) (waiting : Option Slot) (words : List (Bor (List ℕ))) (at : ℕ) (d : Bor (List ℕ)) → at < length words
    → GivesFront p waiting (texts (take at words)) → waiting ≡ None → kind_of (slice_index_or words at d).now ≡ unknown
    → ((rest : List (List ℕ)) → parts_of waiting ((slice_index_or words at d).now ∷ rest) ≡ None)
    → IsStray (texts words) at
stray_at p waiting words at d inside before free kind none = record {
  front = texts (take at words);
  word = (slice_index_or words at d).now;
  behind = texts (drop (suc at) words);
  stands = ap texts (sym (take-append-drop at words) ∙ ap (λ (l : List (Bor (List ℕ))). take at words ++ l) (drop-cons words at d inside))
      ∙ map-append (λ (b : Bor (List ℕ)). b.now) (take at words) (slice_index_or words at d ∷ drop (suc at) words);
  at = length-map (take at words) (λ (b : Bor (List ℕ)). b.now) ∙ length-take-le at words (omega (arith, inside));
  kind = kind;
  parts = in_front p no_parts;
  sound = front_sound p waiting (texts (take at words)) free before;
  refused = λ more. sym (before ((slice_index_or words at d).now ∷ more)) ∙ ap (joined p) (none more);
}

-- one value alone
pub single : (given : List (Bor (List ℕ))) (d : Bor (List ℕ)) → length given ≡ 1 → texts given ≡ (slice_index_or given 0 d).now ∷ []
single [] d e = absurd (omega (arith, e))
single (x ∷ []) d e = refl
single (x ∷ y ∷ rest) d e = absurd (omega (arith, e))

pub read_more : (p new : Parts) (waiting next : Option Slot) (words : List (Bor (List ℕ))) (at : ℕ) (d : Bor (List ℕ)) → at < length words
    → joined p (parts_of waiting (texts (drop at words))) ≡ parts_of None (texts words)
    → ((rest : List (List ℕ)) → joined new (parts_of next rest) ≡ joined p (parts_of waiting ((slice_index_or words at d).now ∷ rest)))
    → joined new (parts_of next (texts (drop (at + 1) words))) ≡ parts_of None (texts words)
read_more p new waiting next words at d inside before taken =
    let one : suc at ≡ at + 1 = omega arith in
    subst (λ (n : ℕ). joined new (parts_of next (texts (drop n words))) ≡ parts_of None (texts words)) one
    (taken (texts (drop (suc at) words))
    ∙ ap (λ (l : List (Bor (List ℕ))). joined p (parts_of waiting (texts l))) (sym (drop-cons words at d inside))
    ∙ before)

-- the values of an option
pub from_values : (p : Parts) (slot : Slot) (given : List (Bor (List ℕ))) (e : JobError) → texts given ≡ values_of slot p
    → ((e ≡ error_is.Refused (fault.Twice slot)) × (2 ≤ length given)) ⊎ ((e ≡ error_is.Refused (fault.Value slot)) × IsBadValue slot (texts given))
    → (f : Fault) → e ≡ error_is.Refused f → IsFaultOf (codes "run") p f
from_values p slot given e are (inl twice) f told =
    let same : length (texts given) ≡ length given = length-map given (λ (b : Bor (List ℕ)). b.now) in
    as_cause (IsFaultOf (codes "run") p) (fault.Twice slot)
    (refl, subst (λ (l : List (List ℕ)). 2 ≤ length l) are (omega (arith, same, twice.1))) f (sym twice.0 ∙ told)
from_values p slot given e are (inr value) f told =
    as_cause (IsFaultOf (codes "run") p) (fault.Value slot) (refl, subst (IsBadValue slot) are value.1) f (sym value.0 ∙ told)
