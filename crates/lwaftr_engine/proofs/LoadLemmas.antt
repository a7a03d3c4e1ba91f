-- Loads that are read in batches.
use Rattle.lwaftr_engine.proofs.Words.{◌≡◌, ℕ, suc, ◌+◌, Bool, false, true, List, [], ◌∷◌, ◌++◌, take, drop, Option, Some, Ok, Err, sym, ◌∙◌, ap, arith}
use Rattle.lwaftr_engine.proofs.Words.{subst, AllZip, Contains, slice_get, map, take-add, take-suc, map-append, take-append-drop, Contains-append_left}
use Rattle.lwaftr_engine.proofs.Words.{Contains-append_right, get_or_from_slice_get, slice_get_within, all_zipped_more, Contents, Told, content, Readable}
use Rattle.lwaftr_engine.proofs.Words.{LoadWords, AreFitFor, AreLoadsOf, FailsAmong, HasWindowOf, IsFileOf, IsFitFor, IsLoadOf, OnlyReadsAmong, Answer}
use Rattle.lwaftr_engine.proofs.Words.{IsSound, IsLoadOfFile, IsLoadedAs, Load, Loaded, LoadFile, TableOf, read_well}
use Rattle.lwaftr_engine.proofs.FrontLemmas.{table_of_front}
use Rattle.lwaftr_engine.proofs.Moving.{told_by}
use Rattle.lwaftr_engine.proofs.ReadLemmas.{read_among}
use Rattle.reload_plan.specs.declared.loads.Loaded.TheVariants as loaded

abbrev pub names_of : List LoadWords → List (List ℕ)
names_of words = map (λ (load : LoadWords). load.name) words

one_more : {A : Type 0} (xs : List A) (at : ℕ) (x : A) → slice_get xs at ≡ Some x → take at xs ++ x ∷ [] ≡ take (at + 1) xs
one_more {A} xs at x is =
    let next = take-suc xs at x (slice_get_within xs at x is) in
    let here = get_or_from_slice_get xs at x x is in
    let place : suc at ≡ at + 1 = omega arith in
    ap (λ (y : A). take at xs ++ y ∷ []) (sym here) ∙ (sym next ∙ ap (λ (n : ℕ). take n xs) place)

joined : {A B : Type 0} (R : A → B → Type 0) (xs vs : List A) (ys zs : List B) → AllZip R xs ys → AllZip R vs zs → AllZip R (xs ++ vs) (ys ++ zs)
joined R [] vs [] zs h k = k
joined R [] vs (y ∷ ys) zs h k = absurd h
joined R (x ∷ xs) vs [] zs h k = absurd h
joined R (x ∷ xs) vs (y ∷ ys) zs h k = (h.0, joined R xs vs ys zs h.1 k)

through : {A B D : Type 0} (P : A → B → Type 0) (Q : B → D → Type 0) (R : A → D → Type 0) → ((a : A) (b : B) (d : D) → P a b → Q b d → R a d) →
    (xs : List A) (ys : List B) (zs : List D) → AllZip P xs ys → AllZip Q ys zs → AllZip R xs zs
through P Q R one [] [] [] h k = tt
through P Q R one [] [] (z ∷ zs) h k = absurd k
through P Q R one [] (y ∷ ys) zs h k = absurd h
through P Q R one (x ∷ xs) [] zs h k = absurd h
through P Q R one (x ∷ xs) (y ∷ ys) [] h k = absurd k
through P Q R one (x ∷ xs) (y ∷ ys) (z ∷ zs) h k = (one x y z h.0 k.0, through P Q R one xs ys zs h.1 k.1)

-- one element more on either side
pub zipped_more : {A B : Type 0} (R : A → B → Type 0) (xs : List A) (ys : List B) (at : ℕ) (x : A) (y : B) → slice_get xs at ≡ Some x →
    AllZip R (take at xs) ys → R x y → AllZip R (take (at + 1) xs) (ys ++ y ∷ [])
zipped_more {A} {B} R xs ys at x y is before one = rw (← (one_more xs at x is)) (all_zipped_more R (take at xs) ys x y before one)

-- so many elements more on either side
pub zipped_on : {A B : Type 0} (R : A → B → Type 0) (xs : List A) (ys zs : List B) (at count : ℕ) → AllZip R (take at xs) ys →
    AllZip R (take count (drop at xs)) zs → AllZip R (take (at + count) xs) (ys ++ zs)
zipped_on {A} {B} R xs ys zs at count before next =
    rw (take-add at count xs) (joined R (take at xs) (take count (drop at xs)) ys zs before next)

said : (m : Contents) (w : LoadWords) (f : LoadFile) (l : Load) → IsFileOf m w f → IsLoadOfFile f l → IsLoadOf m w l
said m w f l file load = record {
  answer = load.said.answer;
  says = table_of_front (content m w.name) load.said.answer (subst (λ b. TableOf b load.said.answer) file.text load.said.says);
  is = load.said.is;
}

-- the loads of files are those of the words that the files were read for
pub loads_told : (h : Option Contents) (ws : List LoadWords) (fs : List LoadFile) (ls : List Load) → Told h (λ m. AllZip (IsFileOf m) ws fs) →
    AllZip IsLoadOfFile fs ls → Told h (λ m. AreLoadsOf m ws ls)
loads_told h ws fs ls read loads = told_by h _ _ (λ m files. through (IsFileOf m) IsLoadOfFile (IsLoadOf m) (said m) ws fs ls files loads) read

sound_by : (answer : Answer) (l : Loaded) → IsLoadedAs answer l → IsSound l
sound_by (Ok t) (loaded.Words words) is = record { table = t; of_table = is }
sound_by (Err refusal) (loaded.Refused cause) is = tt
sound_by _ _ is = absurd is

fits : (w : LoadWords) (f : LoadFile) (l : Load) → HasWindowOf w f → IsLoadOfFile f l → IsFitFor w l
fits w f l window load = record { window = load.window ∙ window; sound = sound_by load.said.answer l.loaded load.said.is }

pub loads_fit : (ws : List LoadWords) (fs : List LoadFile) (ls : List Load) → AllZip HasWindowOf ws fs → AllZip IsLoadOfFile fs ls → AreFitFor ws ls
loads_fit ws fs ls windows loads = through HasWindowOf IsLoadOfFile IsFitFor fits ws fs ls windows loads

-- what is among the names of some of the words is among those of all
among_all_names : (ws : List LoadWords) (at count : ℕ) (name : List ℕ) → Contains (names_of (take count (drop at ws))) name → Contains (names_of ws) name
among_all_names ws at count name among =
    let rest = drop count (drop at ws) in
    let whole : names_of (take at ws) ++ (names_of (take count (drop at ws)) ++ names_of rest) ≡ names_of ws =
    ap (λ (l : List (List ℕ)). names_of (take at ws) ++ l)
    (sym (map-append (λ (load : LoadWords). load.name) (take count (drop at ws)) rest) ∙ ap (λ (l : List LoadWords). names_of l)
    (take-append-drop count (drop at ws)))
    ∙ (sym (map-append (λ (load : LoadWords). load.name) (take at ws) (drop at ws)) ∙ ap (λ (l : List LoadWords). names_of l) (take-append-drop at ws)) in
    rw (← whole) (Contains-append_right (names_of (take at ws)) (names_of (take count (drop at ws)) ++ names_of rest) name
    (Contains-append_left (names_of (take count (drop at ws))) (names_of rest) name among))

fails_among : (failed : Bool) (ws : List LoadWords) (at count : ℕ) (before now : Option (List ℕ × ℕ)) →
    FailsAmong failed (names_of (take count (drop at ws))) before now → FailsAmong failed (names_of ws) before now
fails_among false ws at count before now same = same
fails_among true ws at count before now failed = read_among (among_all_names ws at count) failed

-- what reads the files of some of the words reads among those of all
pub reads_within : (failed : Bool) (ws : List LoadWords) (at count : ℕ) (a b d : Readable) → b ≡ a →
    OnlyReadsAmong failed (names_of (take count (drop at ws))) b d → OnlyReadsAmong failed (names_of ws) a d
reads_within failed ws at count a b d same only =
    let some : OnlyReadsAmong failed (names_of (take count (drop at ws))) a d =
    rw (← same) only in
    record { held = some.held; lost = some.lost; last = fails_among failed ws at count a.last d.last some.last }

-- reads of many files that went well change nothing that is known
pub read_all : {a b d : Readable} {names : List (List ℕ)} → b ≡ a → OnlyReadsAmong false names b d → d ≡ a
read_all {b = b} {d = d} same only =
    read_well [] (λ _. Unit {0}) b d (record { held = only.held; lost = only.lost; last = only.last }) ∙ same
