-- A text that grows behind what stood there before.
use Rattle.std.proofs.Common.{◌≡◌, ℕ, List, [], ◌++◌, decimal, refl, sym, ◌∙◌, ap, append_assoc, append-nil}
use Rattle.aftr_base.specs.Appended.{Extends}

pub longer : (old part more text after : List ℕ) → text ≡ old ++ part → after ≡ text ++ more → after ≡ old ++ (part ++ more)
longer old part more text after before added = added ∙ ap (λ (l : List ℕ). l ++ more) before ∙ append_assoc old part more

-- a word and a number more
pub counted : (old part word text after : List ℕ) (n m : ℕ) → text ≡ old ++ part → after ≡ text ++ word ++ decimal n → n ≡ m
    → after ≡ old ++ (part ++ word ++ decimal m)
counted old part word text after n m before added same =
    longer old (part ++ word) (decimal m) (text ++ word) after (longer old part word text (text ++ word) before refl)
    (added ∙ ap (λ (k : ℕ). text ++ word ++ decimal k) same)

pub three : (old a b c : List ℕ) → old ++ a ++ b ++ c ≡ old ++ (a ++ b ++ c)
three old a b c = append_assoc (old ++ a) b c ∙ append_assoc old a (b ++ c) ∙ ap (λ (l : List ℕ). old ++ l) (sym (append_assoc a b c))

-- three parts, and then two
pub ended : (old a b c d e f text more after : List ℕ) → text ≡ old ++ a → more ≡ text ++ (b ++ c ++ d) → after ≡ more ++ (e ++ f) →
    after ≡ old ++ (a ++ b ++ c ++ d ++ e ++ f)
ended old a b c d e f text more after before between added =
    longer old (a ++ (b ++ c ++ d)) (e ++ f) more after (longer old a (b ++ c ++ d) text more before between) added
    ∙ ap (λ (l : List ℕ). old ++ l)
    (sym (append_assoc (a ++ (b ++ c ++ d)) e f) ∙ ap (λ (l : List ℕ). l ++ e ++ f) (sym (three a b c d)))

-- one part, and then what ends the line in one piece
pub once : (a b c d e f last : List ℕ) → last ≡ e ++ f → a ++ ((b ++ c ++ d) ++ last) ≡ a ++ b ++ c ++ d ++ e ++ f
once a b c d e f last same =
    ended [] a b c d e f a (a ++ (b ++ c ++ d)) (a ++ ((b ++ c ++ d) ++ last)) refl refl
    (sym (append_assoc a (b ++ c ++ d) last) ∙ ap (λ (l : List ℕ). a ++ (b ++ c ++ d) ++ l) same)

-- nothing was put behind a text
pub unchanged : (old after : List ℕ) → after ≡ old → Extends old after
unchanged old after same = ([], same ∙ sym (append-nil old))
