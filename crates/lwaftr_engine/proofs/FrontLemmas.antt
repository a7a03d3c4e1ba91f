-- The front of a file, joined from pieces; and that the front of a table file says what the file says.
use Rattle.lwaftr_engine.proofs.Words.{◌≡◌, ℕ, ◌+◌, ◌<◌, nat_lt, Bool, true, if◌then◌else◌, List, ◌++◌, length, length-take, take, drop, Option, Some, None}
use Rattle.lwaftr_engine.proofs.Words.{Result, Ok, Err, sym, ◌∙◌, ap, inl, inr, subst, arith, length-append, take-add, cases_lt, nat_tests, take_all}
use Rattle.lwaftr_engine.proofs.Words.{AnswerOf, FileError, IsFileCause, TableOf, fits, most_bytes, Then, FileRefused, BindingTable, Contents, content, Told}
use Rattle.lwaftr_engine.proofs.Moving.{told_by}
use Rattle.binding_file.specs.declared.refusals.FileError.TheVariants as file_error
use Rattle.binding_file.specs.declared.refusals.FileRefused.TheVariants as refused

-- what was read of the front, and then right behind it
pub front_longer : (h : Option Contents) (name list piece : List ℕ) (have count : ℕ) → have ≡ length list → length piece ≡ count
    → Told h (λ m. list ≡ take (length list) (content m name))
    → Told h (λ m. piece ≡ take count (drop have (content m name)))
    → Told h (λ m. list ++ piece ≡ take (length (list ++ piece)) (content m name))
front_longer None name list piece have count same whole first second = tt
front_longer (Some m) name list piece have count same whole first second =
    let bytes = content m name in
    let front : list ≡ take have (content m name) = first ∙ ap (λ n. take n bytes) (sym same) in
    let long : have + count ≡ length (list ++ piece) = omega (arith, length-append list piece, same, whole) in
    ap (λ l. l ++ piece) front ∙ (ap (λ l. take have bytes ++ l) second ∙ (sym (take-add have count bytes) ∙ ap (λ n. take n bytes) long))

-- a list that is too long is refused as too big
fits_big : (bytes : List ℕ) → most_bytes < length bytes → fits bytes ≡ Err refused.TooBig
fits_big bytes long =
    let test : nat_lt most_bytes (length bytes) ≡ true = grind (arith, nat_tests) in
    ap (λ (t : Bool). let r : Result (List ℕ) FileRefused = if t then Err refused.TooBig else Ok bytes in r) test

-- one byte more than a table file may have is enough to judge it
pub table_of_front : (bytes : List ℕ) (r : Result BindingTable FileRefused) → TableOf (take 16777217 bytes) r → TableOf bytes r
table_of_front bytes r says = elim (cases_lt 16777216 (length bytes)) [
  | inl long ↦
      let cut : 16777216 < length (take 16777217 bytes) = omega (arith, long, length-take 16777217 bytes) in
      subst (λ f. Then f (λ text. AnswerOf text r) r) (fits_big (take 16777217 bytes) cut ∙ sym (fits_big bytes long)) says
  | inr short ↦ subst (λ b. TableOf b r) (take_all 16777217 bytes (omega (arith, short))) says
]

pub table_told : (h : Option Contents) (name bytes text : List ℕ) (r : Result BindingTable FileRefused) → text ≡ bytes
    → Told h (λ m. bytes ≡ take 16777217 (content m name)) → TableOf text r → Told h (λ m. TableOf (content m name) r)
table_told h name bytes text r is front says =
    told_by h _ _ (λ m at_front. table_of_front (content m name) r (subst (λ b. TableOf b r) (is ∙ at_front) says)) front

pub refusal_told : (h : Option Contents) (name bytes text : List ℕ) (error : FileError) (refusal : FileRefused) → text ≡ bytes →
    error ≡ file_error.Refused refusal
    → Told h (λ m. bytes ≡ take 16777217 (content m name)) → IsFileCause text error → Told h (λ m. TableOf (content m name) (Err refusal))
refusal_told h name bytes text error refusal is cause front says = table_told h name bytes text (Err refusal) is front (subst (IsFileCause text) cause says)
