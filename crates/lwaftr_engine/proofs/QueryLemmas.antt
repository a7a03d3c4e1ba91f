-- What a question about a table file leaves.
use Rattle.lwaftr_engine.proofs.Words.{◌≡◌, inl, inr, ℕ, ◌≤◌, List, [], ◌∷◌, length, Option, Result, Ok, Err, ap, arith, subst, Contents, content, Told, V4}
use Rattle.lwaftr_engine.proofs.Words.{V6, TableOf, FileRefused, bound, BindingTable, Binding, IsNoTable, IsOwnerText, Puts, Answers, IsLineOf, IsOwnerLine}
use Rattle.lwaftr_engine.proofs.Words.{NamesOwner, RefusesAs, NoTable, Status, first_b4, IsCompiled}
use Rattle.lwaftr_engine.proofs.Laws.{OneAnswer}
use Rattle.lwaftr_engine.proofs.Moving.{told_by}
use Rattle.binding_rules.specs.declared.binding.Want.TheVariants as want
use Rattle.lwaftr_engine.specs.declared.table_file.NoTable.TheVariants as none
use Rattle.lwaftr_engine.specs.declared.status.Status.TheVariants as status

same_status : (x y : FileRefused) → status.BadTable x ≡ status.BadTable y → x ≡ y
same_status x y e = cc

same_error : (x y : FileRefused) → (let a : Result BindingTable FileRefused = Err x in a) ≡ Err y → x ≡ y
same_error x y e = cc

-- a refused file is answered with its cause
refuses : OneAnswer → (bytes : List ℕ) (x : FileRefused) → TableOf bytes (Err x) → RefusesAs bytes (status.BadTable x)
refuses one bytes x is y = (
  λ same. rw (← (same_status x y same)) is,
  λ other. inl (ap status.BadTable (same_error x y (one bytes (Err x) (Err y) is other))),
)

pub refuses_told : OneAnswer → (h : Option Contents) (name : List ℕ) (x : FileRefused) (why : NoTable) → why ≡ none.Refused x
    → Told h (λ m. IsNoTable (content m name) why) → Told h (λ m. RefusesAs (content m name) (status.BadTable x))
refuses_told one h name x why because is =
    told_by h _ _ (λ m no. refuses one (content m name) x (subst (λ w. IsNoTable (content m name) w) because no)) is

-- the text of the first of at most one owner names that owner
named : (bs : List Binding) (owner : Option V6) (line : List ℕ) → length bs ≤ 1 → owner ≡ first_b4 bs → IsOwnerText owner line → NamesOwner bs line
named [] owner line few is text = subst (λ o. IsOwnerText o line) is text
named (b ∷ []) owner line few is text = subst (λ o. IsOwnerText o line) is text
named (b ∷ c ∷ bs) owner line few is text = absurd (omega (arith, few))

-- what is put of a line that answers a question
pub answered : (IsLine : List ℕ → Type 0) (line : List ℕ) (s : Status) (said now : Option (List ℕ)) → IsLine line → Puts s line said now →
    Answers IsLine s said now
answered IsLine line status.Done said now it p = (line, it, p)
answered IsLine line status.WriteFault said now it p = (line, it, p.0, p.1, p.2)
answered IsLine line status.OutOfMemory said now it p = inr (line, it, p.0, p.1, p.2)
answered IsLine line _ said now it p = absurd p

-- the line of an owner under the file's table
pub owner_line : (h : Option Contents) (name : List ℕ) (v4 : V4) (port : ℕ) (t : BindingTable) (words : List ℕ) (owner : Option V6) (line : List ℕ)
    → Told h (λ m. TableOf (content m name) (Ok t)) → IsCompiled t words → owner ≡ first_b4 (bound t.bindings v4 (want.Port port)) → IsOwnerText owner line
    → IsLineOf (IsOwnerLine v4 port) h name line
owner_line h name v4 port t words owner line spelled compiled is text = record {
  table = t;
  valid = compiled.valid;
  spelled = spelled;
  asked = named (bound t.bindings v4 (want.Port port)) owner line (compiled.lawful.at_most_one v4 (want.Port port)) is text;
}
