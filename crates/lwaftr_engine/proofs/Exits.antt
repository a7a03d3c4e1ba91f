-- Calls that were ended by a fault.
use Rattle.lwaftr_engine.proofs.Words.{Result, Ok, Err, IfErr, IfOk, IsErr, Fault, IsErrAnd, Rises, ap, has_failed, ℕ, ◌≡◌}
use Rattle.aftr_io.specs.declared.outside.Fault.TheVariants as fault

pub if_err : {T : Type 0} (A : Type 0) (r : Result T Fault) → A → IfErr r (λ _. A)
if_err A (Ok x) a = tt
if_err A (Err why) a = a

pub not_ok : {T : Type 0} (P : T → Type 0) (r : Result T Fault) → IsErr r → IfOk r P
not_ok P (Ok x) is = absurd (cc is)
not_ok P (Err why) is = tt

-- what a `?` hands on is the fault that it met
pub handed : {T : Type 0} {why : Fault} (r : Result T Fault) → IsErrAnd r (λ e. e ≡ why) → r ≡ Err why
handed (Ok x) is = absurd is
handed (Err e) is = ap Err is

-- whether a call failed does not hang on what it would have answered
pub fails_as : (T U : Type 0) (m n : ℕ) (why : Fault) → Rises (has_failed {T = T} (Err why)) m n → Rises (has_failed {T = U} (Err why)) m n
fails_as T U m n fault.Failed rises = rises
fails_as T U m n fault.OutOfMemory rises = rises
