-- Which read failed, as the answers tell it.
use Rattle.std.proofs.Common.{◌≡◌, ℕ, true, false, List, Result, Err, sym, subst}
use Rattle.aftr_io.specs.declared.outside.Fault.{Fault}
use Rattle.aftr_io.specs.declared.outside.Fault.TheVariants as fault
use Rattle.aftr_io.specs.Outside.{OnlyReads, Readable, has_failed}
use Rattle.aftr_io.proofs.OutsideLemmas.{reads_wider}
use Rattle.capture_io.specs.declared.forms.CaptureError.{CaptureError}
use Rattle.capture_io.specs.declared.forms.CaptureError.TheVariants as error
use Rattle.capture_io.specs.Answers.{error_of, is_read_fault}

-- a read that failed, as the answer tells it, behind reads that did not fail
fault_inside : (T U : Type 0) (fault : Fault) (name : List ℕ) (P Q : ℕ → Type 0) (a b : Readable) → ((place : ℕ) → P place → Q place) →
    OnlyReads (has_failed {T = T} (Err fault)) name P a b → OnlyReads (is_read_fault {T = U} (Err (error_of fault))) name Q a b
fault_inside T U fault.Failed name P Q a b wider reads = reads_wider true name P Q a b wider reads
fault_inside T U fault.OutOfMemory name P Q a b wider reads = reads_wider false name P Q a b wider reads

pub failed_inside : (T U : Type 0) (result : Result U CaptureError) (fault : Fault) (name : List ℕ) (P Q : ℕ → Type 0) (a b c : Readable) →
    result ≡ Err (error_of fault) → b ≡ a → ((place : ℕ) → P place → Q place) →
    OnlyReads (has_failed {T = T} (Err fault)) name P b c → OnlyReads (is_read_fault result) name Q a c
failed_inside T U result fault name P Q a b c is same wider reads =
    let R : Result U CaptureError → Type 0 = λ r. OnlyReads (is_read_fault r) name Q a c in
    let S : Readable → Type 0 = λ o. OnlyReads (is_read_fault {T = U} (Err (error_of fault))) name Q o c in
    subst R (sym is) (subst S same (fault_inside T U fault name P Q b c wider reads))

-- a read that failed in a call below, and was handed on
fault_passed : (T U : Type 0) (e : CaptureError) (name : List ℕ) (P Q : ℕ → Type 0) (a b : Readable) → ((place : ℕ) → P place → Q place) →
    OnlyReads (is_read_fault {T = T} (Err e)) name P a b → OnlyReads (is_read_fault {T = U} (Err e)) name Q a b
fault_passed T U (error.Bad refusal) name P Q a b wider reads = reads_wider false name P Q a b wider reads
fault_passed T U error.ReadFault name P Q a b wider reads = reads_wider true name P Q a b wider reads
fault_passed T U error.OutOfMemory name P Q a b wider reads = reads_wider false name P Q a b wider reads

pub passed_inside : (T U : Type 0) (result : Result U CaptureError) (e : CaptureError) (name : List ℕ) (P Q : ℕ → Type 0) (a b c : Readable) →
    result ≡ Err e → b ≡ a → ((place : ℕ) → P place → Q place) →
    OnlyReads (is_read_fault {T = T} (Err e)) name P b c → OnlyReads (is_read_fault result) name Q a c
passed_inside T U result e name P Q a b c is same wider reads =
    let R : Result U CaptureError → Type 0 = λ r. OnlyReads (is_read_fault r) name Q a c in
    let S : Readable → Type 0 = λ o. OnlyReads (is_read_fault {T = U} (Err e)) name Q o c in
    subst R (sym is) (subst S same (fault_passed T U e name P Q b c wider reads))
