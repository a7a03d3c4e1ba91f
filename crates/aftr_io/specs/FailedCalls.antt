-- What is kept of a call that failed.
use Rattle.std.specs.Prelude.{ℕ, List}
use Rattle.std.specs.declared.io.ErrorKind.{ErrorKind}
use Rattle.aftr_io.specs.declared.last_error.WriteCall.{WriteCall}

pub record FailedRead : Type 0 where
  -- the bytes of the file's name
  pub name : List ℕ
  -- the place of the first byte that was asked for
  pub at : ℕ
  pub kind : ErrorKind

pub record FailedWrite : Type 0 where
  pub call : WriteCall
  -- the bytes of the file's name
  pub name : List ℕ
  pub kind : ErrorKind
