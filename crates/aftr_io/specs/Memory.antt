-- Files and a sink in memory whose chosen calls fail.
use Rattle.std.specs.Prelude.{ℕ, ◌==◌, Bool, List, [], ◌++◌, Option, Some, None, is_none, Result, Ok, Err, refl}
use Rattle.std.specs.List.{list_any}
use Rattle.std.specs.FinMap.{empty, get}
use Rattle.std.specs.Coded.{Coded, code_by, coded×, coded_ℕ, coded_list, coded_option}
use Rattle.aftr_io.specs.declared.outside.Fault.{Fault}
use Rattle.aftr_io.specs.declared.outside.Fault.TheVariants as fault
use Rattle.aftr_io.specs.Contents.{Contents, contents_code}
use Rattle.aftr_io.specs.Outside.{one_more}

-- whether the call of this number is one of those that are to fail
abbrev pub is_to_fail : ℕ → List ℕ → Bool
is_to_fail call failing = list_any (λ told. told == call) failing

-- whether no file has the name
abbrev pub is_missing : Contents → List ℕ → Bool
is_missing held name = is_none (get held name)

pub record ReadInMemory : Type 0 where
  pub held : Contents
  -- how many calls of `read` there were, which is the next call's number
  pub calls : ℕ
  -- the numbers of the calls that are to fail
  pub failing : List ℕ
  pub lost : ℕ
  pub last : Option (List ℕ × ℕ)

abbrev pub read_code : Coded ReadInMemory
read_code =
    code_by (Contents × (ℕ × (List ℕ × (ℕ × Option (List ℕ × ℕ)))))
    (coded× contents_code (coded× coded_ℕ (coded× (coded_list coded_ℕ) (coded× coded_ℕ (coded_option (coded× (coded_list coded_ℕ) coded_ℕ))))))
    (λ m. (m.held, (m.calls, (m.failing, (m.lost, m.last)))))
    (λ t. record { held = t.0; calls = t.1.0; failing = t.1.1.0; lost = t.1.1.1.0; last = t.1.1.1.1 })
    (λ _. refl)

abbrev pub nothing_to_read : ReadInMemory
nothing_to_read = record { held = empty; calls = 0; failing = []; lost = 0; last = None }

-- whether the next read fails, whatever its name
abbrev pub next_read_fails : ReadInMemory → Bool
next_read_fails m = is_to_fail m.calls m.failing

-- what a read of this name at this place leaves
abbrev pub after_read : Result ℕ Fault → List ℕ → ℕ → ReadInMemory → ReadInMemory
after_read (Err fault.Failed) name place m = record m { calls = one_more m.calls; lost = one_more m.lost; last = Some (name, place) }
after_read _ name place m = record m { calls = one_more m.calls }

pub record WrittenInMemory : Type 0 where
  pub held : Contents
  -- how many calls of `create` and `append` there were, which is the next call's number
  pub calls : ℕ
  -- the numbers of the calls that are to fail
  pub failing : List ℕ
  pub spoiled : ℕ

abbrev pub written_code : Coded WrittenInMemory
written_code =
    code_by (Contents × (ℕ × (List ℕ × ℕ))) (coded× contents_code (coded× coded_ℕ (coded× (coded_list coded_ℕ) coded_ℕ)))
    (λ m. (m.held, (m.calls, (m.failing, m.spoiled)))) (λ t. record { held = t.0; calls = t.1.0; failing = t.1.1.0; spoiled = t.1.1.1 }) (λ _. refl)

abbrev pub nothing_written : WrittenInMemory
nothing_written = record { held = empty; calls = 0; failing = []; spoiled = 0 }

-- whether the next call fails, whatever its name
abbrev pub next_write_fails : WrittenInMemory → Bool
next_write_fails m = is_to_fail m.calls m.failing

-- what a create or an append leaves that makes the files hold this
abbrev pub after_write : {T : Type 0} → Result T Fault → Contents → WrittenInMemory → WrittenInMemory
after_write (Ok _) held m = record m { held = held; calls = one_more m.calls }
after_write (Err fault.Failed) held m = record m { calls = one_more m.calls; spoiled = one_more m.spoiled }
after_write (Err fault.OutOfMemory) held m = record m { calls = one_more m.calls }

pub record SinkInMemory : Type 0 where
  -- the bytes taken
  pub out : List ℕ
  -- how many calls of `put` there were, which is the next call's number
  pub calls : ℕ
  -- the numbers of the calls that are to fail
  pub failing : List ℕ
  pub faults : ℕ

abbrev pub sink_code : Coded SinkInMemory
sink_code =
    code_by (List ℕ × (ℕ × (List ℕ × ℕ))) (coded× (coded_list coded_ℕ) (coded× coded_ℕ (coded× (coded_list coded_ℕ) coded_ℕ)))
    (λ s. (s.out, (s.calls, (s.failing, s.faults)))) (λ t. record { out = t.0; calls = t.1.0; failing = t.1.1.0; faults = t.1.1.1 }) (λ _. refl)

abbrev pub no_bytes : SinkInMemory
no_bytes = record { out = []; calls = 0; failing = []; faults = 0 }

-- what a put of these bytes leaves
abbrev pub after_put : Result ℕ Fault → List ℕ → SinkInMemory → SinkInMemory
after_put (Ok _) bytes s = record s { out = s.out ++ bytes; calls = one_more s.calls }
after_put (Err fault.Failed) bytes s = record s { calls = one_more s.calls; faults = one_more s.faults }
after_put (Err fault.OutOfMemory) bytes s = record s { calls = one_more s.calls }
