use Rattle.std.proofs.Common.{List, IfOk, rules, sym, subst}
use Rattle.std.specs.List.{AllZip}
use Rattle.load_files.specs.Texts.{IsLoadOfFile}
use Rattle.load_files.specs.declared.files.LoadFile.{LoadFile}
use Rattle.load_files.proofs.files.+loads_of.Goals as goal

pub returns-in-Err : goal.returns-in-Err
returns-in-Err g n c =
    let load : IfOk c.spawn_with-load.result (IsLoadOfFile c.in-Some.last) = search rules in
    let Q : List LoadFile → Type 0 = λ files. IfOk c.behind-in-Err.result (λ loads. AllZip IsLoadOfFile files loads.items) in
    subst Q (sym {A = List LoadFile} c.in-Some.ensures.items) (c.behind-in-Err.ensures c.pop.new.self.items c.in-Some.last c.loads_of-before-in-Err.ensures load)

pub returns-in-Ok : goal.returns-in-Ok
returns-in-Ok g n c =
    let load : IfOk c.join-load.result (IsLoadOfFile c.in-Some.last) = search rules in
    let Q : List LoadFile → Type 0 = λ files. IfOk c.behind-in-Ok.result (λ loads. AllZip IsLoadOfFile files loads.items) in
    subst Q (sym {A = List LoadFile} c.in-Some.ensures.items) (c.behind-in-Ok.ensures c.pop.new.self.items c.in-Some.last c.loads_of-before.ensures load)
