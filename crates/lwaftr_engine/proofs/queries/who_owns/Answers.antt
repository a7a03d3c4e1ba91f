use Rattle.lwaftr_engine.proofs.Words.{IsLineOf, IsOwnerLine, List, ℕ}
use Rattle.lwaftr_engine.proofs.QueryLemmas.{answered, owner_line, refuses_told}
use Rattle.lwaftr_engine.proofs.queries.who_owns.Goals as goal

pub returns-in-Err-Refused-clause-refused : goal.returns-in-Err-Refused-clause-refused
returns-in-Err-Refused-clause-refused g c =
    rw c.in-Err-Refused.cause-is (refuses_told c.one_table.ensures.answer (g.I.Reading.readable c.args.files.now).held _ _ _
    c.in-Err-Refused.field-0-is c.in-Err-Refused.ensures.refused)

pub returns-in-Ok-owner_line-clause-line : goal.returns-in-Ok-owner_line-clause-line
returns-in-Ok-owner_line-clause-line g c =
    let h = (g.I.Reading.readable c.args.files.now).held in
    let name = c.args.name.now in
    let line = c.in-Ok-owner_line.line in
    let table = c.in-Ok.table in
    let compiled = c.in-Ok-compile.ensures.words in
    let owner = c.owner_in-owner.ensures table (rw c.as_slice.ensures compiled) in
    let asked = owner_line h name c.args.v4 c.args.port table c.in-Ok-compile.words c.owner_in-owner.result line
    c.in-Ok.ensures.table compiled owner c.in-Ok-owner_line.ensures in
    answered (λ (l : List ℕ). IsLineOf (IsOwnerLine c.args.v4 c.args.port) h name l) line c.put_line.result (g.S.Sink.out c.args.out.now)
    (g.S.Sink.out c.put_line.new.out) asked (rw c.as_slice-in-Ok-owner_line.ensures at c.put_line.ensures.puts)
