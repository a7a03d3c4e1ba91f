use Rattle.output_journal.specs.Log.{output_names}
use Rattle.output_journal.proofs.EntryLemmas.{added}
use Rattle.output_journal.proofs.journal.write_entry.Goals as goal

pub returns-in-Add : goal.returns-in-Add
returns-in-Add g c =
    let f = g.O.Writing in
    let did = c.append_all.ensures in record {
      log = rw c.in-Add.is (added (output_names c.args.names) c.requires.distinct c.append_all.result c.in-Add.output c.in-Add.bytes.now
          (f.written c.args.files.now) (f.written c.append_all.new.files) (rw c.name-in-Add.ensures at did.held) did.spoiled);
    }
