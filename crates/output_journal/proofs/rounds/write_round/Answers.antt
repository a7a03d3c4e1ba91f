use Rattle.output_journal.specs.Log.{output_names}
use Rattle.output_journal.proofs.PartLemmas.{first_cut, second_cut, third}
use Rattle.output_journal.proofs.rounds.write_round.Goals as goal

pub returns-in_err-write_entry : goal.returns-in_err-write_entry
returns-in_err-write_entry g c =
    let f = g.O.Writing in
    let part = g.P.RoundPart in record {
      log = first_cut (output_names c.args.names) c.args.versions.now part.packet_bytes part.line_bytes c.args.parts.now
          (f.written c.args.files.now) (f.written c.write_entry.new.files) (f.written c.write_entry.new.files) (f.written c.write_entry.new.files)
          c.in_err-write_entry.field-0.0 c.from_residual.result c.from_residual.ensures.1 c.in_err-write_entry.ensures.log;
    }

pub returns-in_err-write_parts : goal.returns-in_err-write_parts
returns-in_err-write_parts g c =
    let f = g.O.Writing in
    let part = g.P.RoundPart in record {
      log = second_cut (output_names c.args.names) c.args.versions.now part.packet_bytes part.line_bytes c.args.parts.now
          (f.written c.args.files.now) (f.written c.write_entry.new.files) (f.written c.write_parts.new.files) (f.written c.write_parts.new.files)
          c.in_err-write_parts.field-0.0 c.from_residual-in_err-write_parts.result c.from_residual-in_err-write_parts.ensures.1
          c.in_ok-write_entry.ensures.log c.in_err-write_parts.ensures.log;
    }

pub returns : goal.returns
returns g c =
    let f = g.O.Writing in
    let part = g.P.RoundPart in record {
      log = third (output_names c.args.names) c.args.versions.now part.packet_bytes part.line_bytes c.args.parts.now
          (f.written c.args.files.now) (f.written c.write_entry.new.files) (f.written c.write_parts.new.files) (f.written c.write_parts-2.new.files)
          c.write_parts-2.result c.in_ok-write_entry.ensures.log c.in_ok-write_parts.ensures.log c.write_parts-2.ensures.log;
    }
