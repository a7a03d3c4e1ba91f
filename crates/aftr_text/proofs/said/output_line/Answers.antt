use Rattle.aftr_text.proofs.said.output_line.Goals as goal

pub returns : goal.returns
returns c = (c.as_str.result.now, c.in_ok-line.ensures)
