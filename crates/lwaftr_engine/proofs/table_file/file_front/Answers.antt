use Rattle.lwaftr_engine.proofs.Words.{List, ap, arith, ℕ, ◌++◌, ◌∙◌}
use Rattle.aftr_io.proofs.OutsideLemmas.{read_well}
use Rattle.lwaftr_engine.proofs.FrontLemmas.{front_longer}
use Rattle.lwaftr_engine.proofs.table_file.file_front.Goals as goal

pub pieces-preserved : goal.pieces-preserved
pieces-preserved g c =
    let h = (g.I.Reading.readable c.args.files.now).held in
    let list = c.pieces.list.items in
    let known = c.pieces.invariant in
    let piece = c.in_ok-piece in
    let longer = c.in_ok-extend_from_slice.ensures.items ∙ ap (λ (l : List ℕ). c.pieces.list.items ++ l) c.as_slice-bytes.ensures in
    record {
      within = grind arith;
      bytes = rw longer (front_longer h c.args.name.now list piece.piece c.len-have.result c.min-count.result (grind arith) (grind arith) known.bytes
          (rw known.readable at piece.ensures.bytes));
      readable = read_well c.args.name.now _ _ _ piece.ensures.reads ∙ known.readable;
    }
