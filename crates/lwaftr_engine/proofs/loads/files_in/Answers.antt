use Rattle.lwaftr_engine.proofs.Words.{arith, length, refl, slice_get_read, HasWindowOf, IsFileOf, read_well, ◌∙◌}
use Rattle.lwaftr_engine.proofs.LoadLemmas.{zipped_more}
use Rattle.lwaftr_engine.proofs.Moving.{told_both}
use Rattle.lwaftr_engine.proofs.loads.files_in.Goals as goal

pub files-preserved : goal.files-preserved
files-preserved g c =
    let ws = c.args.words.now in
    let there = slice_get_read ws (length ws) c.files.at c.index-words-at.result refl (omega (arith, c.files-test.true)) c.index-words-at.is in
    let items = c.files.read.items in
    let at = c.files.at in
    let words = c.index-words-at.result in
    let read = c.in_ok-file in
    let pushed = c.in_ok-push.ensures.items in
    let text = rw c.files.invariant.readable at read.ensures.text in
    record {
      within = omega (arith, c.files-test.true);
      texts = rw pushed (told_both (g.I.Reading.readable c.args.files.now).held _ _ _
          (λ m first one. zipped_more (IsFileOf m) ws items at words read.file there first one) c.files.invariant.texts text);
      windows = rw pushed (zipped_more HasWindowOf ws items at words read.file there c.files.invariant.windows read.ensures.window);
      readable = read_well _ _ _ _ c.in_ok-file.ensures.reads ∙ c.files.invariant.readable;
    }
