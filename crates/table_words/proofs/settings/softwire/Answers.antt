use Rattle.table_words.proofs.settings.softwire.Goals as goal

pub returns-clause-goes : goal.returns-clause-goes
returns-clause-goes g c =
    let on = g.met.W.Words.goes_on in
    on _ _ _ (on _ _ _ (on _ _ _ c.word-high.ensures.goes c.word-low.ensures.goes) c.word-own.ensures.goes) c.word-sizes.ensures.goes
