use Rattle.aftr_io.specs.System.{WritePlace}
use Rattle.aftr_io.specs.declared.writers.Writer.{Writer}
use Rattle.aftr_io.proofs.HandleLemmas.{ends_after}
use Rattle.aftr_io.proofs.writers.append.Given as given
use Rattle.aftr_io.proofs.writers.append.Goals as goal

abbrev handle : (g : given.Over) → Writer g.row.S.Denot g.row.S-ReadHandle.Denot g.row.S-WriteHandle.Denot g.S.System → WritePlace
handle g w = g.S.System.writes w.file

pub returns-clause-ends : goal.returns-clause-ends
returns-clause-ends g c told =
    ends_after (handle g) _ _ c.args.bytes.now c.writer_of.new.writers.items c.in_ok-place.place c.index_mut.result.now c.write.new.self c.write.result
    c.in_ok-place.ensures.within c.index_mut.ensures.value c.write.ensures.within (c.write.ensures.place told) (c.write.ensures.stays told) (c.write.ensures.same told) (c.write.ensures.bytes told)
    (c.in_ok-place.ensures.ends told)
