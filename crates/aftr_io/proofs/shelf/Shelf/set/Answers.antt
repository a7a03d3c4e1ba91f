use Rattle.aftr_io.proofs.ContentLemmas.{insert_writes}
use Rattle.aftr_io.proofs.ShelfLemmas.{replaced, pushed}
use Rattle.aftr_io.proofs.shelf.Shelf.set.Goals as goal

pub returns-in-Some-clause-ok : goal.returns-in-Some-clause-ok
returns-in-Some-clause-ok c = replaced _ _ _ _ c.self.view_is c.deref.ensures.value c.in-Some.index _ _ c.in-Some.ensures c.in_ok-entry.ensures

pub returns-in_ok-push-in-None-clause-ok : goal.returns-in_ok-push-in-None-clause-ok
returns-in_ok-push-in-None-clause-ok c = pushed _ _ _ _ c.self.view_is c.deref.ensures.value _ _ _ c.in-None.ensures c.in_ok-entry.ensures c.in_ok-push-in-None.ensures.items

pub returns-in-Some-clause-writes : goal.returns-in-Some-clause-writes
returns-in-Some-clause-writes c = insert_writes _ _ _ _ (replaced _ _ _ _ c.self.view_is c.deref.ensures.value c.in-Some.index _ _ c.in-Some.ensures c.in_ok-entry.ensures)

pub returns-in_ok-push-in-None-clause-writes : goal.returns-in_ok-push-in-None-clause-writes
returns-in_ok-push-in-None-clause-writes c = insert_writes _ _ _ _ (pushed _ _ _ _ c.self.view_is c.deref.ensures.value _ _ _ c.in-None.ensures c.in_ok-entry.ensures c.in_ok-push-in-None.ensures.items)
