use Rattle.aftr_io.proofs.ContentLemmas.{insert_writes}
use Rattle.aftr_io.proofs.ShelfLemmas.{grown, grown_new}
use Rattle.aftr_io.proofs.shelf.Shelf.append.Goals as goal

pub returns-in_ok-append-in-Some-clause-ok : goal.returns-in_ok-append-in-Some-clause-ok
returns-in_ok-append-in-Some-clause-ok c = grown _ _ _ _ c.self.view_is c.deref.ensures.value c.in-Some.index c.index_mut.result.now _ _ c.in-Some.ensures c.index_mut.ensures.value c.in_ok-append-in-Some.ensures.ok

pub returns-in_ok-push-in-None-clause-ok : goal.returns-in_ok-push-in-None-clause-ok
returns-in_ok-push-in-None-clause-ok c = grown_new _ _ _ _ c.self.view_is c.deref.ensures.value _ _ _ c.in-None.ensures c.in_ok-copy-in-None.ensures c.in_ok-push-in-None.ensures.items

pub returns-in_ok-append-in-Some-clause-writes : goal.returns-in_ok-append-in-Some-clause-writes
returns-in_ok-append-in-Some-clause-writes c = insert_writes _ _ _ _ (grown _ _ _ _ c.self.view_is c.deref.ensures.value c.in-Some.index c.index_mut.result.now _ _ c.in-Some.ensures c.index_mut.ensures.value c.in_ok-append-in-Some.ensures.ok)

pub returns-in_ok-push-in-None-clause-writes : goal.returns-in_ok-push-in-None-clause-writes
returns-in_ok-push-in-None-clause-writes c = insert_writes _ _ _ _ (grown_new _ _ _ _ c.self.view_is c.deref.ensures.value _ _ _ c.in-None.ensures c.in_ok-copy-in-None.ensures c.in_ok-push-in-None.ensures.items)
