use Rattle.aftr_io.proofs.ShelfLemmas.{found, not_found}
use Rattle.aftr_io.proofs.shelf.Shelf.get.Goals as goal

pub returns-in-Some : goal.returns-in-Some
returns-in-Some c = found _ _ _ _ c.self.view_is c.deref.ensures.value c.in-Some.index c.index.result.now _ c.in-Some.ensures c.index.ensures c.bytes.ensures

pub returns-in-None : goal.returns-in-None
returns-in-None c = not_found _ _ _ _ c.self.view_is c.deref.ensures.value c.in-None.ensures
