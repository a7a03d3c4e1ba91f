use Rattle.table_words.proofs.TwoShapes.{edition_has_one, count_has_one}
use Rattle.table_words.proofs.shapes.one_shape.Goals as goal

pub returns-clause-edition_one : goal.returns-clause-edition_one
returns-clause-edition_one c = λ t list h one. edition_has_one t h.lawful one

pub returns-clause-count : goal.returns-clause-count
returns-clause-count c = λ t list h one. count_has_one t.bindings one
