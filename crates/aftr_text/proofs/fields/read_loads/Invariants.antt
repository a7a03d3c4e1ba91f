use Rattle.std.proofs.Common.{◌≡◌, take}
use Rattle.std.specs.Prelude.{All}
use Rattle.aftr_text.specs.Jobs.{IsLoad, load_texts}
use Rattle.aftr_text.specs.Parts.{texts}
use Rattle.aftr_text.proofs.fields.read_loads.Given as goal

abbrev pub invariant-words : goal.invariant-words
invariant-words l = record {
  spelled : load_texts l.loads.items ≡ texts (take l.at l.words);
  sound : All IsLoad l.loads.items;
}
