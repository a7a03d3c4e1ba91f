-- What the words so far gave, with what those that are left give, is what all give; and the same of any other words behind them.
use Rattle.std.proofs.Common.{◌≡◌, drop, take, None, Some}
use Rattle.aftr_text.specs.Faults.{EndsInOption}
use Rattle.aftr_text.specs.Parts.{parts_of, texts}
use Rattle.aftr_text.specs.Seen.{joined}
use Rattle.aftr_text.specs.declared.parts.Slot.{Slot}
use Rattle.aftr_text.proofs.FaultLemmas.{GivesFront}
use Rattle.aftr_text.proofs.parts.split.Given as goal

abbrev pub invariant-words : goal.invariant-words
invariant-words l = record {
  read : joined l.parts (parts_of l.waiting (texts (drop l.at l.words))) ≡ parts_of None (texts l.words);
  front : GivesFront l.parts l.waiting (texts (take l.at l.words));
  waits : (slot : Slot) → l.waiting ≡ Some slot → EndsInOption (texts (take l.at l.words)) slot;
}
