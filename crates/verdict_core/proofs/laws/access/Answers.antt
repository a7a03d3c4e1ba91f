use Rattle.std.proofs.Common.{◌≡◌, Some}
use Rattle.binding_rules.specs.Tables.{BindingTable, IsLawful}
use Rattle.ip_codec.specs.declared.items.Item.{Item}
use Rattle.verdict_core.specs.Access.{BringsIn, Forbidden, Forwards, PassesOn, Refused, RelaysAll, SendsOn}
use Rattle.verdict_core.specs.Lines.{verdict_in}
use Rattle.verdict_core.specs.Verdicts.{lines, verdict_of}
use Rattle.verdict_core.specs.declared.verdicts.Verdict.{Verdict}
use Rattle.verdict_core.proofs.Firsts.{judged}
use Rattle.verdict_core.proofs.Going.{brings_in, sends_on}
use Rattle.verdict_core.proofs.Items.{IsFine, fine, some_verdict}
use Rattle.verdict_core.proofs.Passing.{passes_on}
use Rattle.verdict_core.proofs.Relaying.{relays_all}
use Rattle.verdict_core.proofs.Sending.{forbidden, forwards, refused}
use Rattle.verdict_core.proofs.laws.access.Goals as goal

-- what holds of every verdict that an item's lines give holds of its verdict
of_item : (P : BindingTable → Item → Verdict → Type 0) →
    ((t : BindingTable) (i : Item) (v : Verdict) → IsLawful t → verdict_in (lines t i) ≡ Some v → P t i v) →
    (t : BindingTable) (i : Item) → IsLawful t → P t i (verdict_of t i)
of_item P holds t i lawful = holds t i (verdict_of t i) lawful (some_verdict t i)

well : (t : BindingTable) (i : Item) → IsLawful t → IsFine t i (verdict_of t i)
well = of_item (λ t i v. IsFine t i v) fine

pub returns-clause-some : goal.returns-clause-some
returns-clause-some c = λ t i. some_verdict t i

pub returns-clause-judged : goal.returns-clause-judged
returns-clause-judged c = λ t i. judged t i (verdict_of t i) (some_verdict t i)

pub returns-clause-fits : goal.returns-clause-fits
returns-clause-fits c = λ t i lawful. (well t i lawful).fits

pub returns-clause-room : goal.returns-clause-room
returns-clause-room c = λ t i lawful. (well t i lawful).room

pub returns-clause-forwards : goal.returns-clause-forwards
returns-clause-forwards c = of_item (λ t i v. Forwards t i v) forwards

pub returns-clause-forbidden : goal.returns-clause-forbidden
returns-clause-forbidden c = of_item (λ t i v. Forbidden t i v) forbidden

pub returns-clause-refused : goal.returns-clause-refused
returns-clause-refused c = of_item (λ t i v. Refused t i v) refused

pub returns-clause-sends_on : goal.returns-clause-sends_on
returns-clause-sends_on c = of_item (λ t i v. SendsOn t i v) sends_on

pub returns-clause-brings_in : goal.returns-clause-brings_in
returns-clause-brings_in c = of_item (λ t i v. BringsIn t i v) brings_in

pub returns-clause-delivers : goal.returns-clause-delivers
returns-clause-delivers c = λ t i lawful. (well t i lawful).delivers

pub returns-clause-relays_own : goal.returns-clause-relays_own
returns-clause-relays_own c = λ t i lawful. (well t i lawful).relays

pub returns-clause-relays_all : goal.returns-clause-relays_all
returns-clause-relays_all c = of_item (λ t i v. RelaysAll t i v) (λ t i v lawful is. relays_all t i v is)

pub returns-clause-passes_on : goal.returns-clause-passes_on
returns-clause-passes_on c = of_item (λ t i v. PassesOn t i v) passes_on
