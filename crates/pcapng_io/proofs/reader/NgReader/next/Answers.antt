use Rattle.std.proofs.Common.{◌≡◌, List, drop, Ok, sym, ap, subst}
use Rattle.aftr_io.specs.Contents.{content, Told}
use Rattle.capture_io.specs.declared.forms.Next.TheVariants as next
use Rattle.pcapng_io.specs.declared.interface.Interface.{Interface}
use Rattle.pcapng_io.specs.Seen.{Seen, seen_by}
use Rattle.pcapng_io.specs.Standing.{Standing}
use Rattle.pcapng_io.specs.Captures.{Gives, next_in}
use Rattle.pcapng_io.specs.Files.{left_at}
use Rattle.pcapng_io.specs.Answers.{Continues}
use Rattle.capture_io.specs.Windows.{Ahead, IsAtFront}
use Rattle.pcapng_io.proofs.ReadLemmas.{none_read}
use Rattle.pcapng_io.proofs.SplitLemmas.{continued_told}
use Rattle.pcapng_io.proofs.reader.NgReader.next.Goals as goal

pub find_record-requires-clause-stands : goal.find_record-requires-clause-stands
find_record-requires-clause-stands g c =
    let held = (g.I.Reading.readable c.args.files.now).held in
    subst (λ (w : Ahead). IsAtFront held c.args.name.now c.self.inside.known.at w) (sym c.clear.ensures) (none_read held c.args.name.now c.self.inside.known.at)

pub returns-in-Ok-Some-clause-step : goal.returns-in-Ok-Some-clause-step
returns-in-Ok-Some-clause-step g c =
    let seen = seen_by c.self.inside.known c.self.inside.interfaces.items in
    let found : Told (g.I.Reading.readable c.args.files.now).held (λ m. next_in seen (left_at m c.args.name.now seen.known.at) c.args.number ≡ Ok (Gives c.in-Ok-Some.found.record (seen_by c.in-Ok-Some.found.known (drop c.in-Ok-Some.found.first c.find_record.new.interfaces.items)))) =
    rw c.in-Ok-Some.field-0-is at c.in-Ok-Some.ensures.told in
    let told : Told (g.I.Reading.readable c.args.files.now).held (λ m. next_in seen (left_at m c.args.name.now seen.known.at) c.args.number ≡ Ok (Gives c.in-Ok-Some.found.record (seen_by c.in-Ok-Some.found.known c.drop_front.new.interfaces.items))) =
    subst (λ (l : List Interface). Told (g.I.Reading.readable c.args.files.now).held (λ m. next_in seen (left_at m c.args.name.now seen.known.at) c.args.number ≡ Ok (Gives c.in-Ok-Some.found.record (seen_by c.in-Ok-Some.found.known l)))) (sym c.drop_front.ensures) found in
    subst (λ (old : Seen). Told (g.I.Reading.readable c.args.files.now).held (λ m. Continues (Ok (next.Rec c.in-Ok-Some.found.record)) old (seen_by c.in-Ok-Some.found.known c.drop_front.new.interfaces.items) (content m c.args.name.now) c.args.number)) (ap (λ (s : Standing). s.seen) c.self.view_is)
    (continued_told (g.I.Reading.readable c.args.files.now).held c.args.name.now (Ok (next.Rec c.in-Ok-Some.found.record)) seen (seen_by c.in-Ok-Some.found.known c.drop_front.new.interfaces.items) c.args.number told)
