-- The word is the size.
use Rattle.std.proofs.Common.{ℕ, IfOk, subst}
use Rattle.ip_codec.specs.Packet4.{packet4}
use Rattle.icmp_errors.specs.Errors4.{TellsSource, too_big_bytes}
use Rattle.icmp_errors.proofs.errors4.push_too_big.Goals as goal

pub returns-clause-told : goal.returns-clause-told
returns-clause-told c =
    let p = packet4 c.args.p.now in
    let Told : ℕ → Type 0 = λ mtu. IfOk c.push_about.result (λ _. TellsSource c.args.own 3 4 mtu p (too_big_bytes c.args.own mtu p)) in
    subst Told c.from.ensures c.push_about.ensures.told
