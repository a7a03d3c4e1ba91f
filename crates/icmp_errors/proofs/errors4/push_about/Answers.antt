-- A packet that is read is quoted whole, and the error quotes the front of that.
use Rattle.ip_codec.specs.Packet4.{packet4}
use Rattle.icmp_errors.specs.Answers.{about}
use Rattle.icmp_errors.proofs.PushLemmas.{then_on_success}
use Rattle.icmp_errors.proofs.QuoteLemmas.{embedded_of-packet}
use Rattle.icmp_errors.proofs.errors4.push_about.Goals as goal

pub returns-clause-told : goal.returns-clause-told
returns-clause-told c =
    let p = packet4 c.args.p.now in
    then_on_success c.push_error4.result (λ told is. told c.requires (about p) (embedded_of-packet p is)) c.push_error4.ensures.told
