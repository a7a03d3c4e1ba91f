-- The header goes before the message, whose quote is the front of both parts; after the reservation nothing fails.
use Rattle.std.proofs.Common.{◌≡◌, ◌+◌, ◌++◌, [], length, take, ap, ◌∙◌, arith}
use Rattle.std.proofs.lemmas.List.{length-append}
use Rattle.icmp_codec.specs.Message4.{icmp4_bytes}
use Rattle.ip_codec.specs.Packet4.{header4}
use Rattle.icmp_errors.specs.Errors4.{error4, error_head}
use Rattle.icmp_errors.proofs.PushLemmas.{error4-parts, front_of_both, on_success, pushed}
use Rattle.icmp_errors.proofs.QuoteLemmas.{error4-size, error4-tells, ip4_of-error4}
use Rattle.icmp_errors.proofs.errors4.push_error4.Goals as goal

pub returns-clause-bytes : goal.returns-clause-bytes
returns-clause-bytes c =
    let quote = c.front-quote.result.now in
    let more = c.front-more.result.now in
    let packet = c.args.header.now ++ c.args.payload.now in
    let n = 8 + length quote + length more in
    let header = header4 (error_head c.args.own c.args.to) [] n in
    let message = icmp4_bytes c.args.head.kind c.args.head.code c.args.head.word (quote ++ more) in
    let list_is : c.extend_from_slice.new.self.items ≡ c.args.list.now.items ++ header =
    c.in_ok-extend_from_slice.ensures.items ∙ ap (λ l. l ++ c.error_header.result) c.reserve.ensures.items
    ∙ ap (λ l. c.args.list.now.items ++ l) c.error_header.ensures.bytes in
    let quote_is : quote ++ more ≡ take 548 packet =
    front_of_both 548 c.args.header.now c.args.payload.now quote more c.front-quote.ensures.bytes c.front-more.ensures.bytes in
    let len : n ≡ 8 + length (quote ++ more) = omega (arith, length-append quote more) in
    pushed c.push_icmp4.result c.push_icmp4.new.list.items c.extend_from_slice.new.self.items c.args.list.now.items header message
    (error4 c.args.own c.args.to c.args.head.kind c.args.head.code c.args.head.word packet)
    (c.push_icmp4.ensures.room (omega (arith, c.in_ok-extend_from_slice.ensures.len, c.in_ok-reserve.ensures.ok, c.extend_from_slice.ensures.capacity))) c.push_icmp4.ensures.bytes list_is
    (error4-parts c.args.own c.args.to c.args.head.kind c.args.head.code c.args.head.word n (quote ++ more) packet len quote_is)

pub returns-clause-read : goal.returns-clause-read
returns-clause-read c =
    on_success c.push_icmp4.result
    (ip4_of-error4 c.args.own c.args.to c.args.head.kind c.args.head.code c.args.head.word (c.args.header.now ++ c.args.payload.now)
    c.error_header.ensures.addresses_fit.0 c.error_header.ensures.addresses_fit.1)

pub returns-clause-told : goal.returns-clause-told
returns-clause-told c =
    on_success c.push_icmp4.result
    (λ error quoted is.
    error4-tells c.args.own c.args.to c.args.head.kind c.args.head.code c.args.head.word (c.args.header.now ++ c.args.payload.now) quoted
    c.error_header.ensures.addresses_fit.0 c.error_header.ensures.addresses_fit.1 (omega arith) error is)

pub returns-in_err-reserve-clause-size : goal.returns-in_err-reserve-clause-size
returns-in_err-reserve-clause-size c =
    error4-size c.args.own c.args.to c.args.head.kind c.args.head.code c.args.head.word c.args.header.now c.args.payload.now

pub returns-clause-size : goal.returns-clause-size
returns-clause-size c =
    error4-size c.args.own c.args.to c.args.head.kind c.args.head.code c.args.head.word c.args.header.now c.args.payload.now
