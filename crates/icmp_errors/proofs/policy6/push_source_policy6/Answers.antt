-- The header goes before the message, whose quote is the tunnel's header and the front of the inner packet.
use Rattle.std.proofs.Common.{◌≡◌, ◌+◌, ◌++◌, length, ap, ◌∙◌, arith}
use Rattle.std.proofs.lemmas.List.{length-append}
use Rattle.icmp_codec.specs.Message6.{icmp6_bytes}
use Rattle.ip_codec.specs.Packet6.{header6}
use Rattle.icmp_errors.specs.Policy6.{policy6, policy_head, quoted_head}
use Rattle.icmp_errors.proofs.PushLemmas.{on_success, policy6-parts, pushed, tunnel_fronts}
use Rattle.icmp_errors.proofs.PolicyLemmas.{policy6-sizes, policy6-tells}
use Rattle.icmp_errors.proofs.policy6.push_source_policy6.Goals as goal

pub returns-clause-bytes : goal.returns-clause-bytes
returns-clause-bytes c =
    let first = c.args.header.now in
    let quote = c.front-quote.result.now in
    let more = c.front-more.result.now in
    let inner = first ++ c.args.payload.now in
    let outer = c.args.outer.now in
    let n = 48 + length first + length more in
    let header = header6 (policy_head c.args.from c.args.to c.args.hop) n in
    let message = icmp6_bytes c.args.from.0 c.args.to.0 1 5 0 (quote ++ more) in
    let list_is : c.extend_from_slice.new.self.items ≡ c.args.list.now.items ++ header =
    c.in_ok-extend_from_slice.ensures.items ∙ ap (λ l. l ++ c.head6_bytes.result) c.reserve.ensures.items
    ∙ ap (λ l. c.args.list.now.items ++ l) c.head6_bytes.ensures.bytes in
    let both_are : quote ≡ c.tunnel_header-tunnel.result ++ first = c.front-quote.ensures.bytes ∙ c.joined-headers.ensures in
    let quote_is = tunnel_fronts (quoted_head outer) first c.args.payload.now more c.tunnel_header-tunnel.result quote
    (omega (arith, c.requires.header)) c.tunnel_header-tunnel.ensures both_are c.front-more.ensures.bytes in
    let tunnel_len : length c.tunnel_header-tunnel.result ≡ 40 = ap length c.tunnel_header-tunnel.ensures in
    let quote_len : length quote ≡ 40 + length first =
    omega (arith, ap length both_are, length-append c.tunnel_header-tunnel.result first, tunnel_len) in
    let len : n ≡ 8 + length (quote ++ more) = omega (arith, length-append quote more, quote_len) in
    pushed c.push_icmp6.result c.push_icmp6.new.list.items c.extend_from_slice.new.self.items c.args.list.now.items header message
    (policy6 c.args.from c.args.to c.args.hop outer inner)
    (c.push_icmp6.ensures.room (omega (arith, quote_len, c.in_ok-extend_from_slice.ensures.len, c.in_ok-reserve.ensures.ok, c.extend_from_slice.ensures.capacity))) c.push_icmp6.ensures.bytes list_is
    (policy6-parts c.args.from c.args.to c.args.hop n outer inner (quote ++ more) len quote_is)

pub returns-clause-told : goal.returns-clause-told
returns-clause-told c =
    let first = c.args.header.now in
    let quote = c.front-quote.result.now in
    let more = c.front-more.result.now in
    let outer = c.args.outer.now in
    let quote_is = tunnel_fronts (quoted_head outer) first c.args.payload.now more c.tunnel_header-tunnel.result quote
    (omega (arith, c.requires.header)) c.tunnel_header-tunnel.ensures (c.front-quote.ensures.bytes ∙ c.joined-headers.ensures)
    c.front-more.ensures.bytes in
    let fit = c.head6_bytes.ensures.addresses_fit in
    on_success c.push_icmp6.result
    (policy6-tells c.args.from c.args.to c.args.hop outer (first ++ c.args.payload.now) (quote ++ more) fit.0 fit.1 quote_is c.push_icmp6.ensures.read)

pub returns-in_err-reserve-clause-size : goal.returns-in_err-reserve-clause-size
returns-in_err-reserve-clause-size c =
    policy6-sizes c.args.from c.args.to c.args.hop c.args.outer.now c.args.header.now c.args.payload.now

pub returns-clause-size : goal.returns-clause-size
returns-clause-size c = policy6-sizes c.args.from c.args.to c.args.hop c.args.outer.now c.args.header.now c.args.payload.now
