-- What the header says of its lengths is so.
use Rattle.std.proofs.Common.{◌≡◌, ◌*◌, ◌∙◌, Ok, ap, sym, arith, slice_index, take}
use Rattle.std.proofs.lemmas.Nat.{and_mask}
use Rattle.ip_codec.specs.Packet4.{header_len_of, ip4_of, packet4}
use Rattle.ip_codec.proofs.Packet4Lemmas.{ip4_of-alone, ip4_of-shaped, known_as}
use Rattle.ip_codec.proofs.readings.known_packet.Goals as goal

pub invariant_of-result : goal.invariant_of-result
invariant_of-result c =
    let bytes = c.args.bytes.now in
    let packet = packet4 c.view_of-view.result in
    let header_len : 4 * c.from-header_len.result ≡ header_len_of bytes =
    ap (λ n. 4 * n) (c.from-header_len.ensures ∙ and_mask (slice_index bytes 0) 4) in
    let read : ip4_of bytes ≡ Ok packet =
    known_as bytes _ c.from-total_len.result packet header_len (c.from-total_len.ensures ∙ c.be16.ensures) c.requires c.view_of-view.ensures in
    let shaped = ip4_of-shaped bytes packet read in
    record {
      alone = ip4_of-alone bytes packet read;
      bounded = record {
        tos = omega arith;
        id = omega arith;
        offset = shaped.offset;
        ttl = omega arith;
        protocol = omega arith;
        whole_words = shaped.whole_words;
        least_header = shaped.least_header;
        most_header = shaped.most_header;
        most = omega (arith, shaped.total_len, c.from-total_len.ensures, c.be16.ensures);
      };
    }

pub returns-clause-read : goal.returns-clause-read
returns-clause-read c =
    let bytes = c.args.bytes.now in
    let header_len : 4 * c.from-header_len.result ≡ header_len_of bytes =
    ap (λ n. 4 * n) (c.from-header_len.ensures ∙ and_mask (slice_index bytes 0) 4) in
    known_as bytes _ c.from-total_len.result (packet4 c.view_of-view.result) header_len (c.from-total_len.ensures ∙ c.be16.ensures) c.requires
    c.view_of-view.ensures

pub returns-clause-front : goal.returns-clause-front
returns-clause-front c =
    let bytes = c.args.bytes.now in
    let shaped = ip4_of-shaped bytes (packet4 c.view_of-view.result) (returns-clause-read c) in
    shaped.front ∙ ap (λ n. take n bytes) (sym shaped.total_len)
