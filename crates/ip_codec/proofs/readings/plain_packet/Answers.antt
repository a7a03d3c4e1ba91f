-- What the header says of its lengths is so.
use Rattle.std.proofs.Common.{◌≡◌, ◌-◌, ◌∙◌, Ok, ap, sym, arith, take}
use Rattle.std.proofs.lemmas.List.{length-take-le}
use Rattle.aftr_base.specs.Numbers.{span}
use Rattle.ip_codec.specs.Packet4.{fields4, ip4_of, is_fragment, packet4, total_len_of}
use Rattle.ip_codec.proofs.Packet4Lemmas.{ip4_of-alone, ip4_of-shaped, known_as, plain_known}
use Rattle.ip_codec.proofs.readings.plain_packet.Goals as goal

pub uncut_view-view-requires : goal.uncut_view-view-requires
uncut_view-view-requires c =
    let bytes = c.args.bytes.now in
    let known = plain_known bytes c.requires in
    let total_is : c.from-total_len.result ≡ total_len_of bytes = c.from-total_len.ensures ∙ c.be16.ensures in
    record {
      least = omega (arith, length-take-le 20 bytes known.enough);
      uncut = ap (λ n. is_fragment (fields4 (take 20 bytes) (span bytes 20 (n - 20)))) total_is ∙ known.uncut;
    }

pub invariant_of-result : goal.invariant_of-result
invariant_of-result c =
    let bytes = c.args.bytes.now in
    let packet = packet4 c.uncut_view-view.result in
    let known = plain_known bytes c.requires in
    let read : ip4_of bytes ≡ Ok packet =
    known_as bytes 20 c.from-total_len.result packet (sym known.header_len) (c.from-total_len.ensures ∙ c.be16.ensures) known.reads c.uncut_view-view.ensures in
    let shaped = ip4_of-shaped bytes packet read in
    record {
      alone = ip4_of-alone bytes packet read;
      bounded = record {
        tos = omega arith;
        id = omega arith;
        offset = shaped.offset;
        ttl = omega arith;
        protocol = omega arith;
        whole_words = shaped.whole_words;
        least_header = shaped.least_header;
        most_header = shaped.most_header;
        most = omega (arith, shaped.total_len, c.from-total_len.ensures, c.be16.ensures);
      };
    }

pub returns-clause-read : goal.returns-clause-read
returns-clause-read c =
    let bytes = c.args.bytes.now in
    let known = plain_known bytes c.requires in
    known_as bytes 20 c.from-total_len.result (packet4 c.uncut_view-view.result) (sym known.header_len) (c.from-total_len.ensures ∙ c.be16.ensures) known.reads
    c.uncut_view-view.ensures

pub returns-clause-front : goal.returns-clause-front
returns-clause-front c =
    let bytes = c.args.bytes.now in
    let shaped = ip4_of-shaped bytes (packet4 c.uncut_view-view.result) (returns-clause-read c) in
    shaped.front ∙ ap (λ n. take n bytes) (sym shaped.total_len)
