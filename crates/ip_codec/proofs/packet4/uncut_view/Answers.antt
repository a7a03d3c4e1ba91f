-- No bit of a fragment is set.
use Rattle.std.proofs.Common.{◌≡◌, ◌%◌, ◌==◌, false, not, sym}
use Rattle.std.proofs.lemmas.Bool.{eqb-true, not-false, or_parts}
use Rattle.ip_codec.specs.Packet4.{bit, word}
use Rattle.ip_codec.proofs.packet4.uncut_view.Goals as goal

pub returns : goal.returns
returns c =
    let same = c.view_of.ensures in
    let flags = word c.args.header.now 6 in
    let none = or_parts (bit flags 8192) (not (flags % 8192 == 0)) c.requires.uncut in
    let mf_is : false ≡ bit flags 8192 = sym none.0 in
    let offset_is : 0 ≡ flags % 8192 = sym (eqb-true (flags % 8192) 0 (not-false (flags % 8192 == 0) none.1)) in
    λ i. record (same i) { mf = mf_is i; offset = offset_is i }
