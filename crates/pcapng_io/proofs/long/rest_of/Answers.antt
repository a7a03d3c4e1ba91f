-- The bytes behind the largest packet.
use Rattle.std.proofs.Common.{◌≡◌, ℕ, List, drop, false, ◌∙◌, ap}
use Rattle.std.proofs.lemmas.List.{take_rest}
use Rattle.capture_io.specs.Windows.{Ahead}
use Rattle.pcapng_io.proofs.long.rest_of.Goals as goal

abbrev begun : List ℕ → Ahead
begun bytes = record { bytes = bytes; last = false }

pub returns : goal.returns
returns c =
    let bytes : c.in_ok-rest.rest.bytes ≡ drop 262172 c.args.window.now.bytes =
    ap (λ (a : Ahead). a.bytes) c.in_ok-rest.ensures ∙ (take_rest c.as_slice.result.now 262172 ∙ ap (drop 262172) c.as_slice.ensures) in
    c.in_ok-make_ready.ensures ∙ ap begun bytes
