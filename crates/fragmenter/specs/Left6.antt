-- The fragments that are not written yet.
use Rattle.std.specs.Prelude.{ℕ, List}
use Rattle.ip_codec.specs.Packet6.{packet6}
use Rattle.fragmenter.specs.declared.packets6.Cuts6.{Cuts6}
use Rattle.fragmenter.specs.Pieces6.{fragments6, with_rest}

abbrev pub left6 : Cuts6 → List (List ℕ)
left6 cuts = fragments6 (with_rest (packet6 cuts.packet) cuts.rest.now) cuts.mtu cuts.id cuts.before
