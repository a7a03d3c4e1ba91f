-- The pieces that are not written yet.
use Rattle.std.specs.Prelude.{ℕ, List}
use Rattle.ip_codec.specs.Packet4.{packet4}
use Rattle.fragmenter.specs.declared.packets4.Cuts4.{Cuts4}
use Rattle.fragmenter.specs.Pieces4.{fragments4}

abbrev pub left4 : Cuts4 → List (List ℕ)
left4 cuts = fragments4 (packet4 cuts.packet) cuts.mtu cuts.before
