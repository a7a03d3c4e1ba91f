-- All laws of what is sent for an item by its verdict under a table.
use Rattle.std.specs.Prelude.{ℕ, ◌<◌, ◌^◌, List}
use Rattle.binding_rules.specs.Tables.{BindingTable}
use Rattle.binding_rules.specs.declared.settings.Softwire.{Softwire}
use Rattle.ip_codec.specs.declared.items.Item.{Item}
use Rattle.packet_render.specs.Replies.{SaysWhy}
use Rattle.packet_render.specs.Sent.{sent}
use Rattle.packet_render.specs.Tunnels.{ErrorsReachOwners, TunnelsAreOwners}
use Rattle.packet_render.specs.WhatCame.{CarriesBytes, SendsWhatCame}
use Rattle.verdict_core.specs.Back.{GoesBack}
use Rattle.verdict_core.specs.Told.{TellsWhatIsDue}
use Rattle.verdict_core.specs.declared.verdicts.Verdict.{Verdict}
use Rattle.verdict_core.specs.declared.verdicts.Verdict.TheVariants as verdict

-- the settings are numbers of 32 and 16 bits
pub record AreInRange (s : Softwire) : Type 0 where
  pub own : s.own.0 < 2 ^ 32
  pub mtu4 : s.mtu4 < 2 ^ 16
  pub mtu6 : s.mtu6 < 2 ^ 16

-- what is written about a dropped packet is what its reply says
abbrev pub TellsWhy : Item → Verdict → List (List ℕ) → Type 0
TellsWhy i (verdict.Drop why told) list = SaysWhy i told list
TellsWhy i _ list = Unit {0}

-- What goes on is what came, and what goes into a tunnel is for its owner. A reply is due, goes back by the way that the packet came, and is
-- an error to the packet's source that quotes it. That the error can be read back holds of bytes, and of settings in range.
pub record IsRightlySent (t : BindingTable) (i : Item) (v : Verdict) (number : ℕ) : Type 0 where
  pub came : SendsWhatCame i v number (sent i v number)
  pub owners : TunnelsAreOwners t v number (sent i v number)
  pub errors : ErrorsReachOwners t i v
  pub due : TellsWhatIsDue t i v
  pub back : GoesBack t.softwire i v
  pub why : CarriesBytes i → AreInRange t.softwire → TellsWhy i v (sent i v number)
