-- What the laws of the crates below say of every run.
use Rattle.lwaftr_engine.specs.Words.{BindingTable, CountsAreTotals, HasAccess, IsLawful, Item, LimitsAreSome, LimitsBegin, LoadLinesJoin, RoundsJoin}
use Rattle.lwaftr_engine.specs.Words.{SettledPointsAreAll, verdict_of}
use Rattle.lwaftr_engine.specs.Runs.{SendsItsPackets}

pub record RunLaws : Type 0 where
  pub access : (t : BindingTable) (i : Item) → IsLawful t → HasAccess t i (verdict_of t i)
  pub sends : (t : BindingTable) (i : Item) → IsLawful t → SendsItsPackets i (verdict_of t i)
  pub limits : LimitsAreSome
  pub begins : LimitsBegin
  pub totals : CountsAreTotals
  pub joins : RoundsJoin
  pub lines : LoadLinesJoin
  pub points : SettledPointsAreAll
