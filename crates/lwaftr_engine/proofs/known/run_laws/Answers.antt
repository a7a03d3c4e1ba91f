use Rattle.lwaftr_engine.proofs.Words.{verdict_of}
use Rattle.lwaftr_engine.proofs.known.run_laws.Goals as goal

pub returns : goal.returns
returns c =
    let held = c.access.ensures in
    record {
      access = λ t i lawful. record {
        forwards = held.forwards t i lawful;
        forbidden = held.forbidden t i lawful;
        refused = held.refused t i lawful;
        sends_on = held.sends_on t i lawful;
        brings_in = held.brings_in t i lawful;
        delivers = held.delivers t i lawful;
        relays_own = held.relays_own t i lawful;
        relays_all = held.relays_all t i lawful;
        passes_on = held.passes_on t i lawful;
      };
      sends = λ t i lawful number. c.forwarded_is_sent.ensures i (verdict_of t i) number (held.fits t i lawful) (held.room t i lawful);
      limits = c.limits_are_some.ensures;
      begins = c.limits_begin.ensures;
      totals = c.counts_are_totals.ensures;
      joins = c.rounds_join.ensures;
      lines = c.load_lines_join.ensures;
      points = c.settled_points_are_all.ensures;
    }
