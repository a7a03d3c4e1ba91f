-- The state that contracts see, of the machine's fields.
use Rattle.swap_core.specs.States.{CoreState}
use Rattle.swap_core.specs.declared.machine.Core.TheInside.{Inside}

abbrev pub state_of : Inside → CoreState
state_of c =
    record {
      plan = c.plan;
      version = c.version;
      records = c.records;
      counts = c.counts;
      areas = c.areas;
      actors = c.actors.items;
      desk = c.desk;
      points = c.points.items;
    }
