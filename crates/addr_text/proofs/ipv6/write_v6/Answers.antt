use Rattle.std.proofs.Common.{◌≡◌, ap, ◌∙◌, length, arith}
use Rattle.addr_text.proofs.Written.{written, groups_length, written_short, written_long, canonical, spelled}
use Rattle.addr_text.proofs.ipv6.write_v6.Goals as goal
use Rattle.addr_text.proofs.ipv6.write_v6.Goals.{After-push_groups, After-push_groups-else-count-lt-FEWEST-2}

short : (c : After-push_groups) → c.push_groups.new.text.bytes ≡ written c.split-groups.result
short c = written_short _ _ _ _ c.longest_zero_run-start.ensures.value (omega arith) c.new-text.ensures c.push_groups.ensures.groups

long : (c : After-push_groups-else-count-lt-FEWEST-2) → c.push_groups-else-count-lt-FEWEST-2.new.text.bytes ≡ written c.split-groups.result
long c = written_long _ _ _ _ c.split-groups.result c.longest_zero_run-start.result
    c.longest_zero_run-start.ensures.value (omega arith) c.new-text.ensures
    c.push_groups-else-count-lt-FEWEST.ensures.groups c.push_str.ensures.bytes
    (ap length c.split-groups.ensures ∙ groups_length c.args.a.0)
    c.push_groups-else-count-lt-FEWEST-2.ensures.groups

pub returns-then-count-lt-FEWEST-clause-canonical : goal.returns-then-count-lt-FEWEST-clause-canonical
returns-then-count-lt-FEWEST-clause-canonical c = canonical _ c.split-groups.result c.args.a.0 c.split-groups.ensures (short c)

pub returns-then-count-lt-FEWEST-clause-spelled : goal.returns-then-count-lt-FEWEST-clause-spelled
returns-then-count-lt-FEWEST-clause-spelled c =
    spelled _ c.split-groups.result c.args.a.0 (omega arith) c.split-groups.ensures (short c)

pub returns-else-count-lt-FEWEST-clause-canonical : goal.returns-else-count-lt-FEWEST-clause-canonical
returns-else-count-lt-FEWEST-clause-canonical c = canonical _ c.split-groups.result c.args.a.0 c.split-groups.ensures (long c)

pub returns-else-count-lt-FEWEST-clause-spelled : goal.returns-else-count-lt-FEWEST-clause-spelled
returns-else-count-lt-FEWEST-clause-spelled c =
    spelled _ c.split-groups.result c.args.a.0 (omega arith) c.split-groups.ensures (long c)
