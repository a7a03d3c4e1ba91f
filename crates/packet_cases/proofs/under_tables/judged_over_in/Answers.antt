-- The settings are those of the table whose words they were read from.
use Rattle.std.proofs.Common.{ℕ, List, subst}
use Rattle.table_words.specs.Layout.{IsCompiled}
use Rattle.packet_cases.proofs.under_tables.judged_over_in.Goals as goal

pub judge_into-requires-clause-settings : goal.judge_into-requires-clause-settings
judge_into-requires-clause-settings g c = λ t h.
    c.softwire-settings.ensures.value t (subst (λ (ws : List ℕ). IsCompiled t ws) c.softwire-settings.ensures.list h)
