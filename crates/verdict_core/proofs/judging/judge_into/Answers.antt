use Rattle.std.proofs.Common.{inl, inr, refl}
use Rattle.ip_codec.specs.Seen.{seen}
use Rattle.table_words.specs.Bounds.{found_bound, look_bound}
use Rattle.verdict_core.proofs.Items.{under_settings, value_is}
use Rattle.verdict_core.proofs.judging.judge_into.Goals as goal

pub returns-clause-value : goal.returns-clause-value
returns-clause-value g c = λ t h.
    value_is t (seen c.args.item.now) c.judge_under.new.verdict
    (under_settings t c.args.settings.now (seen c.args.item.now) c.judge_under.new.verdict (c.requires.settings t h) (c.judge_under.ensures.verdict t h))

pub returns-clause-bound : goal.returns-clause-bound
returns-clause-bound g c = λ t h. c.judge_under.ensures.bound t h (look_bound t.bindings) (inl refl)

pub returns-clause-one_shape : goal.returns-clause-one_shape
returns-clause-one_shape g c = λ t h one. c.judge_under.ensures.bound t h (found_bound t.bindings) (inr (one, refl))
