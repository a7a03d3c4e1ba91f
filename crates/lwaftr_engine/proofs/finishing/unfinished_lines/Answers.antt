use Rattle.lwaftr_engine.proofs.Words.{false, flat_map, ◌∙◌, ended_text}
use Rattle.lwaftr_engine.proofs.LineLemmas.{behind_none}
use Rattle.lwaftr_engine.proofs.finishing.unfinished_lines.Goals as goal

pub returns : goal.returns
returns c taken stands =
    behind_none (flat_map (ended_text false)) c.new-lines.result.items c.push_ended_lines.new.lines.items c.as_slice.result.now _
    c.new-lines.ensures.items c.in_ok-push_ended_lines.ensures.lines (c.as_slice.ensures ∙ c.in_ok-unfinished.ensures.numbers taken stands)
