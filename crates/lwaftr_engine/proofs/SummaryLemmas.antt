-- What the sink took of a summary, and the history that goes with it.
use Rattle.lwaftr_engine.proofs.Words.{◌≡◌, ℕ, List, ◌++◌, length, Option, sym, ◌∙◌, ap, option_map, AreDrawn, HistoryValue, IsHistory, last_line, IsSummedUp}
use Rattle.lwaftr_engine.proofs.Words.{Progress, IsWithin, with_version}

-- the areas that were closed, and the line of the whole run
pub summed_up : (p : Progress) (points : List ℕ) (draws : List (ℕ × ℕ)) (h : HistoryValue) (said now : Option (List ℕ)) → IsHistory h → AreDrawn h draws →
    length draws ≡ p.number → IsWithin p.totals p.number → points ≡ h.points →
    now ≡ option_map (λ taken. taken ++ last_line p points) said → IsSummedUp said now h
summed_up p points draws h said now closed drawn number within points_are took = record {
  closed = closed;
  totals = with_version p.totals (length points);
  took = took;
  records = within.records ∙ (sym number ∙ drawn.all);
  version = ap (λ (l : List ℕ). length l) points_are;
}
