use Rattle.lwaftr_engine.proofs.Words.{List, [], ◌∷◌, ◌++◌, ◌∙◌, ap, LoadWords}
use Rattle.lwaftr_engine.proofs.Prepared.{demo_job}
use Rattle.lwaftr_engine.proofs.demo.demo_job.Goals as goal

pub returns : goal.returns
returns c =
    let load : LoadWords = record { window = c.middle_of.result; name = c.in_ok-copy.field-0 } in
    let loads = c.of.ensures ∙ (c.in_ok-push.ensures.items ∙ ap (λ (l : List LoadWords). l ++ load ∷ []) c.new-loads.ensures.items) in
    rw (
      loads,
      c.middle_of.ensures,
      c.in_ok-copy.ensures,
      c.in_ok-copy-2.ensures,
      c.in_ok-copy-3.ensures,
      c.in_ok-copy-4.ensures,
      c.in_ok-copy-5.ensures,
      c.in_ok-copy-6.ensures,
    ) (demo_job c.args.count c.args.workers c.requires.most c.requires.some_worker c.requires.few_workers)
