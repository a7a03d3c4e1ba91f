use Rattle.std.proofs.Common.{◌++◌, ◌∷◌, ◌∙◌, List, ℕ, refl, sym, ap, subst}
use Rattle.aftr_text.specs.Jobs.{IsName, window_text}
use Rattle.aftr_text.specs.declared.jobs.LoadWords.{LoadWords}
use Rattle.aftr_text.proofs.LoadLemmas.{bad_word, no_load, more_sound, more_texts}
use Rattle.aftr_text.proofs.fields.read_loads.Goals as goal

pub returns-in_default-clause-usage : goal.returns-in_default-clause-usage
returns-in_default-clause-usage c = λ e. no_load c.args.words.now c.words.at _ c.words-test.true c.in_default.ensures.none

pub returns-in_default-clause-cause : goal.returns-in_default-clause-cause
returns-in_default-clause-cause c = λ _. (c.words.at, refl, bad_word c.args.words.now c.words.at _ c.words-test.true c.in_default.ensures.none)

pub words-preserved : goal.words-preserved
words-preserved c =
    let load : LoadWords = record { window = c.in-Some.window; name = c.in_ok-name.name } in
    let told = c.in-Some.ensures.some in
    record {
      spelled = more_texts c.words.loads.items c.push.new.self.items load c.args.words.now c.words.at _ c.words-test.true
          c.words.invariant.spelled c.in_ok-push.ensures.items
          (told.0 ∙ ap (λ (name : List ℕ). window_text c.in-Some.window ++ (58 ∷ name)) (sym c.in_ok-name.ensures));
      sound = more_sound c.words.loads.items c.push.new.self.items load c.words.invariant.sound c.in_ok-push.ensures.items
          (told.1, subst IsName (sym c.in_ok-name.ensures) told.2);
    }
