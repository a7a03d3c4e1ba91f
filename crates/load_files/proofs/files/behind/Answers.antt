use Rattle.std.proofs.Common.{List, [], ◌∷◌, ◌++◌, IfOk, sym, subst}
use Rattle.std.proofs.lemmas.Slice.Zip.{all_zipped_more}
use Rattle.std.specs.List.{AllZip}
use Rattle.load_files.specs.Texts.{IsLoadOfFile}
use Rattle.reload_plan.specs.declared.loads.Load.{Load}
use Rattle.load_files.proofs.files.behind.Goals as goal

pub returns : goal.returns
returns c files file before last =
    let loads = subst (λ r. IfOk r (λ loads. AllZip IsLoadOfFile files loads.items)) c.in_ok-loads.was before in
    let load = subst (λ r. IfOk r (IsLoadOfFile file)) c.in_ok-last.was last in
    subst (λ (all : List Load). AllZip IsLoadOfFile (files ++ file ∷ []) all) (sym {A = List Load} c.in_ok-push.ensures.items)
    (all_zipped_more IsLoadOfFile files c.in_ok-loads.loads.items file c.in_ok-last.field-0 loads load)
