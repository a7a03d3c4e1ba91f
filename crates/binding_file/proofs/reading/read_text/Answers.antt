use Rattle.std.proofs.Common.{◌≡◌, rules}
use Rattle.table_costs.specs.Costs.{is_too_costly}
use Rattle.table_costs.specs.FirstLines.{IsTooCostly}
use Rattle.binding_rules.specs.Tables.{binding_table as table_from}
use Rattle.binding_file.specs.Files.{IsFileCause}
use Rattle.binding_file.specs.declared.reading.Spelled.{Spelled}
use Rattle.binding_file.specs.Parts.{file_error_of}
use Rattle.binding_file.proofs.Trees.{affordable, cause_says, cause_rules_said, table_said}
use Rattle.binding_file.proofs.reading.read_text.Goals as goal

pub returns-in_err-spelled-clause-cause : goal.returns-in_err-spelled-clause-cause
returns-in_err-spelled-clause-cause c =
    let told : c.is_too_costly.result ≡ is_too_costly c.args.text.now = search rules in
    let cheap : IsTooCostly c.args.text.now → ⊥ = affordable c.args.text.now c.is_too_costly.result told c.if-is_too_costly.false in
    let cause : IsFileCause c.args.text.now c.in_err-spelled.field-0.0 =
    cause_says Spelled (λ (s : Spelled). table_from s.edition s.softwire s.bindings.items) c.args.text.now c.in_err-spelled.field-0.0 c.requires.size cheap c.in_err-spelled.ensures.read in
    search rules

pub returns-in_err-table_of-clause-cause : goal.returns-in_err-table_of-clause-cause
returns-in_err-table_of-clause-cause c =
    let told : c.is_too_costly.result ≡ is_too_costly c.args.text.now = search rules in
    let cheap : IsTooCostly c.args.text.now → ⊥ = affordable c.args.text.now c.is_too_costly.result told c.if-is_too_costly.false in
    let s = c.in_ok-spelled.spelled in
    let cause : IsFileCause c.args.text.now (file_error_of c.in_err-table_of.field-0.0) =
    cause_rules_said c.args.text.now (table_from s.edition s.softwire s.bindings.items) c.in_err-table_of.field-0.0 c.requires.size cheap c.in_ok-spelled.ensures.read c.in_err-table_of.ensures.cause in
    search rules

pub returns-clause-table : goal.returns-clause-table
returns-clause-table c =
    let told : c.is_too_costly.result ≡ is_too_costly c.args.text.now = search rules in
    let cheap : IsTooCostly c.args.text.now → ⊥ = affordable c.args.text.now c.is_too_costly.result told c.if-is_too_costly.false in
    let s = c.in_ok-spelled.spelled in
    let t = table_from s.edition s.softwire s.bindings.items in
    rw c.in_ok-table_of.ensures.table (table_said c.args.text.now t c.requires.size cheap c.in_ok-spelled.ensures.read (rw c.in_ok-table_of.ensures.table at c.in_ok-table_of.ensures.valid))
