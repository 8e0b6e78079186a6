use Rattle.std.proofs.Common.{ℕ, List, ap, subst, Err}
use Rattle.std.specs.declared.result.Result.{Result}
use Rattle.wasm_ast.specs.declared.modules.WModule.{WModule}
use Rattle.wasm_module_checking.specs.Answers.{TellsFirst}
use Rattle.rwc_acts.proofs.Loading.{refused_step}
use Rattle.rwc_reports.specs.Executables as executables
use Rattle.rwc_reports.specs.Lines.{invalid_line}
use Rattle.rwc_reports.specs.Steps.{Refused}
use Rattle.rwc_runs.proofs.execution.invalid.Goals as goal

pub returns-in-Invalid : goal.returns-in-Invalid
returns-in-Invalid c = λ m tells.
    let file = c.args.file.now in
    let func = c.in-Invalid.func in
    let place = c.in-Invalid.at in
    refused_step (λ (n : WModule). n) (executables.ModuleValidates file m) 9 c.invalid.result c.refused.result _ c.refused.ensures c.invalid.ensures
    (executables.invalid (record { func = func; at = place; rule = c.in-Invalid.rule }) (subst (TellsFirst m) c.in-Invalid.is tells)
    (ap (λ (name : List ℕ). let r : Result WModule Refused = Err (record { status = 9; line = invalid_line file func place name }) in r) c.of_rule.ensures))
