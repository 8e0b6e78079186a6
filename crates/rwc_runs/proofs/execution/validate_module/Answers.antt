use Rattle.std.proofs.Common.{ap, Ok}
use Rattle.std.specs.declared.result.Result.{Result}
use Rattle.wasm_ast.specs.declared.modules.WModule.{WModule}
use Rattle.rwc_reports.specs.Executables.{valid}
use Rattle.rwc_reports.specs.Steps.{Refused}
use Rattle.rwc_runs.proofs.execution.validate_module.Goals as goal

pub returns-in-Ok : goal.returns-in-Ok
returns-in-Ok c = valid c.in-Ok.ensures.valid (ap (λ (m : WModule). let r : Result WModule Refused = Ok m in r) c.in-Ok.ensures.same)

pub returns-in-Err : goal.returns-in-Err
returns-in-Err c = c.invalid.ensures c.args.decoded c.in-Err.ensures.invalid
