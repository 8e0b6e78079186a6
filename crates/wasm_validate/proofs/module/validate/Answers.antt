use Rattle.std.proofs.Common.{subst}
use Rattle.std.proofs.lemmas.Result.{err_from_is_err_and}
use Rattle.wasm_ast.specs.declared.modules.WModule.{WModule}
use Rattle.wasm_typing.specs.Modules.{IsValid}
use Rattle.wasm_module_checking.specs.Answers.{TellsFirst}
use Rattle.wasm_module_checking.specs.Heights.{AreHeights}
use Rattle.wasm_validate.proofs.Refused.{wanting}
use Rattle.wasm_validate.proofs.module.validate.Goals as goal

pub returns-in_err-heights : goal.returns-in_err-heights
returns-in_err-heights c =
    let p = err_from_is_err_and c.from_residual.result c.from_residual.ensures.1 in
    let told = subst (λ (x : WModule). TellsFirst x c.in_err-heights.field-0.0) c.module.ensures.value c.in_err-heights.ensures.refused in
    rw (p.1, p.2) (record { same = tt; valid = tt; complete = λ v. wanting c.args.m c.in_err-heights.field-0.0 v told; invalid = told })

pub new-requires : goal.new-requires
new-requires c = record {
  valid = subst (λ (x : WModule). IsValid x) c.module.ensures.value c.in_ok-heights.ensures.valid;
  heights = subst (λ (x : WModule). AreHeights x c.in_ok-heights.heights) c.module.ensures.value c.in_ok-heights.ensures.heights;
}
