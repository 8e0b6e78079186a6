use Rattle.std.proofs.Common.{◌≡◌, ◌∙◌, ap, subst, sym, true, []}
use Rattle.std.specs.Prelude.{Some, codes, is_some}
use Rattle.wasm_ast.specs.declared.types.ValTy.TheVariants.{I64}
use Rattle.wasm_ast.specs.declared.modules.WModule.{WModule}
use Rattle.wasm_execution.specs.Types.{takes_and_gives}
use Rattle.wasm_execution.specs.Environments.{environment_of, exported, is_func}
use Rattle.wasm_execution.specs.Starts.{code_of_type}
use Rattle.wasm_starts.proofs.Begins.{main_found}
use Rattle.wasm_starts.proofs.starts.find_main.Goals as goal

pub returns-then-has_code : goal.returns-then-has_code
returns-then-has_code c =
    let m = c.args.m.now in
    let there : exported is_func (codes "main") m.exports ≡ Some c.in-Some.main = ap (exported is_func (codes "main")) (sym c.as_slice.ensures.items) ∙ sym c.in-Some.ensures in
    let coded : is_some (code_of_type (environment_of m) (takes_and_gives [] (Some I64)) c.in-Some.main) ≡ true =
    subst (λ (x : WModule). is_some (code_of_type (environment_of x) (takes_and_gives [] (Some I64)) c.in-Some.main) ≡ true) c.requires (sym c.has_code.ensures ∙ c.if-has_code.true) in
    main_found m c.in-Some.main there coded
