-- A step of a module by the operation of the instruction that stands first.
use Rattle.std.proofs.Common.{◌≡◌, ◌∙◌, List, ◌∷◌, ap, sym}
use Rattle.wasm_ast.specs.declared.instructions.WInstr.{WInstr, out-WInstr, roll-WInstr, out-roll-WInstr}
use Rattle.wasm_ast.specs.declared.instructions.WInstr.TheOpen.{WInstr-F}
use Rattle.wasm_ast.specs.Operations.{operation_in}
use Rattle.wasm_execution.specs.Configurations.{Config}
use Rattle.wasm_execution.specs.Environments.{Environment}
use Rattle.wasm_execution.specs.Steps.{act, step, step_at}

pub acts : (e : Environment) (x : WInstr-F WInstr) (i : WInstr) → roll-WInstr x ≡ i → (rest : List WInstr) (c : Config) → c.here.rest ≡ i ∷ rest → step e c ≡ act e (operation_in x) (record c.here { rest = rest }) c
acts e x i rolls rest c is =
    ap (λ (l : List WInstr). step_at e l c) is ∙ ap (λ (y : WInstr-F WInstr). act e (operation_in y) (record c.here { rest = rest }) c) (ap out-WInstr (sym rolls) ∙ out-roll-WInstr x)
