-- Modules whose `main` runs over blocks, loops, arms, branches and numbers, with what they come to after so many steps (this
-- project's own rows; the expected numbers come from an independent model, or from the unit of a step).
use Rattle.std.specs.Prelude.{ℕ, ◌^◌, ◌-◌, List, [], ◌∷◌, Some, None, codes}
use Rattle.wasm_ast.specs.declared.instructions.WInstr as w
use Rattle.wasm_ast.specs.declared.types.ValTy.{ValTy}
use Rattle.wasm_ast.specs.declared.types.ValTy.TheVariants.{I64}
use Rattle.wasm_ast.specs.declared.modules.ExportKind.TheVariants as export_kind
use Rattle.wasm_ast.specs.declared.modules.ImportKind.TheVariants as import_kind
use Rattle.wasm_ast.specs.declared.modules.LocalRun.{LocalRun}
use Rattle.wasm_ast.specs.declared.modules.WModule.{WModule}
use Rattle.machine_steps.specs.declared.End.TheVariants.{Trap}
use Rattle.machine_steps.specs.declared.Trap.TheVariants.{DivideByZero, Overflow}
use Rattle.wasm_execution.specs.Rows.{IsGoing, IsStuck, Takes, number}

-- function 0 is the host's print; function 1 is `main`, with these locals and this body
abbrev pub main_over : List LocalRun → List w.WInstr → WModule
main_over locals body = record {
  types = record { params = I64 ∷ []; result = None } ∷ record { params = []; result = Some I64 } ∷ [];
  imports = record { «module» = codes "rw"; name = codes "print"; what = import_kind.Func 0 } ∷ [];
  funcs = 1 ∷ [];
  tables = [];
  memories = [];
  globals = [];
  exports = record { name = codes "main"; kind = export_kind.Func; index = 1 } ∷ [];
  start = None;
  elements = [];
  codes = record { locals = locals; body = body } ∷ [];
  segments = [];
}

abbrev pub main_with : List w.WInstr → WModule
main_with body = main_over [] body

abbrev pub local : ValTy → List LocalRun
local t = record { count = 1; ty = t } ∷ []

-- a module of one function
abbrev pub alone : WModule
alone = record (main_with (w.I64Const 6 ∷ [])) {
  types = record { params = []; result = Some I64 } ∷ [];
  imports = [];
  funcs = 0 ∷ [];
  exports = record { name = codes "main"; kind = export_kind.Func; index = 0 } ∷ [];
}

abbrev pub AloneTakes : Type 0
AloneTakes = Takes alone 2 [] (number 6)

-- a branch out of two blocks leaves their operands
abbrev pub BranchTakes : Type 0
BranchTakes = Takes (main_with (w.I64Const 100 ∷ w.Block (Some I64) (w.Block (Some I64) (w.I64Const 8 ∷ w.I64Const 9 ∷ w.I64Const 1 ∷ w.Br 1 ∷ []) ∷ w.I64Const 50 ∷ w.I64Add ∷ []) ∷ w.I64Add ∷ [])) 9 [] (number 101)

-- a `br_if` that is not taken, and one that is
abbrev pub BranchIfTakes : Type 0
BranchIfTakes = Takes (main_with (w.Block (Some I64) (w.I64Const 7 ∷ w.I32Const 0 ∷ w.BrIf 0 ∷ w.Call 0 ∷ w.I64Const 8 ∷ w.I32Const 5 ∷ w.BrIf 0 ∷ w.Call 0 ∷ w.I64Const 9 ∷ []) ∷ [])) 9 (7 ∷ []) (number 8)

-- a loop that is run three times
abbrev pub counting : List w.WInstr
counting = w.LocalGet 0 ∷ w.I64Const 1 ∷ w.I64Sub ∷ w.LocalTee 0 ∷ w.I64Const 0 ∷ w.I64GtS ∷ w.BrIf 0 ∷ w.LocalGet 0 ∷ w.I64Const 40 ∷ w.I64Add ∷ []

abbrev pub LoopTakes : Type 0
LoopTakes = Takes (main_over (local I64) (w.I64Const 3 ∷ w.LocalSet 0 ∷ w.Loop (Some I64) counting ∷ [])) 29 [] (number 40)

-- a loop without end
abbrev pub EndlessGoes : Type 0
EndlessGoes = IsGoing (main_with (w.Loop None (w.Br 0 ∷ []) ∷ w.I64Const 0 ∷ [])) 20 []

-- `br_table` by this number, with a value
abbrev pub tabled : ℕ → WModule
tabled n = main_with (w.Block (Some I64) (w.Block (Some I64) (w.I64Const 5 ∷ w.I32Const n ∷ w.BrTable (0 ∷ 1 ∷ 0 ∷ []) 1 ∷ []) ∷ w.I64Const 10 ∷ w.I64Mul ∷ []) ∷ [])

abbrev pub TableTakes : Type 0
TableTakes = Takes (tabled 0) 9 [] (number 50) × Takes (tabled 1) 6 [] (number 5) × Takes (tabled 2) 9 [] (number 50) × Takes (tabled 3) 6 [] (number 5)

-- an `if` without `else`: one step where its arm is not entered
abbrev pub one_arm : ℕ → WModule
one_arm n = main_with (w.I32Const n ∷ w.If None (w.I64Const 4 ∷ w.Call 0 ∷ []) ∷ w.I64Const 0 ∷ [])

abbrev pub OneArmTakes : Type 0
OneArmTakes = Takes (one_arm 0) 4 [] (number 0) × Takes (one_arm 1) 7 (4 ∷ []) (number 0)

-- an empty `else` is entered and left
abbrev pub EmptyElseTakes : Type 0
EmptyElseTakes = Takes (main_with (w.I32Const 0 ∷ w.IfElse None (w.I64Const 4 ∷ w.Call 0 ∷ []) [] ∷ w.I64Const 0 ∷ [])) 5 [] (number 0)

-- `return`, and a branch to the function's body, leave operands in blocks
abbrev pub leaving : w.WInstr → WModule
leaving i = main_with (w.I64Const 1 ∷ w.I64Const 2 ∷ w.Block None (w.I64Const 3 ∷ w.I64Const 4 ∷ i ∷ []) ∷ w.I64Add ∷ [])

abbrev pub ReturnTakes : Type 0
ReturnTakes = Takes (leaving w.Return) 6 [] (number 4) × Takes (leaving (w.Br 1)) 6 [] (number 4)

abbrev pub selecting : ℕ → WModule
selecting n = main_with (w.I64Const 11 ∷ w.I64Const 22 ∷ w.I32Const n ∷ w.Select ∷ [])

abbrev pub SelectTakes : Type 0
SelectTakes = Takes (selecting 0) 5 [] (number 22) × Takes (selecting 1) 5 [] (number 11)

-- the least i32 by -1, and a division by zero
abbrev pub DivisionsTrap : Type 0
DivisionsTrap =
    Takes (main_with (w.I32Const (2 ^ 31) ∷ w.I32Const (2 ^ 32 - 1) ∷ w.I32DivS ∷ w.I64ExtendI32S ∷ [])) 3 [] (Trap Overflow)
    × Takes (main_with (w.I64Const 1 ∷ w.I64Const 0 ∷ w.I64DivU ∷ [])) 3 [] (Trap DivideByZero)

-- a local or a global that is not there has no step, nor has the end of a block or of a body with an operand left over, nor a
-- branch past the body
abbrev pub StuckWithout : Type 0
StuckWithout =
    IsStuck (main_with (w.I64Const 1 ∷ w.LocalSet 0 ∷ w.I64Const 1 ∷ [])) 2
    × IsStuck (main_with (w.I64Const 1 ∷ w.LocalTee 0 ∷ [])) 2
    × IsStuck (main_with (w.I64Const 1 ∷ w.GlobalSet 0 ∷ w.I64Const 1 ∷ [])) 2
    × IsStuck (main_with (w.Block None (w.I64Const 1 ∷ []) ∷ w.I64Const 1 ∷ [])) 3
    × IsStuck (main_with (w.I64Const 1 ∷ w.I64Const 2 ∷ [])) 3
    × IsStuck (main_with (w.I64Const 1 ∷ w.Br 1 ∷ [])) 2
