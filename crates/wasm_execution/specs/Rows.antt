-- Modules whose `main` calls one function, which prints or leaves its number in a global (this project's own rows).
use Rattle.std.specs.Prelude.{◌≡◌, ℕ, ◌-◌, ◌^◌, List, [], ◌∷◌, true, Some, None, codes}
use Rattle.std.specs.Int.{cast_signed, w64}
use Rattle.wasm_ast.specs.declared.instructions.WInstr as w
use Rattle.wasm_ast.specs.declared.types.ValTy.TheVariants.{I32, I64}
use Rattle.wasm_ast.specs.declared.modules.ExportKind.TheVariants as export_kind
use Rattle.wasm_ast.specs.declared.modules.ImportKind.TheVariants as import_kind
use Rattle.wasm_ast.specs.declared.modules.WModule.{WModule}
use Rattle.machine_steps.specs.declared.End.{End}
use Rattle.machine_steps.specs.declared.End.TheVariants.{Value, Trap}
use Rattle.machine_steps.specs.declared.Trap.TheVariants.{Exhausted}
use Rattle.machine_steps.specs.Steps.{Going, Over, Stuck}
use Rattle.wasm_execution.specs.Behaviour.{wasm}

-- global 0 is `trap_code`, at first this number; global 1 takes the result of function 1, which has this body and three
-- locals; function 2 is `main`, which calls it and gives global 1
abbrev pub module_with : ℕ → List w.WInstr → WModule
module_with trap_code body = record {
  types = record { params = I64 ∷ []; result = None } ∷ record { params = []; result = None } ∷ record { params = []; result = Some I64 } ∷ [];
  imports = record { «module» = codes "rw"; name = codes "print"; what = import_kind.Func 0 } ∷ [];
  funcs = 1 ∷ 2 ∷ [];
  tables = [];
  memories = [];
  globals = record { ty = I32; mutable = true; init = w.I32Const trap_code } ∷ record { ty = I64; mutable = true; init = w.I64Const 0 } ∷ [];
  exports = record { name = codes "main"; kind = export_kind.Func; index = 2 } ∷ record { name = codes "trap_code"; kind = export_kind.Global; index = 0 } ∷ [];
  start = None;
  elements = [];
  codes =
      record { locals = record { count = 3; ty = I64 } ∷ []; body = body }
      ∷ record { locals = record { count = 2; ty = I64 } ∷ []; body = w.Call 1 ∷ w.GlobalGet 1 ∷ [] }
      ∷ [];
  segments = [];
}

-- 7 is printed, and 0 is the result
abbrev pub printing : WModule
printing = module_with 0 (w.I64Const 7 ∷ w.LocalSet 0 ∷ w.LocalGet 0 ∷ w.Call 0 ∷ w.I64Const 0 ∷ w.LocalSet 0 ∷ w.LocalGet 0 ∷ w.GlobalSet 1 ∷ [])

-- function 1 is the start function too
abbrev pub starting : WModule
starting = record printing { start = Some 1 }

-- 1 is dropped, and 0 is the result
abbrev pub dropping : WModule
dropping = module_with 0 (w.I64Const 1 ∷ w.LocalSet 0 ∷ w.Nop ∷ w.I64Const 0 ∷ w.LocalSet 0 ∷ w.LocalGet 0 ∷ w.GlobalSet 1 ∷ [])

-- the sum of the least number and -1 is the result
abbrev pub adding : WModule
adding = module_with 0 (w.I64Const (2 ^ 63) ∷ w.LocalSet 0 ∷ w.I64Const (2 ^ 64 - 1) ∷ w.LocalSet 1 ∷ w.LocalGet 0 ∷ w.LocalGet 1 ∷ w.I64Add ∷ w.LocalSet 0 ∷ w.LocalGet 0 ∷ w.GlobalSet 1 ∷ [])

-- the room is spent
abbrev pub exhausted : WModule
exhausted = module_with 1 (w.Unreachable ∷ [])

-- so many numbers were printed after so many steps, and the run is going
abbrev pub IsGoing : WModule → ℕ → List ℕ → Type 0
IsGoing m n printed = wasm m n ≡ record { printed = printed; stand = Going }

-- the run is over after so many steps, with this end
abbrev pub IsOver : WModule → ℕ → List ℕ → End → Type 0
IsOver m n printed e = wasm m n ≡ record { printed = printed; stand = Over e }

-- the run has no step after so many, and nothing was printed
abbrev pub IsStuck : WModule → ℕ → Type 0
IsStuck m n = wasm m n ≡ record { printed = []; stand = Stuck }

-- a module that takes so many steps, and no fewer
pub record Takes (m : WModule) (n : ℕ) (printed : List ℕ) (e : End) : Type 0 where
  pub before : IsGoing m (n - 1) printed
  pub after : IsOver m n printed e

abbrev pub number : ℕ → End
number n = Value (cast_signed w64 n)

abbrev pub PrintingTakes : Type 0
PrintingTakes = Takes printing 12 (7 ∷ []) (number 0)

-- 7 is printed before `main` is called, and again
abbrev pub StartingTakes : Type 0
StartingTakes = Takes starting 21 (7 ∷ 7 ∷ []) (number 0)

abbrev pub DroppingTakes : Type 0
DroppingTakes = Takes dropping 11 [] (number 0)

abbrev pub AddingTakes : Type 0
AddingTakes = Takes adding 14 [] (number (2 ^ 63 - 1))

abbrev pub ExhaustedTakes : Type 0
ExhaustedTakes = Takes exhausted 2 [] (Trap Exhausted)
