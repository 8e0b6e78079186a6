-- Modules whose `main` calls through a table, with what they come to after so many steps (this project's own rows; the expected
-- numbers come from an independent model).
use Rattle.std.specs.Prelude.{ℕ, List, [], ◌∷◌, ◌++◌, Some, None, codes}
use Rattle.wasm_ast.specs.declared.instructions.WInstr as w
use Rattle.wasm_ast.specs.declared.types.ValTy.TheVariants.{I64}
use Rattle.wasm_ast.specs.declared.modules.ExportKind.TheVariants as export_kind
use Rattle.wasm_ast.specs.declared.modules.WModule.{WModule}
use Rattle.machine_steps.specs.declared.End.TheVariants.{Trap}
use Rattle.machine_steps.specs.declared.Trap.TheVariants.{TableBounds, Uninitialised, Signature}
use Rattle.wasm_execution.specs.Rows.{Takes, number}
use Rattle.wasm_execution.specs.ControlRows.{main_with}

-- functions 1 to 3: one that gives 41, one that gives the number after its own, and `main`; the table has functions 1 and 2,
-- nothing, and the host's print
abbrev pub through_table : List w.WInstr → WModule
through_table body = record (main_with body) {
  types =
      record { params = I64 ∷ []; result = None }
      ∷ record { params = []; result = Some I64 }
      ∷ record { params = []; result = Some I64 }
      ∷ record { params = I64 ∷ []; result = Some I64 }
      ∷ [];
  funcs = 2 ∷ 3 ∷ 1 ∷ [];
  tables = record { min = 4; max = Some 4 } ∷ [];
  exports = record { name = codes "main"; kind = export_kind.Func; index = 3 } ∷ [];
  elements = record { table = 0; offset = w.I32Const 0; funcs = 1 ∷ 2 ∷ [] } ∷ record { table = 0; offset = w.I32Const 3; funcs = 0 ∷ [] } ∷ [];
  codes =
      record { locals = []; body = w.I64Const 41 ∷ [] }
      ∷ record { locals = []; body = w.LocalGet 0 ∷ w.I64Const 1 ∷ w.I64Add ∷ [] }
      ∷ record { locals = []; body = body }
      ∷ [];
}

-- the call of this entry at this type
abbrev pub calling : ℕ → ℕ → List w.WInstr
calling entry type_index = w.I32Const entry ∷ w.CallIndirect type_index ∷ []

-- types that are the same, by one index or another
abbrev pub SameTypeTakes : Type 0
SameTypeTakes = Takes (through_table (calling 0 2)) 5 [] (number 41) × Takes (through_table (calling 0 1)) 5 [] (number 41)

abbrev pub ArgumentTakes : Type 0
ArgumentTakes = Takes (through_table (w.I64Const 7 ∷ calling 1 3)) 8 [] (number 8)

-- the host's print by the table is one step
abbrev pub PrintTakes : Type 0
PrintTakes = Takes (through_table (w.I64Const 7 ∷ (calling 3 0 ++ (w.I64Const 5 ∷ [])))) 5 (7 ∷ []) (number 5)

abbrev pub IndirectTraps : Type 0
IndirectTraps =
    Takes (through_table (calling 4 2)) 2 [] (Trap TableBounds)
    × Takes (through_table (calling 2 2)) 2 [] (Trap Uninitialised)
    × Takes (through_table (w.I64Const 7 ∷ calling 0 3)) 3 [] (Trap Signature)
    × Takes (through_table (calling 3 2)) 2 [] (Trap Signature)
