-- How modules start, and why they do not (this project's own rows; the expected answers come from an independent model).
use Rattle.std.specs.Prelude.{◌≡◌, ℕ, List, [], ◌∷◌, false, true, Some, None, codes}
use Rattle.wasm_ast.specs.declared.instructions.WInstr as w
use Rattle.wasm_ast.specs.declared.types.ValTy.{ValTy}
use Rattle.wasm_ast.specs.declared.types.ValTy.TheVariants.{I32, I64}
use Rattle.wasm_ast.specs.declared.modules.ExportKind.{ExportKind}
use Rattle.wasm_ast.specs.declared.modules.ExportKind.TheVariants as export_kind
use Rattle.wasm_ast.specs.declared.modules.Export.{Export}
use Rattle.wasm_ast.specs.declared.modules.Import.{Import}
use Rattle.wasm_ast.specs.declared.modules.ImportKind.TheVariants as import_kind
use Rattle.wasm_ast.specs.declared.modules.WGlobal.{WGlobal}
use Rattle.wasm_ast.specs.declared.modules.WModule.{WModule}
use Rattle.machine_steps.specs.declared.End.TheVariants.{Trap}
use Rattle.machine_steps.specs.declared.Trap.TheVariants.{Exhausted, Index, Unreachable}
use Rattle.wasm_execution.specs.Starts.{UnknownImport, SegmentOut, NoMain, start_of}
use Rattle.wasm_execution.specs.Rows.{Takes, number}
use Rattle.wasm_execution.specs.ControlRows.{main_with}

abbrev pub export : List ℕ → ExportKind → ℕ → Export
export name kind index = record { name = name; kind = kind; index = index }

abbrev pub import_print : ℕ → Import
import_print n = record { «module» = codes "rw"; name = codes "print"; what = import_kind.Func n }

abbrev pub global : ValTy → w.WInstr → WGlobal
global t init = record { ty = t; mutable = false; init = init }

-- the start function, function 1, runs first, and `main` then
abbrev pub started_by : List w.WInstr → WModule
started_by body = record (main_with []) {
  types = record { params = I64 ∷ []; result = None } ∷ record { params = []; result = Some I64 } ∷ record { params = []; result = None } ∷ [];
  funcs = 2 ∷ 1 ∷ [];
  globals = record { ty = I64; mutable = true; init = w.I64Const 0 } ∷ [];
  exports = export (codes "main") export_kind.Func 2 ∷ [];
  start = Some 1;
  codes = record { locals = []; body = body } ∷ record { locals = []; body = w.GlobalGet 0 ∷ [] } ∷ [];
}

abbrev pub StartTakes : Type 0
StartTakes = Takes (started_by (w.I64Const 5 ∷ w.Call 0 ∷ w.I64Const 6 ∷ w.GlobalSet 0 ∷ [])) 7 (5 ∷ []) (number 6)

abbrev pub StartTraps : Type 0
StartTraps = Takes (started_by (w.I64Const 5 ∷ w.Call 0 ∷ w.Unreachable ∷ [])) 3 (5 ∷ []) (Trap Unreachable)

-- `main` is `unreachable`; these globals, and this export beside `main`
abbrev pub stopping : List WGlobal → Export → WModule
stopping globals e = record (main_with (w.Unreachable ∷ [])) { globals = globals; exports = export (codes "main") export_kind.Func 1 ∷ e ∷ [] }

-- the exported `trap_code` counts where it is an i32 global
abbrev pub TrapCodesCount : Type 0
TrapCodesCount =
    Takes (stopping (global I32 (w.I32Const 1) ∷ []) (export (codes "trap_code") export_kind.Global 0)) 1 [] (Trap Exhausted)
    × Takes (stopping (global I64 (w.I64Const 1) ∷ global I32 (w.I32Const 2) ∷ []) (export (codes "trap_code") export_kind.Global 1)) 1 [] (Trap Index)
    × Takes (stopping (global I64 (w.I64Const 1) ∷ []) (export (codes "trap_code") export_kind.Global 0)) 1 [] (Trap Unreachable)
    × Takes (stopping (global I32 (w.I32Const 1) ∷ []) (export (codes "trap_code") export_kind.Func 1)) 1 [] (Trap Unreachable)

-- `main` gives 1
abbrev pub one : WModule
one = main_with (w.I64Const 1 ∷ [])

-- an import of another name; a print that gives a number; a second import of another name; and that before a segment
abbrev pub UnknownImports : Type 0
UnknownImports =
    (start_of (record one { imports = record { «module» = codes "rw"; name = codes "printf"; what = import_kind.Func 0 } ∷ [] }) ≡ UnknownImport 0)
    × (start_of (record one { imports = import_print 1 ∷ [] }) ≡ UnknownImport 0)
    × (start_of (record one { imports = import_print 0 ∷ record { «module» = codes "x"; name = codes "y"; what = import_kind.Func 0 } ∷ [] }) ≡ UnknownImport 1)
    × (start_of (record one { imports = record (import_print 0) { what = import_kind.Memory (record { min = 1; max = None }) } ∷ []; segments = record { memory = 0; offset = w.I32Const 65536; bytes = 97 ∷ [] } ∷ [] }) ≡ UnknownImport 0)

-- one page and a table of this many entries
abbrev pub holding : ℕ → WModule
holding n = record one { tables = record { min = n; max = None } ∷ []; memories = record { min = 1; max = Some 1 } ∷ [] }

-- segments past the end, also those of no bytes and no functions; element segments count first; and one before `main` is missed
abbrev pub SegmentsOut : Type 0
SegmentsOut =
    (start_of (record (holding 2) { elements = record { table = 0; offset = w.I32Const 0; funcs = 1 ∷ [] } ∷ record { table = 0; offset = w.I32Const 1; funcs = 1 ∷ 1 ∷ [] } ∷ [] }) ≡ SegmentOut 1)
    × (start_of (record (holding 2) { elements = record { table = 0; offset = w.I32Const 3; funcs = [] } ∷ [] }) ≡ SegmentOut 0)
    × (start_of (record (holding 1) { segments = record { memory = 0; offset = w.I32Const 65537; bytes = [] } ∷ [] }) ≡ SegmentOut 0)
    × (start_of (record (holding 1) {
      elements = record { table = 0; offset = w.I32Const 0; funcs = 1 ∷ [] } ∷ [];
      segments = record { memory = 0; offset = w.I32Const 0; bytes = 97 ∷ [] } ∷ record { memory = 0; offset = w.I32Const 65536; bytes = 97 ∷ [] } ∷ [];
    }) ≡ SegmentOut 2)
    × (start_of (record (holding 1) { globals = global I32 (w.I32Const 65536) ∷ []; exports = []; segments = record { memory = 0; offset = w.GlobalGet 0; bytes = 97 ∷ [] } ∷ [] }) ≡ SegmentOut 0)

-- nothing is exported as `main`; what is gives nothing, or is the host's print; it is a memory
abbrev pub NoMains : Type 0
NoMains =
    (start_of (record one { exports = [] }) ≡ NoMain)
    × (start_of (record one { types = record { params = I64 ∷ []; result = None } ∷ record { params = []; result = None } ∷ [] }) ≡ NoMain)
    × (start_of (record one { exports = export (codes "main") export_kind.Func 0 ∷ [] }) ≡ NoMain)
    × (start_of (record (holding 1) { exports = export (codes "main") export_kind.Memory 0 ∷ [] }) ≡ NoMain)

-- a function whose type is not there is none, and the one behind it keeps its number
abbrev pub NumberKept : Type 0
NumberKept =
    Takes (record one {
      funcs = 9 ∷ 1 ∷ [];
      exports = export (codes "main") export_kind.Func 2 ∷ [];
      codes = record { locals = []; body = [] } ∷ record { locals = []; body = w.I64Const 8 ∷ [] } ∷ [];
    }) 2 [] (number 8)
