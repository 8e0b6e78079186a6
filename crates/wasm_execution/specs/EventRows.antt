-- What modules say when they run, beside the numbers that they print (this project's own rows).
use Rattle.std.specs.Prelude.{◌≡◌, ℕ, List, [], ◌∷◌, Some, None, codes}
use Rattle.wasm_ast.specs.declared.instructions.WInstr as w
use Rattle.wasm_ast.specs.declared.types.ValTy.TheVariants.{I64}
use Rattle.wasm_ast.specs.declared.modules.ExportKind.TheVariants as export_kind
use Rattle.wasm_ast.specs.declared.modules.WModule.{WModule}
use Rattle.machine_steps.specs.declared.Trap.TheVariants.{Unreachable}
use Rattle.machine_steps.specs.Steps.{reached}
use Rattle.wasm_execution.specs.Configurations.{Config, Event, Called, Returned, Stopped, Touch}
use Rattle.wasm_execution.specs.Environments.{environment_of}
use Rattle.wasm_execution.specs.Steps.{step}
use Rattle.wasm_execution.specs.Starts.{Begins, first_store, start_of}
use Rattle.wasm_execution.specs.ControlRows.{main_with}
use Rattle.wasm_execution.specs.MemoryRows.{over_memory, pages, past_end}

-- functions 1 to 3 with the types of allocators, of which the last is of this type, and `main`
abbrev pub allocating : ℕ → List w.WInstr → WModule
allocating type_index body = record (main_with []) {
  types =
      record { params = I64 ∷ []; result = None }
      ∷ record { params = []; result = Some I64 }
      ∷ record { params = I64 ∷ []; result = Some I64 }
      ∷ [];
  funcs = 2 ∷ 0 ∷ type_index ∷ 1 ∷ [];
  exports = record { name = codes "main"; kind = export_kind.Func; index = 4 } ∷ [];
  codes =
      record { locals = []; body = w.I64Const 3 ∷ w.LocalSet 0 ∷ w.LocalGet 0 ∷ [] }
      ∷ record { locals = []; body = [] }
      ∷ record { locals = []; body = w.I64Const 4 ∷ [] }
      ∷ record { locals = []; body = body }
      ∷ [];
}

-- a module that begins so says this by so many steps
abbrev pub Says : WModule → ℕ → List Event → Type 0
Says m n events = (c : Config) × (start_of m ≡ Begins c) × ((reached (step (environment_of m)) n c).said ≡ events)

-- the calls and returns of functions 1 to 3
abbrev pub AllocatorsTold : Type 0
AllocatorsTold =
    let m = allocating 2 (w.I64Const 5 ∷ w.Call 1 ∷ w.Call 2 ∷ w.I64Const 7 ∷ w.Call 3 ∷ []) in
    let s = first_store m in
    Says m 12 (Called 1 5 s ∷ Returned 1 3 s ∷ Called 2 3 s ∷ Returned 2 0 s ∷ Called 3 7 s ∷ Returned 3 4 s ∷ [])

-- nothing, where function 3 has another type
abbrev pub OthersNotTold : Type 0
OthersNotTold = Says (allocating 1 (w.I64Const 5 ∷ w.Call 1 ∷ w.Call 2 ∷ w.Call 3 ∷ [])) 10 []

-- the first argument of a call, after its local was set
abbrev pub ArgumentKept : Type 0
ArgumentKept =
    let m = allocating 2 (w.I64Const 5 ∷ w.Call 1 ∷ []) in
    (c : Config) × (start_of m ≡ Begins c)
    × ((reached (step (environment_of m)) 4 c).at.here.argument ≡ 5) × ((reached (step (environment_of m)) 4 c).at.here.locals ≡ 3 ∷ [])

-- why the run was stopped
abbrev pub StopTold : Type 0
StopTold = Says (main_with (w.Unreachable ∷ [])) 1 (Stopped Unreachable ∷ [])

-- a load outside the allocators, where it traps too
abbrev pub TouchTold : Type 0
TouchTold = Says (over_memory (pages 1 2) past_end) 2 (Touch 65536 8 ∷ [])

-- function 1 loads at the address that it is called with
abbrev pub loading : WModule
loading = record (allocating 2 (w.I64Const 65536 ∷ w.Call 1 ∷ [])) {
  memories = pages 1 2 ∷ [];
  codes =
      record { locals = []; body = w.LocalGet 0 ∷ w.I32WrapI64 ∷ w.I64Load 3 0 ∷ [] }
      ∷ record { locals = []; body = [] }
      ∷ record { locals = []; body = w.I64Const 4 ∷ [] }
      ∷ record { locals = []; body = w.I64Const 65536 ∷ w.Call 1 ∷ [] }
      ∷ [];
}

-- a load of an allocator is not told
abbrev pub InsideNotTold : Type 0
InsideNotTold = Says loading 5 (Called 1 65536 (first_store loading) ∷ [])
