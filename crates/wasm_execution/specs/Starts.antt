-- How a module begins to run: its instantiation, and the invocation of its start function and of its exported `main` (WebAssembly
-- Core Specification 1.0, sections 4.5.4 and 4.5.5).
use Rattle.std.specs.Prelude.{ℕ, suc, ◌+◌, ◌*◌, Bool, true, false, nat_le, List, [], ◌∷◌, ◌++◌, Option, Some, None, length, map, take, drop, replicate, codes, slice_get}
use Rattle.memory_words.specs.Memories.{zeros, put}
use Rattle.wasm_ast.specs.declared.instructions.WInstr.{WInstr, out-WInstr}
use Rattle.wasm_ast.specs.declared.instructions.WInstr.TheOpen.{WInstr-F}
use Rattle.wasm_ast.specs.declared.types.FuncType.{FuncType}
use Rattle.wasm_ast.specs.declared.types.Limits.{Limits}
use Rattle.wasm_ast.specs.declared.types.ValTy.TheVariants.{I64}
use Rattle.wasm_ast.specs.declared.modules.Code.{Code}
use Rattle.wasm_ast.specs.declared.modules.DataSeg.{DataSeg}
use Rattle.wasm_ast.specs.declared.modules.ElemSeg.{ElemSeg}
use Rattle.wasm_ast.specs.declared.modules.WGlobal.{WGlobal}
use Rattle.wasm_ast.specs.declared.modules.WModule.{WModule}
use Rattle.wasm_execution.specs.Types.{takes_and_gives}
use Rattle.wasm_ast.specs.SameTypes.{is_same_type}
use Rattle.wasm_execution.specs.Configurations.{TheEnd, ThenCall, Store, Config}
use Rattle.wasm_execution.specs.Environments.{Environment, environment_of, function_at, exported, is_func}
use Rattle.wasm_execution.specs.Imports.{is_print}
use Rattle.wasm_execution.specs.Calls.{entered}

-- how a module starts: the first import that the host does not give; the first segment out of bounds, element segments counted
-- before data segments; no `main`; a start function that cannot be called, which validation refuses; or the first configuration
pub data Start : Type 0 where
  UnknownImport : ℕ → Start
  SegmentOut : ℕ → Start
  NoMain : Start
  NoStartFunction : Start
  Begins : Config → Start

-- the number of the first that fails, counted from here
abbrev pub first_failing : ℕ → List Bool → Option ℕ
first_failing n [] = None
first_failing n (true ∷ rest) = first_failing (suc n) rest
first_failing n (false ∷ rest) = Some n

-- the value of a constant expression over these globals (4.4.8)
abbrev pub value_in : List ℕ → WInstr-F WInstr → ℕ
value_in globals (WInstr-F.I32Const n) = n
value_in globals (WInstr-F.I64Const n) = n
value_in globals (WInstr-F.GlobalGet n) = elim (slice_get globals n) [ None ↦ 0 | Some v ↦ v ]
value_in globals _ = 0

-- the first values of the globals, which are constants: a module that starts imports no global
abbrev pub first_globals : List WGlobal → List ℕ
first_globals gs = map (λ g. value_in [] (out-WInstr g.init)) gs

-- how many entries a table has at first
abbrev pub first_entries : List Limits → ℕ
first_entries [] = 0
first_entries (l ∷ ls) = l.min

-- how many bytes a memory has at first
abbrev pub first_bytes : List Limits → ℕ
first_bytes [] = 0
first_bytes (l ∷ ls) = 65536 * l.min

-- whether an element segment lies within so many entries
abbrev pub fits_table : List ℕ → ℕ → ElemSeg → Bool
fits_table globals entries s = nat_le (value_in globals (out-WInstr s.offset) + length s.funcs) entries

-- whether a data segment lies within so many bytes
abbrev pub fits_memory : List ℕ → ℕ → DataSeg → Bool
fits_memory globals bytes s = nat_le (value_in globals (out-WInstr s.offset) + length s.bytes) bytes

-- the first segment out of bounds
abbrev pub first_out : WModule → Option ℕ
first_out m =
    let globals = first_globals m.globals in
    first_failing 0 (map (fits_table globals (first_entries m.tables)) m.elements ++ map (fits_memory globals (first_bytes m.memories)) m.segments)

-- these functions in the place of the entries from `at` on
abbrev pub put_functions : ℕ → List ℕ → List (Option ℕ) → List (Option ℕ)
put_functions at functions table = take at table ++ (map (λ n. Some n) functions ++ drop (at + length functions) table)

abbrev pub put_elements : List ℕ → List ElemSeg → List (Option ℕ) → List (Option ℕ)
put_elements globals [] table = table
put_elements globals (s ∷ ss) table = put_elements globals ss (put_functions (value_in globals (out-WInstr s.offset)) s.funcs table)

abbrev pub put_segments : List ℕ → List DataSeg → List ℕ → List ℕ
put_segments globals [] memory = memory
put_segments globals (s ∷ ss) memory = put_segments globals ss (put memory (value_in globals (out-WInstr s.offset)) s.bytes)

-- the store before the first step, for a module whose segments lie within its memory and table
abbrev pub first_store : WModule → Store
first_store m =
    let globals = first_globals m.globals in
    record {
      memory = put_segments globals m.segments (zeros (first_bytes m.memories));
      table = put_elements globals m.elements (replicate (first_entries m.tables) None);
      globals = globals;
    }

-- the code of a function that has this type
abbrev pub code_of_type : Environment → FuncType → ℕ → Option Code
code_of_type e ty n = elim (function_at e n) [ None ↦ None | Some f ↦ elim (is_same_type f.ty ty) [ true ↦ f.code | false ↦ None ] ]

-- `main`, with this code, is called, after the start function, where there is one
abbrev pub start_main : WModule → ℕ → Code → Start
start_main m main code = elim m.start [
  | None ↦ Begins (entered main code [] [] TheEnd (first_store m))
  | Some n ↦ elim (code_of_type (environment_of m) (takes_and_gives [] None) n) [
    | None ↦ NoStartFunction
    | Some first ↦ Begins (entered n first [] [] (ThenCall main) (first_store m))
  ]
]

-- the function that is exported as `main` takes nothing and gives an i64
abbrev pub start_exported : WModule → Start
start_exported m = elim (exported is_func (codes "main") m.exports) [
  | None ↦ NoMain
  | Some main ↦ elim (code_of_type (environment_of m) (takes_and_gives [] (Some I64)) main) [
    | None ↦ NoMain
    | Some code ↦ start_main m main code
  ]
]

-- how a module starts, in the order in which it is looked at
abbrev pub start_of : WModule → Start
start_of m = elim (first_failing 0 (map (is_print m.types) m.imports)) [
  | Some i ↦ UnknownImport i
  | None ↦ elim (first_out m) [
    | Some i ↦ SegmentOut i
    | None ↦ start_exported m
  ]
]
