-- What holds of a configuration of a valid module (WebAssembly Core Specification 1.0, appendix A.5, "store validity" and
-- "configuration validity"). `C` is the module's context.
use Rattle.std.specs.Prelude.{◌≡◌, ℕ, ◌*◌, ◌<◌, ◌≤◌, List, [], ◌∷◌, ◌++◌, Option, Some, None, All, length, map, slice_get, option_to_list}
use Rattle.wasm_ast.specs.declared.types.FuncType.{FuncType}
use Rattle.wasm_ast.specs.declared.types.ValTy.{ValTy}
use Rattle.wasm_ast.specs.declared.types.ValTy.TheVariants.{I64}
use Rattle.wasm_ast.specs.declared.modules.Code.{Code}
use Rattle.wasm_grammar.specs.ProfileInstructions.{InstructionsFit}
use Rattle.wasm_typing.specs.declared.context.Context.{Context}
use Rattle.wasm_typing.specs.declared.context.GlobalType.{GlobalType}
use Rattle.wasm_typing.specs.Contexts.{body_context}
use Rattle.wasm_typing.specs.Typing.{Labels, IsTypedBody}
use Rattle.wasm_typing.specs.Heights.{height_of}
use Rattle.machine_steps.specs.Steps.{Turn, Went, Ended, NoStep}
use Rattle.wasm_execution.specs.Types.{takes_and_gives}
use Rattle.wasm_execution.specs.Configurations.{Here, Bottom, TheEnd, ThenCall, Store, Config, Event}
use Rattle.wasm_execution.specs.Environments.{Environment, Function, function_at}
use Rattle.wasm_machine_typing.specs.Values.{AreOf}
use Rattle.wasm_machine_typing.specs.Lists.{count_beneath, Runs, AreOpen}

-- a function of this type and code
abbrev pub of_code : FuncType → Option Code → Function
of_code ty code = record { ty = ty; code = code }

-- the types of the globals
abbrev pub global_types : Context → List ValTy
global_types C = map (λ (g : GlobalType). g.ty) C.globals

-- the host's function gives nothing; one of the module has a typed body, whose numbers fit their fields
abbrev pub IsTypedCode : Context → FuncType → Option Code → Type 0
IsTypedCode C ty None = ty.result ≡ None
IsTypedCode C ty (Some code) = IsTypedBody (body_context C ty code) code.body × InstructionsFit code.body

module _ (C : Context) (e : Environment) where
  -- what steps look up is as the context says
  pub record IsTypedEnvironment : Type 0 where
    pub types : e.types ≡ C.types
    pub functions : (n : ℕ) (ty : FuncType) → slice_get C.functions n ≡ Some ty → (code : Option Code) × (function_at e n ≡ Some (of_code ty code))
    pub codes : (n : ℕ) (f : Function) → function_at e n ≡ Some f → IsTypedCode C f.ty f.code
    pub pages : e.most_pages ≤ 65536

  -- the globals have their types, the functions in the table are there, and memory is whole pages of bytes, at most 65,536
  pub record IsTypedStore (s : Store) : Type 0 where
    pub globals : AreOf (global_types C) s.globals
    pub table : (i n : ℕ) → slice_get s.table i ≡ Some (Some n) → (f : Function) × (function_at e n ≡ Some f)
    pub bytes : All (λ b. b < 256) s.memory
    pub pages : ℕ
    pub whole : length s.memory ≡ 65536 * pages
    pub most : pages ≤ 65536

  -- a call of a function of this type and code: its locals have their types, and its lists are typed within its height
  pub record IsTypedCall (ty : FuncType) (code : Code) (here : Here) : Type 0 where
    pub there : function_at e here.function ≡ Some (of_code ty (Some code))
    pub locals : AreOf (body_context C ty code).locals here.locals
    pub labels : Labels
    pub result : Option ValTy
    pub runs : Runs (body_context C ty code) (height_of (body_context C ty code) code.body) labels here.rest here.operands (count_beneath here.levels) result
    pub open_lists : AreOpen (body_context C ty code) (height_of (body_context C ty code) code.body) here.levels labels result

  -- what follows the first call, which gives this: `main` gives an i64, and a start function nothing
  abbrev pub IsTypedBottom : Option ValTy → Bottom → Type 0
  IsTypedBottom result TheEnd = result ≡ Some I64
  IsTypedBottom result (ThenCall n) = (result ≡ None) × ((code : Code) × (function_at e n ≡ Some (of_code (takes_and_gives [] (Some I64)) (Some code))))

  -- the calls that wait, the innermost for this result
  abbrev pub AreTypedCallers : Option ValTy → List Here → Bottom → Type 0
  AreTypedCallers result [] bottom = IsTypedBottom result bottom
  AreTypedCallers result (caller ∷ callers) bottom =
      (ty : FuncType) × (code : Code) × ((vs : List ℕ) → AreOf (option_to_list result) vs → IsTypedCall ty code (record caller { operands = vs ++ caller.operands }))
      × AreTypedCallers ty.result callers bottom

  pub record IsTypedConfig (c : Config) : Type 0 where
    pub ty : FuncType
    pub code : Code
    pub call : IsTypedCall ty code c.here
    pub waiting : AreTypedCallers ty.result c.callers c.bottom
    pub store : IsTypedStore c.store

  -- a step leads to a typed configuration, or the run is over at one; it is never stuck
  abbrev pub IsTypedTurn : Turn Event Config → Type 0
  IsTypedTurn (Went es c) = IsTypedConfig c
  IsTypedTurn (Ended es end c) = IsTypedConfig c
  IsTypedTurn NoStep = ⊥
