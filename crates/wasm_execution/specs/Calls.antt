-- What calls do (WebAssembly Core Specification 1.0, sections 4.4.5.9 to 4.4.5.11 and 4.4.7).
use Rattle.std.specs.Prelude.{ℕ, ◌+◌, true, false, if◌then◌else◌, List, [], ◌∷◌, ◌++◌, Some, None, length, reverse, replicate, slice_get}
use Rattle.std.specs.Int.{cast_signed, w64}
use Rattle.wasm_ast.specs.declared.modules.Code.{Code}
use Rattle.wasm_ast.specs.declared.modules.LocalRun.{LocalRun}
use Rattle.machine_steps.specs.declared.End.TheVariants.{Value}
use Rattle.machine_steps.specs.declared.Trap.TheVariants.{TableBounds, Uninitialised, Signature}
use Rattle.machine_steps.specs.Steps.{Turn, Went, Ended, NoStep, with_top}
use Rattle.wasm_execution.specs.Types.{results_of}
use Rattle.wasm_ast.specs.SameTypes.{is_same_type}
use Rattle.wasm_execution.specs.Configurations.{Here, Bottom, TheEnd, ThenCall, Store, Config, Event, Print, Called, Returned}
use Rattle.wasm_execution.specs.Environments.{Environment, Function, function_at, is_allocator}
use Rattle.wasm_execution.specs.Turns.{first_or_zero, traps}
use Rattle.machine_steps.specs.Steps.{with_found, with_one, with_all}

-- how many locals are declared
abbrev pub declared : List LocalRun → ℕ
declared [] = 0
declared (r ∷ rs) = r.count + declared rs

-- the call of a function with these operands, the last argument first (4.4.7.1)
abbrev pub entered : ℕ → Code → List ℕ → List Here → Bottom → Store → Config
entered n code operands callers bottom store = record {
  here = record {
    function = n;
    argument = first_or_zero (reverse operands);
    locals = reverse operands ++ replicate (declared code.locals) 0;
    operands = [];
    rest = code.body;
    levels = [];
  };
  callers = callers;
  bottom = bottom;
  store = store;
}

-- the value that the first call ends with
abbrev pub ends_with : List ℕ → Config → Turn Event Config
ends_with (v ∷ []) c = Ended [] (Value (cast_signed w64 v)) c
ends_with _ c = NoStep

module _ (e : Environment) where
  -- what a call says of its first argument, and a return of its first result, where they are an allocator's (this project's own)
  abbrev pub calls : ℕ → ℕ → Store → List Event
  calls n argument store = if is_allocator e n then Called n argument store ∷ [] else []

  abbrev pub returns : ℕ → ℕ → Store → List Event
  returns n result store = if is_allocator e n then Returned n result store ∷ [] else []

  -- a call: of the host's function, which prints its argument, or of one of the module's (4.4.5.10, 4.4.7.1, 4.4.7.3)
  abbrev pub call : ℕ → Function → Here → Config → Turn Event Config
  call n f here c = with_top (length f.ty.params) here.operands (λ arguments beneath.
      let waiting : Here = record here { operands = beneath } in
      elim f.code [
        | None ↦ Went (Print (first_or_zero arguments) ∷ []) (record c { here = waiting })
        | Some code ↦ Went (calls n (first_or_zero (reverse arguments)) c.store) (entered n code arguments (waiting ∷ c.callers) c.bottom c.store)
      ])

  -- call (4.4.5.10)
  abbrev pub call_direct : ℕ → Here → Config → Turn Event Config
  call_direct n here c = with_found (function_at e n) (λ f. call n f here c)

  -- the call of a function where it has this type (4.4.5.11)
  abbrev pub call_typed : ℕ → ℕ → Here → Config → Turn Event Config
  call_typed type_index n here c = with_found (function_at e n) (λ f. with_found (slice_get e.types type_index) (λ ty. elim (is_same_type f.ty ty) [
    | true ↦ call n f here c
    | false ↦ traps Signature c
  ]))

  -- call_indirect (4.4.5.11)
  abbrev pub call_indirect : ℕ → Here → Config → Turn Event Config
  call_indirect type_index here c = with_one here.operands (λ at beneath. elim (slice_get c.store.table at) [
    | None ↦ traps TableBounds c
    | Some entry ↦ elim entry [
      | None ↦ traps Uninitialised c
      | Some n ↦ call_typed type_index n (record here { operands = beneath }) c
    ]
  ])

  -- a call is over with these results (4.4.7.2)
  abbrev pub give : List ℕ → List Here → Bottom → Config → Turn Event Config
  give vs (caller ∷ callers) bottom c = Went (returns c.here.function (first_or_zero vs) c.store) (record c { here = record caller { operands = vs ++ caller.operands }; callers = callers })
  give vs [] TheEnd c = ends_with vs c
  give vs [] (ThenCall n) c = with_found (function_at e n) (λ f. with_found f.code (λ code. Went [] (entered n code [] [] TheEnd c.store)))

  -- return, whatever lies beneath the results (4.4.5.9)
  abbrev pub return_now : Here → Config → Turn Event Config
  return_now here c = with_found (function_at e here.function) (λ f. with_top (results_of f.ty.result) here.operands (λ vs beneath. give vs c.callers c.bottom c))

  -- the end of a function's body, which leaves its results and no more (4.4.7.2)
  abbrev pub return_at_end : Here → Config → Turn Event Config
  return_at_end here c = with_found (function_at e here.function) (λ f. with_all (results_of f.ty.result) here.operands (λ vs. give vs c.callers c.bottom c))
