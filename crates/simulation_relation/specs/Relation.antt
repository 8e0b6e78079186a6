-- Configurations of a program without cells and of its lowered module that stand for each other. This project's own.
use Rattle.std.specs.Prelude.{◌≡◌, ◌<◌, ℕ, List, [], ◌∷◌, drop, length, slice_get, Some}
use Rattle.wasm_execution.specs.Configurations as w
use Rattle.wasm_execution.specs.Starts.{first_store}
use Rattle.rich_types.specs.Scopes.{no_scope}
use Rattle.rich_reduction.specs.Configurations as r
use Rattle.rich_reduction.specs.Starts.{own_list}
use Rattle.rw_program.specs.declared.linked.LinkedGlobal.{LinkedGlobal}
use Rattle.rw_program.specs.Programs.{Program}
use Rattle.layout.specs.Frames.{start_frame}
use Rattle.layout.specs.Limits.{global_count}
use Rattle.lowering_table.specs.declared.Pages.{Pages}
use Rattle.lowering_table.specs.Allocators.{Allocators}
use Rattle.lowering_table.specs.Modules.{main_function}
use Rattle.lowering_modules.specs.Modules.{lowered_module}
use Rattle.simulation_relation.specs.Words.{Holds, IsSpelled, no_book}
use Rattle.simulation_relation.specs.Bodies.{IsRunning}
use Rattle.simulation_relation.specs.Calls.{RunsFunction, after_initialiser, initialiser_body_of, main_call, main_rest, own_call, own_rest, place_of}

-- the globals: each that has its first value has its words in its Wasm globals
pub record GlobalsHold (p : Program) (set : ℕ) (vs : List r.Val) (globals : List ℕ) : Type 0 where
  pub values : length vs ≡ length p.globals
  pub count : length globals ≡ global_count p
  pub each : (n : ℕ) (g : LinkedGlobal) (v : r.Val) → slice_get p.globals n ≡ Some g → slice_get vs n ≡ Some v → n < set → (ws : List ℕ) × IsSpelled no_book no_scope g.ty v ws × Holds globals (place_of p n) ws

-- the stores: no cells here, and there the table and the memory of the start
pub record StoresHold (codes_of : Allocators) (p : Program) (pages : Pages) (set : ℕ) (a : r.Config) (b : w.Config) : Type 0 where
  pub no_cells : a.stores ≡ record { linear = []; unrestricted = [] }
  pub memory : b.store.memory ≡ (first_store (lowered_module codes_of p pages)).memory
  pub table : b.store.table ≡ (first_store (lowered_module codes_of p pages)).table
  pub globals : GlobalsHold p set a.globals b.store.globals
  pub bottom : b.bottom ≡ w.TheEnd

-- where the two stand: in the program's own list before the next global or at the call of main; in an initialiser; where the value
-- of a global is there; in a function; or at the end, with the result
pub data Related (codes_of : Allocators) (p : Program) (pages : Pages) (a : r.Config) (b : w.Config) : Type 0 where
  in_own_list : (set : ℕ) (locals : List ℕ) → StoresHold codes_of p pages set a b → a.here ≡ own_call [] (own_list set (drop set p.globals) p.main) → a.callers ≡ [] →
      length locals ≡ (start_frame p).total → b.here ≡ main_call p locals (main_rest p set) [] → b.callers ≡ [] → Related codes_of p pages a b
  in_initialiser : (set : ℕ) (g : LinkedGlobal) → StoresHold codes_of p pages set a b → slice_get p.globals set ≡ Some g → IsRunning (initialiser_body_of p set g) no_book a.here b.here →
      a.here.results ≡ 1 → b.here.function ≡ main_function p → b.here.argument ≡ 0 → a.callers ≡ [] → b.callers ≡ [] →
      Related codes_of p pages a b
  with_global : (set : ℕ) (g : LinkedGlobal) (v : r.Val) (words locals : List ℕ) → StoresHold codes_of p pages set a b → slice_get p.globals set ≡ Some g → IsSpelled no_book no_scope g.ty v words →
      Holds locals (start_frame p).operands words → length locals ≡ (start_frame p).total → a.here ≡ own_call (v ∷ []) (own_rest p set) → a.callers ≡ [] → b.here ≡ main_call p locals (after_initialiser p set g) [] → b.callers ≡ [] →
      Related codes_of p pages a b
  in_function : StoresHold codes_of p pages (length p.globals) a b → RunsFunction p no_book a.here a.callers b.here b.callers → Related codes_of p pages a b
  at_end : (n : ℕ) (locals : List ℕ) → StoresHold codes_of p pages (length p.globals) a b → a.here ≡ own_call (r.Number n ∷ []) [] → a.callers ≡ [] →
      b.here ≡ record (main_call p locals [] []) { operands = n ∷ [] } → b.callers ≡ [] → Related codes_of p pages a b
