-- What the memory instructions do to the operands and to the memory, whatever else there is (WebAssembly Core Specification
-- 1.0, section 4.4.4).
use Rattle.std.specs.Prelude.{◌≡◌, ℕ, ◌+◌, ◌^◌, List, [], Result, Ok, Err, drop}
use Rattle.machine_steps.specs.declared.End.TheVariants as end
use Rattle.machine_steps.specs.declared.Trap.{Trap}
use Rattle.machine_steps.specs.Steps.{Turn, Went, Ended}
use Rattle.wasm_ast.specs.declared.types.ValTy.{ValTy}
use Rattle.wasm_ast.specs.declared.operation.Access.{Access}
use Rattle.wasm_execution.specs.Configurations.{Here, Config, Event}
use Rattle.wasm_execution.specs.Environments.{Environment}
use Rattle.wasm_execution.specs.Turns.{leaves, first_or_zero}
use Rattle.wasm_execution.specs.Memories.{touches, load_number, store_number, size_of_memory, grow_memory}

-- a configuration with this memory
abbrev pub with_memory : List ℕ → Config → Config
with_memory memory c = record c { store = record c.store { memory = memory } }

module _ (e : Environment) where
  -- how a load or a store of so many bytes at an address goes on with these operands and from the first memory to the second, or
  -- traps, and what it says
  abbrev pub accessed : ℕ → ℕ → Result (Unit {0}) Trap → List ℕ → List ℕ → List ℕ → Here → Config → Turn Event Config
  accessed address count (Ok u) operands before after here c =
      Went (touches e here.function address count) (record (with_memory after c) { here = record here { operands = operands } })
  accessed address count (Err why) operands before after here c = Ended (touches e here.function address count) (end.Trap why) (with_memory before c)

-- a load from this memory on these operands goes on with those, or it traps
abbrev pub LoadsNumber : ValTy → Access → ℕ → List ℕ → List ℕ → Result (Unit {0}) Trap → List ℕ → Type 0
LoadsNumber t access offset memory old result new = (e : Environment) (here : Here) (c : Config) →
    load_number e t access offset (record here { operands = old }) (with_memory memory c)
    ≡ accessed e (first_or_zero old + offset) (2 ^ access.log_width) result new memory memory here c

-- a store on these operands goes on with those, and turns the first memory into the second, or it traps
abbrev pub StoresNumber : ℕ → ℕ → List ℕ → List ℕ → Result (Unit {0}) Trap → List ℕ → List ℕ → Type 0
StoresNumber log_width offset before old result after new = (e : Environment) (here : Here) (c : Config) →
    store_number e log_width offset (record here { operands = old }) (with_memory before c)
    ≡ accessed e (first_or_zero (drop 1 old) + offset) (2 ^ log_width) result new before after here c

-- the size of this memory is put on these operands, which are then those
abbrev pub TellsSize : List ℕ → List ℕ → List ℕ → Type 0
TellsSize memory old new = (e : Environment) (here : Here) (c : Config) →
    size_of_memory e (record here { operands = old }) (with_memory memory c) ≡ leaves new here (with_memory memory c)

-- a growth up to so many pages goes on with these operands, and from the first memory to the second
abbrev pub GrowsMemory : ℕ → List ℕ → List ℕ → List ℕ → List ℕ → Type 0
GrowsMemory most before old after new = (e : Environment) (here : Here) (c : Config) → e.most_pages ≡ most →
    grow_memory e (record here { operands = old }) (with_memory before c)
    ≡ Went [] (record (with_memory after c) { here = record here { operands = new } })
