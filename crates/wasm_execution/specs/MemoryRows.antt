-- Modules whose `main` loads, stores and grows its memory, with what they come to after so many steps (this project's own rows;
-- the expected numbers follow from the unit of a step).
use Rattle.std.specs.Prelude.{ℕ, ◌-◌, ◌^◌, List, [], ◌∷◌, Some}
use Rattle.wasm_ast.specs.declared.instructions.WInstr as w
use Rattle.wasm_ast.specs.declared.types.Limits.{Limits}
use Rattle.wasm_ast.specs.declared.modules.WModule.{WModule}
use Rattle.machine_steps.specs.declared.End.TheVariants.{Trap}
use Rattle.machine_steps.specs.declared.Trap.TheVariants.{MemoryBounds}
use Rattle.wasm_execution.specs.Rows.{Takes, number}
use Rattle.wasm_execution.specs.ControlRows.{main_with}

-- a memory of these limits
abbrev pub over_memory : Limits → List w.WInstr → WModule
over_memory limits body = record (main_with body) { memories = limits ∷ [] }

abbrev pub pages : ℕ → ℕ → Limits
pages least most = record { min = least; max = Some most }

-- a load at the first byte past the end
abbrev pub past_end : List w.WInstr
past_end = w.I32Const 65536 ∷ w.I64Load 3 0 ∷ []

abbrev pub LoadTraps : Type 0
LoadTraps = Takes (over_memory (pages 1 2) past_end) 2 [] (Trap MemoryBounds)

-- a store of 4 bytes, one of which is past the end
abbrev pub over_end : List w.WInstr
over_end = w.I32Const 65533 ∷ w.I64Const 5 ∷ w.I64Store32 0 0 ∷ w.I64Const 1 ∷ []

abbrev pub StoreTraps : Type 0
StoreTraps = Takes (over_memory (pages 1 1) over_end) 3 [] (Trap MemoryBounds)

-- -7 is stored in 4 bytes, and loaded with its sign
abbrev pub storing : List w.WInstr
storing = w.I32Const 8 ∷ w.I64Const (2 ^ 64 - 7) ∷ w.I64Store32 2 4 ∷ w.I32Const 12 ∷ w.I64Load32S 2 0 ∷ []

abbrev pub StoreTakes : Type 0
StoreTakes = Takes (over_memory (pages 1 1) storing) 6 [] (number (2 ^ 64 - 7))

-- memory grows by so many pages, and gives its size before
abbrev pub growing : ℕ → List w.WInstr
growing n = w.I32Const n ∷ w.MemoryGrow ∷ w.I64ExtendI32U ∷ []

abbrev pub GrowTakes : Type 0
GrowTakes = Takes (over_memory (pages 1 2) (growing 1)) 4 [] (number 1)

-- past the declared most pages, and past 1,024 where more are declared, it does not grow and gives -1 in 32 bits
abbrev pub GrowFails : Type 0
GrowFails =
    Takes (over_memory (pages 1 2) (growing 2)) 4 [] (number (2 ^ 32 - 1))
    × Takes (over_memory (pages 1 60000) (growing 1024)) 4 [] (number (2 ^ 32 - 1))

-- and its size then
abbrev pub grown_size : List w.WInstr
grown_size = w.I32Const 1 ∷ w.MemoryGrow ∷ w.Drop ∷ w.MemorySize ∷ w.I64ExtendI32U ∷ []

abbrev pub SizeTakes : Type 0
SizeTakes = Takes (over_memory (pages 1 2) grown_size) 6 [] (number 2)
