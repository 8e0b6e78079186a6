-- What plain instructions find and leave, whatever else there is (WebAssembly Core Specification 1.0, sections 4.4.1 to 4.4.4).
use Rattle.std.specs.Prelude.{◌≡◌, ℕ, ◌<◌, ◌≤◌, ◌^◌, List, [], length, Result, Ok, Err}
use Rattle.std.specs.List.{flat_map}
use Rattle.machine_steps.specs.declared.End.TheVariants as end
use Rattle.machine_steps.specs.declared.Trap.{Trap}
use Rattle.machine_steps.specs.Steps.{Turn, Went, Ended}
use Rattle.wasm_operators.specs.declared.Width.TheVariants.{W32}
use Rattle.wasm_num.specs.Operators.{width_from}
use Rattle.wasm_ast.specs.declared.instructions.WInstr.{WInstr}
use Rattle.wasm_ast.specs.Operations.{Operation}
use Rattle.wasm_ast.specs.Operations as operation
use Rattle.wasm_execution.specs.Types.{width_of}
use Rattle.wasm_execution.specs.Configurations.{Here, Config, Event, prints}
use Rattle.wasm_execution.specs.Environments.{Environment}
use Rattle.wasm_execution.specs.Steps.{act}
use Rattle.wasm_plain_steps.specs.Operands.{HasOne, HasTwo}

-- the numbers that plain instructions work on
pub record Plain : Type 0 where
  pub operands : List ℕ
  pub locals : List ℕ
  pub memory : List ℕ
  pub globals : List ℕ

-- them as the record
abbrev pub plain : List ℕ → List ℕ → List ℕ → List ℕ → Plain
plain operands locals memory globals = record { operands = operands; locals = locals; memory = memory; globals = globals }

-- what a plain instruction has to find, with room for so many more operands; no other instruction is plain
abbrev pub FindsPlain : Operation WInstr → Plain → ℕ → Type 0
FindsPlain operation.Nop p room = Unit {0}
FindsPlain operation.Drop p room = 0 < length p.operands
FindsPlain operation.Select p room = 3 ≤ length p.operands
FindsPlain (operation.LocalGet n) p room = (n < length p.locals) × (0 < room)
FindsPlain (operation.LocalSet n) p room = (n < length p.locals) × (0 < length p.operands)
FindsPlain (operation.LocalTee n) p room = (n < length p.locals) × (0 < length p.operands)
FindsPlain (operation.GlobalGet n) p room = (n < length p.globals) × (0 < room)
FindsPlain (operation.GlobalSet n) p room = (n < length p.globals) × (0 < length p.operands)
FindsPlain (operation.Load t access align offset) p room = HasOne W32 p.operands
FindsPlain (operation.Store t log_width align offset) p room = HasTwo W32 (width_of t) p.operands
FindsPlain operation.MemorySize p room = (length p.memory ≤ 2 ^ 32) × (0 < room)
FindsPlain (operation.Const32 bits) p room = 0 < room
FindsPlain (operation.Const64 bits) p room = 0 < room
FindsPlain (operation.Eqz t) p room = HasOne (width_of t) p.operands
FindsPlain (operation.Compare t operator) p room = HasTwo (width_of t) (width_of t) p.operands
FindsPlain (operation.Unary t operator) p room = HasOne (width_of t) p.operands
FindsPlain (operation.Binary t operator) p room = HasTwo (width_of t) (width_of t) p.operands
FindsPlain (operation.Convert operator) p room = HasOne (width_from operator) p.operands
FindsPlain _ p room = ⊥

-- a call with these operands and locals
abbrev pub on_here : Plain → Here → Here
on_here p here = record here { operands = p.operands; locals = p.locals }

-- a configuration with this memory and these globals
abbrev pub on_store : Plain → Config → Config
on_store p c = record c { store = record c.store { memory = p.memory; globals = p.globals } }

-- the next configuration, or the trap, with what is said
abbrev pub acted : List Event → Result (Unit {0}) Trap → Plain → Plain → Here → Config → Turn Event Config
acted es (Ok u) before after here c = Went es (record (on_store after c) { here = on_here after here })
acted es (Err why) before after here c = Ended es (end.Trap why) (on_store before c)

-- an instruction does this, and prints nothing
pub record ActsPlain (e : Environment) (o : Operation WInstr) (before : Plain) (answer : Result (Unit {0}) Trap) (after : Plain) (here : Here) (c : Config) : Type 0 where
  pub events : List Event
  pub silent : flat_map prints events ≡ []
  pub turn : act e o (on_here before here) (on_store before c) ≡ acted events answer before after here c

-- whatever else there is, an instruction turns these numbers into those, or traps
abbrev pub DoesPlain : Operation WInstr → Plain → Result (Unit {0}) Trap → Plain → Type 0
DoesPlain o before answer after = (e : Environment) (here : Here) (c : Config) → ActsPlain e o before answer after here c
