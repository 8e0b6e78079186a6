-- The configurations of a module that runs (WebAssembly Core Specification 1.0, section 4.2). Operands are numbers, without
-- their widths, which are a matter of validation.
use Rattle.std.specs.Prelude.{ℕ, List, [], ◌∷◌, Option}
use Rattle.wasm_ast.specs.declared.instructions.WInstr.{WInstr}
use Rattle.machine_steps.specs.declared.Trap as machine

-- where a branch to an open list leads: past its end, or to its start (4.2.12, the continuation of a label)
pub data Aim : Type 0 where
  Past : Aim
  Back : List WInstr → Aim

-- an open list: where a branch to it leads and how many operands it takes, how many its end leaves, and of the list around
-- it the operands, the top one first, and what is left (4.2.12, labels)
pub record Level : Type 0 where
  pub aim : Aim
  pub takes : ℕ
  pub gives : ℕ
  pub beneath : List ℕ
  pub rest : List WInstr

-- a call that runs: its function, its first argument (0 where it has none), its locals, the operands, the top one first, what
-- is left of the list, and the open lists, the innermost first (4.2.12, frames)
pub record Here : Type 0 where
  pub function : ℕ
  pub argument : ℕ
  pub locals : List ℕ
  pub operands : List ℕ
  pub rest : List WInstr
  pub levels : List Level

-- what follows when the first call is over: the end, or the call of this function
pub data Bottom : Type 0 where
  TheEnd : Bottom
  ThenCall : ℕ → Bottom

-- the bytes of memory, the functions in the table, and the globals (4.2.3)
pub record Store : Type 0 where
  pub memory : List ℕ
  pub table : List (Option ℕ)
  pub globals : List ℕ

-- the call that runs, those that wait for it, the innermost first, what follows them, and the store (4.2.13)
pub record Config : Type 0 where
  pub here : Here
  pub callers : List Here
  pub bottom : Bottom
  pub store : Store

-- what a step says: that a number was printed; that an allocator was called with this argument, or returned this number (0
-- where it returns none), and the store then; that so many bytes at an address were loaded or stored elsewhere; and why
-- `unreachable` stopped the run (this project's own)
pub data Event : Type 0 where
  Print : ℕ → Event
  Called : ℕ → ℕ → Store → Event
  Returned : ℕ → ℕ → Store → Event
  Touch : ℕ → ℕ → Event
  Stopped : machine.Trap → Event

-- the numbers that an event prints
abbrev pub prints : Event → List ℕ
prints (Print n) = n ∷ []
prints _ = []
