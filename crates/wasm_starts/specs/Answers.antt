-- What an answer about the start of a module says (WebAssembly Core Specification 1.0, sections 4.5.4 and 4.5.5).
use Rattle.std.specs.Prelude.{◌≡◌, ◌⊎◌, ℕ, [], Option, Some, None}
use Rattle.wasm_ast.specs.declared.modules.Code.{Code}
use Rattle.wasm_ast.specs.declared.modules.WModule.{WModule}
use Rattle.wasm_execution.specs.Calls.{entered}
use Rattle.wasm_execution.specs.Configurations.{Bottom, TheEnd, ThenCall}
use Rattle.wasm_execution.specs.Starts as machine
use Rattle.wasm_execution.specs.Starts.{Begins, start_exported, start_main, start_of}
use Rattle.wasm_starts.specs.declared.error.StartError.{StartError}
use Rattle.wasm_starts.specs.declared.error.StartError.TheVariants.{UnknownImport, SegmentOut, NoMain, Memory}
use Rattle.wasm_starts.specs.declared.starts.Started.{Started}

-- what follows the first call
abbrev pub bottom_of : Option ℕ → Bottom
bottom_of None = TheEnd
bottom_of (Some n) = ThenCall n

-- the function that is called first, where this one is `main`
abbrev pub first_call : Option ℕ → ℕ → ℕ
first_call None main = main
first_call (Some n) main = n

-- the one that follows it
abbrev pub next_call : Option ℕ → ℕ → Option ℕ
next_call None main = None
next_call (Some n) main = Some main

-- the function that is exported as `main`, takes nothing and gives an i64
abbrev pub FindsMain : WModule → Option ℕ → Type 0
FindsMain m None = start_exported m ≡ machine.NoMain
FindsMain m (Some main) = (code : Code) × (start_exported m ≡ start_main m main code)

-- the module begins with this store and these calls
pub record Starts (m : WModule) (s : Started) : Type 0 where
  pub code : Code
  pub begins : start_of m ≡ Begins (entered s.first code [] [] (bottom_of s.next_call) (record { memory = s.memory; table = s.table.items; globals = s.globals.items }))

-- why it does not; want of memory alone tells nothing
abbrev pub TellsStart : WModule → StartError → Type 0
TellsStart m (UnknownImport i) = start_of m ≡ machine.UnknownImport i
TellsStart m (SegmentOut i) = start_of m ≡ machine.SegmentOut i
TellsStart m NoMain = start_of m ≡ machine.NoMain
TellsStart m Memory = Unit {0}

-- an error with a number, where it has 32 bits
abbrev pub IsNumbered : (ℕ → StartError) → ℕ → StartError → Type 0
IsNumbered error_at n e = (e ≡ error_at n) ⊎ (e ≡ Memory)
