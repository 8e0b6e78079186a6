-- What keeps a memory one of bytes, and what words tell of it.
use Rattle.std.specs.Prelude.{◌≡◌, ℕ, ◌*◌, ◌<◌, List, length}
use Rattle.memory_words.specs.Memories.{word}
use Rattle.wasm_ast.specs.declared.modules.WModule.{WModule}
use Rattle.machine_steps.specs.Steps.{reached}
use Rattle.wasm_execution.specs.Configurations.{Config}
use Rattle.wasm_execution.specs.Environments.{Environment, environment_of}
use Rattle.wasm_execution.specs.Steps.{step}
use Rattle.wasm_execution.specs.Starts.{Begins, first_store, start_of}
use Rattle.memory_bytes.specs.Bytes.{AreBytes, HasBytes, LeadsToBytes, HasSegmentsOfBytes}

-- a step of any module keeps it, of valid code or not
abbrev pub StepKeepsBytes : Type 0
StepKeepsBytes = (e : Environment) (c : Config) → HasBytes c → LeadsToBytes (step e c)

-- so does any number of steps
abbrev pub StepsKeepBytes : Type 0
StepsKeepBytes = (e : Environment) (c : Config) → HasBytes c → (n : ℕ) → HasBytes (reached (step e) n c).at

-- a module that starts, starts over its first store
abbrev pub StartsOverFirst : Type 0
StartsOverFirst = (m : WModule) (c : Config) → start_of m ≡ Begins c → c.store ≡ first_store m

-- a module whose segments are made of bytes starts with such a memory
abbrev pub StartHasBytes : Type 0
StartHasBytes = (m : WModule) (c : Config) → HasSegmentsOfBytes m → start_of m ≡ Begins c → HasBytes c

-- and has one after each number of steps
abbrev pub ModulesKeepBytes : Type 0
ModulesKeepBytes = (m : WModule) (c : Config) → HasSegmentsOfBytes m → start_of m ≡ Begins c → (n : ℕ) → HasBytes (reached (step (environment_of m)) n c).at

-- two memories of bytes of so many words, each word of which is the same, are the same
abbrev pub WordsTellBytes : Type 0
WordsTellBytes =
    (n : ℕ) (first second : List ℕ) → length first ≡ 8 * n → length second ≡ 8 * n → AreBytes first → AreBytes second → ((i : ℕ) → i < n → word first i ≡ word second i) → first ≡ second
