-- Memories of bytes (WebAssembly Core Specification 1.0, section 4.2.8).
use Rattle.std.specs.Prelude.{ℕ, ◌<◌, List, All}
use Rattle.wasm_ast.specs.declared.modules.DataSeg.{DataSeg}
use Rattle.wasm_ast.specs.declared.modules.WModule.{WModule}
use Rattle.machine_steps.specs.Steps.{Turn, Went, Ended, NoStep}
use Rattle.wasm_execution.specs.Configurations.{Config, Event}

-- each is below 256
abbrev pub AreBytes : List ℕ → Type 0
AreBytes memory = All (λ b. b < 256) memory

-- a configuration's memory is made of bytes
abbrev pub HasBytes : Config → Type 0
HasBytes c = AreBytes c.store.memory

-- so is that of the configuration to which a step leads, or at which it ends the run
abbrev pub LeadsToBytes : Turn Event Config → Type 0
LeadsToBytes (Went es c) = HasBytes c
LeadsToBytes (Ended es end c) = HasBytes c
LeadsToBytes NoStep = Unit {0}

-- the data segments of a module are made of bytes
abbrev pub HasSegmentsOfBytes : WModule → Type 0
HasSegmentsOfBytes m = All (λ (s : DataSeg). AreBytes s.bytes) m.segments
