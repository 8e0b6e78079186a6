use Rattle.wasm_grammar.proofs.InstructionLayers.{instruction_bytes-layer, nesting-layer}
use Rattle.wasm_grammar.proofs.instruction_layers.Goals as goal

pub returns-clause-bytes : goal.returns-clause-bytes
returns-clause-bytes c = instruction_bytes-layer

pub returns-clause-nesting : goal.returns-clause-nesting
returns-clause-nesting c = nesting-layer
