-- Data segments in the middle (WebAssembly Core Specification 1.0, section 5.5.14); the states are this project's own.
use Rattle.std.specs.Prelude.{ℕ, List}
use Rattle.wasm_ast.specs.declared.instructions.WInstr.{WInstr}
use Rattle.wasm_ast.specs.declared.modules.DataSeg.{DataSeg}
use Rattle.wasm_reading.specs.Readers.{Reader, ◌>>=◌, give, byte_at}
use Rattle.wasm_reading.specs.ReadValues.{vector_at}
use Rattle.wasm_reading.specs.ReadInstructions.{constant_at}
use Rattle.wasm_items.specs.Residuals.{WantsAByte}
use Rattle.wasm_items.specs.WantsBytes.{wants_then, wants_leb, wants_byte}
use Rattle.wasm_items.specs.LebStates.{rest_of_leb}
use Rattle.wasm_items.specs.ConstantStates.{rest_of_constant, wants_constant}
use Rattle.wasm_items.specs.Vectors.{rest_of_vector, wants_vector}
use Rattle.wasm_entries.specs.declared.segment.SegmentState.{SegmentState}
use Rattle.wasm_entries.specs.declared.segment.SegmentState.TheVariants.{Memory, Offset, Bytes}

-- the segment of these bytes
abbrev pub filled : ℕ → WInstr → List ℕ → Reader DataSeg
filled memory offset bytes = give (record { memory = memory; offset = offset; bytes = bytes })

-- what is read behind the offset
abbrev pub behind_offset : ℕ → WInstr → Reader DataSeg
behind_offset memory offset = vector_at byte_at >>= filled memory offset

-- what is read behind the index of the memory
abbrev pub behind_memory : ℕ → Reader DataSeg
behind_memory memory = constant_at >>= behind_offset memory

-- a data segment in the middle
abbrev pub rest_of_segment : SegmentState → Reader DataSeg
rest_of_segment (Memory alloc number) = rest_of_leb number >>= behind_memory
rest_of_segment (Offset alloc memory offset) = rest_of_constant offset >>= behind_offset memory
rest_of_segment (Bytes memory offset bytes) = rest_of_vector byte_at (λ _. byte_at) bytes >>= filled memory offset

-- a data segment wants a byte
pub wants_segment : (state : SegmentState) → WantsAByte (rest_of_segment state)
wants_segment (Memory alloc number) = wants_then behind_memory (wants_leb number)
wants_segment (Offset alloc memory offset) = wants_then (behind_offset memory) (wants_constant offset)
wants_segment (Bytes memory offset bytes) = wants_then (filled memory offset) (wants_vector byte_at (λ _. byte_at) (λ _. wants_byte) bytes)
