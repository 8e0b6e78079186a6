-- Element segments in the middle (WebAssembly Core Specification 1.0, section 5.5.12); the states are this project's own.
use Rattle.std.specs.Prelude.{ℕ, List}
use Rattle.wasm_ast.specs.declared.instructions.WInstr.{WInstr}
use Rattle.wasm_ast.specs.declared.modules.ElemSeg.{ElemSeg}
use Rattle.wasm_reading.specs.Readers.{Reader, ◌>>=◌, give}
use Rattle.wasm_reading.specs.ReadValues.{u32_at, vector_at}
use Rattle.wasm_reading.specs.ReadInstructions.{constant_at}
use Rattle.wasm_items.specs.Residuals.{WantsAByte}
use Rattle.wasm_items.specs.WantsBytes.{wants_then, wants_leb}
use Rattle.wasm_items.specs.LebStates.{rest_of_leb}
use Rattle.wasm_items.specs.ConstantStates.{rest_of_constant, wants_constant}
use Rattle.wasm_items.specs.Vectors.{rest_of_vector, wants_vector}
use Rattle.wasm_entries.specs.declared.element.ElementState.{ElementState}
use Rattle.wasm_entries.specs.declared.element.ElementState.TheVariants.{Table, Offset, Funcs}

-- the segment of these functions
abbrev pub filled : ℕ → WInstr → List ℕ → Reader ElemSeg
filled table offset funcs = give (record { table = table; offset = offset; funcs = funcs })

-- what is read behind the offset
abbrev pub behind_offset : ℕ → WInstr → Reader ElemSeg
behind_offset table offset = vector_at u32_at >>= filled table offset

-- what is read behind the index of the table
abbrev pub behind_table : ℕ → Reader ElemSeg
behind_table table = constant_at >>= behind_offset table

-- an element segment in the middle
abbrev pub rest_of_element : ElementState → Reader ElemSeg
rest_of_element (Table alloc number) = rest_of_leb number >>= behind_table
rest_of_element (Offset alloc table offset) = rest_of_constant offset >>= behind_offset table
rest_of_element (Funcs table offset funcs) = rest_of_vector u32_at rest_of_leb funcs >>= filled table offset

-- an element segment wants a byte
pub wants_element : (state : ElementState) → WantsAByte (rest_of_element state)
wants_element (Table alloc number) = wants_then behind_table (wants_leb number)
wants_element (Offset alloc table offset) = wants_then (behind_offset table) (wants_constant offset)
wants_element (Funcs table offset funcs) = wants_then (filled table offset) (wants_vector u32_at rest_of_leb wants_leb funcs)
