use Rattle.wasm_reading_values.proofs.ExactNumbers.{raw_byte, u32, s32, s64}
use Rattle.wasm_reading_values.proofs.ExactLists.{indices, fitting_byte_vector, fitting_name}
use Rattle.wasm_reading_values.proofs.laws.values_are_read_exactly.Goals as goal

pub returns-clause-byte : goal.returns-clause-byte
returns-clause-byte c = raw_byte

pub returns-clause-u32 : goal.returns-clause-u32
returns-clause-u32 c = u32

pub returns-clause-s32 : goal.returns-clause-s32
returns-clause-s32 c = s32

pub returns-clause-s64 : goal.returns-clause-s64
returns-clause-s64 c = s64

pub returns-clause-index_vector : goal.returns-clause-index_vector
returns-clause-index_vector c = indices

pub returns-clause-byte_vector : goal.returns-clause-byte_vector
returns-clause-byte_vector c = fitting_byte_vector

pub returns-clause-name : goal.returns-clause-name
returns-clause-name c = fitting_name
