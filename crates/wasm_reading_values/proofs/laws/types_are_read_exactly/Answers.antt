use Rattle.wasm_reading_values.proofs.ExactTables.{value_type_byte, block_type_byte, flag_byte, external_kind_byte}
use Rattle.wasm_reading_values.proofs.ExactTypes.{func_type, limits, memory_type, table_type}
use Rattle.wasm_reading_values.proofs.laws.types_are_read_exactly.Goals as goal

pub returns-clause-value_type : goal.returns-clause-value_type
returns-clause-value_type c = value_type_byte

pub returns-clause-block_type : goal.returns-clause-block_type
returns-clause-block_type c = block_type_byte

pub returns-clause-flag : goal.returns-clause-flag
returns-clause-flag c = flag_byte

pub returns-clause-kind : goal.returns-clause-kind
returns-clause-kind c = external_kind_byte

pub returns-clause-func_type : goal.returns-clause-func_type
returns-clause-func_type c = func_type

pub returns-clause-limits : goal.returns-clause-limits
returns-clause-limits c = limits

pub returns-clause-memory_type : goal.returns-clause-memory_type
returns-clause-memory_type c = memory_type

pub returns-clause-table_type : goal.returns-clause-table_type
returns-clause-table_type c = table_type
