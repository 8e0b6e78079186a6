use Rattle.std.proofs.Common.{◌^◌}
use Rattle.wasm_leb.proofs.Shortest.{unsigned, signed}
use Rattle.wasm_leb.proofs.none_is_shorter.Goals as goal

pub returns-clause-u32 : goal.returns-clause-u32
returns-clause-u32 c = unsigned 5 (2 ^ 32)

pub returns-clause-s32 : goal.returns-clause-s32
returns-clause-s32 c = signed 5 (2 ^ 32)

pub returns-clause-s64 : goal.returns-clause-s64
returns-clause-s64 c = signed 10 (2 ^ 64)
