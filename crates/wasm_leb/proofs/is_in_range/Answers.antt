use Rattle.std.proofs.Common.{◌^◌}
use Rattle.wasm_leb.specs.Leb.{IsUnsignedEnd, IsSignedEnd}
use Rattle.wasm_leb.proofs.Spelled.{below, unsigned_below, signed_below}
use Rattle.wasm_leb.proofs.is_in_range.Goals as goal

pub returns-clause-u32 : goal.returns-clause-u32
returns-clause-u32 c = below IsUnsignedEnd unsigned_below (2 ^ 32)

pub returns-clause-s32 : goal.returns-clause-s32
returns-clause-s32 c = below IsSignedEnd signed_below (2 ^ 32)

pub returns-clause-s64 : goal.returns-clause-s64
returns-clause-s64 c = below IsSignedEnd signed_below (2 ^ 64)
