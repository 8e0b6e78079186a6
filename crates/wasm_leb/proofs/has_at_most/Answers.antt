use Rattle.std.proofs.Common.{◌^◌}
use Rattle.wasm_leb.specs.Leb.{IsUnsignedEnd, IsSignedEnd}
use Rattle.wasm_leb.proofs.Spelled.{at_most, chain32, chain64}
use Rattle.wasm_leb.proofs.has_at_most.Goals as goal

pub returns-clause-u32 : goal.returns-clause-u32
returns-clause-u32 c = at_most IsUnsignedEnd 4 (2 ^ 32) chain32

pub returns-clause-s32 : goal.returns-clause-s32
returns-clause-s32 c = at_most IsSignedEnd 4 (2 ^ 32) chain32

pub returns-clause-s64 : goal.returns-clause-s64
returns-clause-s64 c = at_most IsSignedEnd 9 (2 ^ 64) chain64
