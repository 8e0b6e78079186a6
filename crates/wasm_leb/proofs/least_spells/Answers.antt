use Rattle.wasm_leb.proofs.Spelled.{u32, s32, s64}
use Rattle.wasm_leb.proofs.least_spells.Goals as goal

pub returns-clause-u32 : goal.returns-clause-u32
returns-clause-u32 c = u32

pub returns-clause-s32 : goal.returns-clause-s32
returns-clause-s32 c = s32

pub returns-clause-s64 : goal.returns-clause-s64
returns-clause-s64 c = s64
