use Rattle.std.proofs.Common.{◌^◌}
use Rattle.wasm_leb.specs.Leb.{IsUnsignedEnd, IsSignedEnd}
use Rattle.wasm_leb.proofs.OneForm.{one_form, unsigned_end, signed_end}
use Rattle.wasm_leb.proofs.has_one_form.Goals as goal

pub returns-clause-u32 : goal.returns-clause-u32
returns-clause-u32 c = one_form IsUnsignedEnd unsigned_end (2 ^ 32)

pub returns-clause-s32 : goal.returns-clause-s32
returns-clause-s32 c = one_form IsSignedEnd signed_end (2 ^ 32)

pub returns-clause-s64 : goal.returns-clause-s64
returns-clause-s64 c = one_form IsSignedEnd signed_end (2 ^ 64)
