use Rattle.std.proofs.lemmas.Nat.{xor_lt}
use Rattle.wasm_num.specs.Widths.{bits_of}
use Rattle.wasm_num.proofs.digits.xor.Goals as goal

pub returns-clause-within : goal.returns-clause-within
returns-clause-within c = xor_lt (bits_of c.args.w) c.args.a c.args.b c.requires.left c.requires.right
