use Rattle.std.proofs.lemmas.Nat.{or_lt}
use Rattle.wasm_num.specs.Widths.{bits_of}
use Rattle.wasm_num.proofs.digits.or.Goals as goal

pub returns-clause-within : goal.returns-clause-within
returns-clause-within c = or_lt (bits_of c.args.w) c.args.a c.args.b c.requires.left c.requires.right
