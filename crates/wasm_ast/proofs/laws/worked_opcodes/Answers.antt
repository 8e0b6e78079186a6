-- Each row is computed.
use Rattle.std.proofs.Common.{refl}
use Rattle.wasm_ast.proofs.laws.worked_opcodes.Goals as goal

pub returns : goal.returns
returns c = record {
  opcodes = refl;
  immediates = refl;
  instructions = refl;
  end = refl;
  float = refl;
  bare_load = refl;
}
