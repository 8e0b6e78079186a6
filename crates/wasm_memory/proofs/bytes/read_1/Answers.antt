use Rattle.wasm_memory.proofs.LittleEndian.{read-1}
use Rattle.wasm_memory.proofs.bytes.read_1.Goals as goal

pub returns-clause-value : goal.returns-clause-value
returns-clause-value c = let e = read-1 c.args.bytes.now c.args.at c.requires in cc
