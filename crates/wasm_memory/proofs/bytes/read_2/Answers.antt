use Rattle.wasm_memory.proofs.LittleEndian.{read-2}
use Rattle.wasm_memory.proofs.bytes.read_2.Goals as goal

pub returns-clause-value : goal.returns-clause-value
returns-clause-value c = let e = read-2 c.args.bytes.now c.args.at c.requires in cc
