use Rattle.wasm_memory.proofs.LittleEndian.{read-8}
use Rattle.wasm_memory.proofs.bytes.read_8.Goals as goal

pub returns : goal.returns
returns c = let e = read-8 c.args.bytes.now c.args.at c.requires in cc
