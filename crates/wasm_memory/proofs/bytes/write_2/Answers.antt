use Rattle.wasm_memory.proofs.LittleEndian.{write-is}
use Rattle.wasm_memory.proofs.bytes.write_2.Goals as goal

pub returns : goal.returns
returns c = write-is 2 c.args.bytes.now c.args.at c.args.number c.copy_from_slice.new.self (cc)
