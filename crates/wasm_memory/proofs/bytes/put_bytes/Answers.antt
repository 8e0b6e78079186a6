use Rattle.wasm_memory.proofs.LittleEndian.{put-is}
use Rattle.wasm_memory.proofs.bytes.put_bytes.Goals as goal

pub returns : goal.returns
returns c = put-is c.args.bytes.now c.args.at c.args.from.now c.copy_from_slice.new.self c.copy_from_slice.ensures.after
