use Rattle.std.proofs.Common.{◌∙◌, ◌*◌, arith}
use Rattle.wasm_memory.proofs.LittleEndian.{zeros-are}
use Rattle.wasm_memory.proofs.linear.LinearMemory.new.Goals as goal

pub returns : goal.returns
returns c = c.in_ok-bytes.ensures.items_if_clones_equal (λ y h. h) ∙ zeros-are (c.args.pages * 65536) (65536 * c.args.pages) (omega arith)
