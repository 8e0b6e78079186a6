use Rattle.std.proofs.Common.{◌≡◌, ◌∙◌, ◌*◌, length, ap, arith}
use Rattle.memory_words.proofs.Bytes.{length-zeros}
use Rattle.wasm_execution.specs.Starts.{first_bytes}
use Rattle.wasm_starts.proofs.Putting.{segment_fits}
use Rattle.wasm_starts.proofs.stores.first_memory.Goals as goal

pub put-requires : goal.put-requires
put-requires c =
    let fits = segment_fits c.args.globals.now (first_bytes c.args.memories.now) c.requires.0 c.args.segments.now c.loop-s.s-index c.s-item.result c.requires.1 c.loop-s-test.true c.s-item.is in
    let long : length c.in_ok-memory.memory ≡ first_bytes c.args.memories.now = ap length c.in_ok-memory.ensures ∙ length-zeros (65536 * c.first_pages.result) ∙ c.first_pages.ensures in
    omega (arith, fits, long, c.loop-s.invariant.count, c.value-at.ensures, ap length c.as_slice.ensures.items)
