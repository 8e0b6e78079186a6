use Rattle.std.proofs.Common.{◌∙◌, ◌*◌, ◌++◌, ℕ, List, vec_len, ap, arith}
use Rattle.memory_words.specs.Memories.{zeros}
use Rattle.wasm_memory.proofs.LittleEndian.{grown-is}
use Rattle.wasm_memory.proofs.linear.LinearMemory.grow.Goals as goal

pub returns-clause-grown : goal.returns-clause-grown
returns-clause-grown c =
    let bytes = c.self.inside.bytes.items in (
      c.pages-before.ensures,
      omega arith,
      c.in_ok-resize.ensures.items ∙ grown-is bytes c.args.pages c.len.result (vec_len c.self.inside.bytes) (omega arith) (omega arith) ∙ ap (λ (l : List ℕ). l ++ zeros (65536 * c.args.pages)) c.self.view_is,
    )
