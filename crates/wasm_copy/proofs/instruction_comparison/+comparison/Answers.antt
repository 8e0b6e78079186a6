-- An instruction is known by its opcode and its immediates (the law of `wasm_ast`), so comparing these
-- compares the instructions; what is nested counts less, so the recursion ends.
use Rattle.std.proofs.Common.{◌≡◌, ◌∙◌, ap, sym, arith}
use Rattle.wasm_ast.specs.Opcodes.{opcode_of}
use Rattle.wasm_ast.specs.Immediates.{immediate_of}
use Rattle.wasm_ast.proofs.Counts.{immediate_count-less}
use Rattle.wasm_ast.proofs.Tables.{opcodes_tell_apart}
use Rattle.wasm_copy.proofs.instruction_comparison.+comparison.Goals as goal

pub same_instruction-same_immediate-requires : goal.same_instruction-same_immediate-requires
same_instruction-same_immediate-requires t c =
    let less = immediate_count-less c.args.a.now _ c.immediate.ensures.immediate in
    (omega (arith, less), tt)

pub same_instruction-returns-then-opcode : goal.same_instruction-returns-then-opcode
same_instruction-returns-then-opcode t c =
    let one = c.immediate.ensures.immediate in
    let other = c.immediate-then-opcode.ensures.immediate in
    let opcodes : opcode_of c.args.a.now ≡ opcode_of c.args.b.now = grind (arith, c.opcode.ensures, c.opcode-2.ensures, c.if-opcode.true) in (
      λ h. opcodes_tell_apart c.args.a.now c.args.b.now opcodes (sym one ∙ c.same_immediate.ensures.0 h ∙ other),
      λ h. c.same_immediate.ensures.1 (one ∙ ap immediate_of h ∙ sym other),
    )
