use Rattle.std.proofs.Common.{append_assoc, arith}
use Rattle.wasm_ast.proofs.Counts.{immediate_count-less}
use Rattle.wasm_grammar.proofs.InstructionLayers.{instruction_bytes-parts}
use Rattle.wasm_encode.proofs.instructions.+instructions.Goals as goal

pub push_instruction-push_immediate-requires : goal.push_instruction-push_immediate-requires
push_instruction-push_immediate-requires t c =
    let less = immediate_count-less c.args.instruction.now _ c.immediate.ensures.immediate in
    (omega (arith, less), c.immediate.ensures.short)

pub push_instruction-returns : goal.push_instruction-returns
push_instruction-returns t c =
    let bytes = instruction_bytes-parts c.args.instruction.now _ _ c.opcode.ensures c.immediate.ensures.immediate in
    grind (arith, append_assoc, bytes)
