-- What the tables have at an instruction's opcode and immediates is the instruction itself; what is nested
-- counts less, so the recursion ends.
use Rattle.std.proofs.Common.{◌∙◌, ap, arith}
use Rattle.wasm_ast.specs.Immediates.{Immediate}
use Rattle.wasm_ast.proofs.Counts.{immediate_count-less}
use Rattle.wasm_copy.proofs.Rebuilt.{is_found, is_itself}
use Rattle.wasm_copy.proofs.instruction_copies.+copies.Goals as goal

pub copy_instruction-unwrap-requires : goal.copy_instruction-unwrap-requires
copy_instruction-unwrap-requires t c =
    is_found c.args.instruction.now _ (record {
      opcode = _;
      immediate = _;
      same_opcode = c.opcode-opcode.ensures;
      same_immediate = c.in-Bare.ensures.immediate;
      is = c.bare_instruction.ensures;
    })

pub copy_instruction-returns-in-Bare : goal.copy_instruction-returns-in-Bare
copy_instruction-returns-in-Bare t c =
    is_itself c.args.instruction.now _ _ (record {
      opcode = _;
      immediate = _;
      same_opcode = c.opcode-opcode.ensures;
      same_immediate = c.in-Bare.ensures.immediate;
      is = c.bare_instruction.ensures;
    }) c.unwrap.ensures

pub copy_instruction-returns-in-Index : goal.copy_instruction-returns-in-Index
copy_instruction-returns-in-Index t c =
    is_itself c.args.instruction.now _ _ (record {
      opcode = _;
      immediate = _;
      same_opcode = c.opcode-opcode.ensures;
      same_immediate = c.in-Index.ensures.immediate;
      is = c.index_instruction.ensures;
    }) c.unwrap-in-Index.ensures

pub copy_instruction-returns-in-MemArg : goal.copy_instruction-returns-in-MemArg
copy_instruction-returns-in-MemArg t c =
    is_itself c.args.instruction.now _ _ (record {
      opcode = _;
      immediate = _;
      same_opcode = c.opcode-opcode.ensures;
      same_immediate = c.in-MemArg.ensures.immediate;
      is = c.memory_instruction.ensures;
    }) c.unwrap-in-MemArg.ensures

pub copy_instruction-copy_instructions-requires : goal.copy_instruction-copy_instructions-requires
copy_instruction-copy_instructions-requires t c =
    let less = immediate_count-less c.args.instruction.now _ c.in-Body.ensures.immediate in
    (omega (arith, less), tt)

pub copy_instruction-returns-in_ok-body-in-Body : goal.copy_instruction-returns-in_ok-body-in-Body
copy_instruction-returns-in_ok-body-in-Body t c =
    is_itself c.args.instruction.now _ _ (record {
      opcode = _;
      immediate = _;
      same_opcode = c.opcode-opcode.ensures;
      same_immediate = ap (Immediate.Body c.in-Body.ty) c.in_ok-body-in-Body.ensures ∙ c.in-Body.ensures.immediate;
      is = c.body_instruction.ensures;
    }) c.unwrap-in-Body.ensures

pub copy_instruction-copy_instructions-requires-in-Bodies :
    goal.copy_instruction-copy_instructions-requires-in-Bodies
copy_instruction-copy_instructions-requires-in-Bodies t c =
    let less = immediate_count-less c.args.instruction.now _ c.in-Bodies.ensures.immediate in
    (omega (arith, less), tt)

pub copy_instruction-copy_instructions-requires-in-Bodies-2 :
    goal.copy_instruction-copy_instructions-requires-in-Bodies-2
copy_instruction-copy_instructions-requires-in-Bodies-2 t c =
    let less = immediate_count-less c.args.instruction.now _ c.in-Bodies.ensures.immediate in
    (omega (arith, less), tt)
