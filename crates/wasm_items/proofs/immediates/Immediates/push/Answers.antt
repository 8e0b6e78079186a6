use Rattle.std.proofs.Common.{ap}
use Rattle.wasm_ast.specs.Immediates as ast
use Rattle.wasm_ast.specs.ByOpcode.{instruction_at}
use Rattle.wasm_reading.specs.Readers.{give}
use Rattle.wasm_reading.specs.ReadValues.{only}
use Rattle.wasm_reading.specs.ReadInstructions.{made}
use Rattle.wasm_items.specs.ImmediateStates.{rest_of_immediates, rest_of_immediate, behind_number, made_with}
use Rattle.wasm_items.proofs.ImmediateSteps.{made_found}
use Rattle.wasm_items.proofs.Taking.{takes_as, takes_of, takes_then, takes_tag_ok, pushes_answered}
use Rattle.wasm_items.proofs.immediates.Immediates.push.Goals as goal

pub returns-in-Done : goal.returns-in-Done
returns-in-Done c =
    let s = c.args.self in
    pushes_answered rest_of_immediates _ c.number_read.ensures
    (takes_of (ap (λ next. made_with s.place s.opcode (rest_of_immediate next)) c.in-Number.is)
    (takes_then (λ immediate. made s.place (instruction_at s.opcode immediate)) (takes_then (behind_number c.in-Number.what) (rw c.in-Done.is at c.in_ok-number-in-Number.ensures))))

pub returns-in-Done-3 : goal.returns-in-Done-3
returns-in-Done-3 c =
    let s = c.args.self in
    pushes_answered rest_of_immediates _ c.made.ensures
    (takes_as (made_found s.place (instruction_at s.opcode (ast.Const64 c.in-Done-3.n)) c.const64_instruction.ensures)
    (takes_of (ap (λ next. made_with s.place s.opcode (rest_of_immediate next)) c.in-Const64.is)
    (takes_then (λ immediate. made s.place (instruction_at s.opcode immediate)) (takes_then (λ n. give (ast.Const64 n)) (rw c.in-Done-3.is at c.in_ok-number-in-Const64.ensures.pushes)))))

pub returns-in-Zero : goal.returns-in-Zero
returns-in-Zero c =
    let s = c.args.self in
    pushes_answered rest_of_immediates _ c.made-in-Zero.ensures
    (takes_as (made_found s.place (instruction_at s.opcode ast.Zero) c.zero_instruction.ensures)
    (takes_of (ap (λ next. made_with s.place s.opcode (rest_of_immediate next)) c.in-Zero.is)
    (takes_then (λ immediate. made s.place (instruction_at s.opcode immediate)) (takes_then (λ _. give ast.Zero) (takes_tag_ok c.args.byte c.args.at (only 0x00) c.in_ok-only-in-Zero.ensures)))))
