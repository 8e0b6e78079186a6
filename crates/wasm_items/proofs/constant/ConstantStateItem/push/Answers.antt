use Rattle.std.proofs.Common.{◌∙◌, ap, sym}
use Rattle.wasm_reading.specs.Readers.{◌>>=◌, byte_at}
use Rattle.wasm_reading.specs.ReadInstructions.{plain_at, constant_kind_of}
use Rattle.wasm_items.specs.ConstantStates.{rest_of_constant, end_behind}
use Rattle.wasm_items.proofs.Taking.{takes_as, takes_of, takes_here, takes_byte}
use Rattle.wasm_items.proofs.constant.ConstantStateItem.push.Goals as goal

pub returns-in-Some : goal.returns-in-Some
returns-in-Some c =
    let started = ap (plain_at c.args.at c.args.byte) (sym c.in-Some.ensures) ∙ sym c.start.ensures in
    takes_of (ap rest_of_constant c.in-Opcode.is)
    (takes_as (ap (λ reader. reader >>= end_behind) started)
    (takes_here (λ place. byte_at >>= (λ opcode. plain_at place opcode (constant_kind_of opcode) >>= end_behind))
    (takes_byte c.args.byte c.args.at (λ opcode. plain_at c.args.at opcode (constant_kind_of opcode) >>= end_behind))))
