use Rattle.wasm_reading_bodies.proofs.ExactPlain.{plain_behind_opcode, constant}
use Rattle.wasm_reading_bodies.proofs.Spelled.{short_expressions_fit, constants_nest_none}
use Rattle.wasm_reading_bodies.proofs.ExactBodies.{instructions, expression}
use Rattle.wasm_reading_bodies.proofs.laws.instructions_are_read_exactly.Goals as goal

pub returns-clause-plain : goal.returns-clause-plain
returns-clause-plain c = plain_behind_opcode

pub returns-clause-list : goal.returns-clause-list
returns-clause-list c = instructions

pub returns-clause-expression : goal.returns-clause-expression
returns-clause-expression c = expression

pub returns-clause-short : goal.returns-clause-short
returns-clause-short c = short_expressions_fit

pub returns-clause-constant : goal.returns-clause-constant
returns-clause-constant c = constant

pub returns-clause-constant_nesting : goal.returns-clause-constant_nesting
returns-clause-constant_nesting c = constants_nest_none
