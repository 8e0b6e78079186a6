use Rattle.std.proofs.Common.{arith}
use Rattle.std.proofs.lemmas.Bool.Decides.{nat_tests}
use Rattle.wasm_items.proofs.OpcodeKinds.{by_ranges}
use Rattle.wasm_items.proofs.kinds.kind_of.Goals as goal

pub returns-in-63 : goal.returns-in-63
returns-in-63 c = by_ranges c.args.opcode _ (omega arith) (grind (arith, nat_tests))

pub returns-in-40 : goal.returns-in-40
returns-in-40 c = by_ranges c.args.opcode _ (omega arith) (grind (arith, nat_tests))

pub returns-in-40-2 : goal.returns-in-40-2
returns-in-40-2 c = by_ranges c.args.opcode _ (omega arith) (grind (arith, nat_tests))

pub returns-in-40-3 : goal.returns-in-40-3
returns-in-40-3 c = by_ranges c.args.opcode _ (omega arith) (grind (arith, nat_tests))

pub returns-in_default : goal.returns-in_default
returns-in_default c = by_ranges c.args.opcode _ (omega arith) (grind (arith, nat_tests))

pub returns-in_default-2 : goal.returns-in_default-2
returns-in_default-2 c = by_ranges c.args.opcode _ (omega arith) (grind (arith, nat_tests))

pub returns-in_default-3 : goal.returns-in_default-3
returns-in_default-3 c = by_ranges c.args.opcode _ (omega arith) (grind (arith, nat_tests))

pub returns-in_default-4 : goal.returns-in_default-4
returns-in_default-4 c = by_ranges c.args.opcode _ (omega arith) (grind (arith, nat_tests))

pub returns-in_default-5 : goal.returns-in_default-5
returns-in_default-5 c = by_ranges c.args.opcode _ (omega arith) (grind (arith, nat_tests))

pub returns-in_default-6 : goal.returns-in_default-6
returns-in_default-6 c = by_ranges c.args.opcode _ (omega arith) (grind (arith, nat_tests))

pub returns-in_default-7 : goal.returns-in_default-7
returns-in_default-7 c = by_ranges c.args.opcode _ (omega arith) (grind (arith, nat_tests))

pub returns-in_default-8 : goal.returns-in_default-8
returns-in_default-8 c = by_ranges c.args.opcode _ (omega arith) (grind (arith, nat_tests))

pub returns-in_default-9 : goal.returns-in_default-9
returns-in_default-9 c = by_ranges c.args.opcode _ (omega arith) (grind (arith, nat_tests))

pub returns-in_default-10 : goal.returns-in_default-10
returns-in_default-10 c = by_ranges c.args.opcode _ (omega arith) (grind (arith, nat_tests))

pub returns-in-12-2 : goal.returns-in-12-2
returns-in-12-2 c = by_ranges c.args.opcode _ (omega arith) (grind (arith, nat_tests))

pub returns-in-12-3 : goal.returns-in-12-3
returns-in-12-3 c = by_ranges c.args.opcode _ (omega arith) (grind (arith, nat_tests))

pub returns-in-0-5 : goal.returns-in-0-5
returns-in-0-5 c = by_ranges c.args.opcode _ (omega arith) (grind (arith, nat_tests))

pub returns-in-0-6 : goal.returns-in-0-6
returns-in-0-6 c = by_ranges c.args.opcode _ (omega arith) (grind (arith, nat_tests))
