-- The last ones of the slice are the top ones of the stack.
use Rattle.std.proofs.Common.{◌-◌, length}
use Rattle.std.proofs.lemmas.List.{take_rest}
use Rattle.rw_struct_cells.proofs.Fronts.{top_types}
use Rattle.rw_struct_cells.proofs.fields.top_fields.Goals as goal

pub returns-clause-types : goal.returns-clause-types
returns-clause-types c =
    let all = c.as_slice-operands.result.now in
    top_types all c.args.s.now.operands _ c.args.count c.as_slice-operands.ensures c.if-operands-count.false (take_rest all (length all - c.args.count))
