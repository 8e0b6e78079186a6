-- The row looks at the top operands, and what it gives stands in their place.
use Rattle.std.proofs.Common.{◌≤◌, suc, ap, length, arith}
use Rattle.rich_types.specs.Scopes.{scope_of}
use Rattle.rw_operand_stack.specs.Operands.{Operands, types_of}
use Rattle.rw_struct_cells.proofs.Fronts.{struct_short, struct_refused, struct_made, marked_made}
use Rattle.rw_struct_cells.proofs.rows.take_struct_malloc.Goals as goal

pub returns-in_default-clause-row : goal.returns-in_default-clause-row
returns-in_default-clause-row c =
    let few : suc (length c.args.s.now.operands) ≤ length c.args.sizes.now = omega (arith, c.in_default.ensures.none) in
    struct_short (scope_of c.args.c.now.binders) c.args.memory c.args.sizes.now c.args.s.now.operands c.bare.result few c.bare.ensures

pub returns-in-Err-clause-row : goal.returns-in-Err-clause-row
returns-in-Err-clause-row c =
    struct_refused (scope_of c.args.c.now.binders) c.args.memory c.args.sizes.now c.args.s.now.operands (types_of c.in-Some.fields.now) c.in-Some.ensures.enough c.in-Some.ensures.types c.in-Err.error c.in-Err.ensures

pub returns-in_ok-replace-in-Ok-clause-row : goal.returns-in_ok-replace-in-Ok-clause-row
returns-in_ok-replace-in-Ok-clause-row c =
    struct_made (scope_of c.args.c.now.binders) c.args.memory c.args.sizes.now c.args.s.now.operands (types_of c.in-Some.fields.now) c.in-Some.ensures.enough c.in-Some.ensures.types c.in-Ok.cell c.replace.new.s.operands c.in-Ok.ensures (ap (λ (x : Operands). x.operands) c.in_ok-replace-in-Ok.ensures.ok)

pub returns-in_ok-replace-in-Ok-clause-marked : goal.returns-in_ok-replace-in-Ok-clause-marked
returns-in_ok-replace-in-Ok-clause-marked c =
    marked_made (scope_of c.args.c.now.binders) (length c.args.sizes.now) c.in-Ok.cell c.args.s.now.operands c.replace.new.s.operands (ap (λ (x : Operands). x.operands) c.in_ok-replace-in-Ok.ensures.ok)
