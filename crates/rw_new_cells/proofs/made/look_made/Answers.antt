-- The operand is of the type that is demanded, or of another.
use Rattle.std.proofs.Common.{◌∙◌, sym}
use Rattle.rich_types.specs.Scopes.{scope_of}
use Rattle.rw_new_cells.proofs.Demanded.{other_type, this_type}
use Rattle.rw_new_cells.proofs.made.look_made.Goals as goal

pub returns-then-not-is_same : goal.returns-then-not-is_same
returns-then-not-is_same c = λ beneath. other_type (scope_of c.args.c.now.binders) c.args.made c.args.top.now beneath c.broken_for.result (sym c.is_same.ensures ∙ c.if-not-is_same.true) c.broken_for.ensures

pub returns : goal.returns
returns c = λ beneath. this_type (scope_of c.args.c.now.binders) c.args.made c.args.top.now beneath c.formed.result (sym c.is_same.ensures ∙ c.if-not-is_same.false) (c.formed.ensures beneath)
