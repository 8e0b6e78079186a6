-- The labels and the results of a point, as what encloses its list tells them; and the point. This project's own.
use Rattle.std.specs.Prelude.{List, [], ◌∷◌, Option, Some, None, reverse}
use Rattle.rw_types.specs.declared.types.Binder.{Binder}
use Rattle.rw_types.specs.declared.types.Ty.{Ty}
use Rattle.rich_rules.specs.Points.{Label, Point}
use Rattle.rich_rules.specs.Raised.{below_one, raise_all, raise_labels}
use Rattle.rw_operand_stack.specs.declared.operand.Operand.{Operand}
use Rattle.rw_operand_stack.specs.Operands.{types_of}
use Rattle.rw_scopes.specs.declared.enclosing.Enclosing.{Enclosing, Body, Block', Below'}
use Rattle.rw_scopes.specs.declared.targets.Target.{Target}

-- the labels, the innermost first
abbrev pub labels_seen : Enclosing → List Label
labels_seen (Body results) = []
labels_seen (Block' types locals rest a outer) = record { types = reverse types.now; locals = locals.now; rest = types_of (reverse rest.now) } ∷ labels_seen outer
labels_seen (Below' binder a outer) = raise_labels (below_one binder) (labels_seen outer)

-- the results of the function, the top one first
abbrev pub results_seen : Enclosing → List Ty
results_seen (Body results) = reverse results.now
results_seen (Block' types locals rest a outer) = results_seen outer
results_seen (Below' binder a outer) = raise_all (below_one binder) (results_seen outer)

-- the point of a list: these binders, locals and operands, within what encloses it
abbrev pub point_seen : List Binder → Enclosing → List Ty → List Operand → Point
point_seen binders around locals operands = record { binders = binders; locals = locals; labels = labels_seen around; results = results_seen around; operands = types_of operands }

-- what a branch to a label has to meet
abbrev pub target_seen : Option Label → Option Target
target_seen (Some l) = Some (record { types = reverse l.types; locals = l.locals })
target_seen None = None
