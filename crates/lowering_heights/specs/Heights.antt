-- How many words stand in a frame's operands at a point of a body. This project's own.
use Rattle.std.specs.Prelude.{ℕ, ◌+◌, List, if◌then◌else◌}
use Rattle.rw_types.specs.declared.instrs.Instr.{Instr}
use Rattle.rich_types.specs.Scopes.{scope_of}
use Rattle.rich_types.specs.Sizes.{list_size}
use Rattle.rich_rules.specs.Points.{Demand, Point}
use Rattle.rich_rules.specs.Table.{rest_size}
use Rattle.layout.specs.Bodies.{is_ended}

-- those of the operands of the current list, and of what lies beneath each open list
abbrev pub height_at : Point → ℕ
height_at p = list_size (scope_of p.binders) p.operands + rest_size (scope_of p.binders) p.labels

-- those at the end of a list: none where it was ended
abbrev pub end_height : List Instr → Demand → Point → ℕ
end_height is d p = if is_ended is then 0 else list_size (scope_of p.binders) d.types + rest_size (scope_of p.binders) p.labels
