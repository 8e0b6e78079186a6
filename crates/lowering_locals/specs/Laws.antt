-- At each point of a body the locals fit their slots. This project's own.
use Rattle.std.specs.Prelude.{◌≡◌, List, None}
use Rattle.rw_types.specs.declared.instrs.Instr.{Instr}
use Rattle.rw_types.specs.declared.modules.FuncDef.{FuncDef}
use Rattle.rich_rules.specs.Points.{Frame, Point}
use Rattle.rich_rules.specs.Table.{row}
use Rattle.rich_rules.specs.Modules.{function_start, function_type_broken, slots_of_locals}
use Rattle.rich_rules_formed.specs.Formed.{IsFormedPoint}
use Rattle.rich_rules_formed.specs.Standing.{Stands}
use Rattle.lowering_locals.specs.Fitting.{LocalsFit, OutcomeFits}

-- each row keeps this
abbrev pub RowsFit : Type 0
RowsFit = (f : Frame) (p : Point) (i : Instr) → IsFormedPoint p → LocalsFit f.slots p → OutcomeFits f.slots p (row f p i)

-- so it holds at each point of a list that begins so
abbrev pub PointsFit : Type 0
PointsFit = (f : Frame) (p : Point) (is : List Instr) (q : Point) → IsFormedPoint p → LocalsFit f.slots p → Stands f p is q → LocalsFit f.slots q

-- and at each of a function's body
abbrev pub FunctionsFit : Type 0
FunctionsFit = (f : Frame) (g : FuncDef) (q : Point) → function_type_broken g.ty ≡ None → f.slots ≡ slots_of_locals g → Stands f (function_start g) g.body q → LocalsFit f.slots q
