-- No row of the table drops or copies an operand that is not `unr`. This project's own.
use Rattle.std.specs.Prelude.{◌≡◌, ℕ, List, Some, slice_get}
use Rattle.rw_types.specs.declared.instrs.Instr.{Instr}
use Rattle.rw_types.specs.declared.modules.Module.{Module}
use Rattle.rich_typing.specs.declared.notes.Note.{Note}
use Rattle.rich_typing.specs.declared.notes.Place.{Place}
use Rattle.rich_rules.specs.Points.{Demand, Frame, Point}
use Rattle.rich_rules.specs.Table.{row}
use Rattle.rich_rules.specs.Modules.{Body, IsWellTyped, global_types, parts_of}
use Rattle.rich_rules_formed.specs.Formed.{IsFormedPoint}
use Rattle.rich_rules_formed.specs.Standing.{Stands}
use Rattle.rich_linear_laws.specs.Exchanges.{AreGlobalsUnrestricted, GivesByExchange}

-- an instruction that gives operands exchanges those on top in one of the ways that are named
abbrev pub RowsExchange : Type 0
RowsExchange = (f : Frame) (p : Point) (i : Instr) → AreGlobalsUnrestricted f.globals → IsFormedPoint p → GivesByExchange f p (row f p i)

-- the globals of a well-typed module are `unr`
abbrev pub ModuleGlobals : Type 0
ModuleGlobals = (m : Module) (notes : List (List Note)) → IsWellTyped m notes → AreGlobalsUnrestricted (global_types m)

-- so each row does so at each point of each body of such a module
abbrev pub BodiesExchange : Type 0
BodiesExchange = (m : Module) (notes : List (List Note)) (n : ℕ) (place : List ℕ → Place) (f : Frame) (d : Demand) (p : Point) (is : List Instr) (q : Point) (i : Instr) → IsWellTyped m notes → slice_get (parts_of m) n ≡ Some (Body place f d p is) → Stands f p is q → GivesByExchange f q (row f q i)
