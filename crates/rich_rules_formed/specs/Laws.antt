-- Each type that stands at a point of a body is well formed under the binders there. This project's own.
use Rattle.std.specs.Prelude.{◌≡◌, ℕ, List, Some, None, slice_get}
use Rattle.rw_types.specs.declared.instrs.Instr.{Instr}
use Rattle.rw_types.specs.declared.modules.FuncDef.{FuncDef}
use Rattle.rw_types.specs.declared.modules.Module.{Module}
use Rattle.rich_typing.specs.declared.notes.Note.{Note}
use Rattle.rich_typing.specs.declared.notes.Place.{Place}
use Rattle.rich_rules.specs.Points.{Frame, Point, Demand}
use Rattle.rich_rules.specs.Table.{row, note_of}
use Rattle.rich_rules.specs.Derivations.{Derives}
use Rattle.rich_rules.specs.Modules.{Body, IsWellTyped, parts_of, function_start, function_type_broken, initialiser_start}
use Rattle.rich_rules_formed.specs.Formed.{IsFormedPoint, IsFormedOutcome, IsFormedNote}
use Rattle.rich_rules_formed.specs.Standing.{Stands}

-- what an instruction makes of a point whose types are well formed has well-formed types
abbrev pub RowsKeepForms : Type 0
RowsKeepForms = (f : Frame) (p : Point) (i : Instr) → IsFormedPoint p → IsFormedOutcome p (row f p i)

-- the types at the start of a function's body are well formed, where the function's type breaks no rule; and those at the
-- start of an initialiser
pub record StartsFormed : Type 0 where
  pub function : (f : FuncDef) → function_type_broken f.ty ≡ None → IsFormedPoint (function_start f)
  pub initialiser : IsFormedPoint initialiser_start

-- each point of a list that begins at a point whose types are well formed has such types
abbrev pub PointsFormed : Type 0
PointsFormed = (f : Frame) (p : Point) (is : List Instr) (q : Point) → IsFormedPoint p → Stands f p is q → IsFormedPoint q

-- and so has each point of each body of a well-typed module
abbrev pub BodiesFormed : Type 0
BodiesFormed = (m : Module) (notes : List (List Note)) (n : ℕ) (place : List ℕ → Place) (f : Frame) (d : Demand) (p : Point) (is : List Instr) (q : Point) → IsWellTyped m notes → slice_get (parts_of m) n ≡ Some (Body place f d p is) → Stands f p is q → IsFormedPoint q

-- each note of a derivation is that of a point that stands in the list
abbrev pub NotesStand : Type 0
NotesStand = (f : Frame) (d : Demand) (p : Point) (is : List Instr) (notes : List Note) (n : ℕ) (note : Note) → Derives f d p is notes → slice_get notes n ≡ Some note → (q : Point) × (i : Instr) × Stands f p is q × (note ≡ note_of f q i)

-- so the types in each note of a derivation are well formed, where those of its first point are
abbrev pub NotesFormed : Type 0
NotesFormed = (f : Frame) (d : Demand) (p : Point) (is : List Instr) (notes : List Note) (n : ℕ) (note : Note) → IsFormedPoint p → Derives f d p is notes → slice_get notes n ≡ Some note → IsFormedNote note
