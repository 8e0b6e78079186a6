-- The points of a body. This project's own.
use Rattle.std.specs.Prelude.{◌≡◌, ℕ, List, ◌∷◌, Option, Some, slice_get}
use Rattle.rw_types.specs.declared.instrs.Instr.{Instr}
use Rattle.rw_types.specs.declared.types.Ty.{Ty}
use Rattle.rich_rules.specs.Points.{Frame, Point, Entry, Change, Gives, Enters, moved, start, after}
use Rattle.rich_rules.specs.Table.{row, arms_of}

-- q is a point of this list, that begins at p: it is its first; or one after its first instruction; or it stands in a list of
-- that instruction, or after all of them
pub data Stands (f : Frame) : Point → List Instr → Point → Type 0 where
  here : {p : Point} {is : List Instr} {q : Point} → q ≡ p → Stands f p is q
  later : {p : Point} {i : Instr} {is : List Instr} {q : Point} (operands : List Ty) (change : Option Change) → row f p i ≡ Gives operands change → Stands f (moved p operands change) is q → Stands f p (i ∷ is) q
  inside : {p : Point} {i : Instr} {is : List Instr} {q : Point} (e : Entry) (j : ℕ) (arm : List Instr) → row f p i ≡ Enters e → slice_get (arms_of i) j ≡ Some arm → Stands f (start e j) arm q → Stands f p (i ∷ is) q
  beyond : {p : Point} {i : Instr} {is : List Instr} {q : Point} (e : Entry) → row f p i ≡ Enters e → Stands f (after e p) is q → Stands f p (i ∷ is) q
