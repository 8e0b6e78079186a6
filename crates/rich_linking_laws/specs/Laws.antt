-- What linking keeps: a body has the derivation that it had in its file, with the same notes. This project's own.
use Rattle.std.specs.Prelude.{◌≡◌, ◌<◌, ℕ, List, Ok, Some, ⊤, slice_get}
use Rattle.rw_types.specs.declared.instrs.Instr.{Instr}
use Rattle.rw_types.specs.declared.types.FunType.{FunType}
use Rattle.rich_typing.specs.declared.notes.Note.{Note}
use Rattle.rich_rules.specs.Points.{Demand, Frame, GlobalType, OfFunction, OfGlobal, Owner, Point}
use Rattle.rich_rules.specs.Derivations.{Derives}
use Rattle.rw_program.specs.Programs.{Program}
use Rattle.rich_linking.specs.Numbers.{NewNumbers, new_number, renumbered_list}
use Rattle.rich_linking.specs.Linked.{File, linked}
use Rattle.rich_linking.specs.TypedPrograms.{AreWellTyped, IsTypedProgram}

-- both bodies are those of functions; or of globals, and what stands before the one stands before the other
abbrev pub OwnersAgree : NewNumbers → Owner → Owner → Type 0
OwnersAgree k OfFunction OfFunction = ⊤
OwnersAgree k (OfGlobal own) (OfGlobal other) = (n : ℕ) → n < own → new_number k.globals n < other
OwnersAgree k _ _ = ⊥

-- what functions and globals are in one frame, those with their new numbers are in the other
pub record FramesAgree (k : NewNumbers) (f g : Frame) : Type 0 where
  pub functions : (n : ℕ) (t : FunType) → slice_get f.functions n ≡ Some t → slice_get g.functions (new_number k.functions n) ≡ Some t
  pub globals : (n : ℕ) (t : GlobalType) → slice_get f.globals n ≡ Some t → slice_get g.globals (new_number k.globals n) ≡ Some t
  pub slots : f.slots ≡ g.slots
  pub owners : OwnersAgree k f.owner g.owner

-- a derivation of a list is one of that list with new numbers, with the same notes
abbrev pub DerivationsKept : Type 0
DerivationsKept = (k : NewNumbers) (f g : Frame) (d : Demand) (p : Point) (is : List Instr) (notes : List Note) → FramesAgree k f g → Derives f d p is notes → Derives g d p (renumbered_list k is) notes

-- the program that well-typed files link to is typed
abbrev pub LinkedTyped : Type 0
LinkedTyped = (files : List File) (p : Program) → AreWellTyped files → linked files ≡ Ok p → IsTypedProgram p
