-- Derivations of bodies, and well-typed modules with the notes of their bodies. This project's own.
use Rattle.std.specs.Prelude.{◌≡◌, List, [], ◌∷◌, reverse, ⊤}
use Rattle.rw_types.specs.declared.instrs.Instr.{Instr}
use Rattle.rw_types.specs.declared.modules.FuncDef.{FuncDef}
use Rattle.rw_types.specs.declared.modules.Module.{Module}
use Rattle.rw_types.specs.declared.types.Binder.{Binder}
use Rattle.rw_types.specs.declared.types.Ty.{Ty}
use Rattle.rw_types.specs.LoneMain.{IsLoneMain}
use Rattle.rich_typing.specs.declared.notes.Note.{Note}
use Rattle.rich_typing.specs.Table.{Gives, row, note_of}

-- under these binders the instructions link the operands before them, the top one first, to those
-- after them, with a note for each instruction
pub data Derives (binders : List Binder) : List Instr → List Ty → List Note → List Ty → Type 0 where
  done : {operands end : List Ty} {notes : List Note} → notes ≡ [] → end ≡ operands → Derives binders [] operands notes end
  next : {i : Instr} {is : List Instr} {operands end : List Ty} {notes : List Note} (after : List Ty) (later : List Note) → row binders i operands ≡ Gives after → notes ≡ note_of binders i operands ∷ later → Derives binders is after later end → Derives binders (i ∷ is) operands notes end

-- the operands that the end of a function demands, the top one first
abbrev pub demanded : FuncDef → List Ty
demanded f = reverse f.ty.results

-- the body of a function links no operands to its results
abbrev pub HasDerivation : FuncDef → List Note → Type 0
HasDerivation f notes = Derives f.ty.binders f.body [] notes (demanded f)

-- each function has a derivation with these notes
abbrev pub HaveDerivations : List FuncDef → List (List Note) → Type 0
HaveDerivations [] [] = ⊤
HaveDerivations (f ∷ fs) (notes ∷ rest) = HasDerivation f notes × HaveDerivations fs rest
HaveDerivations _ _ = ⊥

-- a well-typed module, of the part of the language that is checked so far, with the notes of its
-- bodies
pub record IsTyped (m : Module) (notes : List (List Note)) : Type 0 where
  pub lone : IsLoneMain m
  pub bodies : HaveDerivations m.funcs notes
