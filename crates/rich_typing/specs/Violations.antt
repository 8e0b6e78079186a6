-- The first violation of a module. This project's own.
use Rattle.std.specs.Prelude.{◌≡◌, ◌≢◌, ℕ, List, [], ◌∷◌, ◌++◌, Option, Some, None, length}
use Rattle.rw_types.specs.declared.instrs.Instr.{Instr}
use Rattle.rw_types.specs.declared.modules.FuncDef.{FuncDef}
use Rattle.rw_types.specs.declared.modules.Module.{Module}
use Rattle.rw_types.specs.declared.types.Binder.{Binder}
use Rattle.rw_types.specs.declared.types.Ty.{Ty}
use Rattle.rw_types.specs.LoneMain.{IsLoneMain}
use Rattle.rich_typing.specs.declared.notes.Note.{Note}
use Rattle.rich_typing.specs.declared.notes.Place.{Place}
use Rattle.rich_typing.specs.declared.notes.Place.TheVariants.{FuncType, FuncAt}
use Rattle.rich_typing.specs.declared.rules.Rule.{Rule}
use Rattle.rich_typing.specs.declared.rules.Rule.TheVariants.{BlockEnd, NotYetBuilt}
use Rattle.rich_typing.specs.Table.{Breaks, row}
use Rattle.rich_typing.specs.Derivations.{Derives, demanded}

-- a broken rule: its place, the type that breaks it and the type that is demanded, where there are such
pub record Violation : Type 0 where
  pub place : Place
  pub broken : Rule
  pub found : Option Ty
  pub expected : Option Ty

-- two rows of types, the top ones first, differ, and the deepest that differ are these
pub data DiffersIn : List Ty → List Ty → Option Ty → Option Ty → Type 0 where
  here : {t u : Ty} {ts us : List Ty} {found expected : Option Ty} → ts ≡ us → t ≢ u → found ≡ Some t → expected ≡ Some u → DiffersIn (t ∷ ts) (u ∷ us) found expected
  deeper : {t u : Ty} {ts us : List Ty} {found expected : Option Ty} → DiffersIn ts us found expected → DiffersIn (t ∷ ts) (u ∷ us) found expected

-- operands that are not those demanded: more or fewer, with no type; or as many, with the deepest that
-- differs and the type that is demanded in its place
pub data Differs (operands demands : List Ty) (found expected : Option Ty) : Type 0 where
  in_count : length operands ≢ length demands → found ≡ None → expected ≡ None → Differs operands demands found expected
  in_type : DiffersIn operands demands found expected → Differs operands demands found expected

-- with these operands the rest of a list breaks a rule at its start: its first instruction does, or,
-- at the list's end, the operands are not those demanded
pub data BreaksHere (binders : List Binder) (demands : List Ty) : List Instr → List Ty → Rule → Option Ty → Option Ty → Type 0 where
  at_instr : {i : Instr} {is : List Instr} {operands : List Ty} {broken : Rule} {found expected : Option Ty} → row binders i operands ≡ Breaks broken found expected → BreaksHere binders demands (i ∷ is) operands broken found expected
  at_end : {operands : List Ty} {broken : Rule} {found expected : Option Ty} → broken ≡ BlockEnd → Differs operands demands found expected → BreaksHere binders demands [] operands broken found expected

-- from these operands the instructions before this place of a list have a derivation, and at the place
-- a rule is broken
pub record BreaksAt (binders : List Binder) (demands : List Ty) (body : List Instr) (operands : List Ty) (at : ℕ) (broken : Rule) (found expected : Option Ty) : Type 0 where
  pub before : List Instr
  pub rest : List Instr
  pub whole : body ≡ before ++ rest
  pub place : at ≡ length before
  pub notes : List Note
  pub reached : List Ty
  pub derived : Derives binders before operands notes reached
  pub breaks : BreaksHere binders demands rest reached broken found expected

-- the first violation of a function's body
abbrev pub BreaksBody : FuncDef → ℕ → Rule → Option Ty → Option Ty → Type 0
BreaksBody f at broken found expected = BreaksAt f.ty.binders (demanded f) f.body [] at broken found expected

-- the first violation of a module: in the body of its one function; or it is of a part of the language
-- that is not checked yet
pub data FirstViolation (m : Module) (v : Violation) : Type 0 where
  in_body : (f : FuncDef) (at : ℕ) → IsLoneMain m → m.funcs ≡ f ∷ [] → v.place ≡ FuncAt 0 (at ∷ []) → BreaksBody f at v.broken v.found v.expected → FirstViolation m v
  not_built : (IsLoneMain m → ⊥) → v.place ≡ FuncType 0 → v.broken ≡ NotYetBuilt → v.found ≡ None → v.expected ≡ None → FirstViolation m v
