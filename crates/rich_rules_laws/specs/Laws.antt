-- What holds of derivations and first violations, of lists of instructions and of modules: there is one or the other, and one
-- of it. This project's own.
use Rattle.std.specs.Prelude.{◌≡◌, ◌⊎◌, ℕ, List, Option}
use Rattle.rw_types.specs.declared.instrs.Instr.{Instr}
use Rattle.rw_types.specs.declared.modules.Module.{Module}
use Rattle.rw_types.specs.declared.types.Ty.{Ty}
use Rattle.rich_typing.specs.declared.notes.Note.{Note}
use Rattle.rich_typing.specs.declared.notes.Place.{Place}
use Rattle.rich_typing.specs.declared.rules.Rule.{Rule}
use Rattle.rich_rules.specs.Points.{Frame, Point, Broken, Demand}
use Rattle.rich_rules.specs.Derivations.{Derives}
use Rattle.rich_rules.specs.Violations.{Violates}
use Rattle.rich_rules.specs.Modules.{IsWellTyped, IsFirstViolation}

-- from every point each list has a derivation or a first violation
abbrev pub ListDecided : Type 0
ListDecided = (f : Frame) (d : Demand) (p : Point) (at : ℕ) (is : List Instr) → ((notes : List Note) × Derives f d p is notes) ⊎ ((path : List ℕ) × (b : Broken) × Violates f d p at is path b)

-- and never both
abbrev pub ListNeverBoth : Type 0
ListNeverBoth = (f : Frame) (d : Demand) (p : Point) (at : ℕ) (is : List Instr) (notes : List Note) (path : List ℕ) (b : Broken) → Derives f d p is notes → Violates f d p at is path b → ⊥

-- its derivations have the same notes
abbrev pub ListNotes : Type 0
ListNotes = (f : Frame) (d : Demand) (p : Point) (is : List Instr) (notes others : List Note) → Derives f d p is notes → Derives f d p is others → notes ≡ others

-- it has at most one first violation
abbrev pub ListOneViolation : Type 0
ListOneViolation = (f : Frame) (d : Demand) (p : Point) (at : ℕ) (is : List Instr) (path others : List ℕ) (b c : Broken) → Violates f d p at is path b → Violates f d p at is others c → (path ≡ others) × (b ≡ c)

-- every module is well typed or has a first violation
abbrev pub ModuleDecided : Type 0
ModuleDecided = (m : Module) → ((notes : List (List Note)) × IsWellTyped m notes) ⊎ ((place : Place) × (broken : Rule) × (found : Option Ty) × (expected : Option Ty) × IsFirstViolation m place broken found expected)

-- and never both
abbrev pub ModuleNeverBoth : Type 0
ModuleNeverBoth = (m : Module) (notes : List (List Note)) (place : Place) (broken : Rule) (found expected : Option Ty) → IsWellTyped m notes → IsFirstViolation m place broken found expected → ⊥

-- the notes of a well-typed module are the same in each derivation
abbrev pub ModuleNotes : Type 0
ModuleNotes = (m : Module) (notes others : List (List Note)) → IsWellTyped m notes → IsWellTyped m others → notes ≡ others

-- a module has at most one first violation
abbrev pub ModuleOneViolation : Type 0
ModuleOneViolation = (m : Module) (place other : Place) (broken breaks : Rule) (found expected finds expects : Option Ty) →
    IsFirstViolation m place broken found expected → IsFirstViolation m other breaks finds expects → (place ≡ other) × (broken ≡ breaks) × (found ≡ finds) × (expected ≡ expects)
