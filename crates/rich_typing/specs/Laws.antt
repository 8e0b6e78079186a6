-- What holds of derivations and first violations: every module has one or the other, and one of it.
-- This project's own.
use Rattle.std.specs.Prelude.{◌≡◌, ◌⊎◌, List, None}
use Rattle.rw_types.specs.declared.modules.Module.{Module}
use Rattle.rw_types.specs.LoneMain.{IsLoneMain}
use Rattle.rich_typing.specs.declared.notes.Note.{Note}
use Rattle.rich_typing.specs.declared.rules.Rule.TheVariants.{Operands, BlockEnd}
use Rattle.rich_typing.specs.Derivations.{IsTyped}
use Rattle.rich_typing.specs.Violations.{Violation, FirstViolation}

-- every module is well typed or has a first violation
abbrev pub TypedOrRefused : Type 0
TypedOrRefused = (m : Module) → ((notes : List (List Note)) × IsTyped m notes) ⊎ ((v : Violation) × FirstViolation m v)

-- no module is well typed and has a first violation
abbrev pub NeverBoth : Type 0
NeverBoth = (m : Module) (notes : List (List Note)) (v : Violation) → IsTyped m notes → FirstViolation m v → ⊥

-- the notes of a well-typed module are the same in each derivation
abbrev pub OneDerivation : Type 0
OneDerivation = (m : Module) (notes notes' : List (List Note)) → IsTyped m notes → IsTyped m notes' → notes ≡ notes'

-- a module has at most one first violation
abbrev pub OneViolation : Type 0
OneViolation = (m : Module) (v v' : Violation) → FirstViolation m v → FirstViolation m v' → v ≡ v'

-- the body of a module that is built so far lacks operands or has others at its end, and no type is told
abbrev pub LoneViolations : Type 0
LoneViolations = (m : Module) (v : Violation) → IsLoneMain m → FirstViolation m v → ((v.broken ≡ Operands) ⊎ (v.broken ≡ BlockEnd)) × (v.found ≡ None) × (v.expected ≡ None)
