-- What the answers of a check say of a module. This project's own.
use Rattle.std.specs.Prelude.{◌≡◌, ◌⊎◌, ℕ, List, [], ◌∷◌, Result, Err, None, ⊤}
use Rattle.rw_types.specs.declared.instrs.Instr.{Instr}
use Rattle.rw_types.specs.declared.modules.Module.{Module}
use Rattle.rich_typing.specs.declared.notes.Place.TheVariants.{FuncType, FuncAt}
use Rattle.rich_typing.specs.declared.rules.Rule.{Rule}
use Rattle.rich_typing.specs.declared.rules.Rule.TheVariants.{NotYetBuilt}
use Rattle.rich_typing.specs.Table.{unr_i64}
use Rattle.rich_typing.specs.Violations.{Violation, FirstViolation, BreaksAt}
use Rattle.rw_program.specs.declared.checked.CheckError.{CheckError}
use Rattle.rw_program.specs.declared.checked.CheckError.TheVariants.{Refused, Memory}
use Rattle.rw_program.specs.Modules.{TypedModule}

-- the error that tells a violation
abbrev pub refusal : Violation → CheckError
refusal v = Refused v.place v.broken v.found v.expected

-- the answer to a module of a part of the language that is not checked yet
abbrev pub not_yet_built : CheckError
not_yet_built = Refused (FuncType 0) NotYetBuilt None None

-- an error tells the first violation of a module, or says nothing of it
abbrev pub TellsFirst : CheckError → Module → Type 0
TellsFirst (Refused place broken found expected) m = FirstViolation m (record { place = place; broken = broken; found = found; expected = expected })
TellsFirst Memory m = ⊤

-- an error tells no types
abbrev pub TellsNoTypes : CheckError → Type 0
TellsNoTypes (Refused place broken found expected) = (found ≡ None) × (expected ≡ None)
TellsNoTypes Memory = ⊤

-- an error tells this place of the first function and this rule, without types, or says nothing
abbrev pub TellsPlace : CheckError → ℕ → Rule → Type 0
TellsPlace (Refused place broken found expected) at rule = (place ≡ FuncAt 0 (at ∷ [])) × (broken ≡ rule) × (found ≡ None) × (expected ≡ None)
TellsPlace Memory at rule = ⊤

-- an error tells where the body of the first function, which is to give one number of 64 bits, breaks
-- a rule, without types, or says nothing
abbrev pub TellsBody : CheckError → List Instr → Type 0
TellsBody (Refused place broken found expected) body = (at : ℕ) × (place ≡ FuncAt 0 (at ∷ [])) × (found ≡ None) × (expected ≡ None) × BreaksAt [] (unr_i64 ∷ []) body [] at broken None None
TellsBody Memory body = ⊤

-- this answer, or want of memory
abbrev pub UnlessMemory : Result TypedModule CheckError → Result TypedModule CheckError → Type 0
UnlessMemory answer result = (result ≡ answer) ⊎ (result ≡ Err Memory)
