-- Laws of typing: bodies in byte order, places, and modules (this project's own).
use Rattle.std.specs.Prelude.{◌≡◌, ◌↔◌, ◌⊎◌, ℕ, List, [], Ok}
use Rattle.wasm_ast.specs.declared.instructions.WInstr.{WInstr}
use Rattle.wasm_ast.specs.declared.modules.WModule.{WModule}
use Rattle.wasm_typing.specs.declared.rule.WRule.{WRule}
use Rattle.wasm_typing.specs.declared.context.Context.{Context}
use Rattle.wasm_typing.specs.Typing.{IsTypedBody}
use Rattle.wasm_typing.specs.Tokens.{Token, code_of}
use Rattle.wasm_typing.specs.Places.{HasDerivation, IsFirstPlace, closed}
use Rattle.wasm_typing.specs.ByteOrder.{Open, Leads, start}
use Rattle.wasm_typing.specs.Violations.{IsFirstViolation}
use Rattle.wasm_typing.specs.Heights.{height_of}
use Rattle.wasm_typing.specs.Points.{IsHeight}
use Rattle.wasm_typing.specs.Modules.{FirstViolation, IsValid, Violation}
use Rattle.wasm_typing_laws.specs.Checking.{Seen, walk, begin}

-- a body is typed exactly where its code, read in byte order, leads to the end
abbrev pub TypedInByteOrder : Type 0
TypedInByteOrder = (C : Context) (body : List WInstr) → IsTypedBody C body ↔ Leads C (code_of body) (start C) []

-- and so is any code
abbrev pub CodeInByteOrder : Type 0
CodeInByteOrder = (C : Context) (ts : List Token) → HasDerivation C ts ↔ Leads C ts (start C) []

-- the checker goes on exactly where the closed code has a derivation
abbrev pub CheckerIsExact : Type 0
CheckerIsExact = (C : Context) (front : List Token) → HasDerivation C (closed front) ↔ ((as' : List (Open Seen)) × (walk C front (begin C) ≡ Ok as'))

-- a body is typed or has a first violation
abbrev pub TypedOrViolated : Type 0
TypedOrViolated = (C : Context) (body : List WInstr) → IsTypedBody C body ⊎ ((at : ℕ) × (rule : WRule) × IsFirstViolation C body at rule)

-- a typed body has no first place
abbrev pub TypedHasNoPlace : Type 0
TypedHasNoPlace = (C : Context) (body : List WInstr) (at : ℕ) → IsTypedBody C body → IsFirstPlace C body at → ⊥

-- no body has two first violations
abbrev pub OneViolationOfABody : Type 0
OneViolationOfABody = (C : Context) (body : List WInstr) (a b : ℕ) (r s : WRule) → IsFirstViolation C body a r → IsFirstViolation C body b s → (a ≡ b) × (r ≡ s)

-- a module is valid or has a first violation
abbrev pub ValidOrViolated : Type 0
ValidOrViolated = (m : WModule) → IsValid m ⊎ ((v : Violation) × FirstViolation m v)

-- no module is both
abbrev pub NeverBoth : Type 0
NeverBoth = (m : WModule) (v : Violation) → IsValid m → FirstViolation m v → ⊥

-- no module has two first violations
abbrev pub OneViolation : Type 0
OneViolation = (m : WModule) (v w : Violation) → FirstViolation m v → FirstViolation m w → v ≡ w

-- the height of a typed body is the greatest number of operands at a point that no unconditional branch precedes in its own list
-- or in a list around it
abbrev pub HeightIsTheGreatest : Type 0
HeightIsTheGreatest = (C : Context) (body : List WInstr) → IsTypedBody C body → IsHeight C body (height_of C body)
