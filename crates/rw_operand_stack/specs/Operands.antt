-- The operands of a list of instructions, the top one first. One that is not unrestricted is held. This project's own.
use Rattle.std.specs.Prelude.{◌≡◌, ℕ, List, [], ◌∷◌, Bool, true, false, ⊤}
use Rattle.rw_types.specs.declared.types.Ty.{Ty}
use Rattle.rich_types.specs.Scopes.{Scope}
use Rattle.rich_rules.specs.Forms.{is_unr_type}
use Rattle.rw_operand_stack.specs.declared.operand.Operand.{Operand}
use Rattle.rw_operand_stack.specs.declared.operand.Operand.TheVariants.{Plain, Linear}

-- the operands, the top one first, and the number of places that are reserved beside them
pub record Operands : Type 0 where
  pub operands : List Operand
  pub spare : ℕ

-- the type of an operand
abbrev pub ty_of : Operand → Ty
ty_of (Plain t) = t
ty_of (Linear h) = h.ty

-- the types of operands
abbrev pub types_of : List Operand → List Ty
types_of [] = []
types_of (o ∷ os) = ty_of o ∷ types_of os

-- the operand of a type that is unrestricted, or is not
abbrev pub operand_where : Bool → Ty → Operand
operand_where true t = Plain t
operand_where false t = Linear (record { ty = t })

-- the operand of a type
abbrev pub operand_of : Scope → Ty → Operand
operand_of c t = operand_where (is_unr_type c t) t

-- each operand is that of its type: it is held exactly where its type is not unrestricted
abbrev pub AreOperands : Scope → List Operand → Type 0
AreOperands c [] = ⊤
AreOperands c (o ∷ os) = (o ≡ operand_of c (ty_of o)) × AreOperands c os
