-- Points of a body, and what an instruction makes of one. Operands and the types of labels stand in lists whose
-- first is the top one. This project's own.
use Rattle.std.specs.Prelude.{ℕ, zero, suc, List, [], ◌∷◌, ◌++◌, Bool, Option, Some, None, slice_set}
use Rattle.rw_types.specs.declared.types.Binder.{Binder}
use Rattle.rw_types.specs.declared.types.FunType.{FunType}
use Rattle.rw_types.specs.declared.types.Ty.{Ty}
use Rattle.rich_typing.specs.declared.rules.Rule.{Rule}

-- what a global is to bodies: whether it can be set, and its type
pub record GlobalType : Type 0 where
  pub mutable : Bool
  pub ty : Ty

-- whose body it is: that of a function, or the one that gives the global of this number its first value
pub data Owner : Type 0 where
  OfFunction : Owner
  OfGlobal : ℕ → Owner

-- what does not change in a body: the types of the functions and of the globals of the module, the words of the
-- slots of the locals, and whose body it is
pub record Frame : Type 0 where
  pub functions : List FunType
  pub globals : List GlobalType
  pub slots : List ℕ
  pub owner : Owner

-- a label: the operands that a branch to it carries, the locals there, and the operands that lie beneath its
-- block in the enclosing list
pub record Label : Type 0 where
  pub types : List Ty
  pub locals : List Ty
  pub rest : List Ty

-- a point: the binders, the outermost first; the types of the locals; the labels, the innermost first; the results
-- of the function; and the operands of the current list
pub record Point : Type 0 where
  pub binders : List Binder
  pub locals : List Ty
  pub labels : List Label
  pub results : List Ty
  pub operands : List Ty

-- a broken rule: the type that breaks it and the type that is demanded, where there are such
pub data Broken : Type 0 where
  Broke : (broken : Rule) → (found expected : Option Ty) → Broken

-- what the end of a list demands of the locals: these types, or that each is `unr`
pub data LocalsDemand : Type 0 where
  Exactly : List Ty → LocalsDemand
  AllUnr : LocalsDemand

-- what the end of a list demands
pub record Demand : Type 0 where
  pub types : List Ty
  pub locals : LocalsDemand

-- lists that are entered: the operands and the locals after all of them; the point at the start of each, but for what
-- is put on its operands; this, list by list; and what the end of each demands
pub record Entry : Type 0 where
  pub operands : List Ty
  pub locals : List Ty
  pub inner : Point
  pub payloads : List (List Ty)
  pub demand : Demand

-- a local that gets another type
pub data Change : Type 0 where
  Becomes : (n : ℕ) → (t : Ty) → Change

-- what an instruction makes of a point: other operands, and at most one local of another type; the end of its list;
-- lists that are entered; or a broken rule
pub data Outcome : Type 0 where
  Gives : (operands : List Ty) → (change : Option Change) → Outcome
  Ends : Outcome
  Enters : Entry → Outcome
  Breaks : Broken → Outcome

-- the locals after a change
abbrev pub changed_to : Option Change → List Ty → List Ty
changed_to None locals = locals
changed_to (Some (Becomes n t)) locals = slice_set locals n t

-- the point with other operands and a change of its locals
abbrev pub moved : Point → List Ty → Option Change → Point
moved p operands change = record p { locals = changed_to change p.locals; operands = operands }

-- the types with this number; none past the end
abbrev pub types_at : List (List Ty) → ℕ → List Ty
types_at [] j = []
types_at (ts ∷ rest) zero = ts
types_at (ts ∷ rest) (suc j) = types_at rest j

-- the point at the start of the list with this number
abbrev pub start : Entry → ℕ → Point
start e j = record e.inner { operands = types_at e.payloads j ++ e.inner.operands }

-- the point after all lists that were entered from this one
abbrev pub after : Entry → Point → Point
after e p = record p { locals = e.locals; operands = e.operands }
