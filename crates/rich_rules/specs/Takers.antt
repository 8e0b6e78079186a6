-- Conditions, and the forms of operands that are taken. A condition that fails breaks a rule; what follows is
-- looked at only where it holds. This project's own.
use Rattle.std.specs.Prelude.{ℕ, ◌+◌, List, [], ◌∷◌, ◌++◌, Bool, true, false, not, if◌then◌else◌, Option, Some, None, length, take, drop, reverse, nat_lt}
use Rattle.rw_types.specs.declared.types.FunType.{FunType}
use Rattle.rw_types.specs.declared.types.Heap.{Heap, Struct', Variant', Array', Exist', items-the_row-Slot}
use Rattle.rw_types.specs.declared.types.Mem.{Mem}
use Rattle.rw_types.specs.declared.types.Pre.{Pre, Unit, I32, I64, Tuple', Ref, Ptr, Cap, Own, Hidden', Code', end_of-FunType, more_of-FunType}
use Rattle.rw_types.specs.declared.types.Priv.{Priv}
use Rattle.rw_types.specs.declared.types.Qual.{Qual}
use Rattle.rw_types.specs.declared.types.Qual.TheVariants.{Unr}
use Rattle.rw_types.specs.declared.types.Slot.{Slot}
use Rattle.rw_types.specs.declared.types.Ty.{Ty, Of, Rec', end_of-Ty, more_of-Ty, items-the_row-Ty}
use Rattle.rich_types.specs.Scopes.{Scope, memory_of}
use Rattle.rich_typing.specs.declared.rules.Rule.{Rule}
use Rattle.rich_typing.specs.declared.rules.Rule.TheVariants as rule
use Rattle.rich_rules.specs.Equality.{same}
use Rattle.rich_rules.specs.Forms.{is_unr, is_unr_type, is_formed, first_ill_formed}
use Rattle.rich_rules.specs.Points.{Broke, Outcome, Gives, Breaks}

-- the types of a unit and of numbers of 32 and of 64 bits
abbrev pub unr_unit : Ty
unr_unit = Of Unr Unit

abbrev pub unr_i32 : Ty
unr_i32 = Of Unr I32

abbrev pub unr_i64 : Ty
unr_i64 = Of Unr I64

-- a condition, with the type that breaks it and the type that is demanded
abbrev pub need : Bool → Rule → Option Ty → Option Ty → Outcome → Outcome
need true broken found expected rest = rest
need false broken found expected rest = Breaks (Broke broken found expected)

-- that there is something of a number
abbrev pub with_some : {A : Type 0} → Option A → Rule → Option Ty → (A → Outcome) → Outcome
with_some None broken found rest = Breaks (Broke broken found None)
with_some (Some x) broken found rest = rest x

-- that there is no type that breaks a condition
abbrev pub without : Option Ty → Rule → Outcome → Outcome
without None broken rest = rest
without (Some t) broken rest = Breaks (Broke broken (Some t) None)

-- two types that differ: the one that stands, and the one that is demanded
pub data Difference : Type 0 where
  Differ : (found expected : Ty) → Difference

-- that no types differ
abbrev pub without_difference : Option Difference → Rule → Outcome → Outcome
without_difference None broken rest = rest
without_difference (Some (Differ t u)) broken rest = Breaks (Broke broken (Some t) (Some u))

-- the first of two that there is
abbrev pub or_else : {A : Type 0} → Option A → Option A → Option A
or_else (Some x) other = Some x
or_else None other = other

-- two types, where they differ
abbrev pub difference : Ty → Ty → Option Difference
difference t u = if same t u then None else Some (Differ t u)

-- the first types that differ in two lists, one for one
abbrev pub first_difference : List Ty → List Ty → Option Difference
first_difference (t ∷ ts) (u ∷ us) = or_else (difference t u) (first_difference ts us)
first_difference _ _ = None

-- and the last; of operands that is the deepest
abbrev pub last_difference : List Ty → List Ty → Option Difference
last_difference (t ∷ ts) (u ∷ us) = or_else (last_difference ts us) (difference t u)
last_difference _ _ = None

-- the type, where it is not `unr`
abbrev pub held : Scope → Ty → Option Ty
held c t = if is_unr_type c t then None else Some t

-- the first of these types that is not `unr`
abbrev pub first_held : Scope → List Ty → Option Ty
first_held c [] = None
first_held c (t ∷ ts) = or_else (held c t) (first_held c ts)

-- and the last; of operands that is the deepest
abbrev pub last_held : Scope → List Ty → Option Ty
last_held c [] = None
last_held c (t ∷ ts) = or_else (last_held c ts) (held c t)

-- the top operands, so many, and those beneath
abbrev pub taking : ℕ → List Ty → (List Ty → List Ty → Outcome) → Outcome
taking n operands rest = if nat_lt (length operands) n then Breaks (Broke rule.Operands None None) else rest (take n operands) (drop n operands)

-- the top operand, and those beneath
abbrev pub one : List Ty → (Ty → List Ty → Outcome) → Outcome
one (t ∷ beneath) rest = rest t beneath
one [] rest = Breaks (Broke rule.Operands None None)

-- the top operand, the one under it, and those beneath both
abbrev pub two : List Ty → (Ty → Ty → List Ty → Outcome) → Outcome
two (t ∷ u ∷ beneath) rest = rest t u beneath
two _ rest = Breaks (Broke rule.Operands None None)

-- the three top operands, the top one first, and those beneath
abbrev pub three : List Ty → (Ty → Ty → Ty → List Ty → Outcome) → Outcome
three (t ∷ u ∷ v ∷ beneath) rest = rest t u v beneath
three _ rest = Breaks (Broke rule.Operands None None)

-- the top operands are these, the top one first
abbrev pub these : List Ty → List Ty → (List Ty → Outcome) → Outcome
these demanded operands rest = taking (length demanded) operands (λ taken beneath. without_difference (last_difference taken demanded) rule.OperandType (rest beneath))

-- one operand, and under it these
abbrev pub one_over : List Ty → List Ty → (Ty → List Ty → Outcome) → Outcome
one_over demanded operands rest = taking (length demanded + 1) operands (λ taken beneath. one taken (λ t under. without_difference (last_difference under demanded) rule.OperandType (rest t beneath)))

-- an operand of exactly this type
abbrev pub of_type : Ty → Ty → Outcome → Outcome
of_type demanded t rest = need (same t demanded) rule.OperandType (Some t) (Some demanded) rest

-- an operand that has not the form that is taken
abbrev pub other_form : Ty → Outcome
other_form t = Breaks (Broke rule.OperandType (Some t) None)

-- the form of a type whose qualifier is `unr`
abbrev pub need_unr : Qual → Ty → Outcome → Outcome
need_unr q t rest = need (is_unr q) rule.OperandType (Some t) None rest

-- and of one whose qualifier is another
abbrev pub need_held : Qual → Ty → Outcome → Outcome
need_held q t rest = need (not (is_unr q)) rule.OperandType (Some t) None rest

-- a form of value that is `unr`
abbrev pub unr_form : Ty → (Pre → Outcome) → Outcome
unr_form (Of q p) rest = need_unr q (Of q p) (rest p)
unr_form t rest = other_form t

-- a tuple
abbrev pub tuple_form : Ty → (List Ty → Outcome) → Outcome
tuple_form (Of q (Tuple' m ts)) rest = rest (items-the_row-Ty _ ts)
tuple_form t rest = other_form t

-- a recursive type, and its body
abbrev pub rec_form : Ty → (Ty → Outcome) → Outcome
rec_form (Rec' q s a (more_of-Ty t end_of-Ty)) rest = rest t
rec_form t rest = other_form t

-- a hidden location: its memory, and the body
abbrev pub hidden_form : Ty → (Mem → Ty → Outcome) → Outcome
hidden_form (Of q (Hidden' m a (more_of-Ty t end_of-Ty))) rest = rest m t
hidden_form t rest = other_form t

-- a function that is `unr`
abbrev pub code_form : Ty → (FunType → Outcome) → Outcome
code_form (Of q (Code' a (more_of-FunType bs m ps n rs end_of-FunType))) rest = need_unr q (Of q (Code' a (more_of-FunType bs m ps n rs end_of-FunType))) (rest (record { binders = bs; params = items-the_row-Ty _ ps; results = items-the_row-Ty _ rs }))
code_form t rest = other_form t

-- a capability: its privilege, its location, and what stands there
abbrev pub cap_form : Ty → (Priv → ℕ → Heap → Outcome) → Outcome
cap_form (Of q (Cap p l h)) rest = need_held q (Of q (Cap p l h)) (rest p l h)
cap_form t rest = other_form t

-- the right to make a capability writing again, and its location
abbrev pub own_form : Ty → (ℕ → Outcome) → Outcome
own_form (Of q (Own l)) rest = need_held q (Of q (Own l)) (rest l)
own_form t rest = other_form t

-- an address that is `unr`, and its location
abbrev pub ptr_form : Ty → (ℕ → Outcome) → Outcome
ptr_form (Of q (Ptr l)) rest = need_unr q (Of q (Ptr l)) (rest l)
ptr_form t rest = other_form t

-- a reference that is not `unr`
abbrev pub held_ref_form : Ty → (Priv → ℕ → Heap → Outcome) → Outcome
held_ref_form (Of q (Ref p l h)) rest = need_held q (Of q (Ref p l h)) (rest p l h)
held_ref_form t rest = other_form t

-- what a reference tells: its qualifier and privilege, its location, and the memory of that
pub record Reference : Type 0 where
  pub qual : Qual
  pub privilege : Priv
  pub location : ℕ
  pub memory : Mem

-- a reference whose location has a binder, and what stands there
abbrev pub reference_form : Scope → Ty → (Reference → Heap → Outcome) → Outcome
reference_form c (Of q (Ref p l h)) rest = with_some (memory_of c l) rule.OperandType (Some (Of q (Ref p l h))) (λ m. rest (record { qual = q; privilege = p; location = l; memory = m }) h)
reference_form c t rest = other_form t

-- a struct, by its reference t
abbrev pub struct_at : Ty → Heap → (List Slot → Outcome) → Outcome
struct_at t (Struct' m ss) rest = rest (items-the_row-Slot _ ss)
struct_at t h rest = other_form t

-- a variant, by its reference t
abbrev pub variant_at : Ty → Heap → (List Ty → Outcome) → Outcome
variant_at t (Variant' m ts) rest = rest (items-the_row-Ty _ ts)
variant_at t h rest = other_form t

-- an array, by its reference t
abbrev pub array_at : Ty → Heap → (Ty → Outcome) → Outcome
array_at t (Array' a (more_of-Ty u end_of-Ty)) rest = rest u
array_at t h rest = other_form t

-- an existential package, by its reference t
abbrev pub package_at : Ty → Heap → (Qual → ℕ → Ty → Outcome) → Outcome
package_at t (Exist' q s a (more_of-Ty u end_of-Ty)) rest = rest q s u
package_at t h rest = other_form t

-- a reference to a struct
abbrev pub struct_form : Scope → Ty → (Reference → List Slot → Outcome) → Outcome
struct_form c t rest = reference_form c t (λ r h. struct_at t h (rest r))

-- a reference to a variant
abbrev pub variant_form : Scope → Ty → (Reference → List Ty → Outcome) → Outcome
variant_form c t rest = reference_form c t (λ r h. variant_at t h (rest r))

-- a reference to an array
abbrev pub array_form : Scope → Ty → (Reference → Ty → Outcome) → Outcome
array_form c t rest = reference_form c t (λ r h. array_at t h (rest r))

-- a reference to an existential package
abbrev pub package_form : Scope → Ty → (Reference → Qual → ℕ → Ty → Outcome) → Outcome
package_form c t rest = reference_form c t (λ r h. package_at t h (rest r))

-- these operands over those beneath, the top one first
abbrev pub gives : List Ty → List Ty → Outcome
gives given beneath = Gives (given ++ beneath) None

-- an operand of a type that is to be well formed
abbrev pub gives_formed : Scope → Ty → List Ty → Outcome
gives_formed c t beneath = need (is_formed c t) rule.TypeForm (Some t) None (gives (t ∷ []) beneath)

-- operands of types that are to be well formed, the deepest one first
abbrev pub gives_all_formed : Scope → List Ty → List Ty → Outcome
gives_all_formed c ts beneath = without (first_ill_formed c ts) rule.TypeForm (gives (reverse ts) beneath)
