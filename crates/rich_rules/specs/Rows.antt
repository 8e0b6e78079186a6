-- What instructions make of points, written out: points that no body reaches, and tests of types. This project's own.
use Rattle.std.specs.Prelude.{◌≡◌, List, [], ◌∷◌, true, false, Some, None}
use Rattle.rw_types.specs.declared.instrs.Instr.{ArrayFree, ArrayGet, CapSplit, Instr, LocalSet, RefSplit, StructFree, StructGet, StructSet}
use Rattle.rw_types.specs.declared.types.Binder.{Binder}
use Rattle.rw_types.specs.declared.types.Binder.TheVariants.{Kind, Loc}
use Rattle.rw_types.specs.declared.types.Heap.TheVariants.{Array, Struct}
use Rattle.rw_types.specs.declared.types.Mem.TheVariants.{L, U}
use Rattle.rw_types.specs.declared.types.Pre.{Cap, Ref}
use Rattle.rw_types.specs.declared.types.Priv.TheVariants.{R, Rw}
use Rattle.rw_types.specs.declared.types.Qual.TheVariants.{Lin, Unr}
use Rattle.rw_types.specs.declared.types.Ty.{Of, Ty, Var}
use Rattle.rich_types.specs.Rows.{address, cell, closure, long, number_list, short, slot, tuple}
use Rattle.rich_types.specs.Scopes.{no_scope, scope_of}
use Rattle.rich_typing.specs.declared.rules.Rule.TheVariants as rule
use Rattle.rich_rules.specs.Equality.{same}
use Rattle.rich_rules.specs.Forms.{fits, has_qual, is_formed}
use Rattle.rich_rules.specs.Points.{Breaks, Broke, Gives, OfFunction, Outcome}
use Rattle.rich_rules.specs.Table.{row}

-- a reference to a struct of one number
abbrev reference : Ty
reference = Of Lin (Ref Rw 0 (Struct (slot long 1 ∷ [])))

abbrev array_reference : Ty
array_reference = Of Unr (Ref Rw 0 (Array long))

-- what an instruction makes of these operands, the top one first, below these binders
abbrev made : List Binder → Instr → List Ty → Outcome
made binders i operands = row (record { functions = []; globals = []; slots = []; owner = OfFunction }) (record { binders = binders; locals = []; labels = []; results = []; operands = operands }) i

-- a location without a binder is refused; a type that is not well formed may still be looked at; a size is counted up to
-- 10,001; and a type is told to be another where any part of it is
pub record WorkedRules : Type 0 where
  pub get : made (Loc L ∷ []) (StructGet 0) (reference ∷ []) ≡ Gives (long ∷ reference ∷ []) None
  pub get_without_binder : made [] (StructGet 0) (reference ∷ []) ≡ Breaks (Broke rule.OperandType (Some reference) None)
  pub set_without_binder : made [] (StructSet 0) (long ∷ reference ∷ []) ≡ Breaks (Broke rule.OperandType (Some reference) None)
  pub get_element_without_binder : made [] ArrayGet (short ∷ array_reference ∷ []) ≡ Breaks (Broke rule.OperandType (Some array_reference) None)
  pub split_without_binder : made [] RefSplit (reference ∷ []) ≡ Breaks (Broke rule.Memory (Some reference) None)
  pub free : made (Loc L ∷ []) StructFree (reference ∷ short ∷ []) ≡ Gives (short ∷ []) None
  pub free_elsewhere : made (Loc U ∷ []) StructFree (reference ∷ []) ≡ Breaks (Broke rule.Memory (Some reference) None)
  pub free_array_without_binder : made [] ArrayFree (array_reference ∷ []) ≡ Breaks (Broke rule.OperandType (Some array_reference) None)
  pub split_unrestricted_capability : made (Loc L ∷ []) CapSplit (Of Unr (Cap Rw 0 (Struct [])) ∷ []) ≡ Breaks (Broke rule.OperandType (Some (Of Unr (Cap Rw 0 (Struct [])))) None)
  pub set_no_local : made [] (LocalSet 0) [] ≡ Breaks (Broke rule.Index None None)
  pub counted_size : fits (scope_of (Kind Unr 20000 ∷ [])) 10001 (Var 0) ≡ true
  pub large_size : fits (scope_of (Kind Unr 20000 ∷ [])) 10000 (Var 0) ≡ false
  pub variable_qual : has_qual (scope_of (Kind Unr 1 ∷ Kind Lin 1 ∷ [])) Lin (Var 0) ≡ true
  pub other_qual : has_qual (scope_of (Kind Unr 1 ∷ Kind Lin 1 ∷ [])) Lin (Var 1) ≡ false
  pub formed_list : is_formed no_scope number_list ≡ true
  pub formed_closure : is_formed no_scope closure ≡ true
  pub linear_part : is_formed no_scope (tuple (cell ∷ [])) ≡ false
  pub free_location : is_formed no_scope (address 0) ≡ false
  pub same_closure : same closure closure ≡ true
  pub other_slot : same reference (Of Lin (Ref Rw 0 (Struct (slot long 2 ∷ [])))) ≡ false
  pub other_privilege : same reference (Of Lin (Ref R 0 (Struct (slot long 1 ∷ [])))) ≡ false
  pub other_element : same (tuple (long ∷ long ∷ [])) (tuple (long ∷ short ∷ [])) ≡ false
  pub fewer_elements : same (tuple (long ∷ long ∷ [])) (tuple (long ∷ [])) ≡ false
