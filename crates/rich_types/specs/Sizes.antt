-- Qualifiers of types, and their sizes in words of 64 bits. A size is a natural number, however large.
-- This project's own.
use Rattle.std.specs.Prelude.{ℕ, ◌+◌, List, [], ◌∷◌, Option, Some, None, max}
use Rattle.rw_types.specs.declared.types.Qual.{Qual}
use Rattle.rw_types.specs.declared.types.Qual.TheVariants.{Lin}
use Rattle.rw_types.specs.declared.types.Ty.{Ty, Of, Var, Rec', Row_of-Ty, end_of-Ty, more_of-Ty}
use Rattle.rw_types.specs.declared.types.Pre.{Pre, Unit, I32, I64, Tuple', Ref, Ptr, Cap, Own, Hidden', Code'}
use Rattle.rw_types.specs.declared.types.Heap.{Heap, Struct', Variant', Array', Exist', Row_of-Slot, end_of-Slot, more_of-Slot}
use Rattle.rw_types.specs.declared.types.Slot.{Slot}
use Rattle.rich_types.specs.declared.variables.VariableKind.{VariableKind}
use Rattle.rich_types.specs.Scopes.{Scope, with_location, with_variable, variable_of}

-- the qualifier of a type variable; `lin` where there is none
abbrev pub variable_qual : Option VariableKind → Qual
variable_qual (Some k) = k.qual
variable_qual None = Lin

-- the qualifier of a type
abbrev pub qual_under : Scope → Ty → Qual
qual_under c (Of q p) = q
qual_under c (Var n) = variable_qual (variable_of c n)
qual_under c (Rec' q s a t) = q

-- the words of a type variable; none where there is no such variable
abbrev pub variable_size : Option VariableKind → ℕ
variable_size (Some k) = k.size
variable_size None = 0

abbrev mutual
  -- the size of a type
  pub size_under : Scope → Ty → ℕ
  size_under c (Of q p) = pre_size c p
  size_under c (Var n) = variable_size (variable_of c n)
  size_under c (Rec' q s a t) = s

  -- the size of a type without its qualifier
  pub pre_size : Scope → Pre → ℕ
  pre_size c Unit = 0
  pre_size c I32 = 1
  pre_size c I64 = 1
  pre_size c (Tuple' m ts) = row_size c ts
  pre_size c (Ref p l h) = 1
  pre_size c (Ptr l) = 1
  pre_size c (Cap p l h) = 0
  pre_size c (Own l) = 0
  pre_size c (Hidden' m a (more_of-Ty t end_of-Ty)) = size_under (with_location m c) t
  pre_size c (Code' a f) = 1

  -- the sizes of the parts of a tuple together
  pub row_size : {n : _} → Scope → Row_of-Ty n → ℕ
  row_size c end_of-Ty = 0
  row_size c (more_of-Ty t ts) = size_under c t + row_size c ts

-- the greatest size of these types; 0 where there is none
abbrev pub row_greatest : {n : _} → Scope → Row_of-Ty n → ℕ
row_greatest c end_of-Ty = 0
row_greatest c (more_of-Ty t ts) = max (size_under c t) (row_greatest c ts)

-- the words of these slots together
abbrev pub row_slot_words : {n : _} → Row_of-Slot n → ℕ
row_slot_words end_of-Slot = 0
row_slot_words (more_of-Slot t s ss) = s + row_slot_words ss

-- the words of what stands at a location: a struct has those of its slots, a variant one for its case and
-- those of the greatest case, an array one for its length and, here, those of one element, and an
-- existential package those of its body
abbrev pub heap_words : Scope → Heap → ℕ
heap_words c (Struct' m ss) = row_slot_words ss
heap_words c (Variant' m ts) = 1 + row_greatest c ts
heap_words c (Array' a (more_of-Ty t end_of-Ty)) = 1 + size_under c t
heap_words c (Exist' q s a (more_of-Ty t end_of-Ty)) = size_under (with_variable q s c) t

-- the sizes of these types together
abbrev pub list_size : Scope → List Ty → ℕ
list_size c [] = 0
list_size c (t ∷ ts) = size_under c t + list_size c ts

-- the greatest size of these types; 0 where there is none
abbrev pub list_greatest : Scope → List Ty → ℕ
list_greatest c [] = 0
list_greatest c (t ∷ ts) = max (size_under c t) (list_greatest c ts)

-- the words of these slots together
abbrev pub slot_words : List Slot → ℕ
slot_words [] = 0
slot_words (s ∷ ss) = s.size + slot_words ss
