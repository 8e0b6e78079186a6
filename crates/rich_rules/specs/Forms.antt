-- What is asked of a type: whether it is `unr`, whether it is well formed, and whether it fits a slot. Of a
-- qualifier two things are asked: whether it is `unr`, and whether it is at most another. This project's own.
use Rattle.std.specs.Prelude.{ℕ, min, nat_le, List, [], ◌∷◌, Bool, true, false, ◌&&◌, if◌then◌else◌, is_some, Option, Some, None}
use Rattle.rw_types.specs.declared.types.Mem.{Mem}
use Rattle.rw_types.specs.declared.types.Mem.TheVariants.{L, U}
use Rattle.rw_types.specs.declared.types.Priv.{Priv}
use Rattle.rw_types.specs.declared.types.Priv.TheVariants.{Rw, R}
use Rattle.rw_types.specs.declared.types.Qual.{Qual}
use Rattle.rw_types.specs.declared.types.Qual.TheVariants.{Unr, Lin}
use Rattle.rw_types.specs.declared.types.Ty.{Ty, Of, Var, Rec', Row_of-Ty, end_of-Ty, more_of-Ty}
use Rattle.rw_types.specs.declared.types.Pre.{Pre, Unit, I32, I64, Tuple', Ref, Ptr, Cap, Own, Hidden', Code', end_of-FunType, more_of-FunType}
use Rattle.rw_types.specs.declared.types.Heap.{Heap, Struct', Variant', Array', Exist', Row_of-Slot, end_of-Slot, more_of-Slot}
use Rattle.rich_types.specs.declared.variables.VariableKind.{VariableKind}
use Rattle.rich_types.specs.Scopes.{Scope, with_location, with_variable, within, memory_of, variable_of}
use Rattle.rich_types.specs.Sizes.{qual_under, size_under, pre_size, heap_words}
use Rattle.rich_types.specs.WellFormed.{most_words, content_qual}

-- whether a value of this qualifier may be dropped and copied
abbrev pub is_unr : Qual → Bool
is_unr Unr = true
is_unr Lin = false

-- whether a qualifier is at most another: `unr` is below `lin`
abbrev pub at_most : Qual → Qual → Bool
at_most Unr r = true
at_most Lin Lin = true
at_most Lin Unr = false

-- whether a type has exactly this qualifier
abbrev pub has_qual : Scope → Qual → Ty → Bool
has_qual c q t = at_most (qual_under c t) q && at_most q (qual_under c t)

-- whether a value of this type may be dropped and copied
abbrev pub is_unr_type : Scope → Ty → Bool
is_unr_type c t = is_unr (qual_under c t)

-- whether a type fits a slot of so many words: its size, counted up to 10,001, is at most these
abbrev pub fits : Scope → ℕ → Ty → Bool
fits c s t = nat_le (min (size_under c t) 10001) s

-- whether a privilege is to read and write
abbrev pub is_rw : Priv → Bool
is_rw Rw = true
is_rw R = false

-- whether a privilege is to read alone
abbrev pub is_r : Priv → Bool
is_r Rw = false
is_r R = true

-- whether a memory is the linear one
abbrev pub is_linear_memory : Mem → Bool
is_linear_memory L = true
is_linear_memory U = false

-- whether there is a location, and it is in the linear memory
abbrev pub is_linear_location : Option Mem → Bool
is_linear_location (Some m) = is_linear_memory m
is_linear_location None = false

-- whether a reference of this qualifier and privilege may be to a location of this memory
abbrev pub may_refer : Qual → Priv → Mem → Bool
may_refer q p L = at_most Lin q
may_refer q p U = is_rw p

-- whether there is such a location, and this holds of its memory
abbrev pub holds_of : Option Mem → (Mem → Bool) → Bool
holds_of (Some m) holds = holds m
holds_of None holds = false

-- whether there is such a variable, of at most 10,000 words
abbrev pub is_formed_variable : Option VariableKind → Bool
is_formed_variable (Some k) = nat_le k.size most_words
is_formed_variable None = false

abbrev mutual
  -- whether a type is well formed
  pub is_formed : Scope → Ty → Bool
  is_formed c (Of q p) = nat_le (pre_size c p) most_words && is_formed_pre c q p
  is_formed c (Var n) = is_formed_variable (variable_of c n)
  is_formed c (Rec' q s a (more_of-Ty t end_of-Ty)) = nat_le s most_words && (is_formed (with_variable q s c) t && (has_qual (with_variable q s c) q t && (nat_le (size_under (with_variable q s c) t) s && nat_le s (size_under (with_variable q s c) t))))

  -- whether a form of value is well formed with this qualifier
  pub is_formed_pre : Scope → Qual → Pre → Bool
  is_formed_pre c q Unit = true
  is_formed_pre c q I32 = true
  is_formed_pre c q I64 = true
  is_formed_pre c q (Tuple' m ts) = is_row_of_parts c q ts
  is_formed_pre c q (Ref p l h) = holds_of (memory_of c l) (λ m. may_refer q p m && is_formed_heap c m h)
  is_formed_pre c q (Ptr l) = is_some (memory_of c l)
  is_formed_pre c q (Cap p l h) = (at_most Lin q && is_linear_location (memory_of c l)) && is_formed_heap c L h
  is_formed_pre c q (Own l) = at_most Lin q && is_linear_location (memory_of c l)
  is_formed_pre c q (Hidden' m a (more_of-Ty t end_of-Ty)) = is_formed (with_location m c) t && at_most (qual_under (with_location m c) t) q
  is_formed_pre c q (Code' a (more_of-FunType bs m ps n rs end_of-FunType)) = is_row_of_parts (within bs c) Lin ps && is_row_of_parts (within bs c) Lin rs

  -- whether this may stand at a location of this memory
  pub is_formed_heap : Scope → Mem → Heap → Bool
  is_formed_heap c m (Struct' n ss) = nat_le (heap_words c (Struct' n ss)) most_words && is_row_of_slots c ss
  is_formed_heap c m (Variant' n ts) = nat_le (heap_words c (Variant' n ts)) most_words && is_row_of_parts c (content_qual m) ts
  is_formed_heap c m (Array' a (more_of-Ty t end_of-Ty)) = nat_le (heap_words c (Array' a (more_of-Ty t end_of-Ty))) most_words && (is_formed c t && at_most (qual_under c t) Unr)
  is_formed_heap c m (Exist' q s a (more_of-Ty t end_of-Ty)) = nat_le (heap_words c (Exist' q s a (more_of-Ty t end_of-Ty))) most_words && (is_formed (with_variable q s c) t && at_most (qual_under (with_variable q s c) t) (content_qual m))

  -- whether types are well formed, of at most this qualifier
  pub is_row_of_parts : {n : _} → Scope → Qual → Row_of-Ty n → Bool
  is_row_of_parts c q end_of-Ty = true
  is_row_of_parts c q (more_of-Ty t ts) = (is_formed c t && at_most (qual_under c t) q) && is_row_of_parts c q ts

  -- whether slots are each as large as their well-formed type or larger
  pub is_row_of_slots : {n : _} → Scope → Row_of-Slot n → Bool
  is_row_of_slots c end_of-Slot = true
  is_row_of_slots c (more_of-Slot t s ss) = (is_formed c t && nat_le (size_under c t) s) && is_row_of_slots c ss

-- the first of these types that is not well formed
abbrev pub first_ill_formed : Scope → List Ty → Option Ty
first_ill_formed c [] = None
first_ill_formed c (t ∷ ts) = if is_formed c t then first_ill_formed c ts else Some t
