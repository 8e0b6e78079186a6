-- A type under a change of its numbers. One traversal goes through all types; what becomes of a number is
-- told to it, for each kind of number and by how many binders stand around the place. This project's own.
use Rattle.std.specs.Prelude.{ℕ, ◌+◌, List, [], ◌∷◌}
use Rattle.rw_types.specs.declared.types.Binder.{Binder}
use Rattle.rw_types.specs.declared.types.Binder.TheVariants.{Loc, Kind}
use Rattle.rw_types.specs.declared.types.Qual.{Qual}
use Rattle.rw_types.specs.declared.types.Slot.{Slot}
use Rattle.rw_types.specs.declared.types.FunType.{FunType}
use Rattle.rw_types.specs.declared.types.Ty.{Ty, Of, Var, Rec', Row_of-Ty, end_of-Ty, more_of-Ty}
use Rattle.rw_types.specs.declared.types.Ty.TheVariants.{Rec}
use Rattle.rw_types.specs.declared.types.Pre.{Pre, Unit, I32, I64, Tuple', Ref, Ptr, Cap, Own, Hidden', Code', end_of-FunType, more_of-FunType}
use Rattle.rw_types.specs.declared.types.Pre.TheVariants.{Tuple, Hidden, Code}
use Rattle.rw_types.specs.declared.types.Heap.{Heap, Struct', Variant', Array', Exist', Row_of-Slot, end_of-Slot, more_of-Slot}
use Rattle.rw_types.specs.declared.types.Heap.TheVariants.{Struct, Variant, Array, Exist}
use Rattle.rich_types.specs.declared.depth.Depth.{Depth}

-- outside all binders
abbrev pub outside : Depth
outside = record { locations = 0; variables = 0 }

-- below one binder more: that of a location
unfoldable pub below_location : Depth → Depth
below_location d = record d { locations = d.locations + 1 }

-- and that of a type variable
unfoldable pub below_variable : Depth → Depth
below_variable d = record d { variables = d.variables + 1 }

-- below these binders
abbrev pub below : List Binder → Depth → Depth
below [] d = d
below (Loc m ∷ bs) d = below bs (below_location d)
below (Kind q s ∷ bs) d = below bs (below_variable d)

-- what becomes of a number of each kind, below so many binders
pub record Leaves : Type 0 where
  pub location : Depth → ℕ → ℕ
  pub variable : Depth → ℕ → Ty

-- a qualifier has no numbers
abbrev pub walk_qual : Leaves → Depth → Qual → Qual
walk_qual f d q = q

-- nor have binders
abbrev pub walk_binders : Leaves → Depth → List Binder → List Binder
walk_binders f d bs = bs

abbrev mutual
  -- a type
  pub walk : Leaves → Depth → Ty → Ty
  walk f d (Of q p) = Of (walk_qual f d q) (walk_pre f d p)
  walk f d (Var n) = f.variable d n
  walk f d (Rec' q s a (more_of-Ty t end_of-Ty)) = Rec (walk_qual f d q) s (walk f (below_variable d) t)

  -- a type without its qualifier
  pub walk_pre : Leaves → Depth → Pre → Pre
  walk_pre f d Unit = Unit
  walk_pre f d I32 = I32
  walk_pre f d I64 = I64
  walk_pre f d (Tuple' m ts) = Tuple (walk_row f d ts)
  walk_pre f d (Ref p l h) = Ref p (f.location d l) (walk_heap f d h)
  walk_pre f d (Ptr l) = Ptr (f.location d l)
  walk_pre f d (Cap p l h) = Cap p (f.location d l) (walk_heap f d h)
  walk_pre f d (Own l) = Own (f.location d l)
  walk_pre f d (Hidden' m a (more_of-Ty t end_of-Ty)) = Hidden m (walk f (below_location d) t)
  walk_pre f d (Code' a (more_of-FunType bs m ps n rs end_of-FunType)) = Code (record { binders = walk_binders f d bs; params = walk_row f (below bs d) ps; results = walk_row f (below bs d) rs })

  -- what stands at a location
  pub walk_heap : Leaves → Depth → Heap → Heap
  walk_heap f d (Struct' m ss) = Struct (walk_slot_row f d ss)
  walk_heap f d (Variant' m ts) = Variant (walk_row f d ts)
  walk_heap f d (Array' a (more_of-Ty t end_of-Ty)) = Array (walk f d t)
  walk_heap f d (Exist' q s a (more_of-Ty t end_of-Ty)) = Exist (walk_qual f d q) s (walk f (below_variable d) t)

  -- types
  pub walk_row : {n : _} → Leaves → Depth → Row_of-Ty n → List Ty
  walk_row f d end_of-Ty = []
  walk_row f d (more_of-Ty t ts) = walk f d t ∷ walk_row f d ts

  -- slots
  pub walk_slot_row : {n : _} → Leaves → Depth → Row_of-Slot n → List Slot
  walk_slot_row f d end_of-Slot = []
  walk_slot_row f d (more_of-Slot t s ss) = record { ty = walk f d t; size = s } ∷ walk_slot_row f d ss

-- types
abbrev pub walk_list : Leaves → Depth → List Ty → List Ty
walk_list f d [] = []
walk_list f d (t ∷ ts) = walk f d t ∷ walk_list f d ts

-- slots
abbrev pub walk_slots : Leaves → Depth → List Slot → List Slot
walk_slots f d [] = []
walk_slots f d (s ∷ ss) = record { ty = walk f d s.ty; size = s.size } ∷ walk_slots f d ss

-- a function type
abbrev pub walk_function : Leaves → Depth → FunType → FunType
walk_function f d g = record {
  binders = walk_binders f d g.binders;
  params = walk_list f (below g.binders d) g.params;
  results = walk_list f (below g.binders d) g.results;
}
