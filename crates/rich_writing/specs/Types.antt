-- The canonical text of a type, of a function type, and of what holds types; this project's own.
use Rattle.std.specs.Prelude.{ℕ, List, [], ◌∷◌, map, codes, decimal}
use Rattle.rw_types.specs.declared.instrs.LocalTy.{LocalTy}
use Rattle.rw_types.specs.declared.types.Arg.{Arg}
use Rattle.rw_types.specs.declared.types.Arg.TheVariants.{Loc as location, Given}
use Rattle.rw_types.specs.declared.types.Binder.{Binder}
use Rattle.rw_types.specs.declared.types.Binder.TheVariants.{Loc, Kind}
use Rattle.rw_types.specs.declared.types.FunType.{FunType}
use Rattle.rw_types.specs.declared.types.Slot.{Slot}
use Rattle.rw_types.specs.declared.types.Ty.{Ty, Of, Var, Rec', Row_of-Ty, end_of-Ty, more_of-Ty}
use Rattle.rw_types.specs.declared.types.Pre.{Pre, Unit, I32, I64, Tuple', Ref, Ptr, Cap, Own, Hidden', Code', end_of-FunType, more_of-FunType}
use Rattle.rw_types.specs.declared.types.Heap.{Heap, Struct', Variant', Array', Exist', Row_of-Slot, end_of-Slot, more_of-Slot}
use Rattle.rich_writing.specs.Pieces.{in_parentheses, qual_text, mem_text, priv_text}

abbrev pub binder_text : Binder → List ℕ
binder_text (Loc m) = in_parentheses (codes "loc" ∷ mem_text m ∷ [])
binder_text (Kind q s) = in_parentheses (codes "type" ∷ qual_text q ∷ decimal s ∷ [])

-- a function type, from the texts of its parameters and results
abbrev pub fun_text : List Binder → List (List ℕ) → List (List ℕ) → List ℕ
fun_text binders params results = in_parentheses (codes "fun" ∷ in_parentheses (map binder_text binders) ∷ in_parentheses params ∷ in_parentheses results ∷ [])

abbrev mutual
  -- a type
  pub type_text : Ty → List ℕ
  type_text (Of q p) = in_parentheses (qual_text q ∷ pretype_text p ∷ [])
  type_text (Var n) = in_parentheses (codes "var" ∷ decimal n ∷ [])
  type_text (Rec' q s m (more_of-Ty t end_of-Ty)) = in_parentheses (codes "rec" ∷ qual_text q ∷ decimal s ∷ type_text t ∷ [])

  -- a type without its qualifier
  pub pretype_text : Pre → List ℕ
  pretype_text Unit = codes "unit"
  pretype_text I32 = codes "i32"
  pretype_text I64 = codes "i64"
  pretype_text (Tuple' m ts) = in_parentheses (codes "tuple" ∷ type_row_texts ts)
  pretype_text (Ref p l h) = in_parentheses (codes "ref" ∷ priv_text p ∷ decimal l ∷ heap_text h ∷ [])
  pretype_text (Ptr l) = in_parentheses (codes "ptr" ∷ decimal l ∷ [])
  pretype_text (Cap p l h) = in_parentheses (codes "cap" ∷ priv_text p ∷ decimal l ∷ heap_text h ∷ [])
  pretype_text (Own l) = in_parentheses (codes "own" ∷ decimal l ∷ [])
  pretype_text (Hidden' m a (more_of-Ty t end_of-Ty)) = in_parentheses (codes "some" ∷ mem_text m ∷ type_text t ∷ [])
  pretype_text (Code' a (more_of-FunType bs m ps n rs end_of-FunType)) = in_parentheses (codes "code" ∷ fun_text bs (type_row_texts ps) (type_row_texts rs) ∷ [])

  -- what stands at a location
  pub heap_text : Heap → List ℕ
  heap_text (Struct' m slots) = in_parentheses (codes "struct" ∷ slot_row_texts slots)
  heap_text (Variant' m ts) = in_parentheses (codes "variant" ∷ type_row_texts ts)
  heap_text (Array' a (more_of-Ty t end_of-Ty)) = in_parentheses (codes "array" ∷ type_text t ∷ [])
  heap_text (Exist' q s a (more_of-Ty t end_of-Ty)) = in_parentheses (codes "exist" ∷ qual_text q ∷ decimal s ∷ type_text t ∷ [])

  -- types within a type
  pub type_row_texts : {n : _} → Row_of-Ty n → List (List ℕ)
  type_row_texts end_of-Ty = []
  type_row_texts (more_of-Ty t ts) = type_text t ∷ type_row_texts ts

  -- slots within a type
  pub slot_row_texts : {n : _} → Row_of-Slot n → List (List ℕ)
  slot_row_texts end_of-Slot = []
  slot_row_texts (more_of-Slot t s ss) = in_parentheses (type_text t ∷ decimal s ∷ []) ∷ slot_row_texts ss

-- a slot
abbrev pub slot_text : Slot → List ℕ
slot_text slot = in_parentheses (type_text slot.ty ∷ decimal slot.size ∷ [])

-- a function type
abbrev pub function_type_text : FunType → List ℕ
function_type_text f = fun_text f.binders (map type_text f.params) (map type_text f.results)

-- an argument
abbrev pub argument_text : Arg → List ℕ
argument_text (location l) = in_parentheses (codes "loc" ∷ decimal l ∷ [])
argument_text (Given t) = in_parentheses (codes "type" ∷ type_text t ∷ [])

-- a local, and its type after a block
abbrev pub local_text : LocalTy → List ℕ
local_text l = in_parentheses (decimal l.index ∷ type_text l.ty ∷ [])
