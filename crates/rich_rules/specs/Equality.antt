-- Whether two types are the same tree. This project's own.
use Rattle.std.specs.Prelude.{List, [], ◌∷◌, Bool, true, false, ◌&&◌, ◌==◌}
use Rattle.rw_types.specs.declared.types.Binder.{Binder}
use Rattle.rw_types.specs.declared.types.Binder.TheVariants.{Loc, Kind}
use Rattle.rw_types.specs.declared.types.FunType.{FunType}
use Rattle.rw_types.specs.declared.types.Mem.{Mem}
use Rattle.rw_types.specs.declared.types.Mem.TheVariants.{L, U}
use Rattle.rw_types.specs.declared.types.Priv.{Priv}
use Rattle.rw_types.specs.declared.types.Priv.TheVariants.{Rw, R}
use Rattle.rw_types.specs.declared.types.Qual.{Qual}
use Rattle.rw_types.specs.declared.types.Qual.TheVariants.{Unr, Lin}
use Rattle.rw_types.specs.declared.types.Ty.{Ty, Of, Var, Rec', Row_of-Ty, end_of-Ty, more_of-Ty}
use Rattle.rw_types.specs.declared.types.Pre.{Pre, Unit, I32, I64, Tuple', Ref, Ptr, Cap, Own, Hidden', Code', end_of-FunType, more_of-FunType}
use Rattle.rw_types.specs.declared.types.Heap.{Heap, Struct', Variant', Array', Exist', Row_of-Slot, end_of-Slot, more_of-Slot}

-- whether two qualifiers are the same
abbrev pub same_qual : Qual → Qual → Bool
same_qual Unr Unr = true
same_qual Lin Lin = true
same_qual _ _ = false

-- whether two memories are the same
abbrev pub same_memory : Mem → Mem → Bool
same_memory L L = true
same_memory U U = true
same_memory _ _ = false

-- whether two privileges are the same
abbrev pub same_privilege : Priv → Priv → Bool
same_privilege Rw Rw = true
same_privilege R R = true
same_privilege _ _ = false

-- whether two rows of binders are the same
abbrev pub same_binders : List Binder → List Binder → Bool
same_binders [] [] = true
same_binders (Loc m ∷ bs) (Loc n ∷ cs) = same_memory m n && same_binders bs cs
same_binders (Kind q s ∷ bs) (Kind r n ∷ cs) = (same_qual q r && (s == n)) && same_binders bs cs
same_binders _ _ = false

abbrev mutual
  -- whether two types are the same
  pub same : Ty → Ty → Bool
  same (Of q p) (Of r o) = same_qual q r && same_pre p o
  same (Var n) (Var m) = n == m
  same (Rec' q s a (more_of-Ty t end_of-Ty)) (Rec' r n b (more_of-Ty u end_of-Ty)) = (same_qual q r && (s == n)) && same t u
  same _ _ = false

  -- whether two types without their qualifiers are the same
  pub same_pre : Pre → Pre → Bool
  same_pre Unit Unit = true
  same_pre I32 I32 = true
  same_pre I64 I64 = true
  same_pre (Tuple' m ts) (Tuple' n us) = same_row ts us
  same_pre (Ref p l h) (Ref r k g) = (same_privilege p r && (l == k)) && same_heap h g
  same_pre (Ptr l) (Ptr k) = l == k
  same_pre (Cap p l h) (Cap r k g) = (same_privilege p r && (l == k)) && same_heap h g
  same_pre (Own l) (Own k) = l == k
  same_pre (Hidden' m a (more_of-Ty t end_of-Ty)) (Hidden' n b (more_of-Ty u end_of-Ty)) = same_memory m n && same t u
  same_pre (Code' a (more_of-FunType bs m ps n rs end_of-FunType)) (Code' b (more_of-FunType cs i os j us end_of-FunType)) = (same_binders bs cs && same_row ps os) && same_row rs us
  same_pre _ _ = false

  -- whether what stands at two locations is the same
  pub same_heap : Heap → Heap → Bool
  same_heap (Struct' m ss) (Struct' n rs) = same_slot_row ss rs
  same_heap (Variant' m ts) (Variant' n us) = same_row ts us
  same_heap (Array' a (more_of-Ty t end_of-Ty)) (Array' b (more_of-Ty u end_of-Ty)) = same t u
  same_heap (Exist' q s a (more_of-Ty t end_of-Ty)) (Exist' r n b (more_of-Ty u end_of-Ty)) = (same_qual q r && (s == n)) && same t u
  same_heap _ _ = false

  -- whether two rows of types are the same
  pub same_row : {m n : _} → Row_of-Ty m → Row_of-Ty n → Bool
  same_row end_of-Ty end_of-Ty = true
  same_row (more_of-Ty t ts) (more_of-Ty u us) = same t u && same_row ts us
  same_row _ _ = false

  -- whether two rows of slots are the same
  pub same_slot_row : {m n : _} → Row_of-Slot m → Row_of-Slot n → Bool
  same_slot_row end_of-Slot end_of-Slot = true
  same_slot_row (more_of-Slot t s ss) (more_of-Slot u n rs) = (same t u && (s == n)) && same_slot_row ss rs
  same_slot_row _ _ = false

-- whether lists of types are the same, one for one
abbrev pub same_types : List Ty → List Ty → Bool
same_types [] [] = true
same_types (t ∷ ts) (u ∷ us) = same t u && same_types ts us
same_types _ _ = false

-- whether two function types are the same
abbrev pub same_function : FunType → FunType → Bool
same_function f g = (same_binders f.binders g.binders && same_types f.params g.params) && same_types f.results g.results
