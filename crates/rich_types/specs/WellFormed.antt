-- Well-formed types. Each number has a binder of its kind, sizes and words are at most 10,000, what is
-- `unr` has `unr` parts, and rights to locations are as their memories allow. This project's own.
use Rattle.std.specs.Prelude.{◌≡◌, ◌≤◌, ℕ, List, [], ◌∷◌, Option, Some, IsSome, ⊤}
use Rattle.std.specs.Option.{IsSomeAnd}
use Rattle.rw_types.specs.declared.types.Mem.{Mem}
use Rattle.rw_types.specs.declared.types.Mem.TheVariants.{L, U}
use Rattle.rw_types.specs.declared.types.Priv.{Priv}
use Rattle.rw_types.specs.declared.types.Priv.TheVariants.{Rw}
use Rattle.rw_types.specs.declared.types.Qual.{Qual}
use Rattle.rw_types.specs.declared.types.Qual.TheVariants.{Unr, Lin}
use Rattle.rw_types.specs.declared.types.Slot.{Slot}
use Rattle.rw_types.specs.declared.types.FunType.{FunType}
use Rattle.rw_types.specs.declared.types.Ty.{Ty, Of, Var, Rec', Row_of-Ty, end_of-Ty, more_of-Ty}
use Rattle.rw_types.specs.declared.types.Pre.{Pre, Unit, I32, I64, Tuple', Ref, Ptr, Cap, Own, Hidden', Code', end_of-FunType, more_of-FunType}
use Rattle.rw_types.specs.declared.types.Heap.{Heap, Struct', Variant', Array', Exist', Row_of-Slot, end_of-Slot, more_of-Slot}
use Rattle.rich_types.specs.Scopes.{Scope, with_location, with_variable, within, memory_of, variable_of}
use Rattle.rich_types.specs.Sizes.{qual_under, size_under, pre_size, heap_words}

-- the greatest size of a type, and the most words of what stands at a location
abbrev pub most_words : ℕ
most_words = 10000

-- the order of qualifiers: `unr` is below `lin`
abbrev pub IsAtMost : Qual → Qual → Type 0
IsAtMost Unr r = ⊤
IsAtMost Lin Lin = ⊤
IsAtMost Lin Unr = ⊥

-- the greatest qualifier of what stands in a variant or an existential package of this memory
abbrev pub content_qual : Mem → Qual
content_qual L = Lin
content_qual U = Unr

-- a reference to a location of the linear memory is `lin`, and one to a location of the other memory reads and
-- writes
abbrev pub MayRefer : Qual → Priv → Mem → Type 0
MayRefer q p L = q ≡ Lin
MayRefer q p U = p ≡ Rw

-- a capability and the right to write are `lin`, and of a location of the linear memory
abbrev pub MayOwn : Qual → Option Mem → Type 0
MayOwn q m = (q ≡ Lin) × (m ≡ Some L)

-- the body of a recursive type has the qualifier and the size that are written
abbrev pub IsBodyOf : Qual → ℕ → Scope → Ty → Type 0
IsBodyOf q s c t = (qual_under c t ≡ q) × (size_under c t ≡ s)

abbrev mutual
  -- a well-formed type
  pub IsWellFormed : Scope → Ty → Type 0
  IsWellFormed c (Of q p) = (pre_size c p ≤ most_words) × IsWellFormedPre c q p
  IsWellFormed c (Var n) = IsSomeAnd (variable_of c n) (λ k. k.size ≤ most_words)
  IsWellFormed c (Rec' q s a (more_of-Ty t end_of-Ty)) = (s ≤ most_words) × IsWellFormed (with_variable q s c) t × IsBodyOf q s (with_variable q s c) t

  -- a form of value that is well formed with this qualifier
  pub IsWellFormedPre : Scope → Qual → Pre → Type 0
  IsWellFormedPre c q Unit = ⊤
  IsWellFormedPre c q I32 = ⊤
  IsWellFormedPre c q I64 = ⊤
  IsWellFormedPre c q (Tuple' m ts) = IsRowOfParts c q ts
  IsWellFormedPre c q (Ref p l h) = IsSomeAnd (memory_of c l) (λ m. MayRefer q p m × IsWellFormedHeap c m h)
  IsWellFormedPre c q (Ptr l) = IsSome (memory_of c l)
  IsWellFormedPre c q (Cap p l h) = MayOwn q (memory_of c l) × IsWellFormedHeap c L h
  IsWellFormedPre c q (Own l) = MayOwn q (memory_of c l)
  IsWellFormedPre c q (Hidden' m a (more_of-Ty t end_of-Ty)) = IsWellFormed (with_location m c) t × IsAtMost (qual_under (with_location m c) t) q
  IsWellFormedPre c q (Code' a (more_of-FunType bs m ps n rs end_of-FunType)) = IsRowOfParts (within bs c) Lin ps × IsRowOfParts (within bs c) Lin rs

  -- what may stand at a location of this memory
  pub IsWellFormedHeap : Scope → Mem → Heap → Type 0
  IsWellFormedHeap c m (Struct' n ss) = (heap_words c (Struct' n ss) ≤ most_words) × IsRowOfSlots c ss
  IsWellFormedHeap c m (Variant' n ts) = (heap_words c (Variant' n ts) ≤ most_words) × IsRowOfParts c (content_qual m) ts
  IsWellFormedHeap c m (Array' a (more_of-Ty t end_of-Ty)) = (heap_words c (Array' a (more_of-Ty t end_of-Ty)) ≤ most_words) × IsWellFormed c t × IsAtMost (qual_under c t) Unr
  IsWellFormedHeap c m (Exist' q s a (more_of-Ty t end_of-Ty)) = (heap_words c (Exist' q s a (more_of-Ty t end_of-Ty)) ≤ most_words) × IsWellFormed (with_variable q s c) t × IsAtMost (qual_under (with_variable q s c) t) (content_qual m)

  -- well-formed types of at most this qualifier
  pub IsRowOfParts : {n : _} → Scope → Qual → Row_of-Ty n → Type 0
  IsRowOfParts c q end_of-Ty = ⊤
  IsRowOfParts c q (more_of-Ty t ts) = IsWellFormed c t × IsAtMost (qual_under c t) q × IsRowOfParts c q ts

  -- slots, each as large as its well-formed type or larger
  pub IsRowOfSlots : {n : _} → Scope → Row_of-Slot n → Type 0
  IsRowOfSlots c end_of-Slot = ⊤
  IsRowOfSlots c (more_of-Slot t s ss) = IsWellFormed c t × (size_under c t ≤ s) × IsRowOfSlots c ss

-- a well-formed type of at most this qualifier
abbrev pub IsPart : Scope → Qual → Ty → Type 0
IsPart c q t = IsWellFormed c t × IsAtMost (qual_under c t) q

-- each type is such a part
abbrev pub AreParts : Scope → Qual → List Ty → Type 0
AreParts c q [] = ⊤
AreParts c q (t ∷ ts) = IsWellFormed c t × IsAtMost (qual_under c t) q × AreParts c q ts

-- each slot is as large as its well-formed type or larger
abbrev pub AreSlots : Scope → List Slot → Type 0
AreSlots c [] = ⊤
AreSlots c (s ∷ ss) = IsWellFormed c s.ty × (size_under c s.ty ≤ s.size) × AreSlots c ss

-- a well-formed function type: under its binders its parameters and results are well formed, of any qualifier
abbrev pub IsWellFormedFunction : Scope → FunType → Type 0
IsWellFormedFunction c f = AreParts (within f.binders c) Lin f.params × AreParts (within f.binders c) Lin f.results
