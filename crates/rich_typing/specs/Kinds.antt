-- Qualifiers and sizes of types, under the binders around them. This project's own.
use Rattle.std.specs.Prelude.{ℕ, ◌+◌, List, [], ◌∷◌, ◌++◌, Bool, true, false, Option, Some, None, slice_get}
use Rattle.rw_types.specs.declared.types.Binder.{Binder}
use Rattle.rw_types.specs.declared.types.Binder.TheVariants.{Loc, Kind}
use Rattle.rw_types.specs.declared.types.Qual.{Qual}
use Rattle.rw_types.specs.declared.types.Qual.TheVariants.{Unr, Lin}
use Rattle.rw_types.specs.declared.types.Ty.{Ty, Of, Var, Rec', Row_of-Ty, end_of-Ty, more_of-Ty}
use Rattle.rw_types.specs.declared.types.Pre.{Pre, Unit, I32, I64, Tuple', Ref, Ptr, Cap, Own, Hidden', Code'}

-- what a type variable stands for: a type of this qualifier and size in words
pub record TypeKind : Type 0 where
  pub qual : Qual
  pub size : ℕ

-- the type variables of a row of binders, the innermost first
abbrev pub kinds_of : List Binder → List TypeKind
kinds_of [] = []
kinds_of (Loc m ∷ binders) = kinds_of binders
kinds_of (Kind q s ∷ binders) = kinds_of binders ++ record { qual = q; size = s } ∷ []

-- the type variable of this number
abbrev pub kind_of : List Binder → ℕ → Option TypeKind
kind_of binders n = slice_get (kinds_of binders) n

-- the qualifier of a type variable; `lin` where there is none
abbrev pub qual_in : Option TypeKind → Qual
qual_in (Some k) = k.qual
qual_in None = Lin

-- the qualifier of a type
abbrev pub qual_of : List Binder → Ty → Qual
qual_of binders (Of q p) = q
qual_of binders (Var n) = qual_in (kind_of binders n)
qual_of binders (Rec' q s m t) = q

-- whether a value of this qualifier may be dropped and copied
abbrev pub is_unr : Qual → Bool
is_unr Unr = true
is_unr Lin = false

-- the words of a type variable; none where there is no such variable
abbrev pub size_in : Option TypeKind → ℕ
size_in (Some k) = k.size
size_in None = 0

abbrev mutual
  -- the size of a type in words, under these binders
  pub size : List Binder → Ty → ℕ
  size binders (Of q p) = size_pre binders p
  size binders (Var n) = size_in (kind_of binders n)
  size binders (Rec' q s m t) = s

  -- the size of a type without its qualifier
  pub size_pre : List Binder → Pre → ℕ
  size_pre binders Unit = 0
  size_pre binders I32 = 1
  size_pre binders I64 = 1
  size_pre binders (Tuple' m ts) = size_row binders ts
  size_pre binders (Ref p l h) = 1
  size_pre binders (Ptr l) = 1
  size_pre binders (Cap p l h) = 0
  size_pre binders (Own l) = 0
  size_pre binders (Hidden' m a (more_of-Ty t end_of-Ty)) = size (binders ++ Loc m ∷ []) t
  size_pre binders (Code' a f) = 1

  -- the sizes of the parts of a tuple together
  pub size_row : List Binder → {n : _} → Row_of-Ty n → ℕ
  size_row binders end_of-Ty = 0
  size_row binders (more_of-Ty t ts) = size binders t + size_row binders ts

-- the sizes of these types together
abbrev pub words_of : List Binder → List Ty → ℕ
words_of binders [] = 0
words_of binders (t ∷ ts) = size binders t + words_of binders ts
