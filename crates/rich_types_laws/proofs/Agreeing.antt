-- The sizes and qualifiers that the rules of bodies speak of are those of types under the scope of the same binders: by
-- induction on types.
use Rattle.std.proofs.Common.{◌≡◌, ◌∙◌, ℕ, zero, suc, ◌+◌, List, [], ◌∷◌, ◌++◌, map, Option, Some, None, refl, ap, sym, append_assoc}
use Rattle.std.specs.Prelude.{slice_get, option_map}
use Rattle.rw_types.specs.declared.types.Binder.{Binder}
use Rattle.rw_types.specs.declared.types.Binder.TheVariants.{Loc, Kind}
use Rattle.rw_types.specs.declared.types.Mem.{Mem}
use Rattle.rw_types.specs.declared.types.Ty.{Ty, Of, Var, Rec', Row_of-Ty, end_of-Ty, more_of-Ty}
use Rattle.rw_types.specs.declared.types.Pre.{Pre, Unit, I32, I64, Tuple', Ref, Ptr, Cap, Own, Hidden', Code'}
use Rattle.rich_typing.specs.Kinds.{TypeKind, kinds_of, kind_of, qual_in, size_in, size, size_pre, size_row}
use Rattle.rich_types.specs.declared.variables.VariableKind.{VariableKind}
use Rattle.rich_types.specs.Scopes.{Scope, no_scope, within, with_location, with_variable, scope_of, variable_of}
use Rattle.rich_types.specs.Sizes.{size_under, pre_size, row_size, variable_qual, variable_size}
use Rattle.rich_types_laws.specs.Laws.{SizesAgree, QualifiersAgree}

abbrev as_kind : VariableKind → TypeKind
as_kind v = record { qual = v.qual; size = v.size }

kinds-within : (bs : List Binder) (c : Scope) → kinds_of bs ++ map as_kind c.variables ≡ map as_kind (within bs c).variables
kinds-within [] c = refl
kinds-within (Loc m ∷ bs) c = kinds-within bs (with_location m c)
kinds-within (Kind q s ∷ bs) c = append_assoc (kinds_of bs) (record { qual = q; size = s } ∷ []) (map as_kind c.variables) ∙ kinds-within bs (with_variable q s c)

append_none : {A : Type 0} (xs : List A) → xs ++ [] ≡ xs
append_none [] = refl
append_none (x ∷ xs) = ap (λ l. x ∷ l) (append_none xs)

kinds-scope : (bs : List Binder) → kinds_of bs ≡ map as_kind (scope_of bs).variables
kinds-scope bs = sym (append_none (kinds_of bs)) ∙ kinds-within bs no_scope

got : (vs : List VariableKind) (n : ℕ) → slice_get (map as_kind vs) n ≡ option_map as_kind (slice_get vs n)
got [] n = refl
got (v ∷ vs) zero = refl
got (v ∷ vs) (suc n) = got vs n

size_got : (o : Option VariableKind) → size_in (option_map as_kind o) ≡ variable_size o
size_got (Some v) = refl
size_got None = refl

qual_got : (o : Option VariableKind) → qual_in (option_map as_kind o) ≡ variable_qual o
qual_got (Some v) = refl
qual_got None = refl

found : (bs : List Binder) (n : ℕ) → kind_of bs n ≡ option_map as_kind (variable_of (scope_of bs) n)
found bs n = ap (λ l. slice_get l n) (kinds-scope bs) ∙ got (scope_of bs).variables n

scope-last : (bs : List Binder) (m : Mem) (c : Scope) → within (bs ++ Loc m ∷ []) c ≡ with_location m (within bs c)
scope-last [] m c = refl
scope-last (Loc n ∷ bs) m c = scope-last bs m (with_location n c)
scope-last (Kind q s ∷ bs) m c = scope-last bs m (with_variable q s c)

pub qualifiers_agree : QualifiersAgree
qualifiers_agree bs (Of q p) = refl
qualifiers_agree bs (Var n) = ap qual_in (found bs n) ∙ qual_got (variable_of (scope_of bs) n)
qualifiers_agree bs (Rec' q s a t) = refl

mutual
  agree : (bs : List Binder) (t : Ty) → size bs t ≡ size_under (scope_of bs) t
  agree bs (Of q p) = agree_pre bs p
  agree bs (Var n) = ap size_in (found bs n) ∙ size_got (variable_of (scope_of bs) n)
  agree bs (Rec' q s a t) = refl

  agree_pre : (bs : List Binder) (p : Pre) → size_pre bs p ≡ pre_size (scope_of bs) p
  agree_pre bs Unit = refl
  agree_pre bs I32 = refl
  agree_pre bs I64 = refl
  agree_pre bs (Tuple' m ts) = agree_row bs ts
  agree_pre bs (Ref p l h) = refl
  agree_pre bs (Ptr l) = refl
  agree_pre bs (Cap p l h) = refl
  agree_pre bs (Own l) = refl
  agree_pre bs (Hidden' m a (more_of-Ty t end_of-Ty)) = agree (bs ++ Loc m ∷ []) t ∙ ap (λ c. size_under c t) (scope-last bs m no_scope)
  agree_pre bs (Code' a f) = refl

  agree_row : (bs : List Binder) {n : _} (ts : Row_of-Ty n) → size_row bs ts ≡ row_size (scope_of bs) ts
  agree_row bs end_of-Ty = refl
  agree_row bs (more_of-Ty t ts) = ap (λ (k : ℕ). k + size_row bs ts) (agree bs t) ∙ ap (λ (k : ℕ). size_under (scope_of bs) t + k) (agree_row bs ts)

pub sizes_agree : SizesAgree
sizes_agree bs t = agree bs t
