-- What holds of all types and their instances. This project's own.
use Rattle.std.specs.Prelude.{◌≡◌, List, [], ◌∷◌, ◌++◌, map, Some, ⊤}
use Rattle.rw_types.specs.declared.types.Arg.{Arg}
use Rattle.rw_types.specs.declared.types.Arg.TheVariants.{Loc, Given}
use Rattle.rw_types.specs.declared.types.Binder.{Binder}
use Rattle.rw_types.specs.declared.types.Binder.TheVariants.{Loc as location_binder, Kind}
use Rattle.rw_types.specs.declared.types.Ty.{Ty}
use Rattle.rich_typing.specs.Kinds.{qual_of, size}
use Rattle.rich_types.specs.Scopes.{Scope, within, scope_of, memory_of}
use Rattle.rich_types.specs.Sizes.{qual_under, size_under}
use Rattle.rich_types.specs.WellFormed.{IsWellFormed, IsBodyOf}
use Rattle.rich_types.specs.Walks.{outside}
use Rattle.rich_types.specs.Instances.{raise, instance, substituting, substitution_of}

-- an argument under further arguments, which answer the binders around it
abbrev pub argument_under : List Arg → Arg → Arg
argument_under args (Loc l) = Loc ((substituting (substitution_of args)).location outside l)
argument_under args (Given t) = Given (instance t args)

-- an instance of an instance is one instance: by the outer arguments, and then the inner ones under these
abbrev pub InstanceOfInstance : Type 0
InstanceOfInstance = (t : Ty) (inner outer : List Arg) → instance (instance t inner) outer ≡ instance t (outer ++ map (argument_under outer) inner)

-- raising by nothing changes nothing
abbrev pub RaisedByNothing : Type 0
RaisedByNothing = (t : Ty) → raise outside t ≡ t

-- in this scope an argument answers a binder: a location of its memory, or a well-formed type of its qualifier and its
-- size
abbrev pub Answers : Scope → Arg → Binder → Type 0
Answers c (Loc l) (location_binder m) = memory_of c l ≡ Some m
Answers c (Given t) (Kind q s) = IsWellFormed c t × IsBodyOf q s c t
Answers c _ _ = ⊥

-- arguments answer all binders, one for one
abbrev pub AnswerAll : Scope → List Arg → List Binder → Type 0
AnswerAll c [] [] = ⊤
AnswerAll c (a ∷ args) (b ∷ bs) = Answers c a b × AnswerAll c args bs
AnswerAll c _ _ = ⊥

-- the instance of a well-formed type by arguments that answer the binders around it is well formed, of the qualifier
-- and the size that the type has under these
abbrev pub WellFormedInstance : Type 0
WellFormedInstance = (c : Scope) (args : List Arg) (bs : List Binder) (t : Ty) → AnswerAll c args bs → IsWellFormed (within bs c) t →
    IsWellFormed c (instance t args) × (qual_under c (instance t args) ≡ qual_under (within bs c) t) × (size_under c (instance t args) ≡ size_under (within bs c) t)

-- the sizes that the rules of bodies speak of are those of types
abbrev pub SizesAgree : Type 0
SizesAgree = (bs : List Binder) (t : Ty) → size bs t ≡ size_under (scope_of bs) t

-- and so are the qualifiers
abbrev pub QualifiersAgree : Type 0
QualifiersAgree = (bs : List Binder) (t : Ty) → qual_of bs t ≡ qual_under (scope_of bs) t
