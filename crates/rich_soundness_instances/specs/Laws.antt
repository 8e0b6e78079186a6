-- Closed types, and arguments where something stands for the binders around them. This project's own.
use Rattle.std.specs.Prelude.{◌≡◌, List}
use Rattle.rw_types.specs.declared.types.Arg.{Arg}
use Rattle.rw_types.specs.declared.types.Binder.{Binder}
use Rattle.rw_types.specs.declared.types.FunType.{FunType}
use Rattle.rw_types.specs.declared.types.Ty.{Ty}
use Rattle.rich_types.specs.Scopes.{Scope, no_scope, scope_of}
use Rattle.rich_types.specs.Sizes.{list_size}
use Rattle.rich_types.specs.WellFormed.{IsWellFormed, IsWellFormedFunction}
use Rattle.rich_types.specs.Walks.{below, outside, walk_list}
use Rattle.rich_types.specs.Instances.{Substitution, substituting, substitution_of}
use Rattle.rich_types_laws.specs.Laws.{AnswerAll}
use Rattle.rich_rules.specs.Raised.{instances}
use Rattle.rich_soundness_values.specs.Heaps.{Answer, all_at, at, function_at}
use Rattle.rich_soundness_binders.specs.Laws.{under}

-- these arguments, where something stands for the binders around them
abbrev pub argued : Substitution → List Arg → Substitution
argued g args = under g (substitution_of args)

-- a type that is well formed outside all binders has no numbers of binders in it
abbrev pub TypesAreClosed : Type 0
TypesAreClosed = (g : Substitution) (t : Ty) → IsWellFormed no_scope t → at g t ≡ t

-- nor has such a function type
abbrev pub FunctionsAreClosed : Type 0
FunctionsAreClosed = (g : Substitution) (f : FunType) → IsWellFormedFunction no_scope f → function_at g f ≡ f

-- arguments that answer binders do so where names and closed types stand for the binders around
abbrev pub ArgumentsAnswer : Type 0
ArgumentsAnswer = (g : Substitution) (c : Scope) (args : List Arg) (bs : List Binder) → Answer g c → AnswerAll c args bs → Answer (argued g args) (scope_of bs)

-- what becomes of an instance is what becomes of its types under the binders, with the arguments put in
abbrev pub InstancesPutIn : Type 0
InstancesPutIn = (g : Substitution) (c : Scope) (args : List Arg) (bs : List Binder) (ts : List Ty) → AnswerAll c args bs → all_at g (instances args ts) ≡ all_at (argued g args) (walk_list (substituting g) (below bs outside) ts)

-- so the results of an instance of a function's type have the words that they have under its binders
abbrev pub SizesKept : Type 0
SizesKept = (g : Substitution) (c : Scope) (args : List Arg) (f : FunType) → Answer g c → AnswerAll c args f.binders → IsWellFormedFunction no_scope f →
    list_size no_scope (all_at g (instances args f.results)) ≡ list_size (scope_of f.binders) f.results
