-- What holds of types that are raised past a binder, and of arguments that are told to answer binders. This project's own.
use Rattle.std.specs.Prelude.{◌≡◌, ◌↔◌, List, [], ◌∷◌, None, IsTrue}
use Rattle.rw_types.specs.declared.types.Arg.{Arg}
use Rattle.rw_types.specs.declared.types.Binder.{Binder}
use Rattle.rw_types.specs.declared.types.Ty.{Ty}
use Rattle.rich_types.specs.Scopes.{Scope, within}
use Rattle.rich_types.specs.Sizes.{qual_under, size_under}
use Rattle.rich_types.specs.WellFormed.{IsWellFormed}
use Rattle.rich_types.specs.Instances.{raise}
use Rattle.rich_types_laws.specs.Laws.{AnswerAll}
use Rattle.rich_rules.specs.Raised.{below_one}
use Rattle.rich_rules.specs.Forms.{first_ill_formed}
use Rattle.rich_rules.specs.Calls.{answer_all, argument_types}

-- a well-formed type that is raised past a binder is well formed under it, of the same qualifier and size
abbrev pub RaisedKept : Type 0
RaisedKept = (c : Scope) (b : Binder) (t : Ty) → IsWellFormed c t →
    IsWellFormed (within (b ∷ []) c) (raise (below_one b) t) × (qual_under (within (b ∷ []) c) (raise (below_one b) t) ≡ qual_under c t) × (size_under (within (b ∷ []) c) (raise (below_one b) t) ≡ size_under c t)

-- arguments are told to answer binders, and their types to be well formed, exactly where they answer them
abbrev pub ArgumentsTold : Type 0
ArgumentsTold = (c : Scope) (bs : List Binder) (args : List Arg) → (IsTrue (answer_all c bs args) × (first_ill_formed c (argument_types args) ≡ None)) ↔ AnswerAll c args bs
