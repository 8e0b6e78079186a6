-- Rows on functions, their types and arguments. This project's own.
use Rattle.std.specs.Prelude.{ℕ, List, [], ◌∷◌, ◌&&◌, ◌==◌, Bool, true, false, is_some, Option, Some, None, reverse, slice_get}
use Rattle.rw_types.specs.declared.types.Arg.{Arg}
use Rattle.rw_types.specs.declared.types.Arg.TheVariants.{Loc as to_location, Given as to_type}
use Rattle.rw_types.specs.declared.types.Binder.{Binder}
use Rattle.rw_types.specs.declared.types.Binder.TheVariants.{Loc, Kind}
use Rattle.rw_types.specs.declared.types.FunType.{FunType}
use Rattle.rw_types.specs.declared.types.Mem.{Mem}
use Rattle.rw_types.specs.declared.types.Pre.TheVariants.{Code}
use Rattle.rw_types.specs.declared.types.Qual.TheVariants.{Unr}
use Rattle.rw_types.specs.declared.types.Ty.{Ty, Of}
use Rattle.rich_types.specs.Scopes.{Scope, memory_of}
use Rattle.rich_types.specs.Sizes.{size_under}
use Rattle.rich_typing.specs.declared.rules.Rule.TheVariants as rule
use Rattle.rich_rules.specs.Equality.{same_memory}
use Rattle.rich_rules.specs.Forms.{has_qual, first_ill_formed}
use Rattle.rich_rules.specs.Points.{Frame, Outcome}
use Rattle.rich_rules.specs.Raised.{instances}
use Rattle.rich_rules.specs.Takers.{need, with_some, without, one, these, one_over, code_form, gives, gives_formed, gives_all_formed}

-- whether each location among the arguments has a binder
abbrev pub are_locations : Scope → List Arg → Bool
are_locations c [] = true
are_locations c (to_location l ∷ args) = is_some (memory_of c l) && are_locations c args
are_locations c (to_type t ∷ args) = are_locations c args

-- the types among the arguments
abbrev pub argument_types : List Arg → List Ty
argument_types [] = []
argument_types (to_location l ∷ args) = argument_types args
argument_types (to_type t ∷ args) = t ∷ argument_types args

-- whether there is such a location, of this memory
abbrev pub is_of_memory : Option Mem → Mem → Bool
is_of_memory (Some n) m = same_memory n m
is_of_memory None m = false

-- whether arguments answer binders, one for one: a location one of its memory, a type one of exactly its qualifier and
-- size
abbrev pub answer_all : Scope → List Binder → List Arg → Bool
answer_all c [] [] = true
answer_all c (Loc m ∷ bs) (to_location l ∷ args) = is_of_memory (memory_of c l) m && answer_all c bs args
answer_all c (Kind q s ∷ bs) (to_type t ∷ args) = (has_qual c q t && (size_under c t == s)) && answer_all c bs args
answer_all c _ _ = false

-- the conditions of arguments: that locations have binders, and that types are well formed
abbrev pub with_arguments : Scope → List Arg → Outcome → Outcome
with_arguments c args rest = need (are_locations c args) rule.Index None None (without (first_ill_formed c (argument_types args)) rule.TypeForm rest)

-- the type of a function whose binders are answered
abbrev pub instantiated : FunType → List Arg → FunType
instantiated g args = record { binders = []; params = instances args g.params; results = instances args g.results }

-- `coderef` gives a function as a value
abbrev pub coderef_row : Frame → Scope → ℕ → List Ty → Outcome
coderef_row f c n operands = with_some (slice_get f.functions n) rule.Index None (λ g. gives_formed c (Of Unr (Code g)) operands)

-- `inst` answers all binders of such a value
abbrev pub inst_row : Scope → List Arg → List Ty → Outcome
inst_row c args operands = with_arguments c args (one operands (λ t beneath. code_form t (λ g. need (answer_all c g.binders args) rule.Instance None None (gives_formed c (Of Unr (Code (instantiated g args))) beneath))))

-- `call`
abbrev pub call_row : Frame → Scope → ℕ → List Arg → List Ty → Outcome
call_row f c n args operands = with_some (slice_get f.functions n) rule.Index None (λ g. with_arguments c args (need (answer_all c g.binders args) rule.Instance None None (these (reverse (instances args g.params)) operands (λ beneath. gives_all_formed c (instances args g.results) beneath))))

-- whether there are no binders
abbrev pub has_none : List Binder → Bool
has_none [] = true
has_none (b ∷ bs) = false

-- `call_indirect` calls the function on top of the operands
abbrev pub call_indirect_row : List Ty → Outcome
call_indirect_row operands = one operands (λ t under. code_form t (λ g. need (has_none g.binders) rule.OperandType (Some t) None (one_over (reverse g.params) operands (λ code beneath. gives (reverse g.results) beneath))))
