-- Sizes of types that are well formed elsewhere: under more binders, and with arguments put in.
use Rattle.std.proofs.Common.{◌≡◌, ◌∙◌, ◌≤◌, ℕ, zero, suc, ◌+◌, List, [], ◌∷◌, Some, length, refl, ap, subst, arith}
use Rattle.std.specs.Option.{IsSomeAnd}
use Rattle.std.proofs.Math.Path.{subst⁻¹}
use Rattle.rw_types.specs.declared.types.Arg.{Arg}
use Rattle.rw_types.specs.declared.types.Binder.{Binder}
use Rattle.rw_types.specs.declared.types.Binder.TheVariants.{Kind, Loc}
use Rattle.rw_types.specs.declared.types.FunType.{FunType}
use Rattle.rw_types.specs.declared.types.Heap.TheBlock.{hidden-the_row-FunType-3}
use Rattle.rw_types.specs.declared.types.Mem.{Mem}
use Rattle.rw_types.specs.declared.types.Pre.TheVariants.{Code}
use Rattle.rw_types.specs.declared.types.Qual.{Qual}
use Rattle.rw_types.specs.declared.types.Ty.{Of, Ty, Var, items_hidden-the_row-Ty-1}
use Rattle.rich_types.specs.declared.depth.Depth.{Depth}
use Rattle.rich_types.specs.declared.variables.VariableKind.{VariableKind}
use Rattle.rich_types.specs.Scopes.{Scope, memory_of, no_scope, scope_of, variable_of, with_location, with_variable, within}
use Rattle.rich_types.specs.Sizes.{list_size, qual_under, size_under, variable_qual, variable_size}
use Rattle.rich_types.specs.WellFormed.{IsWellFormed, most_words}
use Rattle.rich_types.specs.Walks.{Leaves, outside}
use Rattle.rich_types.specs.Instances.{instance}
use Rattle.rich_types.proofs.Sized.{size-Tuple}
use Rattle.rich_types_laws.specs.Laws.{AnswerAll}
use Rattle.rich_types_laws.proofs.Answered.{well_formed_instance}
use Rattle.rich_types_laws.proofs.Carried.{Carries, Keeps, carried}
use Rattle.rich_types_laws.proofs.Unchanged.{unchanged}
use Rattle.rich_rules.specs.Raised.{instances}
use Rattle.rich_rules.specs.Table.{indirect_count}
use Rattle.rich_rules_formed.specs.Formed.{AreFormed}
use Rattle.layout.specs.Calls.{code_results}

-- what is bound in a scope is bound alike in another
pub record Includes (d : Depth) (c e : Scope) : Type 0 where
  pub location : (n : ℕ) (m : Mem) → memory_of c n ≡ Some m → memory_of e n ≡ Some m
  pub variable : (n : ℕ) (k : VariableKind) → variable_of c n ≡ Some k → variable_of e n ≡ Some k

abbrev stays : Leaves
stays = record { location = λ d n. n; variable = λ d n. Var n }

location_more : (m : Mem) (c e : Scope) → ((n : ℕ) (k : Mem) → memory_of c n ≡ Some k → memory_of e n ≡ Some k) → (n : ℕ) (k : Mem) → memory_of (with_location m c) n ≡ Some k → memory_of (with_location m e) n ≡ Some k
location_more m c e h zero k x = x
location_more m c e h (suc n) k x = h n k x

variable_more : (q : Qual) (s : ℕ) (c e : Scope) → ((n : ℕ) (k : VariableKind) → variable_of c n ≡ Some k → variable_of e n ≡ Some k) → (n : ℕ) (k : VariableKind) → variable_of (with_variable q s c) n ≡ Some k → variable_of (with_variable q s e) n ≡ Some k
variable_more q s c e h zero k x = x
variable_more q s c e h (suc n) k x = h n k x

kept_variable : (e : Scope) (n : ℕ) (k : VariableKind) → variable_of e n ≡ Some k → k.size ≤ most_words → Keeps e (Var n) k.qual k.size
kept_variable e n k is few = record {
  form = subst⁻¹ (λ o. IsSomeAnd o (λ (v : VariableKind). v.size ≤ most_words)) is few;
  qual = ap variable_qual is;
  size = ap variable_size is;
}

stays_carries : Carries stays Includes
stays_carries = record {
  location = λ d c e at n m is. at.location n m is;
  variable = λ d c e at n k is few. kept_variable e n k (at.variable n k is) few;
  deeper_location = λ d c e at m. record { location = location_more m c e at.location; variable = at.variable };
  deeper_variable = λ d c e at q s. record { location = at.location; variable = variable_more q s c e at.variable };
}

-- a well-formed type is well formed where more is bound, with its size
pub widened : (c e : Scope) (t : Ty) → Includes outside c e → IsWellFormed c t → Keeps e t (qual_under c t) (size_under c t)
widened c e t h w =
    subst (λ (u : Ty). Keeps e u (qual_under c t) (size_under c t)) (unchanged stays (record { location = λ d n. refl; variable = λ d n. refl }) outside t) (carried stays_carries outside c e h t w)

pub nothing_included : (c : Scope) → Includes outside no_scope c
nothing_included c = record { location = λ n m e. none n m e; variable = λ n k e. no_variable n k e }
  where
    none : (n : ℕ) (m : Mem) → memory_of no_scope n ≡ Some m → memory_of c n ≡ Some m
    none n m e = cc

    no_variable : (n : ℕ) (k : VariableKind) → variable_of no_scope n ≡ Some k → variable_of c n ≡ Some k
    no_variable n k e = cc

included_within : (bs : List Binder) (c e : Scope) → Includes outside c e → Includes outside (within bs c) (within bs e)
included_within [] c e h = h
included_within (Loc m ∷ bs) c e h = included_within bs (with_location m c) (with_location m e) (record { location = location_more m c e h.location; variable = h.variable })
included_within (Kind q s ∷ bs) c e h = included_within bs (with_variable q s c) (with_variable q s e) (record { location = h.location; variable = variable_more q s c e h.variable })

-- a type that is well formed outside all binders has its size everywhere
pub closed_size : (c : Scope) (t : Ty) → IsWellFormed no_scope t → size_under c t ≡ size_under no_scope t
closed_size c t w = (widened no_scope c t (nothing_included c) w).size

-- instances have the sizes that the types have under their binders
instance_size : (c : Scope) (bs : List Binder) (args : List Arg) (t : Ty) → AnswerAll c args bs → IsWellFormed (scope_of bs) t → size_under c (instance t args) ≡ size_under (scope_of bs) t
instance_size c bs args t answered w =
    let k = widened (scope_of bs) (within bs c) t (included_within bs no_scope c (nothing_included c)) w in
    (well_formed_instance c args bs t answered k.form).2 ∙ k.size

pub instances_size : (c : Scope) (bs : List Binder) (args : List Arg) (ts : List Ty) → AnswerAll c args bs → AreFormed (scope_of bs) ts → list_size c (instances args ts) ≡ list_size (scope_of bs) ts
instances_size c bs args [] answered w = refl
instances_size c bs args (t ∷ ts) answered w = omega (arith, instance_size c bs args t answered w.0, instances_size c bs args ts answered w.2)

pub instances_length : (args : List Arg) (ts : List Ty) → length (instances args ts) ≡ length ts
instances_length args [] = refl
instances_length args (t ∷ ts) = ap suc (instances_length args ts)

-- what a function's type gives
pub results_of_code : (c : Scope) (q : Qual) (g : FunType) → code_results c (Of q (Code g)) ≡ list_size (within g.binders c) g.results
unfolding hidden-the_row-FunType-3 denote.Hole.Carrier.hidden
results_of_code c q g = size-Tuple (within g.binders c) g.results

-- and how many operands a call through it takes
pub taken_by_code : (q : Qual) (g : FunType) (ts : List Ty) → indirect_count (Of q (Code g) ∷ ts) ≡ length g.params + 1
unfolding hidden-the_row-FunType-3 denote.Hole.Carrier.hidden
taken_by_code q g ts = ap (λ (l : List Ty). length l + 1) (items_hidden-the_row-Ty-1 g.params)
