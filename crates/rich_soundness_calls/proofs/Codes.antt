-- What a value of a function type is: a function, and what answers its binders.
use Rattle.std.proofs.Common.{◌≡◌, ◌∙◌, ℕ, List, [], ◌∷◌, Some, refl, sym, ap, subst}
use Rattle.std.specs.Prelude.{slice_get}
use Rattle.rw_types.specs.declared.types.Arg.{Arg}
use Rattle.rw_types.specs.declared.types.Binder.{Binder}
use Rattle.rw_types.specs.declared.types.FunType.{FunType}
use Rattle.rw_types.specs.declared.types.Pre.{Code', end_of-FunType, more_of-FunType}
use Rattle.rw_types.specs.declared.types.Pre.TheVariants.{Code}
use Rattle.rw_types.specs.declared.types.Heap.TheBlock.{hidden-the_row-Ty-1, hidden-the_row-FunType-3}
use Rattle.rw_types.specs.declared.types.Qual.{Qual}
use Rattle.rw_types.specs.declared.types.Qual.TheVariants.{Unr}
use Rattle.rw_types.specs.declared.types.Ty.{Ty, Of, items-the_row-Ty, items_hidden-the_row-Ty-1}
use Rattle.rich_types.specs.Scopes.{Scope, no_scope, scope_of}
use Rattle.rich_types.specs.WellFormed.{IsWellFormedFunction}
use Rattle.rich_types.specs.Walks.{below, outside, walk_list}
use Rattle.rich_types.specs.Instances.{Substitution, substituting, no_substitution}
use Rattle.rich_types_laws.specs.Laws.{AnswerAll}
use Rattle.rich_types.proofs.Shapes.{walk-Code}
use Rattle.rich_rules.specs.Calls.{instantiated}
use Rattle.rich_rules.specs.Raised.{instances}
use Rattle.rich_reduction.specs.Configurations as value
use Rattle.rich_reduction.specs.Configurations.{Val}
use Rattle.rich_soundness_values.specs.Heaps.{Heaps, Answer, all_at, at, function_at}
use Rattle.rich_soundness_values.specs.Values.{HasType, HaveTypes, more_types, is_code, is_instance}
use Rattle.rich_soundness_rows.proofs.Forms.{function_of}
use Rattle.rich_soundness_instances.specs.Laws.{argued}
use Rattle.rich_soundness_instances.proofs.Closed.{functions_are_closed, nothing_put_in}
use Rattle.rich_soundness_instances.proofs.Argued.{arguments_answer, instances_put_in}

-- the function type in a type
abbrev no_function : FunType
no_function = record { binders = []; params = []; results = [] }

abbrev function_in : Ty → FunType
function_in (Of q (Code' a (more_of-FunType bs m ps n rs end_of-FunType))) = record { binders = bs; params = items-the_row-Ty _ ps; results = items-the_row-Ty _ rs }
function_in t = no_function

in_code : (q : Qual) (f : FunType) → function_in (Of q (Code f)) ≡ f
unfolding hidden-the_row-FunType-3 hidden-the_row-Ty-1 denote.Hole.Carrier.hidden
in_code q f =
    ap (λ (l : List Ty). record { binders = f.binders; params = l; results = items-the_row-Ty _ (hidden-the_row-Ty-1 f.results) }) (items_hidden-the_row-Ty-1 f.params)
    ∙ ap (λ (l : List Ty). record { binders = f.binders; params = f.params; results = l }) (items_hidden-the_row-Ty-1 f.results)

same_code : {q r : Qual} {f k : FunType} → Of q (Code f) ≡ Of r (Code k) → f ≡ k
same_code {q = q} {r = r} {f = f} {k = k} e = sym (in_code q f) ∙ ap function_in e ∙ in_code r k

pub code_at : (g : Substitution) (q : Qual) (f : FunType) → at g (Of q (Code f)) ≡ Of q (Code (function_at g f))
code_at g q f = ap (Of q) (walk-Code (substituting g) outside f)

-- the type of the instance of a function by what answers its binders
abbrev pub answered_type : FunType → Substitution → FunType
answered_type f g = record { binders = []; params = all_at g f.params; results = all_at g f.results }

-- a function whose binders are answered, and its type so
pub record IsAnswered (hs : Heaps) (k : ℕ) (t : FunType) : Type 0 where
  pub function : FunType
  pub found : slice_get hs.functions k ≡ Some function
  pub answers : Substitution
  pub answered : Answer answers (scope_of function.binders)
  pub is : answered_type function answers ≡ t

-- the functions' types are well formed outside all binders
abbrev pub AreFormed : Heaps → Type 0
AreFormed hs = (n : ℕ) (t : FunType) → slice_get hs.functions n ≡ Some t → IsWellFormedFunction no_scope t

-- one without binders is answered by nothing
unbound : (f : FunType) → f.binders ≡ [] → answered_type f no_substitution ≡ f
unbound f e =
    ap (λ (l : List Binder). record { binders = l; params = all_at no_substitution f.params; results = all_at no_substitution f.results }) (sym e)
    ∙ ap (λ (l : List Ty). record { binders = f.binders; params = l; results = all_at no_substitution f.results }) (nothing_put_in f.params)
    ∙ ap (λ (l : List Ty). record { binders = f.binders; params = f.params; results = l }) (nothing_put_in f.results)

none_answers : (bs : List Binder) → bs ≡ [] → Answer no_substitution (scope_of bs)
none_answers bs e = subst (λ (l : List Binder). Answer no_substitution (scope_of l)) (sym e) (record { locations = tt; variables = tt })

-- a value of a type without binders is such a function
pub code_answered : {hs : Heaps} {k : ℕ} {t : Ty} (q : Qual) (f : FunType) → AreFormed hs → f.binders ≡ [] → HasType hs (value.Code k) t → t ≡ Of q (Code f) → IsAnswered hs k f
code_answered q f formed none (is_code r x g found e) z =
    let s : x ≡ f = sym (functions_are_closed g x (formed _ x found)) ∙ same_code (sym e ∙ z) in
    let b : x.binders ≡ [] = ap (λ (y : FunType). y.binders) s ∙ none in
    record { function = x; found = found; answers = no_substitution; answered = none_answers x.binders b; is = unbound x b ∙ s }
code_answered q f formed none (is_instance r x g found a e) z = record { function = x; found = found; answers = g; answered = a; is = same_code (sym e ∙ z) }

-- the type of an instance, where something stands for the binders around it
module _ (g : Substitution) (c : Scope) (args : List Arg) (f : FunType) (all : AnswerAll c args f.binders) where
  pub instantiated_at : function_at g (instantiated f args) ≡ answered_type (function_at g f) (argued g args)
  instantiated_at =
      ap (λ (l : List Ty). record { binders = []; params = l; results = all_at g (instances args f.results) }) (instances_put_in g c args f.binders f.params all)
      ∙ ap (λ (l : List Ty). record { binders = []; params = all_at (argued g args) (walk_list (substituting g) (below f.binders outside) f.params); results = l }) (instances_put_in g c args f.binders f.results all)

no_arguments : (c : Scope) (args : List Arg) (bs : List Binder) → AnswerAll c args bs → bs ≡ [] → args ≡ []
no_arguments c [] bs a e = refl
no_arguments c (x ∷ args) [] a e = absurd a
no_arguments c (x ∷ args) (b ∷ bs) a e = cc

-- a function whose binders are answered has the type of its instance
pub code_instantiated : {hs : Heaps} {k : ℕ} {t : Ty} (g : Substitution) (c : Scope) (args : List Arg) (q : Qual) (f : FunType) → AreFormed hs → Answer g c → AnswerAll c args f.binders → HasType hs (value.Code k) t → t ≡ Of q (Code (function_at g f)) →
    HasType hs (value.Code k) (at g (Of Unr (Code (instantiated f args))))
code_instantiated g c args q f formed answered all (is_code r x h found e) z =
    let s : x ≡ function_at g f = sym (functions_are_closed h x (formed _ x found)) ∙ same_code (sym e ∙ z) in
    is_instance Unr x (argued g args) found
    (subst (λ (bs : List Binder). Answer (argued g args) (scope_of bs)) (sym (ap (λ (y : FunType). y.binders) s)) (arguments_answer g c args f.binders answered all))
    (code_at g Unr (instantiated f args) ∙ ap (λ (y : FunType). Of Unr (Code y)) (instantiated_at g c args f all ∙ ap (λ (y : FunType). answered_type y (argued g args)) (sym s)))
code_instantiated g c args q f formed answered all (is_instance r x h found a e) z =
    let s : answered_type x h ≡ function_at g f = same_code (sym e ∙ z) in
    let none : args ≡ [] = no_arguments c args f.binders all (sym (ap (λ (y : FunType). y.binders) s)) in
    is_instance Unr x h found a
    (code_at g Unr (instantiated f args)
    ∙ ap (λ (y : FunType). Of Unr (Code y)) (instantiated_at g c args f all
    ∙ ap (λ (l : List Arg). answered_type (function_at g f) (argued g l)) none
    ∙ ap (λ (y : FunType). answered_type y no_substitution) (sym s)
    ∙ unbound (answered_type x h) refl))

-- a function on top of operands is taken
pub code_taken : (hs : Heaps) (vs : List Val) (q : Qual) (f : FunType) (ts : List Ty) (P : List Val → Type 0) → HaveTypes hs vs (Of q (Code f) ∷ ts) →
    ((k : ℕ) (rest : List Val) → HasType hs (value.Code k) (Of q (Code f)) → HaveTypes hs rest ts → P (value.Code k ∷ rest)) → P vs
code_taken hs [] q f ts P h k = elim h [ ]
code_taken hs (v ∷ vs) q f ts P (more_types h hv) k =
    let r = function_of h refl in
    subst (λ (x : Val). P (x ∷ vs)) (sym r.1) (k r.0 vs (subst (λ (x : Val). HasType hs x (Of q (Code f))) r.1 h) hv)
