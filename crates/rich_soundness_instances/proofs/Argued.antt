-- Arguments where something stands for the binders around them.
use Rattle.std.proofs.Common.{◌≡◌, ◌∙◌, ℕ, ◌+◌, List, [], ◌∷◌, length, refl, sym, ap, arith}
use Rattle.std.proofs.lemmas.List.{length-map}
use Rattle.rw_types.specs.declared.types.Arg.{Arg}
use Rattle.rw_types.specs.declared.types.Arg.TheVariants as arg
use Rattle.rw_types.specs.declared.types.Binder.{Binder}
use Rattle.rw_types.specs.declared.types.Binder.TheVariants.{Loc, Kind}
use Rattle.rw_types.specs.declared.types.FunType.{FunType}
use Rattle.rw_types.specs.declared.types.Ty.{Ty}
use Rattle.rich_types.specs.declared.depth.Depth.{Depth}
use Rattle.rich_types.specs.Scopes.{Scope, no_scope, scope_of, within, with_location, with_variable}
use Rattle.rich_types.specs.Sizes.{size_under, list_size}
use Rattle.rich_types.specs.Walks.{below, below_location, below_variable, outside, walk, walk_list}
use Rattle.rich_types.specs.Instances.{Substitution, instance, no_substitution, substituting, substitution_of, substitution_within}
use Rattle.rich_types_laws.specs.Laws.{AnswerAll}
use Rattle.rich_rules.specs.Forms.{is_unr}
use Rattle.rich_rules.specs.Raised.{instances}
use Rattle.rich_soundness_values.specs.Heaps.{Answer, all_at, at}
use Rattle.rich_soundness_rows.proofs.Closed.{names_at, unr_at}
use Rattle.rich_soundness_binders.specs.Laws.{depth_of, under}
use Rattle.rich_soundness_binders.proofs.Onto.{bodies_stand, instances_stand}
use Rattle.rich_soundness_binders.proofs.Sizes.{sizes_stay}
use Rattle.rich_soundness_instances.specs.Laws.{argued, ArgumentsAnswer, InstancesPutIn, SizesKept}
use Rattle.rich_soundness_instances.proofs.Closed.{functions_are_closed}

module _ (g : Substitution) (c : Scope) (answered : Answer g c) where
  answer_within : (args : List Arg) (bs : List Binder) (h : Substitution) (x : Scope) → AnswerAll c args bs → Answer (under g h) x → Answer (under g (substitution_within args h)) (within bs x)
  answer_within [] [] h x all a = a
  answer_within (arg.Loc l ∷ args) (Loc m ∷ bs) h x all a =
      answer_within args bs (record { locations = l ∷ h.locations; variables = h.variables }) (with_location m x) all.1 (record { locations = (names_at g c l m answered all.0, a.locations); variables = a.variables })
  answer_within (arg.Given t ∷ args) (Kind q s ∷ bs) h x all a =
      answer_within args bs (record { locations = h.locations; variables = t ∷ h.variables }) (with_variable q s x) all.1
      (record { locations = a.locations; variables = (record { sized = sizes_stay g c t answered ∙ all.0.1.1; unr = λ u. unr_at g c t answered (ap is_unr (all.0.1.0 ∙ u)) }, a.variables) })
  answer_within [] (b ∷ bs) h x all a = absurd all
  answer_within (b ∷ args) [] h x all a = absurd all
  answer_within (arg.Loc l ∷ args) (Kind q s ∷ bs) h x all a = absurd all.0
  answer_within (arg.Given t ∷ args) (Loc m ∷ bs) h x all a = absurd all.0

pub arguments_answer : ArgumentsAnswer
arguments_answer g c args bs answered all = answer_within g c answered args bs no_substitution no_scope all (record { locations = tt; variables = tt })

-- arguments are as many as the binders
module _ (c : Scope) where
  as_deep : (args : List Arg) (bs : List Binder) (h : Substitution) (d : Depth) → AnswerAll c args bs → depth_of h ≡ d → depth_of (substitution_within args h) ≡ below bs d
  unfolding below_location below_variable
  as_deep [] [] h d all e = e
  as_deep (arg.Loc l ∷ args) (Loc m ∷ bs) h d all e = as_deep args bs (record { locations = l ∷ h.locations; variables = h.variables }) (below_location d) all.1
      (let s : length (l ∷ h.locations) ≡ length h.locations + 1 = omega arith in ap (λ (n : ℕ). record { locations = n; variables = length h.variables }) s ∙ ap below_location e)
  as_deep (arg.Given t ∷ args) (Kind q s ∷ bs) h d all e = as_deep args bs (record { locations = h.locations; variables = t ∷ h.variables }) (below_variable d) all.1
      (let s : length (t ∷ h.variables) ≡ length h.variables + 1 = omega arith in ap (λ (n : ℕ). record { locations = length h.locations; variables = n }) s ∙ ap below_variable e)
  as_deep [] (b ∷ bs) h d all e = absurd all
  as_deep (b ∷ args) [] h d all e = absurd all
  as_deep (arg.Loc l ∷ args) (Kind q s ∷ bs) h d all e = absurd all.0
  as_deep (arg.Given t ∷ args) (Loc m ∷ bs) h d all e = absurd all.0

under_depth : (g h : Substitution) → depth_of (under g h) ≡ depth_of h
under_depth g h =
    ap (λ (n : ℕ). record { locations = n; variables = length (under g h).variables }) (length-map h.locations _)
    ∙ ap (λ (n : ℕ). record { locations = length h.locations; variables = n }) (length-map h.variables _)

argued_depth : (g : Substitution) (c : Scope) (args : List Arg) (bs : List Binder) → AnswerAll c args bs → depth_of (argued g args) ≡ below bs outside
argued_depth g c args bs all = under_depth g (substitution_of args) ∙ as_deep c args bs no_substitution outside all refl

put_in : (g : Substitution) (args : List Arg) (d : Depth) → depth_of (argued g args) ≡ d → (t : Ty) → at g (instance t args) ≡ at (argued g args) (walk (substituting g) d t)
put_in g args d e t =
    instances_stand (substitution_of args) g t ∙ sym (bodies_stand (argued g args) g t) ∙ ap (λ (x : Depth). at (argued g args) (walk (substituting g) x t)) e

all_put_in : (g : Substitution) (args : List Arg) (d : Depth) → depth_of (argued g args) ≡ d → (ts : List Ty) → all_at g (instances args ts) ≡ all_at (argued g args) (walk_list (substituting g) d ts)
all_put_in g args d e [] = refl
all_put_in g args d e (t ∷ ts) =
    ap (λ (u : Ty). u ∷ all_at g (instances args ts)) (put_in g args d e t)
    ∙ ap (λ (l : List Ty). at (argued g args) (walk (substituting g) d t) ∷ l) (all_put_in g args d e ts)

pub instances_put_in : InstancesPutIn
instances_put_in g c args bs ts all = all_put_in g args (below bs outside) (argued_depth g c args bs all) ts

-- the words of types where something stands for binders
words_kept : (g : Substitution) (c : Scope) → Answer g c → (ts : List Ty) → list_size no_scope (all_at g ts) ≡ list_size c ts
words_kept g c a [] = refl
words_kept g c a (t ∷ ts) =
    ap (λ (n : ℕ). n + list_size no_scope (all_at g ts)) (sizes_stay g c t a) ∙ ap (λ (n : ℕ). size_under c t + n) (words_kept g c a ts)

pub sizes_kept : SizesKept
sizes_kept g c args f answered all w =
    ap (list_size no_scope) (instances_put_in g c args f.binders f.results all ∙ ap (λ (k : FunType). all_at (argued g args) k.results) (functions_are_closed g f w))
    ∙ words_kept (argued g args) (scope_of f.binders) (arguments_answer g c args f.binders answered all) f.results
