-- Bodies beneath one binder, and what stands for it.
use Rattle.std.proofs.Common.{◌≡◌, ℕ, List, [], ◌∷◌, ◌++◌, refl, ap, ◌∙◌}
use Rattle.rw_types.specs.declared.types.Arg.TheVariants.{Loc, Given}
use Rattle.rw_types.specs.declared.types.Binder.{Binder}
use Rattle.rw_types.specs.declared.types.Binder.TheVariants as binder
use Rattle.rw_types.specs.declared.types.Mem.{Mem}
use Rattle.rw_types.specs.declared.types.Qual.{Qual}
use Rattle.rw_types.specs.declared.types.Qual.TheVariants.{Unr}
use Rattle.rw_types.specs.declared.types.Ty.{Ty}
use Rattle.rich_types.specs.Scopes.{Scope, no_scope, within, with_location, with_variable, scope_of}
use Rattle.rich_types.specs.Walks.{outside, below_location, below_variable, walk}
use Rattle.rich_types.specs.Instances.{Substitution, substituting, instance}
use Rattle.rich_soundness_values.specs.Heaps.{name_of, IsUnr, size_of, Answer, with_type, with_place, at}
use Rattle.rich_reduction.specs.Configurations.{Location}
use Rattle.rich_soundness_binders.specs.Laws.{onto}
use Rattle.rich_soundness_binders.proofs.Onto.{bodies_stand, instances_stand}

-- a location and a type, each in the place of a binder
abbrev pub placed : Location → Substitution
placed l = record { locations = name_of l ∷ []; variables = [] }

abbrev pub typed_by : Ty → Substitution
typed_by t = record { locations = []; variables = t ∷ [] }

-- they answer one binder more
pub answers_location : (g : Substitution) (c : Scope) (l : Location) (m : Mem) → Answer g c → l.mem ≡ m → Answer (onto (placed l) g) (with_location m c)
answers_location g c l m a e = record { locations = (record { place = l; named = refl; within = e }, a.locations); variables = a.variables }

pub answers_variable : (g : Substitution) (c : Scope) (t : Ty) (q : Qual) (s : ℕ) → Answer g c → size_of t ≡ s → (q ≡ Unr → IsUnr t) → Answer (onto (typed_by t) g) (with_variable q s c)
answers_variable g c t q s a e u = record { locations = a.locations; variables = (record { sized = e; unr = u }, a.variables) }

-- a body beneath a location or a type variable
abbrev pub place_body : Substitution → Ty → Ty
place_body g t = walk (substituting g) (below_location outside) t

abbrev pub type_body : Substitution → Ty → Ty
type_body g t = walk (substituting g) (below_variable outside) t

pub place_body_at : (g : Substitution) (l : Location) (t : Ty) → with_place l (place_body g t) ≡ at (onto (placed l) g) t
unfolding below_location
place_body_at g l t = bodies_stand (placed l) g t

pub type_body_at : (g : Substitution) (u t : Ty) → with_type u (type_body g t) ≡ at (onto (typed_by u) g) t
unfolding below_variable
type_body_at g u t = bodies_stand (typed_by u) g t

-- the instance of a body by a type in scope
pub type_instance_at : (g : Substitution) (u t : Ty) → at g (instance t (Given u ∷ [])) ≡ at (onto (typed_by (at g u)) g) t
type_instance_at g u t = instances_stand (typed_by u) g t

-- and by a location in scope, which names this location
pub place_instance_at : (g : Substitution) (n : ℕ) (l : Location) (t : Ty) → (substituting g).location outside n ≡ name_of l → at g (instance t (Loc n ∷ [])) ≡ at (onto (placed l) g) t
place_instance_at g n l t e =
    instances_stand (record { locations = n ∷ []; variables = [] }) g t
    ∙ ap (λ (k : ℕ). at (record { locations = k ∷ g.locations; variables = g.variables }) t) e

-- the scope of one binder more
pub scope_more : (bs : List Binder) (b : Binder) → scope_of (bs ++ b ∷ []) ≡ within (b ∷ []) (scope_of bs)
scope_more bs b = go bs no_scope
  where
    go : (bs : List Binder) (c : Scope) → within (bs ++ b ∷ []) c ≡ within (b ∷ []) (within bs c)
    go [] c = refl
    go (binder.Loc m ∷ bs) c = go bs (with_location m c)
    go (binder.Kind q s ∷ bs) c = go bs (with_variable q s c)
