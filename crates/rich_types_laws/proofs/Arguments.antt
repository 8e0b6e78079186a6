-- Arguments under others, as substitutions.
use Rattle.std.proofs.Common.{◌≡◌, ◌∙◌, List, [], ◌∷◌, ◌++◌, map, refl, ap, sym}
use Rattle.rw_types.specs.declared.types.Arg.{Arg}
use Rattle.rw_types.specs.declared.types.Arg.TheVariants.{Loc, Given}
use Rattle.rich_types.specs.Walks.{outside, walk}
use Rattle.rich_types.specs.Instances.{substituting, Substitution, substitution_of, substitution_within, no_substitution}
use Rattle.rich_types_laws.specs.Laws.{argument_under, InstanceOfInstance}
use Rattle.rich_types_laws.proofs.Composed.{substitution_under, put_put}

within-append : (xs ys : List Arg) (g : Substitution) → substitution_within (xs ++ ys) g ≡ substitution_within ys (substitution_within xs g)
within-append [] ys g = refl
within-append (Loc l ∷ xs) ys g = within-append xs ys (record { locations = l ∷ g.locations; variables = g.variables })
within-append (Given t ∷ xs) ys g = within-append xs ys (record { locations = g.locations; variables = t ∷ g.variables })

under-map : (outer inner : List Arg) (h : Substitution) → substitution_within (map (argument_under outer) inner) (substitution_under h (substitution_of outer)) ≡ substitution_under (substitution_within inner h) (substitution_of outer)
under-map outer [] h = refl
under-map outer (Loc l ∷ inner) h = under-map outer inner (record { locations = l ∷ h.locations; variables = h.variables })
under-map outer (Given t ∷ inner) h = under-map outer inner (record { locations = h.locations; variables = t ∷ h.variables })

pub composed : InstanceOfInstance
composed t inner outer =
    put_put (substitution_of outer) (substitution_of inner) t
    ∙ ap (λ (g : Substitution). walk (substituting g) outside t) (sym (within-append outer (map (argument_under outer) inner) no_substitution ∙ under-map outer inner no_substitution))
