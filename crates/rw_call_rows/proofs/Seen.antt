-- A type is taken as a function, or as another form.
use Rattle.std.proofs.Common.{◌≡◌, ◌∙◌, List, refl, ap, sym}
use Rattle.std.proofs.Math.Path.{subst⁻¹}
use Rattle.rw_types.specs.declared.types.FunType.{FunType}
use Rattle.rw_types.specs.declared.types.Heap.TheBlock.{hidden-the_row-FunType-3, hidden-the_row-Ty-1}
use Rattle.rw_types.specs.declared.types.Qual.{Qual}
use Rattle.rw_types.specs.declared.types.Pre.{Pre}
use Rattle.rw_types.specs.declared.types.Pre.TheVariants.{Code}
use Rattle.rw_types.specs.declared.types.Qual.TheVariants.{Unr, Lin}
use Rattle.rw_types.specs.declared.types.Ty.{Ty, Of, items-the_row-Ty, items_hidden-the_row-Ty-1}
use Rattle.rich_rules.specs.Points.{Outcome}
use Rattle.rich_rules.specs.Takers.{code_form, other_form}

code_taken : (g : FunType) (rest : FunType → Outcome) → code_form (Of Unr (Code g)) rest ≡ rest g
unfolding hidden-the_row-FunType-3 denote.Hole.Carrier.hidden
code_taken g rest =
    ap (λ (l : List Ty). rest (record { binders = g.binders; params = l; results = items-the_row-Ty _ (hidden-the_row-Ty-1 g.results) })) (items_hidden-the_row-Ty-1 g.params)
    ∙ ap (λ (l : List Ty). rest (record { binders = g.binders; params = g.params; results = l })) (items_hidden-the_row-Ty-1 g.results)

code_refused : (g : FunType) (rest : FunType → Outcome) → code_form (Of Lin (Code g)) rest ≡ other_form (Of Lin (Code g))
unfolding hidden-the_row-FunType-3 denote.Hole.Carrier.hidden
code_refused g rest = refl

module _ (t : Ty) (q : Qual) (p : Pre) (g : FunType) (is : t ≡ Of q p) (code : p ≡ Code g) (rest : FunType → Outcome) where
  seen : (r : Qual) → q ≡ r → t ≡ Of r (Code g)
  seen r qualified = is ∙ ap (λ (o : Qual). Of o p) qualified ∙ ap (Of r) code

  pub unr_seen : (h : FunType) → q ≡ Unr → h ≡ g → code_form t rest ≡ rest h
  unr_seen h unr same = ap (λ (u : Ty). code_form u rest) (seen Unr unr) ∙ code_taken g rest ∙ ap rest (sym same)

  pub linear_seen : q ≡ Lin → code_form t rest ≡ other_form t
  linear_seen linear = subst⁻¹ (λ (u : Ty). code_form u rest ≡ other_form u) (seen Lin linear) (code_refused g rest)
