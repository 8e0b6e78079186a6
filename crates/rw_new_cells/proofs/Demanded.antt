-- One operand of a type that is told, with what is made of it.
use Rattle.std.proofs.Common.{◌≡◌, ◌∙◌, List, ◌∷◌, Bool, true, false, Some, None, refl, ap, cond, length, arith}
use Rattle.std.proofs.Math.Path.{subst⁻¹}
use Rattle.std.specs.Prelude.{nat_lt, Result}
use Rattle.std.proofs.lemmas.Bool.{le-ltb}
use Rattle.rw_types.specs.declared.types.Ty.{Ty}
use Rattle.rich_types.specs.Scopes.{Scope}
use Rattle.rich_typing.specs.declared.rules.Rule.TheVariants as rule
use Rattle.rich_rules.specs.Equality.{same}
use Rattle.rich_rules.specs.Points.{Outcome, Breaks, Broke}
use Rattle.rich_rules.specs.Takers.{Differ, difference, need, without_difference, gives_formed}
use Rattle.rw_row_answers.specs.declared.answers.CapError.{CapError}
use Rattle.rw_row_answers.specs.Answers.{Breaking}
use Rattle.rw_new_cells.specs.declared.made.Made.{Made}
use Rattle.rw_new_cells.specs.Made.{GivesOne, made_of}

module _ (c : Scope) (made : Made) (t : Ty) (beneath : List Ty) where
  by_test : (b : Bool) → without_difference (cond b None (Some (Differ t made.demanded))) rule.OperandType (gives_formed c made.cell beneath) ≡ need b rule.OperandType (Some t) (Some made.demanded) (gives_formed c made.cell beneath)
  by_test true = refl
  by_test false = refl

  one_made : made_of c made (t ∷ beneath) ≡ need (same t made.demanded) rule.OperandType (Some t) (Some made.demanded) (gives_formed c made.cell beneath)
  one_made =
      let enough : nat_lt (length (t ∷ beneath)) 1 ≡ false = le-ltb (length (t ∷ beneath)) 1 (omega arith) in
      ap (λ (b : Bool). cond b (Breaks (Broke rule.Operands None None)) (without_difference (difference t made.demanded) rule.OperandType (gives_formed c made.cell beneath))) enough
      ∙ by_test (same t made.demanded)

  pub other_type : (e : CapError) → same t made.demanded ≡ false → Breaking e (Breaks (Broke rule.OperandType (Some t) (Some made.demanded))) → Breaking e (made_of c made (t ∷ beneath))
  other_type e differs told = subst⁻¹ (Breaking e) (one_made ∙ ap (λ (b : Bool). need b rule.OperandType (Some t) (Some made.demanded) (gives_formed c made.cell beneath)) differs) told

  pub this_type : (r : Result Ty CapError) → same t made.demanded ≡ true → GivesOne r (gives_formed c made.cell beneath) beneath → GivesOne r (made_of c made (t ∷ beneath)) beneath
  this_type r agrees told = subst⁻¹ (λ (out : Outcome). GivesOne r out beneath) (one_made ∙ ap (λ (b : Bool). need b rule.OperandType (Some t) (Some made.demanded) (gives_formed c made.cell beneath)) agrees) told
