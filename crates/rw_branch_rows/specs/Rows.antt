-- What branches make of points inside blocks and binders, written out. This project's own.
use Rattle.std.specs.Prelude.{◌≡◌, List, [], ◌∷◌, Some, None}
use Rattle.rw_types.specs.declared.types.Binder.TheVariants.{Kind, Loc}
use Rattle.rw_types.specs.declared.types.Mem.TheVariants.{L}
use Rattle.rw_types.specs.declared.types.Pre.{Own}
use Rattle.rw_types.specs.declared.types.Qual.TheVariants.{Lin, Unr}
use Rattle.rw_types.specs.declared.types.Ty.{Ty, Of, Var}
use Rattle.rich_types.specs.Rows.{address, long, short}
use Rattle.rich_typing.specs.declared.rules.Rule.TheVariants as rule
use Rattle.rich_rules.specs.Branches.{br_row, br_if_row, return_row}
use Rattle.rich_rules.specs.Points.{Breaks, Broke, Ends, Gives, Point}
use Rattle.rw_operand_stack.specs.declared.operand.Operand.{Operand}
use Rattle.rw_operand_stack.specs.declared.operand.Operand.TheVariants.{Plain, Linear}
use Rattle.rw_scopes.specs.Labels.{point_seen}
use Rattle.rw_scopes.specs.Rows.{body, inner, right}

-- the point of the body, and that of the block within two binders more
abbrev outer_point : List Ty → List Operand → Point
outer_point locals operands = point_seen (Loc L ∷ Kind Unr 1 ∷ []) body locals operands

abbrev inner_point : List Ty → List Operand → Point
inner_point locals operands = point_seen (Loc L ∷ Kind Unr 1 ∷ Loc L ∷ Kind Unr 1 ∷ []) inner locals operands

-- the locals of both labels, as they are seen there
abbrev kept : List Ty
kept = Var 1 ∷ long ∷ []

abbrev held : Operand
held = Linear (record { ty = right })

-- a label that there is, then what it carries, then what is left behind, the nearest first, and then the locals
pub record WorkedBranches : Type 0 where
  pub out_of_a_block : br_row (inner_point kept (Plain (Var 0) ∷ Plain long ∷ [])) 0 ≡ Ends
  pub out_of_two : br_row (inner_point kept (Plain (address 1) ∷ Plain short ∷ [])) 1 ≡ Ends
  pub out_of_three : br_row (inner_point kept (Plain (Var 0) ∷ [])) 2 ≡ Breaks (Broke rule.Index None None)
  pub without_what_is_carried : br_row (inner_point kept []) 0 ≡ Breaks (Broke rule.Operands None None)
  pub another_is_carried : br_row (inner_point kept (Plain (address 0) ∷ Plain short ∷ [])) 1 ≡ Breaks (Broke rule.OperandType (Some (address 0)) (Some (address 1)))
  pub a_right_is_left : br_row (inner_point kept (Plain (Var 0) ∷ held ∷ [])) 0 ≡ Breaks (Broke rule.Crossed (Some right) None)
  pub a_right_is_left_before_locals_differ : br_row (inner_point [] (Plain (Var 0) ∷ held ∷ [])) 0 ≡ Breaks (Broke rule.Crossed (Some right) None)
  pub a_local_differs : br_row (inner_point (Var 0 ∷ long ∷ []) (Plain (Var 0) ∷ [])) 0 ≡ Breaks (Broke rule.LocalsDiffer (Some (Var 0)) (Some (Var 1)))
  pub a_number_is_taken : br_if_row (inner_point kept (Plain short ∷ Plain (Var 0) ∷ Plain long ∷ [])) 0 ≡ Gives (Var 0 ∷ long ∷ []) None
  pub no_number : br_if_row (inner_point kept (Plain long ∷ Plain (Var 0) ∷ [])) 0 ≡ Breaks (Broke rule.OperandType (Some long) (Some short))
  pub return_from_the_body : return_row (outer_point (Var 0 ∷ []) (Plain (Var 0) ∷ Plain long ∷ [])) ≡ Ends
  pub return_leaves_a_right_of_the_outer_list : return_row (inner_point kept (Plain (Var 1) ∷ Plain long ∷ [])) ≡ Breaks (Broke rule.Crossed (Some (Of Lin (Own 1))) None)
  pub return_with_a_right_in_a_local : return_row (outer_point (right ∷ []) (Plain (Var 0) ∷ Plain long ∷ [])) ≡ Breaks (Broke rule.LocalsDiffer (Some right) None)
