-- Bodies of constants, numbers, tuples and recursive types. This project's own.
use Rattle.std.specs.Prelude.{[], ◌∷◌, Some, None}
use Rattle.rw_types.specs.declared.instrs.Instr.{Br, Drop, Group, I32Const, I64Const, LocalGet, Nop, Num, Print, Qualify, RecFold, RecUnfold, Ungroup, Unreachable}
use Rattle.rw_types.specs.declared.instrs.Instr.TheVariants.{Block}
use Rattle.rw_types.specs.declared.numbers.NumName.TheVariants as num
use Rattle.rw_types.specs.declared.types.Binder.TheVariants.{Kind}
use Rattle.rw_types.specs.declared.types.Pre.{I64}
use Rattle.rw_types.specs.declared.types.Qual.TheVariants.{Lin, Unr}
use Rattle.rw_types.specs.declared.types.Ty.{Of, Var}
use Rattle.rw_types.specs.declared.types.Ty.TheVariants.{Rec}
use Rattle.rich_types.specs.Rows.{long, short, tuple}
use Rattle.rich_typing.specs.declared.notes.Place.TheVariants.{FuncAt}
use Rattle.rich_typing.specs.declared.rules.Rule.TheVariants as rule
use Rattle.rich_rules_rows.specs.Samples.{Accepted, Refused, BodyRefused, functions, function, main_function, fun_type, plain}

-- what is taken is looked at from the deepest operand on, behind the number of operands, and behind the types that are written; what is given is well formed
pub record WorkedPlain : Type 0 where
  pub dead_before_index : BodyRefused [] (Unreachable ∷ LocalGet 9 ∷ []) (1 ∷ []) rule.DeadCode None None
  pub dead_after_br_in_a_block : BodyRefused [] (Block plain (Br 0 ∷ Nop ∷ []) ∷ I64Const 0 ∷ []) (0 ∷ 0 ∷ 1 ∷ []) rule.DeadCode None None
  pub type_form_before_operands : BodyRefused [] (RecFold (Rec Unr 2 long) ∷ Drop ∷ I64Const 0 ∷ []) (0 ∷ []) rule.TypeForm (Some (Rec Unr 2 long)) None
  pub no_rec_before_operands : BodyRefused [] (RecFold long ∷ Drop ∷ I64Const 0 ∷ []) (0 ∷ []) rule.OperandType (Some long) None
  pub no_rec_and_ill_formed : BodyRefused [] (RecFold (tuple ((Of Lin I64) ∷ [])) ∷ Drop ∷ I64Const 0 ∷ []) (0 ∷ []) rule.TypeForm (Some (tuple ((Of Lin I64) ∷ []))) None
  pub operands_of_a_fold : BodyRefused [] (RecFold (Rec Unr 1 long) ∷ Drop ∷ I64Const 0 ∷ []) (0 ∷ []) rule.Operands None None
  pub operand_type_of_a_fold : BodyRefused [] (I32Const 1 ∷ RecFold (Rec Unr 1 long) ∷ Drop ∷ I64Const 0 ∷ []) (1 ∷ []) rule.OperandType (Some short) (Some long)
  pub fold_and_unfold : Accepted (functions (main_function [] (I64Const 4 ∷ RecFold (Rec Unr 1 long) ∷ RecFold (Rec Unr 1 (Rec Unr 1 long)) ∷ RecUnfold ∷ RecUnfold ∷ []) ∷ []))
  pub operands_before_operand_type : BodyRefused [] (I32Const 1 ∷ Num num.I64Add ∷ []) (1 ∷ []) rule.Operands None None
  pub the_deepest_wrong_operand : BodyRefused [] (I32Const 1 ∷ I32Const 2 ∷ Num num.I64Add ∷ []) (2 ∷ []) rule.OperandType (Some short) (Some long)
  pub a_right_and_a_wrong_operand : BodyRefused [] (I32Const 1 ∷ I64Const 2 ∷ Num num.I32Rotl ∷ Num num.I64ExtendI32U ∷ []) (2 ∷ []) rule.OperandType (Some long) (Some short)
  pub operands_of_the_list_alone : BodyRefused [] (I64Const 1 ∷ Block plain (Drop ∷ []) ∷ I64Const 0 ∷ []) (1 ∷ 0 ∷ 0 ∷ []) rule.Operands None None
  pub print_of_a_linear_number : BodyRefused [] (I64Const 1 ∷ Qualify ∷ Print ∷ I64Const 0 ∷ []) (2 ∷ []) rule.OperandType (Some (Of Lin I64)) (Some long)
  pub drop_of_a_linear_number : BodyRefused [] (I64Const 1 ∷ Qualify ∷ Drop ∷ I64Const 0 ∷ []) (2 ∷ []) rule.LinearDrop (Some (Of Lin I64)) None
  pub qualify_twice : BodyRefused [] (I64Const 1 ∷ Qualify ∷ Qualify ∷ Unreachable ∷ []) (2 ∷ []) rule.OperandType (Some (Of Lin I64)) None
  pub qualify_of_a_variable : Refused (functions (function (fun_type (Kind Unr 1 ∷ []) ((Var 0) ∷ []) ((Var 0) ∷ [])) [] (LocalGet 0 ∷ Qualify ∷ []) ∷ [])) (FuncAt 0 (1 ∷ [])) rule.OperandType (Some (Var 0)) None
  pub ungroup_of_a_rec_of_a_tuple : BodyRefused [] (I64Const 1 ∷ I64Const 1 ∷ Group 2 Unr ∷ RecFold (Rec Unr 2 (tuple (long ∷ long ∷ []))) ∷ Ungroup ∷ Num num.I64Add ∷ []) (4 ∷ []) rule.OperandType (Some (Rec Unr 2 (tuple (long ∷ long ∷ [])))) None
  pub ungroup_of_nothing : Accepted (functions (main_function [] (Group 0 Lin ∷ Ungroup ∷ I64Const 0 ∷ []) ∷ []))
  pub group_of_more_than_there_are : BodyRefused [] (I64Const 1 ∷ Group 2 Unr ∷ Drop ∷ I64Const 0 ∷ []) (1 ∷ []) rule.Operands None None
  pub unr_group_of_a_linear_part : BodyRefused [] (I64Const 1 ∷ I64Const 1 ∷ Qualify ∷ Group 2 Unr ∷ Unreachable ∷ []) (3 ∷ []) rule.TypeForm (Some (tuple (long ∷ (Of Lin I64) ∷ []))) None
  pub lin_group_of_unr_parts : Accepted (functions (main_function [] (I64Const 3 ∷ I64Const 4 ∷ Group 2 Lin ∷ Ungroup ∷ Num num.I64Mul ∷ []) ∷ []))
