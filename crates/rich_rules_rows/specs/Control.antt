-- Bodies with blocks, loops, arms and branches. This project's own.
use Rattle.std.specs.Prelude.{[], ◌∷◌, Some, None}
use Rattle.rw_types.specs.declared.instrs.Instr.{Br, BrIf, Drop, I32Const, I64Const, LocalGet, LocalSet, LocalTake, Num, Qualify, Return, Unreachable}
use Rattle.rw_types.specs.declared.instrs.Instr.TheVariants.{Block, If, Loop}
use Rattle.rw_types.specs.declared.numbers.NumName.TheVariants as num
use Rattle.rw_types.specs.declared.types.Pre.{I32, I64}
use Rattle.rw_types.specs.declared.types.Qual.TheVariants.{Lin}
use Rattle.rw_types.specs.declared.types.Ty.{Of, Var}
use Rattle.rich_types.specs.Rows.{long, short, tuple, unit_type}
use Rattle.rich_typing.specs.declared.notes.Place.TheVariants.{FuncAt}
use Rattle.rich_typing.specs.declared.rules.Rule.TheVariants as rule
use Rattle.rich_rules_rows.specs.Samples.{Accepted, Refused, BodyRefused, functions, function, main_function, fun_type, signature, local, plain}

-- a signature is looked at first, and of it the numbers, the types and the slots in this order; a branch leaves only what is `unr`, and then the locals of its label; each list ends with what is demanded of it
pub record WorkedControl : Type 0 where
  pub index_before_type_form_in_a_signature : BodyRefused (1 ∷ []) (Block (signature ((Var 0) ∷ []) [] (local 1 (Var 0) ∷ [])) [] ∷ I64Const 0 ∷ []) (0 ∷ []) rule.Index None None
  pub a_local_twice_in_a_signature : BodyRefused (1 ∷ []) (Block (signature [] [] (local 0 long ∷ local 0 long ∷ [])) (I64Const 0 ∷ LocalSet 0 ∷ []) ∷ I64Const 0 ∷ []) (0 ∷ []) rule.Index None None
  pub type_form_before_slot_size_in_a_signature : BodyRefused (1 ∷ 1 ∷ []) (Block (signature [] [] (local 0 (tuple (long ∷ long ∷ [])) ∷ local 1 (Var 0) ∷ [])) [] ∷ I64Const 0 ∷ []) (0 ∷ []) rule.TypeForm (Some (Var 0)) None
  pub type_form_of_a_signature_parameters_first : BodyRefused (1 ∷ []) (Block (signature ((Var 3) ∷ []) ((Var 2) ∷ []) (local 0 (Var 1) ∷ [])) [] ∷ I64Const 0 ∷ []) (0 ∷ []) rule.TypeForm (Some (Var 3)) None
  pub slot_size_before_operands : BodyRefused (1 ∷ []) (Block (signature (long ∷ []) [] (local 0 (tuple (long ∷ long ∷ [])) ∷ [])) (Drop ∷ []) ∷ I64Const 0 ∷ []) (0 ∷ []) rule.SlotSize (Some (tuple (long ∷ long ∷ []))) None
  pub block_end_before_locals_end : Refused (functions (function (fun_type [] ((Of Lin I64) ∷ []) (long ∷ [])) [] [] ∷ [])) (FuncAt 0 (0 ∷ [])) rule.BlockEnd None None
  pub block_end_the_deepest_that_differs : Refused (functions (function (fun_type [] [] (long ∷ short ∷ long ∷ [])) [] (I64Const 0 ∷ I64Const 1 ∷ I32Const 2 ∷ []) ∷ [])) (FuncAt 0 (3 ∷ [])) rule.BlockEnd (Some long) (Some short)
  pub block_end_too_many_with_wrong_types : BodyRefused [] (I32Const 0 ∷ I32Const 0 ∷ []) (2 ∷ []) rule.BlockEnd None None
  pub a_linear_parameter_is_left : Refused (functions (function (fun_type [] ((Of Lin I64) ∷ []) []) [] [] ∷ [])) (FuncAt 0 (0 ∷ [])) rule.LocalsEnd (Some (Of Lin I64)) None
  pub a_block_that_changes_a_local : BodyRefused (1 ∷ []) (Block plain (I64Const 1 ∷ LocalSet 0 ∷ []) ∷ I64Const 0 ∷ []) (0 ∷ 0 ∷ 2 ∷ []) rule.LocalsEnd (Some long) (Some unit_type)
  pub a_block_that_promises_a_local : BodyRefused (1 ∷ []) (Block (signature [] [] (local 0 long ∷ [])) [] ∷ I64Const 0 ∷ []) (0 ∷ 0 ∷ 0 ∷ []) rule.LocalsEnd (Some unit_type) (Some long)
  pub a_block_that_keeps_its_promise : Accepted (functions (main_function (1 ∷ []) (Block (signature [] [] (local 0 long ∷ [])) (I64Const 6 ∷ LocalSet 0 ∷ []) ∷ LocalGet 0 ∷ []) ∷ []))
  pub the_promise_of_an_ended_block : Accepted (functions (main_function (1 ∷ []) (Block (signature [] (short ∷ []) (local 0 long ∷ [])) (Unreachable ∷ []) ∷ Drop ∷ LocalGet 0 ∷ []) ∷ []))
  pub the_second_arm_differs : BodyRefused [] (I32Const 1 ∷ If (signature [] (long ∷ []) []) (I64Const 1 ∷ []) (I32Const 1 ∷ []) ∷ []) (1 ∷ 1 ∷ 1 ∷ []) rule.BlockEnd (Some short) (Some long)
  pub the_locals_of_the_second_arm : BodyRefused (1 ∷ []) (I32Const 1 ∷ If (signature [] [] (local 0 long ∷ [])) (I64Const 1 ∷ LocalSet 0 ∷ []) [] ∷ I64Const 0 ∷ []) (1 ∷ 1 ∷ 0 ∷ []) rule.LocalsEnd (Some unit_type) (Some long)
  pub arms_that_end : Accepted (functions (main_function [] (I32Const 1 ∷ If (signature [] (long ∷ []) []) (Unreachable ∷ []) (I64Const 4 ∷ Return ∷ []) ∷ []) ∷ []))
  pub if_without_its_number : BodyRefused [] (I64Const 1 ∷ If plain [] [] ∷ I64Const 0 ∷ []) (1 ∷ []) rule.OperandType (Some long) (Some short)
  pub if_the_parameter_not_the_number : BodyRefused [] (I32Const 1 ∷ I32Const 1 ∷ If (signature (long ∷ []) [] []) (Drop ∷ []) (Drop ∷ []) ∷ I64Const 0 ∷ []) (2 ∷ []) rule.OperandType (Some short) (Some long)
  pub br_of_a_body : BodyRefused [] (Br 0 ∷ []) (0 ∷ []) rule.Index None None
  pub br_operands_before_crossed : BodyRefused [] (I64Const 1 ∷ Qualify ∷ Block (signature [] (long ∷ []) []) (Br 0 ∷ []) ∷ Unreachable ∷ []) (2 ∷ 0 ∷ 0 ∷ []) rule.Operands None None
  pub br_operand_type_before_crossed : BodyRefused [] (Block (signature [] (long ∷ []) []) (I64Const 1 ∷ Qualify ∷ I32Const 1 ∷ Br 0 ∷ []) ∷ Unreachable ∷ []) (0 ∷ 0 ∷ 3 ∷ []) rule.OperandType (Some short) (Some long)
  pub crossed_before_locals_differ : BodyRefused (1 ∷ []) (Block plain (I64Const 1 ∷ LocalSet 0 ∷ I64Const 1 ∷ Qualify ∷ Br 0 ∷ []) ∷ I64Const 0 ∷ []) (0 ∷ 0 ∷ 4 ∷ []) rule.Crossed (Some (Of Lin I64)) None
  pub crossed_the_deepest_of_the_list : BodyRefused [] (Block plain (I64Const 1 ∷ Qualify ∷ I32Const 1 ∷ Qualify ∷ Br 0 ∷ []) ∷ I64Const 0 ∷ []) (0 ∷ 0 ∷ 4 ∷ []) rule.Crossed (Some (Of Lin I64)) None
  pub crossed_the_innermost_list_first : BodyRefused [] (I64Const 1 ∷ Qualify ∷ Block plain (I32Const 1 ∷ Qualify ∷ Block plain (I64Const 1 ∷ Br 1 ∷ []) ∷ []) ∷ Unreachable ∷ []) (2 ∷ 0 ∷ 2 ∷ 0 ∷ 1 ∷ []) rule.Crossed (Some (Of Lin I32)) None
  pub crossed_by_return_in_a_rest : Refused (functions (function (fun_type [] [] []) [] (I64Const 1 ∷ Qualify ∷ Block plain (I32Const 5 ∷ Return ∷ []) ∷ Unreachable ∷ []) ∷ [])) (FuncAt 0 (2 ∷ 0 ∷ 1 ∷ [])) rule.Crossed (Some (Of Lin I64)) None
  pub return_crossed_before_locals_differ : Refused (functions (function (fun_type [] ((Of Lin I32) ∷ []) []) [] (I64Const 1 ∷ Qualify ∷ Return ∷ []) ∷ [])) (FuncAt 0 (2 ∷ [])) rule.Crossed (Some (Of Lin I64)) None
  pub return_a_linear_local : Refused (functions (function (fun_type [] (long ∷ (Of Lin I32) ∷ []) []) [] (Block plain (Return ∷ []) ∷ []) ∷ [])) (FuncAt 0 (0 ∷ 0 ∷ 0 ∷ [])) rule.LocalsDiffer (Some (Of Lin I32)) None
  pub return_leaves_operands : Accepted (functions (main_function [] (I32Const 5 ∷ I64Const 1 ∷ Return ∷ []) ∷ []))
  pub a_rest_beneath_the_label_does_not_count : Accepted (functions (function (fun_type [] ((Of Lin I64) ∷ []) ((Of Lin I64) ∷ [])) [] (LocalTake 0 ∷ Block plain (Br 0 ∷ []) ∷ []) ∷ []))
  pub a_linear_operand_is_carried : Accepted (functions (function (fun_type [] ((Of Lin I64) ∷ []) ((Of Lin I64) ∷ [])) [] (LocalTake 0 ∷ Block (signature ((Of Lin I64) ∷ []) ((Of Lin I64) ∷ []) []) (Br 0 ∷ []) ∷ []) ∷ []))
  pub locals_differ_at_br_the_first : BodyRefused (1 ∷ 1 ∷ []) (Block plain (I64Const 1 ∷ LocalSet 1 ∷ I32Const 1 ∷ LocalSet 0 ∷ Br 0 ∷ []) ∷ I64Const 0 ∷ []) (0 ∷ 0 ∷ 4 ∷ []) rule.LocalsDiffer (Some short) (Some unit_type)
  pub a_loop_has_the_locals_of_its_entry : BodyRefused (1 ∷ []) (Loop (signature [] [] (local 0 long ∷ [])) (I64Const 1 ∷ LocalSet 0 ∷ I32Const 0 ∷ BrIf 0 ∷ []) ∷ I64Const 0 ∷ []) (0 ∷ 0 ∷ 3 ∷ []) rule.LocalsDiffer (Some long) (Some unit_type)
  pub a_loop_has_its_parameters : Accepted (functions (main_function [] (I64Const 3 ∷ Loop (signature (long ∷ []) [] []) (I64Const 1 ∷ Num num.I64Sub ∷ I32Const 0 ∷ BrIf 0 ∷ Drop ∷ []) ∷ I64Const 0 ∷ []) ∷ []))
  pub br_if_gives_the_values_back : Accepted (functions (main_function [] (Block (signature [] (long ∷ []) []) (I64Const 3 ∷ I32Const 0 ∷ BrIf 0 ∷ I64Const 1 ∷ Num num.I64Add ∷ []) ∷ []) ∷ []))
  pub br_if_the_condition_is_on_top : BodyRefused [] (Block (signature [] (long ∷ []) []) (I32Const 0 ∷ I64Const 3 ∷ BrIf 0 ∷ []) ∷ []) (0 ∷ 0 ∷ 2 ∷ []) rule.OperandType (Some short) (Some long)
