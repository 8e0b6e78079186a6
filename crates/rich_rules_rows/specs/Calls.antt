-- Bodies that call functions and answer binders. This project's own.
use Rattle.std.specs.Prelude.{[], ◌∷◌, Some, None}
use Rattle.rw_types.specs.declared.instrs.Instr.{Call, CallIndirect, Coderef, Drop, Group, I32Const, I64Const, Inst, LocalGet, LocalSet, LocalTake, Num, Qualify, RefSplit, StructGet, StructMalloc, Ungroup, Unit}
use Rattle.rw_types.specs.declared.instrs.Instr.TheVariants.{MemUnpack}
use Rattle.rw_types.specs.declared.numbers.NumName.TheVariants as num
use Rattle.rw_types.specs.declared.types.Arg.TheVariants.{Loc as to_location, Given as to_type}
use Rattle.rw_types.specs.declared.types.Binder.TheVariants.{Kind, Loc}
use Rattle.rw_types.specs.declared.types.Heap.TheVariants.{Struct}
use Rattle.rw_types.specs.declared.types.Mem.TheVariants.{L, U}
use Rattle.rw_types.specs.declared.types.Pre.{I64, Ptr, Ref}
use Rattle.rw_types.specs.declared.types.Pre.TheVariants.{Code, Tuple}
use Rattle.rw_types.specs.declared.types.Priv.TheVariants.{Rw}
use Rattle.rw_types.specs.declared.types.Qual.TheVariants.{Lin, Unr}
use Rattle.rw_types.specs.declared.types.Ty.{Of, Var}
use Rattle.rich_types.specs.Rows.{long, short, slot, tuple}
use Rattle.rich_typing.specs.declared.notes.Place.TheVariants.{FuncAt}
use Rattle.rich_typing.specs.declared.rules.Rule.TheVariants as rule
use Rattle.rich_rules_rows.specs.Samples.{Accepted, Refused, BodyRefused, functions, function, main_function, fun_type, signature, plain}

-- a function and the locations of arguments are looked at first, then the types of arguments, then whether they answer the binders, and then the operands
pub record WorkedCalls : Type 0 where
  pub call_index_before_type_form_of_an_argument : BodyRefused [] (Call 9 (to_type (Var 0) ∷ []) ∷ []) (0 ∷ []) rule.Index None None
  pub call_a_location_before_a_type : BodyRefused [] (Call 0 (to_type (Var 0) ∷ to_location 0 ∷ []) ∷ []) (0 ∷ []) rule.Index None None
  pub call_type_form_before_instance : BodyRefused [] (Call 0 (to_type long ∷ to_type (Var 0) ∷ []) ∷ []) (0 ∷ []) rule.TypeForm (Some (Var 0)) None
  pub call_instance_before_operands : Refused (functions (function (fun_type [] (long ∷ []) (long ∷ [])) [] (LocalGet 0 ∷ []) ∷ main_function [] (Call 0 (to_type long ∷ []) ∷ []) ∷ [])) (FuncAt 1 (0 ∷ [])) rule.Instance None None
  pub call_too_few_arguments : Refused (functions (function (fun_type (Kind Unr 1 ∷ []) ((Var 0) ∷ []) ((Var 0) ∷ [])) [] (LocalGet 0 ∷ []) ∷ main_function [] (I64Const 1 ∷ Call 0 [] ∷ []) ∷ [])) (FuncAt 1 (1 ∷ [])) rule.Instance None None
  pub call_another_qualifier : Refused (functions (function (fun_type (Kind Lin 1 ∷ []) ((Var 0) ∷ []) ((Var 0) ∷ [])) [] (LocalTake 0 ∷ []) ∷ main_function [] (I64Const 1 ∷ Call 0 (to_type long ∷ []) ∷ []) ∷ [])) (FuncAt 1 (1 ∷ [])) rule.Instance None None
  pub call_another_size : Refused (functions (function (fun_type (Kind Unr 1 ∷ []) ((Var 0) ∷ []) ((Var 0) ∷ [])) [] (LocalGet 0 ∷ []) ∷ main_function [] (I64Const 1 ∷ I64Const 1 ∷ Group 2 Unr ∷ Call 0 (to_type (tuple (long ∷ long ∷ [])) ∷ []) ∷ Ungroup ∷ Num num.I64Add ∷ []) ∷ [])) (FuncAt 1 (3 ∷ [])) rule.Instance None None
  pub call_operands : Refused (functions (function (fun_type [] (long ∷ short ∷ []) (long ∷ [])) [] (LocalGet 0 ∷ []) ∷ main_function [] (I32Const 1 ∷ Call 0 [] ∷ []) ∷ [])) (FuncAt 1 (1 ∷ [])) rule.Operands None None
  pub call_the_deepest_that_differs : Refused (functions (function (fun_type [] (long ∷ short ∷ long ∷ []) (long ∷ [])) [] (LocalGet 0 ∷ []) ∷ main_function [] (I64Const 1 ∷ I64Const 1 ∷ I32Const 1 ∷ Call 0 [] ∷ []) ∷ [])) (FuncAt 1 (3 ∷ [])) rule.OperandType (Some long) (Some short)
  pub call_a_parameter_with_its_argument_put_in : Refused (functions (function (fun_type (Kind Unr 1 ∷ []) (long ∷ (Var 0) ∷ []) []) [] [] ∷ main_function [] (I64Const 1 ∷ I64Const 1 ∷ Call 0 (to_type short ∷ []) ∷ I64Const 0 ∷ []) ∷ [])) (FuncAt 1 (2 ∷ [])) rule.OperandType (Some long) (Some short)
  pub a_function_calls_itself_with_its_binder : Accepted (functions (function (fun_type (Kind Unr 1 ∷ []) ((Var 0) ∷ []) ((Var 0) ∷ [])) [] (LocalGet 0 ∷ Call 0 (to_type (Var 0) ∷ []) ∷ []) ∷ []))
  pub two_variables_the_second_innermost : Accepted (functions (function (fun_type (Kind Lin 2 ∷ Kind Unr 1 ∷ []) ((Var 1) ∷ (Var 0) ∷ []) ((Var 1) ∷ [])) [] (LocalGet 1 ∷ Drop ∷ LocalTake 0 ∷ []) ∷ main_function [] (I64Const 1 ∷ I64Const 6 ∷ Group 2 Lin ∷ I32Const 4 ∷ Call 0 (to_type (Of Lin (Tuple (long ∷ long ∷ []))) ∷ to_type short ∷ []) ∷ Ungroup ∷ Num num.I64Add ∷ []) ∷ []))
  pub two_variables_in_the_wrong_order : Refused (functions (function (fun_type (Kind Lin 2 ∷ Kind Unr 1 ∷ []) ((Var 1) ∷ (Var 0) ∷ []) ((Var 0) ∷ [])) [] (LocalGet 1 ∷ Drop ∷ LocalTake 0 ∷ []) ∷ [])) (FuncAt 0 (3 ∷ [])) rule.BlockEnd (Some (Var 1)) (Some (Var 0))
  pub a_location_of_the_other_memory : Refused (functions (function (fun_type (Loc L ∷ []) ((Of Unr (Ptr 0)) ∷ []) []) [] [] ∷ main_function [] (I64Const 1 ∷ StructMalloc U (1 ∷ []) ∷ MemUnpack plain (Call 0 (to_location 0 ∷ []) ∷ []) ∷ I64Const 0 ∷ []) ∷ [])) (FuncAt 1 (2 ∷ 0 ∷ 0 ∷ [])) rule.Instance None None
  pub two_locations_the_last_innermost : Refused (functions (function (fun_type (Loc L ∷ Loc U ∷ []) ((Of Unr (Ptr 1)) ∷ (Of Unr (Ptr 0)) ∷ []) []) [] [] ∷ main_function (1 ∷ []) (I64Const 5 ∷ StructMalloc L (1 ∷ []) ∷ MemUnpack plain (I64Const 1 ∷ StructMalloc U (1 ∷ []) ∷ MemUnpack plain (Drop ∷ []) ∷ RefSplit ∷ LocalSet 0 ∷ I64Const 2 ∷ StructMalloc U (1 ∷ []) ∷ MemUnpack plain (Drop ∷ LocalGet 0 ∷ LocalGet 0 ∷ Call 0 (to_location 1 ∷ to_location 0 ∷ []) ∷ []) ∷ Unit ∷ LocalSet 0 ∷ Drop ∷ []) ∷ I64Const 0 ∷ []) ∷ [])) (FuncAt 1 (2 ∷ 0 ∷ 7 ∷ 0 ∷ 3 ∷ [])) rule.OperandType (Some (Of Unr (Ptr 1))) (Some (Of Unr (Ptr 0)))
  pub call_with_a_ref_and_its_location : Accepted (functions (function (fun_type (Loc U ∷ []) ((Of Unr (Ref Rw 0 (Struct (slot long 1 ∷ [])))) ∷ []) (long ∷ [])) [] (LocalGet 0 ∷ StructGet 0 ∷ LocalSet 0 ∷ Drop ∷ LocalGet 0 ∷ []) ∷ main_function [] (I64Const 9 ∷ StructMalloc U (1 ∷ []) ∷ MemUnpack (signature [] (long ∷ []) []) (Call 0 (to_location 0 ∷ []) ∷ []) ∷ []) ∷ []))
  pub coderef_of_no_function : BodyRefused [] (Coderef 1 ∷ Drop ∷ I64Const 0 ∷ []) (0 ∷ []) rule.Index None None
  pub coderef_of_a_later_ill_formed_function : Refused (functions (main_function [] (Coderef 1 ∷ Drop ∷ I64Const 0 ∷ []) ∷ function (fun_type [] ((tuple ((Of Lin I64) ∷ [])) ∷ []) []) [] [] ∷ [])) (FuncAt 0 (0 ∷ [])) rule.TypeForm (Some (Of Unr (Code (fun_type [] ((tuple ((Of Lin I64) ∷ [])) ∷ []) [])))) None
  pub a_call_of_a_later_function_with_an_ill_formed_binder : Refused (functions (main_function [] (Call 1 [] ∷ I64Const 0 ∷ []) ∷ function (fun_type [] [] ((Of Unr (Ptr 0)) ∷ [])) [] [] ∷ [])) (FuncAt 0 (0 ∷ [])) rule.TypeForm (Some (Of Unr (Ptr 0))) None
  pub inst_index_before_type_form : Refused (functions (function (fun_type (Kind Unr 1 ∷ []) ((Var 0) ∷ []) ((Var 0) ∷ [])) [] (LocalGet 0 ∷ []) ∷ main_function [] (Coderef 0 ∷ Inst (to_type (Var 0) ∷ to_location 0 ∷ []) ∷ Drop ∷ I64Const 0 ∷ []) ∷ [])) (FuncAt 1 (1 ∷ [])) rule.Index None None
  pub inst_type_form_before_operands : Refused (functions (function (fun_type (Kind Unr 1 ∷ []) ((Var 0) ∷ []) ((Var 0) ∷ [])) [] (LocalGet 0 ∷ []) ∷ main_function [] (Inst (to_type (Var 0) ∷ []) ∷ Drop ∷ I64Const 0 ∷ []) ∷ [])) (FuncAt 1 (0 ∷ [])) rule.TypeForm (Some (Var 0)) None
  pub inst_operands : Refused (functions (function (fun_type (Kind Unr 1 ∷ []) ((Var 0) ∷ []) ((Var 0) ∷ [])) [] (LocalGet 0 ∷ []) ∷ main_function [] (Inst (to_type long ∷ []) ∷ Drop ∷ I64Const 0 ∷ []) ∷ [])) (FuncAt 1 (0 ∷ [])) rule.Operands None None
  pub inst_of_a_number : Refused (functions (function (fun_type (Kind Unr 1 ∷ []) ((Var 0) ∷ []) ((Var 0) ∷ [])) [] (LocalGet 0 ∷ []) ∷ main_function [] (I64Const 0 ∷ Inst (to_type long ∷ []) ∷ Drop ∷ I64Const 0 ∷ []) ∷ [])) (FuncAt 1 (1 ∷ [])) rule.OperandType (Some long) None
  pub inst_of_a_linear_code : Refused (functions (function (fun_type (Kind Unr 1 ∷ []) ((Var 0) ∷ []) ((Var 0) ∷ [])) [] (LocalGet 0 ∷ []) ∷ main_function [] (Coderef 0 ∷ Qualify ∷ Inst (to_type long ∷ []) ∷ Drop ∷ I64Const 0 ∷ []) ∷ [])) (FuncAt 1 (2 ∷ [])) rule.OperandType (Some (Of Lin (Code (fun_type (Kind Unr 1 ∷ []) ((Var 0) ∷ []) ((Var 0) ∷ []))))) None
  pub inst_too_many : Refused (functions (function (fun_type (Kind Unr 1 ∷ []) ((Var 0) ∷ []) ((Var 0) ∷ [])) [] (LocalGet 0 ∷ []) ∷ main_function [] (Coderef 0 ∷ Inst (to_type long ∷ to_type long ∷ []) ∷ Drop ∷ I64Const 0 ∷ []) ∷ [])) (FuncAt 1 (1 ∷ [])) rule.Instance None None
  pub inst_with_a_variable : Accepted (functions (function (fun_type (Kind Unr 1 ∷ []) ((Var 0) ∷ []) ((Var 0) ∷ [])) [] (LocalGet 0 ∷ Coderef 0 ∷ Inst (to_type (Var 0) ∷ []) ∷ CallIndirect ∷ []) ∷ []))
  pub call_indirect_of_a_code_with_binders : Refused (functions (function (fun_type (Kind Unr 1 ∷ []) ((Var 0) ∷ []) ((Var 0) ∷ [])) [] (LocalGet 0 ∷ []) ∷ main_function [] (I64Const 1 ∷ Coderef 0 ∷ CallIndirect ∷ []) ∷ [])) (FuncAt 1 (2 ∷ [])) rule.OperandType (Some (Of Unr (Code (fun_type (Kind Unr 1 ∷ []) ((Var 0) ∷ []) ((Var 0) ∷ []))))) None
  pub call_indirect_of_nothing : BodyRefused [] (CallIndirect ∷ []) (0 ∷ []) rule.Operands None None
  pub call_indirect_operands : Refused (functions (function (fun_type [] (long ∷ long ∷ []) (long ∷ [])) [] (LocalGet 0 ∷ []) ∷ main_function [] (I64Const 1 ∷ Coderef 0 ∷ CallIndirect ∷ []) ∷ [])) (FuncAt 1 (2 ∷ [])) rule.Operands None None
  pub call_indirect_operand_type : Refused (functions (function (fun_type [] (long ∷ short ∷ []) (long ∷ [])) [] (LocalGet 0 ∷ []) ∷ main_function [] (I64Const 1 ∷ I64Const 1 ∷ Coderef 0 ∷ CallIndirect ∷ []) ∷ [])) (FuncAt 1 (3 ∷ [])) rule.OperandType (Some long) (Some short)
