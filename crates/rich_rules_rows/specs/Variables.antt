-- Bodies that get and set locals and globals. This project's own.
use Rattle.std.specs.Prelude.{[], ◌∷◌, true, false, Some, None}
use Rattle.rw_types.specs.declared.instrs.Instr.{GlobalSet, Group, I32Const, I64Const, LocalGet, LocalSet, LocalTake}
use Rattle.rw_types.specs.declared.types.Binder.TheVariants.{Kind}
use Rattle.rw_types.specs.declared.types.Pre.{I64}
use Rattle.rw_types.specs.declared.types.Qual.TheVariants.{Lin, Unr}
use Rattle.rw_types.specs.declared.types.Ty.{Of, Var}
use Rattle.rich_types.specs.Rows.{long, short, tuple, unit_type}
use Rattle.rich_typing.specs.declared.notes.Place.TheVariants.{FuncAt}
use Rattle.rich_typing.specs.declared.rules.Rule.TheVariants as rule
use Rattle.rich_rules_rows.specs.Samples.{Accepted, Refused, BodyRefused, functions, function, main_function, fun_type, module_of, global}

-- a number is looked at first; what is dropped or copied is `unr`, what is taken is not; a value fits its slot
pub record WorkedVariables : Type 0 where
  pub get_of_a_linear_local : Refused (functions (function (fun_type [] ((Of Lin I64) ∷ []) ((Of Lin I64) ∷ [])) [] (LocalGet 0 ∷ []) ∷ [])) (FuncAt 0 (0 ∷ [])) rule.LinearCopy (Some (Of Lin I64)) None
  pub take_of_an_unr_local : Refused (functions (function (fun_type [] (long ∷ []) (long ∷ [])) [] (LocalTake 0 ∷ []) ∷ [])) (FuncAt 0 (0 ∷ [])) rule.Spent (Some long) None
  pub take_twice : Refused (functions (function (fun_type [] ((Of Lin I64) ∷ []) ((Of Lin I64) ∷ (Of Lin I64) ∷ [])) [] (LocalTake 0 ∷ LocalTake 0 ∷ []) ∷ [])) (FuncAt 0 (1 ∷ [])) rule.Spent (Some unit_type) None
  pub get_after_take : Accepted (functions (function (fun_type [] ((Of Lin I64) ∷ []) ((Of Lin I64) ∷ unit_type ∷ [])) [] (LocalTake 0 ∷ LocalGet 0 ∷ []) ∷ []))
  pub set_linear_drop_before_slot_size : Refused (functions (function (fun_type [] ((Of Lin I64) ∷ long ∷ []) (long ∷ [])) [] (LocalGet 1 ∷ LocalGet 1 ∷ Group 2 Unr ∷ LocalSet 0 ∷ I64Const 0 ∷ []) ∷ [])) (FuncAt 0 (3 ∷ [])) rule.LinearDrop (Some (Of Lin I64)) None
  pub set_slot_size : Refused (functions (function (fun_type [] ((Of Lin I64) ∷ long ∷ []) ((Of Lin I64) ∷ [])) [] (LocalTake 0 ∷ LocalGet 1 ∷ LocalGet 1 ∷ Group 2 Unr ∷ LocalSet 0 ∷ []) ∷ [])) (FuncAt 0 (4 ∷ [])) rule.SlotSize (Some (tuple (long ∷ long ∷ []))) None
  pub set_index_before_operands : BodyRefused [] (LocalSet 0 ∷ I64Const 0 ∷ []) (0 ∷ []) rule.Index None None
  pub set_operands : BodyRefused (1 ∷ []) (LocalSet 0 ∷ I64Const 0 ∷ []) (0 ∷ []) rule.Operands None None
  pub set_of_another_type_of_its_size : Accepted (functions (function (fun_type [] (long ∷ []) (short ∷ [])) [] (I32Const 5 ∷ LocalSet 0 ∷ LocalGet 0 ∷ []) ∷ []))
  pub a_slot_of_no_words_for_a_number : BodyRefused (0 ∷ []) (I64Const 0 ∷ LocalSet 0 ∷ I64Const 0 ∷ []) (1 ∷ []) rule.SlotSize (Some long) None
  pub a_variable_has_its_own_slot : Refused (functions (function (fun_type (Kind Unr 1 ∷ []) ((Var 0) ∷ []) []) [] (I64Const 1 ∷ I64Const 1 ∷ Group 2 Unr ∷ LocalSet 0 ∷ []) ∷ [])) (FuncAt 0 (3 ∷ [])) rule.SlotSize (Some (tuple (long ∷ long ∷ []))) None
  pub set_of_a_const_global : Refused (module_of [] (main_function [] (I64Const 1 ∷ GlobalSet 0 ∷ I64Const 0 ∷ []) ∷ []) (global false long (I64Const 1 ∷ []) ∷ []) []) (FuncAt 0 (1 ∷ [])) rule.ConstGlobal None None
  pub const_global_before_operands : Refused (module_of [] (main_function [] (GlobalSet 0 ∷ I64Const 0 ∷ []) ∷ []) (global false long (I64Const 1 ∷ []) ∷ []) []) (FuncAt 0 (0 ∷ [])) rule.ConstGlobal None None
  pub index_before_const_global : Refused (module_of [] (main_function [] (GlobalSet 1 ∷ I64Const 0 ∷ []) ∷ []) (global false long (I64Const 1 ∷ []) ∷ []) []) (FuncAt 0 (0 ∷ [])) rule.Index None None
  pub set_operand_type : Refused (module_of [] (main_function [] (I32Const 1 ∷ GlobalSet 0 ∷ I64Const 0 ∷ []) ∷ []) (global true long (I64Const 1 ∷ []) ∷ []) []) (FuncAt 0 (1 ∷ [])) rule.OperandType (Some short) (Some long)
