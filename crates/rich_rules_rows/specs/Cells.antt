-- Bodies that make, read, write and free cells. This project's own.
use Rattle.std.specs.Prelude.{[], ◌∷◌, Some, None}
use Rattle.rw_types.specs.declared.instrs.Instr.{ArrayFree, ArrayLen, ArrayMalloc, ArraySet, Br, Call, Drop, ExistPack, Group, I32Const, I64Const, LocalGet, LocalSet, LocalTake, Nop, Num, Print, Qualify, RecFold, RecUnfold, StructFree, StructGet, StructMalloc, StructSet, StructSwap, Ungroup, Unit, Unreachable, VariantMalloc}
use Rattle.rw_types.specs.declared.instrs.Instr.TheVariants.{ExistUnpack, MemUnpack, VariantCase}
use Rattle.rw_types.specs.declared.numbers.NumName.TheVariants as num
use Rattle.rw_types.specs.declared.types.Arg.TheVariants.{Given as to_type}
use Rattle.rw_types.specs.declared.types.Binder.TheVariants.{Kind, Loc}
use Rattle.rw_types.specs.declared.types.Heap.TheVariants.{Array, Exist, Struct, Variant}
use Rattle.rw_types.specs.declared.types.Mem.TheVariants.{L, U}
use Rattle.rw_types.specs.declared.types.Pre.{I64, Ref}
use Rattle.rw_types.specs.declared.types.Priv.TheVariants.{R, Rw}
use Rattle.rw_types.specs.declared.types.Qual.TheVariants.{Lin, Unr}
use Rattle.rw_types.specs.declared.types.Ty.{Of, Var}
use Rattle.rw_types.specs.declared.types.Ty.TheVariants.{Rec}
use Rattle.rich_types.specs.Rows.{hidden_reference, long, short, slot, tuple, unit_type}
use Rattle.rich_typing.specs.declared.notes.Place.TheVariants.{FuncAt}
use Rattle.rich_typing.specs.declared.rules.Rule.TheVariants as rule
use Rattle.rich_rules_rows.specs.Samples.{Accepted, Refused, BodyRefused, functions, function, main_function, fun_type, signature, plain}

-- a cell has the form that is taken, then its memory, its privilege, its slot and what stands there; what is given is well formed
pub record WorkedCells : Type 0 where
  pub malloc_operands : BodyRefused [] (I64Const 1 ∷ StructMalloc U (1 ∷ 1 ∷ []) ∷ Drop ∷ I64Const 0 ∷ []) (1 ∷ []) rule.Operands None None
  pub malloc_slot_size_the_deepest : BodyRefused [] (I64Const 1 ∷ I64Const 1 ∷ StructMalloc U (0 ∷ 0 ∷ []) ∷ Drop ∷ I64Const 0 ∷ []) (2 ∷ []) rule.SlotSize (Some long) None
  pub malloc_slot_size_before_the_given_type : BodyRefused [] (I64Const 1 ∷ I64Const 1 ∷ StructMalloc U (10001 ∷ 0 ∷ []) ∷ Drop ∷ I64Const 0 ∷ []) (2 ∷ []) rule.SlotSize (Some long) None
  pub malloc_10000_words : Accepted (functions (main_function [] (I64Const 1 ∷ I64Const 1 ∷ StructMalloc U (9999 ∷ 1 ∷ []) ∷ Drop ∷ I64Const 0 ∷ []) ∷ []))
  pub malloc_10001_words : BodyRefused [] (I64Const 1 ∷ I64Const 1 ∷ StructMalloc U (9999 ∷ 2 ∷ []) ∷ Drop ∷ I64Const 0 ∷ []) (2 ∷ []) rule.TypeForm (Some (hidden_reference Unr U (Struct (slot long 9999 ∷ slot long 2 ∷ [])))) None
  pub get_of_an_array : BodyRefused [] (I64Const 1 ∷ I32Const 1 ∷ ArrayMalloc U ∷ MemUnpack plain (StructGet 0 ∷ Drop ∷ Drop ∷ []) ∷ I64Const 0 ∷ []) (3 ∷ 0 ∷ 0 ∷ []) rule.OperandType (Some (Of Unr (Ref Rw 0 (Array long)))) None
  pub get_of_a_hidden_ref : BodyRefused [] (I64Const 1 ∷ StructMalloc U (1 ∷ []) ∷ StructGet 0 ∷ Drop ∷ Drop ∷ I64Const 0 ∷ []) (2 ∷ []) rule.OperandType (Some (hidden_reference Unr U (Struct (slot long 1 ∷ [])))) None
  pub get_slot_before_linear_copy : BodyRefused [] (I64Const 1 ∷ Qualify ∷ StructMalloc U (1 ∷ []) ∷ MemUnpack plain (StructGet 1 ∷ Drop ∷ Drop ∷ []) ∷ I64Const 0 ∷ []) (3 ∷ 0 ∷ 0 ∷ []) rule.Slot (Some (Of Unr (Ref Rw 0 (Struct (slot (Of Lin I64) 1 ∷ []))))) None
  pub get_of_a_linear_slot : BodyRefused [] (I64Const 1 ∷ Qualify ∷ StructMalloc U (1 ∷ []) ∷ MemUnpack plain (StructGet 0 ∷ Drop ∷ Drop ∷ []) ∷ I64Const 0 ∷ []) (3 ∷ 0 ∷ 0 ∷ []) rule.LinearCopy (Some (Of Lin I64)) None
  pub set_slot_before_slot_type : BodyRefused [] (I64Const 5 ∷ StructMalloc U (1 ∷ []) ∷ MemUnpack plain (I32Const 1 ∷ StructSet 1 ∷ Drop ∷ []) ∷ I64Const 0 ∷ []) (2 ∷ 0 ∷ 1 ∷ []) rule.Slot (Some (Of Unr (Ref Rw 0 (Struct (slot long 1 ∷ []))))) None
  pub set_linear_drop_before_slot_type : BodyRefused [] (I64Const 1 ∷ Qualify ∷ StructMalloc U (1 ∷ []) ∷ MemUnpack plain (I32Const 1 ∷ StructSet 0 ∷ Drop ∷ []) ∷ I64Const 0 ∷ []) (3 ∷ 0 ∷ 1 ∷ []) rule.LinearDrop (Some (Of Lin I64)) None
  pub swap_slot_type : BodyRefused [] (I64Const 1 ∷ Qualify ∷ StructMalloc U (1 ∷ []) ∷ MemUnpack plain (I32Const 1 ∷ StructSwap 0 ∷ Unreachable ∷ []) ∷ I64Const 0 ∷ []) (3 ∷ 0 ∷ 1 ∷ []) rule.SlotType (Some short) (Some (Of Lin I64))
  pub swap_of_a_linear_slot_in_U : Accepted (functions (main_function [] (I64Const 1 ∷ Qualify ∷ StructMalloc U (1 ∷ []) ∷ MemUnpack plain (I64Const 2 ∷ Qualify ∷ StructSwap 0 ∷ StructMalloc U (1 ∷ []) ∷ Drop ∷ Drop ∷ []) ∷ I64Const 0 ∷ []) ∷ []))
  pub a_slot_wider_than_its_type_keeps_its_type_in_U : BodyRefused [] (I64Const 1 ∷ StructMalloc U (2 ∷ []) ∷ MemUnpack plain (I64Const 1 ∷ I64Const 2 ∷ Group 2 Unr ∷ StructSet 0 ∷ Drop ∷ []) ∷ I64Const 0 ∷ []) (2 ∷ 0 ∷ 3 ∷ []) rule.SlotType (Some (tuple (long ∷ long ∷ []))) (Some long)
  pub variant_index_before_type_form : BodyRefused [] (VariantMalloc U 0 [] ∷ Drop ∷ I64Const 0 ∷ []) (0 ∷ []) rule.Index None None
  pub variant_type_form_of_a_later_case : BodyRefused [] (I64Const 1 ∷ VariantMalloc U 0 (long ∷ (Var 0) ∷ []) ∷ Drop ∷ I64Const 0 ∷ []) (1 ∷ []) rule.TypeForm (Some (Var 0)) None
  pub variant_operand_type : BodyRefused [] (I64Const 1 ∷ VariantMalloc U 0 (unit_type ∷ long ∷ []) ∷ Drop ∷ I64Const 0 ∷ []) (1 ∷ []) rule.OperandType (Some long) (Some unit_type)
  pub variant_a_linear_case_in_U : BodyRefused [] (I64Const 1 ∷ VariantMalloc U 1 ((Of Lin I64) ∷ long ∷ []) ∷ Drop ∷ I64Const 0 ∷ []) (1 ∷ []) rule.TypeForm (Some (hidden_reference Unr U (Variant ((Of Lin I64) ∷ long ∷ [])))) None
  pub case_too_few_lists : BodyRefused [] (I64Const 1 ∷ VariantMalloc U 1 (unit_type ∷ long ∷ []) ∷ MemUnpack plain (VariantCase plain ((Drop ∷ []) ∷ []) ∷ []) ∷ I64Const 0 ∷ []) (2 ∷ 0 ∷ 0 ∷ []) rule.Arms None None
  pub case_operand_type_before_arms : BodyRefused [] (I64Const 5 ∷ StructMalloc U (1 ∷ []) ∷ MemUnpack plain (VariantCase plain [] ∷ []) ∷ I64Const 0 ∷ []) (2 ∷ 0 ∷ 0 ∷ []) rule.OperandType (Some (Of Unr (Ref Rw 0 (Struct (slot long 1 ∷ []))))) None
  pub case_the_second_list_differs : BodyRefused [] (I64Const 1 ∷ VariantMalloc U 1 (unit_type ∷ long ∷ []) ∷ MemUnpack plain (VariantCase (signature [] (long ∷ []) []) ((Drop ∷ I64Const 1 ∷ []) ∷ (Nop ∷ Drop ∷ []) ∷ []) ∷ Print ∷ []) ∷ I64Const 0 ∷ []) (2 ∷ 0 ∷ 0 ∷ 1 ∷ 2 ∷ []) rule.BlockEnd None None
  pub case_with_a_parameter : Accepted (functions (main_function [] (I64Const 3 ∷ Unit ∷ VariantMalloc U 0 (unit_type ∷ long ∷ []) ∷ MemUnpack (signature (long ∷ []) (long ∷ []) []) (VariantCase (signature (long ∷ []) (long ∷ []) []) ((Drop ∷ []) ∷ (Num num.I64Add ∷ []) ∷ []) ∷ []) ∷ []) ∷ []))
  pub array_operand_type_before_linear_copy : BodyRefused [] (I64Const 1 ∷ Qualify ∷ I64Const 1 ∷ ArrayMalloc U ∷ Drop ∷ I64Const 0 ∷ []) (3 ∷ []) rule.OperandType (Some long) (Some short)
  pub array_linear_copy : BodyRefused [] (I64Const 1 ∷ Qualify ∷ I32Const 1 ∷ ArrayMalloc U ∷ Drop ∷ I64Const 0 ∷ []) (3 ∷ []) rule.LinearCopy (Some (Of Lin I64)) None
  pub array_of_10000_words : Refused (functions (function (fun_type (Kind Unr 10000 ∷ []) ((Var 0) ∷ []) []) [] (LocalGet 0 ∷ I32Const 2 ∷ ArrayMalloc U ∷ Drop ∷ []) ∷ [])) (FuncAt 0 (2 ∷ [])) rule.TypeForm (Some (hidden_reference Unr U (Array (Var 0)))) None
  pub array_set_the_index_is_deeper : BodyRefused [] (I64Const 1 ∷ I32Const 1 ∷ ArrayMalloc U ∷ MemUnpack plain (I64Const 0 ∷ I32Const 0 ∷ ArraySet ∷ Drop ∷ []) ∷ I64Const 0 ∷ []) (3 ∷ 0 ∷ 2 ∷ []) rule.OperandType (Some long) (Some short)
  pub array_set_the_element : BodyRefused [] (I64Const 1 ∷ I32Const 1 ∷ ArrayMalloc U ∷ MemUnpack plain (I32Const 0 ∷ I32Const 0 ∷ ArraySet ∷ Drop ∷ []) ∷ I64Const 0 ∷ []) (3 ∷ 0 ∷ 2 ∷ []) rule.OperandType (Some short) (Some long)
  pub array_len_of_a_struct : BodyRefused [] (I64Const 5 ∷ StructMalloc U (1 ∷ []) ∷ MemUnpack plain (ArrayLen ∷ Drop ∷ Drop ∷ []) ∷ I64Const 0 ∷ []) (2 ∷ 0 ∷ 0 ∷ []) rule.OperandType (Some (Of Unr (Ref Rw 0 (Struct (slot long 1 ∷ []))))) None
  pub exist_pack_qualifier_before_size_both_before_operands : BodyRefused [] (ExistPack U Lin 2 long (Var 0) ∷ Drop ∷ I64Const 0 ∷ []) (0 ∷ []) rule.Qualifier (Some long) None
  pub exist_pack_size_before_operands : BodyRefused [] (ExistPack U Unr 2 long (Var 0) ∷ Drop ∷ I64Const 0 ∷ []) (0 ∷ []) rule.Size (Some long) None
  pub exist_pack_type_form_of_the_hidden_type_before_that_of_the_body : BodyRefused [] (ExistPack U Unr 1 (Var 0) (Var 1) ∷ Drop ∷ I64Const 0 ∷ []) (0 ∷ []) rule.TypeForm (Some (Var 0)) None
  pub exist_pack_the_body_under_its_binder : BodyRefused [] (ExistPack U Lin 1 long (Var 1) ∷ Drop ∷ I64Const 0 ∷ []) (0 ∷ []) rule.TypeForm (Some (Var 1)) None
  pub exist_pack_the_body_with_the_hidden_type_put_in : BodyRefused [] (I64Const 1 ∷ ExistPack U Unr 1 short (Var 0) ∷ Drop ∷ I64Const 0 ∷ []) (1 ∷ []) rule.OperandType (Some long) (Some short)
  pub exist_pack_a_linear_body_in_U : BodyRefused [] (I64Const 1 ∷ Qualify ∷ ExistPack U Lin 1 (Of Lin I64) (Var 0) ∷ Drop ∷ I64Const 0 ∷ []) (2 ∷ []) rule.TypeForm (Some (hidden_reference Unr U (Exist Lin 1 (Var 0)))) None
  pub exist_unpack_the_variable_escapes : BodyRefused [] (I64Const 1 ∷ ExistPack U Unr 1 long (Var 0) ∷ MemUnpack plain (ExistUnpack (signature [] ((Var 0) ∷ []) []) (Br 0 ∷ []) ∷ Drop ∷ []) ∷ I64Const 0 ∷ []) (2 ∷ 0 ∷ 0 ∷ []) rule.TypeForm (Some (Var 0)) None
  pub exist_unpack_the_variable_is_no_number : BodyRefused [] (I64Const 1 ∷ ExistPack U Unr 1 long (Var 0) ∷ MemUnpack plain (ExistUnpack plain (Print ∷ []) ∷ []) ∷ I64Const 0 ∷ []) (2 ∷ 0 ∷ 0 ∷ 0 ∷ 0 ∷ []) rule.OperandType (Some (Var 0)) (Some long)
  pub exist_unpack_a_pair_of_variables : Accepted (functions (main_function [] (I64Const 1 ∷ I64Const 2 ∷ Group 2 Unr ∷ ExistPack U Unr 1 long (tuple ((Var 0) ∷ long ∷ [])) ∷ MemUnpack plain (ExistUnpack plain (Ungroup ∷ Print ∷ Drop ∷ []) ∷ []) ∷ I64Const 0 ∷ []) ∷ []))
  pub two_packages_are_two_types : Refused (functions (function (fun_type (Kind Unr 1 ∷ []) ((Var 0) ∷ (Var 0) ∷ []) []) [] [] ∷ main_function (1 ∷ []) (I64Const 1 ∷ ExistPack U Unr 1 long (Var 0) ∷ MemUnpack plain (ExistUnpack plain (LocalSet 0 ∷ I64Const 2 ∷ ExistPack U Unr 1 long (Var 0) ∷ MemUnpack plain (ExistUnpack plain (LocalGet 0 ∷ Call 0 (to_type (Var 0) ∷ []) ∷ []) ∷ []) ∷ Unit ∷ LocalSet 0 ∷ []) ∷ []) ∷ I64Const 0 ∷ []) ∷ [])) (FuncAt 1 (2 ∷ 0 ∷ 0 ∷ 0 ∷ 3 ∷ 0 ∷ 0 ∷ 0 ∷ 1 ∷ [])) rule.OperandType (Some (Var 1)) (Some (Var 0))
  pub a_list_by_a_recursive_type : Accepted (functions (main_function [] (Unit ∷ VariantMalloc U 0 (unit_type ∷ (tuple (long ∷ (Rec Unr 1 (hidden_reference Unr U (Variant (unit_type ∷ (tuple (long ∷ (Var 0) ∷ [])) ∷ [])))) ∷ [])) ∷ []) ∷ RecFold (Rec Unr 1 (hidden_reference Unr U (Variant (unit_type ∷ (tuple (long ∷ (Var 0) ∷ [])) ∷ [])))) ∷ RecUnfold ∷ MemUnpack (signature [] (long ∷ []) []) (VariantCase (signature [] (long ∷ []) []) ((Drop ∷ I64Const 4 ∷ []) ∷ (Ungroup ∷ Drop ∷ []) ∷ []) ∷ []) ∷ []) ∷ []))
  pub free_memory_before_linear_drop : BodyRefused [] (I64Const 1 ∷ Qualify ∷ StructMalloc U (1 ∷ []) ∷ MemUnpack plain (StructFree ∷ []) ∷ I64Const 0 ∷ []) (3 ∷ 0 ∷ 0 ∷ []) rule.Memory (Some (Of Unr (Ref Rw 0 (Struct (slot (Of Lin I64) 1 ∷ []))))) None
  pub free_privilege_before_linear_drop : Refused (functions (function (fun_type (Loc L ∷ []) ((Of Lin (Ref R 0 (Struct (slot (Of Lin I64) 1 ∷ [])))) ∷ []) []) [] (LocalTake 0 ∷ StructFree ∷ []) ∷ [])) (FuncAt 0 (1 ∷ [])) rule.Privilege (Some (Of Lin (Ref R 0 (Struct (slot (Of Lin I64) 1 ∷ []))))) None
  pub free_linear_drop : BodyRefused [] (I32Const 1 ∷ I64Const 1 ∷ Qualify ∷ I64Const 1 ∷ Qualify ∷ Group 1 Lin ∷ StructMalloc L (1 ∷ 1 ∷ 1 ∷ []) ∷ MemUnpack plain (StructFree ∷ []) ∷ I64Const 0 ∷ []) (7 ∷ 0 ∷ 0 ∷ []) rule.LinearDrop (Some (Of Lin I64)) None
  pub free_after_its_linear_slot_was_taken_out : Accepted (functions (main_function [] (I64Const 1 ∷ I64Const 1 ∷ Group 2 Lin ∷ StructMalloc L (2 ∷ []) ∷ MemUnpack plain (Unit ∷ StructSwap 0 ∷ Ungroup ∷ Num num.I64Add ∷ Print ∷ StructFree ∷ []) ∷ I64Const 0 ∷ []) ∷ []))
  pub array_free_of_U : BodyRefused [] (I64Const 1 ∷ I32Const 2 ∷ ArrayMalloc U ∷ MemUnpack plain (ArrayFree ∷ []) ∷ I64Const 0 ∷ []) (3 ∷ 0 ∷ 0 ∷ []) rule.Memory (Some (Of Unr (Ref Rw 0 (Array long)))) None
  pub array_free_of_a_read_ref : Refused (functions (function (fun_type (Loc L ∷ []) ((Of Lin (Ref R 0 (Array long))) ∷ []) []) [] (LocalTake 0 ∷ ArrayFree ∷ []) ∷ [])) (FuncAt 0 (1 ∷ [])) rule.Privilege (Some (Of Lin (Ref R 0 (Array long)))) None
  pub array_set_of_a_read_ref_operand_type_before_privilege : Refused (functions (function (fun_type (Loc L ∷ []) ((Of Lin (Ref R 0 (Array long))) ∷ []) []) [] (LocalTake 0 ∷ I32Const 0 ∷ I32Const 0 ∷ ArraySet ∷ []) ∷ [])) (FuncAt 0 (3 ∷ [])) rule.OperandType (Some short) (Some long)
  pub array_set_of_a_read_ref : Refused (functions (function (fun_type (Loc L ∷ []) ((Of Lin (Ref R 0 (Array long))) ∷ []) []) [] (LocalTake 0 ∷ I32Const 0 ∷ I64Const 0 ∷ ArraySet ∷ []) ∷ [])) (FuncAt 0 (3 ∷ [])) rule.Privilege (Some (Of Lin (Ref R 0 (Array long)))) None
  pub set_of_a_read_ref_privilege_before_slot : Refused (functions (function (fun_type (Loc L ∷ []) ((Of Lin (Ref R 0 (Struct (slot long 1 ∷ [])))) ∷ []) []) [] (LocalTake 0 ∷ I32Const 0 ∷ StructSet 7 ∷ []) ∷ [])) (FuncAt 0 (2 ∷ [])) rule.Privilege (Some (Of Lin (Ref R 0 (Struct (slot long 1 ∷ []))))) None
  pub set_another_type_of_the_slot : Accepted (functions (main_function [] (I64Const 5 ∷ StructMalloc L (1 ∷ []) ∷ MemUnpack plain (I32Const 7 ∷ StructSet 0 ∷ StructGet 0 ∷ Num num.I64ExtendI32U ∷ Print ∷ Unit ∷ StructSet 0 ∷ StructFree ∷ []) ∷ I64Const 0 ∷ []) ∷ []))
  pub set_linear_drop_before_slot_size : BodyRefused [] (I64Const 1 ∷ Qualify ∷ StructMalloc L (1 ∷ []) ∷ MemUnpack plain (I64Const 1 ∷ I64Const 2 ∷ Group 2 Unr ∷ StructSet 0 ∷ Unreachable ∷ []) ∷ I64Const 0 ∷ []) (3 ∷ 0 ∷ 3 ∷ []) rule.LinearDrop (Some (Of Lin I64)) None
  pub swap_slot_size : BodyRefused [] (I64Const 1 ∷ Qualify ∷ StructMalloc L (1 ∷ []) ∷ MemUnpack plain (I64Const 1 ∷ I64Const 2 ∷ Group 2 Unr ∷ StructSwap 0 ∷ Unreachable ∷ []) ∷ I64Const 0 ∷ []) (3 ∷ 0 ∷ 3 ∷ []) rule.SlotSize (Some (tuple (long ∷ long ∷ []))) None
  pub case_of_a_read_ref_privilege_before_arms : Refused (functions (function (fun_type (Loc L ∷ []) ((Of Lin (Ref R 0 (Variant (long ∷ [])))) ∷ []) []) [] (LocalTake 0 ∷ VariantCase plain [] ∷ []) ∷ [])) (FuncAt 0 (1 ∷ [])) rule.Privilege (Some (Of Lin (Ref R 0 (Variant (long ∷ []))))) None
  pub exist_unpack_of_a_read_ref : Refused (functions (function (fun_type (Loc L ∷ []) ((Of Lin (Ref R 0 (Exist Unr 1 (Var 0)))) ∷ []) []) [] (LocalTake 0 ∷ ExistUnpack plain (Drop ∷ []) ∷ []) ∷ [])) (FuncAt 0 (1 ∷ [])) rule.Privilege (Some (Of Lin (Ref R 0 (Exist Unr 1 (Var 0))))) None
  pub a_linear_case_is_taken_out : Accepted (functions (main_function [] (I64Const 1 ∷ StructMalloc L (1 ∷ []) ∷ VariantMalloc L 1 (unit_type ∷ (hidden_reference Lin L (Struct (slot long 1 ∷ []))) ∷ []) ∷ MemUnpack plain (VariantCase plain ((Drop ∷ []) ∷ (MemUnpack plain (StructFree ∷ []) ∷ []) ∷ []) ∷ []) ∷ I64Const 0 ∷ []) ∷ []))
  pub a_linear_case_is_left : BodyRefused [] (I64Const 1 ∷ StructMalloc L (1 ∷ []) ∷ VariantMalloc L 1 (unit_type ∷ (hidden_reference Lin L (Struct (slot long 1 ∷ []))) ∷ []) ∷ MemUnpack plain (VariantCase plain ((Drop ∷ []) ∷ (Drop ∷ []) ∷ []) ∷ []) ∷ I64Const 0 ∷ []) (3 ∷ 0 ∷ 0 ∷ 1 ∷ 0 ∷ []) rule.LinearDrop (Some (hidden_reference Lin L (Struct (slot long 1 ∷ [])))) None
