-- Bodies that hide locations and enter them, and that divide rights. This project's own.
use Rattle.std.specs.Prelude.{[], ◌∷◌, Some, None}
use Rattle.rw_types.specs.declared.instrs.Instr.{Br, CapJoin, CapSplit, Drop, I64Const, LocalGet, LocalSet, LocalTake, MemPack, Print, Qualify, RefJoin, RefSplit, StructGet, StructMalloc, Unit, Unreachable}
use Rattle.rw_types.specs.declared.instrs.Instr.TheVariants.{MemUnpack}
use Rattle.rw_types.specs.declared.types.Binder.TheVariants.{Loc}
use Rattle.rw_types.specs.declared.types.Heap.TheVariants.{Struct}
use Rattle.rw_types.specs.declared.types.Mem.TheVariants.{L, U}
use Rattle.rw_types.specs.declared.types.Pre.{Cap, Own, Ptr, Ref}
use Rattle.rw_types.specs.declared.types.Priv.TheVariants.{R, Rw}
use Rattle.rw_types.specs.declared.types.Qual.TheVariants.{Lin, Unr}
use Rattle.rw_types.specs.declared.types.Ty.{Of, Var}
use Rattle.rich_types.specs.Rows.{long, short, slot, tuple, unit_type}
use Rattle.rich_typing.specs.declared.notes.Place.TheVariants.{FuncAt}
use Rattle.rich_typing.specs.declared.rules.Rule.TheVariants as rule
use Rattle.rich_rules_rows.specs.Samples.{Accepted, Refused, BodyRefused, functions, function, main_function, fun_type, signature, local, plain}

-- what stands outside a location is seen inside with numbers that are one higher; a reference, its address and its rights belong to one location
pub record WorkedLocations : Type 0 where
  pub pack_index_before_type_form : BodyRefused [] (MemPack 0 (Var 3) ∷ Drop ∷ I64Const 0 ∷ []) (0 ∷ []) rule.Index None None
  pub pack_type_form_under_its_binder : BodyRefused [] (I64Const 5 ∷ StructMalloc U (1 ∷ []) ∷ MemUnpack plain (MemPack 0 (Of Unr (Ptr 2)) ∷ []) ∷ I64Const 0 ∷ []) (2 ∷ 0 ∷ 0 ∷ []) rule.TypeForm (Some (Of Unr (Ptr 2))) None
  pub pack_the_type_with_its_location_put_in : BodyRefused [] (I64Const 5 ∷ StructMalloc U (1 ∷ []) ∷ MemUnpack plain (I64Const 1 ∷ MemPack 0 (tuple ((Of Unr (Ptr 0)) ∷ (Of Unr (Ptr 1)) ∷ [])) ∷ []) ∷ I64Const 0 ∷ []) (2 ∷ 0 ∷ 1 ∷ []) rule.OperandType (Some long) (Some (tuple ((Of Unr (Ptr 0)) ∷ (Of Unr (Ptr 0)) ∷ [])))
  pub pack_and_unpack_again : Accepted (functions (main_function [] (I64Const 5 ∷ StructMalloc U (1 ∷ []) ∷ MemUnpack plain (MemPack 0 (Of Unr (Ref Rw 0 (Struct (slot long 1 ∷ [])))) ∷ MemUnpack plain (StructGet 0 ∷ Print ∷ Drop ∷ []) ∷ []) ∷ I64Const 0 ∷ []) ∷ []))
  pub unpack_of_a_number : BodyRefused [] (I64Const 1 ∷ MemUnpack plain (Drop ∷ []) ∷ I64Const 0 ∷ []) (1 ∷ []) rule.OperandType (Some long) None
  pub unpack_its_parameter_then_the_hidden : BodyRefused [] (I64Const 1 ∷ I64Const 1 ∷ MemUnpack (signature (short ∷ []) [] []) (Drop ∷ Drop ∷ []) ∷ I64Const 0 ∷ []) (2 ∷ []) rule.OperandType (Some long) (Some short)
  pub unpack_the_location_escapes : BodyRefused [] (I64Const 5 ∷ StructMalloc U (1 ∷ []) ∷ MemUnpack (signature [] ((Of Unr (Ptr 0)) ∷ []) []) (Drop ∷ []) ∷ I64Const 0 ∷ []) (2 ∷ []) rule.TypeForm (Some (Of Unr (Ptr 0))) None
  pub unpack_the_location_stays_in_a_local : BodyRefused (1 ∷ []) (I64Const 5 ∷ StructMalloc U (1 ∷ []) ∷ MemUnpack plain (LocalSet 0 ∷ []) ∷ I64Const 0 ∷ []) (2 ∷ 0 ∷ 1 ∷ []) rule.LocalsEnd (Some (Of Unr (Ref Rw 0 (Struct (slot long 1 ∷ []))))) (Some unit_type)
  pub unpack_a_local_of_an_outer_location : Accepted (functions (main_function (1 ∷ []) (I64Const 5 ∷ StructMalloc U (1 ∷ []) ∷ MemUnpack plain (LocalSet 0 ∷ I64Const 6 ∷ StructMalloc U (1 ∷ []) ∷ MemUnpack plain (Drop ∷ LocalGet 0 ∷ StructGet 0 ∷ Print ∷ Drop ∷ []) ∷ Unit ∷ LocalSet 0 ∷ []) ∷ I64Const 0 ∷ []) ∷ []))
  pub unpack_the_promise_of_a_signature_is_outside : BodyRefused (1 ∷ []) (I64Const 5 ∷ StructMalloc U (1 ∷ []) ∷ MemUnpack plain (I64Const 6 ∷ StructMalloc U (1 ∷ []) ∷ MemUnpack (signature [] [] (local 0 (Of Unr (Ref Rw 0 (Struct (slot long 1 ∷ [])))) ∷ [])) (Drop ∷ LocalGet 0 ∷ []) ∷ Unreachable ∷ []) ∷ I64Const 0 ∷ []) (2 ∷ 0 ∷ 2 ∷ 0 ∷ 2 ∷ []) rule.BlockEnd None None
  pub unpack_results_raised : Accepted (functions (main_function [] (I64Const 5 ∷ StructMalloc U (1 ∷ []) ∷ MemUnpack plain (StructMalloc U (1 ∷ []) ∷ MemUnpack (signature [] ((Of Unr (Ref Rw 0 (Struct (slot long 1 ∷ [])))) ∷ []) []) (StructGet 0 ∷ Br 0 ∷ []) ∷ Drop ∷ []) ∷ I64Const 0 ∷ []) ∷ []))
  pub unpack_results_are_of_the_outside : BodyRefused [] (I64Const 5 ∷ StructMalloc U (1 ∷ []) ∷ MemUnpack plain (I64Const 1 ∷ StructMalloc U (1 ∷ []) ∷ MemUnpack (signature [] ((Of Unr (Ref Rw 0 (Struct (slot long 1 ∷ [])))) ∷ []) []) (Br 0 ∷ []) ∷ Drop ∷ Drop ∷ []) ∷ I64Const 0 ∷ []) (2 ∷ 0 ∷ 2 ∷ 0 ∷ 0 ∷ []) rule.OperandType (Some (Of Unr (Ref Rw 0 (Struct (slot long 1 ∷ []))))) (Some (Of Unr (Ref Rw 1 (Struct (slot long 1 ∷ [])))))
  pub split_of_an_unr_ref : BodyRefused [] (I64Const 5 ∷ StructMalloc U (1 ∷ []) ∷ MemUnpack plain (RefSplit ∷ Drop ∷ []) ∷ I64Const 0 ∷ []) (2 ∷ 0 ∷ 0 ∷ []) rule.OperandType (Some (Of Unr (Ref Rw 0 (Struct (slot long 1 ∷ []))))) None
  pub split_of_a_linear_ref_of_U : BodyRefused [] (I64Const 5 ∷ StructMalloc U (1 ∷ []) ∷ MemUnpack plain (Qualify ∷ RefSplit ∷ Unreachable ∷ []) ∷ I64Const 0 ∷ []) (2 ∷ 0 ∷ 1 ∷ []) rule.Memory (Some (Of Lin (Ref Rw 0 (Struct (slot long 1 ∷ []))))) None
  pub the_ptr_may_be_dropped_the_cap_may_not : BodyRefused [] (I64Const 5 ∷ StructMalloc L (1 ∷ []) ∷ MemUnpack plain (RefSplit ∷ Drop ∷ Drop ∷ []) ∷ I64Const 0 ∷ []) (2 ∷ 0 ∷ 2 ∷ []) rule.LinearDrop (Some (Of Lin (Cap Rw 0 (Struct (slot long 1 ∷ []))))) None
  pub join_operand_type_of_the_deeper : Refused (functions (function (fun_type (Loc L ∷ []) ((Of Lin (Cap Rw 0 (Struct (slot long 1 ∷ [])))) ∷ (Of Unr (Ptr 0)) ∷ []) []) [] (LocalGet 1 ∷ LocalGet 1 ∷ RefJoin ∷ []) ∷ [])) (FuncAt 0 (2 ∷ [])) rule.OperandType (Some (Of Unr (Ptr 0))) None
  pub join_a_linear_ptr : Refused (functions (function (fun_type (Loc L ∷ []) ((Of Lin (Cap Rw 0 (Struct (slot long 1 ∷ [])))) ∷ (Of Lin (Ptr 0)) ∷ []) []) [] (LocalTake 0 ∷ LocalTake 1 ∷ RefJoin ∷ []) ∷ [])) (FuncAt 0 (2 ∷ [])) rule.OperandType (Some (Of Lin (Ptr 0))) None
  pub join_another_location : Refused (functions (function (fun_type (Loc L ∷ Loc L ∷ []) ((Of Lin (Cap Rw 1 (Struct (slot long 1 ∷ [])))) ∷ (Of Unr (Ptr 0)) ∷ []) []) [] (LocalTake 0 ∷ LocalGet 1 ∷ RefJoin ∷ []) ∷ [])) (FuncAt 0 (2 ∷ [])) rule.LocationsDiffer (Some (Of Unr (Ptr 0))) (Some (Of Unr (Ptr 1)))
  pub cap_split_of_a_read_cap : Refused (functions (function (fun_type (Loc L ∷ []) ((Of Lin (Cap R 0 (Struct (slot long 1 ∷ [])))) ∷ (Of Lin (Own 0)) ∷ (Of Unr (Ptr 0)) ∷ []) []) [] (LocalTake 0 ∷ CapSplit ∷ []) ∷ [])) (FuncAt 0 (1 ∷ [])) rule.Privilege (Some (Of Lin (Cap R 0 (Struct (slot long 1 ∷ []))))) None
  pub cap_join_of_a_whole_cap : Refused (functions (function (fun_type (Loc L ∷ []) ((Of Lin (Cap Rw 0 (Struct (slot long 1 ∷ [])))) ∷ (Of Lin (Own 0)) ∷ []) []) [] (LocalTake 0 ∷ LocalTake 1 ∷ CapJoin ∷ []) ∷ [])) (FuncAt 0 (2 ∷ [])) rule.Privilege (Some (Of Lin (Cap Rw 0 (Struct (slot long 1 ∷ []))))) None
  pub cap_join_privilege_before_locations_differ : Refused (functions (function (fun_type (Loc L ∷ Loc L ∷ []) ((Of Lin (Cap Rw 1 (Struct (slot long 1 ∷ [])))) ∷ (Of Lin (Own 0)) ∷ []) []) [] (LocalTake 0 ∷ LocalTake 1 ∷ CapJoin ∷ []) ∷ [])) (FuncAt 0 (2 ∷ [])) rule.Privilege (Some (Of Lin (Cap Rw 1 (Struct (slot long 1 ∷ []))))) None
  pub cap_join_another_location : Refused (functions (function (fun_type (Loc L ∷ Loc L ∷ []) ((Of Lin (Cap R 0 (Struct (slot long 1 ∷ [])))) ∷ (Of Lin (Own 1)) ∷ []) []) [] (LocalTake 0 ∷ LocalTake 1 ∷ CapJoin ∷ []) ∷ [])) (FuncAt 0 (2 ∷ [])) rule.LocationsDiffer (Some (Of Lin (Own 1))) (Some (Of Lin (Own 0)))
  pub cap_join_gives_a_whole_cap : Accepted (functions (function (fun_type (Loc L ∷ []) ((Of Lin (Cap R 0 (Struct (slot long 1 ∷ [])))) ∷ (Of Lin (Own 0)) ∷ (Of Unr (Ptr 0)) ∷ []) ((Of Lin (Ref Rw 0 (Struct (slot long 1 ∷ [])))) ∷ [])) [] (LocalTake 0 ∷ LocalTake 1 ∷ CapJoin ∷ LocalGet 2 ∷ RefJoin ∷ []) ∷ []))
  pub the_order_of_cap_and_own : Refused (functions (function (fun_type (Loc L ∷ []) ((Of Lin (Cap R 0 (Struct (slot long 1 ∷ [])))) ∷ (Of Lin (Own 0)) ∷ (Of Unr (Ptr 0)) ∷ []) []) [] (LocalTake 1 ∷ LocalTake 0 ∷ CapJoin ∷ []) ∷ [])) (FuncAt 0 (2 ∷ [])) rule.OperandType (Some (Of Lin (Own 0))) None
  pub the_ref_is_left : BodyRefused [] (I64Const 5 ∷ StructMalloc L (1 ∷ []) ∷ MemUnpack plain (Drop ∷ []) ∷ I64Const 0 ∷ []) (2 ∷ 0 ∷ 0 ∷ []) rule.LinearDrop (Some (Of Lin (Ref Rw 0 (Struct (slot long 1 ∷ []))))) None
  pub the_ref_is_left_in_a_local : BodyRefused (1 ∷ []) (I64Const 5 ∷ StructMalloc L (1 ∷ []) ∷ MemUnpack plain (LocalSet 0 ∷ []) ∷ I64Const 0 ∷ []) (2 ∷ 0 ∷ 1 ∷ []) rule.LocalsEnd (Some (Of Lin (Ref Rw 0 (Struct (slot long 1 ∷ []))))) (Some unit_type)
  pub the_ref_leaves_its_binder : BodyRefused [] (I64Const 5 ∷ StructMalloc L (1 ∷ []) ∷ MemUnpack plain (Br 0 ∷ []) ∷ I64Const 0 ∷ []) (2 ∷ 0 ∷ 0 ∷ []) rule.Crossed (Some (Of Lin (Ref Rw 0 (Struct (slot long 1 ∷ []))))) None
