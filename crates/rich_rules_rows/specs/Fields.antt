-- Modules with fields that break a rule. This project's own.
use Rattle.std.specs.Prelude.{[], ◌∷◌, true, false, Some, None, codes}
use Rattle.rw_types.specs.declared.instrs.Instr.{Call, Drop, GlobalGet, GlobalSet, I32Const, I64Const, Num, Qualify, Return, Unreachable}
use Rattle.rw_types.specs.declared.instrs.Instr.TheVariants.{Block}
use Rattle.rw_types.specs.declared.numbers.NumName.TheVariants as num
use Rattle.rw_types.specs.declared.types.Binder.TheVariants.{Kind}
use Rattle.rw_types.specs.declared.types.Pre.{I64, Ptr}
use Rattle.rw_types.specs.declared.types.Pre.TheVariants.{Tuple}
use Rattle.rw_types.specs.declared.types.Qual.TheVariants.{Lin, Unr}
use Rattle.rw_types.specs.declared.types.Ty.{Of, Var}
use Rattle.rich_types.specs.Rows.{long, short, tuple}
use Rattle.rich_typing.specs.declared.notes.Place.TheVariants.{ExportAt, FuncAt, FuncType, GlobalAt, ImportType, GlobalType as global_type}
use Rattle.rich_typing.specs.declared.rules.Rule.TheVariants as rule
use Rattle.rich_rules_rows.specs.Samples.{Accepted, Refused, functions, function, main_function, fun_type, signature, local, plain, module_of, import_of, global, export}

-- fields are looked at in the order of the text, each before its body; an initialiser calls nothing and gets lesser globals alone
pub record WorkedFields : Type 0 where
  pub a_place_before_a_later_field : Refused (functions (main_function [] [] ∷ function (fun_type [] ((Var 0) ∷ []) (long ∷ [])) [] [] ∷ [])) (FuncAt 0 (0 ∷ [])) rule.BlockEnd None None
  pub a_field_before_its_body : Refused (functions (function (fun_type [] ((tuple ((Of Lin I64) ∷ [])) ∷ []) (long ∷ [])) [] (Drop ∷ []) ∷ [])) (FuncType 0) rule.TypeForm (Some (tuple ((Of Lin I64) ∷ []))) None
  pub the_second_parameter_is_ill_formed : Refused (functions (function (fun_type [] (long ∷ (Var 0) ∷ []) ((Var 1) ∷ [])) [] [] ∷ [])) (FuncType 0) rule.TypeForm (Some (Var 0)) None
  pub a_slot_of_10001 : Refused (functions (function (fun_type [] [] []) (1 ∷ 10001 ∷ []) (Drop ∷ []) ∷ [])) (FuncType 0) rule.TypeForm None None
  pub a_slot_of_10000 : Accepted (functions (function (fun_type [] [] []) (10000 ∷ 0 ∷ []) [] ∷ []))
  pub a_binder_of_10001_words : Accepted (functions (function (fun_type (Kind Unr 10001 ∷ []) [] []) [] [] ∷ []))
  pub a_variable_of_10001_words : Refused (functions (function (fun_type (Kind Unr 10001 ∷ []) (long ∷ (Var 0) ∷ []) []) [] [] ∷ [])) (FuncType 0) rule.TypeForm (Some (Var 0)) None
  pub an_export_of_no_function : Refused (module_of [] (main_function [] (I64Const 0 ∷ []) ∷ []) [] (export (codes "main") 0 ∷ export (codes "f") 1 ∷ [])) (ExportAt 1) rule.Index None None
  pub an_export_name_twice : Refused (module_of [] (main_function [] (I64Const 0 ∷ []) ∷ []) [] (export (codes "main") 0 ∷ export (codes "f") 0 ∷ export (codes "f") 0 ∷ [])) (ExportAt 2) rule.Duplicate None None
  pub an_export_index_before_duplicate : Refused (module_of [] (main_function [] (I64Const 0 ∷ []) ∷ []) [] (export (codes "main") 0 ∷ export (codes "main") 4294967295 ∷ [])) (ExportAt 1) rule.Index None None
  pub initialiser_before_index : Refused (module_of [] (main_function [] (I64Const 0 ∷ []) ∷ []) (global false long (Call 9 [] ∷ []) ∷ []) []) (GlobalAt 0 (0 ∷ [])) rule.Initialiser None None
  pub dead_code_before_initialiser : Refused (module_of [] (main_function [] (I64Const 0 ∷ []) ∷ []) (global false long (Unreachable ∷ Call 0 [] ∷ []) ∷ []) []) (GlobalAt 0 (1 ∷ [])) rule.DeadCode None None
  pub return_in_a_block_of_an_initialiser : Refused (module_of [] (main_function [] (I64Const 0 ∷ []) ∷ []) (global false long (Block plain (Return ∷ []) ∷ I64Const 1 ∷ []) ∷ []) []) (GlobalAt 0 (0 ∷ 0 ∷ 0 ∷ [])) rule.Initialiser None None
  pub its_own_number : Refused (module_of [] (main_function [] (I64Const 0 ∷ []) ∷ []) (global false long (GlobalGet 0 ∷ []) ∷ []) []) (GlobalAt 0 (0 ∷ [])) rule.Initialiser None None
  pub a_global_out_of_range : Refused (module_of [] (main_function [] (I64Const 0 ∷ []) ∷ []) (global false long (GlobalGet 7 ∷ []) ∷ []) []) (GlobalAt 0 (0 ∷ [])) rule.Initialiser None None
  pub global_set_of_a_later_global : Accepted (module_of [] (main_function [] (GlobalGet 0 ∷ GlobalGet 1 ∷ Num num.I64Add ∷ []) ∷ []) (global false long (I64Const 2 ∷ GlobalSet 1 ∷ I64Const 3 ∷ []) ∷ global true long (I64Const 1 ∷ []) ∷ []) [])
  pub signature_of_an_initialiser_names_a_local : Refused (module_of [] (main_function [] (I64Const 0 ∷ []) ∷ []) (global false long (Block (signature [] [] (local 0 long ∷ [])) [] ∷ I64Const 1 ∷ []) ∷ []) []) (GlobalAt 0 (0 ∷ [])) rule.Index None None
  pub block_end_of_an_initialiser : Refused (module_of [] (main_function [] (I64Const 0 ∷ []) ∷ []) (global false long (I32Const 1 ∷ []) ∷ []) []) (GlobalAt 0 (1 ∷ [])) rule.BlockEnd (Some short) (Some long)
  pub a_linear_global : Refused (module_of [] (main_function [] (I64Const 0 ∷ []) ∷ []) (global false (Of Lin I64) (I64Const 1 ∷ Qualify ∷ []) ∷ []) []) (global_type 0) rule.LinearGlobal (Some (Of Lin I64)) None
  pub type_form_before_linear_global : Refused (module_of [] (main_function [] (I64Const 0 ∷ []) ∷ []) (global false (Of Lin (Tuple ((Var 0) ∷ []))) (Drop ∷ []) ∷ []) []) (global_type 0) rule.TypeForm (Some (Of Lin (Tuple ((Var 0) ∷ [])))) None
  pub linear_global_before_its_initialiser : Refused (module_of [] (main_function [] (I64Const 0 ∷ []) ∷ []) (global false (Of Lin I64) (Call 0 [] ∷ []) ∷ []) []) (global_type 0) rule.LinearGlobal (Some (Of Lin I64)) None
  pub get_of_a_linear_global_refused_at_the_global : Refused (module_of [] (main_function [] (GlobalGet 0 ∷ Unreachable ∷ []) ∷ []) (global false (Of Lin I64) (I64Const 1 ∷ Qualify ∷ []) ∷ []) []) (global_type 0) rule.LinearGlobal (Some (Of Lin I64)) None
  pub get_of_an_ill_formed_global : Refused (module_of [] (main_function [] (GlobalGet 0 ∷ Unreachable ∷ []) ∷ []) (global false (Var 0) (Unreachable ∷ []) ∷ []) []) (FuncAt 0 (0 ∷ [])) rule.TypeForm (Some (Var 0)) None
  pub an_import_is_ill_formed : Refused (module_of (import_of (fun_type [] (long ∷ (Var 0) ∷ []) ((Of Unr (Ptr 0)) ∷ [])) ∷ []) (main_function [] (Drop ∷ []) ∷ []) [] []) (ImportType 0) rule.TypeForm (Some (Var 0)) None
  pub a_binder_of_an_import : Refused (module_of (import_of (fun_type (Kind Unr 10001 ∷ []) ((Var 0) ∷ []) []) ∷ []) (main_function [] (Drop ∷ []) ∷ []) [] []) (ImportType 0) rule.TypeForm (Some (Var 0)) None
  pub an_export_of_an_import : Refused (module_of (import_of (fun_type [] [] []) ∷ []) (main_function [] (I64Const 0 ∷ []) ∷ []) [] (export (codes "main") 1 ∷ export (codes "f") 0 ∷ [])) (ExportAt 1) rule.Index None None
  pub the_place_counts_the_imports : Refused (module_of (import_of (fun_type [] [] []) ∷ []) (main_function [] (Call 0 [] ∷ []) ∷ []) [] []) (FuncAt 1 (1 ∷ [])) rule.BlockEnd None None
