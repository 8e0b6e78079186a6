-- The forms of Rich texts of version 1: a row for each (this project's own). Those of instructions stand in a file of their own.
use Rattle.std.specs.Prelude.{[], ◌∷◌, None, codes, true, false}
use Rattle.rw_types.specs.declared.types.Arg.TheVariants.{Loc as arg_loc, Given as arg_given}
use Rattle.rw_types.specs.declared.types.Binder.TheVariants.{Loc, Kind}
use Rattle.rw_types.specs.declared.types.Heap.{Struct, Variant, Array, Exist}
use Rattle.rw_types.specs.declared.types.Mem.TheVariants.{L, U}
use Rattle.rw_types.specs.declared.types.Priv.TheVariants.{Rw, R}
use Rattle.rw_types.specs.declared.types.Pre.{Unit as pre_unit, I32, Ptr, Own, Cap, I64, Tuple, Ref, Hidden, Code}
use Rattle.rw_types.specs.declared.types.Qual.TheVariants.{Unr, Lin}
use Rattle.rw_types.specs.declared.types.Ty.{Of, Var, Rec}
use Rattle.rich_text.specs.Forms.{qualifier_form, memory_form, privilege_form, type_form, types_form, pretype_form, heap_form, slot_form, function_type_form, binder_form, binders_form, local_form, local_types_form, locals_form, instruction_form, argument_form, arm_form, then_form, else_form, function_form, export_form, import_form, global_form, mutability_form, version_form, module_form}
use Rattle.rich_text.specs.Grammars.{done, one, many, parts, a_name, a_form, index, words, list, heads, row, Grammar}
use Rattle.rich_text.specs.Instructions.{instruction_words, instruction_heads}

-- the grammar of version 1
abbrev pub first_version : Grammar
first_version qualifier_form = words ((codes "unr", Unr) ∷ (codes "lin", Lin) ∷ [])
first_version memory_form = words ((codes "L", L) ∷ (codes "U", U) ∷ [])
first_version privilege_form = words ((codes "rw", Rw) ∷ (codes "r", R) ∷ [])
first_version version_form = words ((codes "1", tt) ∷ [])
first_version type_form = heads (
    (codes "unr", row (one (a_form pretype_form) done) (λ v. Of Unr v.0)) ∷
    (codes "lin", row (one (a_form pretype_form) done) (λ v. Of Lin v.0)) ∷
    (codes "var", row (one index done) (λ v. Var v.0)) ∷
    (codes "rec", row (one (a_form qualifier_form) (one index (one (a_form type_form) done))) (λ v. Rec v.0 v.1.0 v.1.1.0)) ∷
    [])
first_version pretype_form = record {
  words = (codes "unit", pre_unit) ∷ (codes "i32", I32) ∷ (codes "i64", I64) ∷ [];
  heads =
      (codes "ptr", row (one index done) (λ v. Ptr v.0)) ∷
      (codes "own", row (one index done) (λ v. Own v.0)) ∷
      (codes "cap", row (one (a_form privilege_form) (one index (one (a_form heap_form) done))) (λ v. Cap v.0 v.1.0 v.1.1.0)) ∷
      (codes "tuple", row (many (a_form type_form)) (λ ts. Tuple ts)) ∷
      (codes "ref", row (one (a_form privilege_form) (one index (one (a_form heap_form) done))) (λ v. Ref v.0 v.1.0 v.1.1.0)) ∷
      (codes "some", row (one (a_form memory_form) (one (a_form type_form) done)) (λ v. Hidden v.0 v.1.0)) ∷
      (codes "code", row (one (a_form function_type_form) done) (λ v. Code v.0)) ∷
      [];
  plain = None;
}
first_version heap_form = heads (
    (codes "struct", row (many (a_form slot_form)) (λ v. Struct v)) ∷
    (codes "variant", row (many (a_form type_form)) (λ v. Variant v)) ∷
    (codes "array", row (one (a_form type_form) done) (λ v. Array v.0)) ∷
    (codes "exist", row (one (a_form qualifier_form) (one index (one (a_form type_form) done))) (λ v. Exist v.0 v.1.0 v.1.1.0)) ∷
    [])
first_version slot_form = list (row (one (a_form type_form) (one index done)) (λ v. record { ty = v.0; size = v.1.0 }))
first_version types_form = list (row (many (a_form type_form)) (λ v. v))
first_version binder_form = heads (
    (codes "loc", row (one (a_form memory_form) done) (λ v. Loc v.0)) ∷
    (codes "type", row (one (a_form qualifier_form) (one index done)) (λ v. Kind v.0 v.1.0)) ∷
    [])
first_version binders_form = list (row (many (a_form binder_form)) (λ v. v))
first_version function_type_form = heads ((codes "fun", row (one (a_form binders_form) (one (a_form types_form) (one (a_form types_form) done))) (λ v. record { binders = v.0; params = v.1.0; results = v.1.1.0 })) ∷ [])
first_version local_form = list (row (one index (one (a_form type_form) done)) (λ v. record { index = v.0; ty = v.1.0 }))
first_version local_types_form = list (row (many (a_form local_form)) (λ v. v))
first_version locals_form = heads ((codes "locals", row (many index) (λ v. v)) ∷ [])
first_version arm_form = list (row (many (a_form instruction_form)) (λ v. v))
first_version then_form = heads ((codes "then", row (many (a_form instruction_form)) (λ v. v)) ∷ [])
first_version else_form = heads ((codes "else", row (many (a_form instruction_form)) (λ v. v)) ∷ [])
first_version instruction_form = record { words = instruction_words; heads = instruction_heads; plain = None }
first_version argument_form = heads (
    (codes "loc", row (one index done) (λ v. arg_loc v.0)) ∷
    (codes "type", row (one (a_form type_form) done) (λ v. arg_given v.0)) ∷
    [])
first_version function_form = heads ((codes "func", row (one (a_form function_type_form) (one (a_form locals_form) (many (a_form instruction_form)))) (λ v. record { ty = v.0; locals = v.1.0; body = v.1.1 })) ∷ [])
first_version export_form = heads ((codes "export", row (one a_name (one index done)) (λ v. record { name = v.0; func = v.1.0 })) ∷ [])
first_version import_form = heads ((codes "import", row (one a_name (one a_name (one (a_form function_type_form) done))) (λ v. record { «module» = v.0; name = v.1.0; ty = v.1.1.0 })) ∷ [])
first_version mutability_form = words ((codes "mut", true) ∷ (codes "const", false) ∷ [])
first_version global_form = heads ((codes "global", row (one (a_form mutability_form) (one (a_form type_form) (many (a_form instruction_form)))) (λ v. record { mutable = v.0; ty = v.1.0; body = v.1.1 })) ∷ [])
first_version module_form = heads ((codes "module", row (one (a_form version_form) (parts ((import_form, codes "import") ∷ (function_form, codes "func") ∷ (global_form, codes "global") ∷ (export_form, codes "export") ∷ []))) (λ v. record { imports = v.1.0; funcs = v.1.1.0; globals = v.1.1.1.0; exports = v.1.1.1.1.0 })) ∷ [])
