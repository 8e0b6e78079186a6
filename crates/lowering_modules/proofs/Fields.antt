-- No field of a lowered module breaks a rule.
use Rattle.std.proofs.Common.{◌≡◌, ◌∙◌, ◌<◌, ◌≤◌, ℕ, zero, suc, ◌+◌, Bool, true, List, [], ◌∷◌, ◌++◌, Option, Some, None, length, map, replicate, refl, ap, sym, subst, arith, inl, inr}
use Rattle.std.specs.Prelude.{codes, flat_map, option_to_list, slice_get, ◌&&◌, if◌then◌else◌}
use Rattle.std.proofs.lemmas.Bool.{le-leb, lt-ltb}
use Rattle.wasm_ast.specs.declared.types.FuncType.{FuncType}
use Rattle.wasm_ast.specs.declared.types.ValTy.TheVariants.{I32}
use Rattle.wasm_ast.specs.declared.instructions.WInstr as w
use Rattle.wasm_ast.specs.declared.instructions.WInstr.{out-WInstr}
use Rattle.wasm_ast.specs.declared.modules.WGlobal.{WGlobal}
use Rattle.wasm_ast.specs.declared.modules.Export.{Export}
use Rattle.wasm_ast.specs.declared.modules.ExportKind.TheVariants as export_kind
use Rattle.wasm_ast.specs.declared.modules.ImportKind.TheVariants as import_kind
use Rattle.wasm_typing.specs.declared.context.Context.{Context}
use Rattle.wasm_typing.specs.declared.rule.WRule.{WRule}
use Rattle.wasm_typing.specs.declared.rule.WRule.TheVariants.{FuncIndex, GlobalIndex, LimitsOrder, TypeIndex}
use Rattle.wasm_typing.specs.Contexts.{context_of}
use Rattle.wasm_typing.specs.Fields.{breaks_unless, element_rule, export_rule, first_of, function_rule, functions_rule, global_rule, import_rule, is_index, memory_rule}
use Rattle.wasm_typing.specs.Modules.{Fault, earliest, fault_before_codes, fault_behind_codes, first_alone, first_fault_behind}
use Rattle.rw_program.specs.declared.linked.LinkedFunc.{LinkedFunc}
use Rattle.rw_program.specs.Programs.{Program}
use Rattle.layout.specs.Limits.{functions_before, globals_words, greatest_result}
use Rattle.lowering_table.specs.declared.Pages.{Pages}
use Rattle.lowering_table.specs.Allocators.{Allocators}
use Rattle.lowering_table.specs.TypeUses.{type_index}
use Rattle.lowering_table.specs.Types.{alloc_type, start_type}
use Rattle.lowering_table.specs.Modules.{ArePages, counted, first_pages, main_function, region_start, word_global}
use Rattle.lowering_rows_typed.specs.Contexts.{taking_words}
use Rattle.lowering_modules.specs.Types.{function_type, module_types}
use Rattle.lowering_modules.specs.Modules.{module_functions, module_globals}
use Rattle.lowering_modules.proofs.Contexts.{M, at, functions_are}
use Rattle.lowering_modules.proofs.Codes.{at_last, in_front, same_some, tail_cases}
use Rattle.lowering_modules.proofs.Types.{Stands, alloc_stands, function_stands, print_first, print_stands, start_stands, within_types}

-- an entry that breaks no rule is passed
passes : {A : Type 0} (rule_of : List A → A → Option WRule) (before : List A) (x : A) (xs : List A) → rule_of before x ≡ None → first_fault_behind rule_of before (x ∷ xs) ≡ first_fault_behind rule_of (before ++ x ∷ []) xs
passes rule_of before x xs e =
    ap (λ (o : Option WRule). elim o [ Some rule ↦ Some (record { at = length before; rule = rule }) | None ↦ first_fault_behind rule_of (before ++ x ∷ []) xs ]) e

-- entries that do not look at each other
all_pass : {A : Type 0} (rule_of : A → Option WRule) (before xs : List A) → ((k : ℕ) (x : A) → slice_get xs k ≡ Some x → rule_of x ≡ None) → first_fault_behind (λ b x. rule_of x) before xs ≡ None
all_pass rule_of before [] h = refl
all_pass rule_of before (x ∷ xs) h = passes (λ b y. rule_of y) before x xs (h 0 x refl) ∙ all_pass rule_of (before ++ x ∷ []) xs (λ k y e. h (suc k) y e)

same_entry : {A : Type 0} (n k : ℕ) (x y : A) → slice_get (replicate n x) k ≡ Some y → x ≡ y
same_entry zero k x y e = cc
same_entry (suc n) zero x y e = cc
same_entry (suc n) (suc k) x y e = same_entry n k x y e

word_rule : (n : ℕ) → global_rule [] (word_global n) ≡ None
unfolding out-WInstr denote.Hole.Carrier.out
word_rule n = refl

code_rule : global_rule [] (record { ty = I32; mutable = true; init = w.I32Const 0 }) ≡ None
unfolding out-WInstr denote.Hole.Carrier.out
code_rule = refl

module _ (codes_of : Allocators) (p : Program) (pages : Pages) where
  abbrev C : Context
  C = context_of (M codes_of p pages)

  abbrev types : List FuncType
  types = module_types p

  is_type : (t : FuncType) → Stands p t → is_index (type_index t types) types ≡ true
  is_type t e = lt-ltb (type_index t types) (length types) (within_types p t e)

  some_type : (ts : List FuncType) (t : FuncType) → slice_get ts 0 ≡ Some t → 0 < length ts
  some_type [] t e = cc
  some_type (u ∷ ts) t e = omega arith

  imports_pass : import_rule types [] (record { «module» = codes "rw"; name = codes "print"; what = import_kind.Func 0 }) ≡ None
  imports_pass = ap (λ (b : Bool). breaks_unless b TypeIndex) (lt-ltb 0 (length types) (some_type types (taking_words 1) (print_first p)))

  -- each function has a type
  tail_typed : (m n : ℕ) → slice_get (map (λ (f : LinkedFunc). type_index (function_type f) types) p.funcs ++ type_index start_type types ∷ []) m ≡ Some n → is_index n types ≡ true
  tail_typed m n e = elim (tail_cases codes_of p pages (λ (f : LinkedFunc). type_index (function_type f) types) p.funcs (type_index start_type types) n m e) [
    | inl g ↦ (let same = same_some (type_index (function_type g.0) types) n (sym (in_front codes_of p pages (λ (f : LinkedFunc). type_index (function_type f) types) p.funcs (type_index start_type types) m g.0 g.1) ∙ e) in
        subst (λ (k : ℕ). is_index k types ≡ true) same (is_type (function_type g.0) (function_stands p m g.0 g.1)))
    | inr last ↦ (let same = same_some (type_index start_type types) n (sym (at_last codes_of p pages (λ (f : LinkedFunc). type_index (function_type f) types) p.funcs (type_index start_type types)) ∙ ap (λ (k : ℕ). slice_get (map (λ (f : LinkedFunc). type_index (function_type f) types) p.funcs ++ type_index start_type types ∷ []) k) (sym last) ∙ e) in
        subst (λ (k : ℕ). is_index k types ≡ true) same (is_type start_type (start_stands p)))
  ]

  function_typed : (k n : ℕ) → slice_get (module_functions p) k ≡ Some n → is_index n types ≡ true
  function_typed zero n e = subst (λ (m : ℕ). is_index m types ≡ true) (same_some (type_index alloc_type types) n e) (is_type alloc_type (alloc_stands p))
  function_typed (suc zero) n e = subst (λ (m : ℕ). is_index m types ≡ true) (same_some (type_index (taking_words 1) types) n e) (is_type (taking_words 1) (print_stands p))
  function_typed (suc (suc zero)) n e = subst (λ (m : ℕ). is_index m types ≡ true) (same_some (type_index alloc_type types) n e) (is_type alloc_type (alloc_stands p))
  function_typed (suc (suc (suc k))) n e = tail_typed k n e

  functions_pass : first_alone (function_rule C) (module_functions p) ≡ None
  functions_pass = all_pass (function_rule C) [] (module_functions p) (λ k n e. ap (λ (b : Bool). breaks_unless b TypeIndex) (function_typed k n e))

  -- globals are constants of their types
  globals_pass : first_alone (global_rule []) (module_globals p pages) ≡ None
  globals_pass = all_pass (global_rule []) [] (module_globals p pages) each
    where
      each : (k : ℕ) (g : WGlobal) → slice_get (module_globals p pages) k ≡ Some g → global_rule [] g ≡ None
      each zero g e = subst (λ (h : WGlobal). global_rule [] h ≡ None) (same_some _ g e) code_rule
      each (suc zero) g e = subst (λ (h : WGlobal). global_rule [] h ≡ None) (same_some (word_global (region_start pages)) g e) (word_rule (region_start pages))
      each (suc (suc k)) g e = subst (λ (h : WGlobal). global_rule [] h ≡ None) (same_entry (greatest_result p.funcs + globals_words p.globals) k (word_global 0) g e) (word_rule 0)

  -- how many functions there are
  one_each : (fs : List LinkedFunc) → ((m : ℕ) (g : LinkedFunc) → slice_get fs m ≡ Some g → Stands p (function_type g)) →
      length (flat_map (at codes_of p pages) (map (λ (g : LinkedFunc). type_index (function_type g) types) fs ++ type_index start_type types ∷ [])) ≡ suc (length fs)
  one_each [] all = ap (λ (o : Option FuncType). length (option_to_list o ++ [])) (start_stands p)
  one_each (f ∷ fs) all =
      ap (λ (o : Option FuncType). length (option_to_list o ++ flat_map (at codes_of p pages) (map (λ (g : LinkedFunc). type_index (function_type g) types) fs ++ type_index start_type types ∷ []))) (all 0 f refl)
      ∙ ap suc (one_each fs (λ m g e. all (suc m) g e))

  function_count : length C.functions ≡ 5 + length p.funcs
  function_count =
      let behind = one_each p.funcs (λ m g e. function_stands p m g e) in
      let all = ap (λ (l : List FuncType). length l) (functions_are codes_of p pages) in
      omega (arith, all, behind)

  counted_pass : (n from : ℕ) → from + n ≤ length C.functions → functions_rule C (counted n from) ≡ None
  counted_pass zero from h = refl
  counted_pass (suc n) from h =
      ap (λ (b : Bool). if b then functions_rule C (counted n (suc from)) else Some FuncIndex) (lt-ltb from (length C.functions) (omega (arith, h))) ∙ counted_pass n (suc from) (omega (arith, h))

  elements_pass : element_rule C (record { table = 0; offset = w.I32Const 0; funcs = counted (length p.funcs) functions_before }) ≡ None
  unfolding out-WInstr denote.Hole.Carrier.out
  elements_pass = ap (λ (o : Option WRule). first_of (None ∷ None ∷ o ∷ None ∷ None ∷ [])) (counted_pass (length p.funcs) functions_before (omega (arith, function_count)))

  -- exports are there, under three names
  abbrev of_main : Export
  of_main = record { name = codes "main"; kind = export_kind.Func; index = main_function p }

  abbrev of_memory : Export
  of_memory = record { name = codes "memory"; kind = export_kind.Memory; index = 0 }

  abbrev of_trap_code : Export
  of_trap_code = record { name = codes "trap_code"; kind = export_kind.Global; index = 0 }

  exports_pass : first_fault_behind (export_rule C) [] (of_main ∷ of_memory ∷ of_trap_code ∷ []) ≡ None
  exports_pass =
      passes (export_rule C) [] of_main (of_memory ∷ of_trap_code ∷ []) (ap (λ (b : Bool). first_of (breaks_unless b FuncIndex ∷ None ∷ [])) (lt-ltb (main_function p) (length C.functions) (omega (arith, function_count))))
      ∙ passes (export_rule C) (of_main ∷ []) of_memory (of_trap_code ∷ []) refl
      ∙ passes (export_rule C) (of_main ∷ of_memory ∷ []) of_trap_code [] (ap (λ (b : Bool). first_of (breaks_unless b GlobalIndex ∷ None ∷ [])) (lt-ltb 0 (length C.globals) (omega arith)))

  -- the memory's pages are in order, and few
  pages_pass : ArePages pages → memory_rule 0 (record { min = first_pages pages; max = Some (first_pages pages) }) ≡ None
  pages_pass are =
      let n : ℕ = first_pages pages in
      let ordered = le-leb n n (omega (arith)) in
      let few = le-leb n 65536 (omega (arith, are.linear, are.unrestricted)) in
      λ i. first_of (None ∷ breaks_unless (ordered i && (few i && few i)) LimitsOrder ∷ [])

  abbrev fault_of : Option WRule → Option Fault
  fault_of o = elim o [ Some rule ↦ Some (record { at = 0; rule = rule }) | None ↦ None ]

  pub before_codes : ArePages pages → fault_before_codes (M codes_of p pages) ≡ None
  unfolding out-WInstr denote.Hole.Carrier.out
  before_codes are =
      let imports = ap fault_of imports_pass in
      let table = ap (λ (b : Bool). fault_of (first_of (None ∷ breaks_unless b LimitsOrder ∷ []))) (le-leb (length p.funcs) (length p.funcs) (omega arith)) in
      let memory = ap fault_of (pages_pass are) in
      let elements = ap fault_of elements_pass in
      λ i. earliest (imports i ∷ functions_pass i ∷ table i ∷ memory i ∷ globals_pass i ∷ exports_pass i ∷ None ∷ elements i ∷ [])

  pub behind_codes : fault_behind_codes (M codes_of p pages) ≡ None
  unfolding out-WInstr denote.Hole.Carrier.out
  behind_codes = refl
