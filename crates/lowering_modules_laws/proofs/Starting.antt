-- A lowered module begins in the call of its exported main.
use Rattle.std.proofs.Common.{◌≡◌, ◌∙◌, ℕ, zero, suc, ◌+◌, ◌*◌, Bool, true, false, List, [], ◌∷◌, ◌++◌, Option, Some, None, length, map, refl, ap, arith}
use Rattle.std.specs.Prelude.{nat_le, slice_get}
use Rattle.std.proofs.lemmas.Bool.{le-leb}
use Rattle.wasm_ast.specs.SameTypes.{is_same_type}
use Rattle.wasm_ast.specs.declared.types.FuncType.{FuncType}
use Rattle.wasm_ast.specs.declared.types.ValTy.TheVariants.{I64}
use Rattle.wasm_ast.specs.declared.instructions.WInstr.{out-WInstr}
use Rattle.wasm_ast.specs.declared.modules.Code.{Code}
use Rattle.wasm_ast.specs.declared.modules.WModule.{WModule}
use Rattle.wasm_execution.specs.Environments.{Function, function_with, functions_of, own_functions}
use Rattle.wasm_execution.specs.Starts.{Begins, NoMain, SegmentOut, UnknownImport, first_failing, first_out, start_exported, start_main}
use Rattle.wasm_execution.specs.Types.{takes_and_gives}
use Rattle.rw_program.specs.declared.linked.LinkedFunc.{LinkedFunc}
use Rattle.rw_program.specs.Programs.{Program}
use Rattle.layout.specs.Limits.{functions_before}
use Rattle.lowering_table.specs.declared.Pages.{Pages}
use Rattle.lowering_table.specs.Allocators.{Allocators}
use Rattle.lowering_table.specs.TypeUses.{type_index}
use Rattle.lowering_table.specs.Types.{start_type}
use Rattle.lowering_table.specs.Modules.{ArePages, counted, first_pages, main_function}
use Rattle.lowering_rows.specs.Functions.{function_code, start_code}
use Rattle.lowering_modules.specs.Types.{function_type, index_of_words, module_types}
use Rattle.lowering_modules.specs.Modules.{lowered_module}
use Rattle.lowering_modules.proofs.Types.{print_first, start_stands}
use Rattle.lowering_modules_laws.specs.Laws.{ModulesStart, first_configuration}

counted_length : (n from : ℕ) → length (counted n from) ≡ n
counted_length zero from = refl
counted_length (suc n) from = ap suc (counted_length n (suc from))

-- the last function is the exported main
last_function : (types : List FuncType) (fs : List LinkedFunc) (index : LinkedFunc → ℕ) (code : LinkedFunc → Code) (n : ℕ) (c : Code) →
    slice_get (own_functions types (map index fs ++ n ∷ []) (map code fs ++ c ∷ [])) (length fs) ≡ Some (function_with types n (Some c))
last_function types [] index code n c = refl
last_function types (f ∷ fs) index code n c = last_function types fs index code n c

module _ (codes_of : Allocators) (p : Program) (pages : Pages) (are : ArePages pages) where
  abbrev M : WModule
  M = lowered_module codes_of p pages

  table_fits : nat_le (0 + length (counted (length p.funcs) functions_before)) (length p.funcs) ≡ true
  table_fits = le-leb (0 + length (counted (length p.funcs) functions_before)) (length p.funcs) (omega (arith, counted_length (length p.funcs) functions_before))

  memory_fits : nat_le (8 + 16) (65536 * first_pages pages) ≡ true
  memory_fits = le-leb (8 + 16) (65536 * first_pages pages) (omega (arith, are.some))

  main_there : slice_get (functions_of M) (main_function p) ≡ Some (Some (record { ty = start_type; code = Some (start_code p (index_of_words p)) }))
  main_there =
      let same : main_function p ≡ suc (suc (suc (suc (length p.funcs)))) = omega arith in
      ap (λ (n : ℕ). slice_get (functions_of M) n) same
      ∙ last_function (module_types p) p.funcs (λ (f : LinkedFunc). type_index (function_type f) (module_types p)) (function_code p (index_of_words p)) (type_index start_type (module_types p)) (start_code p (index_of_words p))
      ∙ ap (λ (o : Option FuncType). Some (elim o as (λ x. Option Function) [ None ↦ None | Some t ↦ Some (record { ty = t; code = Some (start_code p (index_of_words p)) }) ])) (start_stands p)

  exported_starts : start_exported M ≡ Begins (first_configuration codes_of p pages)
  exported_starts =
      ap
      (λ (o : Option (Option Function)). elim (elim (elim o as (λ x. Option Function) [ None ↦ None | Some f ↦ f ]) as (λ x. Option Code) [ None ↦ None | Some f ↦ elim (is_same_type f.ty (takes_and_gives [] (Some I64))) [ true ↦ f.code | false ↦ None ] ]) [
        | None ↦ NoMain
        | Some code ↦ start_main M (main_function p) code
      ])
      main_there

pub modules_start : ModulesStart
unfolding out-WInstr denote.Hole.Carrier.out
modules_start codes_of p pages are =
    ap
    (λ (o : Option FuncType). elim (first_failing 0 ((elim o [ None ↦ false | Some t ↦ is_same_type t (takes_and_gives (I64 ∷ []) None) ]) ∷ [])) [
      | Some i ↦ UnknownImport i
      | None ↦ elim (first_out (M codes_of p pages are)) [ Some i ↦ SegmentOut i | None ↦ start_exported (M codes_of p pages are) ]
    ])
    (print_first p)
    ∙ ap (λ (b : Bool). elim (first_failing 0 (b ∷ nat_le (8 + 16) (65536 * first_pages pages) ∷ [])) [ Some i ↦ SegmentOut i | None ↦ start_exported (M codes_of p pages are) ]) (table_fits codes_of p pages are)
    ∙ ap (λ (b : Bool). elim (first_failing 0 (true ∷ b ∷ [])) [ Some i ↦ SegmentOut i | None ↦ start_exported (M codes_of p pages are) ]) (memory_fits codes_of p pages are)
    ∙ exported_starts codes_of p pages are
