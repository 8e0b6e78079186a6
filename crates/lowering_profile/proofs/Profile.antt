-- Each part of a lowered module is in the profile.
use Rattle.std.proofs.Common.{◌≡◌, ◌∙◌, ℕ, ◌+◌, ◌^◌, ◌<◌, ◌≤◌, true, List, [], ◌∷◌, ◌++◌, length, All, map, replicate, sym, arith, lit<, length-append}
use Rattle.std.proofs.lemmas.List.Elements.{All-append, All-cons, All-from_recursion, All-head, All-map, All-nil, All-replicate, All-tail, All-weaker}
use Rattle.wasm_ast.specs.declared.instructions.WInstr as w
use Rattle.wasm_ast.specs.declared.types.ValTy.TheVariants.{I32, I64}
use Rattle.wasm_ast.specs.declared.modules.Code.{Code}
use Rattle.wasm_ast.specs.declared.modules.DataSeg.{DataSeg}
use Rattle.wasm_ast.specs.declared.modules.ElemSeg.{ElemSeg}
use Rattle.wasm_ast.specs.declared.modules.LocalRun.{LocalRun}
use Rattle.wasm_ast.specs.declared.modules.WGlobal.{WGlobal}
use Rattle.wasm_ast.specs.declared.modules.WModule.{WModule}
use Rattle.wasm_grammar.specs.Nesting.{ModuleNestsAtMost, NestsAtMost, nesting, nesting_limit}
use Rattle.wasm_grammar.specs.Profile.{CodeFits, ElementFits, ExportFits, GlobalFits, ImportFits, LimitsFit, SegmentFits, entry_limit, page_limit}
use Rattle.wasm_grammar.specs.ProfileInstructions.{FitsU32, IsShortListOf}
use Rattle.wasm_spelling.proofs.KnownInstructions.{one}
use Rattle.rw_program.specs.declared.linked.LinkedFunc.{LinkedFunc}
use Rattle.rw_program.specs.Programs.{Program}
use Rattle.layout.specs.Limits.{functions_before, globals_words, greatest_result}
use Rattle.lowering_table.specs.declared.Pages.{Pages}
use Rattle.lowering_table.specs.Allocators.{Allocators}
use Rattle.lowering_table.specs.TypeUses.{type_index}
use Rattle.lowering_table.specs.Types.{alloc_type, start_type}
use Rattle.lowering_table.specs.Modules.{ArePages, low_exports, region_start, word_global}
use Rattle.lowering_bounds.specs.Depths.{depth_limit, list_depth}
use Rattle.lowering_bounds.proofs.Nesting.{functions_nest, starts_nest}
use Rattle.lowering_rows.specs.Functions.{code_of, declared_locals, function_body, function_code, start_body, start_code, start_locals}
use Rattle.lowering_rows_typed.specs.Contexts.{taking_words}
use Rattle.lowering_modules.specs.Types.{function_type, index_of_words, module_types}
use Rattle.lowering_modules.specs.Modules.{lowered_module, module_codes, module_functions, module_globals}
use Rattle.lowering_profile.specs.Laws.{AreAllocatorsInProfile, HasBodiesInProfile, HasShallowBodies, IsBodyInProfile, IsCodeInProfile, LowModuleIsInProfile, instruction_count}
use Rattle.lowering_profile.proofs.Limits.{IsNarrow, KeepsLimits, keeps}
use Rattle.lowering_profile.proofs.Types.{index_fits, mapped_length, repeated_length, types_fit}
use Rattle.lowering_profile.proofs.Values.{constant-I32Const, constant-I64Const, counted-fits, flat-I32Const, flat-I64Const, free_list-fits, main-fits, memory-fits, print-fits, rw-fits, trap_code-fits}

module _ (codes_of : Allocators) (p : Program) (pages : Pages) (limits : KeepsLimits p) (few : instruction_count p.funcs < 2 ^ 31) (are : ArePages pages) where
  abbrev M : WModule
  M = lowered_module codes_of p pages

  functions_fit : IsShortListOf FitsU32 (module_functions p)
  functions_fit =
      let types = module_types p in
      let index = λ (f : LinkedFunc). type_index (function_type f) types in
      let indices : List ℕ = map index p.funcs ++ type_index start_type types ∷ [] in
      let each_fits = All-append FitsU32 (map index p.funcs) (type_index start_type types ∷ [])
      (All-map FitsU32 index p.funcs (All-weaker IsNarrow (λ (f : LinkedFunc). FitsU32 (index f)) (λ f h. index_fits p limits few (function_type f)) p.funcs limits.frames))
      (All-cons FitsU32 (type_index start_type types) [] (index_fits p limits few start_type) (All-nil FitsU32)) in
      record {
        short = omega (arith, limits.table, mapped_length index p.funcs, length-append (map index p.funcs) (type_index start_type types ∷ []));
        each = All-cons FitsU32 (type_index alloc_type types) (type_index (taking_words 1) types ∷ type_index alloc_type types ∷ indices) (index_fits p limits few alloc_type)
            (All-cons FitsU32 (type_index (taking_words 1) types) (type_index alloc_type types ∷ indices) (index_fits p limits few (taking_words 1))
            (All-cons FitsU32 (type_index alloc_type types) indices (index_fits p limits few alloc_type) each_fits));
      }

  abbrev words : ℕ
  words = greatest_result p.funcs + globals_words p.globals

  abbrev code_global : WGlobal
  code_global = record { ty = I32; mutable = true; init = w.I32Const 0 }

  globals_fit : IsShortListOf GlobalFits (module_globals p pages)
  globals_fit = record {
    short = omega (arith, limits.globals, repeated_length words (word_global 0));
    each = All-cons GlobalFits code_global (word_global (region_start pages) ∷ replicate words (word_global 0)) (constant-I32Const 0 (lit< tt))
        (All-cons GlobalFits (word_global (region_start pages)) (replicate words (word_global 0)) (constant-I64Const (region_start pages) (omega (arith, are.linear)))
        (All-replicate GlobalFits words (word_global 0) (constant-I64Const 0 (lit< tt))));
  }

  globals_flat : All (λ (g : WGlobal). nesting g.init ≤ nesting_limit) (module_globals p pages)
  globals_flat =
      let P = λ (g : WGlobal). nesting g.init ≤ nesting_limit in
      All-cons P code_global (word_global (region_start pages) ∷ replicate words (word_global 0)) (flat-I32Const 0) (All-cons P (word_global (region_start pages)) (replicate words (word_global 0)) (flat-I64Const (region_start pages)) (All-replicate P words (word_global 0) (flat-I64Const 0)))

  exports_fit : IsShortListOf ExportFits (low_exports p)
  exports_fit = record {
    short = lit< tt;
    each = All-from_recursion ExportFits (low_exports p) ((main-fits, omega (arith, limits.table)), ((memory-fits, lit< tt), ((trap_code-fits, lit< tt), tt)));
  }

  elements_fit : IsShortListOf ElementFits M.elements
  elements_fit = one ElementFits _ (lit< tt, constant-I32Const 0 (lit< tt), counted-fits (length p.funcs) functions_before (omega (arith, limits.table)))

  segments_fit : IsShortListOf SegmentFits M.segments
  segments_fit = one SegmentFits _ (lit< tt, constant-I32Const 8 (lit< tt), free_list-fits pages)

  -- a code with a run of locals
  code_fits : (locals : ℕ) (body : List w.WInstr) → locals ≤ 10000 → IsBodyInProfile body → CodeFits (code_of locals body)
  code_fits locals body h fits = record {
    locals = one (λ (r : LocalRun). FitsU32 r.count) (record { count = locals; ty = I64 }) (omega (arith, h));
    local_count = omega (arith, h);
    body_length = fits.short;
    body = fits.fits;
  }

  module _ (shallow : HasShallowBodies p) (bodies : HasBodiesInProfile p) (allocators : AreAllocatorsInProfile codes_of) where
    abbrev code : LinkedFunc → Code
    code f = function_code p (index_of_words p) f

    abbrev IsShallow : LinkedFunc → Type 0
    IsShallow f = list_depth f.body ≤ depth_limit

    abbrev HasBody : LinkedFunc → Type 0
    HasBody f = IsBodyInProfile (function_body p (index_of_words p) f)

    abbrev HasCode : LinkedFunc → Type 0
    HasCode f = IsCodeInProfile (code f)

    function_codes : (fs : List LinkedFunc) → All IsNarrow fs → All IsShallow fs → All HasBody fs → All HasCode fs
    function_codes [] h k l = All-nil HasCode
    function_codes (f ∷ fs) h k l =
        All-cons HasCode f fs
        (record { fits = code_fits (declared_locals f) (function_body p (index_of_words p) f) (omega (arith, All-head IsNarrow f fs h)) (All-head HasBody f fs l); nests = functions_nest p (index_of_words p) f (All-head IsShallow f fs k) })
        (function_codes fs (All-tail IsNarrow f fs h) (All-tail IsShallow f fs k) (All-tail HasBody f fs l))

    start_in_profile : IsCodeInProfile (start_code p (index_of_words p))
    start_in_profile = record { fits = code_fits (start_locals p) (start_body p (index_of_words p)) (omega (arith, limits.start)) bodies.start; nests = starts_nest p (index_of_words p) shallow.globals }

    all_codes : All IsCodeInProfile (module_codes codes_of p)
    all_codes =
        let own : List Code = map code p.funcs ++ start_code p (index_of_words p) ∷ [] in
        let own_fit = All-append IsCodeInProfile (map code p.funcs) (start_code p (index_of_words p) ∷ [])
        (All-map IsCodeInProfile code p.funcs (function_codes p.funcs limits.frames shallow.functions bodies.functions))
        (All-cons IsCodeInProfile (start_code p (index_of_words p)) [] start_in_profile (All-nil IsCodeInProfile)) in
        All-cons IsCodeInProfile codes_of.alloc_lin (codes_of.free_lin ∷ codes_of.alloc_unr ∷ own) allocators.alloc_lin
        (All-cons IsCodeInProfile codes_of.free_lin (codes_of.alloc_unr ∷ own) allocators.free_lin
        (All-cons IsCodeInProfile codes_of.alloc_unr own allocators.alloc_unr own_fit))

    code_count : length (module_codes codes_of p) ≡ 4 + length p.funcs
    code_count = omega (arith, mapped_length code p.funcs, length-append (map code p.funcs) (start_code p (index_of_words p) ∷ []))

    function_count : length (module_functions p) ≡ 4 + length p.funcs
    function_count =
        let index = λ (f : LinkedFunc). type_index (function_type f) (module_types p) in
        omega (arith, mapped_length index p.funcs, length-append (map index p.funcs) (type_index start_type (module_types p) ∷ []))

    nests : ModuleNestsAtMost nesting_limit M
    nests = record {
      codes = All-weaker IsCodeInProfile (λ (c : Code). NestsAtMost nesting_limit c.body) (λ c h. h.nests) (module_codes codes_of p) all_codes;
      globals = globals_flat;
      elements = All-cons (λ (s : ElemSeg). nesting s.offset ≤ nesting_limit) _ [] (flat-I32Const 0) (All-nil _);
      segments = All-cons (λ (s : DataSeg). nesting s.offset ≤ nesting_limit) _ [] (flat-I32Const 8) (All-nil _);
    }

pub module_is_in_profile : LowModuleIsInProfile
module_is_in_profile codes_of p pages passed shallow few are bodies allocators =
    let limits = keeps p passed in record {
      types = types_fit p limits few;
      imports = one ImportFits _ (rw-fits, print-fits, lit< tt);
      funcs = functions_fit codes_of p pages limits few are;
      tables = one (LimitsFit entry_limit) _ (limits.table, omega (arith, limits.table));
      memories = one (LimitsFit page_limit) _ (omega (arith, are.linear, are.unrestricted), omega (arith, are.linear, are.unrestricted));
      globals = globals_fit codes_of p pages limits few are;
      exports = exports_fit codes_of p pages limits few are;
      start = tt;
      elements = elements_fit codes_of p pages limits few are;
      codes = record {
        short = omega (arith, limits.table, code_count codes_of p pages limits few are shallow bodies allocators);
        each = All-weaker IsCodeInProfile CodeFits (λ c h. h.fits) (module_codes codes_of p) (all_codes codes_of p pages limits few are shallow bodies allocators);
      };
      segments = segments_fit codes_of p pages limits few are;
      counts = function_count codes_of p pages limits few are shallow bodies allocators ∙ sym (code_count codes_of p pages limits few are shallow bodies allocators);
      nesting = nests codes_of p pages limits few are shallow bodies allocators;
    }
