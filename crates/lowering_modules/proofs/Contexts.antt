-- The context of each code of a lowered module has what is named in it.
use Rattle.std.proofs.Common.{◌≡◌, ◌∙◌, ◌<◌, ℕ, zero, suc, ◌+◌, List, [], ◌∷◌, ◌++◌, Option, Some, map, replicate, refl, ap, sym, subst, arith}
use Rattle.std.specs.Prelude.{flat_map, option_to_list, slice_get}
use Rattle.wasm_ast.specs.declared.types.FuncType.{FuncType}
use Rattle.wasm_ast.specs.declared.types.ValTy.TheVariants.{I64}
use Rattle.wasm_ast.specs.declared.modules.Code.{Code}
use Rattle.wasm_ast.specs.declared.modules.WGlobal.{WGlobal}
use Rattle.wasm_ast.specs.declared.modules.WModule.{WModule}
use Rattle.wasm_typing.specs.Contexts.{body_context, context_of, type_of_global}
use Rattle.rw_types.specs.declared.types.Mem.{Mem}
use Rattle.rw_types.specs.declared.types.Mem.TheVariants.{L, U}
use Rattle.rw_program.specs.declared.linked.LinkedFunc.{LinkedFunc}
use Rattle.rw_program.specs.Programs.{Program}
use Rattle.layout.specs.Frames.{parameter_words}
use Rattle.layout.specs.Limits.{functions_before, global_count, globals_words, greatest_result}
use Rattle.lowering_table.specs.declared.Pages.{Pages}
use Rattle.lowering_table.specs.Allocators.{Allocators}
use Rattle.lowering_table.specs.TypeUses.{type_index}
use Rattle.lowering_table.specs.Types.{alloc_type, start_type}
use Rattle.lowering_table.specs.Modules.{word_global}
use Rattle.lowering_rows.specs.Surroundings.{Surroundings, allocator, first_scratch, in_function, in_initialiser}
use Rattle.lowering_rows.specs.Functions.{declared_locals, function_code, start_code, start_locals}
use Rattle.lowering_rows_typed.specs.Contexts as named
use Rattle.lowering_rows_typed.specs.Contexts.{HasWhatIsNamed, taking_words}
use Rattle.lowering_modules.specs.Types.{function_type, index_of_words, module_types}
use Rattle.lowering_modules.specs.Modules.{lowered_module}
use Rattle.lowering_modules.proofs.Types.{alloc_stands, function_stands, print_first, print_stands}

-- so many of one thing
repeated : {A : Type 0} (n k : ℕ) (x : A) → k < n → slice_get (replicate n x) k ≡ Some x
repeated zero k x h = absurd (omega (arith, h))
repeated (suc n) zero x h = refl
repeated (suc n) (suc k) x h = repeated n k x (omega (arith, h))

repeated_twice : {A : Type 0} (n m k : ℕ) (x : A) → k < n + m → slice_get (replicate n x ++ (replicate m x ++ [])) k ≡ Some x
repeated_twice zero zero k x h = absurd (omega (arith, h))
repeated_twice zero (suc m) zero x h = refl
repeated_twice zero (suc m) (suc k) x h = repeated_twice zero m k x (omega (arith, h))
repeated_twice (suc n) m zero x h = refl
repeated_twice (suc n) m (suc k) x h = repeated_twice n m k x (omega (arith, h))

mapped_replicate : (n k : ℕ) (g : WGlobal) → k < n → slice_get (map type_of_global (replicate n g)) k ≡ Some (type_of_global g)
mapped_replicate zero k g h = absurd (omega (arith, h))
mapped_replicate (suc n) zero g h = refl
mapped_replicate (suc n) (suc k) g h = mapped_replicate n k g (omega (arith, h))

module _ (codes_of : Allocators) (p : Program) (pages : Pages) where
  abbrev pub M : WModule
  M = lowered_module codes_of p pages

  abbrev pub types : List FuncType
  types = module_types p

  abbrev pub at : ℕ → List FuncType
  at n = option_to_list (slice_get types n)

  -- the types of functions from linked ones on
  linked_at : (fs : List LinkedFunc) (n : ℕ) (f : LinkedFunc) → ((m : ℕ) (g : LinkedFunc) → slice_get fs m ≡ Some g → slice_get types (type_index (function_type g) types) ≡ Some (function_type g)) → slice_get fs n ≡ Some f →
      slice_get (flat_map at (map (λ (g : LinkedFunc). type_index (function_type g) types) fs ++ type_index start_type types ∷ [])) n ≡ Some (function_type f)
  linked_at [] n f all e = cc
  linked_at (g ∷ fs) zero f all e =
      let same : g ≡ f = cc in
      ap (λ (o : Option FuncType). slice_get (option_to_list o ++ flat_map at (map (λ (g : LinkedFunc). type_index (function_type g) types) fs ++ type_index start_type types ∷ [])) 0) (all 0 g refl)
      ∙ ap (λ (h : LinkedFunc). Some (function_type h)) same
  linked_at (g ∷ fs) (suc n) f all e =
      ap (λ (o : Option FuncType). slice_get (option_to_list o ++ flat_map at (map (λ (g : LinkedFunc). type_index (function_type g) types) fs ++ type_index start_type types ∷ [])) (suc n)) (all 0 g refl)
      ∙ linked_at fs n f (λ m h x. all (suc m) h x) e

  -- the functions of the module's context
  abbrev pub rest : List FuncType
  rest = flat_map at (map (λ (g : LinkedFunc). type_index (function_type g) types) p.funcs ++ type_index start_type types ∷ [])

  pub functions_are : (context_of M).functions ≡ taking_words 1 ∷ alloc_type ∷ taking_words 1 ∷ alloc_type ∷ rest
  functions_are =
      λ i. (option_to_list (print_first p i) ++ []) ++ (option_to_list (alloc_stands p i) ++ (option_to_list (print_stands p i) ++ (option_to_list (alloc_stands p i) ++ rest)))

  linked : (n : ℕ) (f : LinkedFunc) → slice_get p.funcs n ≡ Some f → slice_get (context_of M).functions (functions_before + n) ≡ Some (function_type f)
  linked n f e =
      let same : functions_before + n ≡ suc (suc (suc (suc n))) = omega arith in
      ap (λ (k : ℕ). slice_get (context_of M).functions k) same
      ∙ ap (λ (l : List FuncType). slice_get l (suc (suc (suc (suc n))))) functions_are
      ∙ linked_at p.funcs n f (λ m g x. function_stands p m g x) e

  allocators : (m : Mem) → slice_get (context_of M).functions (allocator m) ≡ Some named.allocator_type
  allocators L = ap (λ (l : List FuncType). slice_get l 1) functions_are
  allocators U = ap (λ (l : List FuncType). slice_get l 3) functions_are

  words : (n : ℕ) → 0 < n → n < global_count p → slice_get (context_of M).globals n ≡ Some named.word_global
  words zero h g = absurd (omega (arith, h))
  words (suc zero) h g = refl
  words (suc (suc n)) h g = mapped_replicate (greatest_result p.funcs + globals_words p.globals) n (word_global 0) (omega (arith, g))

  -- with these locals
  of_code : (s : Surroundings) (ty : FuncType) (code : Code) → s.program ≡ p → ((n : ℕ) → n < first_scratch s + 2 → slice_get (body_context (context_of M) ty code).locals n ≡ Some I64) → HasWhatIsNamed s (body_context (context_of M) ty code)
  of_code s ty code same locals = record {
    locals = locals;
    prints = ap (λ (l : List FuncType). slice_get l 0) functions_are;
    allocates = allocators;
    frees = ap (λ (l : List FuncType). slice_get l 2) functions_are;
    functions = λ n f e. linked n f (ap (λ (q : Program). slice_get q.funcs n) (sym same) ∙ e);
    trap_code = refl;
    words = λ n h g. words n h (subst (λ (q : Program). n < global_count q) same g);
    memory = refl;
    table = refl;
  }

  pub function_context : (g : LinkedFunc) → HasWhatIsNamed (in_function p (index_of_words p) g) (body_context (context_of M) (function_type g) (function_code p (index_of_words p) g))
  function_context g = of_code (in_function p (index_of_words p) g) (function_type g) (function_code p (index_of_words p) g) refl (λ n h. repeated_twice (parameter_words g) (declared_locals g) n I64 (omega (arith, h)))

  pub start_context : HasWhatIsNamed (in_initialiser p (index_of_words p)) (body_context (context_of M) start_type (start_code p (index_of_words p)))
  start_context = of_code (in_initialiser p (index_of_words p)) start_type (start_code p (index_of_words p)) refl (λ n h. repeated_twice 0 (start_locals p) n I64 (omega (arith, h)))
