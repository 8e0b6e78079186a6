-- The functions of the module, by their numbers.
use Rattle.std.proofs.Common.{◌≡◌, ◌∙◌, ℕ, zero, suc, ◌+◌, ◌<◌, ◌≤◌, List, [], ◌∷◌, ◌++◌, length, take, slice_get, refl, sym, ap, subst, arith, append_assoc}
use Rattle.std.specs.Prelude.{Option, Some, None}
use Rattle.std.proofs.lemmas.List.{append-nil, take_all}
use Rattle.wasm_ast.specs.declared.types.FuncType.{FuncType}
use Rattle.wasm_ast.specs.declared.modules.Code.{Code}
use Rattle.wasm_ast.specs.declared.modules.WModule.{WModule}
use Rattle.wasm_execution.specs.Environments as machine
use Rattle.wasm_execution.specs.Environments.{function_with, functions_of, imported_functions, own_functions}
use Rattle.wasm_functions.specs.Functions.{IsBodyAt, IsBodyOf, IsFunction, AreFunctions, own_function}
use Rattle.wasm_functions.specs.declared.function.Function.{Function}
use Rattle.wasm_functions.specs.declared.function.Body.{Body}
use Rattle.wasm_functions.proofs.Tables.{one_put, own_more}

index_found : {A : Type 0} (n : ℕ) (xs : List A) → n < length xs → (x : A) × (slice_get xs n ≡ Some x)
index_found n [] lt = absurd (omega (arith, lt))
index_found zero (x ∷ xs) lt = (x, refl)
index_found (suc n) (x ∷ xs) lt = index_found n xs (omega (arith, lt))

module _ (m : WModule) where
  own_is : (k n : ℕ) (c : Option Code) → slice_get m.funcs k ≡ Some n → slice_get m.codes k ≡ c → own_function m k ≡ function_with m.types n c
  own_is k n c listed there =
      ap (λ (o : Option ℕ). elim o [ None ↦ None | Some j ↦ function_with m.types j (slice_get m.codes k) ]) listed ∙ ap (function_with m.types n) there

  pub own_told : (k n : ℕ) (b : Body) (r : Function) → slice_get m.funcs k ≡ Some n → k < length m.codes → IsBodyAt m k b
      → ((code : Option Code) → ((ty : FuncType) → slice_get m.types n ≡ Some ty → IsBodyOf m ty code (Some b)) → IsFunction m (function_with m.types n code) r) → IsFunction m (own_function m k) r
  own_told k n b r listed lt at told =
      let p = index_found k m.codes lt in
      subst (λ (o : Option machine.Function). IsFunction m o r) (sym (own_is k n (Some p.0) listed p.1)) (told (Some p.0) (λ ty t. at n ty p.0 listed t p.1))

  abbrev pub all_before : ℕ → List (Option machine.Function)
  all_before k = imported_functions m.types m.imports ++ own_functions m.types (take k m.funcs) (take k m.codes)

  pub none_before : (fs : List Function) → AreFunctions m (imported_functions m.types m.imports) fs → AreFunctions m (all_before 0) fs
  none_before fs h = subst (λ (os : List (Option machine.Function)). AreFunctions m os fs) (sym (append-nil (imported_functions m.types m.imports))) h

  pub one_more : (k : ℕ) (fs gs : List Function) (f : Function) → k < length m.funcs → k < length m.codes → AreFunctions m (all_before k) fs → IsFunction m (own_function m k) f → gs ≡ fs ++ f ∷ [] → AreFunctions m (all_before (k + 1)) gs
  one_more k fs gs f lt le h is e =
      let n = index_found k m.funcs lt in
      let c = index_found k m.codes le in
      let hosts = imported_functions m.types m.imports in
      let own = own_functions m.types (take k m.funcs) (take k m.codes) in
      let joined : all_before k ++ own_function m k ∷ [] ≡ all_before (k + 1) =
      append_assoc hosts own (own_function m k ∷ [])
      ∙ ap (λ (o : Option machine.Function). hosts ++ (own ++ o ∷ [])) (own_is k n.0 (Some c.0) n.1 c.1)
      ∙ ap (λ (l : List (Option machine.Function)). hosts ++ l) (sym (own_more m.types m.funcs m.codes k n.0 c.0 n.1 c.1)) in
      subst (λ (l : List Function). AreFunctions m (all_before (k + 1)) l) (sym e) (subst (λ (os : List (Option machine.Function)). AreFunctions m os (fs ++ f ∷ [])) joined (one_put m (all_before k) fs (own_function m k) f h is))

  pub all_put : (k : ℕ) (fs : List Function) → length m.funcs ≤ k → length m.codes ≤ k → AreFunctions m (all_before k) fs → AreFunctions m (functions_of m) fs
  all_put k fs lf lc h =
      let ns = take_all k m.funcs lf in
      let cs = take_all k m.codes lc in
      subst (λ (l : List Code). AreFunctions m (imported_functions m.types m.imports ++ own_functions m.types m.funcs l) fs) cs
      (subst (λ (l : List ℕ). AreFunctions m (imported_functions m.types m.imports ++ own_functions m.types l (take k m.codes)) fs) ns h)

  pub no_host : (os : List (Option machine.Function)) (fs : List Function) → AreFunctions m os fs → AreFunctions m (os ++ []) fs
  no_host os fs h = subst (λ (l : List (Option machine.Function)). AreFunctions m l fs) (sym (append-nil os)) h
