-- The table of functions: what is put to it, import by import and code by code, and what is found in it.
use Rattle.std.proofs.Common.{◌≡◌, ◌∙◌, ℕ, zero, suc, ◌+◌, ◌<◌, Bool, List, [], ◌∷◌, ◌++◌, length, take, get_or, slice_get, ◌≤◌, refl, sym, ap, subst, arith, append_assoc}
use Rattle.std.specs.Prelude.{Option, Some, None, MatchOption, IfSome, is_some}
use Rattle.std.specs.Option.{option_copied}
use Rattle.std.specs.Borrow.{Bor}
use Rattle.std.proofs.lemmas.List.{append-nil, take_more}
use Rattle.std.proofs.Math.Numerals.{add-one}
use Rattle.std.proofs.Math.Dec.{ltb}
use Rattle.std.proofs.lemmas.Bool.{ltb-true, ltb-false}
use Rattle.wasm_module_checking.proofs.Bodies.{found as found_at}
use Rattle.wasm_ast.specs.declared.types.FuncType.{FuncType}
use Rattle.wasm_ast.specs.declared.types.ValTy.{ValTy}
use Rattle.wasm_ast.specs.declared.modules.Code.{Code}
use Rattle.wasm_ast.specs.declared.modules.Import.{Import}
use Rattle.wasm_ast.specs.declared.modules.WModule.{WModule}
use Rattle.wasm_execution.specs.Environments as machine
use Rattle.wasm_execution.specs.Environments.{function_in, function_with, imported, imported_functions, own_functions}
use Rattle.wasm_execution.specs.Types.{results_of}
use Rattle.wasm_functions.specs.Functions.{count_given, IsFunction, AreFunctions}
use Rattle.wasm_functions.specs.declared.function.Function.{Function}

some_is : {A : Type 0} {a b : A} → Some a ≡ Some b → a ≡ b
some_is e = cc

none_past : {A : Type 0} (xs : List A) (n : ℕ) → length xs ≤ n → slice_get xs n ≡ None
none_past [] n le = refl
none_past (x ∷ xs) zero le = absurd (omega (arith, le))
none_past (x ∷ xs) (suc n) le = none_past xs n (omega (arith, le))

-- what is looked up is what stands there
pub looked_up : {A : Type 0} (xs : List A) (n : ℕ) (r : Option (Bor A)) → is_some r ≡ ltb n (length xs) → IfSome r (λ x. x.now ≡ get_or xs n x.now) → option_copied r ≡ slice_get xs n
looked_up xs n None e h = sym (none_past xs n (ltb-false n (length xs) (sym e)))
looked_up xs n (Some x) e h = sym (found_at xs n x.now x.now (ltb-true n (length xs) (sym e)) h)

module _ (m : WModule) where
  pub one_put : (os : List (Option machine.Function)) (fs : List Function) (o : Option machine.Function) (f : Function) → AreFunctions m os fs → IsFunction m o f → AreFunctions m (os ++ o ∷ []) (fs ++ f ∷ [])
  one_put [] [] o f h k = (k, tt)
  one_put [] (g ∷ fs) o f h k = absurd h
  one_put (p ∷ os) [] o f h k = absurd h
  one_put (p ∷ os) (g ∷ fs) o f h k = (h.0, one_put os fs o f h.1 k)

  found_there : (os : List (Option machine.Function)) (fs : List Function) (n : ℕ) → AreFunctions m os fs → MatchOption (slice_get fs n) (function_in os n ≡ None) (λ f. IsFunction m (function_in os n) f)
  found_there [] [] n h = refl
  found_there [] (f ∷ fs) n h = absurd h
  found_there (o ∷ os) [] n h = absurd h
  found_there (o ∷ os) (f ∷ fs) zero h = h.0
  found_there (o ∷ os) (f ∷ fs) (suc n) h = found_there os fs n h.1

  pub found : (os : List (Option machine.Function)) (fs : List Function) (n : ℕ) (r : Option (Bor Function)) → option_copied r ≡ slice_get fs n → AreFunctions m os fs
      → MatchOption r (function_in os n ≡ None) (λ f. IsFunction m (function_in os n) f.now)
  found os fs n None e h = subst (λ (r : Option Function). MatchOption r (function_in os n ≡ None) (λ f. IsFunction m (function_in os n) f)) (sym e) (found_there os fs n h)
  found os fs n (Some x) e h = subst (λ (r : Option Function). MatchOption r (function_in os n ≡ None) (λ f. IsFunction m (function_in os n) f)) (sym e) (found_there os fs n h)

pub imports_joined : (types : List FuncType) (xs ys : List Import) → imported_functions types (xs ++ ys) ≡ imported_functions types xs ++ imported_functions types ys
imports_joined types [] ys = refl
imports_joined types (x ∷ xs) ys = ap (λ (l : List (Option machine.Function)). imported types x.what ++ l) (imports_joined types xs ys) ∙ sym (append_assoc (imported types x.what) (imported_functions types xs) (imported_functions types ys))

-- one import more
pub imports_more : (types : List FuncType) (xs : List Import) (i : ℕ) (x : Import) → i < length xs → x ≡ get_or xs i x → imported_functions types (take (i + 1) xs) ≡ imported_functions types (take i xs) ++ imported types x.what
imports_more types xs i x lt e =
    ap (imported_functions types) (take_more xs i x lt ∙ ap (λ (y : Import). take i xs ++ y ∷ []) (sym e))
    ∙ imports_joined types (take i xs) (x ∷ [])
    ∙ ap (λ (l : List (Option machine.Function)). imported_functions types (take i xs) ++ l) (append-nil (imported types x.what))

own_more_suc : (types : List FuncType) (ns : List ℕ) (cs : List Code) (k n : ℕ) (c : Code) → slice_get ns k ≡ Some n → slice_get cs k ≡ Some c
    → own_functions types (take (suc k) ns) (take (suc k) cs) ≡ own_functions types (take k ns) (take k cs) ++ function_with types n (Some c) ∷ []
own_more_suc types [] cs k n c e f = absurd (cc)
own_more_suc types (m ∷ ns) [] k n c e f = absurd (cc)
own_more_suc types (m ∷ ns) (d ∷ cs) zero n c e f =
    ap (λ (x : ℕ). function_with types x (Some d) ∷ []) (some_is e) ∙ ap (λ (x : Code). function_with types n (Some x) ∷ []) (some_is f)
own_more_suc types (m ∷ ns) (d ∷ cs) (suc k) n c e f = ap (λ (l : List (Option machine.Function)). function_with types m (Some d) ∷ l) (own_more_suc types ns cs k n c e f)

-- one code more
pub own_more : (types : List FuncType) (ns : List ℕ) (cs : List Code) (k n : ℕ) (c : Code) → slice_get ns k ≡ Some n → slice_get cs k ≡ Some c
    → own_functions types (take (k + 1) ns) (take (k + 1) cs) ≡ own_functions types (take k ns) (take k cs) ++ function_with types n (Some c) ∷ []
own_more types ns cs k n c e f = ap (λ (j : ℕ). own_functions types (take j ns) (take j cs)) (add-one k) ∙ own_more_suc types ns cs k n c e f

pub given : (r : Option ValTy) (b : Bool) → b ≡ is_some r → results_of r ≡ count_given b
given None b e = ap count_given (sym e)
given (Some t) b e = ap count_given (sym e)
