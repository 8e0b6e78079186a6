-- What is found in lists that are seen by their types.
use Rattle.std.proofs.Common.{◌≡◌, ◌≤◌, ◌<◌, ◌∙◌, ◌++◌, ◌-◌, ℕ, zero, suc, List, [], ◌∷◌, Some, None, refl, ap, sym, length, get_or, map, arith}
use Rattle.std.specs.Prelude.{slice_get}
use Rattle.rw_types.specs.declared.modules.FuncDef.{FuncDef}
use Rattle.rw_types.specs.declared.modules.GlobalDef.{GlobalDef}
use Rattle.rw_types.specs.declared.modules.ImportDef.{ImportDef}
use Rattle.rw_types.specs.declared.types.FunType.{FunType}
use Rattle.rw_frames.specs.Frames.{found_global}

pub found_mapped : (gs : List GlobalDef) (n : ℕ) → found_global (slice_get gs n) ≡ slice_get (map (λ (g : GlobalDef). record { mutable = g.mutable; ty = g.ty }) gs) n
found_mapped [] n = refl
found_mapped (g ∷ gs) zero = refl
found_mapped (g ∷ gs) (suc n) = found_mapped gs n

pub among_imports : (is : List ImportDef) (others : List FunType) (n : ℕ) (i : ImportDef) → n < length is → i ≡ get_or is n i → Some i.ty ≡ slice_get (map (λ (x : ImportDef). x.ty) is ++ others) n
among_imports [] others n i in_is e = absurd (omega arith)
among_imports (x ∷ is) others zero i in_is e = ap (λ (y : ImportDef). Some y.ty) e
among_imports (x ∷ is) others (suc n) i in_is e = among_imports is others n i (omega arith) e

past_imports : (is : List ImportDef) (others : List FunType) (n : ℕ) → length is ≤ n → slice_get (map (λ (x : ImportDef). x.ty) is ++ others) n ≡ slice_get others (n - length is)
past_imports [] others n past = ap (slice_get others) (whole n)
  where
    whole : (k : ℕ) → k ≡ k - 0
    whole k = omega arith
past_imports (x ∷ is) others zero past = absurd (omega arith)
past_imports (x ∷ is) others (suc n) past = past_imports is others n (omega arith) ∙ ap (slice_get others) (less n (length is))
  where
    less : (k l : ℕ) → k - l ≡ suc k - suc l
    less k l = omega arith

found_function : (fs : List FuncDef) (n : ℕ) (f : FuncDef) → slice_get fs n ≡ Some f → Some f.ty ≡ slice_get (map (λ (x : FuncDef). x.ty) fs) n
found_function [] n f e = absurd cc
found_function (x ∷ fs) zero f e = cc
found_function (x ∷ fs) (suc n) f e = found_function fs n f e

missing_function : (fs : List FuncDef) (n : ℕ) → slice_get fs n ≡ None → None ≡ slice_get (map (λ (x : FuncDef). x.ty) fs) n
missing_function [] n e = refl
missing_function (x ∷ fs) zero e = absurd cc
missing_function (x ∷ fs) (suc n) e = missing_function fs n e

pub among_functions : (is : List ImportDef) (fs : List FuncDef) (n : ℕ) (f : FuncDef) → length is ≤ n → slice_get fs (n - length is) ≡ Some f → Some f.ty ≡ slice_get (map (λ (x : ImportDef). x.ty) is ++ map (λ (x : FuncDef). x.ty) fs) n
among_functions is fs n f past e = found_function fs (n - length is) f e ∙ sym (past_imports is (map (λ (x : FuncDef). x.ty) fs) n past)

pub no_function : (is : List ImportDef) (fs : List FuncDef) (n : ℕ) → length is ≤ n → slice_get fs (n - length is) ≡ None → None ≡ slice_get (map (λ (x : ImportDef). x.ty) is ++ map (λ (x : FuncDef). x.ty) fs) n
no_function is fs n past e = missing_function fs (n - length is) e ∙ sym (past_imports is (map (λ (x : FuncDef). x.ty) fs) n past)
