-- The first type that is not well formed, in lists one behind the other.
use Rattle.std.proofs.Common.{◌≡◌, ◌∙◌, ◌++◌, List, [], ◌∷◌, Bool, true, false, Option, Some, None, refl, ap, sym, cond}
use Rattle.rw_types.specs.declared.types.Ty.{Ty}
use Rattle.rich_types.specs.Scopes.{Scope}
use Rattle.rich_rules.specs.Forms.{is_formed, first_ill_formed}
use Rattle.rich_rules.specs.Takers.{or_else}

module _ (c : Scope) where
  by_test : (b : Bool) (o p : Option Ty) (t : Ty) → cond b (or_else o p) (Some t) ≡ or_else (cond b o (Some t)) p
  by_test true o p t = refl
  by_test false o p t = refl

  appended : (xs ys : List Ty) → first_ill_formed c (xs ++ ys) ≡ or_else (first_ill_formed c xs) (first_ill_formed c ys)
  appended [] ys = refl
  appended (x ∷ xs) ys = ap (λ (o : Option Ty). cond (is_formed c x) o (Some x)) (appended xs ys) ∙ by_test (is_formed c x) (first_ill_formed c xs) (first_ill_formed c ys) x

  module _ (xs ys zs : List Ty) where
    all : first_ill_formed c (xs ++ ys ++ zs) ≡ or_else (or_else (first_ill_formed c xs) (first_ill_formed c ys)) (first_ill_formed c zs)
    all = appended (xs ++ ys) zs ∙ ap (λ (o : Option Ty). or_else o (first_ill_formed c zs)) (appended xs ys)

    pub in_first : (t : Ty) → Some t ≡ first_ill_formed c xs → Some t ≡ first_ill_formed c (xs ++ ys ++ zs)
    in_first t e = sym (all ∙ ap (λ (o : Option Ty). or_else (or_else o (first_ill_formed c ys)) (first_ill_formed c zs)) (sym e))

    pub in_second : (t : Ty) → None ≡ first_ill_formed c xs → Some t ≡ first_ill_formed c ys → Some t ≡ first_ill_formed c (xs ++ ys ++ zs)
    in_second t none e = sym (all ∙ ap (λ (o : Option Ty). or_else (or_else o (first_ill_formed c ys)) (first_ill_formed c zs)) (sym none) ∙ ap (λ (o : Option Ty). or_else o (first_ill_formed c zs)) (sym e))

    pub in_third : (o : Option Ty) → None ≡ first_ill_formed c xs → None ≡ first_ill_formed c ys → o ≡ first_ill_formed c zs → o ≡ first_ill_formed c (xs ++ ys ++ zs)
    in_third r none nor e = e ∙ sym (all ∙ ap (λ (o : Option Ty). or_else (or_else o (first_ill_formed c ys)) (first_ill_formed c zs)) (sym none) ∙ ap (λ (o : Option Ty). or_else o (first_ill_formed c zs)) (sym nor))
