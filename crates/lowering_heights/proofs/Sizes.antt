-- The words of lists of types: joined, turned round, parted, and raised past a binder.
use Rattle.std.proofs.Common.{◌≡◌, ℕ, zero, suc, ◌+◌, List, [], ◌∷◌, ◌++◌, take, drop, reverse, refl, ap, arith}
use Rattle.std.proofs.lemmas.List.{reverse-append}
use Rattle.rw_types.specs.declared.types.Binder.{Binder}
use Rattle.rw_types.specs.declared.types.Ty.{Ty}
use Rattle.rich_types.specs.Scopes.{Scope, within}
use Rattle.rich_types.specs.Sizes.{list_size}
use Rattle.rich_binder_laws.proofs.Raised.{raised_kept}
use Rattle.rich_rules.specs.Points.{Label}
use Rattle.rich_rules.specs.Raised.{below_one, raise_all, raise_labels}
use Rattle.rich_rules.specs.Table.{rest_size}
use Rattle.rich_rules_formed.specs.Formed.{AreFormed, AreFormedLabels}

module _ (c : Scope) where
  pub size-append : (xs ys : List Ty) → list_size c (xs ++ ys) ≡ list_size c xs + list_size c ys
  size-append [] ys = omega arith
  size-append (x ∷ xs) ys = omega (arith, size-append xs ys)

  pub size-reverse : (xs : List Ty) → list_size c (reverse xs) ≡ list_size c xs
  size-reverse [] = refl
  size-reverse (x ∷ xs) =
      let turned = ap (λ (l : List Ty). list_size c l) (reverse-append (x ∷ []) xs) in
      omega (arith, turned, size-append (reverse xs) (x ∷ []), size-reverse xs)

  pub size-parted : (n : ℕ) (xs : List Ty) → list_size c (take n xs) + list_size c (drop n xs) ≡ list_size c xs
  size-parted zero xs = omega arith
  size-parted (suc n) [] = refl
  size-parted (suc n) (x ∷ xs) = omega (arith, size-parted n xs)

module _ (c : Scope) (b : Binder) where
  pub size-raised : (ts : List Ty) → AreFormed c ts → list_size (within (b ∷ []) c) (raise_all (below_one b) ts) ≡ list_size c ts
  size-raised [] w = refl
  size-raised (t ∷ ts) w = omega (arith, (raised_kept c b t w.0).2, size-raised ts w.2)

  pub rest-raised : (ls : List Label) → AreFormedLabels c ls → rest_size (within (b ∷ []) c) (raise_labels (below_one b) ls) ≡ rest_size c ls
  rest-raised [] w = refl
  rest-raised (l ∷ ls) w = omega (arith, size-raised l.rest w.0.rest, rest-raised ls w.1)
