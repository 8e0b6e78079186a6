-- Arguments looked at from the last one on.
use Rattle.std.proofs.Common.{◌≡◌, ◌<◌, ◌≤◌, ◌+◌, ◌-◌, ◌∙◌, ℕ, suc, List, [], ◌∷◌, ◌++◌, length, take, get_or, Some, refl, ap, arith}
use Rattle.std.specs.Prelude.{slice_get}
use Rattle.std.proofs.lemmas.List.{take_more}
use Rattle.rw_types.specs.declared.types.Arg.{Arg}
use Rattle.rw_types.specs.declared.types.Arg.TheVariants.{Loc, Given}
use Rattle.rw_types.specs.declared.types.Ty.{Ty}
use Rattle.rich_types.specs.Instances.{Substitution, substitution_of, substitution_within, no_substitution}

-- of the first arguments, those that are left, the same location is sought
pub record LocationLeft (args : List Arg) (n at further : ℕ) : Type 0 where
  pub same : slice_get (substitution_of args).locations n ≡ slice_get (substitution_of (take at args)).locations further
  pub passed : further + length (substitution_of args).locations ≡ n + length (substitution_of (take at args)).locations

-- and the same type
pub record TypeLeft (args : List Arg) (n at further : ℕ) : Type 0 where
  pub same : slice_get (substitution_of args).variables n ≡ slice_get (substitution_of (take at args)).variables further
  pub passed : further + length (substitution_of args).variables ≡ n + length (substitution_of (take at args)).variables

substitution-last : (args : List Arg) (a : Arg) (g : Substitution) → substitution_within (args ++ a ∷ []) g ≡ substitution_within (a ∷ []) (substitution_within args g)
substitution-last [] a g = refl
substitution-last (Loc l ∷ args) a g = substitution-last args a (record { locations = l ∷ g.locations; variables = g.variables })
substitution-last (Given t ∷ args) a g = substitution-last args a (record { locations = g.locations; variables = t ∷ g.variables })

module _ (args : List Arg) (at : ℕ) (some : 0 < at) (within : at ≤ length args) (d a : Arg) (is : get_or args (at - 1) d ≡ a) where
  substitution-take : substitution_of (take at args) ≡ substitution_within (a ∷ []) (substitution_of (take (at - 1) args))
  substitution-take =
      let lt : at - 1 < length args = omega arith in
      let e : at ≡ (at - 1) + 1 = omega arith in
      ap (λ (n : ℕ). substitution_of (take n args)) e ∙ ap substitution_of (take_more args (at - 1) d lt)
      ∙ ap (λ x. substitution_of (take (at - 1) args ++ x ∷ [])) is ∙ substitution-last (take (at - 1) args) a no_substitution

module _ (args : List Arg) (n at further : ℕ) (some : 0 < at) (within : at ≤ length args) (d : Arg) where
  pub location_here : (l : ℕ) → LocationLeft args n at further → get_or args (at - 1) d ≡ Loc l → further ≡ 0 → slice_get (substitution_of args).locations n ≡ Some l
  location_here l left is e = left.same ∙ ap (λ (k : ℕ). slice_get (substitution_of (take at args)).locations k) e ∙ ap (λ (g : Substitution). slice_get g.locations 0) (substitution-take args at some within d _ is)

  pub location_further : (l : ℕ) → LocationLeft args n at further → get_or args (at - 1) d ≡ Loc l → 0 < further → LocationLeft args n (at - 1) (further - 1)
  location_further l left is h =
      let e : further ≡ suc (further - 1) = omega arith in
      let g : substitution_of (take at args) ≡ substitution_within (Loc l ∷ []) (substitution_of (take (at - 1) args)) = substitution-take args at some within d _ is in
      let count : length (substitution_of (take at args)).locations ≡ suc (length (substitution_of (take (at - 1) args)).locations) = ap (λ (x : Substitution). length x.locations) g in
      record {
        same = left.same ∙ ap (λ (k : ℕ). slice_get (substitution_of (take at args)).locations k) e ∙ ap (λ (x : Substitution). slice_get x.locations (suc (further - 1))) g;
        passed = omega (arith, left.passed, count);
      }

  pub location_past : (t : Ty) → LocationLeft args n at further → get_or args (at - 1) d ≡ Given t → LocationLeft args n (at - 1) further
  location_past t left is =
      let g : substitution_of (take at args) ≡ substitution_within (Given t ∷ []) (substitution_of (take (at - 1) args)) = substitution-take args at some within d _ is in
      record {
        same = left.same ∙ ap (λ (x : Substitution). slice_get x.locations further) g;
        passed = left.passed ∙ ap (λ (x : Substitution). n + length x.locations) g;
      }

  pub type_here : (t : Ty) → TypeLeft args n at further → get_or args (at - 1) d ≡ Given t → further ≡ 0 → slice_get (substitution_of args).variables n ≡ Some t
  type_here t left is e = left.same ∙ ap (λ (k : ℕ). slice_get (substitution_of (take at args)).variables k) e ∙ ap (λ (g : Substitution). slice_get g.variables 0) (substitution-take args at some within d _ is)

  pub type_further : (t : Ty) → TypeLeft args n at further → get_or args (at - 1) d ≡ Given t → 0 < further → TypeLeft args n (at - 1) (further - 1)
  type_further t left is h =
      let e : further ≡ suc (further - 1) = omega arith in
      let g : substitution_of (take at args) ≡ substitution_within (Given t ∷ []) (substitution_of (take (at - 1) args)) = substitution-take args at some within d _ is in
      let count : length (substitution_of (take at args)).variables ≡ suc (length (substitution_of (take (at - 1) args)).variables) = ap (λ (x : Substitution). length x.variables) g in
      record {
        same = left.same ∙ ap (λ (k : ℕ). slice_get (substitution_of (take at args)).variables k) e ∙ ap (λ (x : Substitution). slice_get x.variables (suc (further - 1))) g;
        passed = omega (arith, left.passed, count);
      }

  pub type_past : (l : ℕ) → TypeLeft args n at further → get_or args (at - 1) d ≡ Loc l → TypeLeft args n (at - 1) further
  type_past l left is =
      let g : substitution_of (take at args) ≡ substitution_within (Loc l ∷ []) (substitution_of (take (at - 1) args)) = substitution-take args at some within d _ is in
      record {
        same = left.same ∙ ap (λ (x : Substitution). slice_get x.variables further) g;
        passed = left.passed ∙ ap (λ (x : Substitution). n + length x.variables) g;
      }
