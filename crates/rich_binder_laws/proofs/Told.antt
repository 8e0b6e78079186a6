-- Arguments are told to answer binders exactly where they do: by induction on both.
use Rattle.std.proofs.Common.{◌≡◌, List, [], ◌∷◌, true, Option, Some, None, refl, ap}
use Rattle.std.proofs.Math.Path.{subst⁻¹}
use Rattle.std.proofs.lemmas.Bool.{and_parts, and_from, eqb-true, eq-eqb, false≢true}
use Rattle.rw_types.specs.declared.types.Arg.{Arg}
use Rattle.rw_types.specs.declared.types.Arg.TheVariants.{Loc as to_location, Given as to_type}
use Rattle.rw_types.specs.declared.types.Binder.{Binder}
use Rattle.rw_types.specs.declared.types.Binder.TheVariants.{Loc, Kind}
use Rattle.rw_types.specs.declared.types.Mem.{Mem}
use Rattle.rw_types.specs.declared.types.Qual.{Qual}
use Rattle.rw_types.specs.declared.types.Qual.TheVariants.{Unr, Lin}
use Rattle.rich_types.specs.Scopes.{Scope, memory_of}
use Rattle.rich_types.specs.Sizes.{qual_under, size_under}
use Rattle.rich_types.specs.WellFormed.{IsAtMost, AreParts}
use Rattle.rich_types_laws.specs.Laws.{AnswerAll}
use Rattle.rich_rules.specs.Calls.{answer_all, argument_types, is_of_memory}
use Rattle.rich_rules_laws.proofs.Compared.{memories, memories_refl}
use Rattle.rich_rules_laws.proofs.Formed.{has_qual-true, has_qual-from, all_formed-true, all_formed-from}
use Rattle.rich_binder_laws.specs.Laws.{ArgumentsTold}

memory_told : (o : Option Mem) (m : Mem) → is_of_memory o m ≡ true → o ≡ Some m
memory_told (Some n) m e = ap (λ (x : Mem). Some x) (memories n m e)
memory_told None m e = absurd (false≢true e)

memory_tells : (o : Option Mem) (m : Mem) → o ≡ Some m → is_of_memory o m ≡ true
memory_tells o m e = subst⁻¹ (λ x. is_of_memory x m ≡ true) e (memories_refl m)

below_lin : (q : Qual) → IsAtMost q Lin
below_lin Unr = tt
below_lin Lin = tt

module _ (c : Scope) where
  told : (bs : List Binder) (args : List Arg) → answer_all c bs args ≡ true → AreParts c Lin (argument_types args) → AnswerAll c args bs
  told [] [] e w = tt
  told (Loc m ∷ bs) (to_location l ∷ args) e w = let x = and_parts _ _ e in (memory_told (memory_of c l) m x.0, told bs args x.1 w)
  told (Kind q s ∷ bs) (to_type t ∷ args) e w =
      let x = and_parts _ _ e in let y = and_parts _ _ x.0 in
      ((w.0, (has_qual-true c q t y.0, eqb-true (size_under c t) s y.1)), told bs args x.1 w.2)
  told [] (a ∷ args) e w = absurd (false≢true e)
  told (Loc m ∷ bs) [] e w = absurd (false≢true e)
  told (Kind q s ∷ bs) [] e w = absurd (false≢true e)
  told (Loc m ∷ bs) (to_type t ∷ args) e w = absurd (false≢true e)
  told (Kind q s ∷ bs) (to_location l ∷ args) e w = absurd (false≢true e)

  tells : (bs : List Binder) (args : List Arg) → AnswerAll c args bs → (answer_all c bs args ≡ true) × AreParts c Lin (argument_types args)
  tells [] [] a = (refl, tt)
  tells (Loc m ∷ bs) (to_location l ∷ args) a = let r = tells bs args a.1 in (and_from _ _ (memory_tells (memory_of c l) m a.0) r.0, r.1)
  tells (Kind q s ∷ bs) (to_type t ∷ args) a =
      let r = tells bs args a.1 in
      (and_from _ _ (and_from _ _ (has_qual-from c q t a.0.1.0) (eq-eqb (size_under c t) s a.0.1.1)) r.0, (a.0.0, below_lin (qual_under c t), r.1))
  tells [] (a' ∷ args) a = absurd a
  tells (b ∷ bs) [] a = absurd a
  tells (Loc m ∷ bs) (to_type t ∷ args) a = absurd a.0
  tells (Kind q s ∷ bs) (to_location l ∷ args) a = absurd a.0

pub arguments_told : ArgumentsTold
arguments_told c bs args = (λ x. told c bs args x.0 (all_formed-true c (argument_types args) x.1), λ a. (let r = tells c bs args a in (r.0, all_formed-from c (argument_types args) r.1)))
