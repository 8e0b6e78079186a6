-- Arguments answer binders one by one.
use Rattle.std.proofs.Common.{◌≡◌, ◌∙◌, suc, List, [], ◌∷◌, Bool, true, false, refl, ap, sym, length}
use Rattle.std.specs.Prelude.{◌&&◌, ◌==◌}
use Rattle.rw_types.specs.declared.types.Arg.{Arg}
use Rattle.rw_types.specs.declared.types.Arg.TheVariants.{Loc as to_location, Given as to_type}
use Rattle.rw_types.specs.declared.types.Binder.{Binder}
use Rattle.rw_types.specs.declared.types.Binder.TheVariants.{Loc, Kind}
use Rattle.rich_types.specs.Scopes.{Scope, memory_of}
use Rattle.rich_types.specs.Sizes.{size_under}
use Rattle.rich_rules.specs.Calls.{answer_all, is_of_memory}
use Rattle.rich_rules.specs.Forms.{has_qual}

and_alone : (b r : Bool) → (b && r) ≡ ((b && true) && r)
and_alone true r = refl
and_alone false r = refl

pub one_and_rest : (c : Scope) (b : Binder) (a : Arg) (bs : List Binder) (args : List Arg) → answer_all c (b ∷ bs) (a ∷ args) ≡ (answer_all c (b ∷ []) (a ∷ []) && answer_all c bs args)
one_and_rest c (Loc m) (to_location l) bs args = and_alone (is_of_memory (memory_of c l) m) (answer_all c bs args)
one_and_rest c (Loc m) (to_type t) bs args = refl
one_and_rest c (Kind q s) (to_location l) bs args = refl
one_and_rest c (Kind q s) (to_type t) bs args = and_alone (has_qual c q t && (size_under c t == s)) (answer_all c bs args)

none_after : (b : Bool) → (b && false) ≡ false
none_after true = refl
none_after false = refl

pub unequal : (c : Scope) (bs : List Binder) (args : List Arg) → (length bs ≡ length args → ⊥) → false ≡ answer_all c bs args
unequal c [] [] differ = absurd (differ refl)
unequal c [] (a ∷ args) differ = refl
unequal c (Loc m ∷ bs) [] differ = refl
unequal c (Kind q s ∷ bs) [] differ = refl
unequal c (Loc m ∷ bs) (to_location l ∷ args) differ = sym (ap (λ (r : Bool). is_of_memory (memory_of c l) m && r) (sym (unequal c bs args (λ e. differ (ap suc e)))) ∙ none_after (is_of_memory (memory_of c l) m))
unequal c (Loc m ∷ bs) (to_type t ∷ args) differ = refl
unequal c (Kind q s ∷ bs) (to_location l ∷ args) differ = refl
unequal c (Kind q s ∷ bs) (to_type t ∷ args) differ = sym (ap (λ (r : Bool). (has_qual c q t && (size_under c t == s)) && r) (sym (unequal c bs args (λ e. differ (ap suc e)))) ∙ none_after (has_qual c q t && (size_under c t == s)))
