-- A well-formed type raised past a binder is well formed under it.
use Rattle.std.proofs.Common.{◌≡◌, ◌≤◌, ◌<◌, ◌∙◌, ℕ, zero, suc, ◌+◌, List, [], ◌∷◌, ◌++◌, length, Some, refl, ap, sym, arith, inl, inr}
use Rattle.std.specs.Prelude.{slice_get}
use Rattle.std.specs.Option.{IsSomeAnd}
use Rattle.std.proofs.Math.Path.{subst⁻¹}
use Rattle.rw_types.specs.declared.types.Binder.{Binder}
use Rattle.rw_types.specs.declared.types.Binder.TheVariants.{Loc, Kind}
use Rattle.rw_types.specs.declared.types.Ty.{Var}
use Rattle.rich_types.specs.declared.depth.Depth.{Depth}
use Rattle.rich_types.specs.declared.variables.VariableKind.{VariableKind}
use Rattle.rich_types.specs.Scopes.{Scope, no_scope, within, with_location, with_variable, scope_of, variable_of}
use Rattle.rich_types.specs.Sizes.{qual_under, size_under, variable_qual, variable_size}
use Rattle.rich_types.specs.WellFormed.{most_words}
use Rattle.rich_types.specs.Walks.{below_location, below_variable, outside}
use Rattle.rich_types.specs.Instances.{raise_number, raising, raise}
use Rattle.rich_types_laws.proofs.Answered.{onto}
use Rattle.rich_types_laws.proofs.Composed.{place, raise_in, raise_out, append_past}
use Rattle.rich_types_laws.proofs.Carried.{Keeps, Carries, carried}
use Rattle.rich_rules.specs.Raised.{below_one}
use Rattle.rich_binder_laws.specs.Laws.{RaisedKept}

-- a number further out, under one binder more
raised_deeper : (d k n : ℕ) → raise_number (suc d) k (suc n) ≡ suc (raise_number d k n)
raised_deeper d k n = elim (place d n) [
  | inl lt ↦ (let under : suc n < suc d = omega arith in raise_in (suc d) k (suc n) under ∙ ap suc (sym (raise_in d k n lt)))
  | inr o ↦ (let beyond : suc d ≤ suc n = omega (arith, o.is) in let out : d ≤ n = omega (arith, o.is) in let e : suc n + k ≡ suc (n + k) = omega arith in
      raise_out (suc d) k (suc n) beyond ∙ e ∙ ap suc (sym (raise_out d k n out)))
]

-- what a number stands for, where more stands between what is within and what is around
found_raised : {A : Type 0} (inner more base : List A) (n k : ℕ) → k ≡ length more → slice_get (inner ++ (more ++ base)) (raise_number (length inner) k n) ≡ slice_get (inner ++ base) n
found_raised [] more base n k e =
    let out : 0 ≤ n = omega arith in let past : n + k ≡ length more + n = omega (arith, e) in
    ap (λ (i : ℕ). slice_get (more ++ base) i) (raise_out 0 k n out ∙ past) ∙ append_past more base n
found_raised (x ∷ inner) more base zero k e = let under : 0 < suc (length inner) = omega arith in ap (λ (i : ℕ). slice_get (x ∷ (inner ++ (more ++ base))) i) (raise_in (suc (length inner)) k 0 under)
found_raised (x ∷ inner) more base (suc n) k e = ap (λ (i : ℕ). slice_get (x ∷ (inner ++ (more ++ base))) i) (raised_deeper (length inner) k n) ∙ found_raised inner more base n k e

-- a binder brings in what it counts
within_one : (b : Binder) (c : Scope) → within (b ∷ []) c ≡ onto (scope_of (b ∷ [])) c
within_one (Loc m) c = refl
within_one (Kind q s) c = refl

locations_counted : (b : Binder) → (below_one b).locations ≡ length (scope_of (b ∷ [])).locations
unfolding below_location below_variable
locations_counted (Loc m) = refl
locations_counted (Kind q s) = refl

variables_counted : (b : Binder) → (below_one b).variables ≡ length (scope_of (b ∷ [])).variables
unfolding below_location below_variable
variables_counted (Loc m) = refl
variables_counted (Kind q s) = refl

-- within the same binders, a scope and that scope under one binder more
record RaisedAt (b : Binder) (base : Scope) (d : Depth) (c e : Scope) : Type 0 where
  pub inner : Scope
  pub locations : d.locations ≡ length inner.locations
  pub variables : d.variables ≡ length inner.variables
  pub from : c ≡ onto inner base
  pub to : e ≡ onto inner (onto (scope_of (b ∷ [])) base)

-- a variable that stands for what it is bound to
kept_variable : (e : Scope) (n : ℕ) (k : VariableKind) → variable_of e n ≡ Some k → k.size ≤ most_words → Keeps e (Var n) k.qual k.size
kept_variable e n k is few = record {
  form = subst⁻¹ (λ o. IsSomeAnd o (λ (v : VariableKind). v.size ≤ most_words)) is few;
  qual = ap variable_qual is;
  size = ap variable_size is;
}

raising_carries : (b : Binder) (base : Scope) → Carries (raising (below_one b)) (RaisedAt b base)
unfolding below_location below_variable
raising_carries b base = record {
  location = λ d c e at n m is.
      ap (λ (s : Scope). slice_get s.locations (raise_number d.locations (below_one b).locations n)) at.to
      ∙ ap (λ (i : ℕ). slice_get (at.inner.locations ++ ((scope_of (b ∷ [])).locations ++ base.locations)) (raise_number i (below_one b).locations n)) at.locations
      ∙ found_raised at.inner.locations (scope_of (b ∷ [])).locations base.locations n (below_one b).locations (locations_counted b)
      ∙ sym (ap (λ (s : Scope). slice_get s.locations n) at.from) ∙ is;
  variable = λ d c e at n k is few. kept_variable e (raise_number d.variables (below_one b).variables n) k (
      ap (λ (s : Scope). slice_get s.variables (raise_number d.variables (below_one b).variables n)) at.to
      ∙ ap (λ (i : ℕ). slice_get (at.inner.variables ++ ((scope_of (b ∷ [])).variables ++ base.variables)) (raise_number i (below_one b).variables n)) at.variables
      ∙ found_raised at.inner.variables (scope_of (b ∷ [])).variables base.variables n (below_one b).variables (variables_counted b)
      ∙ sym (ap (λ (s : Scope). slice_get s.variables n) at.from) ∙ is) few;
  deeper_location = λ d c e at m. record {
    inner = with_location m at.inner;
    locations = omega (arith, at.locations);
    variables = at.variables;
    from = ap (with_location m) at.from;
    to = ap (with_location m) at.to;
  };
  deeper_variable = λ d c e at q s. record {
    inner = with_variable q s at.inner;
    locations = at.locations;
    variables = omega (arith, at.variables);
    from = ap (with_variable q s) at.from;
    to = ap (with_variable q s) at.to;
  };
}

pub raised_kept : RaisedKept
raised_kept c b t h =
    let r = carried (raising_carries b c) outside c (onto (scope_of (b ∷ [])) c) (record { inner = no_scope; locations = refl; variables = refl; from = refl; to = refl }) t h in
    let k = subst⁻¹ (λ e. Keeps e (raise (below_one b) t) (qual_under c t) (size_under c t)) (within_one b c) r in
    (k.form, k.qual, k.size)
