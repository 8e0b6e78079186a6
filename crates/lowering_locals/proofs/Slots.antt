-- Locals that fit their slots: one that is set, those that a signature changes, and those that are raised past a binder.
use Rattle.std.proofs.Common.{◌≡◌, ◌∙◌, ℕ, zero, suc, ◌≤◌, min, Bool, true, false, List, [], ◌∷◌, ◌++◌, Option, Some, None, length, map, replicate, refl, ap, sym, cond, arith, ◌⊎◌, inl, inr}
use Rattle.std.specs.Prelude.{IsTrue, slice_get, slice_set}
use Rattle.std.specs.Option.{IsSomeAnd}
use Rattle.std.proofs.lemmas.Bool.{le-leb, leb-true}
use Rattle.rw_types.specs.declared.instrs.LocalTy.{LocalTy}
use Rattle.rw_types.specs.declared.types.Binder.{Binder}
use Rattle.rw_types.specs.declared.types.Ty.{Of, Rec', Ty, Var, end_of-Ty, more_of-Ty}
use Rattle.rich_types.specs.declared.variables.VariableKind.{VariableKind}
use Rattle.rich_types.specs.Scopes.{Scope, variable_of, within}
use Rattle.rich_types.specs.Sizes.{size_under, variable_size}
use Rattle.rich_types.specs.WellFormed.{IsWellFormed, most_words}
use Rattle.rich_types.specs.Instances.{raise}
use Rattle.rich_binder_laws.proofs.Raised.{raised_kept}
use Rattle.rich_rules.specs.Blocks.{changed_by, first_too_large, fits_in, local_types}
use Rattle.rich_rules.specs.Forms.{fits}
use Rattle.rich_rules.specs.Raised.{below_one, raise_all}
use Rattle.rich_rules.specs.Takers.{unr_unit}
use Rattle.rich_rules_inversions.specs.Bodies.{FitsSlot}
use Rattle.rich_rules_formed.specs.Formed.{AreFormed}
use Rattle.rich_rules_formed.proofs.Lists.{found}
use Rattle.lowering_locals.specs.Fitting.{AreFitting}

-- a well-formed type has at most 10,000 words
few_words : (o : Option VariableKind) → IsSomeAnd o (λ (k : VariableKind). k.size ≤ most_words) → variable_size o ≤ most_words
few_words (Some k) h = h
few_words None h = absurd h

pub few : (c : Scope) (t : Ty) → IsWellFormed c t → size_under c t ≤ most_words
few c (Of q p) w = w.0
few c (Var n) w = few_words (variable_of c n) w
few c (Rec' q s a (more_of-Ty t end_of-Ty)) w = w.0

-- what is tested is so
fitting : (c : Scope) (k : ℕ) (t : Ty) → IsWellFormed c t → IsTrue (fits c k t) → size_under c t ≤ k
fitting c k t w e = omega (arith, few c t w, leb-true (min (size_under c t) 10001) k e)

-- what stands in a list after one of it is set
set_found : {A : Type 0} (xs : List A) (m n : ℕ) (x y : A) → slice_get (slice_set xs m x) n ≡ Some y → (slice_get xs n ≡ Some y) ⊎ ((n ≡ m) × (y ≡ x))
set_found [] m n x y e = inl e
set_found (z ∷ xs) zero zero x y e = let same : y ≡ x = cc in inr (refl, same)
set_found (z ∷ xs) zero (suc n) x y e = inl e
set_found (z ∷ xs) (suc m) zero x y e = inl e
set_found (z ∷ xs) (suc m) (suc n) x y e = elim (set_found xs m n x y e) [ inl g ↦ inl g | inr g ↦ inr (ap suc g.0, g.1) ]

set_length : {A : Type 0} (xs : List A) (m : ℕ) (x : A) → length (slice_set xs m x) ≡ length xs
set_length [] m x = refl
set_length (z ∷ xs) zero x = refl
set_length (z ∷ xs) (suc m) x = ap suc (set_length xs m x)

module _ (c : Scope) (slots : List ℕ) where
  of_slot : (o : Option ℕ) (k : ℕ) (t : Ty) → o ≡ Some k → IsWellFormed c t → FitsSlot c o t → size_under c t ≤ k
  of_slot None k t e w h = cc
  of_slot (Some m) k t e w h = let same : m ≡ k = cc in omega (arith, fitting c m t w h, same)

  pub set_fits : (locals : List Ty) (m : ℕ) (t : Ty) → AreFitting c slots locals → IsWellFormed c t → FitsSlot c (slice_get slots m) t → AreFitting c slots (slice_set locals m t)
  set_fits locals m t h w g = record {
    same_length = set_length locals m t ∙ h.same_length;
    fit = λ n u k e s. elim (set_found locals m n t u e) [
      | inl x ↦ h.fit n u k x s
      | inr x ↦ (let there : slice_get slots m ≡ Some k = sym (ap (λ (i : ℕ). slice_get slots i) x.0) ∙ s in
          omega (arith, of_slot (slice_get slots m) k t there w g, ap (λ (v : Ty). size_under c v) x.1))
    ];
  }

  -- a unit fits every slot
  unit_slot : (o : Option ℕ) → FitsSlot c o unr_unit
  unit_slot None = tt
  unit_slot (Some k) = le-leb 0 k (omega arith)

  pub taken_fits : (locals : List Ty) (m : ℕ) → AreFitting c slots locals → AreFitting c slots (slice_set locals m unr_unit)
  taken_fits locals m h = record {
    same_length = set_length locals m unr_unit ∙ h.same_length;
    fit = λ n u k e s. elim (set_found locals m n unr_unit u e) [ inl x ↦ h.fit n u k x s | inr x ↦ omega (arith, ap (λ (v : Ty). size_under c v) x.1) ];
  }

  tested : (o : Option ℕ) (t : Ty) → fits_in c o t ≡ true → FitsSlot c o t
  tested None t e = tt
  tested (Some k) t e = e

  pub changed_fit : (ls : List LocalTy) (locals : List Ty) → AreFormed c (local_types ls) → first_too_large c slots ls ≡ None → AreFitting c slots locals → AreFitting c slots (changed_by ls locals)
  changed_fit [] locals w e h = h
  changed_fit (l ∷ ls) locals w e h = by_test (fits_in c (slice_get slots l.index) l.ty) refl e (λ f g. changed_fit ls (slice_set locals l.index l.ty) w.2 g (set_fits locals l.index l.ty h w.0 (tested (slice_get slots l.index) l.ty f)))
    where
      by_test : (b : Bool) → fits_in c (slice_get slots l.index) l.ty ≡ b → cond b (first_too_large c slots ls) (Some l.ty) ≡ None →
          (fits_in c (slice_get slots l.index) l.ty ≡ true → first_too_large c slots ls ≡ None → AreFitting c slots (changed_by ls (slice_set locals l.index l.ty))) → AreFitting c slots (changed_by ls (slice_set locals l.index l.ty))
      by_test true f g rest = rest f g
      by_test false f g rest = cc

module _ (c : Scope) (b : Binder) where
  raised_found : (ts : List Ty) (n : ℕ) (t : Ty) → slice_get (raise_all (below_one b) ts) n ≡ Some t → (u : Ty) × (slice_get ts n ≡ Some u) × (t ≡ raise (below_one b) u)
  raised_found [] n t e = cc
  raised_found (x ∷ ts) zero t e = let same : t ≡ raise (below_one b) x = cc in (x, refl, same)
  raised_found (x ∷ ts) (suc n) t e = raised_found ts n t e

  raised_length : (ts : List Ty) → length (raise_all (below_one b) ts) ≡ length ts
  raised_length [] = refl
  raised_length (x ∷ ts) = ap suc (raised_length ts)

  pub raised_fit : (slots : List ℕ) (locals : List Ty) → AreFormed c locals → AreFitting c slots locals → AreFitting (within (b ∷ []) c) slots (raise_all (below_one b) locals)
  raised_fit slots locals w h = record {
    same_length = raised_length locals ∙ h.same_length;
    fit = λ n t k e s. (
        let x = raised_found locals n t e in
        let formed = found c locals n x.0 x.1 w in
        omega (arith, h.fit n x.0 k x.1 s, (raised_kept c b x.0 formed).2, ap (λ (v : Ty). size_under (within (b ∷ []) c) v) x.2));
  }

-- the locals at the start of a function's body
parameters_fit : (c : Scope) (ts : List Ty) (sizes : List ℕ) (n k : ℕ) (t : Ty) → slice_get (ts ++ replicate (length sizes) unr_unit) n ≡ Some t → slice_get (map (size_under c) ts ++ sizes) n ≡ Some k → size_under c t ≤ k
parameters_fit c [] [] n k t e s = cc
parameters_fit c [] (m ∷ sizes) zero k t e s = let same : t ≡ unr_unit = cc in omega (arith, ap (λ (v : Ty). size_under c v) same)
parameters_fit c [] (m ∷ sizes) (suc n) k t e s = parameters_fit c [] sizes n k t e s
parameters_fit c (x ∷ ts) sizes zero k t e s =
    let same : t ≡ x = cc in
    let slot : size_under c x ≡ k = cc in
    omega (arith, ap (λ (v : Ty). size_under c v) same, slot)
parameters_fit c (x ∷ ts) sizes (suc n) k t e s = parameters_fit c ts sizes n k t e s

parameters_length : (c : Scope) (ts : List Ty) (sizes : List ℕ) → length (ts ++ replicate (length sizes) unr_unit) ≡ length (map (size_under c) ts ++ sizes)
parameters_length c [] [] = refl
parameters_length c [] (m ∷ sizes) = ap suc (parameters_length c [] sizes)
parameters_length c (x ∷ ts) sizes = ap suc (parameters_length c ts sizes)

pub starts_fit : (c : Scope) (ts : List Ty) (sizes : List ℕ) → AreFitting c (map (size_under c) ts ++ sizes) (ts ++ replicate (length sizes) unr_unit)
starts_fit c ts sizes = record { same_length = parameters_length c ts sizes; fit = λ n t k e s. parameters_fit c ts sizes n k t e s }
