-- What is left behind is `unr`, and types that do not differ are the same.
use Rattle.std.proofs.Common.{◌≡◌, ℕ, zero, suc, List, [], ◌∷◌, Bool, true, false, Option, Some, None, length, cond, refl, ap, ◌∙◌, arith}
use Rattle.std.specs.Prelude.{IsTrue, slice_get, ⊤}
use Rattle.rw_types.specs.declared.types.Ty.{Ty}
use Rattle.rich_types.specs.Scopes.{Scope}
use Rattle.rich_types.specs.Instances.{Substitution}
use Rattle.rich_rules.specs.Equality.{same}
use Rattle.rich_rules.specs.Forms.{is_unr_type}
use Rattle.rich_rules.specs.Points.{Label}
use Rattle.rich_rules.specs.Branches.{held_beneath}
use Rattle.rich_rules.specs.Takers.{Differ, or_else, difference, first_difference, last_difference, held, first_held, last_held}
use Rattle.rich_rules_laws.proofs.Compared.{sound}
use Rattle.rich_reduction.specs.Configurations.{Val}
use Rattle.rich_rights.specs.Rights.{Right, rights_to, count_all}
use Rattle.rich_soundness_values.specs.Heaps.{Heaps, Answer, AreUnr, all_at}
use Rattle.rich_soundness_values.specs.Values.{HaveTypes, no_types, more_types}
use Rattle.rich_soundness_values.proofs.Typed.{no_rights}
use Rattle.rich_soundness_points.specs.Points.{label_at, labels_at}
use Rattle.rich_soundness_rows.proofs.Closed.{unr_at}

pub neither : {A : Type 0} (x y : Option A) → or_else x y ≡ None → (x ≡ None) × (y ≡ None)
neither None y e = (refl, e)
neither (Some d) y e = cc

same_type : (t u : Ty) → difference t u ≡ None → t ≡ u
same_type t u e = by_test (same t u) refl e
  where
    by_test : (b : Bool) → same t u ≡ b → cond b None (Some (Differ t u)) ≡ None → t ≡ u
    by_test true f e = sound t u f
    by_test false f e = cc

-- lists of one length of which no types differ
pub first_same : (ts us : List Ty) → length ts ≡ length us → first_difference ts us ≡ None → ts ≡ us
first_same [] [] n e = refl
first_same [] (u ∷ us) n e = absurd (omega (arith, n))
first_same (t ∷ ts) [] n e = absurd (omega (arith, n))
first_same (t ∷ ts) (u ∷ us) n e =
    let x = neither (difference t u) (first_difference ts us) e in
    ap (λ (x : Ty). x ∷ ts) (same_type t u x.0) ∙ ap (λ (l : List Ty). u ∷ l) (first_same ts us (omega (arith, n)) x.1)

pub last_same : (ts us : List Ty) → length ts ≡ length us → last_difference ts us ≡ None → ts ≡ us
last_same [] [] n e = refl
last_same [] (u ∷ us) n e = absurd (omega (arith, n))
last_same (t ∷ ts) [] n e = absurd (omega (arith, n))
last_same (t ∷ ts) (u ∷ us) n e =
    let x = neither (last_difference ts us) (difference t u) e in
    ap (λ (x : Ty). x ∷ ts) (same_type t u x.1) ∙ ap (λ (l : List Ty). u ∷ l) (last_same ts us (omega (arith, n)) x.0)

is_free : (c : Scope) (t : Ty) → held c t ≡ None → IsTrue (is_unr_type c t)
is_free c t e = by_test (is_unr_type c t) refl e
  where
    by_test : (b : Bool) → is_unr_type c t ≡ b → cond b None (Some t) ≡ None → IsTrue (is_unr_type c t)
    by_test true f e = f
    by_test false f e = cc

-- the rests of so many labels, in closed types, are `unr`
abbrev pub RestsUnr : ℕ → List Label → Type 0
RestsUnr zero ls = ⊤
RestsUnr (suc k) [] = ⊤
RestsUnr (suc k) (l ∷ ls) = AreUnr l.rest × RestsUnr k ls

module _ (g : Substitution) (c : Scope) (answer : Answer g c) where
  pub first_unr : (ts : List Ty) → first_held c ts ≡ None → AreUnr (all_at g ts)
  first_unr [] e = tt
  first_unr (t ∷ ts) e = let x = neither (held c t) (first_held c ts) e in (unr_at g c t answer (is_free c t x.0), first_unr ts x.1)

  pub last_unr : (ts : List Ty) → last_held c ts ≡ None → AreUnr (all_at g ts)
  last_unr [] e = tt
  last_unr (t ∷ ts) e = let x = neither (last_held c ts) (held c t) e in (unr_at g c t answer (is_free c t x.1), last_unr ts x.0)

  pub rests_unr : (k : ℕ) (ls : List Label) → held_beneath c k ls ≡ None → RestsUnr k (labels_at g ls)
  rests_unr zero ls e = tt
  rests_unr (suc k) [] e = tt
  rests_unr (suc k) (l ∷ ls) e = let x = neither (last_held c l.rest) (held_beneath c k ls) e in (last_unr l.rest x.0, rests_unr k ls x.1)

pub label_found : (g : Substitution) (ls : List Label) (k : ℕ) (l : Label) → slice_get ls k ≡ Some l → slice_get (labels_at g ls) k ≡ Some (label_at g l)
label_found g [] k l e = cc
label_found g (x ∷ ls) zero l e = let s : x ≡ l = cc in ap (λ (y : Label). Some (label_at g y)) s
label_found g (x ∷ ls) (suc k) l e = label_found g ls k l e

pub labels_length : (g : Substitution) (ls : List Label) → length (labels_at g ls) ≡ length ls
labels_length g [] = refl
labels_length g (l ∷ ls) = ap suc (labels_length g ls)

-- values of such types have no rights
pub no_rights_in_all : {hs : Heaps} (r : Right) (n : ℕ) {vs : List Val} {ts : List Ty} → HaveTypes hs vs ts → AreUnr ts → count_all (rights_to r n) vs ≡ 0
no_rights_in_all r n no_types z = refl
no_rights_in_all r n (more_types h hv) z = omega (arith, no_rights r n h z.0, no_rights_in_all r n hv z.1)
