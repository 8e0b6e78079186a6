-- What stands under binders, where names and closed types answer them.
use Rattle.std.proofs.Common.{◌≡◌, ℕ, zero, suc, ◌+◌, List, [], ◌∷◌, Option, Some, None, length, ◌-◌, refl, sym, ap, ◌∙◌, subst, arith}
use Rattle.std.specs.Prelude.{IsTrue, slice_get, slice_set}
use Rattle.rw_types.specs.declared.types.Mem.{Mem}
use Rattle.rw_types.specs.declared.types.Qual.{Qual}
use Rattle.rw_types.specs.declared.types.Qual.TheVariants.{Unr, Lin}
use Rattle.rw_types.specs.declared.types.Ty.{Ty, Of, Var, Rec', end_of-Ty, more_of-Ty}
use Rattle.rich_types.specs.declared.variables.VariableKind.{VariableKind}
use Rattle.rich_types.specs.Scopes.{Scope, memory_of}
use Rattle.rich_types.specs.Sizes.{variable_qual}
use Rattle.rich_types.specs.Walks.{outside}
use Rattle.rich_types.specs.Instances.{Substitution, substituting, raise, found_or}
use Rattle.rich_types_laws.proofs.Composed.{look_out}
use Rattle.rich_types_laws.proofs.Unchanged.{raised_by_nothing}
use Rattle.rich_rules.specs.Forms.{is_unr, is_unr_type}
use Rattle.rich_soundness_values.specs.Heaps.{IsUnr, Names, NamesAnswer, TypeAnswers, TypesAnswer, Answer, at, all_at}

pub unr_is : (q : Qual) → IsTrue (is_unr q) → q ≡ Unr
unr_is Unr e = refl
unr_is Lin e = cc

-- what answers a number
name_at : (ns : List ℕ) (ms : List Mem) (n : ℕ) (m : Mem) → NamesAnswer ns ms → slice_get ms n ≡ Some m → (x : ℕ) × (slice_get ns n ≡ Some x) × Names m x
name_at [] [] n m a e = cc
name_at [] (y ∷ ms) n m a e = absurd a
name_at (x ∷ ns) [] n m a e = absurd a
name_at (x ∷ ns) (y ∷ ms) zero m a e = let s : y ≡ m = cc in (x, refl, subst (λ (o : Mem). Names o x) s a.0)
name_at (x ∷ ns) (y ∷ ms) (suc n) m a e = name_at ns ms n m a.1 e

type_at : (ts : List Ty) (ks : List VariableKind) (n : ℕ) (k : VariableKind) → TypesAnswer ts ks → slice_get ks n ≡ Some k → (t : Ty) × (slice_get ts n ≡ Some t) × TypeAnswers t k
type_at [] [] n k a e = cc
type_at [] (y ∷ ks) n k a e = absurd a
type_at (t ∷ ts) [] n k a e = absurd a
type_at (t ∷ ts) (y ∷ ks) zero k a e = let s : y ≡ k = cc in (t, refl, subst (λ (o : VariableKind). TypeAnswers t o) s a.0)
type_at (t ∷ ts) (y ∷ ks) (suc n) k a e = type_at ts ks n k a.1 e

-- the name that stands for a location
abbrev pub named : Substitution → ℕ → ℕ
named g n = (substituting g).location outside n

pub names_at : (g : Substitution) (c : Scope) (n : ℕ) (m : Mem) → Answer g c → memory_of c n ≡ Some m → Names m (named g n)
names_at g c n m a e = let r = name_at g.locations c.locations n m a.locations e in
    let s : named g n ≡ r.0 + 0 = look_out g.locations (λ l. l + 0) (λ k. k) 0 n n (omega arith) ∙ ap (λ (o : Option ℕ). found_or o (λ l. l + 0) (n - length g.locations)) r.1 in
    subst (λ (k : ℕ). Names m k) (sym (s ∙ (let z : r.0 + 0 ≡ r.0 = omega arith in z))) r.2

-- what is `unr` under binders is so where closed types stand for them
pub unr_at : (g : Substitution) (c : Scope) (t : Ty) → Answer g c → IsTrue (is_unr_type c t) → IsUnr (at g t)
unr_at g c (Of q p) a u = unr_is q u
unr_at g c (Rec' q s m (more_of-Ty t end_of-Ty)) a u = unr_is q u
unr_at g c (Var n) a u = go (slice_get c.variables n) refl u
  where
    go : (o : Option VariableKind) → slice_get c.variables n ≡ o → IsTrue (is_unr (variable_qual o)) → IsUnr (at g (Var n))
    go None e f = cc
    go (Some k) e f = let r = type_at g.variables c.variables n k a.variables e in
        let s : at g (Var n) ≡ raise outside r.0 = look_out g.variables (λ t. raise outside t) (λ m. Var m) 0 n n (omega arith) ∙ ap (λ (o : Option Ty). found_or o (λ t. raise outside t) (Var (n - length g.variables))) r.1 in
        subst IsUnr (sym (s ∙ raised_by_nothing r.0)) (r.2.unr (unr_is k.qual f))

-- as many types as there were
pub at_length : (g : Substitution) (ts : List Ty) → length (all_at g ts) ≡ length ts
at_length g [] = refl
at_length g (t ∷ ts) = ap suc (at_length g ts)

pub set_length : {A : Type 0} (xs : List A) (n : ℕ) (x : A) → length (slice_set xs n x) ≡ length xs
set_length [] n x = refl
set_length (y ∷ xs) zero x = refl
set_length (y ∷ xs) (suc n) x = ap suc (set_length xs n x)
