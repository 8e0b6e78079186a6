-- What the rests of labels hold, where more binders stand around.
use Rattle.std.proofs.Common.{◌≡◌, ◌<◌, ◌∙◌, ◌++◌, ◌-◌, ℕ, zero, suc, List, [], ◌∷◌, Option, Some, None, reverse, refl, ap, sym, arith}
use Rattle.std.proofs.lemmas.List.{reverse-append}
use Rattle.rw_types.specs.declared.types.Pre.{Pre}
use Rattle.rw_types.specs.declared.types.Qual.{Qual}
use Rattle.rw_types.specs.declared.types.Ty.{Ty, Of}
use Rattle.rw_types.specs.declared.types.Ty.TheVariants.{Rec}
use Rattle.rich_types.proofs.Shapes.{walk-Rec}
use Rattle.rich_types.specs.declared.depth.Depth.{Depth}
use Rattle.rich_types.specs.Instances.{raising, raise}
use Rattle.rich_types.specs.Scopes.{Scope}
use Rattle.rich_types.specs.Walks.{outside}
use Rattle.rich_rules.specs.Branches.{held_beneath}
use Rattle.rich_rules.specs.Forms.{is_unr_type}
use Rattle.rich_rules.specs.Points.{Label}
use Rattle.rich_rules.specs.Raised.{raise_all}
use Rattle.rich_rules.specs.Takers.{first_held, held, last_held, or_else}
use Rattle.rw_operand_stack.specs.declared.operand.Operand.{Operand}
use Rattle.rw_operand_stack.specs.Operands.{ty_of, types_of}
use Rattle.rw_scopes.proofs.Binders.{raise_append}

-- a type that is no variable keeps its qualifier
pub unr_form : (c : Scope) (by : Depth) (q : Qual) (p : Pre) (t : Ty) → t ≡ Of q p → is_unr_type c t ≡ is_unr_type c (raise by t)
unr_form c by q p t e = ap (is_unr_type c) e ∙ sym (ap (λ (u : Ty). is_unr_type c (raise by u)) e)

pub unr_recursive : (c : Scope) (by : Depth) (q : Qual) (s : ℕ) (body t : Ty) → t ≡ Rec q s body → is_unr_type c t ≡ is_unr_type c (raise by t)
unr_recursive c by q s body t e = ap (is_unr_type c) e ∙ sym (ap (λ (u : Ty). is_unr_type c (raise by u)) e ∙ ap (is_unr_type c) (walk-Rec (raising by) outside q s body))

or_none : (o : Option Ty) → or_else o None ≡ o
or_none (Some t) = refl
or_none None = refl

or_both : (o p q : Option Ty) → or_else (or_else o p) q ≡ or_else o (or_else p q)
or_both (Some t) p q = refl
or_both None p q = refl

last_more : (c : Scope) (ts : List Ty) (u : Ty) → last_held c (ts ++ u ∷ []) ≡ or_else (held c u) (last_held c ts)
last_more c [] u = sym (or_none (held c u))
last_more c (t ∷ ts) u = ap (λ (o : Option Ty). or_else o (held c t)) (last_more c ts u) ∙ or_both (held c u) (last_held c ts) (held c t)

types_append : (os ps : List Operand) → types_of (os ++ ps) ≡ types_of os ++ types_of ps
types_append [] ps = refl
types_append (o ∷ os) ps = ap (λ (ts : List Ty). ty_of o ∷ ts) (types_append os ps)

-- the deepest one is the first one of the slice
pub last_is_first : (c : Scope) (by : Depth) (os : List Operand) → last_held c (raise_all by (types_of (reverse os))) ≡ first_held c (raise_all by (types_of os))
last_is_first c by [] = refl
last_is_first c by (o ∷ os) =
    ap (λ (l : List Operand). last_held c (raise_all by (types_of l))) (reverse-append (o ∷ []) os)
    ∙ ap (λ (ts : List Ty). last_held c (raise_all by ts)) (types_append (reverse os) (o ∷ []))
    ∙ ap (last_held c) (raise_append by (types_of (reverse os)) (ty_of o ∷ []))
    ∙ last_more c (raise_all by (types_of (reverse os))) (raise by (ty_of o))
    ∙ ap (or_else (held c (raise by (ty_of o)))) (last_is_first c by os)

-- no label is left
pub held_no_label : (c : Scope) (k : ℕ) → held_beneath c k [] ≡ None
held_no_label c zero = refl
held_no_label c (suc k) = refl

-- the innermost block holds one, or the next ones are looked at
pub held_here : (c : Scope) (k : ℕ) (l : Label) (ls : List Label) (t : Ty) → 0 < k → last_held c l.rest ≡ Some t → held_beneath c k (l ∷ ls) ≡ Some t
held_here c zero l ls t some is = absurd (omega arith)
held_here c (suc k) l ls t some is = ap (λ (o : Option Ty). or_else o (held_beneath c k ls)) is

pub held_further : (c : Scope) (k : ℕ) (l : Label) (ls : List Label) → 0 < k → last_held c l.rest ≡ None → held_beneath c k (l ∷ ls) ≡ held_beneath c (k - 1) ls
held_further c zero l ls some is = absurd (omega arith)
held_further c (suc k) l ls some is = ap (λ (o : Option Ty). or_else o (held_beneath c k ls)) is ∙ ap (λ (n : ℕ). held_beneath c n ls) (less k)
  where
    less : (n : ℕ) → n ≡ suc n - 1
    less n = omega arith
