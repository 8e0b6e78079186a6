-- What operands hide, as code takes them apart.
use Rattle.std.proofs.Common.{◌≡◌, ◌∙◌, ℕ, List, Bool, true, false, Option, Some, None, refl, ap, sym}
use Rattle.std.proofs.Math.Path.{subst⁻¹}
use Rattle.rw_types.specs.declared.types.Binder.{Binder}
use Rattle.rw_types.specs.declared.types.Binder.TheVariants.{Loc, Kind}
use Rattle.rw_types.specs.declared.types.Heap.TheBlock.{hidden-the_row-Ty-2}
use Rattle.rw_types.specs.declared.types.Heap.TheVariants.{Variant, Exist}
use Rattle.rw_types.specs.declared.types.Mem.{Mem}
use Rattle.rw_types.specs.declared.types.Pre.{Ref}
use Rattle.rw_types.specs.declared.types.Pre.TheVariants.{Hidden}
use Rattle.rw_types.specs.declared.types.Priv.{Priv}
use Rattle.rw_types.specs.declared.types.Qual.{Qual}
use Rattle.rw_types.specs.declared.types.Ty.{Ty, Of, items_hidden-the_row-Ty-1}
use Rattle.rich_types.specs.Scopes.{Scope, memory_of}
use Rattle.rich_typing.specs.declared.rules.Rule.TheVariants as rule
use Rattle.rich_rules.specs.Forms.{is_rw}
use Rattle.rich_rules.specs.Points.{Outcome, Breaks, Broke}
use Rattle.rich_rules.specs.Takers.{Reference, need, with_some, hidden_form, package_form, package_at, variant_at}
use Rattle.rw_row_answers.specs.declared.answers.CapError.{CapError}
use Rattle.rw_row_answers.specs.Answers.{Breaking}

hidden_seen : (q : Qual) (m : Mem) (t : Ty) (rest : Mem → Ty → Outcome) → hidden_form (Of q (Hidden m t)) rest ≡ rest m t
unfolding hidden-the_row-Ty-2 denote.Hole.Carrier.hidden
hidden_seen q m t rest = refl

package_seen : (u : Ty) (q : Qual) (s : ℕ) (t : Ty) (rest : Qual → ℕ → Ty → Outcome) → package_at u (Exist q s t) rest ≡ rest q s t
unfolding hidden-the_row-Ty-2 denote.Hole.Carrier.hidden
package_seen u q s t rest = refl

pub variant_seen : (u : Ty) (ts : List Ty) (rest : List Ty → Outcome) → variant_at u (Variant ts) rest ≡ rest ts
variant_seen u ts rest = ap rest (items_hidden-the_row-Ty-1 ts)

-- the type below a hidden location
pub hidden_told : (t : Ty) (q : Qual) (m : Mem) (u body : Ty) → t ≡ Of q (Hidden m u) → body ≡ u → (rest : Binder → Ty → Outcome) → hidden_form t (λ n v. rest (Loc n) v) ≡ rest (Loc m) body
hidden_told t q m u body is copied rest = ap (λ (x : Ty). hidden_form x (λ n v. rest (Loc n) v)) is ∙ hidden_seen q m u (λ n v. rest (Loc n) v) ∙ ap (rest (Loc m)) (sym copied)

module _ (c : Scope) (t : Ty) (own : Qual) (p : Priv) (l : ℕ) (m : Mem) (q : Qual) (s : ℕ) (u : Ty) (is : t ≡ Of own (Ref p l (Exist q s u))) (found : Some m ≡ memory_of c l) where
  here : (rest : Reference → Qual → ℕ → Ty → Outcome) → package_form c t rest ≡ rest (record { qual = own; privilege = p; location = l; memory = m }) q s u
  here rest =
      subst⁻¹ (λ (x : Ty). package_form c x rest ≡ rest (record { qual = own; privilege = p; location = l; memory = m }) q s u) is
      (ap (λ (x : Option Mem). with_some x rule.OperandType (Some (Of own (Ref p l (Exist q s u)))) (λ n. package_at (Of own (Ref p l (Exist q s u))) (Exist q s u) (rest (record { qual = own; privilege = p; location = l; memory = n })))) (sym found)
      ∙ package_seen (Of own (Ref p l (Exist q s u))) q s u (rest (record { qual = own; privilege = p; location = l; memory = m })))

  module _ (rest : Binder → Ty → Outcome) where
    asked : package_form c t (λ r k n v. need (is_rw r.privilege) rule.Privilege (Some t) None (rest (Kind k n) v)) ≡ need (is_rw p) rule.Privilege (Some t) None (rest (Kind q s) u)
    asked = here (λ r k n v. need (is_rw r.privilege) rule.Privilege (Some t) None (rest (Kind k n) v))

    -- the type below a package's binder
    pub package_told : (body : Ty) → is_rw p ≡ true → body ≡ u → package_form c t (λ r k n v. need (is_rw r.privilege) rule.Privilege (Some t) None (rest (Kind k n) v)) ≡ rest (Kind q s) body
    package_told body writes copied = asked ∙ ap (λ (b : Bool). need b rule.Privilege (Some t) None (rest (Kind q s) u)) writes ∙ ap (rest (Kind q s)) (sym copied)

    pub package_read : (e : CapError) → is_rw p ≡ false → Breaking e (Breaks (Broke rule.Privilege (Some t) None)) → Breaking e (package_form c t (λ r k n v. need (is_rw r.privilege) rule.Privilege (Some t) None (rest (Kind k n) v)))
    package_read e reads told = subst⁻¹ (Breaking e) (asked ∙ ap (λ (b : Bool). need b rule.Privilege (Some t) None (rest (Kind q s) u)) reads) told
