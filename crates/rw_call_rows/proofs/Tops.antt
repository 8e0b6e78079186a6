-- The function on top of the operands.
use Rattle.std.proofs.Common.{inl, inr, ◌≡◌, ◌∙◌, ℕ, suc, List, ◌∷◌, Bool, true, Some, None, ap, sym, cond, length, take, drop, reverse, arith}
use Rattle.std.specs.Prelude.{nat_lt}
use Rattle.std.proofs.lemmas.Bool.{cases_lt, le-ltb, lt-ltb}
use Rattle.rw_types.specs.declared.types.FunType.{FunType}
use Rattle.rw_types.specs.declared.types.Ty.{Ty}
use Rattle.rich_typing.specs.declared.rules.Rule.TheVariants as rule
use Rattle.rich_rules.specs.Calls.{call_indirect_row, has_none}
use Rattle.rich_rules.specs.Plain.{from_to}
use Rattle.rich_rules.specs.Points.{Outcome, Breaks, Broke}
use Rattle.rich_rules.specs.Takers.{code_form, need, one, one_over, these, gives, last_difference, without_difference}
use Rattle.rw_operand_stack.specs.declared.operand.Operand.{Operand}
use Rattle.rw_operand_stack.specs.Operands.{ty_of, types_of}
use Rattle.rw_demands.proofs.Tails.{one_more}

pub top_taken : (held left : List Operand) (top : Operand) (t : Ty) (rest : Ty → List Ty → Outcome) → held ≡ top ∷ left → t ≡ ty_of top → one (types_of held) rest ≡ rest t (types_of left)
top_taken held left top t rest holds is = ap (λ (os : List Operand). one (types_of os) rest) holds ∙ ap (λ (x : Ty). rest x (types_of left)) (sym is)

test_less : (a b : ℕ) → nat_lt (suc a) (suc b) ≡ nat_lt a b
test_less a b = elim (cases_lt a b) [
  | inl l ↦ lt-ltb (suc a) (suc b) (omega arith) ∙ sym (lt-ltb a b l)
  | inr g ↦ le-ltb (suc a) (suc b) (omega arith) ∙ sym (le-ltb a b g)
]

-- one operand, and then those under it
under_top : (ds us : List Ty) (t : Ty) (rest : Ty → List Ty → Outcome) → one_over ds (t ∷ us) rest ≡ these ds us (rest t)
under_top ds us t rest =
    ap (λ (n : ℕ). cond (nat_lt (suc (length us)) n) (Breaks (Broke rule.Operands None None)) (one (take n (t ∷ us)) (λ x under. without_difference (last_difference under ds) rule.OperandType (rest x (drop n (t ∷ us)))))) (one_more (length ds))
    ∙ ap (λ (b : Bool). cond b (Breaks (Broke rule.Operands None None)) (without_difference (last_difference (take (length ds) us) ds) rule.OperandType (rest t (drop (length ds) us)))) (test_less (length us) (length ds))

-- the call of a function without binders
pub calls_top : (t : Ty) (g : FunType) (beneath : List Ty) → ((rest : FunType → Outcome) → code_form t rest ≡ rest g) → has_none g.binders ≡ true → call_indirect_row (t ∷ beneath) ≡ from_to (reverse g.params) (reverse g.results) beneath
calls_top t g beneath seen closed =
    seen (λ h. need (has_none h.binders) rule.OperandType (Some t) None (one_over (reverse h.params) (t ∷ beneath) (λ code rest. gives (reverse h.results) rest)))
    ∙ ap (λ (b : Bool). need b rule.OperandType (Some t) None (one_over (reverse g.params) (t ∷ beneath) (λ code rest. gives (reverse g.results) rest))) closed
    ∙ under_top (reverse g.params) beneath t (λ code rest. gives (reverse g.results) rest)
