-- Operands that are taken from the top of a stack.
use Rattle.std.proofs.Common.{◌≡◌, inl, inr, ◌∙◌, ℕ, suc, List, ◌∷◌, Bool, None, ap, sym, subst, cond, length, take, drop, reverse, arith}
use Rattle.std.specs.Prelude.{nat_lt}
use Rattle.std.proofs.Math.Path.{subst⁻¹}
use Rattle.std.proofs.lemmas.Bool.{cases_lt, le-ltb, lt-ltb}
use Rattle.rw_types.specs.declared.types.Ty.{Ty}
use Rattle.rich_types.specs.Scopes.{Scope}
use Rattle.rich_typing.specs.declared.rules.Rule.TheVariants as rule
use Rattle.rich_rules.specs.Points.{Outcome, Breaks, Broke}
use Rattle.rich_rules.specs.Takers.{last_difference, without_difference, these, one, one_over}
use Rattle.rw_row_answers.specs.declared.answers.CapError.{CapError}
use Rattle.rw_row_answers.specs.Answers.{Breaking}
use Rattle.rw_operand_stack.specs.declared.operand.Operand.{Operand}
use Rattle.rw_operand_stack.specs.Operands.{ty_of, types_of, AreOperands}
use Rattle.rw_demands.proofs.Tails.{types_drop, one_more}

module _ (demanded : List Ty) (slice held : List Operand) (is : reverse slice ≡ held) where
  pub not_these : (e : CapError) → ((rest : List Ty → Outcome) → Breaking e (these (reverse demanded) (types_of (reverse slice)) rest)) → (rest : List Ty → Outcome) → Breaking e (these (reverse demanded) (types_of held) rest)
  not_these e told rest = subst (λ (os : List Operand). Breaking e (these (reverse demanded) (types_of os) rest)) is (told rest)

  pub these_left : (left : List Operand) → ((rest : List Ty → Outcome) → these (reverse demanded) (types_of (reverse slice)) rest ≡ rest (drop (length demanded) (types_of (reverse slice)))) → left ≡ drop (length demanded) held → (rest : List Ty → Outcome) → these (reverse demanded) (types_of held) rest ≡ rest (types_of left)
  these_left left told leaves rest =
      ap (λ (os : List Operand). these (reverse demanded) (types_of os) rest) (sym is)
      ∙ told rest
      ∙ ap (λ (os : List Operand). rest (drop (length demanded) (types_of os))) is
      ∙ ap rest (types_drop (length demanded) held ∙ ap types_of (sym leaves))

test_less : (a b : ℕ) → nat_lt (suc a) (suc b) ≡ nat_lt a b
test_less a b = elim (cases_lt a b) [
  | inl l ↦ lt-ltb (suc a) (suc b) (omega arith) ∙ sym (lt-ltb a b l)
  | inr g ↦ le-ltb (suc a) (suc b) (omega arith) ∙ sym (le-ltb a b g)
]

-- one operand, and then those under it
one_over_these : (ds us : List Ty) (t : Ty) (rest : Ty → List Ty → Outcome) → one_over ds (t ∷ us) rest ≡ these ds us (rest t)
one_over_these ds us t rest = ap (λ (n : ℕ). cond (nat_lt (suc (length us)) n) (Breaks (Broke rule.Operands None None)) (one (take n (t ∷ us)) (λ x under. without_difference (last_difference under ds) rule.OperandType (rest x (drop n (t ∷ us)))))) (one_more (length ds)) ∙ ap (λ (b : Bool). cond b (Breaks (Broke rule.Operands None None)) (without_difference (last_difference (take (length ds) us) ds) rule.OperandType (rest t (drop (length ds) us)))) (test_less (length us) (length ds))

module _ (demanded : List Ty) (held under : List Operand) (top : Operand) (holds : held ≡ top ∷ under) where
  one_first : (rest : Ty → List Ty → Outcome) → one_over (reverse demanded) (types_of held) rest ≡ these (reverse demanded) (types_of under) (rest (ty_of top))
  one_first rest = ap (λ (os : List Operand). one_over (reverse demanded) (types_of os) rest) holds ∙ one_over_these (reverse demanded) (types_of under) (ty_of top) rest

  pub one_left : (t : Ty) (left : List Ty) → t ≡ ty_of top → ((after : List Ty → Outcome) → these (reverse demanded) (types_of under) after ≡ after left) → (rest : Ty → List Ty → Outcome) → one_over (reverse demanded) (types_of held) rest ≡ rest t left
  one_left t left is told rest = one_first rest ∙ told (rest (ty_of top)) ∙ ap (λ (x : Ty). rest x left) (sym is)

  pub not_under : (e : CapError) → ((after : List Ty → Outcome) → Breaking e (these (reverse demanded) (types_of under) after)) → (rest : Ty → List Ty → Outcome) → Breaking e (one_over (reverse demanded) (types_of held) rest)
  not_under e told rest = subst⁻¹ (Breaking e) (one_first rest) (told (rest (ty_of top)))

  pub marked_under : (c : Scope) → AreOperands c held → AreOperands c under
  marked_under c marked = (subst (AreOperands c) holds marked).1
