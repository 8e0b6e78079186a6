-- Demands of the top operands, where those are the last ones of a slice.
use Rattle.std.proofs.Common.{◌≡◌, inl, inr, ◌≤◌, ◌<◌, ◌∙◌, ◌++◌, ◌+◌, ◌-◌, ℕ, suc, List, [], ◌∷◌, Bool, Option, Some, None, refl, ap, sym, cond, length, get_or, take, drop, reverse, arith}
use Rattle.std.specs.Prelude.{nat_lt, Result}
use Rattle.std.proofs.Math.Path.{subst⁻¹}
use Rattle.std.proofs.lemmas.Bool.{cases_lt, le-ltb, lt-ltb}
use Rattle.std.proofs.lemmas.List.{reverse-append, length-reverse, length-drop}
use Rattle.rw_types.specs.declared.types.Ty.{Ty}
use Rattle.rich_typing.specs.declared.rules.Rule.TheVariants as rule
use Rattle.rich_rules.specs.Points.{Outcome, Breaks, Broke}
use Rattle.rich_rules.specs.Takers.{Difference, difference, or_else, first_difference, last_difference, without_difference, these, one, one_over}
use Rattle.rw_row_answers.specs.declared.answers.CapError.{CapError}
use Rattle.rw_row_answers.specs.Answers.{Breaking}
use Rattle.rw_operand_stack.specs.declared.operand.Operand.{Operand}
use Rattle.rw_operand_stack.specs.Operands.{ty_of, types_of}
use Rattle.rw_struct_looks.specs.Takes.{Allows}
use Rattle.rw_demands.proofs.Tails.{types_length, types_front, one_more, top_first}

or_none : {A : Type 0} (o : Option A) → or_else o None ≡ o
or_none (Some x) = refl
or_none None = refl

or_both : {A : Type 0} (o p q : Option A) → or_else (or_else o p) q ≡ or_else o (or_else p q)
or_both (Some x) p q = refl
or_both None p q = refl

last_more : (ts us : List Ty) (t u : Ty) → length ts ≡ length us → last_difference (ts ++ t ∷ []) (us ++ u ∷ []) ≡ or_else (difference t u) (last_difference ts us)
last_more [] [] t u e = sym (or_none (difference t u))
last_more [] (y ∷ us) t u e = absurd cc
last_more (x ∷ ts) [] t u e = absurd cc
last_more (x ∷ ts) (y ∷ us) t u e = ap (λ (o : Option Difference). or_else o (difference x y)) (last_more ts us t u cc) ∙ or_both (difference t u) (last_difference ts us) (difference x y)

-- the last ones that differ are the first ones the other way round
pub last_reversed : (ts us : List Ty) → length ts ≡ length us → last_difference (reverse ts) (reverse us) ≡ first_difference ts us
last_reversed [] [] e = refl
last_reversed [] (y ∷ us) e = absurd cc
last_reversed (x ∷ ts) [] e = absurd cc
last_reversed (x ∷ ts) (y ∷ us) e =
    let tails : length ts ≡ length us = cc in
    ap (λ (l : List Ty). last_difference l (reverse (y ∷ us))) (reverse-append (x ∷ []) ts)
    ∙ ap (last_difference (reverse ts ++ x ∷ [])) (reverse-append (y ∷ []) us)
    ∙ last_more (reverse ts) (reverse us) x y (length-reverse ts ∙ tails ∙ sym (length-reverse us))
    ∙ ap (or_else (difference x y)) (last_reversed ts us tails)

module _ (demanded : List Ty) (all : List Operand) where
  -- too few operands
  pub too_few : (rest : List Ty → Outcome) → length all < length demanded → these (reverse demanded) (types_of (reverse all)) rest ≡ Breaks (Broke rule.Operands None None)
  too_few rest few =
      let held : length (types_of (reverse all)) ≡ length all = types_length (reverse all) ∙ length-reverse all in
      let asked : length (reverse demanded) ≡ length demanded = length-reverse demanded in
      ap (λ (b : Bool). cond b (Breaks (Broke rule.Operands None None)) (without_difference (last_difference (take (length (reverse demanded)) (types_of (reverse all))) (reverse demanded)) rule.OperandType (rest (drop (length (reverse demanded)) (types_of (reverse all)))))) (lt-ltb (length (types_of (reverse all))) (length (reverse demanded)) (omega arith))

  -- where there are enough, the last ones are compared
  pub these_told : (rest : List Ty → Outcome) → length demanded ≤ length all → these (reverse demanded) (types_of (reverse all)) rest ≡ without_difference (first_difference (types_of (drop (length all - length demanded) all)) demanded) rule.OperandType (rest (drop (length demanded) (types_of (reverse all))))
  these_told rest enough =
      let held : length (types_of (reverse all)) ≡ length all = types_length (reverse all) ∙ length-reverse all in
      let asked : length (reverse demanded) ≡ length demanded = length-reverse demanded in
      let tail : List Ty = types_of (drop (length all - length demanded) all) in
      let as_many : length tail ≡ length demanded = types_length (drop (length all - length demanded) all) ∙ length-drop (length all - length demanded) all ∙ back (length all) (length demanded) enough in
      ap (λ (b : Bool). cond b (Breaks (Broke rule.Operands None None)) (without_difference (last_difference (take (length (reverse demanded)) (types_of (reverse all))) (reverse demanded)) rule.OperandType (rest (drop (length (reverse demanded)) (types_of (reverse all)))))) (le-ltb (length (types_of (reverse all))) (length (reverse demanded)) (omega arith))
      ∙ ap (λ (n : ℕ). without_difference (last_difference (take n (types_of (reverse all))) (reverse demanded)) rule.OperandType (rest (drop n (types_of (reverse all))))) asked
      ∙ ap (λ (ts : List Ty). without_difference (last_difference ts (reverse demanded)) rule.OperandType (rest (drop (length demanded) (types_of (reverse all))))) (types_front all (length demanded) enough)
      ∙ ap (λ (o : Option Difference). without_difference o rule.OperandType (rest (drop (length demanded) (types_of (reverse all))))) (last_reversed tail demanded as_many)
    where
      back : (k m : ℕ) → m ≤ k → k - (k - m) ≡ m
      back k m le = omega arith

  -- what is told of the last ones is told of the demand
  pub these_allow : {A : Type 0} (r : Result A CapError) (tail : List Operand) → tail ≡ drop (length all - length demanded) all → length demanded ≤ length all → ((rest : Outcome) → Allows r (without_difference (first_difference (types_of tail) demanded) rule.OperandType rest) rest) → (rest : List Ty → Outcome) → Allows r (these (reverse demanded) (types_of (reverse all)) rest) (rest (drop (length demanded) (types_of (reverse all))))
  these_allow r tail is enough told rest =
      let after : Outcome = rest (drop (length demanded) (types_of (reverse all))) in
      subst⁻¹ (λ (out : Outcome). Allows r out after) (these_told rest enough ∙ ap (λ (os : List Operand). without_difference (first_difference (types_of os) demanded) rule.OperandType after) (sym is)) (told after)

test_less : (a b : ℕ) → nat_lt (suc a) (suc b) ≡ nat_lt a b
test_less a b = elim (cases_lt a b) [
  | inl l ↦ lt-ltb (suc a) (suc b) (omega arith) ∙ sym (lt-ltb a b l)
  | inr g ↦ le-ltb (suc a) (suc b) (omega arith) ∙ sym (le-ltb a b g)
]

-- one operand, and then those under it
one_over_these : (ds us : List Ty) (t : Ty) (rest : Ty → List Ty → Outcome) → one_over ds (t ∷ us) rest ≡ these ds us (rest t)
one_over_these ds us t rest = ap (λ (n : ℕ). cond (nat_lt (suc (length us)) n) (Breaks (Broke rule.Operands None None)) (one (take n (t ∷ us)) (λ x under. without_difference (last_difference under ds) rule.OperandType (rest x (drop n (t ∷ us)))))) (one_more (length ds)) ∙ ap (λ (b : Bool). cond b (Breaks (Broke rule.Operands None None)) (without_difference (last_difference (take (length ds) us) ds) rule.OperandType (rest t (drop (length ds) us)))) (test_less (length us) (length ds))

pub no_top : (demanded : List Ty) (all : List Operand) (rest : Ty → List Ty → Outcome) → length all < 1 → one_over (reverse demanded) (types_of (reverse all)) rest ≡ Breaks (Broke rule.Operands None None)
no_top demanded [] rest none = ap (λ (b : Bool). cond b (Breaks (Broke rule.Operands None None)) (one (take (length (reverse demanded) + 1) []) (λ t under. without_difference (last_difference under (reverse demanded)) rule.OperandType (rest t (drop (length (reverse demanded) + 1) []))))) (lt-ltb 0 (length (reverse demanded) + 1) (omega arith))
no_top demanded (o ∷ os) rest none = absurd (omega arith)

module _ (demanded : List Ty) (all : List Operand) (top : Operand) (some : 1 ≤ length all) (is_top : top ≡ get_or all (length all - 1) top) (rest : Ty → List Ty → Outcome) where
  abbrev pub under : List Operand
  under = take (length all - 1) all

  one_under : one_over (reverse demanded) (types_of (reverse all)) rest ≡ these (reverse demanded) (types_of (reverse under)) (rest (ty_of top))
  one_under = ap (λ (ts : List Ty). one_over (reverse demanded) ts rest) (top_first all top some is_top) ∙ one_over_these (reverse demanded) (types_of (reverse under)) (ty_of top) rest

  pub top_allows : (t : Ty) → t ≡ ty_of top → ((after : List Ty → Outcome) → these (reverse demanded) (types_of (reverse under)) after ≡ after (drop (length demanded) (types_of (reverse under)))) → one_over (reverse demanded) (types_of (reverse all)) rest ≡ rest t (drop (length demanded + 1) (types_of (reverse all)))
  top_allows t is told =
      one_under
      ∙ told (rest (ty_of top))
      ∙ ap (λ (n : ℕ). rest (ty_of top) (drop n (ty_of top ∷ types_of (reverse under)))) (sym (one_more (length demanded)))
      ∙ ap (λ (ts : List Ty). rest (ty_of top) (drop (length demanded + 1) ts)) (sym (top_first all top some is_top))
      ∙ ap (λ (x : Ty). rest x (drop (length demanded + 1) (types_of (reverse all)))) (sym is)

  pub top_breaks : (e : CapError) → ((after : List Ty → Outcome) → Breaking e (these (reverse demanded) (types_of (reverse under)) after)) → Breaking e (one_over (reverse demanded) (types_of (reverse all)) rest)
  top_breaks e told = subst⁻¹ (Breaking e) one_under (told (rest (ty_of top)))
