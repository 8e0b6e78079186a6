-- No body has two first violations: neither two places nor, at one place, two rules.
use Rattle.std.proofs.Common.{◌≡◌, ◌∙◌, ℕ, zero, suc, ◌+◌, ◌<◌, List, [], ◌∷◌, ◌++◌, ◌⊎◌, inl, inr, map, take, slice_get, refl, sym, ap, subst, append_assoc, arith}
use Rattle.wasm_ast.specs.declared.types.ValTy.{ValTy}
use Rattle.wasm_ast.specs.declared.instructions.WInstr.{WInstr}
use Rattle.wasm_typing.specs.declared.rule.WRule.{WRule}
use Rattle.wasm_typing.specs.declared.context.Context.{Context}
use Rattle.wasm_typing.specs.Signatures.{Slot, Signature}
use Rattle.wasm_typing.specs.Typing.{fill}
use Rattle.wasm_typing.specs.Tokens.{Token, Plain, OpensBlock, OpensLoop, OpensIf, Else, End, code_of}
use Rattle.wasm_typing.specs.Places.{closed, IsFirstPlace}
use Rattle.wasm_typing.specs.ByteOrder.{Leads, start}
use Rattle.wasm_typing.specs.Violations.{IsOperandRule, Stands, IsRuleOf, IsFirstViolation}
use Rattle.wasm_typing_laws.proofs.Steps.{Stacks}
use Rattle.wasm_typing_laws.proofs.Closing.{closed-forth}
use Rattle.wasm_typing_laws.proofs.Join.{derivation-forth}
use Rattle.wasm_typing_laws.proofs.Refusals.{one_place, some_all, reached-back}

map-parts : {A B : Type 0} (f : A → B) (xs ys : List A) → map f (xs ++ ys) ≡ map f xs ++ map f ys
map-parts f [] ys = refl
map-parts f (x ∷ xs) ys = ap (λ rest. f x ∷ rest) (map-parts f xs ys)

-- of two ways to part a list, one is longer or they are the same
ways : {A : Type 0} (xs us ys vs : List A) (a b : A) → xs ++ a ∷ ys ≡ us ++ b ∷ vs → ((m : List A) × (us ≡ xs ++ a ∷ m)) ⊎ (((m : List A) × (xs ≡ us ++ b ∷ m)) ⊎ (xs ≡ us))
ways [] [] ys vs a b e = inr (inr refl)
ways {A} [] (u ∷ us) ys vs a b e = let h : a ≡ u = (cc) in inl (us, ap (λ (x : A). x ∷ us) (sym h))
ways {A} (x ∷ xs) [] ys vs a b e = let h : x ≡ b = (cc) in inr (inl (xs, ap (λ (y : A). y ∷ xs) h))
ways {A} (x ∷ xs) (u ∷ us) ys vs a b e =
    let h : x ≡ u = (cc) in
    let t : xs ++ a ∷ ys ≡ us ++ b ∷ vs = (cc) in
    elim (ways xs us ys vs a b t) [
      | inl (m, q) ↦ inl (m, ap (λ (l : List A). u ∷ l) q ∙ ap (λ (y : A). y ∷ (xs ++ a ∷ m)) (sym h))
      | inr (inl (m, q)) ↦ inr (inl (m, ap (λ (l : List A). x ∷ l) q ∙ ap (λ (y : A). y ∷ (us ++ b ∷ m)) h))
      | inr (inr q) ↦ inr (inr (ap (λ (l : List A). x ∷ l) q ∙ ap (λ (y : A). y ∷ us) h))
    ]

-- the operands that one rule finds may not go past the wrong one of another
past : {P : List ValTy → Type 0} {takes : List Slot} {r : WRule} (one : IsOperandRule P takes r) (above m : List Slot) → above ≡ one.above ++ one.slot ∷ m → ((t : ValTy) × (below : List ValTy) × P (map (fill t) above ++ below)) → ⊥
past {P} one above m e taken =
    let t = taken.0 in
    let k : map (fill t) above ++ taken.1 ≡ map (fill t) one.above ++ fill t one.slot ∷ (map (fill t) m ++ taken.1) =
    ap (λ (l : List Slot). map (fill t) l ++ taken.1) e ∙ ap (λ (l : List ValTy). l ++ taken.1) (map-parts (fill t) one.above (one.slot ∷ m)) ∙ append_assoc (map (fill t) one.above) (fill t one.slot ∷ map (fill t) m) taken.1 in
    one.wrong t (map (fill t) m ++ taken.1) (subst P k taken.2)

one_rule : {P : List ValTy → Type 0} {takes : List Slot} {r s : WRule} → IsOperandRule P takes r → IsOperandRule P takes s → r ≡ s
one_rule {P} {takes} {r} {s} f g =
    elim (ways f.above g.above f.beneath g.beneath f.slot g.slot (sym f.parted ∙ g.parted)) [
      | inl (m, q) ↦ absurd (past f g.above m q g.taken)
      | inr (inl (m, q)) ↦ absurd (past g f.above m q f.taken)
      | inr (inr q) ↦
          elim f.which [
            | inl (er, none) ↦ elim g.which [
              | inl (es, also) ↦ er ∙ sym es
              | inr (es, t, u, below, h) ↦ absurd (none t u below (subst (λ (l : List Slot). P (map (fill t) l ++ u ∷ below)) (sym q) h))
            ]
            | inr (er, t, u, below, h) ↦ elim g.which [
              | inl (es, none) ↦ absurd (none t u below (subst (λ (l : List Slot). P (map (fill t) l ++ u ∷ below)) q h))
              | inr v ↦ er ∙ sym v.0
            ]
          ]
    ]

module _ (C : Context) where
  same_rule : (front : List Token) (t : Token) (r s : WRule) → ((os : Stacks) × Leads C front (start C) os) → IsRuleOf C front t r → IsRuleOf C front t s → r ≡ s
  same_rule front (Plain w) r s reached f g =
      elim (f reached.0 reached.1) [
        | inl a ↦ elim (g reached.0 reached.1) [ inl b ↦ (cc) | inr (y, b, h) ↦ absurd (cc) ]
        | inr (x, a, h) ↦ elim (g reached.0 reached.1) [
          | inl b ↦ absurd (cc)
          | inr (y, b, k) ↦ let same : y ≡ x = (cc) in one_rule h (subst (λ (z : Signature). IsOperandRule (Stands C front) z.takes s) same k)
        ]
      ]
  same_rule front (OpensBlock t) r s reached f g = absurd f
  same_rule front (OpensLoop t) r s reached f g = absurd f
  same_rule front (OpensIf t) r s reached f g = one_rule f g
  same_rule front Else r s reached f g = f ∙ sym g
  same_rule front End r s reached f g = f ∙ sym g

  reaches : (body : List WInstr) (at : ℕ) → IsFirstPlace C body at → (os : Stacks) × Leads C (take at (code_of body)) (start C) os
  reaches body zero f = (start C, refl)
  reaches body (suc k) f =
      let lt : k < suc k = omega arith in
      let n : k + 1 ≡ suc k = omega arith in
      let w = closed-forth C (take (k + 1) (code_of body)) (derivation-forth C (closed (take (k + 1) (code_of body))) (f.least k lt)) in
      let i = some_all w.0 in
      (i.0, subst (λ (m : ℕ). Leads C (take m (code_of body)) (start C) i.0) n (reached-back C (take (k + 1) (code_of body)) w.0 i.0 w.1 i.1))

  pub one_violation : (body : List WInstr) (a b : ℕ) (r s : WRule) → IsFirstViolation C body a r → IsFirstViolation C body b s → (a ≡ b) × (r ≡ s)
  one_violation body a b r s f g =
      let e = one_place C body a b f.place g.place in
      let et : f.token ≡ g.token = (let x = f.there in let y = g.there in let z : slice_get (code_of body) a ≡ slice_get (code_of body) b = ap (slice_get (code_of body)) e in cc) in
      let k : IsRuleOf C (take a (code_of body)) f.token s =
      subst (λ (n : ℕ). IsRuleOf C (take n (code_of body)) f.token s) (sym e) (subst (λ (x : Token). IsRuleOf C (take b (code_of body)) x s) (sym et) g.broken) in
      (e, same_rule (take a (code_of body)) f.token r s (reaches body a f.place) f.broken k)
