-- What closes code goes on wherever the checker has come: so the closed code is typed exactly where the checker goes on.
use Rattle.std.proofs.Common.{◌≡◌, ◌∙◌, Bool, true, false, List, [], ◌∷◌, ◌++◌, refl, sym, ap, subst}
use Rattle.std.specs.Prelude.{Option, Some, None, Result, Ok, Err, if◌then◌else◌, option_to_list}
use Rattle.wasm_ast.specs.declared.types.ValTy.{ValTy}
use Rattle.wasm_ast.specs.declared.types.ValTy.TheVariants.{I32}
use Rattle.wasm_typing.specs.declared.rule.WRule.{WRule}
use Rattle.wasm_typing.specs.declared.rule.WRule.TheVariants.{EndOperands}
use Rattle.wasm_typing.specs.declared.context.Context.{Context}
use Rattle.wasm_typing.specs.Signatures.{signature_in, The}
use Rattle.wasm_typing.specs.Tokens.{Token, Plain, OpensBlock, OpensLoop, OpensIf, Else, End}
use Rattle.wasm_typing.specs.Places.{open_behind, opened, closing, closed}
use Rattle.wasm_typing.specs.ByteOrder.{Shape, Straight, Again, FirstArm, Open, labels, result_of, put, Leads, start}
use Rattle.wasm_typing_laws.specs.Checking.{Seen, take_slots, left_of, fits, go_on, fresh, may_end, hand, check, walk, begin}
use Rattle.wasm_typing_laws.proofs.Steps.{Stacks, AllIn, go_on-back, if-back, arm-back, split, fresh-is, walk-forth, walk-back}

abbrev pub is_first : Shape → Bool
is_first (FirstArm t) = true
is_first (Straight t) = false
is_first (Again t) = false

abbrev pub firsts : List (Open Seen) → List Bool
firsts [] = []
firsts (a ∷ as') = is_first a.shape ∷ firsts as'

firsts-hand : (t : Option ValTy) (as' : List (Open Seen)) → firsts (hand t as') ≡ firsts as'
firsts-hand t [] = refl
firsts-hand t (a ∷ as') = refl

module _ (C : Context) where
  pub walk-append : (xs ys : List Token) (as' : List (Open Seen)) → walk C (xs ++ ys) as' ≡ go_on (walk C xs as') (walk C ys)
  walk-append [] ys as' = refl
  walk-append (t ∷ xs) ys as' =
      elim (check C t as') as (λ v. go_on v (walk C (xs ++ ys)) ≡ go_on (go_on v (walk C xs)) (walk C ys)) [ Err e ↦ refl | Ok mid ↦ walk-append xs ys mid ]

  pub open-check : (t : Token) (as' mid : List (Open Seen)) → check C t as' ≡ Ok mid → open_behind t (firsts as') ≡ firsts mid
  open-check t [] mid e = absurd (cc)
  open-check (Plain w) (a ∷ as') mid e =
      let p = go_on-back (signature_in C (labels (a ∷ as')) w) (λ s. go_on (take_slots s.takes None a.operands.known a.operands.any) (λ r. Ok (put a (left_of s.left r a.operands.any) ∷ as'))) mid e in
      let q = go_on-back (take_slots p.0.takes None a.operands.known a.operands.any) (λ r. Ok (put a (left_of p.0.left r a.operands.any) ∷ as')) mid p.2 in
      let eb : put a (left_of p.0.left q.0 a.operands.any) ∷ as' ≡ mid = (let f = q.2 in cc) in ap firsts eb
  open-check (OpensBlock t) (a ∷ as') mid e = let eb : fresh (Straight t) ∷ a ∷ as' ≡ mid = (cc) in ap firsts eb
  open-check (OpensLoop t) (a ∷ as') mid e = let eb : fresh (Again t) ∷ a ∷ as' ≡ mid = (cc) in ap firsts eb
  open-check (OpensIf t) (a ∷ as') mid e =
      let q = go_on-back (take_slots (The I32 ∷ []) None a.operands.known a.operands.any) (λ r. Ok (fresh (FirstArm t) ∷ put a (record { known = r.known; any = a.operands.any }) ∷ as')) mid e in
      let eb : fresh (FirstArm t) ∷ put a (record { known = q.0.known; any = a.operands.any }) ∷ as' ≡ mid = (let f = q.2 in cc) in ap firsts eb
  open-check Else (a ∷ as') mid e = let p = arm-back a.shape a.operands as' mid e in ap firsts (sym p.3)
  open-check End (a ∷ as') mid e =
      let t = result_of a.shape in
      let p = if-back (may_end a.shape) (if fits (option_to_list t) a.operands.known a.operands.any then Ok (hand t as') else Err EndOperands) EndOperands mid e in
      let q = if-back (fits (option_to_list t) a.operands.known a.operands.any) (Ok (hand t as')) EndOperands mid p.1 in
      let eb : hand t as' ≡ mid = (let f = q.1 in cc) in sym (firsts-hand t as') ∙ ap firsts eb

  pub open-walk : (ts : List Token) (as' bs : List (Open Seen)) → walk C ts as' ≡ Ok bs → opened ts (firsts as') ≡ firsts bs
  open-walk [] as' bs e = let q : as' ≡ bs = (cc) in ap firsts q
  open-walk (t ∷ ts) as' bs e =
      let p = go_on-back (check C t as') (walk C ts) bs e in
      ap (opened ts) (open-check t as' p.0 p.1) ∙ open-walk ts p.0 bs p.2

  close-one : (s : Shape) (seen : Seen) (as' : List (Open Seen)) (fs : List Bool) → walk C (closing (is_first s ∷ fs)) (record { shape = s; operands = seen } ∷ as') ≡ walk C (closing fs) (hand (result_of s) as')
  close-one (Straight None) seen as' fs = refl
  close-one (Straight (Some t)) seen as' fs = refl
  close-one (Again None) seen as' fs = refl
  close-one (Again (Some t)) seen as' fs = refl
  close-one (FirstArm None) seen as' fs = refl
  close-one (FirstArm (Some t)) seen as' fs = refl

  closing-goes : (as' bs : List (Open Seen)) → firsts as' ≡ firsts bs → walk C (closing (firsts as')) bs ≡ Ok []
  closing-goes [] [] e = refl
  closing-goes [] (b ∷ bs) e = absurd (cc)
  closing-goes (a ∷ as') [] e = absurd (cc)
  closing-goes (a ∷ as') (b ∷ bs) e =
      let e0 : is_first a.shape ≡ is_first b.shape = (cc) in
      let e1 : firsts as' ≡ firsts bs = (cc) in
      ap (λ (f : Bool). walk C (closing (f ∷ firsts as')) (b ∷ bs)) e0
      ∙ close-one b.shape b.operands bs (firsts as')
      ∙ closing-goes as' (hand (result_of b.shape) bs) (e1 ∙ sym (firsts-hand (result_of b.shape) bs))

  pub begin-is : (os : Stacks) → AllIn (begin C) os → os ≡ start C
  begin-is os h =
      let d = split (fresh (Straight C.result)) [] os h in
      d.2 ∙ ap (λ (x : Open (List ValTy)). x ∷ d.1) (fresh-is (Straight C.result) d.0 d.3 d.4) ∙ ap (λ (x : Stacks). record { shape = Straight C.result; operands = [] } ∷ x) (none_left d.1 d.5)
    where
      none_left : (os : Stacks) → AllIn [] os → os ≡ []
      none_left [] h = refl
      none_left (o ∷ os) h = absurd h

  pub closed-forth : (front : List Token) → Leads C (closed front) (start C) [] → (as' : List (Open Seen)) × (walk C front (begin C) ≡ Ok as')
  closed-forth front d =
      let i = walk-forth C (closed front) (begin C) (start C) [] (refl, refl, tt) d in
      let p = go_on-back (walk C front (begin C)) (walk C (closing (opened front (false ∷ [])))) i.0 (sym (walk-append front (closing (opened front (false ∷ []))) (begin C)) ∙ i.1) in
      (p.0, p.1)

  pub closed-back : (front : List Token) (as' : List (Open Seen)) → walk C front (begin C) ≡ Ok as' → Leads C (closed front) (start C) []
  closed-back front as' e =
      let c : walk C (closing (opened front (false ∷ []))) as' ≡ Ok [] = ap (λ (fs : List Bool). walk C (closing fs) as') (open-walk front (begin C) as' e) ∙ closing-goes as' as' refl in
      let w : walk C (closed front) (begin C) ≡ Ok [] = walk-append front (closing (opened front (false ∷ []))) (begin C) ∙ ap (λ (x : Result (List (Open Seen)) WRule). go_on x (walk C (closing (opened front (false ∷ []))))) e ∙ c in
      let i = walk-back C (closed front) (begin C) [] [] w tt in
      subst (λ (x : Stacks). Leads C (closed front) x []) (begin-is i.0 i.1) i.2
