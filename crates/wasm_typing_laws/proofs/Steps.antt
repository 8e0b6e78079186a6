-- One token, and many, of the checker: exactly the stacks that derivations reach.
use Rattle.std.proofs.Common.{◌≡◌, ◌∙◌, Bool, true, false, List, [], ◌∷◌, refl, sym, ap, subst}
use Rattle.std.specs.Prelude.{Option, Some, None, Result, Ok, Err, if◌then◌else◌, option_to_list}
use Rattle.wasm_ast.specs.declared.types.ValTy.{ValTy}
use Rattle.wasm_ast.specs.declared.types.ValTy.TheVariants.{I32}
use Rattle.wasm_typing.specs.declared.rule.WRule.{WRule}
use Rattle.wasm_typing.specs.declared.rule.WRule.TheVariants.{EndOperands}
use Rattle.wasm_typing.specs.declared.context.Context.{Context}
use Rattle.wasm_typing.specs.Signatures.{The, Signature, signature_in}
use Rattle.wasm_typing.specs.Typing.{Labels}
use Rattle.wasm_typing.specs.Tokens.{Token, Plain, OpensBlock, OpensLoop, OpensIf, Else, End}
use Rattle.wasm_typing.specs.ByteOrder.{Shape, Straight, Again, FirstArm, Open, labels, label_of, result_of, put, MayEnd, given, leads, Leads}
use Rattle.wasm_typing_laws.specs.Checking.{Seen, Taken, take_slots, left_of, fits, go_on, fresh, may_end, hand, second_arm, check, walk}
use Rattle.wasm_typing_laws.proofs.Stacks.{InSeen, applies-forth, applies-back, take-forth, take-back, pick, pick-is, fits-forth, fits-back, onto-forth, onto-back}

abbrev pub Stacks : Type 0
Stacks = List (Open (List ValTy))

abbrev pub AllIn : List (Open Seen) → Stacks → Type 0
AllIn [] [] = Unit {0}
AllIn [] (o ∷ os) = ⊥
AllIn (a ∷ as') [] = ⊥
AllIn (a ∷ as') (o ∷ os) = (a.shape ≡ o.shape) × InSeen a.operands o.operands × AllIn as' os

pub labels-same : (as' : List (Open Seen)) (os : Stacks) → AllIn as' os → labels as' ≡ labels os
labels-same [] [] h = refl
labels-same [] (o ∷ os) h = absurd h
labels-same (a ∷ as') [] h = absurd h
labels-same (a ∷ as') (o ∷ os) h = ap (λ (s : Shape). label_of s ∷ labels as') h.0 ∙ ap (λ (ls : Labels). label_of o.shape ∷ ls) (labels-same as' os h.2)

pub may_end-forth : (s : Shape) → MayEnd s → may_end s ≡ true
may_end-forth (Straight t) h = refl
may_end-forth (Again t) h = refl
may_end-forth (FirstArm None) h = refl
may_end-forth (FirstArm (Some t)) h = absurd (cc)

pub may_end-back : (s : Shape) → may_end s ≡ true → MayEnd s
may_end-back (Straight t) e = tt
may_end-back (Again t) e = tt
may_end-back (FirstArm None) e = refl
may_end-back (FirstArm (Some t)) e = absurd (cc)

pub hand-forth : (t : Option ValTy) (as' : List (Open Seen)) (os : Stacks) → AllIn as' os → AllIn (hand t as') (given t os)
hand-forth t [] [] h = tt
hand-forth t [] (o ∷ os) h = absurd h
hand-forth t (a ∷ as') [] h = absurd h
hand-forth t (a ∷ as') (o ∷ os) h = (h.0, onto-forth (option_to_list t) a.operands.known a.operands.any o.operands h.1, h.2)

pub hand-back : (t : Option ValTy) (as' : List (Open Seen)) (to : Stacks) → AllIn (hand t as') to → (os : Stacks) × AllIn as' os × (to ≡ given t os)
hand-back t [] [] h = ([], tt, refl)
hand-back t [] (o ∷ os) h = absurd h
hand-back t (a ∷ as') [] h = absurd h
hand-back t (a ∷ as') (o ∷ os) h =
    let i = onto-back (option_to_list t) a.operands.known a.operands.any o.operands h.1 in
    (put o i.0 ∷ os, (h.0, i.2, h.2), ap (λ (st : List ValTy). put o st ∷ os) i.1)

pub go_on-back : {A B : Type 0} (x : Result A WRule) (go : A → Result B WRule) (b : B) → go_on x go ≡ Ok b → (a : A) × (x ≡ Ok a) × (go a ≡ Ok b)
go_on-back (Err e) go b h = absurd (cc)
go_on-back (Ok a) go b h = (a, refl, h)

pub if-back : {A : Type 0} (c : Bool) (x : Result A WRule) (e : WRule) (b : A) → (if c then x else Err e) ≡ Ok b → (c ≡ true) × (x ≡ Ok b)
if-back true x e b h = (refl, h)
if-back false x e b h = absurd (cc)

pub split : (a : Open Seen) (as' : List (Open Seen)) (to : Stacks) → AllIn (a ∷ as') to → (o : Open (List ValTy)) × (os : Stacks) × (to ≡ o ∷ os) × (a.shape ≡ o.shape) × InSeen a.operands o.operands × AllIn as' os
split a as' [] h = absurd h
split a as' (o ∷ os) h = (o, os, refl, h.0, h.1, h.2)

pub fresh-is : (s : Shape) (o : Open (List ValTy)) → s ≡ o.shape → o.operands ≡ [] → o ≡ record { shape = s; operands = [] }
fresh-is s o es eo = ap (λ (x : Shape). record { shape = x; operands = o.operands }) (sym es) ∙ ap (λ (x : List ValTy). record { shape = s; operands = x }) eo

pub arm-forth : (s : Shape) (t : Option ValTy) (seen : Seen) (as' : List (Open Seen)) → s ≡ FirstArm t → InSeen seen (option_to_list t) → second_arm s seen as' ≡ Ok (fresh (Straight t) ∷ as')
arm-forth s t seen as' e h =
    ap (λ (x : Shape). second_arm x seen as') e
    ∙ ap (λ (b : Bool). if b then Ok (fresh (Straight t) ∷ as') else Err EndOperands) (fits-forth (option_to_list t) seen.known seen.any h)

pub arm-back : (s : Shape) (seen : Seen) (as' bs : List (Open Seen)) → second_arm s seen as' ≡ Ok bs → (t : Option ValTy) × (s ≡ FirstArm t) × InSeen seen (option_to_list t) × (bs ≡ fresh (Straight t) ∷ as')
arm-back (Straight t) seen as' bs e = absurd (cc)
arm-back (Again t) seen as' bs e = absurd (cc)
arm-back (FirstArm t) seen as' bs e =
    let p = if-back (fits (option_to_list t) seen.known seen.any) (Ok (fresh (Straight t) ∷ as')) EndOperands bs e in
    let q = p.1 in
    (t, refl, fits-back (option_to_list t) seen.known seen.any p.0, cc)

module _ (C : Context) where
  pub forth : (t : Token) (as' : List (Open Seen)) (os to : Stacks) → AllIn as' os → leads C t os to → (bs : List (Open Seen)) × (check C t as' ≡ Ok bs) × AllIn bs to
  forth t as' [] to h r = absurd r
  forth t [] (o ∷ os) to h r = absurd h
  forth (Plain w) (a ∷ as') (o ∷ os) to h r =
      let s = r.0 in
      let es : signature_in C (labels (a ∷ as')) w ≡ Ok s = ap (λ (ls : Labels). signature_in C ls w) (labels-same (a ∷ as') (o ∷ os) h) ∙ r.2 in
      let i = applies-forth s a.operands o.operands r.1 h.1 r.3 in
      let b : Open Seen = put a (left_of s.left i.0 a.operands.any) in (
        b ∷ as',
        ap (λ (x : Result Signature WRule). go_on x (λ s. go_on (take_slots s.takes None a.operands.known a.operands.any) (λ r. Ok (put a (left_of s.left r a.operands.any) ∷ as')))) es
            ∙ ap (λ (x : Result Taken WRule). go_on x (λ r. Ok (put a (left_of s.left r a.operands.any) ∷ as'))) i.1,
        subst (λ (x : Stacks). AllIn (b ∷ as') x) (sym r.4) (h.0, i.2, h.2),
      )
  forth (OpensBlock t) (a ∷ as') (o ∷ os) to h r = (fresh (Straight t) ∷ a ∷ as', refl, subst (λ (x : Stacks). AllIn (fresh (Straight t) ∷ a ∷ as') x) (sym r) (refl, refl, h))
  forth (OpensLoop t) (a ∷ as') (o ∷ os) to h r = (fresh (Again t) ∷ a ∷ as', refl, subst (λ (x : Stacks). AllIn (fresh (Again t) ∷ a ∷ as') x) (sym r) (refl, refl, h))
  forth (OpensIf t) (a ∷ as') (o ∷ os) to h r =
      let i = take-forth (The I32 ∷ []) None a.operands.known a.operands.any I32 r.0 tt (subst (λ (st : List ValTy). InSeen a.operands st) r.1 h.1) in
      let b : Open Seen = put a (record { known = i.0.known; any = a.operands.any }) in (
        fresh (FirstArm t) ∷ b ∷ as',
        ap (λ (x : Result Taken WRule). go_on x (λ r. Ok (fresh (FirstArm t) ∷ put a (record { known = r.known; any = a.operands.any }) ∷ as'))) i.1,
        subst (λ (x : Stacks). AllIn (fresh (FirstArm t) ∷ b ∷ as') x) (sym r.2) (refl, refl, (h.0, i.3, h.2)),
      )
  forth Else (a ∷ as') (o ∷ os) to h r =
      let t = r.0 in (
        fresh (Straight t) ∷ as',
        arm-forth a.shape t a.operands as' (h.0 ∙ r.1) (subst (λ (st : List ValTy). InSeen a.operands st) r.2 h.1),
        subst (λ (x : Stacks). AllIn (fresh (Straight t) ∷ as') x) (sym r.3) (refl, refl, h.2),
      )
  forth End (a ∷ as') (o ∷ os) to h r =
      let t = result_of a.shape in
      let et : result_of a.shape ≡ result_of o.shape = ap result_of h.0 in
      let i : InSeen a.operands (option_to_list t) = subst (λ (st : List ValTy). InSeen a.operands st) (r.0 ∙ ap (λ (u : Option ValTy). option_to_list u) (sym et)) h.1 in
      let m : may_end a.shape ≡ true = ap may_end h.0 ∙ may_end-forth o.shape r.1 in (
        hand t as',
        ap (λ (b : Bool). if b then (if fits (option_to_list t) a.operands.known a.operands.any then Ok (hand t as') else Err EndOperands) else Err EndOperands) m
            ∙ ap (λ (b : Bool). if b then Ok (hand t as') else Err EndOperands) (fits-forth (option_to_list t) a.operands.known a.operands.any i),
        subst (λ (x : Stacks). AllIn (hand t as') x) (ap (λ (u : Option ValTy). given u os) et ∙ sym r.2) (hand-forth t as' os h.2),
      )

  pub back : (t : Token) (as' bs : List (Open Seen)) (to : Stacks) → check C t as' ≡ Ok bs → AllIn bs to → (os : Stacks) × AllIn as' os × leads C t os to
  back t [] bs to e h = absurd (cc)
  back (Plain w) (a ∷ as') bs to e h =
      let p = go_on-back (signature_in C (labels (a ∷ as')) w) (λ s. go_on (take_slots s.takes None a.operands.known a.operands.any) (λ r. Ok (put a (left_of s.left r a.operands.any) ∷ as'))) bs e in
      let s = p.0 in
      let q = go_on-back (take_slots s.takes None a.operands.known a.operands.any) (λ r. Ok (put a (left_of s.left r a.operands.any) ∷ as')) bs p.2 in
      let eb : bs ≡ put a (left_of s.left q.0 a.operands.any) ∷ as' = (let f = q.2 in cc) in
      let d = split (put a (left_of s.left q.0 a.operands.any)) as' to (subst (λ (x : List (Open Seen)). AllIn x to) eb h) in
      let i = applies-back s a.operands q.0 d.0.operands q.1 d.4 in
      let o : Open (List ValTy) = put d.0 i.0 in
      let all : AllIn (a ∷ as') (o ∷ d.1) = (d.3, i.1, d.5) in
      (o ∷ d.1, all, (s, d.0.operands, ap (λ (ls : Labels). signature_in C ls w) (sym (labels-same (a ∷ as') (o ∷ d.1) all)) ∙ p.1, i.2, d.2))
  back (OpensBlock t) (a ∷ as') bs to e h =
      let eb : bs ≡ fresh (Straight t) ∷ a ∷ as' = (cc) in
      let d = split (fresh (Straight t)) (a ∷ as') to (subst (λ (x : List (Open Seen)). AllIn x to) eb h) in
      let f = split a as' d.1 d.5 in
      (f.0 ∷ f.1, (f.3, f.4, f.5), d.2 ∙ ap (λ (x : Open (List ValTy)). x ∷ d.1) (fresh-is (Straight t) d.0 d.3 d.4) ∙ ap (λ (x : Stacks). record { shape = Straight t; operands = [] } ∷ x) f.2)
  back (OpensLoop t) (a ∷ as') bs to e h =
      let eb : bs ≡ fresh (Again t) ∷ a ∷ as' = (cc) in
      let d = split (fresh (Again t)) (a ∷ as') to (subst (λ (x : List (Open Seen)). AllIn x to) eb h) in
      let f = split a as' d.1 d.5 in
      (f.0 ∷ f.1, (f.3, f.4, f.5), d.2 ∙ ap (λ (x : Open (List ValTy)). x ∷ d.1) (fresh-is (Again t) d.0 d.3 d.4) ∙ ap (λ (x : Stacks). record { shape = Again t; operands = [] } ∷ x) f.2)
  back (OpensIf t) (a ∷ as') bs to e h =
      let q = go_on-back (take_slots (The I32 ∷ []) None a.operands.known a.operands.any) (λ r. Ok (fresh (FirstArm t) ∷ put a (record { known = r.known; any = a.operands.any }) ∷ as')) bs e in
      let b : Open Seen = put a (record { known = q.0.known; any = a.operands.any }) in
      let eb : bs ≡ fresh (FirstArm t) ∷ b ∷ as' = (let f = q.2 in cc) in
      let d = split (fresh (FirstArm t)) (b ∷ as') to (subst (λ (x : List (Open Seen)). AllIn x to) eb h) in
      let f = split b as' d.1 d.5 in
      let i = take-back (The I32 ∷ []) None a.operands.known a.operands.any q.0 (pick q.0.same) f.0.operands q.1 (pick-is q.0.same) f.4 in
      (put f.0 (I32 ∷ f.0.operands) ∷ f.1, (f.3, i.1, f.5), (f.0.operands, refl, d.2 ∙ ap (λ (x : Open (List ValTy)). x ∷ d.1) (fresh-is (FirstArm t) d.0 d.3 d.4) ∙ ap (λ (x : Stacks). record { shape = FirstArm t; operands = [] } ∷ x) f.2))
  back Else (a ∷ as') bs to e h =
      let p = arm-back a.shape a.operands as' bs e in
      let t = p.0 in
      let d = split (fresh (Straight t)) as' to (subst (λ (x : List (Open Seen)). AllIn x to) p.3 h) in
      let o : Open (List ValTy) = record { shape = FirstArm t; operands = option_to_list t } in
      (o ∷ d.1, (p.1, p.2, d.5), (t, refl, refl, d.2 ∙ ap (λ (x : Open (List ValTy)). x ∷ d.1) (fresh-is (Straight t) d.0 d.3 d.4)))
  back End (a ∷ as') bs to e h =
      let t = result_of a.shape in
      let p = if-back (may_end a.shape) (if fits (option_to_list t) a.operands.known a.operands.any then Ok (hand t as') else Err EndOperands) EndOperands bs e in
      let q = if-back (fits (option_to_list t) a.operands.known a.operands.any) (Ok (hand t as')) EndOperands bs p.1 in
      let eb : bs ≡ hand t as' = (let f = q.1 in cc) in
      let i = hand-back t as' to (subst (λ (x : List (Open Seen)). AllIn x to) eb h) in
      let o : Open (List ValTy) = record { shape = a.shape; operands = option_to_list t } in
      (o ∷ i.0, (refl, fits-back (option_to_list t) a.operands.known a.operands.any q.0, i.1), (refl, may_end-back a.shape p.0, i.2))

  pub walk-forth : (ts : List Token) (as' : List (Open Seen)) (os to : Stacks) → AllIn as' os → Leads C ts os to → (bs : List (Open Seen)) × (walk C ts as' ≡ Ok bs) × AllIn bs to
  walk-forth [] as' os to h r = (as', refl, subst (λ (x : Stacks). AllIn as' x) r h)
  walk-forth (t ∷ ts) as' os to h r =
      let i = forth t as' os r.0 h r.1 in
      let j = walk-forth ts i.0 r.0 to i.2 r.2 in
      (j.0, ap (λ (x : Result (List (Open Seen)) WRule). go_on x (walk C ts)) i.1 ∙ j.1, j.2)

  pub walk-back : (ts : List Token) (as' bs : List (Open Seen)) (to : Stacks) → walk C ts as' ≡ Ok bs → AllIn bs to → (os : Stacks) × AllIn as' os × Leads C ts os to
  walk-back [] as' bs to e h = let q : bs ≡ as' = (cc) in (to, subst (λ (x : List (Open Seen)). AllIn x to) q h, refl)
  walk-back (t ∷ ts) as' bs to e h =
      let p = go_on-back (check C t as') (walk C ts) bs e in
      let i = walk-back ts p.0 bs to p.2 h in
      let j = back t as' p.0 i.0 p.1 i.1 in
      (j.0, j.1, (i.0, j.2, i.2))
