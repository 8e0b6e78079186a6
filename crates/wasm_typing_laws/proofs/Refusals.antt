-- Where the checker refuses, the place is the first and the rule is the first.
use Rattle.std.proofs.Common.{◌≡◌, ◌∙◌, ℕ, ◌+◌, ◌<◌, ◌≤◌, Bool, true, false, List, [], ◌∷◌, ◌++◌, ◌⊎◌, inl, inr, map, take, drop, length, slice_get, refl, sym, ap, subst, append_assoc, arith}
use Rattle.std.specs.Prelude.{Option, Some, None, Result, Ok, Err, if◌then◌else◌, option_to_list}
use Rattle.std.proofs.lemmas.List.{take-append-le, take-append-drop, length-append}
use Rattle.std.proofs.Math.Seq.{take-length}
use Rattle.wasm_ast.specs.declared.types.ValTy.{ValTy}
use Rattle.wasm_ast.specs.declared.types.ValTy.TheVariants.{I32}
use Rattle.wasm_ast.specs.declared.instructions.WInstr.{WInstr}
use Rattle.wasm_typing.specs.declared.rule.WRule.{WRule}
use Rattle.wasm_typing.specs.declared.rule.WRule.TheVariants.{OperandMissing, OperandType, EndOperands}
use Rattle.wasm_typing.specs.declared.context.Context.{Context}
use Rattle.wasm_typing.specs.Signatures.{Slot, The, signature_in}
use Rattle.wasm_typing.specs.Typing.{fill, Labels, IsTypedBody}
use Rattle.wasm_typing.specs.Tokens.{Token, Plain, OpensBlock, OpensLoop, OpensIf, Else, End, code_of}
use Rattle.wasm_typing.specs.Places.{closed, IsFirstPlace, HasDerivation}
use Rattle.wasm_typing.specs.ByteOrder.{Shape, Straight, Again, FirstArm, Open, labels, result_of, put, Leads, start}
use Rattle.wasm_typing_laws.specs.Checking.{Seen, take_one, took, take_slots, left_of, fits, go_on, fresh, may_end, hand, second_arm, check, walk, begin}
use Rattle.wasm_typing.specs.Violations.{IsOperandRule, Stands, IsRuleOf, IsFirstViolation}
use Rattle.wasm_typing_laws.proofs.Stacks.{Is, In, InSeen, pick, pick-is, some_in, one-forth, one-back}
use Rattle.wasm_typing_laws.proofs.Steps.{Stacks, AllIn, labels-same, go_on-back, walk-forth, walk-back}
use Rattle.wasm_typing_laws.proofs.Closing.{walk-append, closed-forth, closed-back, begin-is}
use Rattle.wasm_typing_laws.proofs.Join.{derivation-forth, derivation-back, body-forth, body-back}

-- the first operand that is refused, among the stacks that fit what is known, where the instruction is used at a type that fits
pub record Refused (v : Option ValTy) (ks : List (Option ValTy)) (any : Bool) (takes : List Slot) (rule : WRule) : Type 0 where
  pub above : List Slot
  pub slot : Slot
  pub beneath : List Slot
  pub parted : takes ≡ above ++ slot ∷ beneath
  pub taken : (t : ValTy) × (below : List ValTy) × Is v t × In ks any (map (fill t) above ++ below)
  pub wrong : (t : ValTy) (below : List ValTy) → Is v t → In ks any (map (fill t) above ++ fill t slot ∷ below) → ⊥
  pub which : ((rule ≡ OperandMissing) × ((t u : ValTy) (below : List ValTy) → Is v t → In ks any (map (fill t) above ++ u ∷ below) → ⊥))
      ⊎ ((rule ≡ OperandType) × (t : ValTy) × (u : ValTy) × (below : List ValTy) × Is v t × In ks any (map (fill t) above ++ u ∷ below))

refuse : (ss : List Slot) (v : Option ValTy) (ks : List (Option ValTy)) (any : Bool) (rule : WRule) → take_slots ss v ks any ≡ Err rule → Refused v ks any ss rule
refuse [] v ks any rule e = absurd (cc)
refuse (s ∷ ss) v [] true rule e =
    let i = refuse ss v [] true rule e in
    record {
      above = s ∷ i.above;
      slot = i.slot;
      beneath = i.beneath;
      parted = ap (λ (x : List Slot). s ∷ x) i.parted;
      taken = (i.taken.0, i.taken.1, i.taken.2, tt);
      wrong = λ t below h k. i.wrong t below h tt;
      which = i.which;
    }
refuse (s ∷ ss) v [] false rule e = record {
  above = [];
  slot = s;
  beneath = ss;
  parted = refl;
  taken = (pick v, [], pick-is v, refl);
  wrong = λ t below h k. absurd (cc);
  which = inl (cc, λ t u below h k. absurd (cc));
}
refuse (s ∷ ss) v (k ∷ ks) any rule e =
    elim (take_one s v k) as (λ o. (take_one s v k ≡ o) → took o (λ now. take_slots ss now ks any) ≡ Err rule → Refused v (k ∷ ks) any (s ∷ ss) rule) [
      | None ↦ λ q f. record {
        above = [];
        slot = s;
        beneath = ss;
        parted = refl;
        taken = (pick v, map pick (k ∷ ks), pick-is v, some_in (k ∷ ks) any);
        wrong = λ t below h g. let o = one-forth s v k t h g.0 in absurd (cc);
        which = inr (cc, pick v, pick k, map pick ks, pick-is v, some_in (k ∷ ks) any);
      }
      | Some now ↦ λ q f.
          let i = refuse ss now ks any rule f in
          let down : (t : ValTy) → Is v t → Is k (fill t s) → Is now t = λ t h g. (let o = one-forth s v k t h g in let same : o.0 ≡ now = (cc) in subst (λ (x : Option ValTy). Is x t) same o.2) in
          let up = one-back s v k now i.taken.0 q i.taken.2 in
          record {
            above = s ∷ i.above;
            slot = i.slot;
            beneath = i.beneath;
            parted = ap (λ (x : List Slot). s ∷ x) i.parted;
            taken = (i.taken.0, i.taken.1, up.0, (up.1, i.taken.3));
            wrong = λ t below h g. i.wrong t below (down t h g.0) g.1;
            which = elim i.which [
              | inl (er, none) ↦ inl (er, λ t u below h g. none t u below (down t h g.0) g.1)
              | inr (er, t, u, below, h, g) ↦ let up' = one-back s v k now t q h in inr (er, t, u, below, up'.0, (up'.1, g))
            ];
          }
    ] refl e

pub some_all : (as' : List (Open Seen)) → (os : Stacks) × AllIn as' os
some_all [] = ([], tt)
some_all (a ∷ as') =
    let i = some_all as' in
    (record { shape = a.shape; operands = map pick a.operands.known } ∷ i.0, (refl, some_in a.operands.known a.operands.any, i.1))

prefix : {A : Type 0} (front back : List A) (k : ℕ) → k ≤ length front → take k (front ++ back) ≡ take k front
prefix front back k le = take-append-le k front back le

take_front : {A : Type 0} (front back : List A) → take (length front) (front ++ back) ≡ front
take_front front back = let le : length front ≤ length front = omega arith in take-append-le (length front) front back le ∙ take-length front

at_end : {A : Type 0} (front : List A) (x : A) (rest : List A) → take (length front + 1) (front ++ x ∷ rest) ≡ front ++ x ∷ []
at_end front x rest =
    let e : front ++ x ∷ rest ≡ (front ++ x ∷ []) ++ rest = sym (append_assoc front (x ∷ []) rest) in
    let l : length (front ++ x ∷ []) ≡ length front + 1 = length-append front (x ∷ []) in
    ap (take (length front + 1)) e ∙ ap (λ (n : ℕ). take n ((front ++ x ∷ []) ++ rest)) (sym l) ∙ take_front (front ++ x ∷ []) rest

there_at : {A : Type 0} (front : List A) (x : A) (rest : List A) → slice_get (front ++ x ∷ rest) (length front) ≡ Some x
there_at [] x rest = refl
there_at (y ∷ front) x rest = there_at front x rest

module _ (C : Context) where
  reached-forth : (front : List Token) (as' : List (Open Seen)) (os : Stacks) → walk C front (begin C) ≡ Ok as' → Leads C front (start C) os → AllIn as' os
  reached-forth front as' os e d =
      let i = walk-forth C front (begin C) (start C) os (refl, refl, tt) d in
      let same : i.0 ≡ as' = (let f = i.1 in cc) in
      subst (λ (x : List (Open Seen)). AllIn x os) same i.2

  pub reached-back : (front : List Token) (as' : List (Open Seen)) (os : Stacks) → walk C front (begin C) ≡ Ok as' → AllIn as' os → Leads C front (start C) os
  reached-back front as' os e h =
      let i = walk-back C front (begin C) as' os e h in
      subst (λ (x : Stacks). Leads C front x os) (begin-is C i.0 i.1) i.2

  stands-forth : (front : List Token) (a : Open Seen) (as' : List (Open Seen)) (st : List ValTy) → walk C front (begin C) ≡ Ok (a ∷ as') → Stands C front st → InSeen a.operands st
  stands-forth front a as' st e s = subst (λ (x : List ValTy). InSeen a.operands x) s.3 (reached-forth front (a ∷ as') (s.0 ∷ s.1) e s.2).1

  stands-back : (front : List Token) (a : Open Seen) (as' : List (Open Seen)) (st : List ValTy) → walk C front (begin C) ≡ Ok (a ∷ as') → InSeen a.operands st → Stands C front st
  stands-back front a as' st e h =
      let i = some_all as' in
      (record { shape = a.shape; operands = st }, i.0, reached-back front (a ∷ as') (record { shape = a.shape; operands = st } ∷ i.0) e (refl, h, i.1), refl)

  operand_rule : (front : List Token) (a : Open Seen) (as' : List (Open Seen)) (ss : List Slot) (rule : WRule) → walk C front (begin C) ≡ Ok (a ∷ as') → take_slots ss None a.operands.known a.operands.any ≡ Err rule → IsOperandRule (Stands C front) ss rule
  operand_rule front a as' ss rule e q =
      let r = refuse ss None a.operands.known a.operands.any rule q in
      record {
        above = r.above;
        slot = r.slot;
        beneath = r.beneath;
        parted = r.parted;
        taken = (r.taken.0, r.taken.1, stands-back front a as' (map (fill r.taken.0) r.above ++ r.taken.1) e r.taken.3);
        wrong = λ t below s. r.wrong t below tt (stands-forth front a as' (map (fill t) r.above ++ fill t r.slot ∷ below) e s);
        which = elim r.which [
          | inl (er, none) ↦ inl (er, λ t u below s. none t u below tt (stands-forth front a as' (map (fill t) r.above ++ u ∷ below) e s))
          | inr (er, t, u, below, h, g) ↦ inr (er, t, u, below, stands-back front a as' (map (fill t) r.above ++ u ∷ below) e g)
        ];
      }

  end_rule : (b : Bool) (x : Result (List (Open Seen)) WRule) (rule : WRule) → (if b then x else Err EndOperands) ≡ Err rule → (rule ≡ EndOperands) ⊎ (x ≡ Err rule)
  end_rule true x rule e = inr e
  end_rule false x rule e = inl (cc)

  arm_rule : (s : Shape) (seen : Seen) (as' : List (Open Seen)) (rule : WRule) → second_arm s seen as' ≡ Err rule → rule ≡ EndOperands
  arm_rule (Straight t) seen as' rule e = cc
  arm_rule (Again t) seen as' rule e = cc
  arm_rule (FirstArm t) seen as' rule e =
      elim (end_rule (fits (option_to_list t) seen.known seen.any) (Ok (fresh (Straight t) ∷ as')) rule e) [ inl h ↦ h | inr h ↦ absurd (cc) ]

  go_on-refused : {A B : Type 0} (x : Result A WRule) (go : A → Result B WRule) (rule : WRule) → go_on x go ≡ Err rule → (x ≡ Err rule) ⊎ ((a : A) × (x ≡ Ok a) × (go a ≡ Err rule))
  go_on-refused (Err e) go rule h = inl (cc)
  go_on-refused (Ok a) go rule h = inr (a, refl, h)

  check_rule : (front : List Token) (t : Token) (a : Open Seen) (as' : List (Open Seen)) (rule : WRule) → walk C front (begin C) ≡ Ok (a ∷ as') → check C t (a ∷ as') ≡ Err rule → IsRuleOf C front t rule
  check_rule front (Plain w) a as' rule e q = λ os d.
      let el : labels (a ∷ as') ≡ labels os = labels-same (a ∷ as') os (reached-forth front (a ∷ as') os e d) in
      elim (go_on-refused (signature_in C (labels (a ∷ as')) w) (λ s. go_on (take_slots s.takes None a.operands.known a.operands.any) (λ r. Ok (put a (left_of s.left r a.operands.any) ∷ as'))) rule q) [
        | inl f ↦ inl (ap (λ (ls : Labels). signature_in C ls w) (sym el) ∙ f)
        | inr (s, f, g) ↦
            elim (go_on-refused (take_slots s.takes None a.operands.known a.operands.any) (λ r. Ok (put a (left_of s.left r a.operands.any) ∷ as')) rule g) [
              | inl h ↦ inr (s, ap (λ (ls : Labels). signature_in C ls w) (sym el) ∙ f, operand_rule front a as' s.takes rule e h)
              | inr (r, h, k) ↦ absurd (cc)
            ]
      ]
  check_rule front (OpensBlock t) a as' rule e q = cc
  check_rule front (OpensLoop t) a as' rule e q = cc
  check_rule front (OpensIf t) a as' rule e q =
      elim (go_on-refused (take_slots (The I32 ∷ []) None a.operands.known a.operands.any) (λ r. Ok (fresh (FirstArm t) ∷ put a (record { known = r.known; any = a.operands.any }) ∷ as')) rule q) [
        | inl h ↦ operand_rule front a as' (The I32 ∷ []) rule e h
        | inr (r, h, k) ↦ absurd (cc)
      ]
  check_rule front Else a as' rule e q = arm_rule a.shape a.operands as' rule q
  check_rule front End a as' rule e q =
      elim (end_rule (may_end a.shape) (if fits (option_to_list (result_of a.shape)) a.operands.known a.operands.any then Ok (hand (result_of a.shape) as') else Err EndOperands) rule q) [
        | inl h ↦ h
        | inr h ↦ elim (end_rule (fits (option_to_list (result_of a.shape)) a.operands.known a.operands.any) (Ok (hand (result_of a.shape) as')) rule h) [ inl k ↦ k | inr k ↦ absurd (cc) ]
      ]

  pub first_violation : (body : List WInstr) (front : List Token) (t : Token) (rest : List Token) (a : Open Seen) (as' : List (Open Seen)) (rule : WRule) → code_of body ≡ front ++ t ∷ rest → walk C front (begin C) ≡ Ok (a ∷ as') → check C t (a ∷ as') ≡ Err rule → IsFirstViolation C body (length front) rule
  first_violation body front t rest a as' rule ec e q =
      let code = code_of body in
      let back : take (length front) code ≡ front = ap (take (length front)) ec ∙ take_front front (t ∷ rest) in
      record {
        place = record {
          within = (let l = length-append front (t ∷ rest) in let lc = ap length ec in let one : length (t ∷ rest) ≡ 1 + length rest = omega arith in omega (arith, l, lc, one));
          wrong = λ h.
              let i = closed-forth C (front ++ t ∷ []) (derivation-forth C (closed (front ++ t ∷ [])) (subst (λ (ts : List Token). HasDerivation C (closed ts)) (ap (take (length front + 1)) ec ∙ at_end front t rest) h)) in
              let w : walk C (front ++ t ∷ []) (begin C) ≡ Err rule = walk-append C front (t ∷ []) (begin C) ∙ ap (λ (x : Result (List (Open Seen)) WRule). go_on x (walk C (t ∷ []))) e ∙ ap (λ (x : Result (List (Open Seen)) WRule). go_on x (walk C [])) q in
              let f = i.1 in cc;
          least = λ k lt.
              let le : k + 1 ≤ length front = omega arith in
              let parts : take (k + 1) front ++ drop (k + 1) front ≡ front = take-append-drop (k + 1) front in
              let p = go_on-back (walk C (take (k + 1) front) (begin C)) (walk C (drop (k + 1) front)) (a ∷ as') (sym (walk-append C (take (k + 1) front) (drop (k + 1) front) (begin C)) ∙ ap (λ (ts : List Token). walk C ts (begin C)) parts ∙ e) in
              subst (λ (ts : List Token). HasDerivation C (closed ts)) (sym (ap (take (k + 1)) ec ∙ prefix front (t ∷ rest) (k + 1) le))
              (derivation-back C (closed (take (k + 1) front)) (closed-back C (take (k + 1) front) p.0 p.1));
        };
        token = t;
        there = ap (λ (ts : List Token). slice_get ts (length front)) ec ∙ there_at front t rest;
        broken = subst (λ (ts : List Token). IsRuleOf C ts t rule) (sym back) (check_rule front t a as' rule e q);
      }

  -- the checker goes on to the end exactly where the body is typed
  pub goes_through : (body : List WInstr) → walk C (code_of body) (begin C) ≡ Ok [] → IsTypedBody C body
  goes_through body e = body-back C body (reached-back (code_of body) [] [] e tt)

  pub typed_goes : (body : List WInstr) → IsTypedBody C body → walk C (code_of body) (begin C) ≡ Ok []
  typed_goes body d =
      let i = walk-forth C (code_of body) (begin C) (start C) [] (refl, refl, tt) (body-forth C body d) in
      i.1 ∙ ap (λ (x : List (Open Seen)). Ok x) (lone_context i.0 i.2)
    where
      lone_context : (as' : List (Open Seen)) → AllIn as' [] → as' ≡ []
      lone_context [] h = refl
      lone_context (a ∷ as') h = absurd h

  -- a typed body has no first place, and no body has two
  pub typed_none : (body : List WInstr) (at : ℕ) → IsTypedBody C body → IsFirstPlace C body at → ⊥
  typed_none body at d f =
      let code = code_of body in
      let parts : take (at + 1) (code_of body) ++ drop (at + 1) (code_of body) ≡ code_of body = take-append-drop (at + 1) (code_of body) in
      let p = go_on-back (walk C (take (at + 1) (code_of body)) (begin C)) (walk C (drop (at + 1) (code_of body))) [] (sym (walk-append C (take (at + 1) (code_of body)) (drop (at + 1) (code_of body)) (begin C)) ∙ ap (λ (ts : List Token). walk C ts (begin C)) parts ∙ typed_goes body d) in
      f.wrong (derivation-back C (closed (take (at + 1) (code_of body))) (closed-back C (take (at + 1) (code_of body)) p.0 p.1))

  pub one_place : (body : List WInstr) (a b : ℕ) → IsFirstPlace C body a → IsFirstPlace C body b → a ≡ b
  one_place body a b f g =
      let no_less : a < b → ⊥ = λ lt. f.wrong (g.least a lt) in
      let no_more : b < a → ⊥ = λ lt. g.wrong (f.least b lt) in
      omega (arith, no_less, no_more)
