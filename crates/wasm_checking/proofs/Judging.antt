-- How answers about tokens are put together.
use Rattle.std.proofs.Common.{zero, suc, get_or, ◌<◌, take, drop, slice_get, append_assoc, add-one, ◌≡◌, ◌∙◌, ℕ, ◌+◌, Bool, true, false, List, [], ◌∷◌, ◌++◌, inl, inr, length, refl, sym, ap, subst, arith}
use Rattle.std.specs.Prelude.{Option, Some, None, Result, Ok, Err, option_to_list, if◌then◌else◌, OnOk, is_some, flat_map, ⊤}
use Rattle.std.proofs.lemmas.List.{append-nil}
use Rattle.std.specs.Borrow.{Bor}
use Rattle.wasm_ast.specs.declared.operation.OperationRef.{OperationRef}
use Rattle.wasm_ast.specs.declared.operation.OperationRef.TheVariants as ref
use Rattle.wasm_checking.proofs.Operations.{NestsNone, plain_tokens}
use Rattle.wasm_operands.specs.declared.operands.Stop.{Stop}
use Rattle.wasm_ast.specs.declared.types.ValTy.{ValTy}
use Rattle.wasm_ast.specs.declared.types.ValTy.TheVariants.{I32}
use Rattle.wasm_ast.specs.declared.instructions.WInstr.{WInstr, out-WInstr}
use Rattle.wasm_ast.specs.declared.instructions.WInstr.TheOpen.{WInstr-F}
use Rattle.wasm_typing.specs.declared.rule.WRule.{WRule}
use Rattle.wasm_typing.specs.declared.rule.WRule.TheVariants.{EndOperands}
use Rattle.wasm_typing.specs.declared.context.Context.{Context}
use Rattle.wasm_ast.specs.Operations.{Operation, operation_in}
use Rattle.wasm_ast.specs.OperationViews.{operation_seen}
use Rattle.wasm_typing.specs.Signatures.{The, Signature, signature_in, signature_of}
use Rattle.wasm_typing.specs.Typing.{Labels}
use Rattle.wasm_typing.specs.Tokens.{Token, Plain, OpensBlock, OpensLoop, OpensIf, Else, End, bare, tokens_of}
use Rattle.wasm_typing.specs.ByteOrder.{Shape, Straight, Again, FirstArm, Open, labels, label_of, result_of, put}
use Rattle.wasm_typing_laws.specs.Checking.{Seen, take_slots, left_of, go_on, check, walk, fits, fresh, may_end, hand}
use Rattle.wasm_typing_laws.proofs.Layers.{signature-bare}
use Rattle.wasm_operands.specs.Taking.{handed, needed, applied}
use Rattle.wasm_plain_checking.specs.Answers.{plain_checked, IsChecked}
use Rattle.wasm_checking.specs.Judging.{Judged, StandsAt, ViolatedAt, NoList, on_check, of_shape, judge, TypesTo, Violates, TypesList, ViolatesList}

module _ (C : Context) where
  abbrev pub and_then : Judged → List Token → Judged
  and_then (StandsAt as' at) ts = judge C ts as' at
  and_then (ViolatedAt at r) ts = ViolatedAt at r
  and_then NoList ts = NoList

  pub judge-append : (xs ys : List Token) (as' : List (Open Seen)) (at : ℕ) → judge C (xs ++ ys) as' at ≡ and_then (judge C xs as' at) ys
  judge-append [] ys as' at = refl
  judge-append (t ∷ xs) ys [] at = refl
  judge-append (t ∷ xs) ys (a ∷ as') at =
      elim (check C t (a ∷ as')) as (λ v. on_check v at (λ mid. judge C (xs ++ ys) mid (at + 1)) ≡ and_then (on_check v at (λ mid. judge C xs mid (at + 1))) ys) [ Err r ↦ refl | Ok mid ↦ judge-append xs ys mid (at + 1) ]

  pub goes-none : (ls : Labels) (s : Seen) (at : ℕ) → TypesTo C ls [] s at s at
  goes-none ls s at = record { goes = λ shape around el. refl }

  pub goes-more : (ls : Labels) (xs ys : List Token) (s1 s2 s3 : Seen) (a b c : ℕ) → TypesTo C ls xs s1 a s2 b → TypesTo C ls ys s2 b s3 c → TypesTo C ls (xs ++ ys) s1 a s3 c
  goes-more ls xs ys s1 s2 s3 a b c g h = record {
    goes = λ shape around el.
        judge-append xs ys (of_shape shape s1 ∷ around) a ∙ ap (λ j. and_then j ys) (g.goes shape around el) ∙ h.goes shape around el;
  }

  pub breaks-later : (ls : Labels) (xs ys : List Token) (s1 s2 : Seen) (a b at : ℕ) (r : WRule) → TypesTo C ls xs s1 a s2 b → Violates C ls ys s2 b at r → Violates C ls (xs ++ ys) s1 a at r
  breaks-later ls xs ys s1 s2 a b at r g h = record {
    breaks = λ shape around el.
        judge-append xs ys (of_shape shape s1 ∷ around) a ∙ ap (λ j. and_then j ys) (g.goes shape around el) ∙ h.breaks shape around el;
  }

  pub breaks-first : (ls : Labels) (xs ys : List Token) (s1 : Seen) (a at : ℕ) (r : WRule) → Violates C ls xs s1 a at r → Violates C ls (xs ++ ys) s1 a at r
  breaks-first ls xs ys s1 a at r h = record {
    breaks = λ shape around el.
        judge-append xs ys (of_shape shape s1 ∷ around) a ∙ ap (λ j. and_then j ys) (h.breaks shape around el);
  }

  plain-ok : (x : Result Signature WRule) (shape : Shape) (s now : Seen) (around : List (Open Seen)) → go_on x (λ y. applied y s) ≡ Ok now →
      go_on x (λ y. go_on (take_slots y.takes None s.known s.any) (λ r. Ok (put (of_shape shape s) (left_of y.left r s.any) ∷ around))) ≡ Ok (of_shape shape now ∷ around)
  plain-ok (Err e) shape s now around q = absurd (cc)
  plain-ok (Ok y) shape s now around q =
      elim (take_slots y.takes None s.known s.any) as (λ v. go_on v (λ r. Ok (left_of y.left r s.any)) ≡ Ok now → go_on v (λ r. Ok (put (of_shape shape s) (left_of y.left r s.any) ∷ around)) ≡ Ok (of_shape shape now ∷ around)) [
        | Err e ↦ λ f. absurd (cc)
        | Ok r ↦ λ f. let same : left_of y.left r s.any ≡ now = (cc) in ap (λ (z : Seen). Ok (of_shape shape z ∷ around)) same
      ] q

  plain-err : (x : Result Signature WRule) (shape : Shape) (s : Seen) (rule : WRule) (around : List (Open Seen)) → go_on x (λ y. applied y s) ≡ Err rule →
      go_on x (λ y. go_on (take_slots y.takes None s.known s.any) (λ r. Ok (put (of_shape shape s) (left_of y.left r s.any) ∷ around))) ≡ Err rule
  plain-err (Err e) shape s rule around q = (cc)
  plain-err (Ok y) shape s rule around q =
      elim (take_slots y.takes None s.known s.any) as (λ v. go_on v (λ r. Ok (left_of y.left r s.any)) ≡ Err rule → go_on v (λ r. Ok (put (of_shape shape s) (left_of y.left r s.any) ∷ around)) ≡ Err rule) [
        | Err e ↦ λ f. (cc)
        | Ok r ↦ λ f. absurd (cc)
      ] q

  signature-there : (ls : Labels) (w : WInstr-F WInstr) (o : Operation WInstr) (shape : Shape) (around : List (Open Seen)) → o ≡ operation_in w → ls ≡ label_of shape ∷ labels around → signature_in C (label_of shape ∷ labels around) (bare w) ≡ signature_of C ls o
  signature-there ls w o shape around eo el =
      signature-bare C (label_of shape ∷ labels around) w ∙ ap (λ (l : Labels). signature_of C l (operation_in w)) (sym el) ∙ ap (λ (x : Operation WInstr). signature_of C ls x) (sym eo)

  pub plain-goes : (ls : Labels) (w : WInstr-F WInstr) (o : Operation WInstr) (s now : Seen) (at : ℕ) → o ≡ operation_in w → plain_checked C ls o s ≡ Ok now → TypesTo C ls (Plain (bare w) ∷ []) s at now (at + 1)
  plain-goes ls w o s now at eo q = record {
    goes = λ shape around el.
        ap (λ (x : Result Signature WRule). on_check (go_on x (λ y. go_on (take_slots y.takes None s.known s.any) (λ r. Ok (put (of_shape shape s) (left_of y.left r s.any) ∷ around)))) at (λ mid. StandsAt mid (at + 1))) (signature-there ls w o shape around eo el)
        ∙ ap (λ x. on_check x at (λ mid. StandsAt mid (at + 1))) (plain-ok (signature_of C ls o) shape s now around q);
  }

  pub plain-breaks : (ls : Labels) (w : WInstr-F WInstr) (o : Operation WInstr) (s : Seen) (at : ℕ) (rule : WRule) → o ≡ operation_in w → plain_checked C ls o s ≡ Err rule → Violates C ls (Plain (bare w) ∷ []) s at at rule
  plain-breaks ls w o s at rule eo q = record {
    breaks = λ shape around el.
        ap (λ (x : Result Signature WRule). on_check (go_on x (λ y. go_on (take_slots y.takes None s.known s.any) (λ r. Ok (put (of_shape shape s) (left_of y.left r s.any) ∷ around)))) at (λ mid. StandsAt mid (at + 1))) (signature-there ls w o shape around eo el)
        ∙ ap (λ x. on_check x at (λ mid. StandsAt mid (at + 1))) (plain-err (signature_of C ls o) shape s rule around q);
  }

  -- a list that ends: in a block, a loop, a second arm or a first one without result
  pub end-goes : (shape : Shape) (after : Seen) (around : List (Open Seen)) (at : ℕ) → may_end shape ≡ true → fits (option_to_list (result_of shape)) after.known after.any ≡ true → judge C (End ∷ []) (of_shape shape after ∷ around) at ≡ StandsAt (hand (result_of shape) around) (at + 1)
  end-goes shape after around at m f =
      ap (λ (b : Bool). on_check (if b then (if fits (option_to_list (result_of shape)) after.known after.any then Ok (hand (result_of shape) around) else Err EndOperands) else Err EndOperands) at (λ mid. StandsAt mid (at + 1))) m
      ∙ ap (λ (b : Bool). on_check (if b then Ok (hand (result_of shape) around) else Err EndOperands) at (λ mid. StandsAt mid (at + 1))) f

  pub end-refuses : (shape : Shape) (after : Seen) (around : List (Open Seen)) → fits (option_to_list (result_of shape)) after.known after.any ≡ false → check C End (of_shape shape after ∷ around) ≡ Err EndOperands
  end-refuses shape after around f =
      let bad : Result (List (Open Seen)) WRule = Err EndOperands in
      ap (λ (b : Bool). if may_end shape then (if b then Ok (hand (result_of shape) around) else Err EndOperands) else Err EndOperands) f
      ∙ elim (may_end shape) as (λ b. (if b then bad else bad) ≡ bad) [ true ↦ refl | false ↦ refl ]

  else-refuses : (t : Option ValTy) (after : Seen) (around : List (Open Seen)) → fits (option_to_list t) after.known after.any ≡ false → check C Else (of_shape (FirstArm t) after ∷ around) ≡ Err EndOperands
  else-refuses t after around f = ap (λ (b : Bool). if b then Ok (fresh (Straight t) ∷ around) else Err EndOperands) f

  -- a list of this shape that goes to its end
  whole : (shape : Shape) (a : Open Seen) (around : List (Open Seen)) (ls : Labels) (ts : List Token) (from to : ℕ) → may_end shape ≡ true → ls ≡ labels (a ∷ around) → TypesList C (label_of shape ∷ ls) (result_of shape) ts from to →
      judge C (ts ++ End ∷ []) (fresh shape ∷ a ∷ around) from ≡ StandsAt (hand (result_of shape) (a ∷ around)) (to + 1)
  whole shape a around ls ts from to m el e =
      judge-append ts (End ∷ []) (fresh shape ∷ a ∷ around) from
      ∙ ap (λ j. and_then j (End ∷ [])) (e.goes.goes shape (a ∷ around) (ap (λ (l : Labels). label_of shape ∷ l) el))
      ∙ end-goes shape e.after (a ∷ around) to m e.fit

  -- and one that does not
  pub broken : (shape : Shape) (around : List (Open Seen)) (ls : Labels) (ts : List Token) (stop : Token) (rest : List Token) (from at : ℕ) (r : WRule) → ls ≡ labels around →
      ((after : Seen) → fits (option_to_list (result_of shape)) after.known after.any ≡ false → check C stop (of_shape shape after ∷ around) ≡ Err EndOperands) →
      ViolatesList C (label_of shape ∷ ls) (result_of shape) ts from at r → judge C (ts ++ (stop ∷ rest)) (fresh shape ∷ around) from ≡ ViolatedAt at r
  broken shape around ls ts stop rest from at r el refuses (inl b) =
      judge-append ts (stop ∷ rest) (fresh shape ∷ around) from ∙ ap (λ j. and_then j (stop ∷ rest)) (b.breaks shape around (ap (λ (l : Labels). label_of shape ∷ l) el))
  broken shape around ls ts stop rest from at r el refuses (inr (after, g, f, er)) =
      judge-append ts (stop ∷ rest) (fresh shape ∷ around) from ∙ ap (λ j. and_then j (stop ∷ rest)) (g.goes shape around (ap (λ (l : Labels). label_of shape ∷ l) el))
      ∙ ap (λ x. on_check x at (λ mid. judge C rest mid (at + 1))) (refuses after f) ∙ ap (λ (x : WRule). ViolatedAt at x) (sym er)

  pub block-goes : (ls : Labels) (s : Seen) (ts : List Token) (t : Option ValTy) (from to : ℕ) → TypesList C (t ∷ ls) t ts (from + 1) to → TypesTo C ls (OpensBlock t ∷ (ts ++ End ∷ [])) s from (handed t s) (to + 1)
  block-goes ls s ts t from to e = record { goes = λ shape around el. whole (Straight t) (of_shape shape s) around ls ts (from + 1) to refl el e }

  pub loop-goes : (ls : Labels) (s : Seen) (ts : List Token) (t : Option ValTy) (from to : ℕ) → TypesList C (None ∷ ls) t ts (from + 1) to → TypesTo C ls (OpensLoop t ∷ (ts ++ End ∷ [])) s from (handed t s) (to + 1)
  loop-goes ls s ts t from to e = record { goes = λ shape around el. whole (Again t) (of_shape shape s) around ls ts (from + 1) to refl el e }

  pub block-breaks : (ls : Labels) (s : Seen) (ts : List Token) (t : Option ValTy) (from at : ℕ) (r : WRule) → ViolatesList C (t ∷ ls) t ts (from + 1) at r → Violates C ls (OpensBlock t ∷ (ts ++ End ∷ [])) s from at r
  block-breaks ls s ts t from at r b = record { breaks = λ shape around el. broken (Straight t) (of_shape shape s ∷ around) ls ts End [] (from + 1) at r el (λ after f. end-refuses (Straight t) after (of_shape shape s ∷ around) f) b }

  pub loop-breaks : (ls : Labels) (s : Seen) (ts : List Token) (t : Option ValTy) (from at : ℕ) (r : WRule) → ViolatesList C (None ∷ ls) t ts (from + 1) at r → Violates C ls (OpensLoop t ∷ (ts ++ End ∷ [])) s from at r
  loop-breaks ls s ts t from at r b = record { breaks = λ shape around el. broken (Again t) (of_shape shape s ∷ around) ls ts End [] (from + 1) at r el (λ after f. end-refuses (Again t) after (of_shape shape s ∷ around) f) b }

  -- the condition of an if
  condition-ok : (t : Option ValTy) (shape : Shape) (s now : Seen) (around : List (Open Seen)) → needed (The I32 ∷ []) s ≡ Ok now → check C (OpensIf t) (of_shape shape s ∷ around) ≡ Ok (fresh (FirstArm t) ∷ of_shape shape now ∷ around)
  condition-ok t shape s now around q =
      elim (take_slots (The I32 ∷ []) None s.known s.any) as (λ v. go_on v (λ r. Ok (record { known = r.known; any = s.any })) ≡ Ok now → go_on v (λ r. Ok (fresh (FirstArm t) ∷ put (of_shape shape s) (record { known = r.known; any = s.any }) ∷ around)) ≡ Ok (fresh (FirstArm t) ∷ of_shape shape now ∷ around)) [
        | Err e ↦ λ f. absurd (cc)
        | Ok r ↦ λ f. let same : record { known = r.known; any = s.any } ≡ now = (cc) in ap (λ (z : Seen). Ok (fresh (FirstArm t) ∷ of_shape shape z ∷ around)) same
      ] q

  condition-err : (t : Option ValTy) (shape : Shape) (s : Seen) (rule : WRule) (around : List (Open Seen)) → needed (The I32 ∷ []) s ≡ Err rule → check C (OpensIf t) (of_shape shape s ∷ around) ≡ Err rule
  condition-err t shape s rule around q =
      elim (take_slots (The I32 ∷ []) None s.known s.any) as (λ v. go_on {B = Seen} v (λ r. Ok (record { known = r.known; any = s.any })) ≡ Err rule → go_on v (λ r. Ok (fresh (FirstArm t) ∷ put (of_shape shape s) (record { known = r.known; any = s.any }) ∷ around)) ≡ Err rule) [
        | Err e ↦ λ f. (cc)
        | Ok r ↦ λ f. absurd (cc)
      ] q

  abbrev pub if_tokens : Option ValTy → List Token → List Token
  if_tokens t rest = OpensIf t ∷ rest

  opened : (t : Option ValTy) (rest : List Token) (shape : Shape) (s now : Seen) (around : List (Open Seen)) (from : ℕ) → needed (The I32 ∷ []) s ≡ Ok now → judge C (OpensIf t ∷ rest) (of_shape shape s ∷ around) from ≡ judge C rest (fresh (FirstArm t) ∷ of_shape shape now ∷ around) (from + 1)
  opened t rest shape s now around from q = ap (λ x. on_check x from (λ mid. judge C rest mid (from + 1))) (condition-ok t shape s now around q)

  pub condition-breaks : (ls : Labels) (s : Seen) (rest : List Token) (t : Option ValTy) (from : ℕ) (r : WRule) → needed (The I32 ∷ []) s ≡ Err r → Violates C ls (OpensIf t ∷ rest) s from from r
  condition-breaks ls s rest t from r q = record { breaks = λ shape around el. ap (λ x. on_check x from (λ mid. judge C rest mid (from + 1))) (condition-err t shape s r around q) }

  pub if-goes : (ls : Labels) (s now : Seen) (ts : List Token) (from to : ℕ) → needed (The I32 ∷ []) s ≡ Ok now → TypesList C (None ∷ ls) None ts (from + 1) to → TypesTo C ls (OpensIf None ∷ (ts ++ End ∷ [])) s from now (to + 1)
  if-goes ls s now ts from to q e = record { goes = λ shape around el. opened None (ts ++ End ∷ []) shape s now around from q ∙ whole (FirstArm None) (of_shape shape now) around ls ts (from + 1) to refl el e }

  pub if-breaks : (ls : Labels) (s now : Seen) (ts : List Token) (t : Option ValTy) (from at : ℕ) (r : WRule) → needed (The I32 ∷ []) s ≡ Ok now → ViolatesList C (t ∷ ls) t ts (from + 1) at r → Violates C ls (OpensIf t ∷ (ts ++ End ∷ [])) s from at r
  if-breaks ls s now ts t from at r q b = record { breaks = λ shape around el. opened t (ts ++ End ∷ []) shape s now around from q ∙ broken (FirstArm t) (of_shape shape now ∷ around) ls ts End [] (from + 1) at r el (λ after f. end-refuses (FirstArm t) after (of_shape shape now ∷ around) f) b }

  pub no_else : (ls : Labels) (s now : Seen) (ts : List Token) (t : ValTy) (from to : ℕ) → needed (The I32 ∷ []) s ≡ Ok now → TypesList C (Some t ∷ ls) (Some t) ts (from + 1) to → Violates C ls (OpensIf (Some t) ∷ (ts ++ End ∷ [])) s from to EndOperands
  no_else ls s now ts t from to q e = record {
    breaks = λ shape around el.
        opened (Some t) (ts ++ End ∷ []) shape s now around from q
        ∙ judge-append ts (End ∷ []) (fresh (FirstArm (Some t)) ∷ of_shape shape now ∷ around) (from + 1)
        ∙ ap (λ j. and_then j (End ∷ [])) (e.goes.goes (FirstArm (Some t)) (of_shape shape now ∷ around) (ap (λ (l : Labels). Some t ∷ l) el));
  }

  turned : (t : Option ValTy) (ls : Labels) (xs rest : List Token) (around : List (Open Seen)) (from mid : ℕ) → ls ≡ labels around → TypesList C (t ∷ ls) t xs from mid → judge C (xs ++ (Else ∷ rest)) (fresh (FirstArm t) ∷ around) from ≡ judge C rest (fresh (Straight t) ∷ around) (mid + 1)
  turned t ls xs rest around from mid el e =
      judge-append xs (Else ∷ rest) (fresh (FirstArm t) ∷ around) from
      ∙ ap (λ j. and_then j (Else ∷ rest)) (e.goes.goes (FirstArm t) around (ap (λ (l : Labels). t ∷ l) el))
      ∙ ap (λ (b : Bool). on_check (if b then Ok (fresh (Straight t) ∷ around) else Err EndOperands) mid (λ as'. judge C rest as' (mid + 1))) e.fit

  pub if_else-goes : (ls : Labels) (s now : Seen) (xs ys : List Token) (t : Option ValTy) (from mid to : ℕ) → needed (The I32 ∷ []) s ≡ Ok now → TypesList C (t ∷ ls) t xs (from + 1) mid → TypesList C (t ∷ ls) t ys (mid + 1) to → TypesTo C ls (OpensIf t ∷ (xs ++ (Else ∷ (ys ++ End ∷ [])))) s from (handed t now) (to + 1)
  if_else-goes ls s now xs ys t from mid to q e f = record {
    goes = λ shape around el.
        opened t (xs ++ (Else ∷ (ys ++ End ∷ []))) shape s now around from q
        ∙ turned t ls xs (ys ++ End ∷ []) (of_shape shape now ∷ around) (from + 1) mid el e
        ∙ whole (Straight t) (of_shape shape now) around ls ys (mid + 1) to refl el f;
  }

  pub first_arm-breaks : (ls : Labels) (s now : Seen) (xs rest : List Token) (t : Option ValTy) (from at : ℕ) (r : WRule) → needed (The I32 ∷ []) s ≡ Ok now → ViolatesList C (t ∷ ls) t xs (from + 1) at r → Violates C ls (OpensIf t ∷ (xs ++ (Else ∷ rest))) s from at r
  first_arm-breaks ls s now xs rest t from at r q b = record { breaks = λ shape around el. opened t (xs ++ (Else ∷ rest)) shape s now around from q ∙ broken (FirstArm t) (of_shape shape now ∷ around) ls xs Else rest (from + 1) at r el (λ after f. else-refuses t after (of_shape shape now ∷ around) f) b }

  pub second_arm-breaks : (ls : Labels) (s now : Seen) (xs ys : List Token) (t : Option ValTy) (from mid at : ℕ) (r : WRule) → needed (The I32 ∷ []) s ≡ Ok now → TypesList C (t ∷ ls) t xs (from + 1) mid → ViolatesList C (t ∷ ls) t ys (mid + 1) at r → Violates C ls (OpensIf t ∷ (xs ++ (Else ∷ (ys ++ End ∷ [])))) s from at r
  second_arm-breaks ls s now xs ys t from mid at r q e b = record {
    breaks = λ shape around el.
        opened t (xs ++ (Else ∷ (ys ++ End ∷ []))) shape s now around from q
        ∙ turned t ls xs (ys ++ End ∷ []) (of_shape shape now ∷ around) (from + 1) mid el e
        ∙ broken (Straight t) (of_shape shape now ∷ around) ls ys End [] (mid + 1) at r el (λ after f. end-refuses (Straight t) after (of_shape shape now ∷ around) f) b;
  }

  -- the answer in terms of the checker
  pub reached-walk : (ts : List Token) (as' bs : List (Open Seen)) (at to : ℕ) → judge C ts as' at ≡ StandsAt bs to → walk C ts as' ≡ Ok bs
  reached-walk [] as' bs at to e = let same : as' ≡ bs = (cc) in ap (λ (x : List (Open Seen)). Ok x) same
  reached-walk (t ∷ ts) [] bs at to e = absurd (cc)
  reached-walk (t ∷ ts) (a ∷ as') bs at to e =
      elim (check C t (a ∷ as')) as (λ v. on_check v at (λ mid. judge C ts mid (at + 1)) ≡ StandsAt bs to → go_on v (walk C ts) ≡ Ok bs) [ Err r ↦ λ f. absurd (cc) | Ok mid ↦ λ f. reached-walk ts mid bs (at + 1) to f ] e

  pub record Stopped (ts : List Token) (as' : List (Open Seen)) (steps : ℕ) (r : WRule) : Type 0 where
    pub front : List Token
    pub token : Token
    pub rest : List Token
    pub top : Open Seen
    pub around : List (Open Seen)
    pub parted : ts ≡ front ++ token ∷ rest
    pub came : walk C front as' ≡ Ok (top ∷ around)
    pub refused : check C token (top ∷ around) ≡ Err r
    pub long : steps ≡ length front

  pub refused-stopped : (ts : List Token) (as' : List (Open Seen)) (from at : ℕ) (r : WRule) → judge C ts as' from ≡ ViolatedAt at r → (steps : ℕ) × (at ≡ from + steps) × Stopped ts as' steps r
  refused-stopped [] as' from at r e = absurd (cc)
  refused-stopped (t ∷ ts) [] from at r e = absurd (cc)
  refused-stopped (t ∷ ts) (a ∷ as') from at r e =
      elim (check C t (a ∷ as')) as (λ v. (check C t (a ∷ as') ≡ v) → on_check v from (λ mid. judge C ts mid (from + 1)) ≡ ViolatedAt at r → (steps : ℕ) × (at ≡ from + steps) × Stopped (t ∷ ts) (a ∷ as') steps r) [
        | Err x ↦ λ q f.
            let here : from ≡ at = (cc) in
            (0, omega (arith, here), record { front = []; token = t; rest = ts; top = a; around = as'; parted = refl; came = refl; refused = (cc); long = refl })
        | Ok mid ↦ λ q f.
            let i = refused-stopped ts mid (from + 1) at r f in
            let s = i.2 in
            let place = i.1 in
            (i.0 + 1, omega (arith, place), record { front = t ∷ s.front; token = s.token; rest = s.rest; top = s.top; around = s.around; parted = ap (λ (x : List Token). t ∷ x) s.parted; came = ap (λ x. go_on x (walk C s.front)) q ∙ s.came; refused = s.refused; long = (let l = s.long in omega (arith, l)) })
      ] refl e

pub tokens_more : (xs : List WInstr) (i : ℕ) (x : WInstr) → slice_get xs i ≡ Some x → flat_map tokens_of (take (i + 1) xs) ≡ flat_map tokens_of (take i xs) ++ tokens_of x
tokens_more [] i x e = absurd (cc)
tokens_more (y ∷ xs) zero x e =
    let same : y ≡ x = (cc) in
    ap (λ (l : List Token). tokens_of y ++ l) refl ∙ append-nil (tokens_of y) ∙ ap tokens_of same
tokens_more (y ∷ xs) (suc i) x e =
    ap (λ (n : ℕ). flat_map tokens_of (take n (y ∷ xs))) (add-one (suc i))
    ∙ ap (λ (n : ℕ). tokens_of y ++ flat_map tokens_of (take n xs)) (sym (add-one i))
    ∙ ap (λ (l : List Token). tokens_of y ++ l) (tokens_more xs i x e) ∙ sym (append_assoc (tokens_of y) (flat_map tokens_of (take i xs)) (tokens_of x))

pub tokens_parted : (xs : List WInstr) (i : ℕ) (x : WInstr) → slice_get xs i ≡ Some x → flat_map tokens_of xs ≡ flat_map tokens_of (take i xs) ++ (tokens_of x ++ flat_map tokens_of (drop (i + 1) xs))
tokens_parted [] i x e = absurd (cc)
tokens_parted (y ∷ xs) zero x e = let same : y ≡ x = (cc) in ap (λ (z : WInstr). tokens_of z ++ flat_map tokens_of xs) same
tokens_parted (y ∷ xs) (suc i) x e =
    ap (λ (l : List Token). tokens_of y ++ l) (tokens_parted xs i x e)
    ∙ sym (append_assoc (tokens_of y) (flat_map tokens_of (take i xs)) (tokens_of x ++ flat_map tokens_of (drop (i + 1) xs)))
    ∙ ap (λ (n : ℕ). (tokens_of y ++ flat_map tokens_of (take i xs)) ++ (tokens_of x ++ flat_map tokens_of (drop n xs))) (add-one i)
    ∙ ap (λ (n : ℕ). (tokens_of y ++ flat_map tokens_of (take i xs)) ++ (tokens_of x ++ flat_map tokens_of (drop n (y ∷ xs)))) (sym (add-one (suc i)))

pub on_ok-map : {T E : Type 0} {P Q : Type 0} (r : Result T E) → OnOk r P → (P → Q) → OnOk r Q
on_ok-map (Ok x) h f = f h
on_ok-map (Err e) h f = h

module _ {C : Context} {ls : Labels} where
  pub goes_as : {ts us : List Token} {s now : Seen} {a b : ℕ} → ts ≡ us → TypesTo C ls us s a now b → TypesTo C ls ts s a now b
  goes_as {s = s} {now = now} {a = a} {b = b} e g = subst (λ (x : List Token). TypesTo C ls x s a now b) (sym e) g

  pub breaks_as : {ts us : List Token} {s : Seen} {a at : ℕ} {r : WRule} → ts ≡ us → Violates C ls us s a at r → Violates C ls ts s a at r
  breaks_as {s = s} {a = a} {at = at} {r = r} e g = subst (λ (x : List Token). Violates C ls x s a at r) (sym e) g

  goes_at : {ts : List Token} {s now now' : Seen} {a b b' : ℕ} → now' ≡ now → b' ≡ b → TypesTo C ls ts s a now b → TypesTo C ls ts s a now' b'
  goes_at {ts} {s} {now} {now'} {a} {b} {b'} en eb g = subst (λ (x : ℕ). TypesTo C ls ts s a now' x) (sym eb) (subst (λ (x : Seen). TypesTo C ls ts s a x b) (sym en) g)

  ends_at : {l : Option ValTy} {t : Option ValTy} {ts : List Token} {a a' b : ℕ} → a ≡ a' → TypesList C (l ∷ ls) t ts a b → TypesList C (l ∷ ls) t ts a' b
  ends_at {l} {t} {ts} {a} {a'} {b} e g = subst (λ (x : ℕ). TypesList C (l ∷ ls) t ts x b) e g

  breaks_at : (l t : Option ValTy) (ts : List Token) (a a' at : ℕ) (r : WRule) → a ≡ a' → ViolatesList C (l ∷ ls) t ts a at r → ViolatesList C (l ∷ ls) t ts a' at r
  breaks_at l t ts a a' at r e g = subst (λ (x : ℕ). ViolatesList C (l ∷ ls) t ts x at r) e g

  pub block_goes : {s now : Seen} {ts : List Token} {t : Option ValTy} {from a b to : ℕ} → a ≡ from + 1 → TypesList C (t ∷ ls) t ts a b → to ≡ b + 1 → now ≡ handed t s → TypesTo C ls (OpensBlock t ∷ (ts ++ End ∷ [])) s from now to
  block_goes {s} {now} {ts} {t} {from} {a} {b} {to} ea e eb en = goes_at en eb (block-goes C ls s ts t from b (ends_at ea e))

  pub block_breaks : {s : Seen} {ts : List Token} {t : Option ValTy} {from a at : ℕ} {r : WRule} → a ≡ from + 1 → ViolatesList C (t ∷ ls) t ts a at r → Violates C ls (OpensBlock t ∷ (ts ++ End ∷ [])) s from at r
  block_breaks {s} {ts} {t} {from} {a} {at} {r} ea b = block-breaks C ls s ts t from at r (breaks_at t t ts a (from + 1) at r ea b)

  pub loop_goes : {s now : Seen} {ts : List Token} {t : Option ValTy} {from a b to : ℕ} → a ≡ from + 1 → TypesList C (None ∷ ls) t ts a b → to ≡ b + 1 → now ≡ handed t s → TypesTo C ls (OpensLoop t ∷ (ts ++ End ∷ [])) s from now to
  loop_goes {s} {now} {ts} {t} {from} {a} {b} {to} ea e eb en = goes_at en eb (loop-goes C ls s ts t from b (ends_at ea e))

  pub loop_breaks : {s : Seen} {ts : List Token} {t : Option ValTy} {from a at : ℕ} {r : WRule} → a ≡ from + 1 → ViolatesList C (None ∷ ls) t ts a at r → Violates C ls (OpensLoop t ∷ (ts ++ End ∷ [])) s from at r
  loop_breaks {s} {ts} {t} {from} {a} {at} {r} ea b = loop-breaks C ls s ts t from at r (breaks_at None t ts a (from + 1) at r ea b)

  pub if_goes : {s now : Seen} {ts : List Token} {t : Option ValTy} {from a b to : ℕ} → needed (The I32 ∷ []) s ≡ Ok now → a ≡ from + 1 → TypesList C (t ∷ ls) t ts a b → t ≡ None → to ≡ b + 1 → TypesTo C ls (OpensIf t ∷ (ts ++ End ∷ [])) s from now to
  if_goes {s} {now} {ts} {t} {from} {a} {b} {to} q ea e et eb =
      let d : TypesList C (None ∷ ls) None ts (from + 1) b = subst (λ (x : Option ValTy). TypesList C (x ∷ ls) x ts (from + 1) b) et (ends_at ea e) in
      subst (λ (x : Option ValTy). TypesTo C ls (OpensIf x ∷ (ts ++ End ∷ [])) s from now to) (sym et) (goes_at refl eb (if-goes C ls s now ts from b q d))

  pub if_breaks : {s now : Seen} {ts : List Token} {t : Option ValTy} {from a at : ℕ} {r : WRule} → needed (The I32 ∷ []) s ≡ Ok now → a ≡ from + 1 → ViolatesList C (t ∷ ls) t ts a at r → Violates C ls (OpensIf t ∷ (ts ++ End ∷ [])) s from at r
  if_breaks {s} {now} {ts} {t} {from} {a} {at} {r} q ea b = if-breaks C ls s now ts t from at r q (breaks_at t t ts a (from + 1) at r ea b)

  pub lacks_else : {s now : Seen} {ts : List Token} {t : Option ValTy} {from a b : ℕ} → needed (The I32 ∷ []) s ≡ Ok now → a ≡ from + 1 → TypesList C (t ∷ ls) t ts a b → is_some t ≡ true → {r : WRule} → EndOperands ≡ r → Violates C ls (OpensIf t ∷ (ts ++ End ∷ [])) s from b r
  lacks_else {s} {now} {ts} {t = None} {from} {a} {b} q ea e h er = absurd (cc)
  lacks_else {s} {now} {ts} {t = Some t} {from} {a} {b} q ea e h {r} er = subst (λ (x : WRule). Violates C ls (OpensIf (Some t) ∷ (ts ++ End ∷ [])) s from b x) er (no_else C ls s now ts t from b q (ends_at ea e))

  pub if_else_goes : {s now after : Seen} {xs ys : List Token} {t : Option ValTy} {from a b c d to : ℕ} → needed (The I32 ∷ []) s ≡ Ok now → a ≡ from + 1 → TypesList C (t ∷ ls) t xs a b → c ≡ b + 1 → TypesList C (t ∷ ls) t ys c d → to ≡ d + 1 → after ≡ handed t now → TypesTo C ls (OpensIf t ∷ (xs ++ (Else ∷ (ys ++ End ∷ [])))) s from after to
  if_else_goes {s} {now} {after} {xs} {ys} {t} {from} {a} {b} {c} {d} {to} q ea e ec f ed en = goes_at en ed (if_else-goes C ls s now xs ys t from b d q (ends_at ea e) (ends_at ec f))

  pub first_arm_breaks : (rest : List Token) {s now : Seen} {xs : List Token} {t : Option ValTy} {from a at : ℕ} {r : WRule} → needed (The I32 ∷ []) s ≡ Ok now → a ≡ from + 1 → ViolatesList C (t ∷ ls) t xs a at r → Violates C ls (OpensIf t ∷ (xs ++ (Else ∷ rest))) s from at r
  first_arm_breaks rest {s} {now} {xs} {t} {from} {a} {at} {r} q ea b = first_arm-breaks C ls s now xs rest t from at r q (breaks_at t t xs a (from + 1) at r ea b)

  pub second_arm_breaks : {s now : Seen} {xs ys : List Token} {t : Option ValTy} {from a b c at : ℕ} {r : WRule} → needed (The I32 ∷ []) s ≡ Ok now → a ≡ from + 1 → TypesList C (t ∷ ls) t xs a b → c ≡ b + 1 → ViolatesList C (t ∷ ls) t ys c at r → Violates C ls (OpensIf t ∷ (xs ++ (Else ∷ (ys ++ End ∷ [])))) s from at r
  second_arm_breaks {s} {now} {xs} {ys} {t} {from} {a} {b} {c} {at} {r} q ea e ec f = second_arm-breaks C ls s now xs ys t from b at r q (ends_at ea e) (breaks_at t t ys c (b + 1) at r ec f)

  -- under the same labels, which were given back
  pub goes_under : {ls' : Labels} {ts : List Token} {s now : Seen} {a b : ℕ} → ls' ≡ ls → TypesTo C ls' ts s a now b → TypesTo C ls ts s a now b
  goes_under {ts = ts} {s = s} {now = now} {a = a} {b = b} e g = subst (λ (x : Labels). TypesTo C x ts s a now b) e g

  pub breaks_under : {ls' : Labels} {ts : List Token} {s : Seen} {a at : ℕ} {r : WRule} → ls' ≡ ls → Violates C ls' ts s a at r → Violates C ls ts s a at r
  breaks_under {ts = ts} {s = s} {a = a} {at = at} {r = r} e g = subst (λ (x : Labels). Violates C x ts s a at r) e g

  pub ends_under : {ls' : Labels} {l t : Option ValTy} {ts : List Token} {a b : ℕ} → ls' ≡ ls → TypesList C (l ∷ ls') t ts a b → TypesList C (l ∷ ls) t ts a b
  ends_under {l = l} {t = t} {ts = ts} {a = a} {b = b} e g = subst (λ (x : Labels). TypesList C (l ∷ x) t ts a b) e g

  pub breaks_end_under : (l t : Option ValTy) (ts : List Token) (a at : ℕ) (r : WRule) {ls' : Labels} → ls' ≡ ls → ViolatesList C (l ∷ ls') t ts a at r → ViolatesList C (l ∷ ls) t ts a at r
  breaks_end_under l t ts a at r e g = subst (λ (x : Labels). ViolatesList C (l ∷ x) t ts a at r) e g

  pub list_goes : (xs : List WInstr) (i : ℕ) (x : WInstr) {s1 s2 s3 : Seen} {a b c : ℕ} → slice_get xs i ≡ Some x → TypesTo C ls (flat_map tokens_of (take i xs)) s1 a s2 b → TypesTo C ls (tokens_of x) s2 b s3 c → TypesTo C ls (flat_map tokens_of (take (i + 1) xs)) s1 a s3 c
  list_goes xs i x {s1} {s2} {s3} {a} {b} {c} e g h = goes_as (tokens_more xs i x e) (goes-more C ls (flat_map tokens_of (take i xs)) (tokens_of x) s1 s2 s3 a b c g h)

  pub list_breaks : (xs : List WInstr) (i : ℕ) (x : WInstr) {s1 s2 : Seen} {a b at : ℕ} {r : WRule} → slice_get xs i ≡ Some x → TypesTo C ls (flat_map tokens_of (take i xs)) s1 a s2 b → Violates C ls (tokens_of x) s2 b at r → Violates C ls (flat_map tokens_of xs) s1 a at r
  list_breaks xs i x {s1} {s2} {a} {b} {at} {r} e g h =
      breaks_as (tokens_parted xs i x e)
      (breaks-later C ls (flat_map tokens_of (take i xs)) (tokens_of x ++ flat_map tokens_of (drop (i + 1) xs)) s1 s2 a b at r g
      (breaks-first C ls (tokens_of x) (flat_map tokens_of (drop (i + 1) xs)) s2 b at r h))

pub none_of : (t : Option ValTy) → is_some t ≡ false → t ≡ None
none_of None e = refl
none_of (Some t) e = absurd (cc)

pub at_item : (xs : List WInstr) (i : ℕ) (x : WInstr) → i < length xs → x ≡ get_or xs i x → slice_get xs i ≡ Some x
at_item [] i x lt e = absurd (omega arith)
at_item (y ∷ xs) zero x lt e = ap (λ (z : WInstr). Some z) (sym e)
at_item (y ∷ xs) (suc i) x lt e = let le : i < length xs = omega arith in at_item xs i x le e

-- a plain instruction, by its operation
pub plain_done : {C : Context} {ls : Labels} (w : WInstr) (o : Operation WInstr) {s now : Seen} {at to : ℕ} → o ≡ operation_in (out-WInstr w) → NestsNone o → plain_checked C ls o s ≡ Ok now → to ≡ at + 1 → TypesTo C ls (tokens_of w) s at now to
plain_done {C} {ls} w o {s} {now} {at} {to} eo none q et = goes_as (plain_tokens w o eo none) (subst (λ (n : ℕ). TypesTo C ls (Plain (bare (out-WInstr w)) ∷ []) s at now n) (sym et) (plain-goes C ls (out-WInstr w) o s now at eo q))

pub plain_refused : {C : Context} {ls : Labels} (w : WInstr) (o : Operation WInstr) {s : Seen} {at : ℕ} {r : WRule} → o ≡ operation_in (out-WInstr w) → NestsNone o → plain_checked C ls o s ≡ Err r → Violates C ls (tokens_of w) s at at r
plain_refused {C} {ls} w o {s} {at} {r} eo none q = breaks_as (plain_tokens w o eo none) (plain-breaks C ls (out-WInstr w) o s at r eo q)

pub checked_err : (C : Context) (ls : Labels) (o : Operation WInstr) (before after : Seen) (r : Result ⊤ Stop) (x : WRule) → IsChecked C ls o before r after → r ≡ Err (Stop.Broken x) → plain_checked C ls o before ≡ Err x
checked_err C ls o before after r x h e = subst (λ (y : Result ⊤ Stop). IsChecked C ls o before y after) e h

pub nests_none : (o : OperationRef) → ((t : Option ValTy) (xs : Bor (List WInstr)) → o ≡ ref.Block t xs → ⊥) → ((t : Option ValTy) (xs : Bor (List WInstr)) → o ≡ ref.Loop t xs → ⊥) → ((t : Option ValTy) (xs : Bor (List WInstr)) → o ≡ ref.If t xs → ⊥) → ((t : Option ValTy) (xs ys : Bor (List WInstr)) → o ≡ ref.IfElse t xs ys → ⊥) → NestsNone (operation_seen o)
nests_none (ref.Block t xs) f g h k = absurd (f t xs refl)
nests_none (ref.Loop t xs) f g h k = absurd (g t xs refl)
nests_none (ref.If t xs) f g h k = absurd (h t xs refl)
nests_none (ref.IfElse t xs ys) f g h k = absurd (k t xs ys refl)
nests_none _ f g h k = record { block = λ t xs e. absurd (cc); loop = λ t xs e. absurd (cc); one_arm = λ t xs e. absurd (cc); two_arms = λ t xs ys e. absurd (cc) }
