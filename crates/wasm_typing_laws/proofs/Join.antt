-- Trees and byte order have the same derivations. From a tree: by induction on its derivation. To a given tree: by induction on its
-- size. To some tree, from any tokens: by induction on the tokens.
use Rattle.std.proofs.Common.{◌≡◌, ◌∙◌, ℕ, zero, suc, ◌≤◌, List, [], ◌∷◌, ◌++◌, refl, sym, ap, subst, append_assoc, arith, ◌⊎◌, inl, inr}
use Rattle.std.specs.Prelude.{Option, Some, None, option_to_list, flat_map, sum_by}
use Rattle.std.proofs.lemmas.List.Sums.{sum_by-cons}
use Rattle.wasm_ast.specs.declared.types.ValTy.{ValTy}
use Rattle.wasm_ast.specs.declared.instructions.WInstr.{WInstr, out-WInstr, roll-WInstr, out-roll-WInstr, Nop}
use Rattle.wasm_ast.specs.declared.instructions.WInstr.TheOpen.{WInstr-F}
use Rattle.wasm_ast.specs.Immediates.{immediate_in}
use Rattle.wasm_ast.proofs.Counts.{instruction_count, immediate_count, instruction_count-layer}
use Rattle.wasm_typing.specs.declared.context.Context.{Context}
use Rattle.wasm_typing.specs.Signatures.{signature_in}
use Rattle.wasm_typing.specs.Typing.{Labels, IsTyped, AreTyped, plain, block, loop, one_arm, two_arms, none, more, IsTypedBody}
use Rattle.wasm_typing.specs.Tokens.{Token, Plain, OpensBlock, OpensLoop, OpensIf, Else, End, bare, tokens_in, tokens_of, code_of}
use Rattle.wasm_typing.specs.Places.{HasDerivation}
use Rattle.wasm_typing.specs.ByteOrder.{Shape, Straight, Again, FirstArm, Open, labels, result_of, put, MayEnd, given, Leads, start}
use Rattle.wasm_typing_laws.proofs.Steps.{Stacks}
use Rattle.wasm_typing_laws.proofs.Layers.{tokens-layer, tokens-roll, signature-map, signature-bare, plain-tokens, full, full-tokens}

abbrev pub fresh : Shape → Open (List ValTy)
fresh s = record { shape = s; operands = [] }

-- a list and its end, and then the rest
pub list_end : (xs : List Token) (rest : List Token) → (xs ++ End ∷ []) ++ rest ≡ xs ++ (End ∷ rest)
list_end xs rest = append_assoc xs (End ∷ []) rest

pub two_lists_end : (xs ys rest : List Token) → (xs ++ (Else ∷ (ys ++ End ∷ []))) ++ rest ≡ xs ++ (Else ∷ (ys ++ (End ∷ rest)))
two_lists_end xs ys rest = append_assoc xs (Else ∷ (ys ++ End ∷ [])) rest ∙ ap (λ (y : List Token). xs ++ (Else ∷ y)) (list_end ys rest)

module _ (C : Context) where
  mutual
    pub forth_one : (ls : Labels) (w : WInstr-F WInstr) (st to : List ValTy) → IsTyped C ls w st to → (o : Open (List ValTy)) (os : Stacks) → ls ≡ labels (o ∷ os) → (rest : List Token) (z : Stacks) → Leads C rest (put o to ∷ os) z →
        Leads C (tokens_in tokens_of w ++ rest) (put o st ∷ os) z
    forth_one ls w st to (plain s e a) o os el rest z h =
        subst (λ (ts : List Token). Leads C (ts ++ rest) (put o st ∷ os) z) (sym (plain-tokens C ls s w e))
        (put o to ∷ os, (s, to, ap (λ (l : Labels). signature_in C l (bare w)) (sym el) ∙ signature-bare C ls w ∙ e, a, refl), h)
    forth_one ls w st to (block t xs e d ea) o os el rest z h =
        let i = forth_all (t ∷ ls) xs [] (option_to_list t) d (fresh (Straight t)) (put o st ∷ os) (ap (λ (l : Labels). t ∷ l) el) (End ∷ rest) z (put o to ∷ os, (refl, tt, ap (λ (x : List ValTy). put o x ∷ os) ea), h) in
        subst (λ (x : WInstr-F WInstr). Leads C (tokens_in tokens_of x ++ rest) (put o st ∷ os) z) (sym e)
        (fresh (Straight t) ∷ put o st ∷ os, refl, subst (λ (ts : List Token). Leads C ts (fresh (Straight t) ∷ put o st ∷ os) z) (sym (list_end (flat_map tokens_of xs) rest)) i)
    forth_one ls w st to (loop t xs e d ea) o os el rest z h =
        let i = forth_all (None ∷ ls) xs [] (option_to_list t) d (fresh (Again t)) (put o st ∷ os) (ap (λ (l : Labels). None ∷ l) el) (End ∷ rest) z (put o to ∷ os, (refl, tt, ap (λ (x : List ValTy). put o x ∷ os) ea), h) in
        subst (λ (x : WInstr-F WInstr). Leads C (tokens_in tokens_of x ++ rest) (put o st ∷ os) z) (sym e)
        (fresh (Again t) ∷ put o st ∷ os, refl, subst (λ (ts : List Token). Leads C ts (fresh (Again t) ∷ put o st ∷ os) z) (sym (list_end (flat_map tokens_of xs) rest)) i)
    forth_one ls w st to (one_arm xs e d eb) o os el rest z h =
        let i = forth_all (None ∷ ls) xs [] [] d (fresh (FirstArm None)) (put o to ∷ os) (ap (λ (l : Labels). None ∷ l) el) (End ∷ rest) z (put o to ∷ os, (refl, refl, refl), h) in
        subst (λ (x : WInstr-F WInstr). Leads C (tokens_in tokens_of x ++ rest) (put o st ∷ os) z) (sym e)
        (fresh (FirstArm None) ∷ put o to ∷ os, (to, eb, refl), subst (λ (ts : List Token). Leads C ts (fresh (FirstArm None) ∷ put o to ∷ os) z) (sym (list_end (flat_map tokens_of xs) rest)) i)
    forth_one ls w st to (two_arms t xs ys below e d f eb ea) o os el rest z h =
        let el' : t ∷ ls ≡ t ∷ labels (o ∷ os) = ap (λ (l : Labels). t ∷ l) el in
        let j = forth_all (t ∷ ls) ys [] (option_to_list t) f (fresh (Straight t)) (put o below ∷ os) el' (End ∷ rest) z (put o to ∷ os, (refl, tt, ap (λ (x : List ValTy). put o x ∷ os) ea), h) in
        let i = forth_all (t ∷ ls) xs [] (option_to_list t) d (fresh (FirstArm t)) (put o below ∷ os) el' (Else ∷ (flat_map tokens_of ys ++ (End ∷ rest))) z (fresh (Straight t) ∷ put o below ∷ os, (t, refl, refl, refl), j) in
        subst (λ (x : WInstr-F WInstr). Leads C (tokens_in tokens_of x ++ rest) (put o st ∷ os) z) (sym e)
        (fresh (FirstArm t) ∷ put o below ∷ os, (below, eb, refl), subst (λ (ts : List Token). Leads C ts (fresh (FirstArm t) ∷ put o below ∷ os) z) (sym (two_lists_end (flat_map tokens_of xs) (flat_map tokens_of ys) rest)) i)

    pub forth_all : (ls : Labels) (ws : List WInstr) (st to : List ValTy) → AreTyped C ls ws st to → (o : Open (List ValTy)) (os : Stacks) → ls ≡ labels (o ∷ os) → (rest : List Token) (z : Stacks) → Leads C rest (put o to ∷ os) z →
        Leads C (flat_map tokens_of ws ++ rest) (put o st ∷ os) z
    forth_all ls ws st to (none e q) o os el rest z h =
        subst (λ (xs : List WInstr). Leads C (flat_map tokens_of xs ++ rest) (put o st ∷ os) z) (sym e) (subst (λ (x : List ValTy). Leads C rest (put o x ∷ os) z) (sym q) h)
    forth_all ls ws st to (more x xs mid e d f) o os el rest z h =
        let i = forth_all ls xs mid to f o os el rest z h in
        let j = forth_one ls (out-WInstr x) st mid d o os el (flat_map tokens_of xs ++ rest) z i in
        subst (λ (vs : List WInstr). Leads C (flat_map tokens_of vs ++ rest) (put o st ∷ os) z) (sym e)
        (subst (λ (ts : List Token). Leads C ts (put o st ∷ os) z) (ap (λ (ts : List Token). ts ++ (flat_map tokens_of xs ++ rest)) (sym (tokens-layer x)) ∙ sym (append_assoc (tokens_of x) (flat_map tokens_of xs) rest)) j)

  -- a list leads as its derivation says
  abbrev pub Through : List WInstr → Type 0
  Through ws = (rest : List Token) (o : Open (List ValTy)) (os z : Stacks) → Leads C (flat_map tokens_of ws ++ rest) (o ∷ os) z →
      (to : List ValTy) × AreTyped C (labels (o ∷ os)) ws o.operands to × Leads C rest (put o to ∷ os) z

  back_one : (x : WInstr-F WInstr) (n : ℕ) → ((ws : List WInstr) → sum_by instruction_count ws ≤ n → Through ws) → immediate_count instruction_count (immediate_in x) ≤ n →
      (rest : List Token) (o : Open (List ValTy)) (os z : Stacks) → Leads C (tokens_in tokens_of x ++ rest) (o ∷ os) z →
      (to : List ValTy) × IsTyped C (labels (o ∷ os)) x o.operands to × Leads C rest (put o to ∷ os) z
  back_one (WInstr-F.Block t xs) n go le rest o os z h =
      let k = subst (λ (mid : Stacks). Leads C ((flat_map tokens_of xs ++ End ∷ []) ++ rest) mid z) h.1 h.2 in
      let i = go xs (omega arith) (End ∷ rest) (fresh (Straight t)) (o ∷ os) z (subst (λ (ts : List Token). Leads C ts (fresh (Straight t) ∷ o ∷ os) z) (list_end (flat_map tokens_of xs) rest) k) in
      let e = i.2 in (
        option_to_list t ++ o.operands,
        block t xs refl (subst (λ (st : List ValTy). AreTyped C (t ∷ labels (o ∷ os)) xs [] st) e.1.0 i.1) refl,
        subst (λ (mid : Stacks). Leads C rest mid z) e.1.2 e.2,
      )
  back_one (WInstr-F.Loop t xs) n go le rest o os z h =
      let k = subst (λ (mid : Stacks). Leads C ((flat_map tokens_of xs ++ End ∷ []) ++ rest) mid z) h.1 h.2 in
      let i = go xs (omega arith) (End ∷ rest) (fresh (Again t)) (o ∷ os) z (subst (λ (ts : List Token). Leads C ts (fresh (Again t) ∷ o ∷ os) z) (list_end (flat_map tokens_of xs) rest) k) in
      let e = i.2 in (
        option_to_list t ++ o.operands,
        loop t xs refl (subst (λ (st : List ValTy). AreTyped C (None ∷ labels (o ∷ os)) xs [] st) e.1.0 i.1) refl,
        subst (λ (mid : Stacks). Leads C rest mid z) e.1.2 e.2,
      )
  back_one (WInstr-F.If None xs) n go le rest o os z h =
      let below = h.1.0 in
      let k = subst (λ (mid : Stacks). Leads C ((flat_map tokens_of xs ++ End ∷ []) ++ rest) mid z) h.1.2 h.2 in
      let i = go xs (omega arith) (End ∷ rest) (fresh (FirstArm None)) (put o below ∷ os) z (subst (λ (ts : List Token). Leads C ts (fresh (FirstArm None) ∷ put o below ∷ os) z) (list_end (flat_map tokens_of xs) rest) k) in
      let e = i.2 in (
        below,
        one_arm xs refl (subst (λ (st : List ValTy). AreTyped C (None ∷ labels (o ∷ os)) xs [] st) e.1.0 i.1) h.1.1,
        subst (λ (mid : Stacks). Leads C rest mid z) e.1.2 e.2,
      )
  back_one (WInstr-F.If (Some t) xs) n go le rest o os z h =
      let below = h.1.0 in
      let k = subst (λ (mid : Stacks). Leads C ((flat_map tokens_of xs ++ End ∷ []) ++ rest) mid z) h.1.2 h.2 in
      let i = go xs (omega arith) (End ∷ rest) (fresh (FirstArm (Some t))) (put o below ∷ os) z (subst (λ (ts : List Token). Leads C ts (fresh (FirstArm (Some t)) ∷ put o below ∷ os) z) (list_end (flat_map tokens_of xs) rest) k) in
      let e = i.2.1.1 in absurd (cc)
  back_one (WInstr-F.IfElse t xs ys) n go le rest o os z h =
      let below = h.1.0 in
      let k = subst (λ (mid : Stacks). Leads C ((flat_map tokens_of xs ++ (Else ∷ (flat_map tokens_of ys ++ End ∷ []))) ++ rest) mid z) h.1.2 h.2 in
      let i = go xs (omega arith) (Else ∷ (flat_map tokens_of ys ++ (End ∷ rest))) (fresh (FirstArm t)) (put o below ∷ os) z
      (subst (λ (ts : List Token). Leads C ts (fresh (FirstArm t) ∷ put o below ∷ os) z) (two_lists_end (flat_map tokens_of xs) (flat_map tokens_of ys) rest) k) in
      let e = i.2 in
      let same : FirstArm t ≡ FirstArm e.1.0 = e.1.1 in
      let et : t ≡ e.1.0 = (cc) in
      let m : Leads C (flat_map tokens_of ys ++ (End ∷ rest)) (fresh (Straight t) ∷ put o below ∷ os) z =
      subst (λ (mid : Stacks). Leads C (flat_map tokens_of ys ++ (End ∷ rest)) mid z) (e.1.3 ∙ ap (λ (u : Option ValTy). fresh (Straight u) ∷ put o below ∷ os) (sym et)) e.2 in
      let j = go ys (omega arith) (End ∷ rest) (fresh (Straight t)) (put o below ∷ os) z m in
      let f = j.2 in (
        option_to_list t ++ below,
        two_arms t xs ys below refl
            (subst (λ (st : List ValTy). AreTyped C (t ∷ labels (o ∷ os)) xs [] st) (e.1.2 ∙ ap (λ (u : Option ValTy). option_to_list u) (sym et)) i.1)
            (subst (λ (st : List ValTy). AreTyped C (t ∷ labels (o ∷ os)) ys [] st) f.1.0 j.1) h.1.1 refl,
        subst (λ (mid : Stacks). Leads C rest mid z) f.1.2 f.2,
      )
  back_one x n go le rest o os z h =
      let r = h.1 in
      (r.1, plain r.0 (sym (signature-bare C (labels (o ∷ os)) x) ∙ r.2) r.3, subst (λ (mid : Stacks). Leads C rest mid z) r.4 h.2)

  back_all : (n : ℕ) (ws : List WInstr) → sum_by instruction_count ws ≤ n → Through ws
  back_all n [] le rest o os z h = (o.operands, none refl refl, h)
  back_all zero (w ∷ ws) le rest o os z h =
      let c = instruction_count-layer w in let l = sum_by-cons instruction_count w ws in absurd (omega (arith, c, l))
  back_all (suc n) (w ∷ ws) le rest o os z h =
      let c = instruction_count-layer w in
      let l = sum_by-cons instruction_count w ws in
      let k : Leads C (tokens_in tokens_of (out-WInstr w) ++ (flat_map tokens_of ws ++ rest)) (o ∷ os) z =
      subst (λ (ts : List Token). Leads C ts (o ∷ os) z) (append_assoc (tokens_of w) (flat_map tokens_of ws) rest ∙ ap (λ (ts : List Token). ts ++ (flat_map tokens_of ws ++ rest)) (tokens-layer w)) h in
      let i = back_one (out-WInstr w) n (back_all n) (omega (arith, c, l)) (flat_map tokens_of ws ++ rest) o os z k in
      let j = back_all n ws (omega (arith, c, l)) rest (put o i.0) os z i.2 in
      (j.0, more w ws i.0 refl i.1 j.1, j.2)

  -- a body is typed exactly where its code leads to the end
  pub body-forth : (body : List WInstr) → IsTypedBody C body → Leads C (code_of body) (start C) []
  body-forth body d = forth_all (C.result ∷ []) body [] (option_to_list C.result) d (fresh (Straight C.result)) [] refl (End ∷ []) [] ([], (refl, tt, refl), refl)

  pub body-back : (body : List WInstr) → Leads C (code_of body) (start C) [] → IsTypedBody C body
  body-back body d =
      let i = back_all (sum_by instruction_count body) body (omega arith) (End ∷ []) (fresh (Straight C.result)) [] [] d in
      subst (λ (st : List ValTy). AreTyped C (C.result ∷ []) body [] st) i.2.1.0 i.1

  pub derivation-forth : (ts : List Token) → HasDerivation C ts → Leads C ts (start C) []
  derivation-forth ts d = subst (λ (xs : List Token). Leads C xs (start C) []) (sym d.1) (body-forth d.0 d.2)

  -- what is still read of open lists: for each of them, the instructions and the end
  data Rests : List Token → Stacks → Type 0 where
    over : {ts : List Token} {os : Stacks} → ts ≡ [] → os ≡ [] → Rests ts os
    ends : {ts : List Token} {stacks : Stacks} (o : Open (List ValTy)) (os : Stacks) (xs : List WInstr) (rest : List Token) → stacks ≡ o ∷ os → ts ≡ flat_map tokens_of xs ++ (End ∷ rest) → MayEnd o.shape →
        AreTyped C (labels (o ∷ os)) xs o.operands (option_to_list (result_of o.shape)) → Rests rest (given (result_of o.shape) os) → Rests ts stacks
    turns : {ts : List Token} {stacks : Stacks} (o : Open (List ValTy)) (os : Stacks) (t : Option ValTy) (xs ys : List WInstr) (rest : List Token) → stacks ≡ o ∷ os → o.shape ≡ FirstArm t → ts ≡ flat_map tokens_of xs ++ (Else ∷ (flat_map tokens_of ys ++ (End ∷ rest))) →
        AreTyped C (labels (o ∷ os)) xs o.operands (option_to_list t) → AreTyped C (t ∷ labels os) ys [] (option_to_list t) → Rests rest (given t os) → Rests ts stacks

  abbrev EndsAs : List WInstr → List Token → Stacks → Type 0
  EndsAs xs rest [] = ⊥
  EndsAs xs rest (o ∷ os) = MayEnd o.shape × AreTyped C (labels (o ∷ os)) xs o.operands (option_to_list (result_of o.shape)) × Rests rest (given (result_of o.shape) os)

  abbrev TurnsAs : Option ValTy → List WInstr → List WInstr → List Token → Stacks → Type 0
  TurnsAs t xs ys rest [] = ⊥
  TurnsAs t xs ys rest (o ∷ os) = (o.shape ≡ FirstArm t) × AreTyped C (labels (o ∷ os)) xs o.operands (option_to_list t) × AreTyped C (t ∷ labels os) ys [] (option_to_list t) × Rests rest (given t os)

  abbrev IsEnded : List Token → Stacks → Type 0
  IsEnded ts os = (xs : List WInstr) × (rest : List Token) × (ts ≡ flat_map tokens_of xs ++ (End ∷ rest)) × EndsAs xs rest os

  abbrev IsTurned : List Token → Stacks → Type 0
  IsTurned ts os = (t : Option ValTy) × (xs : List WInstr) × (ys : List WInstr) × (rest : List Token) × (ts ≡ flat_map tokens_of xs ++ (Else ∷ (flat_map tokens_of ys ++ (End ∷ rest)))) × TurnsAs t xs ys rest os

  rests_of : (ts : List Token) (o : Open (List ValTy)) (os : Stacks) → Rests ts (o ∷ os) → IsEnded ts (o ∷ os) ⊎ IsTurned ts (o ∷ os)
  rests_of ts o os (over et eo) = absurd (cc)
  rests_of ts o os (ends p ps xs rest es et m f r) = inl (xs, rest, et, subst (λ (y : Stacks). EndsAs xs rest y) (sym es) (m, f, r))
  rests_of ts o os (turns p ps t xs ys rest es sh et f g r) = inr (t, xs, ys, rest, et, subst (λ (y : Stacks). TurnsAs t xs ys rest y) (sym es) (sh, f, g, r))

  -- one instruction more in front
  prepend : (x : WInstr) (front ts : List Token) (o : Open (List ValTy)) (os : Stacks) (st mid : List ValTy) → tokens_of x ≡ front → IsTyped C (labels (o ∷ os)) (out-WInstr x) st mid → Rests ts (put o mid ∷ os) → Rests (front ++ ts) (put o st ∷ os)
  prepend x front ts o os st mid ex d r =
      elim (rests_of ts (put o mid) os r) [
        | inl (xs, rest, et, (m, f, g)) ↦
            ends (put o st) os (x ∷ xs) rest refl
            (ap (λ (y : List Token). y ++ ts) (sym ex) ∙ ap (λ (y : List Token). tokens_of x ++ y) et ∙ sym (append_assoc (tokens_of x) (flat_map tokens_of xs) (End ∷ rest)))
            m (more x xs mid refl d f) g
        | inr (t, xs, ys, rest, et, (sh, f, g, k)) ↦
            turns (put o st) os t (x ∷ xs) ys rest refl sh
            (ap (λ (y : List Token). y ++ ts) (sym ex) ∙ ap (λ (y : List Token). tokens_of x ++ y) et ∙ sym (append_assoc (tokens_of x) (flat_map tokens_of xs) (Else ∷ (flat_map tokens_of ys ++ (End ∷ rest)))))
            (more x xs mid refl d f) g k
      ]

  -- a list that is no first arm ends
  straight : (t : Option ValTy) (ts : List Token) (os : Stacks) → Rests ts (fresh (Straight t) ∷ os) → IsEnded ts (fresh (Straight t) ∷ os)
  straight t ts os r = elim (rests_of ts (fresh (Straight t)) os r) [ inl i ↦ i | inr (u, xs, ys, rest, et, (sh, f, g, k)) ↦ absurd (cc) ]

  again : (t : Option ValTy) (ts : List Token) (os : Stacks) → Rests ts (fresh (Again t) ∷ os) → IsEnded ts (fresh (Again t) ∷ os)
  again t ts os r = elim (rests_of ts (fresh (Again t)) os r) [ inl i ↦ i | inr (u, xs, ys, rest, et, (sh, f, g, k)) ↦ absurd (cc) ]

  -- the tokens of a block, a loop or an if in front
  block_tokens : (x : WInstr-F WInstr) (first : Token) (xs : List WInstr) (ts rest : List Token) → tokens_in tokens_of x ≡ first ∷ (flat_map tokens_of xs ++ End ∷ []) → ts ≡ flat_map tokens_of xs ++ (End ∷ rest) → tokens_of (roll-WInstr x) ++ rest ≡ first ∷ ts
  block_tokens x first xs ts rest e et =
      ap (λ (y : List Token). y ++ rest) (tokens-roll x ∙ e) ∙ ap (λ (y : List Token). first ∷ y) (list_end (flat_map tokens_of xs) rest ∙ sym et)

  typed_roll : (x : WInstr-F WInstr) (ls : Labels) (st to : List ValTy) → IsTyped C ls x st to → IsTyped C ls (out-WInstr (roll-WInstr x)) st to
  typed_roll x ls st to d = subst (λ (y : WInstr-F WInstr). IsTyped C ls y st to) (sym (out-roll-WInstr x)) d

  build : (ts : List Token) (os : Stacks) → Leads C ts os [] → Rests ts os
  build [] os d = over refl d
  build (t ∷ ts) [] d = absurd d.1
  build (Plain w ∷ ts) (o ∷ os) d =
      let h = d.1 in
      let r : Rests ts (put o h.1 ∷ os) = build ts (put o h.1 ∷ os) (subst (λ (mid : Stacks). Leads C ts mid []) h.4 d.2) in
      prepend (roll-WInstr (full C (labels (o ∷ os)) w)) (Plain w ∷ []) ts o os o.operands h.1 (full-tokens C (labels (o ∷ os)) h.0 w h.2)
      (typed_roll (full C (labels (o ∷ os)) w) (labels (o ∷ os)) o.operands h.1 (plain h.0 (signature-map C (labels (o ∷ os)) (λ _. Nop) w ∙ h.2) h.3)) r
  build (OpensBlock t ∷ ts) (o ∷ os) d =
      let r = straight t ts (o ∷ os) (build ts (fresh (Straight t) ∷ o ∷ os) (subst (λ (mid : Stacks). Leads C ts mid []) d.1 d.2)) in
      let x : WInstr-F WInstr = WInstr-F.Block t r.0 in
      subst (λ (y : List Token). Rests y (o ∷ os)) (block_tokens x (OpensBlock t) r.0 ts r.1 refl r.2)
      (prepend (roll-WInstr x) (tokens_of (roll-WInstr x)) r.1 o os o.operands (option_to_list t ++ o.operands) refl (typed_roll x (labels (o ∷ os)) o.operands (option_to_list t ++ o.operands) (block t r.0 refl r.3.1 refl)) r.3.2)
  build (OpensLoop t ∷ ts) (o ∷ os) d =
      let r = again t ts (o ∷ os) (build ts (fresh (Again t) ∷ o ∷ os) (subst (λ (mid : Stacks). Leads C ts mid []) d.1 d.2)) in
      let x : WInstr-F WInstr = WInstr-F.Loop t r.0 in
      subst (λ (y : List Token). Rests y (o ∷ os)) (block_tokens x (OpensLoop t) r.0 ts r.1 refl r.2)
      (prepend (roll-WInstr x) (tokens_of (roll-WInstr x)) r.1 o os o.operands (option_to_list t ++ o.operands) refl (typed_roll x (labels (o ∷ os)) o.operands (option_to_list t ++ o.operands) (loop t r.0 refl r.3.1 refl)) r.3.2)
  build (OpensIf t ∷ ts) (o ∷ os) d =
      let below = d.1.0 in
      let k = rests_of ts (fresh (FirstArm t)) (put o below ∷ os) (build ts (fresh (FirstArm t) ∷ put o below ∷ os) (subst (λ (mid : Stacks). Leads C ts mid []) d.1.2 d.2)) in
      elim k [
        | inl (xs, rest, et, (m, f, g)) ↦
            let x : WInstr-F WInstr = WInstr-F.If t xs in
            let a : IsTyped C (labels (o ∷ os)) x o.operands below =
            one_arm xs (ap (λ (u : Option ValTy). WInstr-F.If u xs) m) (subst (λ (u : Option ValTy). AreTyped C (u ∷ labels (o ∷ os)) xs [] (option_to_list u)) m f) d.1.1 in
            subst (λ (y : List Token). Rests y (o ∷ os)) (block_tokens x (OpensIf t) xs ts rest refl et)
            (prepend (roll-WInstr x) (tokens_of (roll-WInstr x)) rest o os o.operands below refl (typed_roll x (labels (o ∷ os)) o.operands below a)
            (subst (λ (u : Option ValTy). Rests rest (put o (option_to_list u ++ below) ∷ os)) m g))
        | inr (u, xs, ys, rest, et, (sh, f, g, r)) ↦
            let eu : u ≡ t = (cc) in
            let x : WInstr-F WInstr = WInstr-F.IfElse t xs ys in
            let after : List ValTy = option_to_list t ++ below in
            let a : IsTyped C (labels (o ∷ os)) x o.operands after =
            two_arms t xs ys below refl (subst (λ (v : Option ValTy). AreTyped C (t ∷ labels (o ∷ os)) xs [] (option_to_list v)) eu f) (subst (λ (v : Option ValTy). AreTyped C (v ∷ labels (o ∷ os)) ys [] (option_to_list v)) eu g) d.1.1 refl in
            subst (λ (y : List Token). Rests y (o ∷ os))
            (ap (λ (y : List Token). y ++ rest) (tokens-roll x) ∙ ap (λ (y : List Token). OpensIf t ∷ y) (two_lists_end (flat_map tokens_of xs) (flat_map tokens_of ys) rest ∙ sym et))
            (prepend (roll-WInstr x) (tokens_of (roll-WInstr x)) rest o os o.operands after refl (typed_roll x (labels (o ∷ os)) o.operands after a)
            (subst (λ (v : Option ValTy). Rests rest (put o (option_to_list v ++ below) ∷ os)) eu r))
      ]
  build (Else ∷ ts) (o ∷ os) d =
      let h = d.1 in
      let r = straight h.0 ts os (build ts (fresh (Straight h.0) ∷ os) (subst (λ (mid : Stacks). Leads C ts mid []) h.3 d.2)) in
      turns o os h.0 [] r.0 r.1 refl h.1 (ap (λ (y : List Token). Else ∷ y) r.2) (none refl h.2) r.3.1 r.3.2
  build (End ∷ ts) (o ∷ os) d =
      let h = d.1 in
      ends o os [] ts refl refl h.1 (none refl h.0) (build ts (given (result_of o.shape) os) (subst (λ (mid : Stacks). Leads C ts mid []) h.2 d.2))

  nothing_left : (ts : List Token) → Rests ts [] → ts ≡ []
  nothing_left ts (over et eo) = et
  nothing_left ts (ends p ps xs rest es et m f r) = absurd (cc)
  nothing_left ts (turns p ps t xs ys rest es sh et f g r) = absurd (cc)

  pub derivation-back : (ts : List Token) → Leads C ts (start C) [] → HasDerivation C ts
  derivation-back ts d =
      let r = straight C.result ts [] (build ts (start C) d) in
      (r.0, r.2 ∙ ap (λ (y : List Token). flat_map tokens_of r.0 ++ (End ∷ y)) (nothing_left r.1 r.3.2), r.3.1)
