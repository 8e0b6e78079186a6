-- The height of a typed body is met at some point of it: by induction on the derivation.
use Rattle.std.proofs.Common.{◌≡◌, ◌∙◌, ℕ, zero, suc, ◌+◌, ◌-◌, max, Bool, true, false, List, [], ◌∷◌, ◌++◌, length, refl, sym, ap, subst, append_assoc, append-nil, arith, ◌⊎◌, inl, inr}
use Rattle.std.specs.Prelude.{Option, Some, None, Result, Ok, if◌then◌else◌, option_to_list, flat_map}
use Rattle.wasm_ast.specs.declared.types.ValTy.{ValTy}
use Rattle.wasm_ast.specs.declared.types.ValTy.TheVariants.{I32}
use Rattle.wasm_ast.specs.declared.instructions.WInstr.{WInstr, out-WInstr}
use Rattle.wasm_ast.specs.declared.instructions.WInstr.TheOpen.{WInstr-F}
use Rattle.wasm_ast.specs.Operations.{operation_in}
use Rattle.wasm_typing.specs.declared.rule.WRule.{WRule}
use Rattle.wasm_typing.specs.declared.context.Context.{Context}
use Rattle.wasm_typing.specs.Signatures.{Left, Gives, Anything, Signature, signature_in}
use Rattle.wasm_typing.specs.Typing.{Applies, Labels, IsTyped, AreTyped, plain, block, loop, one_arm, two_arms, none, more, IsTypedBody}
use Rattle.wasm_typing.specs.Tokens.{Token, Plain, OpensBlock, OpensLoop, OpensIf, Else, End, bare, tokens_in, tokens_of}
use Rattle.wasm_typing.specs.ByteOrder.{Shape, Straight, Again, FirstArm, Open, labels, put, leads, Leads}
use Rattle.wasm_typing.specs.Heights.{Met, count, met_left, met_plain, met_list, met_in, met_of, height_of}
use Rattle.wasm_typing.specs.Points.{never_goes_on, reached_behind, reached, is_reached, standing, IsHeight}
use Rattle.wasm_typing.proofs.HeightLayers.{met-layer}
use Rattle.wasm_typing_laws.proofs.Steps.{Stacks}
use Rattle.wasm_typing_laws.proofs.Join.{fresh, forth_one, forth_all}
use Rattle.wasm_typing_laws.proofs.Layers.{signature-bare, plain-tokens, tokens-layer}
use Rattle.wasm_typing_laws.proofs.LiveSignatures.{Sided, sided, goes-on, takes-some}
use Rattle.wasm_typing_laws.proofs.HeightBounds.{standing-given, height-bounds}

reached-append : (xs ys : List Token) (rs : List Bool) → reached (xs ++ ys) rs ≡ reached ys (reached xs rs)
reached-append [] ys rs = refl
reached-append (t ∷ xs) ys rs = reached-append xs ys (reached_behind t rs)

either : (a b : ℕ) → (max a b ≡ a) ⊎ (max a b ≡ b)
either zero b = inr (omega arith)
either (suc a) zero = inl (omega arith)
either (suc a) (suc b) = elim (either a b) [ inl e ↦ inl (omega (arith, e)) | inr e ↦ inr (omega (arith, e)) ]

module _ (C : Context) where
  leads-append : (xs ys : List Token) (a b c : Stacks) → Leads C xs a b → Leads C ys b c → Leads C (xs ++ ys) a c
  leads-append [] ys a b c d e = subst (λ (x : Stacks). Leads C ys x c) (sym d) e
  leads-append (t ∷ xs) ys a b c d e = (d.0, d.1, leads-append xs ys d.0 b c d.2 e)

  behind_end : (xs : List Token) (r b : Bool) (rs : List Bool) → reached xs (r ∷ r ∷ rs) ≡ b ∷ r ∷ rs → reached (xs ++ End ∷ []) (r ∷ r ∷ rs) ≡ r ∷ rs
  behind_end xs r b rs e = reached-append xs (End ∷ []) (r ∷ r ∷ rs) ∙ ap (λ (x : List Bool). reached (End ∷ []) x) e

  behind_arms : (xs ys : List Token) (r b c : Bool) (rs : List Bool) → reached xs (r ∷ r ∷ rs) ≡ b ∷ r ∷ rs → reached ys (r ∷ r ∷ rs) ≡ c ∷ r ∷ rs → reached (xs ++ (Else ∷ (ys ++ End ∷ []))) (r ∷ r ∷ rs) ≡ r ∷ rs
  behind_arms xs ys r b c rs e f =
      reached-append xs (Else ∷ (ys ++ End ∷ [])) (r ∷ r ∷ rs) ∙ ap (λ (x : List Bool). reached (Else ∷ (ys ++ End ∷ [])) x) e ∙ behind_end ys r c rs f

  -- the lists around stay as they are, and so does this one around a block
  mutual
    kept_one : (ls : Labels) (w : WInstr-F WInstr) (st to : List ValTy) → IsTyped C ls w st to → (r : Bool) (rs : List Bool) → (b : Bool) × (reached (tokens_in tokens_of w) (r ∷ rs) ≡ b ∷ rs)
    kept_one ls w st to (plain s e a) r rs = (if never_goes_on (operation_in (bare w)) then false else r, ap (λ (ts : List Token). reached ts (r ∷ rs)) (plain-tokens C ls s w e))
    kept_one ls w st to (block t xs e d ea) r rs =
        let k = kept_all (t ∷ ls) xs [] (option_to_list t) d r (r ∷ rs) in
        (r, ap (λ (x : WInstr-F WInstr). reached (tokens_in tokens_of x) (r ∷ rs)) e ∙ behind_end (flat_map tokens_of xs) r k.0 rs k.1)
    kept_one ls w st to (loop t xs e d ea) r rs =
        let k = kept_all (None ∷ ls) xs [] (option_to_list t) d r (r ∷ rs) in
        (r, ap (λ (x : WInstr-F WInstr). reached (tokens_in tokens_of x) (r ∷ rs)) e ∙ behind_end (flat_map tokens_of xs) r k.0 rs k.1)
    kept_one ls w st to (one_arm xs e d eb) r rs =
        let k = kept_all (None ∷ ls) xs [] [] d r (r ∷ rs) in
        (r, ap (λ (x : WInstr-F WInstr). reached (tokens_in tokens_of x) (r ∷ rs)) e ∙ behind_end (flat_map tokens_of xs) r k.0 rs k.1)
    kept_one ls w st to (two_arms t xs ys below e d f eb ea) r rs =
        let k = kept_all (t ∷ ls) xs [] (option_to_list t) d r (r ∷ rs) in
        let l = kept_all (t ∷ ls) ys [] (option_to_list t) f r (r ∷ rs) in
        (r, ap (λ (x : WInstr-F WInstr). reached (tokens_in tokens_of x) (r ∷ rs)) e ∙ behind_arms (flat_map tokens_of xs) (flat_map tokens_of ys) r k.0 l.0 rs k.1 l.1)

    kept_all : (ls : Labels) (ws : List WInstr) (st to : List ValTy) → AreTyped C ls ws st to → (r : Bool) (rs : List Bool) → (b : Bool) × (reached (flat_map tokens_of ws) (r ∷ rs) ≡ b ∷ rs)
    kept_all ls ws st to (none e q) r rs = (r, ap (λ (xs : List WInstr). reached (flat_map tokens_of xs) (r ∷ rs)) e)
    kept_all ls ws st to (more x xs mid e d f) r rs =
        let i = kept_one ls (out-WInstr x) st mid d r rs in
        let j = kept_all ls xs mid to f i.0 rs in (
          j.0,
          ap (λ (vs : List WInstr). reached (flat_map tokens_of vs) (r ∷ rs)) e
              ∙ reached-append (tokens_of x) (flat_map tokens_of xs) (r ∷ rs)
              ∙ ap (λ (ts : List Token). reached (flat_map tokens_of xs) (reached ts (r ∷ rs))) (tokens-layer x)
              ∙ ap (λ (x' : List Bool). reached (flat_map tokens_of xs) x') i.1 ∙ j.1,
        )

  -- where tokens go on, so many operands stand behind them, and the point behind them is reached
  abbrev GoesOn : List Token → Option ℕ → ℕ → Type 0
  GoesOn ts after n = (k : ℕ) → after ≡ Some k → (k ≡ n) × ((rs : List Bool) → reached ts (true ∷ rs) ≡ true ∷ rs)

  pub plain_goes : (ls : Labels) (w : WInstr-F WInstr) (s : Signature) (o : Open (List ValTy)) (os : Stacks) (st to : List ValTy) → signature_in C ls w ≡ Ok s → Applies s st to →
      GoesOn (Plain (bare w) ∷ []) (met_plain (signature_in C ls w) (standing (put o st ∷ os))).after (standing (put o to ∷ os))
  plain_goes ls w s o os st to e a k ek =
      let side = sided C ls (operation_in (bare w)) s (signature-bare C ls w ∙ e) in
      by (never_goes_on (operation_in (bare w))) s.left refl side (sym (ap (λ (y : Result Signature WRule). (met_plain y (standing (put o st ∷ os))).after) e) ∙ ek)
    where
      by : (b : Bool) (l : Left) → s.left ≡ l → Sided b s.left → (met_left s.left (standing (put o st ∷ os) - length s.takes) (standing (put o st ∷ os))).after ≡ Some k →
          (k ≡ standing (put o to ∷ os)) × ((rs : List Bool) → (if b then false else true) ∷ rs ≡ true ∷ rs)
      by true Anything el side f = let g : (met_left Anything (standing (put o st ∷ os) - length s.takes) (standing (put o st ∷ os))).after ≡ Some k = sym (ap (λ (x : Left). (met_left x (standing (put o st ∷ os) - length s.takes) (standing (put o st ∷ os))).after) el) ∙ f in absurd (cc)
      by true (Gives g) el side f = absurd (subst (λ (x : Left). Sided true x) el side)
      by false Anything el side f = absurd (subst (λ (x : Left). Sided false x) el side)
      by false (Gives g) el side f =
          let q : Some ((standing (put o st ∷ os) - length s.takes) + count g) ≡ Some k = sym (ap (λ (x : Left). (met_left x (standing (put o st ∷ os) - length s.takes) (standing (put o st ∷ os))).after) el) ∙ f in
          let p : (standing (put o st ∷ os) - length s.takes) + count g ≡ k = (cc) in
          let x = goes-on s g st to el a in
          let y = takes-some s st to a in
          (omega (arith, p, x, y), λ rs. refl)

  -- the blocks: the open list has its operands, and what the block gives
  gives : (t : Option ValTy) (o : Open (List ValTy)) (os : Stacks) (st : List ValTy) (n k : ℕ) → n ≡ standing (put o st ∷ os) → Some (n + count t) ≡ Some k → k ≡ standing (put o (option_to_list t ++ st) ∷ os)
  gives t o os st n k en e = let p : n + count t ≡ k = (cc) in let g = standing-given t (put o st) os in omega (arith, p, g, en)

  met-of-plain : (ls : Labels) (s : Signature) (w : WInstr-F WInstr) (n : ℕ) → signature_in C ls w ≡ Ok s → met_in C (met_of C) w ls n ≡ met_plain (signature_in C ls w) n
  met-of-plain ls s (WInstr-F.Block t xs) n e = absurd (cc)
  met-of-plain ls s (WInstr-F.Loop t xs) n e = absurd (cc)
  met-of-plain ls s (WInstr-F.If t xs) n e = absurd (cc)
  met-of-plain ls s (WInstr-F.IfElse t xs ys) n e = absurd (cc)
  met-of-plain ls s _ n e = refl

  fewer : (o : Open (List ValTy)) (os : Stacks) (st below : List ValTy) → st ≡ I32 ∷ below → standing (put o st ∷ os) - 1 ≡ standing (put o below ∷ os)
  fewer o os st below e = let l = ap length e in omega (arith, l)

  block_reached : (w x : WInstr-F WInstr) (xs : List WInstr) (ls : Labels) (to : List ValTy) → w ≡ x → AreTyped C ls xs [] to → ((rs : List Bool) → reached (tokens_in tokens_of x) (true ∷ rs) ≡ reached (flat_map tokens_of xs ++ End ∷ []) (true ∷ true ∷ rs)) →
      (rs : List Bool) → reached (tokens_in tokens_of w) (true ∷ rs) ≡ true ∷ rs
  block_reached w x xs ls to e d opens rs =
      let k = kept_all ls xs [] to d true (true ∷ rs) in
      ap (λ (y : WInstr-F WInstr). reached (tokens_in tokens_of y) (true ∷ rs)) e ∙ opens rs ∙ behind_end (flat_map tokens_of xs) true k.0 rs k.1

  goes_one : (ls : Labels) (w : WInstr-F WInstr) (st to : List ValTy) → IsTyped C ls w st to → (o : Open (List ValTy)) (os : Stacks) → GoesOn (tokens_in tokens_of w) (met_in C (met_of C) w ls (standing (put o st ∷ os))).after (standing (put o to ∷ os))
  goes_one ls w st to (plain s e a) o os k ek =
      let p = plain_goes ls w s o os st to e a k (ap (λ (m : Met). m.after) (sym (met-of-plain ls s w (standing (put o st ∷ os)) e)) ∙ ek) in
      (p.0, λ rs. ap (λ (ts : List Token). reached ts (true ∷ rs)) (plain-tokens C ls s w e) ∙ p.1 rs)
  goes_one ls w st to (block t xs e d ea) o os k ek =
      let n = standing (put o st ∷ os) in
      let p = sym (ap (λ (x : WInstr-F WInstr). (met_in C (met_of C) x ls n).after) e) ∙ ek in
      (gives t o os st n k refl p ∙ ap (λ (y : List ValTy). standing (put o y ∷ os)) (sym ea), block_reached w (WInstr-F.Block t xs) xs (t ∷ ls) (option_to_list t) e d (λ rs. refl))
  goes_one ls w st to (loop t xs e d ea) o os k ek =
      let n = standing (put o st ∷ os) in
      let p = sym (ap (λ (x : WInstr-F WInstr). (met_in C (met_of C) x ls n).after) e) ∙ ek in
      (gives t o os st n k refl p ∙ ap (λ (y : List ValTy). standing (put o y ∷ os)) (sym ea), block_reached w (WInstr-F.Loop t xs) xs (None ∷ ls) (option_to_list t) e d (λ rs. refl))
  goes_one ls w st to (one_arm xs e d eb) o os k ek =
      let n = standing (put o st ∷ os) in
      let p = sym (ap (λ (x : WInstr-F WInstr). (met_in C (met_of C) x ls n).after) e) ∙ ek in
      (gives None o os to (n - 1) k (fewer o os st to eb) p, block_reached w (WInstr-F.If None xs) xs (None ∷ ls) [] e d (λ rs. refl))
  goes_one ls w st to (two_arms t xs ys below e d f eb ea) o os k ek =
      let n = standing (put o st ∷ os) in
      let p = sym (ap (λ (x : WInstr-F WInstr). (met_in C (met_of C) x ls n).after) e) ∙ ek in (
        gives t o os below (n - 1) k (fewer o os st below eb) p ∙ ap (λ (y : List ValTy). standing (put o y ∷ os)) (sym ea),
        λ rs.
            let i = kept_all (t ∷ ls) xs [] (option_to_list t) d true (true ∷ rs) in
            let j = kept_all (t ∷ ls) ys [] (option_to_list t) f true (true ∷ rs) in
            ap (λ (x : WInstr-F WInstr). reached (tokens_in tokens_of x) (true ∷ rs)) e ∙ behind_arms (flat_map tokens_of xs) (flat_map tokens_of ys) true i.0 j.0 rs i.1 j.1,
      )

  -- a point of these tokens, from these open lists, at which h operands stand
  record Attains (ts : List Token) (o : Open (List ValTy)) (os : Stacks) (h : ℕ) : Type 0 where
    pub front : List Token
    pub back : List Token
    pub parted : ts ≡ front ++ back
    pub mid : Stacks
    pub leads : Leads C front (o ∷ os) mid
    pub live : (rs : List Bool) → is_reached (reached front (true ∷ rs)) ≡ true
    pub count : standing mid ≡ h

  at_start : (ts : List Token) (o : Open (List ValTy)) (os : Stacks) → Attains ts o os (standing (o ∷ os))
  at_start ts o os = record { front = []; back = ts; parted = refl; mid = o ∷ os; leads = refl; live = λ rs. refl; count = refl }

  at_end : (ts : List Token) (o p : Open (List ValTy)) (os : Stacks) (h : ℕ) → Leads C (ts ++ []) (o ∷ os) (p ∷ os) → ((rs : List Bool) → reached ts (true ∷ rs) ≡ true ∷ rs) → standing (p ∷ os) ≡ h → Attains ts o os h
  at_end ts o p os h d e c = record {
    front = ts;
    back = [];
    parted = sym (append-nil ts);
    mid = p ∷ os;
    leads = subst (λ (xs : List Token). Leads C xs (o ∷ os) (p ∷ os)) (append-nil ts) d;
    live = λ rs. ap is_reached (e rs);
    count = c;
  }

  at_max : (ts : List Token) (o : Open (List ValTy)) (os : Stacks) (a b : ℕ) → Attains ts o os a → Attains ts o os b → Attains ts o os (max a b)
  at_max ts o os a b x y = elim (either a b) [ inl e ↦ subst (λ (h : ℕ). Attains ts o os h) (sym e) x | inr e ↦ subst (λ (h : ℕ). Attains ts o os h) (sym e) y ]

  -- within a list that a token opens
  nested : (first : Token) (shape : Shape) (xs tail : List Token) (o around : Open (List ValTy)) (os : Stacks) (h : ℕ) → leads C first (o ∷ os) (fresh shape ∷ around ∷ os) → ((rs : List Bool) → reached_behind first (true ∷ rs) ≡ true ∷ true ∷ rs) →
      Attains xs (fresh shape) (around ∷ os) h → Attains (first ∷ (xs ++ tail)) o os h
  nested first shape xs tail o around os h l e a = record {
    front = first ∷ a.front;
    back = a.back ++ tail;
    parted = ap (λ (ts : List Token). first ∷ (ts ++ tail)) a.parted ∙ ap (λ (ts : List Token). first ∷ ts) (append_assoc a.front a.back tail);
    mid = a.mid;
    leads = (fresh shape ∷ around ∷ os, l, a.leads);
    live = λ rs. ap (λ (x : List Bool). is_reached (reached a.front x)) (e rs) ∙ a.live (true ∷ rs);
    count = a.count;
  }

  plain_attains : (ls : Labels) (w : WInstr-F WInstr) (s : Signature) (o : Open (List ValTy)) (os : Stacks) (st to : List ValTy) → signature_in C ls w ≡ Ok s → Applies s st to → ls ≡ labels (o ∷ os) → (l : Left) → s.left ≡ l →
      Attains (tokens_in tokens_of w) (put o st) os (met_left l (standing (put o st ∷ os) - length s.takes) (standing (put o st ∷ os))).most
  plain_attains ls w s o os st to e a el Anything es = at_start (tokens_in tokens_of w) (put o st) os
  plain_attains ls w s o os st to e a el (Gives g) es =
      let n = standing (put o st ∷ os) in
      let k = (n - length s.takes) + count g in
      let after : (met_in C (met_of C) w ls n).after ≡ Some k =
      ap (λ (m : Met). m.after) (met-of-plain ls s w n e) ∙ ap (λ (y : Result Signature WRule). (met_plain y n).after) e ∙ ap (λ (l : Left). (met_left l (n - length s.takes) n).after) es in
      let on = goes_one ls w st to (plain s e a) o os k after in
      at_max (tokens_in tokens_of w) (put o st) os n k (at_start (tokens_in tokens_of w) (put o st) os)
      (at_end (tokens_in tokens_of w) (put o st) (put o to) os k (forth_one C ls w st to (plain s e a) o os el [] (put o to ∷ os) refl) on.1 (sym on.0))

  -- the end of a block
  block_end : (ls : Labels) (w : WInstr-F WInstr) (st to : List ValTy) → IsTyped C ls w st to → (o : Open (List ValTy)) (os : Stacks) → ls ≡ labels (o ∷ os) → (k : ℕ) → (met_in C (met_of C) w ls (standing (put o st ∷ os))).after ≡ Some k → Attains (tokens_in tokens_of w) (put o st) os k
  block_end ls w st to d o os el k after =
      let on = goes_one ls w st to d o os k after in
      at_end (tokens_in tokens_of w) (put o st) (put o to) os k (forth_one C ls w st to d o os el [] (put o to ∷ os) refl) on.1 (sym on.0)

  second_arm : (ls : Labels) (t : Option ValTy) (xs ys : List WInstr) (o : Open (List ValTy)) (os : Stacks) (st below : List ValTy) → st ≡ I32 ∷ below → t ∷ ls ≡ t ∷ labels (o ∷ os) → AreTyped C (t ∷ ls) xs [] (option_to_list t) → (h : ℕ) →
      Attains (flat_map tokens_of ys) (fresh (Straight t)) (put o below ∷ os) h → Attains (tokens_in tokens_of (WInstr-F.IfElse t xs ys)) (put o st) os h
  second_arm ls t xs ys o os st below eb el d h a =
      let X = flat_map tokens_of xs in
      let Y = flat_map tokens_of ys in
      record {
        front = OpensIf t ∷ (X ++ (Else ∷ a.front));
        back = a.back ++ End ∷ [];
        parted = ap (λ (ts : List Token). OpensIf t ∷ (X ++ (Else ∷ (ts ++ End ∷ [])))) a.parted
            ∙ ap (λ (ts : List Token). OpensIf t ∷ (X ++ (Else ∷ ts))) (append_assoc a.front a.back (End ∷ []))
            ∙ ap (λ (ts : List Token). OpensIf t ∷ ts) (sym (append_assoc X (Else ∷ a.front) (a.back ++ End ∷ [])));
        mid = a.mid;
        leads = (
          fresh (FirstArm t) ∷ put o below ∷ os,
          (below, eb, refl),
          forth_all C (t ∷ ls) xs [] (option_to_list t) d (fresh (FirstArm t)) (put o below ∷ os) el (Else ∷ a.front) a.mid (fresh (Straight t) ∷ put o below ∷ os, (t, refl, refl, refl), a.leads),
        );
        live = λ rs.
            let k = kept_all (t ∷ ls) xs [] (option_to_list t) d true (true ∷ rs) in
            ap is_reached (reached-append X (Else ∷ a.front) (true ∷ true ∷ rs)) ∙ ap (λ (x : List Bool). is_reached (reached (Else ∷ a.front) x)) k.1 ∙ a.live (true ∷ rs);
        count = a.count;
      }

  list_attains : (ls : Labels) (x : WInstr) (xs : List WInstr) (st mid : List ValTy) (o : Open (List ValTy)) (os : Stacks) → IsTyped C ls (out-WInstr x) st mid → ls ≡ labels (o ∷ os) →
      Attains (tokens_in tokens_of (out-WInstr x)) (put o st) os (met_in C (met_of C) (out-WInstr x) ls (standing (put o st ∷ os))).most →
      Attains (flat_map tokens_of xs) (put o mid) os (met_list (met_of C) xs ls (standing (put o mid ∷ os))).most →
      Attains (tokens_of x ++ flat_map tokens_of xs) (put o st) os (met_list (met_of C) (x ∷ xs) ls (standing (put o st ∷ os))).most
  list_attains ls x xs st mid o os d el a b =
      let n = standing (put o st ∷ os) in
      let m : Met = met_of C x ls n in
      let go : ℕ → Met = met_list (met_of C) xs ls in
      let same : m ≡ met_in C (met_of C) (out-WInstr x) ls n = met-layer C x ls n in
      let rest : List Token = flat_map tokens_of xs in
      let first : Attains (tokens_of x ++ rest) (put o st) os m.most = record {
        front = a.front;
        back = a.back ++ rest;
        parted = ap (λ (ts : List Token). ts ++ rest) (tokens-layer x ∙ a.parted) ∙ append_assoc a.front a.back rest;
        mid = a.mid;
        leads = a.leads;
        live = a.live;
        count = a.count ∙ ap (λ (y : Met). y.most) (sym same);
      } in
      elim m.after as (λ y. (m.after ≡ y) → Attains (tokens_of x ++ rest) (put o st) os (elim y as (λ z. Met) [ None ↦ m | Some k ↦ record { after = (go k).after; most = max m.most (go k).most } ]).most) [
        | None ↦ λ q. first
        | Some k ↦ λ q.
            let on = goes_one ls (out-WInstr x) st mid d o os k (ap (λ (y : Met). y.after) (sym same) ∙ q) in
            at_max (tokens_of x ++ rest) (put o st) os m.most (go k).most first (record {
              front = tokens_of x ++ b.front;
              back = b.back;
              parted = ap (λ (ts : List Token). tokens_of x ++ ts) b.parted ∙ sym (append_assoc (tokens_of x) b.front b.back);
              mid = b.mid;
              leads = subst (λ (ts : List Token). Leads C (ts ++ b.front) (put o st ∷ os) b.mid) (sym (tokens-layer x)) (forth_one C ls (out-WInstr x) st mid d o os el b.front b.mid b.leads);
              live = λ rs. ap is_reached (reached-append (tokens_of x) b.front (true ∷ rs)) ∙ ap (λ (ts : List Token). is_reached (reached b.front (reached ts (true ∷ rs)))) (tokens-layer x) ∙ ap (λ (y : List Bool). is_reached (reached b.front y)) (on.1 rs) ∙ b.live rs;
              count = b.count ∙ ap (λ (j : ℕ). (go j).most) (sym on.0);
            })
      ] refl

  mutual
    attains_one : (ls : Labels) (w : WInstr-F WInstr) (st to : List ValTy) → IsTyped C ls w st to → (o : Open (List ValTy)) (os : Stacks) → ls ≡ labels (o ∷ os) → Attains (tokens_in tokens_of w) (put o st) os (met_in C (met_of C) w ls (standing (put o st ∷ os))).most
    attains_one ls w st to (plain s e a) o os el =
        subst (λ (m : Met). Attains (tokens_in tokens_of w) (put o st) os m.most)
        (sym (met-of-plain ls s w (standing (put o st ∷ os)) e ∙ ap (λ (y : Result Signature WRule). met_plain y (standing (put o st ∷ os))) e))
        (plain_attains ls w s o os st to e a el s.left refl)
    attains_one ls w st to (block t xs e d ea) o os el =
        let n = standing (put o st ∷ os) in
        let inner = attains_all (t ∷ ls) xs [] (option_to_list t) d (fresh (Straight t)) (put o st ∷ os) (ap (λ (l : Labels). t ∷ l) el) in
        let most = (met_list (met_of C) xs (t ∷ ls) n).most in
        let z : standing (fresh (Straight t) ∷ put o st ∷ os) ≡ n = omega arith in
        let x : WInstr-F WInstr = WInstr-F.Block t xs in
        subst (λ (y : WInstr-F WInstr). Attains (tokens_in tokens_of y) (put o st) os (met_in C (met_of C) y ls n).most) (sym e)
        (at_max (tokens_in tokens_of x) (put o st) os n (max most (n + count t)) (at_start (tokens_in tokens_of x) (put o st) os)
        (at_max (tokens_in tokens_of x) (put o st) os most (n + count t)
        (nested (OpensBlock t) (Straight t) (flat_map tokens_of xs) (End ∷ []) (put o st) (put o st) os most refl (λ rs. refl) (subst (λ (k : ℕ). Attains (flat_map tokens_of xs) (fresh (Straight t)) (put o st ∷ os) (met_list (met_of C) xs (t ∷ ls) k).most) z inner))
        (block_end ls x st to (block t xs refl d ea) o os el (n + count t) refl)))
    attains_one ls w st to (loop t xs e d ea) o os el =
        let n = standing (put o st ∷ os) in
        let inner = attains_all (None ∷ ls) xs [] (option_to_list t) d (fresh (Again t)) (put o st ∷ os) (ap (λ (l : Labels). None ∷ l) el) in
        let most = (met_list (met_of C) xs (None ∷ ls) n).most in
        let z : standing (fresh (Again t) ∷ put o st ∷ os) ≡ n = omega arith in
        let x : WInstr-F WInstr = WInstr-F.Loop t xs in
        subst (λ (y : WInstr-F WInstr). Attains (tokens_in tokens_of y) (put o st) os (met_in C (met_of C) y ls n).most) (sym e)
        (at_max (tokens_in tokens_of x) (put o st) os n (max most (n + count t)) (at_start (tokens_in tokens_of x) (put o st) os)
        (at_max (tokens_in tokens_of x) (put o st) os most (n + count t)
        (nested (OpensLoop t) (Again t) (flat_map tokens_of xs) (End ∷ []) (put o st) (put o st) os most refl (λ rs. refl) (subst (λ (k : ℕ). Attains (flat_map tokens_of xs) (fresh (Again t)) (put o st ∷ os) (met_list (met_of C) xs (None ∷ ls) k).most) z inner))
        (block_end ls x st to (loop t xs refl d ea) o os el (n + count t) refl)))
    attains_one ls w st to (one_arm xs e d eb) o os el =
        let n = standing (put o st ∷ os) in
        let inner = attains_all (None ∷ ls) xs [] [] d (fresh (FirstArm None)) (put o to ∷ os) (ap (λ (l : Labels). None ∷ l) el) in
        let most = (met_list (met_of C) xs (None ∷ ls) (n - 1)).most in
        let f = fewer o os st to eb in
        let z : standing (fresh (FirstArm None) ∷ put o to ∷ os) ≡ n - 1 = omega (arith, f) in
        let x : WInstr-F WInstr = WInstr-F.If None xs in
        subst (λ (y : WInstr-F WInstr). Attains (tokens_in tokens_of y) (put o st) os (met_in C (met_of C) y ls n).most) (sym e)
        (at_max (tokens_in tokens_of x) (put o st) os n (max most ((n - 1) + 0)) (at_start (tokens_in tokens_of x) (put o st) os)
        (at_max (tokens_in tokens_of x) (put o st) os most ((n - 1) + 0)
        (nested (OpensIf None) (FirstArm None) (flat_map tokens_of xs) (End ∷ []) (put o st) (put o to) os most (to, eb, refl) (λ rs. refl) (subst (λ (k : ℕ). Attains (flat_map tokens_of xs) (fresh (FirstArm None)) (put o to ∷ os) (met_list (met_of C) xs (None ∷ ls) k).most) z inner))
        (block_end ls x st to (one_arm xs refl d eb) o os el ((n - 1) + 0) refl)))
    attains_one ls w st to (two_arms t xs ys below e d f eb ea) o os el =
        let n = standing (put o st ∷ os) in
        let el' : t ∷ ls ≡ t ∷ labels (o ∷ os) = ap (λ (l : Labels). t ∷ l) el in
        let first = attains_all (t ∷ ls) xs [] (option_to_list t) d (fresh (FirstArm t)) (put o below ∷ os) el' in
        let second = attains_all (t ∷ ls) ys [] (option_to_list t) f (fresh (Straight t)) (put o below ∷ os) el' in
        let g = fewer o os st below eb in
        let z : standing (fresh (FirstArm t) ∷ put o below ∷ os) ≡ n - 1 = omega (arith, g) in
        let z' : standing (fresh (Straight t) ∷ put o below ∷ os) ≡ n - 1 = omega (arith, g) in
        let one = (met_list (met_of C) xs (t ∷ ls) (n - 1)).most in
        let two = (met_list (met_of C) ys (t ∷ ls) (n - 1)).most in
        let x : WInstr-F WInstr = WInstr-F.IfElse t xs ys in
        subst (λ (y : WInstr-F WInstr). Attains (tokens_in tokens_of y) (put o st) os (met_in C (met_of C) y ls n).most) (sym e)
        (at_max (tokens_in tokens_of x) (put o st) os n (max (max one two) ((n - 1) + count t)) (at_start (tokens_in tokens_of x) (put o st) os)
        (at_max (tokens_in tokens_of x) (put o st) os (max one two) ((n - 1) + count t)
        (at_max (tokens_in tokens_of x) (put o st) os one two
        (nested (OpensIf t) (FirstArm t) (flat_map tokens_of xs) (Else ∷ (flat_map tokens_of ys ++ End ∷ [])) (put o st) (put o below) os one (below, eb, refl) (λ rs. refl) (subst (λ (k : ℕ). Attains (flat_map tokens_of xs) (fresh (FirstArm t)) (put o below ∷ os) (met_list (met_of C) xs (t ∷ ls) k).most) z first))
        (second_arm ls t xs ys o os st below eb el' d two (subst (λ (k : ℕ). Attains (flat_map tokens_of ys) (fresh (Straight t)) (put o below ∷ os) (met_list (met_of C) ys (t ∷ ls) k).most) z' second)))
        (block_end ls x st to (two_arms t xs ys below refl d f eb ea) o os el ((n - 1) + count t) refl)))

    attains_all : (ls : Labels) (ws : List WInstr) (st to : List ValTy) → AreTyped C ls ws st to → (o : Open (List ValTy)) (os : Stacks) → ls ≡ labels (o ∷ os) → Attains (flat_map tokens_of ws) (put o st) os (met_list (met_of C) ws ls (standing (put o st ∷ os))).most
    attains_all ls ws st to (none e q) o os el =
        subst (λ (vs : List WInstr). Attains (flat_map tokens_of vs) (put o st) os (met_list (met_of C) vs ls (standing (put o st ∷ os))).most) (sym e) (at_start [] (put o st) os)
    attains_all ls ws st to (more x xs mid e d f) o os el =
        subst (λ (vs : List WInstr). Attains (flat_map tokens_of vs) (put o st) os (met_list (met_of C) vs ls (standing (put o st ∷ os))).most) (sym e)
        (list_attains ls x xs st mid o os d el (attains_one ls (out-WInstr x) st mid d o os el) (attains_all ls xs mid to f o os el))

  pub height-is-met : (body : List WInstr) → IsTypedBody C body → IsHeight C body (height_of C body)
  height-is-met body d =
      let a = attains_all (C.result ∷ []) body [] (option_to_list C.result) d (fresh (Straight C.result)) [] refl in
      record {
        bounds = height-bounds C body;
        front = a.front;
        met = record {
          behind = a.back ++ End ∷ [];
          parted = ap (λ (ts : List Token). ts ++ End ∷ []) a.parted ∙ append_assoc a.front a.back (End ∷ []);
          reaches = a.live [];
          stacks = a.mid;
          leads = a.leads;
          count = a.count;
        };
      }
