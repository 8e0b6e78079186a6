-- At no point of a code stand more operands than its height. What is bounded of the tokens behind a list is bounded of the list
-- and of them: by induction on the size of the trees.
use Rattle.std.proofs.Common.{◌≡◌, ◌∙◌, ℕ, zero, suc, ◌+◌, ◌-◌, ◌≤◌, max, Bool, true, false, List, [], ◌∷◌, ◌++◌, length, refl, sym, ap, subst, append_assoc, arith}
use Rattle.std.specs.Prelude.{Option, Some, None, Result, Ok, Err, if◌then◌else◌, option_to_list, flat_map, sum_by}
use Rattle.std.proofs.lemmas.List.{length-append}
use Rattle.std.proofs.lemmas.List.Sums.{sum_by-cons}
use Rattle.wasm_ast.specs.declared.types.ValTy.{ValTy}
use Rattle.wasm_ast.specs.declared.instructions.WInstr.{WInstr, out-WInstr}
use Rattle.wasm_ast.specs.declared.instructions.WInstr.TheOpen.{WInstr-F}
use Rattle.wasm_ast.specs.Immediates.{immediate_in}
use Rattle.wasm_ast.specs.Operations.{operation_in}
use Rattle.wasm_ast.proofs.Counts.{instruction_count, immediate_count, instruction_count-layer}
use Rattle.wasm_typing.specs.declared.rule.WRule.{WRule}
use Rattle.wasm_typing.specs.declared.context.Context.{Context}
use Rattle.wasm_typing.specs.Signatures.{Left, Gives, Anything, Signature, signature_in}
use Rattle.wasm_typing.specs.Typing.{Applies, Labels}
use Rattle.wasm_typing.specs.Tokens.{Token, Plain, Else, End, bare, tokens_in, tokens_of, code_of}
use Rattle.wasm_typing.specs.ByteOrder.{Shape, Straight, Again, FirstArm, Open, labels, label_of, result_of, put, leads, Leads, start}
use Rattle.wasm_typing.specs.Heights.{Met, count, met_left, met_plain, met_then, met_list, met_block, met_in, met_of, height_of}
use Rattle.wasm_typing.specs.Points.{never_goes_on, reached_behind, reached, is_reached, standing, IsPoint}
use Rattle.wasm_typing.proofs.HeightLayers.{met-layer}
use Rattle.wasm_typing_laws.proofs.Steps.{Stacks}
use Rattle.wasm_typing_laws.proofs.Join.{fresh, list_end, two_lists_end}
use Rattle.wasm_typing_laws.proofs.Layers.{signature-bare, tokens-layer}
use Rattle.wasm_typing_laws.proofs.LiveSignatures.{Sided, sided, goes-on, takes-some}

pub length-result : (t : Option ValTy) → length (option_to_list t) ≡ count t
length-result None = refl
length-result (Some t) = refl

-- the operands of a list that gives this result to the one around it
pub standing-given : (t : Option ValTy) (o : Open (List ValTy)) (os : Stacks) → standing (put o (option_to_list t ++ o.operands) ∷ os) ≡ standing (o ∷ os) + count t
standing-given t o os = let l = length-append (option_to_list t) o.operands in let r = length-result t in omega (arith, l, r)

-- of those met, the operands behind are no more than the most
pub then-first : (m : Met) (go : ℕ → Met) → m.most ≤ (met_then m go).most
then-first m go =
    elim m.after as (λ a. m.most ≤ (elim a as (λ b. Met) [ None ↦ m | Some n ↦ record { after = (go n).after; most = max m.most (go n).most } ]).most) [ None ↦ omega arith | Some n ↦ omega arith ]

pub then-second : (m : Met) (go : ℕ → Met) (k : ℕ) → m.after ≡ Some k → (go k).most ≤ (met_then m go).most
then-second m go k e =
    subst (λ (a : Option ℕ). (go k).most ≤ (elim a as (λ b. Met) [ None ↦ m | Some n ↦ record { after = (go n).after; most = max m.most (go n).most } ]).most) (sym e) (omega arith)

pub then-after : (m : Met) (go : ℕ → Met) (k : ℕ) → m.after ≡ Some k → (met_then m go).after ≡ (go k).after
then-after m go k e =
    ap (λ (a : Option ℕ). (elim a as (λ b. Met) [ None ↦ m | Some n ↦ record { after = (go n).after; most = max m.most (go n).most } ]).after) e

pub then-behind : (m : Met) (go : ℕ → Met) (k : ℕ) → (met_then m go).after ≡ Some k → (n : ℕ) × (m.after ≡ Some n) × ((go n).after ≡ Some k)
then-behind m go k e =
    elim m.after as (λ a. (m.after ≡ a) → (n : ℕ) × (m.after ≡ Some n) × ((go n).after ≡ Some k)) [
      | None ↦ λ f. (let g : (met_then m go).after ≡ m.after = ap (λ (a : Option ℕ). (elim a as (λ b. Met) [ None ↦ m | Some n ↦ record { after = (go n).after; most = max m.most (go n).most } ]).after) f in absurd (cc))
      | Some n ↦ λ f. (n, f, sym (then-after m go n f) ∙ e)
    ] refl

plain-first : (r : Result Signature WRule) (n : ℕ) → n ≤ (met_plain r n).most
plain-first (Err e) n = omega arith
plain-first (Ok s) n = elim s.left as (λ l. n ≤ (met_left l (n - length s.takes) n).most) [ Gives g ↦ omega arith | Anything ↦ omega arith ]

left-within : (l : Left) (below n k : ℕ) → (met_left l below n).after ≡ Some k → k ≤ (met_left l below n).most
left-within (Gives g) below n k e = let f : below + count g ≡ k = (cc) in omega (arith, f)
left-within Anything below n k e = absurd (cc)

plain-within : (r : Result Signature WRule) (n k : ℕ) → (met_plain r n).after ≡ Some k → k ≤ (met_plain r n).most
plain-within (Err r) n k e = absurd (cc)
plain-within (Ok s) n k e = left-within s.left (n - length s.takes) n k e

block-within : (t : Option ValTy) (below n most k : ℕ) → (met_block t below n most).after ≡ Some k → k ≤ (met_block t below n most).most
block-within t below n most k e = let f : below + count t ≡ k = (cc) in omega (arith, f)

module _ (C : Context) where
  pub one-within : (x : WInstr-F WInstr) (ls : Labels) (n k : ℕ) → (met_in C (met_of C) x ls n).after ≡ Some k → k ≤ (met_in C (met_of C) x ls n).most
  one-within (WInstr-F.Block t xs) ls n k e = block-within t n n (met_list (met_of C) xs (t ∷ ls) n).most k e
  one-within (WInstr-F.Loop t xs) ls n k e = block-within t n n (met_list (met_of C) xs (None ∷ ls) n).most k e
  one-within (WInstr-F.If t xs) ls n k e = block-within t (n - 1) n (met_list (met_of C) xs (t ∷ ls) (n - 1)).most k e
  one-within (WInstr-F.IfElse t xs ys) ls n k e = block-within t (n - 1) n (max (met_list (met_of C) xs (t ∷ ls) (n - 1)).most (met_list (met_of C) ys (t ∷ ls) (n - 1)).most) k e
  one-within x ls n k e = plain-within (signature_in C ls x) n k e

  pub list-within : (ws : List WInstr) (ls : Labels) (n k : ℕ) → (met_list (met_of C) ws ls n).after ≡ Some k → k ≤ (met_list (met_of C) ws ls n).most
  list-within [] ls n k e = let f : n ≡ k = (cc) in omega (arith, f)
  list-within (w ∷ ws) ls n k e =
      let p = then-behind (met_of C w ls n) (met_list (met_of C) ws ls) k e in
      let i = list-within ws ls p.0 k p.2 in
      let j = then-second (met_of C w ls n) (met_list (met_of C) ws ls) p.0 p.1 in
      omega (arith, i, j)

  module _ (h : ℕ) where
    -- at each point of these tokens, from these open lists, no more than h operands stand
    abbrev pub Bounded : List Token → List Bool → Stacks → Type 0
    Bounded [] rs os = is_reached rs ≡ true → standing os ≤ h
    Bounded (t ∷ ts) rs os = (is_reached rs ≡ true → standing os ≤ h) × ((mid : Stacks) → leads C t os mid → Bounded ts (reached_behind t rs) mid)

    -- so it is behind a list, whatever its operands are then
    abbrev Behind : Met → List Token → Bool → List Bool → Open (List ValTy) → Stacks → Type 0
    Behind m rest r rs o os = (st : List ValTy) (now : Bool) → (now ≡ true → (r ≡ true) × (m.after ≡ Some (standing (put o st ∷ os)))) → Bounded rest (now ∷ rs) (put o st ∷ os)

    abbrev IsListBounded : List WInstr → Type 0
    IsListBounded ws = (rest : List Token) (r : Bool) (rs : List Bool) (o : Open (List ValTy)) (os : Stacks) →
        let m = met_list (met_of C) ws (labels (o ∷ os)) (standing (o ∷ os)) in
        (r ≡ true → m.most ≤ h) → Behind m rest r rs o os → Bounded (flat_map tokens_of ws ++ rest) (r ∷ rs) (o ∷ os)

    -- a list in another one, from its start up to the token behind it
    inside : (shape : Shape) (xs : List WInstr) (tail : List Token) (r : Bool) (rs : List Bool) (o : Open (List ValTy)) (os : Stacks) → IsListBounded xs →
        (r ≡ true → (met_list (met_of C) xs (label_of shape ∷ labels (o ∷ os)) (standing (o ∷ os))).most ≤ h) →
        ((st : List ValTy) (now : Bool) → (now ≡ true → standing (record { shape = shape; operands = st } ∷ o ∷ os) ≤ h) → Bounded tail (now ∷ r ∷ rs) (record { shape = shape; operands = st } ∷ o ∷ os)) →
        Bounded (flat_map tokens_of xs ++ tail) (r ∷ r ∷ rs) (fresh shape ∷ o ∷ os)
    inside shape xs tail r rs o os go most behind =
        let ls : Labels = label_of shape ∷ labels (o ∷ os) in
        let e : standing (fresh shape ∷ o ∷ os) ≡ standing (o ∷ os) = omega arith in
        let bound : r ≡ true → (met_list (met_of C) xs ls (standing (fresh shape ∷ o ∷ os))).most ≤ h = λ live. subst (λ (n : ℕ). (met_list (met_of C) xs ls n).most ≤ h) (sym e) (most live) in
        go tail r (r ∷ rs) (fresh shape) (o ∷ os) bound (λ st now g. behind st now (λ live.
        let p = g live in
        let w = list-within xs ls (standing (fresh shape ∷ o ∷ os)) (standing (put (fresh shape) st ∷ o ∷ os)) p.1 in
        let l = bound p.0 in
        omega (arith, w, l)))

    -- its end
    ends : (shape : Shape) (rest : List Token) (r : Bool) (rs : List Bool) (o : Open (List ValTy)) (os : Stacks) → Bounded rest (r ∷ rs) (put o (option_to_list (result_of shape) ++ o.operands) ∷ os) →
        (st : List ValTy) (now : Bool) → (now ≡ true → standing (record { shape = shape; operands = st } ∷ o ∷ os) ≤ h) → Bounded (End ∷ rest) (now ∷ r ∷ rs) (record { shape = shape; operands = st } ∷ o ∷ os)
    ends shape rest r rs o os b st now g = (g, λ mid e. subst (λ (y : Stacks). Bounded rest (r ∷ rs) y) (sym e.2) b)

    -- a list whose end gives its result to the list around it
    block_bounded : (shape : Shape) (xs : List WInstr) (rest : List Token) (r : Bool) (rs : List Bool) (o : Open (List ValTy)) (os : Stacks) → IsListBounded xs →
        (r ≡ true → (met_list (met_of C) xs (label_of shape ∷ labels (o ∷ os)) (standing (o ∷ os))).most ≤ h) →
        Bounded rest (r ∷ rs) (put o (option_to_list (result_of shape) ++ o.operands) ∷ os) →
        Bounded ((flat_map tokens_of xs ++ End ∷ []) ++ rest) (r ∷ r ∷ rs) (fresh shape ∷ o ∷ os)
    block_bounded shape xs rest r rs o os go most b =
        subst (λ (ts : List Token). Bounded ts (r ∷ r ∷ rs) (fresh shape ∷ o ∷ os)) (sym (list_end (flat_map tokens_of xs) rest))
        (inside shape xs (End ∷ rest) r rs o os go most (ends shape rest r rs o os b))

    plain_bounded : (x : WInstr-F WInstr) (rest : List Token) (r : Bool) (rs : List Bool) (o : Open (List ValTy)) (os : Stacks) →
        let m = met_plain (signature_in C (labels (o ∷ os)) x) (standing (o ∷ os)) in
        (r ≡ true → m.most ≤ h) → Behind m rest r rs o os → Bounded (Plain (bare x) ∷ rest) (r ∷ rs) (o ∷ os)
    plain_bounded x rest r rs o os most behind =
        let n = standing (o ∷ os) in (
          λ live. let k = plain-first (signature_in C (labels (o ∷ os)) x) (standing (o ∷ os)) in let l = most live in omega (arith, k, l),
          λ mid e.
              let side = sided C (labels (o ∷ os)) (operation_in (bare x)) e.0 e.2 in
              let same : signature_in C (labels (o ∷ os)) x ≡ Ok e.0 = sym (signature-bare C (labels (o ∷ os)) x) ∙ e.2 in
              subst (λ (y : Stacks). Bounded rest ((if never_goes_on (operation_in (bare x)) then false else r) ∷ rs) y) (sym e.4)
              (behind e.1 (if never_goes_on (operation_in (bare x)) then false else r) (λ live. goes (never_goes_on (operation_in (bare x))) e.0 e.1 side same e.3 live)),
        )
      where
        goes : (b : Bool) (s : Signature) (after : List ValTy) → Sided b s.left → signature_in C (labels (o ∷ os)) x ≡ Ok s → Applies s o.operands after → (if b then false else r) ≡ true →
            (r ≡ true) × ((met_plain (signature_in C (labels (o ∷ os)) x) (standing (o ∷ os))).after ≡ Some (standing (put o after ∷ os)))
        goes true s after side same a live = absurd (cc)
        goes false s after side same a live = (
          live,
          ap (λ (y : Result Signature WRule). (met_plain y (standing (o ∷ os))).after) same
              ∙ gives s.left refl side,
        )
          where
            gives : (l : Left) → s.left ≡ l → Sided false l → (met_left s.left (standing (o ∷ os) - length s.takes) (standing (o ∷ os))).after ≡ Some (standing (put o after ∷ os))
            gives Anything e f = absurd f
            gives (Gives g) e f =
                ap (λ (l : Left). (met_left l (standing (o ∷ os) - length s.takes) (standing (o ∷ os))).after) e
                ∙ ap (λ (k : ℕ). Some k) (let k = goes-on s g o.operands after e a in let t = takes-some s o.operands after a in omega (arith, k, t))

    one_bounded : (x : WInstr-F WInstr) (n : ℕ) → ((ws : List WInstr) → sum_by instruction_count ws ≤ n → IsListBounded ws) → immediate_count instruction_count (immediate_in x) ≤ n →
        (rest : List Token) (r : Bool) (rs : List Bool) (o : Open (List ValTy)) (os : Stacks) →
        (r ≡ true → (met_in C (met_of C) x (labels (o ∷ os)) (standing (o ∷ os))).most ≤ h) → Behind (met_in C (met_of C) x (labels (o ∷ os)) (standing (o ∷ os))) rest r rs o os → Bounded (tokens_in tokens_of x ++ rest) (r ∷ rs) (o ∷ os)
    one_bounded (WInstr-F.Block t xs) n go le rest r rs o os most behind = (
      λ live. let l = most live in omega (arith, l),
      λ mid e. subst (λ (y : Stacks). Bounded ((flat_map tokens_of xs ++ End ∷ []) ++ rest) (r ∷ r ∷ rs) y) (sym e)
          (block_bounded (Straight t) xs rest r rs o os (go xs (omega arith)) (λ live. let l = most live in omega (arith, l))
          (behind (option_to_list t ++ o.operands) r (λ live. (live, ap (λ (k : ℕ). Some k) (sym (standing-given t o os)))))),
    )
    one_bounded (WInstr-F.Loop t xs) n go le rest r rs o os most behind = (
      λ live. let l = most live in omega (arith, l),
      λ mid e. subst (λ (y : Stacks). Bounded ((flat_map tokens_of xs ++ End ∷ []) ++ rest) (r ∷ r ∷ rs) y) (sym e)
          (block_bounded (Again t) xs rest r rs o os (go xs (omega arith)) (λ live. let l = most live in omega (arith, l))
          (behind (option_to_list t ++ o.operands) r (λ live. (live, ap (λ (k : ℕ). Some k) (sym (standing-given t o os)))))),
    )
    one_bounded (WInstr-F.If t xs) n go le rest r rs o os most behind = (
      λ live. let l = most live in omega (arith, l),
      λ mid e.
          let below = e.0 in
          let fewer : standing (put o below ∷ os) ≡ standing (o ∷ os) - 1 = (let l = ap length e.1 in omega (arith, l)) in
          subst (λ (y : Stacks). Bounded ((flat_map tokens_of xs ++ End ∷ []) ++ rest) (r ∷ r ∷ rs) y) (sym e.2)
          (block_bounded (FirstArm t) xs rest r rs (put o below) os (go xs (omega arith))
          (λ live. let l = most live in subst (λ (k : ℕ). (met_list (met_of C) xs (t ∷ labels (o ∷ os)) k).most ≤ h) (sym fewer) (omega (arith, l)))
          (behind (option_to_list t ++ below) r (λ live. (live, ap (λ (k : ℕ). Some k) (sym (standing-given t (put o below) os ∙ ap (λ (k : ℕ). k + count t) fewer)))))),
    )
    one_bounded (WInstr-F.IfElse t xs ys) n go le rest r rs o os most behind = (
      λ live. let l = most live in omega (arith, l),
      λ mid e.
          let below = e.0 in
          let fewer : standing (put o below ∷ os) ≡ standing (o ∷ os) - 1 = (let l = ap length e.1 in omega (arith, l)) in
          let second : Bounded (flat_map tokens_of ys ++ (End ∷ rest)) (r ∷ r ∷ rs) (fresh (Straight t) ∷ put o below ∷ os) =
          inside (Straight t) ys (End ∷ rest) r rs (put o below) os (go ys (omega arith))
          (λ live. let l = most live in subst (λ (k : ℕ). (met_list (met_of C) ys (t ∷ labels (o ∷ os)) k).most ≤ h) (sym fewer) (omega (arith, l)))
          (ends (Straight t) rest r rs (put o below) os
          (behind (option_to_list t ++ below) r (λ live. (live, ap (λ (k : ℕ). Some k) (sym (standing-given t (put o below) os ∙ ap (λ (k : ℕ). k + count t) fewer)))))) in
          subst (λ (y : Stacks). Bounded ((flat_map tokens_of xs ++ (Else ∷ (flat_map tokens_of ys ++ End ∷ []))) ++ rest) (r ∷ r ∷ rs) y) (sym e.2)
          (subst (λ (ts : List Token). Bounded ts (r ∷ r ∷ rs) (fresh (FirstArm t) ∷ put o below ∷ os)) (sym (two_lists_end (flat_map tokens_of xs) (flat_map tokens_of ys) rest))
          (inside (FirstArm t) xs (Else ∷ (flat_map tokens_of ys ++ (End ∷ rest))) r rs (put o below) os (go xs (omega arith))
          (λ live. let l = most live in subst (λ (k : ℕ). (met_list (met_of C) xs (t ∷ labels (o ∷ os)) k).most ≤ h) (sym fewer) (omega (arith, l)))
          (λ st now g. (
            g,
            λ mid' e'.
                let same : FirstArm t ≡ FirstArm e'.0 = e'.1 in
                let et : t ≡ e'.0 = (cc) in
                subst (λ (y : Stacks). Bounded (flat_map tokens_of ys ++ (End ∷ rest)) (r ∷ r ∷ rs) y) (ap (λ (u : Option ValTy). fresh (Straight u) ∷ put o below ∷ os) et ∙ sym e'.3) second,
          )))),
    )
    one_bounded x n go le rest r rs o os most behind = plain_bounded x rest r rs o os most behind

    list_bounded : (n : ℕ) (ws : List WInstr) → sum_by instruction_count ws ≤ n → IsListBounded ws
    list_bounded n [] le rest r rs o os most behind = behind o.operands r (λ live. (live, refl))
    list_bounded zero (w ∷ ws) le rest r rs o os most behind =
        let c = instruction_count-layer w in let l = sum_by-cons instruction_count w ws in absurd (omega (arith, c, l))
    list_bounded (suc n) (w ∷ ws) le rest r rs o os most behind =
        let c = instruction_count-layer w in
        let l = sum_by-cons instruction_count w ws in
        let ls : Labels = labels (o ∷ os) in
        let m : Met = met_of C w ls (standing (o ∷ os)) in
        let go : ℕ → Met = met_list (met_of C) ws ls in
        let same : m ≡ met_in C (met_of C) (out-WInstr w) ls (standing (o ∷ os)) = met-layer C w ls (standing (o ∷ os)) in
        let e : (tokens_of w ++ flat_map tokens_of ws) ++ rest ≡ tokens_in tokens_of (out-WInstr w) ++ (flat_map tokens_of ws ++ rest) =
        append_assoc (tokens_of w) (flat_map tokens_of ws) rest ∙ ap (λ (ts : List Token). ts ++ (flat_map tokens_of ws ++ rest)) (tokens-layer w) in
        subst (λ (ts : List Token). Bounded ts (r ∷ rs) (o ∷ os)) (sym e)
        (one_bounded (out-WInstr w) n (list_bounded n) (omega (arith, c, l)) (flat_map tokens_of ws ++ rest) r rs o os
        (λ live. let b = most live in let f = then-first m go in subst (λ (y : Met). y.most ≤ h) same (omega (arith, b, f)))
        (λ st now g.
        let k : ℕ = standing (put o st ∷ os) in
        list_bounded n ws (omega (arith, c, l)) rest now rs (put o st) os
        (λ live. let p = g live in let b = most p.0 in let s = then-second m go k (ap (λ (y : Met). y.after) same ∙ p.1) in omega (arith, b, s))
        (λ st' now' g'. behind st' now' (λ live.
        let p = g' live in
        let q = g p.0 in
        (q.0, then-after m go k (ap (λ (y : Met). y.after) same ∙ q.1) ∙ p.1)))))

    -- and so is each point
    point_bounded : (front back : List Token) (rs : List Bool) (os to : Stacks) → Bounded (front ++ back) rs os → Leads C front os to → is_reached (reached front rs) ≡ true → standing to ≤ h
    point_bounded [] [] rs os to b d live = subst (λ (y : Stacks). standing y ≤ h) d (b live)
    point_bounded [] (t ∷ back) rs os to b d live = subst (λ (y : Stacks). standing y ≤ h) d (b.0 live)
    point_bounded (t ∷ front) back rs os to b d live = point_bounded front back (reached_behind t rs) d.0 to (b.1 d.0 d.1) d.2 live

  -- no more operands stand at a point than the height says
  pub height-bounds : (body : List WInstr) (front : List Token) (n : ℕ) → IsPoint C (code_of body) front n → n ≤ height_of C body
  height-bounds body front n p =
      let h : ℕ = height_of C body in
      let whole : Bounded h (code_of body) (true ∷ []) (start C) =
      list_bounded h (sum_by instruction_count body) body (omega arith) (End ∷ []) true [] (fresh (Straight C.result)) []
      (λ live. omega arith)
      (λ st now g. (λ live. let k = list-within body (C.result ∷ []) 0 (standing (put (fresh (Straight C.result)) st ∷ [])) (g live).1 in omega (arith, k), λ mid e. subst (λ (y : Stacks). Bounded h [] [] y) (sym e.2) (λ live. omega arith))) in
      let at = point_bounded h front p.behind (true ∷ []) (start C) p.stacks (subst (λ (ts : List Token). Bounded h ts (true ∷ []) (start C)) p.parted whole) p.leads p.reaches in
      subst (λ (k : ℕ). k ≤ height_of C body) p.count at
