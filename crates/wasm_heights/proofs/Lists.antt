-- What a list meets, instruction by instruction, and what an instruction's operation meets.
use Rattle.std.proofs.Common.{◌≡◌, ◌∙◌, ℕ, ◌+◌, ◌-◌, ◌<◌, ◌≤◌, max, List, [], ◌∷◌, Option, Some, None, length, drop, get_or, refl, sym, ap, subst, suc, zero, arith, drop-cons, add-one}
use Rattle.std.specs.Prelude.{Result, Ok, Err, IfOk}
use Rattle.wasm_ast.specs.declared.types.ValTy.{ValTy}
use Rattle.wasm_ast.specs.declared.instructions.WInstr.{WInstr, out-WInstr}
use Rattle.wasm_ast.specs.declared.instructions.WInstr.TheOpen.{WInstr-F}
use Rattle.wasm_ast.specs.Operations as op
use Rattle.wasm_ast.specs.Operations.{Operation, operation_in}
use Rattle.wasm_typing.specs.declared.rule.WRule.{WRule}
use Rattle.wasm_typing.specs.declared.context.Context.{Context}
use Rattle.wasm_typing.specs.Signatures.{Left, Gives, Anything, Signature, signature_in, signature_of}
use Rattle.wasm_typing.specs.Typing.{Labels}
use Rattle.wasm_typing.specs.Heights.{Met, met_list, met_then, met_block, met_in, met_of, met_plain, met_left}
use Rattle.wasm_typing.proofs.HeightLayers.{met-layer}
use Rattle.wasm_checking.proofs.Operations.{NestsNone}
use Rattle.wasm_heights.specs.Changes.{change_of, change_left, met_change}

-- what was met before, and what is met from here on
abbrev pub joined : ℕ → Met → Met
joined k m = record { after = m.after; most = max k m.most }

pub joined_zero : (m : Met) → m ≡ joined 0 m
joined_zero m = let e : max 0 m.most ≡ m.most = omega arith in ap (λ (k : ℕ). record { after = m.after; most = k }) (sym e)

then_goes : (m : Met) (go : ℕ → Met) (k : ℕ) → m.after ≡ Some k → met_then m go ≡ record { after = (go k).after; most = max m.most (go k).most }
then_goes m go k e = ap (λ (o : Option ℕ). elim o as (λ x. Met) [ None ↦ m | Some n ↦ record { after = (go n).after; most = max m.most (go n).most } ]) e

then_stops : (m : Met) (go : ℕ → Met) → m.after ≡ None → met_then m go ≡ m
then_stops m go e = ap (λ (o : Option ℕ). elim o as (λ x. Met) [ None ↦ m | Some n ↦ record { after = (go n).after; most = max m.most (go n).most } ]) e

join : (a b c : ℕ) → max a (max b c) ≡ max (max b a) c
join a b c = omega arith

module _ (C : Context) where
  abbrev pub list_met : List WInstr → Labels → ℕ → Met
  list_met xs ls n = met_list (met_of C) xs ls n

  goes : (x : WInstr) (xs : List WInstr) (ls : Labels) (n k most : ℕ) → (met_of C x ls n).after ≡ Some k → joined most (list_met (x ∷ xs) ls n) ≡ joined (max (met_of C x ls n).most most) (list_met xs ls k)
  goes x xs ls n k most e = ap (λ (m : Met). joined most m) (then_goes (met_of C x ls n) (list_met xs ls) k e) ∙ ap (λ (j : ℕ). record { after = (list_met xs ls k).after; most = j }) (join most (met_of C x ls n).most (list_met xs ls k).most)

  stops : (x : WInstr) (xs : List WInstr) (ls : Labels) (n most : ℕ) → (met_of C x ls n).after ≡ None → joined most (list_met (x ∷ xs) ls n) ≡ record { after = None; most = max (met_of C x ls n).most most }
  stops x xs ls n most e =
      ap (λ (m : Met). joined most m) (then_stops (met_of C x ls n) (list_met xs ls) e)
      ∙ ap (λ (o : Option ℕ). record { after = o; most = max most (met_of C x ls n).most }) e
      ∙ ap (λ (j : ℕ). record { after = None; most = j }) (swap most (met_of C x ls n).most)
    where
      swap : (a b : ℕ) → max a b ≡ max b a
      swap a b = omega arith

  parted : (xs : List WInstr) (i : ℕ) (x : WInstr) → i < length xs → x ≡ get_or xs i x → drop i xs ≡ x ∷ drop (i + 1) xs
  parted xs i x lt e = rw add-one (drop-cons xs i x lt ∙ ap (λ (y : WInstr). y ∷ drop (suc i) xs) (sym e))

  pub list_goes : (xs : List WInstr) (i : ℕ) (x : WInstr) (ls : Labels) (n k most : ℕ) (m : Met) → i < length xs → x ≡ get_or xs i x → m ≡ met_of C x ls n → m.after ≡ Some k → joined most (list_met (drop i xs) ls n) ≡ joined (max m.most most) (list_met (drop (i + 1) xs) ls k)
  list_goes xs i x ls n k most m lt ex em ek =
      ap (λ (ys : List WInstr). joined most (list_met ys ls n)) (parted xs i x lt ex)
      ∙ goes x (drop (i + 1) xs) ls n k most (ap (λ (y : Met). y.after) (sym em) ∙ ek)
      ∙ ap (λ (y : Met). joined (max y.most most) (list_met (drop (i + 1) xs) ls k)) (sym em)

  pub list_stops : (xs : List WInstr) (i : ℕ) (x : WInstr) (ls : Labels) (n most : ℕ) (m : Met) → i < length xs → x ≡ get_or xs i x → m ≡ met_of C x ls n → m.after ≡ None → joined most (list_met (drop i xs) ls n) ≡ record { after = None; most = max m.most most }
  list_stops xs i x ls n most m lt ex em ek =
      ap (λ (ys : List WInstr). joined most (list_met ys ls n)) (parted xs i x lt ex)
      ∙ stops x (drop (i + 1) xs) ls n most (ap (λ (y : Met). y.after) (sym em) ∙ ek)
      ∙ ap (λ (y : Met). record { after = None; most = max y.most most }) (sym em)

  pub list_ends : (xs : List WInstr) (i : ℕ) (ls : Labels) (n most : ℕ) → length xs ≤ i → joined most (list_met (drop i xs) ls n) ≡ record { after = Some n; most = max most n }
  list_ends xs i ls n most past = ap (λ (ys : List WInstr). joined most (list_met ys ls n)) (all_dropped xs i past)
    where
      all_dropped : (ys : List WInstr) (k : ℕ) → length ys ≤ k → drop k ys ≡ []
      all_dropped [] zero h = refl
      all_dropped [] (suc k) h = refl
      all_dropped (y ∷ ys) zero h = absurd (omega arith)
      all_dropped (y ∷ ys) (suc k) h = let g : length ys ≤ k = omega arith in all_dropped ys k g

  -- by the operation
  block_in : (w : WInstr-F WInstr) (t : Option ValTy) (xs : List WInstr) → op.Block t xs ≡ operation_in w → w ≡ WInstr-F.Block t xs
  block_in (WInstr-F.Block u ys) t xs e = cc
  block_in _ t xs e = absurd (cc)

  loop_in : (w : WInstr-F WInstr) (t : Option ValTy) (xs : List WInstr) → op.Loop t xs ≡ operation_in w → w ≡ WInstr-F.Loop t xs
  loop_in (WInstr-F.Loop u ys) t xs e = cc
  loop_in _ t xs e = absurd (cc)

  if_in : (w : WInstr-F WInstr) (t : Option ValTy) (xs : List WInstr) → op.If t xs ≡ operation_in w → w ≡ WInstr-F.If t xs
  if_in (WInstr-F.If u ys) t xs e = cc
  if_in _ t xs e = absurd (cc)

  if_else_in : (w : WInstr-F WInstr) (t : Option ValTy) (xs ys : List WInstr) → op.IfElse t xs ys ≡ operation_in w → w ≡ WInstr-F.IfElse t xs ys
  if_else_in (WInstr-F.IfElse u us vs) t xs ys e = cc
  if_else_in _ t xs ys e = absurd (cc)

  by_layer : (w : WInstr) (x : WInstr-F WInstr) (ls : Labels) (n : ℕ) → out-WInstr w ≡ x → met_of C w ls n ≡ met_in C (met_of C) x ls n
  by_layer w x ls n e = met-layer C w ls n ∙ ap (λ (y : WInstr-F WInstr). met_in C (met_of C) y ls n) e

  pub block_met : (w : WInstr) (t : Option ValTy) (xs : List WInstr) (ls : Labels) (n most : ℕ) → op.Block t xs ≡ operation_in (out-WInstr w) → most ≡ (list_met xs (t ∷ ls) n).most → met_block t n n most ≡ met_of C w ls n
  block_met w t xs ls n most e em = ap (met_block t n n) em ∙ sym (by_layer w (WInstr-F.Block t xs) ls n (block_in (out-WInstr w) t xs e))

  pub loop_met : (w : WInstr) (t : Option ValTy) (xs : List WInstr) (ls : Labels) (n most : ℕ) → op.Loop t xs ≡ operation_in (out-WInstr w) → most ≡ (list_met xs (None ∷ ls) n).most → met_block t n n most ≡ met_of C w ls n
  loop_met w t xs ls n most e em = ap (met_block t n n) em ∙ sym (by_layer w (WInstr-F.Loop t xs) ls n (loop_in (out-WInstr w) t xs e))

  pub if_met : (w : WInstr) (t : Option ValTy) (xs : List WInstr) (ls : Labels) (n below most : ℕ) → op.If t xs ≡ operation_in (out-WInstr w) → below ≡ n - 1 → most ≡ (list_met xs (t ∷ ls) below).most → met_block t below n most ≡ met_of C w ls n
  if_met w t xs ls n below most e eb em =
      ap (met_block t below n) em
      ∙ ap (λ (k : ℕ). met_block t k n (list_met xs (t ∷ ls) k).most) eb
      ∙ sym (by_layer w (WInstr-F.If t xs) ls n (if_in (out-WInstr w) t xs e))

  pub if_else_met : (w : WInstr) (t : Option ValTy) (xs ys : List WInstr) (ls ls' : Labels) (n below first second : ℕ) → op.IfElse t xs ys ≡ operation_in (out-WInstr w) → below ≡ n - 1 → first ≡ (list_met xs (t ∷ ls) below).most → ls' ≡ ls → second ≡ (list_met ys (t ∷ ls') below).most → met_block t below n (max first second) ≡ met_of C w ls n
  if_else_met w t xs ys ls ls' n below first second e eb ef el es =
      ap (λ (k : ℕ). met_block t below n (max k second)) ef
      ∙ ap (λ (k : ℕ). met_block t below n (max (list_met xs (t ∷ ls) below).most k)) (es ∙ ap (λ (l : Labels). (list_met ys (t ∷ l) below).most) el)
      ∙ ap (λ (k : ℕ). met_block t k n (max (list_met xs (t ∷ ls) k).most (list_met ys (t ∷ ls) k).most)) eb
      ∙ sym (by_layer w (WInstr-F.IfElse t xs ys) ls n (if_else_in (out-WInstr w) t xs ys e))

  by_change : (s : Result Signature WRule) (n : ℕ) → met_change (change_of s) n ≡ met_plain s n
  by_change (Err rule) n = refl
  by_change (Ok s) n = of_left s.left (length s.takes) n
    where
      of_left : (l : Left) (takes k : ℕ) → met_change (change_left l takes) k ≡ met_left l (k - takes) k
      of_left (Gives g) takes k = refl
      of_left Anything takes k = refl

  plain_in : (w : WInstr-F WInstr) (ls : Labels) (n : ℕ) → NestsNone (operation_in w) → met_in C (met_of C) w ls n ≡ met_plain (signature_in C ls w) n
  plain_in (WInstr-F.Block t xs) ls n h = absurd (h.block t xs refl)
  plain_in (WInstr-F.Loop t xs) ls n h = absurd (h.loop t xs refl)
  plain_in (WInstr-F.If t xs) ls n h = absurd (h.one_arm t xs refl)
  plain_in (WInstr-F.IfElse t xs ys) ls n h = absurd (h.two_arms t xs ys refl)
  plain_in _ ls n h = refl

  pub plain_met : (w : WInstr) (o : Operation WInstr) (ls : Labels) (n : ℕ) → o ≡ operation_in (out-WInstr w) → NestsNone o → met_change (change_of (signature_of C ls o)) n ≡ met_of C w ls n
  plain_met w o ls n e h =
      by_change (signature_of C ls o) n
      ∙ ap (λ (p : Operation WInstr). met_plain (signature_of C ls p) n) e
      ∙ sym (plain_in (out-WInstr w) ls n (subst (λ (p : Operation WInstr). NestsNone p) e h))
      ∙ sym (met-layer C w ls n)

pub if_ok_map : {A E : Type 0} {P Q : A → Type 0} (r : Result A E) → ((a : A) → P a → Q a) → IfOk r P → IfOk r Q
if_ok_map (Ok a) f h = f a h
if_ok_map (Err e) f h = tt
