-- What is left of a typed list behind its first instruction, by the instruction's signature or by the lists that it nests.
use Rattle.std.proofs.Common.{◌≡◌, ◌∙◌, ℕ, ◌+◌, ◌-◌, ◌≤◌, max, List, [], ◌∷◌, ◌++◌, map, length, refl, sym, ap, subst, arith}
use Rattle.std.specs.Prelude.{Option, Some, None, Result, Ok, Err, option_to_list}
use Rattle.std.proofs.lemmas.List.{length-append}
use Rattle.wasm_ast.specs.declared.types.ValTy.{ValTy}
use Rattle.wasm_ast.specs.declared.instructions.WInstr.{WInstr, out-WInstr}
use Rattle.wasm_ast.specs.declared.instructions.WInstr.TheOpen.{WInstr-F}
use Rattle.wasm_grammar.specs.ProfileInstructions.{InstructionFits, InstructionsFit, none_fit, more_fit}
use Rattle.wasm_typing.specs.declared.rule.WRule.{WRule}
use Rattle.wasm_typing.specs.declared.context.Context.{Context}
use Rattle.wasm_typing.specs.Signatures.{Slot, Left, Gives, Anything, Signature, signature_in}
use Rattle.wasm_typing.specs.Typing.{Labels, fill, IsLeft, Applies, IsTyped, AreTyped, plain, block, loop, one_arm, two_arms, none, more}
use Rattle.wasm_typing.specs.Heights.{Met, count, met_left, met_plain, met_then, met_list, met_in, met_of}
use Rattle.wasm_typing.proofs.HeightLayers.{met-layer}
use Rattle.wasm_machine_typing.specs.Values.{AreOf}
use Rattle.wasm_machine_typing.specs.Lists.{Runs}
use Rattle.wasm_machine_typing.proofs.Values.{part, join, as_long}

length-fill : (t : ValTy) (ss : List Slot) → length (map (fill t) ss) ≡ length ss
length-fill t [] = refl
length-fill t (s ∷ ss) = let i = length-fill t ss in omega (arith, i)

count-fill : (t : ValTy) (g : Option Slot) → length (map (fill t) (option_to_list g)) ≡ count g
count-fill t None = refl
count-fill t (Some s) = refl

left-is : (t : ValTy) (g : Option Slot) (below after : List ValTy) → IsLeft t (Gives g) below after → after ≡ map (fill t) (option_to_list g) ++ below
left-is t None below after h = h
left-is t (Some s) below after h = h

-- the first instruction and the others fit
pub first_fits : (i : WInstr) (rest ws : List WInstr) → ws ≡ i ∷ rest → InstructionsFit ws → InstructionFits i × InstructionsFit rest
first_fits i rest ws e (none_fit f) = absurd (cc)
first_fits i rest ws e (more_fit x xs f h k) =
    let ei : x ≡ i = (cc) in
    let er : xs ≡ rest = (cc) in
    (subst InstructionFits ei h, subst InstructionsFit er k)

-- a plain instruction takes these operands, and whatever it leaves of the right types, the list goes on
pub record Used (C : Context) (room : ℕ) (ls : Labels) (rest : List WInstr) (operands : List ℕ) (under : ℕ) (result : Option ValTy) (takes : List Slot) (left : Option Slot) : Type 0 where
  pub at : ValTy
  pub taken : List ℕ
  pub below : List ℕ
  pub parted : operands ≡ taken ++ below
  pub of : AreOf (map (fill at) takes) taken
  pub on : (given : List ℕ) → AreOf (map (fill at) (option_to_list left)) given → Runs C room ls rest (given ++ below) under result

-- an instruction that never goes on takes these operands
pub record Taken (operands : List ℕ) (takes : List Slot) : Type 0 where
  pub at : ValTy
  pub taken : List ℕ
  pub below : List ℕ
  pub parted : operands ≡ taken ++ below
  pub of : AreOf (map (fill at) takes) taken

module _ (C : Context) (ls : Labels) where
  met-plain : (s : Signature) (x : WInstr-F WInstr) (n : ℕ) → signature_in C ls x ≡ Ok s → met_in C (met_of C) x ls n ≡ met_plain (Ok s) n
  met-plain s (WInstr-F.Block t xs) n e = absurd (cc)
  met-plain s (WInstr-F.Loop t xs) n e = absurd (cc)
  met-plain s (WInstr-F.If t xs) n e = absurd (cc)
  met-plain s (WInstr-F.IfElse t xs ys) n e = absurd (cc)
  met-plain s _ n e = ap (λ (r : Result Signature WRule). met_plain r n) e

  -- an instruction of this signature applies it
  applied : (s : Signature) (x : WInstr-F WInstr) (before after : List ValTy) → signature_in C ls x ≡ Ok s → IsTyped C ls x before after → Applies s before after
  applied s x before after e (plain s' e' a) = let same : s' ≡ s = (cc) in subst (λ (y : Signature). Applies y before after) same a
  applied s x before after e (block t xs ex d ea) = let f : signature_in C ls (WInstr-F.Block t xs) ≡ Ok s = subst (λ (y : WInstr-F WInstr). signature_in C ls y ≡ Ok s) ex e in absurd (cc)
  applied s x before after e (loop t xs ex d ea) = let f : signature_in C ls (WInstr-F.Loop t xs) ≡ Ok s = subst (λ (y : WInstr-F WInstr). signature_in C ls y ≡ Ok s) ex e in absurd (cc)
  applied s x before after e (one_arm xs ex d eb) = let f : signature_in C ls (WInstr-F.If None xs) ≡ Ok s = subst (λ (y : WInstr-F WInstr). signature_in C ls y ≡ Ok s) ex e in absurd (cc)
  applied s x before after e (two_arms t xs ys below ex d g eb ea) =
      let f : signature_in C ls (WInstr-F.IfElse t xs ys) ≡ Ok s = subst (λ (y : WInstr-F WInstr). signature_in C ls y ≡ Ok s) ex e in absurd (cc)

  pub parts : (i : WInstr) (rest : List WInstr) (ws : List WInstr) (before after : List ValTy) → ws ≡ i ∷ rest → AreTyped C ls ws before after →
      (mid : List ValTy) × IsTyped C ls (out-WInstr i) before mid × AreTyped C ls rest mid after
  parts i rest ws before after ew (none e q) = absurd (cc)
  parts i rest ws before after ew (more x xs mid e d f) =
      let ei : x ≡ i = (cc) in
      let er : xs ≡ rest = (cc) in
      (mid, subst (λ (y : WInstr). IsTyped C ls (out-WInstr y) before mid) ei d, subst (λ (y : List WInstr). AreTyped C ls y mid after) er f)

  falls : (s : Signature) (g : Option Slot) (i : WInstr) (rest : List WInstr) (n room : ℕ) → signature_in C ls (out-WInstr i) ≡ Ok s → s.left ≡ Gives g →
      (met_list (met_of C) (i ∷ rest) ls n).most ≤ room → (met_list (met_of C) rest ls ((n - length s.takes) + count g)).most ≤ room
  falls s g i rest n room e eg le =
      let m : met_of C i ls n ≡ met_left (Gives g) (n - length s.takes) n = met-layer C i ls n ∙ met-plain s (out-WInstr i) n e ∙ ap (λ (l : Left). met_left l (n - length s.takes) n) eg in
      let k : (met_then (met_left (Gives g) (n - length s.takes) n) (met_list (met_of C) rest ls)).most ≤ room = subst (λ (x : Met). (met_then x (met_list (met_of C) rest ls)).most ≤ room) m le in
      omega (arith, k)

  pub used : (room : ℕ) (i : WInstr) (rest : List WInstr) (operands : List ℕ) (under : ℕ) (result : Option ValTy) (s : Signature) (g : Option Slot) →
      Runs C room ls (i ∷ rest) operands under result → signature_in C ls (out-WInstr i) ≡ Ok s → s.left ≡ Gives g → Used C room ls rest operands under result s.takes g
  used room i rest operands under result s g h e eg =
      let p = parts i rest (i ∷ rest) h.types (option_to_list result) refl h.typed in
      let a = applied s (out-WInstr i) h.types p.0 e p.1 in
      let v = part (map (fill a.at) s.takes) a.below operands (subst (λ (ts : List ValTy). AreOf ts operands) a.taken h.values) in
      let l = left-is a.at g a.below p.0 (subst (λ (x : Left). IsLeft a.at x a.below p.0) eg a.left) in
      let long = as_long (map (fill a.at) s.takes) v.0 v.3 in
      let takes = length-fill a.at s.takes in
      let all = ap length v.2 in
      let split = length-append v.0 v.1 in
      let fall = falls s g i rest (length operands + under) room e eg h.fits in
      record {
        at = a.at;
        taken = v.0;
        below = v.1;
        parted = v.2;
        of = v.3;
        on = λ given k.
            let glong = as_long (map (fill a.at) (option_to_list g)) given k in
            let gcount = count-fill a.at g in
            let gsplit = length-append given v.1 in
            let n : (length operands + under - length s.takes) + count g ≡ length (given ++ v.1) + under = omega (arith, long, takes, all, split, glong, gcount, gsplit) in
            record {
              types = map (fill a.at) (option_to_list g) ++ a.below;
              values = join (map (fill a.at) (option_to_list g)) a.below given v.1 k v.4;
              typed = subst (λ (ts : List ValTy). AreTyped C ls rest ts (option_to_list result)) l p.2;
              numbers = (first_fits i rest (i ∷ rest) refl h.numbers).1;
              fits = subst (λ (m : ℕ). (met_list (met_of C) rest ls m).most ≤ room) n fall;
            };
      }

  pub taken_by : (room : ℕ) (i : WInstr) (rest : List WInstr) (operands : List ℕ) (under : ℕ) (result : Option ValTy) (s : Signature) →
      Runs C room ls (i ∷ rest) operands under result → signature_in C ls (out-WInstr i) ≡ Ok s → Taken operands s.takes
  taken_by room i rest operands under result s h e =
      let p = parts i rest (i ∷ rest) h.types (option_to_list result) refl h.typed in
      let a = applied s (out-WInstr i) h.types p.0 e p.1 in
      let v = part (map (fill a.at) s.takes) a.below operands (subst (λ (ts : List ValTy). AreOf ts operands) a.taken h.values) in
      record { at = a.at; taken = v.0; below = v.1; parted = v.2; of = v.3 }

met_plain-least : (r : Result Signature WRule) (n : ℕ) → n ≤ (met_plain r n).most
met_plain-least (Err e) n = omega arith
met_plain-least (Ok s) n = left_least s.left (n - length s.takes) n
  where
    left_least : (l : Left) (below n : ℕ) → n ≤ (met_left l below n).most
    left_least (Gives g) below n = omega arith
    left_least Anything below n = omega arith

abbrev then_at : Met → (ℕ → Met) → Option ℕ → Met
then_at m go None = m
then_at m go (Some k) = record { after = (go k).after; most = max m.most (go k).most }

then_at-least : (m : Met) (go : ℕ → Met) (a : Option ℕ) (n : ℕ) → n ≤ m.most → n ≤ (then_at m go a).most
then_at-least m go None n h = h
then_at-least m go (Some k) n h = omega (arith, h)

met_then-least : (m : Met) (go : ℕ → Met) (n : ℕ) → n ≤ m.most → n ≤ (met_then m go).most
met_then-least m go n h = then_at-least m go m.after n h

module _ (C : Context) where
  met_in-least : (w : WInstr-F WInstr) (ls : Labels) (n : ℕ) → n ≤ (met_in C (met_of C) w ls n).most
  met_in-least (WInstr-F.Block t xs) ls n = omega arith
  met_in-least (WInstr-F.Loop t xs) ls n = omega arith
  met_in-least (WInstr-F.If t xs) ls n = omega arith
  met_in-least (WInstr-F.IfElse t xs ys) ls n = omega arith
  met_in-least w ls n = met_plain-least (signature_in C ls w) n

  met_list-least : (xs : List WInstr) (ls : Labels) (n : ℕ) → n ≤ (met_list (met_of C) xs ls n).most
  met_list-least [] ls n = omega arith
  met_list-least (x ∷ xs) ls n =
      met_then-least (met_of C x ls n) (met_list (met_of C) xs ls) n
      (subst (λ (m : Met). n ≤ m.most) (sym (met-layer C x ls n)) (met_in-least (out-WInstr x) ls n))

pub stands : (C : Context) (room : ℕ) (ls : Labels) (rest : List WInstr) (operands : List ℕ) (under : ℕ) (result : Option ValTy) → Runs C room ls rest operands under result → length operands + under ≤ room
stands C room ls rest operands under result h =
    let least = met_list-least C rest ls (length operands + under) in
    let f = h.fits in
    omega (arith, least, f)
