-- What is left of a typed list in front of a block, a loop or an if, and of the lists that they nest.
use Rattle.std.proofs.Common.{◌≡◌, ◌∙◌, ℕ, ◌+◌, ◌-◌, ◌≤◌, max, List, [], ◌∷◌, ◌++◌, length, refl, sym, ap, subst, arith}
use Rattle.std.specs.Prelude.{Option, Some, None, Ok, option_to_list}
use Rattle.std.proofs.lemmas.List.{length-append}
use Rattle.wasm_ast.specs.declared.types.ValTy.{ValTy}
use Rattle.wasm_ast.specs.declared.types.ValTy.TheVariants.{I32}
use Rattle.wasm_ast.specs.declared.instructions.WInstr.{WInstr, out-WInstr}
use Rattle.wasm_ast.specs.declared.instructions.WInstr.TheOpen.{WInstr-F}
use Rattle.wasm_ast.specs.Operations.{Operation, operation_in}
use Rattle.wasm_ast.specs.Operations as op
use Rattle.wasm_ast.specs.Immediates.{Body, Bodies, immediate_of, immediate_by}
use Rattle.wasm_grammar.specs.ProfileInstructions.{ImmediateFits, InstructionFits, InstructionsFit, plain_fits, nested_fits, two_arms_fit}
use Rattle.wasm_typing.specs.declared.context.Context.{Context}
use Rattle.wasm_typing.specs.Signatures.{Signature, signature_of}
use Rattle.wasm_typing.specs.Typing.{Labels, IsTyped, AreTyped, plain, block, loop, one_arm, two_arms}
use Rattle.wasm_typing.specs.Heights.{Met, count, met_then, met_list, met_block, met_in, met_of}
use Rattle.wasm_typing.proofs.HeightLayers.{met-layer}
use Rattle.wasm_machine_typing.specs.Values.{AreOf}
use Rattle.wasm_machine_typing.specs.Lists.{Runs}
use Rattle.wasm_machine_typing.proofs.Values.{join, as_long}
use Rattle.wasm_machine_typing.proofs.Lists.{parts, first_fits}

-- a list is entered over these operands, typed and within the room, and whatever it gives, the one around it goes on
pub record Enters (C : Context) (room : ℕ) (ls : Labels) (label t : Option ValTy) (xs rest : List WInstr) (below : List ℕ) (under : ℕ) (result : Option ValTy) : Type 0 where
  pub inside : Runs C room (label ∷ ls) xs [] (length below + under) t
  pub behind : (given : List ℕ) → AreOf (option_to_list t) given → Runs C room ls rest (given ++ below) under result

result_count : (t : Option ValTy) → length (option_to_list t) ≡ count t
result_count None = refl
result_count (Some t) = refl

-- a condition on top
condition : (types after : List ValTy) (operands : List ℕ) → types ≡ I32 ∷ after → AreOf types operands → (v : ℕ) × (below : List ℕ) × (operands ≡ v ∷ below) × AreOf after below
condition types after [] e h = absurd (subst (λ (ts : List ValTy). AreOf ts []) e h)
condition types after (v ∷ vs) e h = let k = subst (λ (ts : List ValTy). AreOf ts (v ∷ vs)) e h in (v, vs, refl, k.1)

body_numbers : (i : WInstr) (t : Option ValTy) (xs : List WInstr) → InstructionFits i → immediate_of i ≡ Body t xs → InstructionsFit xs
body_numbers i t xs (plain_fits h) e = absurd (subst ImmediateFits e h)
body_numbers i t xs (nested_fits u ys f l k) e = let g : Body u ys ≡ Body t xs = sym f ∙ e in let q : ys ≡ xs = (cc) in subst InstructionsFit q k
body_numbers i t xs (two_arms_fit u ys zs f l m k n) e = let g : Bodies u ys zs ≡ Body t xs = sym f ∙ e in absurd (cc)

arms_numbers : (i : WInstr) (t : Option ValTy) (xs ys : List WInstr) → InstructionFits i → immediate_of i ≡ Bodies t xs ys → InstructionsFit xs × InstructionsFit ys
arms_numbers i t xs ys (plain_fits h) e = absurd (subst ImmediateFits e h)
arms_numbers i t xs ys (nested_fits u zs f l k) e = let g : Body u zs ≡ Bodies t xs ys = sym f ∙ e in absurd (cc)
arms_numbers i t xs ys (two_arms_fit u zs us f l m k n) e =
    let g : Bodies u zs us ≡ Bodies t xs ys = sym f ∙ e in
    let q : zs ≡ xs = (cc) in
    let p : us ≡ ys = (cc) in
    (subst InstructionsFit q k, subst InstructionsFit p n)

module _ (C : Context) (ls : Labels) where
  no_signature : (o : Operation WInstr) (x : WInstr-F WInstr) (s : Signature) → operation_in x ≡ o → signature_of C ls (operation_in x) ≡ Ok s → signature_of C ls o ≡ Ok s
  no_signature o x s q e = subst (λ (y : Operation WInstr). signature_of C ls y ≡ Ok s) q e

  block_parts : (x : WInstr-F WInstr) (t : Option ValTy) (xs : List WInstr) (before after : List ValTy) → operation_in x ≡ op.Block t xs → IsTyped C ls x before after
      → (x ≡ WInstr-F.Block t xs) × AreTyped C (t ∷ ls) xs [] (option_to_list t) × (after ≡ option_to_list t ++ before)
  block_parts x t xs before after q (plain s es a) = let f = no_signature (op.Block t xs) x s q es in absurd (cc)
  block_parts x t xs before after q (block u ys ey d ea) =
      let f : op.Block u ys ≡ op.Block t xs = sym (ap operation_in ey) ∙ q in
      let eu : u ≡ t = (cc) in
      let exs : ys ≡ xs = (cc) in (
        ey ∙ ap (λ (v : Option ValTy). WInstr-F.Block v ys) eu ∙ ap (λ (y : List WInstr). WInstr-F.Block t y) exs,
        subst (λ (v : Option ValTy). AreTyped C (v ∷ ls) xs [] (option_to_list v)) eu (subst (λ (y : List WInstr). AreTyped C (u ∷ ls) y [] (option_to_list u)) exs d),
        ea ∙ ap (λ (v : Option ValTy). option_to_list v ++ before) eu,
      )
  block_parts x t xs before after q (loop u ys ey d ea) = let f : op.Loop u ys ≡ op.Block t xs = sym (ap operation_in ey) ∙ q in absurd (cc)
  block_parts x t xs before after q (one_arm ys ey d eb) = let f : op.If None ys ≡ op.Block t xs = sym (ap operation_in ey) ∙ q in absurd (cc)
  block_parts x t xs before after q (two_arms u ys zs below ey d g eb ea) = let f : op.IfElse u ys zs ≡ op.Block t xs = sym (ap operation_in ey) ∙ q in absurd (cc)

  loop_parts : (x : WInstr-F WInstr) (t : Option ValTy) (xs : List WInstr) (before after : List ValTy) → operation_in x ≡ op.Loop t xs → IsTyped C ls x before after
      → (x ≡ WInstr-F.Loop t xs) × AreTyped C (None ∷ ls) xs [] (option_to_list t) × (after ≡ option_to_list t ++ before)
  loop_parts x t xs before after q (plain s es a) = let f = no_signature (op.Loop t xs) x s q es in absurd (cc)
  loop_parts x t xs before after q (block u ys ey d ea) = let f : op.Block u ys ≡ op.Loop t xs = sym (ap operation_in ey) ∙ q in absurd (cc)
  loop_parts x t xs before after q (loop u ys ey d ea) =
      let f : op.Loop u ys ≡ op.Loop t xs = sym (ap operation_in ey) ∙ q in
      let eu : u ≡ t = (cc) in
      let exs : ys ≡ xs = (cc) in (
        ey ∙ ap (λ (v : Option ValTy). WInstr-F.Loop v ys) eu ∙ ap (λ (y : List WInstr). WInstr-F.Loop t y) exs,
        subst (λ (v : Option ValTy). AreTyped C (None ∷ ls) xs [] (option_to_list v)) eu (subst (λ (y : List WInstr). AreTyped C (None ∷ ls) y [] (option_to_list u)) exs d),
        ea ∙ ap (λ (v : Option ValTy). option_to_list v ++ before) eu,
      )
  loop_parts x t xs before after q (one_arm ys ey d eb) = let f : op.If None ys ≡ op.Loop t xs = sym (ap operation_in ey) ∙ q in absurd (cc)
  loop_parts x t xs before after q (two_arms u ys zs below ey d g eb ea) = let f : op.IfElse u ys zs ≡ op.Loop t xs = sym (ap operation_in ey) ∙ q in absurd (cc)

  arm_parts : (x : WInstr-F WInstr) (t : Option ValTy) (xs : List WInstr) (before after : List ValTy) → operation_in x ≡ op.If t xs → IsTyped C ls x before after
      → (t ≡ None) × (x ≡ WInstr-F.If t xs) × AreTyped C (t ∷ ls) xs [] (option_to_list t) × (before ≡ I32 ∷ after)
  arm_parts x t xs before after q (plain s es a) = let f = no_signature (op.If t xs) x s q es in absurd (cc)
  arm_parts x t xs before after q (block u ys ey d ea) = let f : op.Block u ys ≡ op.If t xs = sym (ap operation_in ey) ∙ q in absurd (cc)
  arm_parts x t xs before after q (loop u ys ey d ea) = let f : op.Loop u ys ≡ op.If t xs = sym (ap operation_in ey) ∙ q in absurd (cc)
  arm_parts x t xs before after q (one_arm ys ey d eb) =
      let f : op.If None ys ≡ op.If t xs = sym (ap operation_in ey) ∙ q in
      let eu : None ≡ t = (cc) in
      let exs : ys ≡ xs = (cc) in (
        sym eu,
        ey ∙ ap (λ (v : Option ValTy). WInstr-F.If v ys) eu ∙ ap (λ (y : List WInstr). WInstr-F.If t y) exs,
        subst (λ (v : Option ValTy). AreTyped C (v ∷ ls) xs [] (option_to_list v)) eu (subst (λ (y : List WInstr). AreTyped C (None ∷ ls) y [] []) exs d),
        eb,
      )
  arm_parts x t xs before after q (two_arms u ys zs below ey d g eb ea) = let f : op.IfElse u ys zs ≡ op.If t xs = sym (ap operation_in ey) ∙ q in absurd (cc)

  arms_parts : (x : WInstr-F WInstr) (t : Option ValTy) (xs ys : List WInstr) (before after : List ValTy) → operation_in x ≡ op.IfElse t xs ys → IsTyped C ls x before after
      → (below : List ValTy) × (x ≡ WInstr-F.IfElse t xs ys) × AreTyped C (t ∷ ls) xs [] (option_to_list t) × AreTyped C (t ∷ ls) ys [] (option_to_list t) × (before ≡ I32 ∷ below) × (after ≡ option_to_list t ++ below)
  arms_parts x t xs ys before after q (plain s es a) = let f = no_signature (op.IfElse t xs ys) x s q es in absurd (cc)
  arms_parts x t xs ys before after q (block u zs ey d ea) = let f : op.Block u zs ≡ op.IfElse t xs ys = sym (ap operation_in ey) ∙ q in absurd (cc)
  arms_parts x t xs ys before after q (loop u zs ey d ea) = let f : op.Loop u zs ≡ op.IfElse t xs ys = sym (ap operation_in ey) ∙ q in absurd (cc)
  arms_parts x t xs ys before after q (one_arm zs ey d eb) = let f : op.If None zs ≡ op.IfElse t xs ys = sym (ap operation_in ey) ∙ q in absurd (cc)
  arms_parts x t xs ys before after q (two_arms u zs us below ey d g eb ea) =
      let f : op.IfElse u zs us ≡ op.IfElse t xs ys = sym (ap operation_in ey) ∙ q in
      let eu : u ≡ t = (cc) in
      let ez : zs ≡ xs = (cc) in
      let es : us ≡ ys = (cc) in (
        below,
        ey ∙ ap (λ (v : Option ValTy). WInstr-F.IfElse v zs us) eu ∙ ap (λ (y : List WInstr). WInstr-F.IfElse t y us) ez ∙ ap (λ (y : List WInstr). WInstr-F.IfElse t xs y) es,
        subst (λ (v : Option ValTy). AreTyped C (v ∷ ls) xs [] (option_to_list v)) eu (subst (λ (y : List WInstr). AreTyped C (u ∷ ls) y [] (option_to_list u)) ez d),
        subst (λ (v : Option ValTy). AreTyped C (v ∷ ls) ys [] (option_to_list v)) eu (subst (λ (y : List WInstr). AreTyped C (u ∷ ls) y [] (option_to_list u)) es g),
        eb,
        ea ∙ ap (λ (v : Option ValTy). option_to_list v ++ below) eu,
      )

  -- what an instruction that opens a list over so many operands meets
  nested_falls : (i : WInstr) (rest : List WInstr) (x : WInstr-F WInstr) (t : Option ValTy) (n under most room : ℕ) → out-WInstr i ≡ x → met_in C (met_of C) x ls n ≡ met_block t under n most → (met_list (met_of C) (i ∷ rest) ls n).most ≤ room
      → (most ≤ room) × ((met_list (met_of C) rest ls (under + count t)).most ≤ room)
  nested_falls i rest x t n under most room e b le =
      let m : met_of C i ls n ≡ met_block t under n most = met-layer C i ls n ∙ ap (λ (y : WInstr-F WInstr). met_in C (met_of C) y ls n) e ∙ b in
      let k : (met_then (met_block t under n most) (met_list (met_of C) rest ls)).most ≤ room = subst (λ (y : Met). (met_then y (met_list (met_of C) rest ls)).most ≤ room) m le in
      (omega (arith, k), omega (arith, k))

  module _ (room : ℕ) (rest : List WInstr) (under : ℕ) (result : Option ValTy) where
    enters : (label t : Option ValTy) (xs : List WInstr) (below : List ℕ) (types : List ValTy) → AreOf types below → AreTyped C (label ∷ ls) xs [] (option_to_list t) → InstructionsFit xs
        → AreTyped C ls rest (option_to_list t ++ types) (option_to_list result) → InstructionsFit rest
        → (met_list (met_of C) xs (label ∷ ls) (length below + under)).most ≤ room → (met_list (met_of C) rest ls (length below + under + count t)).most ≤ room
        → Enters C room ls label t xs rest below under result
    enters label t xs below types values inner numbers outer others first second = record {
      inside = record {
        types = [];
        values = tt;
        typed = inner;
        numbers = numbers;
        fits = let none : length below + under ≡ 0 + (length below + under) = omega arith in subst (λ (m : ℕ). (met_list (met_of C) xs (label ∷ ls) m).most ≤ room) none first;
      };
      behind = λ given k.
          let long = as_long (option_to_list t) given k in
          let one = result_count t in
          let split = length-append given below in
          let n : length below + under + count t ≡ length (given ++ below) + under = omega (arith, long, one, split) in
          record {
            types = option_to_list t ++ types;
            values = join (option_to_list t) types given below k values;
            typed = outer;
            numbers = others;
            fits = subst (λ (m : ℕ). (met_list (met_of C) rest ls m).most ≤ room) n second;
          };
    }

    module _ (i : WInstr) (operands : List ℕ) (h : Runs C room ls (i ∷ rest) operands under result) where
      pub block_enters : (t : Option ValTy) (xs : List WInstr) → operation_in (out-WInstr i) ≡ op.Block t xs → Enters C room ls t t xs rest operands under result
      block_enters t xs q =
          let p = parts C ls i rest (i ∷ rest) h.types (option_to_list result) refl h.typed in
          let b = block_parts (out-WInstr i) t xs h.types p.0 q p.1 in
          let n = length operands + under in
          let f = nested_falls i rest (WInstr-F.Block t xs) t n n (met_list (met_of C) xs (t ∷ ls) n).most room b.0 refl h.fits in
          let m = first_fits i rest (i ∷ rest) refl h.numbers in
          enters t t xs operands h.types h.values b.1 (body_numbers i t xs m.0 (ap immediate_by q))
          (subst (λ (ts : List ValTy). AreTyped C ls rest ts (option_to_list result)) b.2 p.2) m.1 f.0 f.1

      pub loop_enters : (t : Option ValTy) (xs : List WInstr) → operation_in (out-WInstr i) ≡ op.Loop t xs → Enters C room ls None t xs rest operands under result
      loop_enters t xs q =
          let p = parts C ls i rest (i ∷ rest) h.types (option_to_list result) refl h.typed in
          let b = loop_parts (out-WInstr i) t xs h.types p.0 q p.1 in
          let n = length operands + under in
          let f = nested_falls i rest (WInstr-F.Loop t xs) t n n (met_list (met_of C) xs (None ∷ ls) n).most room b.0 refl h.fits in
          let m = first_fits i rest (i ∷ rest) refl h.numbers in
          enters None t xs operands h.types h.values b.1 (body_numbers i t xs m.0 (ap immediate_by q))
          (subst (λ (ts : List ValTy). AreTyped C ls rest ts (option_to_list result)) b.2 p.2) m.1 f.0 f.1

      -- an if without `else`, whose arm gives nothing
      pub arm_enters : (t : Option ValTy) (xs : List WInstr) → operation_in (out-WInstr i) ≡ op.If t xs
          → (v : ℕ) × (below : List ℕ) × (operands ≡ v ∷ below) × (t ≡ None) × Enters C room ls t t xs rest below under result
      arm_enters t xs q =
          let p = parts C ls i rest (i ∷ rest) h.types (option_to_list result) refl h.typed in
          let b = arm_parts (out-WInstr i) t xs h.types p.0 q p.1 in
          let v = condition h.types p.0 operands b.3 h.values in
          let n = length operands + under in
          let l = ap length v.2 in
          let less : n - 1 ≡ length v.1 + under = omega (arith, l) in
          let f = nested_falls i rest (WInstr-F.If t xs) t n (n - 1) (met_list (met_of C) xs (t ∷ ls) (n - 1)).most room b.1 refl h.fits in
          let m = first_fits i rest (i ∷ rest) refl h.numbers in
          let none : p.0 ≡ option_to_list t ++ p.0 = ap (λ (x : Option ValTy). option_to_list x ++ p.0) (sym b.0) in (
            v.0,
            v.1,
            v.2,
            b.0,
            enters t t xs v.1 p.0 v.3 b.2 (body_numbers i t xs m.0 (ap immediate_by q))
                (subst (λ (ts : List ValTy). AreTyped C ls rest ts (option_to_list result)) none p.2) m.1
                (subst (λ (k : ℕ). (met_list (met_of C) xs (t ∷ ls) k).most ≤ room) less f.0) (subst (λ (k : ℕ). (met_list (met_of C) rest ls (k + count t)).most ≤ room) less f.1),
          )

      pub arms_enter : (t : Option ValTy) (xs ys : List WInstr) → operation_in (out-WInstr i) ≡ op.IfElse t xs ys
          → (v : ℕ) × (below : List ℕ) × (operands ≡ v ∷ below) × Enters C room ls t t xs rest below under result × Enters C room ls t t ys rest below under result
      arms_enter t xs ys q =
          let p = parts C ls i rest (i ∷ rest) h.types (option_to_list result) refl h.typed in
          let b = arms_parts (out-WInstr i) t xs ys h.types p.0 q p.1 in
          let v = condition h.types b.0 operands b.4 h.values in
          let n = length operands + under in
          let l = ap length v.2 in
          let less : n - 1 ≡ length v.1 + under = omega (arith, l) in
          let first = (met_list (met_of C) xs (t ∷ ls) (n - 1)).most in
          let second = (met_list (met_of C) ys (t ∷ ls) (n - 1)).most in
          let f = nested_falls i rest (WInstr-F.IfElse t xs ys) t n (n - 1) (max first second) room b.1 refl h.fits in
          let g = f.0 in
          let m = first_fits i rest (i ∷ rest) refl h.numbers in
          let k = arms_numbers i t xs ys m.0 (ap immediate_by q) in
          let typed = subst (λ (ts : List ValTy). AreTyped C ls rest ts (option_to_list result)) b.5 p.2 in
          let behind = subst (λ (j : ℕ). (met_list (met_of C) rest ls (j + count t)).most ≤ room) less f.1 in (
            v.0,
            v.1,
            v.2,
            enters t t xs v.1 b.0 v.3 b.2 k.0 typed m.1 (subst (λ (j : ℕ). (met_list (met_of C) xs (t ∷ ls) j).most ≤ room) less (omega (arith, g))) behind,
            enters t t ys v.1 b.0 v.3 b.3 k.1 typed m.1 (subst (λ (j : ℕ). (met_list (met_of C) ys (t ∷ ls) j).most ≤ room) less (omega (arith, g))) behind,
          )
