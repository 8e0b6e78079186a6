-- Single instructions that lowered code is made of are typed, whatever stands beneath.
use Rattle.std.proofs.Common.{◌≡◌, ◌∙◌, ℕ, List, [], ◌∷◌, ◌++◌, Option, Some, None, replicate, refl, ap, sym, subst}
use Rattle.std.specs.Prelude.{slice_get, Ok, map, reverse, option_map, Bool, IsTrue, nat_lt, if◌then◌else◌, Err}
use Rattle.wasm_operators.specs.declared.Width.{Width}
use Rattle.wasm_operators.specs.declared.CvtOp.TheVariants as convert
use Rattle.wasm_ast.specs.declared.types.FuncType.{FuncType}
use Rattle.wasm_ast.specs.declared.types.ValTy.{ValTy}
use Rattle.wasm_ast.specs.declared.types.ValTy.TheVariants.{I32, I64}
use Rattle.wasm_ast.specs.declared.instructions.WInstr as w
use Rattle.wasm_ast.specs.declared.instructions.WInstr.{WInstr, out-WInstr, roll-WInstr, out-roll-WInstr}
use Rattle.wasm_ast.specs.declared.instructions.WInstr.TheOpen.{WInstr-F}
use Rattle.wasm_ast.specs.declared.instructions.WInstr.TheVariants as variants
use Rattle.wasm_typing.specs.declared.rule.WRule.TheVariants.{ConstGlobal, FuncIndex, GlobalIndex, LabelIndex, LocalIndex, MemoryIndex, TableIndex, TypeIndex}
use Rattle.wasm_typing.specs.declared.context.Context.{Context}
use Rattle.wasm_typing.specs.declared.context.GlobalType.{GlobalType}
use Rattle.wasm_typing.specs.Signatures.{Signature, The, ◌⇒◌, found, leaves, needs, operands_of, signature_in, signature_of}
use Rattle.wasm_typing.specs.Typing.{Applies, AreTyped, IsTyped, Labels, block, fill, loop, more, none, one_arm, plain, two_arms}
use Rattle.rich_operators.specs.Operators.{Binary, Compare, Convert, Eqz, Operator, Unary, gives, operator_of, takes}
use Rattle.rw_types.specs.declared.numbers.NumName.{NumName}
use Rattle.lowering_rows.specs.Numbers.{instruction_of}
use Rattle.lowering_bounds.specs.Laws.{operation_by, type_of_width}
use Rattle.lowering_bounds.proofs.Numbers.{numbers_are_their_operators}
use Rattle.lowering_rows_typed.specs.Contexts.{allocator_type, code_global, taking_words, word_global}

-- so many words over these operands
abbrev pub words : ℕ → List ValTy → List ValTy
words n st = replicate n I64 ++ st

-- numbers of these widths over these operands, the last one on top
abbrev pub numbers : List Width → List ValTy → List ValTy
numbers [] st = st
numbers (width ∷ widths) st = numbers widths (type_of_width width ∷ st)

module _ (C : Context) (ls : Labels) where
  -- an instruction that nests none, by its signature
  by_signature : (x : WInstr-F WInstr) (i : WInstr) → roll-WInstr x ≡ i → (s : Signature) → signature_in C ls x ≡ Ok s → (before after : List ValTy) → Applies s before after → IsTyped C ls (out-WInstr i) before after
  by_signature x i rolls s signed before after applies =
      plain s (ap (λ (y : WInstr-F WInstr). signature_in C ls y) (ap out-WInstr (sym rolls) ∙ out-roll-WInstr x) ∙ signed) applies

  pub go : {before between after : List ValTy} {ws : List WInstr} (i : WInstr) → IsTyped C ls (out-WInstr i) before between → AreTyped C ls ws between after → AreTyped C ls (i ∷ ws) before after
  go {between = between} {ws = ws} i t rest = more i ws between refl t rest

  pub stop : (st : List ValTy) → AreTyped C ls [] st st
  stop st = none refl refl

  pub joined : {xs ys : List WInstr} {before between after : List ValTy} → AreTyped C ls xs before between → AreTyped C ls ys between after → AreTyped C ls (xs ++ ys) before after
  joined {ys = ys} {before} {between} {after} (none e f) d =
      subst (λ (l : List WInstr). AreTyped C ls (l ++ ys) before after) (sym e) (subst (λ (st : List ValTy). AreTyped C ls ys st after) (sym f) d)
  joined {ys = ys} (more x xs mid e t rest) d = more x (xs ++ ys) mid (ap (λ (l : List WInstr). l ++ ys) e) t (joined rest d)

  module _ (st : List ValTy) where
    pub t-nop : IsTyped C ls (out-WInstr w.Nop) st st
    t-nop = by_signature WInstr-F.Nop w.Nop variants.rolls-Nop ([] ⇒ None) refl st st (record { at = I64; below = st; taken = refl; «left» = refl })

    pub t-unreachable : (after : List ValTy) → IsTyped C ls (out-WInstr w.Unreachable) st after
    t-unreachable after = by_signature WInstr-F.Unreachable w.Unreachable variants.rolls-Unreachable (leaves []) refl st after (record { at = I64; below = st; taken = refl; «left» = tt })

    pub t-const : (n : ℕ) → IsTyped C ls (out-WInstr (w.I64Const n)) st (I64 ∷ st)
    t-const n = by_signature (WInstr-F.I64Const n) (w.I64Const n) (variants.rolls-I64Const n) ([] ⇒ Some (The I64)) refl st (I64 ∷ st) (record { at = I64; below = st; taken = refl; «left» = refl })

    pub t-const32 : (n : ℕ) → IsTyped C ls (out-WInstr (w.I32Const n)) st (I32 ∷ st)
    t-const32 n = by_signature (WInstr-F.I32Const n) (w.I32Const n) (variants.rolls-I32Const n) ([] ⇒ Some (The I32)) refl st (I32 ∷ st) (record { at = I64; below = st; taken = refl; «left» = refl })

    pub t-get : (n : ℕ) → slice_get C.locals n ≡ Some I64 → IsTyped C ls (out-WInstr (w.LocalGet n)) st (I64 ∷ st)
    t-get n there = by_signature (WInstr-F.LocalGet n) (w.LocalGet n) (variants.rolls-LocalGet n) ([] ⇒ Some (The I64)) (ap (λ (o : Option ValTy). found LocalIndex o (λ t. Ok ([] ⇒ Some (The t)))) there) st (I64 ∷ st) (record { at = I64; below = st; taken = refl; «left» = refl })

    pub t-set : (n : ℕ) → slice_get C.locals n ≡ Some I64 → IsTyped C ls (out-WInstr (w.LocalSet n)) (I64 ∷ st) st
    t-set n there = by_signature (WInstr-F.LocalSet n) (w.LocalSet n) (variants.rolls-LocalSet n) (The I64 ∷ [] ⇒ None) (ap (λ (o : Option ValTy). found LocalIndex o (λ t. Ok (The t ∷ [] ⇒ None))) there) (I64 ∷ st) st (record { at = I64; below = st; taken = refl; «left» = refl })

    pub t-fetch : (n : ℕ) → slice_get C.globals n ≡ Some word_global → IsTyped C ls (out-WInstr (w.GlobalGet n)) st (I64 ∷ st)
    t-fetch n there = by_signature (WInstr-F.GlobalGet n) (w.GlobalGet n) (variants.rolls-GlobalGet n) ([] ⇒ Some (The I64)) (ap (λ (o : Option GlobalType). found GlobalIndex o (λ g. Ok ([] ⇒ Some (The g.ty)))) there) st (I64 ∷ st) (record { at = I64; below = st; taken = refl; «left» = refl })

    pub t-give : (n : ℕ) → slice_get C.globals n ≡ Some word_global → IsTyped C ls (out-WInstr (w.GlobalSet n)) (I64 ∷ st) st
    t-give n there = by_signature (WInstr-F.GlobalSet n) (w.GlobalSet n) (variants.rolls-GlobalSet n) (The I64 ∷ [] ⇒ None) (ap (λ (o : Option GlobalType). found GlobalIndex o (λ g. needs ConstGlobal g.mutable (The g.ty ∷ [] ⇒ None))) there) (I64 ∷ st) st (record { at = I64; below = st; taken = refl; «left» = refl })

    pub t-give32 : (n : ℕ) → slice_get C.globals n ≡ Some code_global → IsTyped C ls (out-WInstr (w.GlobalSet n)) (I32 ∷ st) st
    t-give32 n there = by_signature (WInstr-F.GlobalSet n) (w.GlobalSet n) (variants.rolls-GlobalSet n) (The I32 ∷ [] ⇒ None) (ap (λ (o : Option GlobalType). found GlobalIndex o (λ g. needs ConstGlobal g.mutable (The g.ty ∷ [] ⇒ None))) there) (I32 ∷ st) st (record { at = I64; below = st; taken = refl; «left» = refl })

    pub t-wrap : IsTyped C ls (out-WInstr w.I32WrapI64) (I64 ∷ st) (I32 ∷ st)
    t-wrap = by_signature WInstr-F.I32WrapI64 w.I32WrapI64 variants.rolls-I32WrapI64 (The I64 ∷ [] ⇒ Some (The I32)) refl (I64 ∷ st) (I32 ∷ st) (record { at = I64; below = st; taken = refl; «left» = refl })

    pub t-extend : IsTyped C ls (out-WInstr w.I64ExtendI32U) (I32 ∷ st) (I64 ∷ st)
    t-extend = by_signature WInstr-F.I64ExtendI32U w.I64ExtendI32U variants.rolls-I64ExtendI32U (The I32 ∷ [] ⇒ Some (The I64)) refl (I32 ∷ st) (I64 ∷ st) (record { at = I64; below = st; taken = refl; «left» = refl })

    pub t-add : IsTyped C ls (out-WInstr w.I64Add) (I64 ∷ I64 ∷ st) (I64 ∷ st)
    t-add = by_signature WInstr-F.I64Add w.I64Add variants.rolls-I64Add (The I64 ∷ The I64 ∷ [] ⇒ Some (The I64)) refl (I64 ∷ I64 ∷ st) (I64 ∷ st) (record { at = I64; below = st; taken = refl; «left» = refl })

    pub t-mul : IsTyped C ls (out-WInstr w.I64Mul) (I64 ∷ I64 ∷ st) (I64 ∷ st)
    t-mul = by_signature WInstr-F.I64Mul w.I64Mul variants.rolls-I64Mul (The I64 ∷ The I64 ∷ [] ⇒ Some (The I64)) refl (I64 ∷ I64 ∷ st) (I64 ∷ st) (record { at = I64; below = st; taken = refl; «left» = refl })

    pub t-geu : IsTyped C ls (out-WInstr w.I64GeU) (I64 ∷ I64 ∷ st) (I32 ∷ st)
    t-geu = by_signature WInstr-F.I64GeU w.I64GeU variants.rolls-I64GeU (The I64 ∷ The I64 ∷ [] ⇒ Some (The I32)) refl (I64 ∷ I64 ∷ st) (I32 ∷ st) (record { at = I64; below = st; taken = refl; «left» = refl })

    pub t-eq : IsTyped C ls (out-WInstr w.I64Eq) (I64 ∷ I64 ∷ st) (I32 ∷ st)
    t-eq = by_signature WInstr-F.I64Eq w.I64Eq variants.rolls-I64Eq (The I64 ∷ The I64 ∷ [] ⇒ Some (The I32)) refl (I64 ∷ I64 ∷ st) (I32 ∷ st) (record { at = I64; below = st; taken = refl; «left» = refl })

    pub t-br : (n : ℕ) (after : List ValTy) → slice_get ls n ≡ Some None → IsTyped C ls (out-WInstr (w.Br n)) st after
    t-br n after there = by_signature (WInstr-F.Br n) (w.Br n) (variants.rolls-Br n) (leaves []) (ap (λ (o : Option (Option ValTy)). found LabelIndex o (λ t. Ok (leaves (operands_of t)))) there) st after (record { at = I64; below = st; taken = refl; «left» = tt })

    pub t-br_if : (n : ℕ) → slice_get ls n ≡ Some None → IsTyped C ls (out-WInstr (w.BrIf n)) (I32 ∷ st) st
    t-br_if n there = by_signature (WInstr-F.BrIf n) (w.BrIf n) (variants.rolls-BrIf n) (The I32 ∷ [] ⇒ None) (ap (λ (o : Option (Option ValTy)). found LabelIndex o (λ t. Ok (The I32 ∷ operands_of t ⇒ option_map The t))) there) (I32 ∷ st) st (record { at = I64; below = st; taken = refl; «left» = refl })

    pub t-return : (after : List ValTy) → C.result ≡ None → IsTyped C ls (out-WInstr w.Return) st after
    t-return after none' = by_signature WInstr-F.Return w.Return variants.rolls-Return (leaves []) (ap (λ (t : Option ValTy). Ok (leaves (operands_of t))) none') st after (record { at = I64; below = st; taken = refl; «left» = tt })

    -- a memory is there
    in_memory : (s : Signature) → IsTrue (nat_lt 0 C.memories) → (if nat_lt 0 C.memories then Ok s else Err MemoryIndex) ≡ Ok s
    in_memory s there = ap (λ (b : Bool). if b then Ok s else Err MemoryIndex) there

    pub t-load : (offset : ℕ) → IsTrue (nat_lt 0 C.memories) → IsTyped C ls (out-WInstr (w.I64Load 3 offset)) (I32 ∷ st) (I64 ∷ st)
    t-load offset there = by_signature (WInstr-F.I64Load 3 offset) (w.I64Load 3 offset) (variants.rolls-I64Load 3 offset) (The I32 ∷ [] ⇒ Some (The I64)) (in_memory (The I32 ∷ [] ⇒ Some (The I64)) there) (I32 ∷ st) (I64 ∷ st) (record { at = I64; below = st; taken = refl; «left» = refl })

    pub t-store : (offset : ℕ) → IsTrue (nat_lt 0 C.memories) → IsTyped C ls (out-WInstr (w.I64Store 3 offset)) (I64 ∷ I32 ∷ st) st
    t-store offset there = by_signature (WInstr-F.I64Store 3 offset) (w.I64Store 3 offset) (variants.rolls-I64Store 3 offset) (The I64 ∷ The I32 ∷ [] ⇒ None) (in_memory (The I64 ∷ The I32 ∷ [] ⇒ None) there) (I64 ∷ I32 ∷ st) st (record { at = I64; below = st; taken = refl; «left» = refl })

    pub t-allocate : (n : ℕ) → slice_get C.functions n ≡ Some allocator_type → IsTyped C ls (out-WInstr (w.Call n)) (I64 ∷ st) (I64 ∷ st)
    t-allocate n there = by_signature (WInstr-F.Call n) (w.Call n) (variants.rolls-Call n) (The I64 ∷ [] ⇒ Some (The I64)) (ap (λ (o : Option FuncType). found FuncIndex o (λ f. Ok (reverse (map The f.params) ⇒ option_map The f.result))) there) (I64 ∷ st) (I64 ∷ st) (record { at = I64; below = st; taken = refl; «left» = refl })

    pub t-call_one : (n : ℕ) → slice_get C.functions n ≡ Some (taking_words 1) → IsTyped C ls (out-WInstr (w.Call n)) (I64 ∷ st) st
    t-call_one n there = by_signature (WInstr-F.Call n) (w.Call n) (variants.rolls-Call n) (The I64 ∷ [] ⇒ None) (ap (λ (o : Option FuncType). found FuncIndex o (λ f. Ok (reverse (map The f.params) ⇒ option_map The f.result))) there) (I64 ∷ st) st (record { at = I64; below = st; taken = refl; «left» = refl })

    -- words that a call takes
    pub t-call : (n k : ℕ) → slice_get C.functions n ≡ Some (taking_words k) → words k st ≡ map (fill I64) (reverse (map The (replicate k I64))) ++ st → IsTyped C ls (out-WInstr (w.Call n)) (words k st) st
    t-call n k there taken = by_signature (WInstr-F.Call n) (w.Call n) (variants.rolls-Call n) (reverse (map The (replicate k I64)) ⇒ None) (ap (λ (o : Option FuncType). found FuncIndex o (λ f. Ok (reverse (map The f.params) ⇒ option_map The f.result))) there) (words k st) st (record { at = I64; below = st; taken = taken; «left» = refl })

    with_table : (s : Signature) → IsTrue (nat_lt 0 C.tables) → needs TableIndex (nat_lt 0 C.tables) s ≡ Ok s
    with_table s there = ap (λ (b : Bool). needs TableIndex b s) there

    pub t-call_indirect : (n k : ℕ) → slice_get C.types n ≡ Some (taking_words k) → IsTrue (nat_lt 0 C.tables) → words k st ≡ map (fill I64) (reverse (map The (replicate k I64))) ++ st →
        IsTyped C ls (out-WInstr (w.CallIndirect n)) (I32 ∷ words k st) st
    t-call_indirect n k there table taken =
        by_signature (WInstr-F.CallIndirect n) (w.CallIndirect n) (variants.rolls-CallIndirect n) (The I32 ∷ reverse (map The (replicate k I64)) ⇒ None)
        (ap (λ (o : Option FuncType). found TypeIndex o (λ f. needs TableIndex (nat_lt 0 C.tables) (The I32 ∷ reverse (map The f.params) ⇒ option_map The f.result))) there
        ∙ with_table (The I32 ∷ reverse (map The (replicate k I64)) ⇒ None) table)
        (I32 ∷ words k st) st (record { at = I64; below = st; taken = ap (λ (l : List ValTy). I32 ∷ l) taken; «left» = refl })

    -- blocks of no type
    pub t-block : (xs : List WInstr) → AreTyped C (None ∷ ls) xs [] [] → IsTyped C ls (out-WInstr (w.Block None xs)) st st
    t-block xs d = block None xs (ap out-WInstr (sym (variants.rolls-Block None xs)) ∙ out-roll-WInstr (WInstr-F.Block None xs)) d refl

    pub t-loop : (xs : List WInstr) → AreTyped C (None ∷ ls) xs [] [] → IsTyped C ls (out-WInstr (w.Loop None xs)) st st
    t-loop xs d = loop None xs (ap out-WInstr (sym (variants.rolls-Loop None xs)) ∙ out-roll-WInstr (WInstr-F.Loop None xs)) d refl

    pub t-if : (xs : List WInstr) → AreTyped C (None ∷ ls) xs [] [] → IsTyped C ls (out-WInstr (w.If None xs)) (I32 ∷ st) st
    t-if xs d = one_arm xs (ap out-WInstr (sym (variants.rolls-If None xs)) ∙ out-roll-WInstr (WInstr-F.If None xs)) d refl

    pub t-if_else : (xs ys : List WInstr) → AreTyped C (None ∷ ls) xs [] [] → AreTyped C (None ∷ ls) ys [] [] → IsTyped C ls (out-WInstr (w.IfElse None xs ys)) (I32 ∷ st) st
    t-if_else xs ys d e = two_arms None xs ys st (ap out-WInstr (sym (variants.rolls-IfElse None xs ys)) ∙ out-roll-WInstr (WInstr-F.IfElse None xs ys)) d e refl refl

    -- a number instruction, by its operator
    numeric : (o : Operator) → (s : Signature) × (signature_of C ls (operation_by o) ≡ Ok s) × Applies s (numbers (takes o) st) (type_of_width (gives o) ∷ st)
    numeric (Eqz width) = (The (type_of_width width) ∷ [] ⇒ Some (The I32), refl, record { at = I64; below = st; taken = refl; «left» = refl })
    numeric (Compare operator width) = (The (type_of_width width) ∷ The (type_of_width width) ∷ [] ⇒ Some (The I32), refl, record { at = I64; below = st; taken = refl; «left» = refl })
    numeric (Unary operator width) = (The (type_of_width width) ∷ [] ⇒ Some (The (type_of_width width)), refl, record { at = I64; below = st; taken = refl; «left» = refl })
    numeric (Binary operator width) = (The (type_of_width width) ∷ The (type_of_width width) ∷ [] ⇒ Some (The (type_of_width width)), refl, record { at = I64; below = st; taken = refl; «left» = refl })
    numeric (Convert convert.Wrap) = (The I64 ∷ [] ⇒ Some (The I32), refl, record { at = I64; below = st; taken = refl; «left» = refl })
    numeric (Convert convert.ExtendS) = (The I32 ∷ [] ⇒ Some (The I64), refl, record { at = I64; below = st; taken = refl; «left» = refl })
    numeric (Convert convert.ExtendU) = (The I32 ∷ [] ⇒ Some (The I64), refl, record { at = I64; below = st; taken = refl; «left» = refl })

    pub t-number : (n : NumName) → IsTyped C ls (out-WInstr (instruction_of n)) (numbers (takes (operator_of n)) st) (type_of_width (gives (operator_of n)) ∷ st)
    t-number n =
        let x = numeric (operator_of n) in
        plain x.0 (ap (λ o. signature_of C ls o) (numbers_are_their_operators n) ∙ x.1) x.2
