-- The bodies of a lowered module are typed: between two rows no operand stands.
use Rattle.std.proofs.Common.{◌≡◌, ◌∙◌, ℕ, zero, suc, ◌+◌, ◌<◌, ◌≤◌, true, List, [], ◌∷◌, ◌++◌, Option, Some, None, refl, ap, sym, subst, arith}
use Rattle.std.specs.Prelude.{slice_get, Ok, map, reverse, option_map}
use Rattle.wasm_ast.specs.declared.types.FuncType.{FuncType}
use Rattle.wasm_ast.specs.declared.types.ValTy.{ValTy}
use Rattle.wasm_ast.specs.declared.types.ValTy.TheVariants.{I64}
use Rattle.wasm_ast.specs.declared.instructions.WInstr as w
use Rattle.wasm_ast.specs.declared.instructions.WInstr.{WInstr, out-WInstr, roll-WInstr, out-roll-WInstr}
use Rattle.wasm_ast.specs.declared.instructions.WInstr.TheOpen.{WInstr-F}
use Rattle.wasm_ast.specs.declared.instructions.WInstr.TheVariants.{rolls-Call, rolls-GlobalGet, rolls-GlobalSet, rolls-I64Add, rolls-I64Const, rolls-LocalGet, rolls-LocalSet, rolls-Nop, rolls-Unreachable}
use Rattle.wasm_typing.specs.declared.rule.WRule.TheVariants.{FuncIndex, GlobalIndex, LocalIndex, ConstGlobal}
use Rattle.wasm_typing.specs.declared.context.Context.{Context}
use Rattle.wasm_typing.specs.declared.context.GlobalType.{GlobalType}
use Rattle.wasm_typing.specs.Signatures.{The, Signature, ◌⇒◌, found, leaves, needs, signature_in}
use Rattle.wasm_typing.specs.Typing.{Applies, AreTyped, Labels, none, more, plain}
use Rattle.rw_types.specs.declared.instrs.Instr.{Instr, I64Const, Num, Print, Drop}
use Rattle.rw_types.specs.declared.numbers.NumName.TheVariants.{I64Add}
use Rattle.rw_types.specs.declared.types.Ty.{Ty}
use Rattle.rw_types.specs.LoneMain.{ArePlain}
use Rattle.rich_typing.specs.declared.notes.Note.{Note}
use Rattle.rich_typing.specs.Derivations.{Derives, next}
use Rattle.rich_typing.specs.Kinds.{words_of}
use Rattle.rich_typing.specs.Table.{Gives, unr_i64, i64s}
use Rattle.lowering_table.specs.Frames.{room_of}
use Rattle.lowering_table.specs.Rows.{rows}
use Rattle.lowering_table.specs.Types.{print_type}

gives_same : (a b : List Ty) → Gives a ≡ Gives b → a ≡ b
gives_same a b e = cc

-- a derivation goes on from what the instruction before it gives
derives_on : {is : List Instr} {notes : List Note} {ts after : List Ty} → Gives ts ≡ Gives after → Derives [] is after notes (unr_i64 ∷ []) → Derives [] is ts notes (unr_i64 ∷ [])
derives_on {is} {notes} {ts} {after} goes d = subst (λ (us : List Ty). Derives [] is us notes (unr_i64 ∷ [])) (sym (gives_same ts after goes)) d

words_of-i64s : (k : ℕ) → words_of [] (i64s k) ≡ k
words_of-i64s zero = refl
words_of-i64s (suc k) = omega (arith, words_of-i64s k)

-- a global of 64 bits that can be set
abbrev pub word : GlobalType
word = record { ty = I64; mutable = true }

abbrev pub ending : List WInstr
ending = w.LocalGet 0 ∷ w.GlobalSet 2 ∷ []

module _ (C : Context) (ls : Labels) where
  -- an instruction by its signature, and those after it
  goes_on : (x : WInstr-F WInstr) (i : WInstr) → roll-WInstr x ≡ i → (s : Signature) → signature_in C ls x ≡ Ok s → (ws : List WInstr) (before between after : List ValTy) → Applies s before between → AreTyped C ls ws between after → AreTyped C ls (i ∷ ws) before after
  goes_on x i rolls s signed ws before between after applies rest =
      more i ws between refl (plain s (ap (λ (y : WInstr-F WInstr). signature_in C ls y) (ap out-WInstr (sym rolls) ∙ out-roll-WInstr x) ∙ signed) applies) rest

  -- nothing stands behind `unreachable`
  pub stops : (after : List ValTy) → AreTyped C ls (w.Unreachable ∷ []) [] after
  stops after =
      goes_on WInstr-F.Unreachable w.Unreachable rolls-Unreachable (leaves []) refl [] [] after after (record { at = I64; below = []; taken = refl; «left» = tt }) (none refl refl)

  -- a function that takes nothing and gives nothing, and the word that it left in a global
  pub calls : slice_get C.functions 4 ≡ Some (record { params = []; result = None }) → slice_get C.globals 2 ≡ Some word → AreTyped C ls (w.Call 4 ∷ w.GlobalGet 2 ∷ []) [] (I64 ∷ [])
  calls function result =
      goes_on (WInstr-F.Call 4) (w.Call 4) (rolls-Call 4) ([] ⇒ None) (ap (λ (o : Option FuncType). found FuncIndex o (λ f. Ok (reverse (map The f.params) ⇒ option_map The f.result))) function) (w.GlobalGet 2 ∷ []) [] [] (I64 ∷ []) (record { at = I64; below = []; taken = refl; «left» = refl })
      (goes_on (WInstr-F.GlobalGet 2) (w.GlobalGet 2) (rolls-GlobalGet 2) ([] ⇒ Some (The I64)) (ap (λ (o : Option GlobalType). found GlobalIndex o (λ g. Ok ([] ⇒ Some (The g.ty)))) result) [] [] (I64 ∷ []) (I64 ∷ []) (record { at = I64; below = []; taken = refl; «left» = refl }) (none refl refl))

  module _ (count : ℕ) (locals : (j : ℕ) → j < count → slice_get C.locals j ≡ Some I64) (prints : slice_get C.functions 0 ≡ Some print_type) (result : slice_get C.globals 2 ≡ Some word) where
    constant : (n : ℕ) (ws : List WInstr) (st after : List ValTy) → AreTyped C ls ws (I64 ∷ st) after → AreTyped C ls (w.I64Const n ∷ ws) st after
    constant n ws st after rest =
        goes_on (WInstr-F.I64Const n) (w.I64Const n) (rolls-I64Const n) ([] ⇒ Some (The I64)) refl ws st (I64 ∷ st) after (record { at = I64; below = st; taken = refl; «left» = refl }) rest

    get : (j : ℕ) → j < count → (ws : List WInstr) (st after : List ValTy) → AreTyped C ls ws (I64 ∷ st) after → AreTyped C ls (w.LocalGet j ∷ ws) st after
    get j within ws st after rest =
        goes_on (WInstr-F.LocalGet j) (w.LocalGet j) (rolls-LocalGet j) ([] ⇒ Some (The I64)) (ap (λ (o : Option ValTy). found LocalIndex o (λ t. Ok ([] ⇒ Some (The t)))) (locals j within)) ws st (I64 ∷ st) after (record { at = I64; below = st; taken = refl; «left» = refl }) rest

    set : (j : ℕ) → j < count → (ws : List WInstr) (st after : List ValTy) → AreTyped C ls ws st after → AreTyped C ls (w.LocalSet j ∷ ws) (I64 ∷ st) after
    set j within ws st after rest =
        goes_on (WInstr-F.LocalSet j) (w.LocalSet j) (rolls-LocalSet j) (The I64 ∷ [] ⇒ None) (ap (λ (o : Option ValTy). found LocalIndex o (λ t. Ok (The t ∷ [] ⇒ None))) (locals j within)) ws (I64 ∷ st) st after (record { at = I64; below = st; taken = refl; «left» = refl }) rest

    adds : (ws : List WInstr) (st after : List ValTy) → AreTyped C ls ws (I64 ∷ st) after → AreTyped C ls (w.I64Add ∷ ws) (I64 ∷ I64 ∷ st) after
    adds ws st after rest =
        goes_on WInstr-F.I64Add w.I64Add rolls-I64Add (The I64 ∷ The I64 ∷ [] ⇒ Some (The I64)) refl ws (I64 ∷ I64 ∷ st) (I64 ∷ st) after (record { at = I64; below = st; taken = refl; «left» = refl }) rest

    says : (ws : List WInstr) (st after : List ValTy) → AreTyped C ls ws st after → AreTyped C ls (w.Call 0 ∷ ws) (I64 ∷ st) after
    says ws st after rest =
        goes_on (WInstr-F.Call 0) (w.Call 0) (rolls-Call 0) (The I64 ∷ [] ⇒ None) (ap (λ (o : Option FuncType). found FuncIndex o (λ f. Ok (reverse (map The f.params) ⇒ option_map The f.result))) prints) ws (I64 ∷ st) st after (record { at = I64; below = st; taken = refl; «left» = refl }) rest

    rests : (ws : List WInstr) (st after : List ValTy) → AreTyped C ls ws st after → AreTyped C ls (w.Nop ∷ ws) st after
    rests ws st after rest =
        goes_on WInstr-F.Nop w.Nop rolls-Nop ([] ⇒ None) refl ws st st after (record { at = I64; below = st; taken = refl; «left» = refl }) rest

    ends : 0 < count → AreTyped C ls ending [] []
    ends within =
        get 0 within (w.GlobalSet 2 ∷ []) [] []
        (goes_on (WInstr-F.GlobalSet 2) (w.GlobalSet 2) (rolls-GlobalSet 2) (The I64 ∷ [] ⇒ None) (ap (λ (o : Option GlobalType). found GlobalIndex o (λ g. needs ConstGlobal g.mutable (The g.ty ∷ [] ⇒ None))) result) [] (I64 ∷ []) [] [] (record { at = I64; below = []; taken = refl; «left» = refl }) (none refl refl))

    -- a list that its notes derive, and the result's word
    pub rows_typed : (is : List Instr) (notes : List Note) (k : ℕ) → Derives [] is (i64s k) notes (unr_i64 ∷ []) → ArePlain is → room_of is notes 1 + 2 ≤ count → AreTyped C ls (rows 0 is notes ++ ending) [] []
    rows_typed [] notes k d are room = ends (omega (arith, room))
    rows_typed (I64Const n ∷ is) notes k (next after later goes tells d) are room =
        let at : ℕ = words_of [] (i64s k) in
        let code = rows 0 is later ++ ending in
        let room' = subst (λ (l : List Note). room_of (I64Const n ∷ is) l 1 + 2 ≤ count) tells room in
        subst (λ (l : List Note). AreTyped C ls (rows 0 (I64Const n ∷ is) l ++ ending) [] []) (sym tells)
        (constant n (w.LocalSet (0 + at) ∷ code) [] []
        (set (0 + at) (omega (arith, room')) code [] []
        (rows_typed is later (suc k) (derives_on goes d) are.1 (omega (arith, room')))))
    rows_typed (Num I64Add ∷ is) notes zero (next after later goes tells d) are room = absurd cc
    rows_typed (Num I64Add ∷ is) notes (suc zero) (next after later goes tells d) are room = absurd cc
    rows_typed (Num I64Add ∷ is) notes (suc (suc k)) (next after later goes tells d) are room =
        let at : ℕ = words_of [] (i64s k) in
        let code = rows 0 is later ++ ending in
        let room' = subst (λ (l : List Note). room_of (Num I64Add ∷ is) l 1 + 2 ≤ count) tells room in
        subst (λ (l : List Note). AreTyped C ls (rows 0 (Num I64Add ∷ is) l ++ ending) [] []) (sym tells)
        (get (0 + at) (omega (arith, room')) (w.LocalGet (0 + at + 1) ∷ w.I64Add ∷ w.LocalSet (0 + at) ∷ code) [] []
        (get (0 + at + 1) (omega (arith, room')) (w.I64Add ∷ w.LocalSet (0 + at) ∷ code) (I64 ∷ []) []
        (adds (w.LocalSet (0 + at) ∷ code) [] []
        (set (0 + at) (omega (arith, room')) code [] []
        (rows_typed is later (suc k) (derives_on goes d) are.1 (omega (arith, room')))))))
    rows_typed (Print ∷ is) notes zero (next after later goes tells d) are room = absurd cc
    rows_typed (Print ∷ is) notes (suc k) (next after later goes tells d) are room =
        let at : ℕ = words_of [] (i64s k) in
        let code = rows 0 is later ++ ending in
        let room' = subst (λ (l : List Note). room_of (Print ∷ is) l 1 + 2 ≤ count) tells room in
        subst (λ (l : List Note). AreTyped C ls (rows 0 (Print ∷ is) l ++ ending) [] []) (sym tells)
        (get (0 + at) (omega (arith, room')) (w.Call 0 ∷ code) [] []
        (says code [] []
        (rows_typed is later k (derives_on goes d) are.1 (omega (arith, room')))))
    rows_typed (Drop ∷ is) notes zero (next after later goes tells d) are room = absurd cc
    rows_typed (Drop ∷ is) notes (suc k) (next after later goes tells d) are room =
        let code = rows 0 is later ++ ending in
        let room' = subst (λ (l : List Note). room_of (Drop ∷ is) l 1 + 2 ≤ count) tells room in
        subst (λ (l : List Note). AreTyped C ls (rows 0 (Drop ∷ is) l ++ ending) [] []) (sym tells)
        (rests code [] []
        (rows_typed is later k (derives_on goes d) are.1 (omega (arith, room'))))
    rows_typed (_ ∷ is) notes k d are room = absurd are.0
