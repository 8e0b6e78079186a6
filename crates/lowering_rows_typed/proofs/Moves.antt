-- Runs of moves are typed: words between locals, globals and the operands, and numbers.
use Rattle.std.proofs.Common.{◌≡◌, ◌∙◌, ℕ, zero, suc, ◌+◌, ◌*◌, ◌<◌, ◌≤◌, List, [], ◌∷◌, ◌++◌, Some, replicate, length, refl, ap, sym, subst, arith}
use Rattle.std.specs.Prelude.{map, reverse, slice_get}
use Rattle.std.proofs.lemmas.List.{reverse-append}
use Rattle.wasm_operators.specs.declared.Width.{Width}
use Rattle.wasm_operators.specs.declared.Width.TheVariants.{W32, W64}
use Rattle.wasm_ast.specs.declared.types.ValTy.{ValTy}
use Rattle.wasm_ast.specs.declared.types.ValTy.TheVariants.{I32, I64}
use Rattle.wasm_ast.specs.declared.instructions.WInstr as w
use Rattle.wasm_typing.specs.declared.context.Context.{Context}
use Rattle.wasm_typing.specs.Signatures.{Slot, The}
use Rattle.wasm_typing.specs.Typing.{AreTyped, Labels, fill}
use Rattle.rich_operators.specs.Operators.{gives as given_by, operator_of, takes}
use Rattle.rw_types.specs.declared.numbers.NumName.{NumName}
use Rattle.layout.specs.Limits.{global_count}
use Rattle.lowering_rows.specs.Moves.{fetches, gets, gives, load_word, loads, moves, store_word, stores}
use Rattle.lowering_rows.specs.Numbers.{number_code, numbers_from, widened}
use Rattle.lowering_rows.specs.Surroundings.{Surroundings, first_scratch}
use Rattle.lowering_bounds.specs.Laws.{type_of_width}
use Rattle.lowering_rows_typed.specs.Contexts.{HasWhatIsNamed}
use Rattle.lowering_rows_typed.proofs.Steps.{go, joined, numbers, stop, t-extend, t-fetch, t-get, t-give, t-load, t-number, t-set, t-store, t-wrap, words}

-- a word on top of so many is one more
words_more : (n : ℕ) (st : List ValTy) → words n (I64 ∷ st) ≡ I64 ∷ words n st
words_more zero st = refl
words_more (suc n) st = ap (λ (l : List ValTy). I64 ∷ l) (words_more n st)

-- the operands of a call are so many words
last_slot : (n : ℕ) (st : List ValTy) → map (fill I64) (map The (replicate n I64) ++ The I64 ∷ []) ++ st ≡ map (fill I64) (map The (replicate n I64)) ++ I64 ∷ st
last_slot zero st = refl
last_slot (suc n) st = ap (λ (l : List ValTy). I64 ∷ l) (last_slot n st)

turned : (n : ℕ) → reverse (map The (replicate n I64)) ≡ map The (replicate n I64)
turned zero = refl
turned (suc n) = reverse-append (The I64 ∷ []) (map The (replicate n I64)) ∙ ap (λ (l : List Slot). l ++ The I64 ∷ []) (turned n) ∙ last n
  where
    last : (k : ℕ) → map The (replicate k I64) ++ The I64 ∷ [] ≡ The I64 ∷ map The (replicate k I64)
    last zero = refl
    last (suc k) = ap (λ (l : List Slot). The I64 ∷ l) (last k)

filled : (n : ℕ) (st : List ValTy) → words n st ≡ map (fill I64) (map The (replicate n I64)) ++ st
filled zero st = refl
filled (suc n) st = ap (λ (l : List ValTy). I64 ∷ l) (filled n st)

pub taken_words_are : (n : ℕ) (st : List ValTy) → words n st ≡ map (fill I64) (reverse (map The (replicate n I64))) ++ st
taken_words_are n st = filled n st ∙ ap (λ (l : List Slot). map (fill I64) l ++ st) (sym (turned n))

module _ (s : Surroundings) (C : Context) (has : HasWhatIsNamed s C) where
  -- the local of this number is there
  pub local : (n : ℕ) → n < first_scratch s + 2 → slice_get C.locals n ≡ Some I64
  local n within = has.locals n within

  module _ (ls : Labels) where
    pub t-gets : (n from : ℕ) (st : List ValTy) → from + n ≤ first_scratch s + 2 → AreTyped C ls (gets n from) st (words n st)
    t-gets zero from st h = stop C ls st
    t-gets (suc n) from st h =
        go C ls (w.LocalGet from) (t-get C ls st from (local from (omega (arith, h))))
        (subst (λ (l : List ValTy). AreTyped C ls (gets n (suc from)) (I64 ∷ st) l) (words_more n st) (t-gets n (suc from) (I64 ∷ st) (omega (arith, h))))

    pub t-moves : (n from to : ℕ) → from + n ≤ first_scratch s + 2 → to + n ≤ first_scratch s + 2 → AreTyped C ls (moves n from to) [] []
    t-moves zero from to h g = stop C ls []
    t-moves (suc n) from to h g =
        go C ls (w.LocalGet from) (t-get C ls [] from (local from (omega (arith, h))))
        (go C ls (w.LocalSet to) (t-set C ls [] to (local to (omega (arith, g)))) (t-moves n (suc from) (suc to) (omega (arith, h)) (omega (arith, g))))

    pub t-gives : (n from global : ℕ) → from + n ≤ first_scratch s + 2 → 0 < global → global + n ≤ global_count s.program → AreTyped C ls (gives n from global) [] []
    t-gives zero from global h p g = stop C ls []
    t-gives (suc n) from global h p g =
        go C ls (w.LocalGet from) (t-get C ls [] from (local from (omega (arith, h))))
        (go C ls (w.GlobalSet global) (t-give C ls [] global (has.words global p (omega (arith, g)))) (t-gives n (suc from) (suc global) (omega (arith, h)) (omega arith) (omega (arith, g))))

    pub t-fetches : (n global to : ℕ) → to + n ≤ first_scratch s + 2 → 0 < global → global + n ≤ global_count s.program → AreTyped C ls (fetches n global to) [] []
    t-fetches zero global to h p g = stop C ls []
    t-fetches (suc n) global to h p g =
        go C ls (w.GlobalGet global) (t-fetch C ls [] global (has.words global p (omega (arith, g))))
        (go C ls (w.LocalSet to) (t-set C ls [] to (local to (omega (arith, h)))) (t-fetches n (suc global) (suc to) (omega (arith, h)) (omega arith) (omega (arith, g))))

    pub t-loads : (n base word to : ℕ) → base < first_scratch s + 2 → to + n ≤ first_scratch s + 2 → AreTyped C ls (loads n base word to) [] []
    t-loads zero base word to b h = stop C ls []
    t-loads (suc n) base word to b h =
        go C ls (w.LocalGet base) (t-get C ls [] base (local base b))
        (go C ls w.I32WrapI64 (t-wrap C ls [])
        (go C ls (load_word word) (t-load C ls [] (8 * word) has.memory)
        (go C ls (w.LocalSet to) (t-set C ls [] to (local to (omega (arith, h)))) (t-loads n base (suc word) (suc to) b (omega (arith, h))))))

    pub t-stores : (n base word from : ℕ) → base < first_scratch s + 2 → from + n ≤ first_scratch s + 2 → AreTyped C ls (stores n base word from) [] []
    t-stores zero base word from b h = stop C ls []
    t-stores (suc n) base word from b h =
        go C ls (w.LocalGet base) (t-get C ls [] base (local base b))
        (go C ls w.I32WrapI64 (t-wrap C ls [])
        (go C ls (w.LocalGet from) (t-get C ls (I32 ∷ []) from (local from (omega (arith, h))))
        (go C ls (store_word word) (t-store C ls [] (8 * word) has.memory) (t-stores n base (suc word) (suc from) b (omega (arith, h))))))

    t-numbers_from : (widths : List Width) (from : ℕ) (st : List ValTy) → from + length widths ≤ first_scratch s + 2 → AreTyped C ls (numbers_from widths from) st (numbers widths st)
    t-numbers_from [] from st h = stop C ls st
    t-numbers_from (W32 ∷ widths) from st h =
        go C ls (w.LocalGet from) (t-get C ls st from (local from (omega (arith, h)))) (go C ls w.I32WrapI64 (t-wrap C ls st) (t-numbers_from widths (suc from) (I32 ∷ st) (omega (arith, h))))
    t-numbers_from (W64 ∷ widths) from st h =
        go C ls (w.LocalGet from) (t-get C ls st from (local from (omega (arith, h)))) (t-numbers_from widths (suc from) (I64 ∷ st) (omega (arith, h)))

    t-widened : (width : Width) (to : ℕ) → to < first_scratch s + 2 → AreTyped C ls (widened width ++ w.LocalSet to ∷ []) (type_of_width width ∷ []) []
    t-widened W32 to h = go C ls w.I64ExtendI32U (t-extend C ls []) (go C ls (w.LocalSet to) (t-set C ls [] to (local to h)) (stop C ls []))
    t-widened W64 to h = go C ls (w.LocalSet to) (t-set C ls [] to (local to h)) (stop C ls [])

    pub t-number_code : (n : NumName) (from : ℕ) → from + length (takes (operator_of n)) ≤ first_scratch s + 2 → from < first_scratch s + 2 → AreTyped C ls (number_code n from) [] []
    t-number_code n from h g =
        joined C ls (t-numbers_from (takes (operator_of n)) from [] h)
        (go C ls (Rattle.lowering_rows.specs.Numbers.instruction_of n) (t-number C ls [] n) (t-widened (given_by (operator_of n)) from g))
