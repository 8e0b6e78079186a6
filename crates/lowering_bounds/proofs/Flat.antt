-- Instructions that open no block, and those that do.
use Rattle.std.proofs.Common.{◌≡◌, ◌∙◌, ℕ, zero, suc, ◌+◌, ◌*◌, max, List, [], ◌∷◌, ◌++◌, None, refl, ap, sym, arith}
use Rattle.wasm_operators.specs.declared.Width.{Width}
use Rattle.wasm_operators.specs.declared.Width.TheVariants.{W32, W64}
use Rattle.wasm_ast.specs.declared.instructions.WInstr as w
use Rattle.wasm_ast.specs.declared.instructions.WInstr.{roll-WInstr, out-roll-WInstr}
use Rattle.wasm_ast.specs.declared.instructions.WInstr.TheOpen.{WInstr-F}
use Rattle.wasm_ast.specs.declared.instructions.WInstr.TheVariants as variants
use Rattle.wasm_ast.specs.Immediates.{immediate_in}
use Rattle.wasm_grammar.specs.Nesting.{greatest, immediate_nesting, nesting}
use Rattle.wasm_grammar.proofs.InstructionLayers.{nesting-layer}
use Rattle.rw_types.specs.declared.numbers.NumName.{NumName}
use Rattle.rw_types.specs.declared.numbers.NumName.TheVariants as name
use Rattle.rich_operators.specs.Operators.{gives as given_by, operator_of, takes}
use Rattle.lowering_rows.specs.Moves.{fetches, gets, gives, loads, moves, stores}
use Rattle.lowering_rows.specs.Numbers.{instruction_of, number_code, numbers_from, widened}

rolled : (x : WInstr-F w.WInstr) → nesting (roll-WInstr x) ≡ immediate_nesting nesting (immediate_in x)
rolled x = nesting-layer (roll-WInstr x) ∙ ap (λ (l : WInstr-F w.WInstr). immediate_nesting nesting (immediate_in l)) (out-roll-WInstr x)

pub nesting-LocalGet : (n : ℕ) → nesting (w.LocalGet n) ≡ 0
nesting-LocalGet n = ap nesting (sym (variants.rolls-LocalGet n)) ∙ rolled (WInstr-F.LocalGet n)

pub nesting-LocalSet : (n : ℕ) → nesting (w.LocalSet n) ≡ 0
nesting-LocalSet n = ap nesting (sym (variants.rolls-LocalSet n)) ∙ rolled (WInstr-F.LocalSet n)

pub nesting-GlobalGet : (n : ℕ) → nesting (w.GlobalGet n) ≡ 0
nesting-GlobalGet n = ap nesting (sym (variants.rolls-GlobalGet n)) ∙ rolled (WInstr-F.GlobalGet n)

pub nesting-GlobalSet : (n : ℕ) → nesting (w.GlobalSet n) ≡ 0
nesting-GlobalSet n = ap nesting (sym (variants.rolls-GlobalSet n)) ∙ rolled (WInstr-F.GlobalSet n)

pub nesting-Call : (n : ℕ) → nesting (w.Call n) ≡ 0
nesting-Call n = ap nesting (sym (variants.rolls-Call n)) ∙ rolled (WInstr-F.Call n)

pub nesting-CallIndirect : (n : ℕ) → nesting (w.CallIndirect n) ≡ 0
nesting-CallIndirect n = ap nesting (sym (variants.rolls-CallIndirect n)) ∙ rolled (WInstr-F.CallIndirect n)

pub nesting-I64Const : (n : ℕ) → nesting (w.I64Const n) ≡ 0
nesting-I64Const n = ap nesting (sym (variants.rolls-I64Const n)) ∙ rolled (WInstr-F.I64Const n)

pub nesting-I32Const : (n : ℕ) → nesting (w.I32Const n) ≡ 0
nesting-I32Const n = ap nesting (sym (variants.rolls-I32Const n)) ∙ rolled (WInstr-F.I32Const n)

pub nesting-Nop : nesting w.Nop ≡ 0
nesting-Nop = ap nesting (sym variants.rolls-Nop) ∙ rolled WInstr-F.Nop

pub nesting-Unreachable : nesting w.Unreachable ≡ 0
nesting-Unreachable = ap nesting (sym variants.rolls-Unreachable) ∙ rolled WInstr-F.Unreachable

pub nesting-Return : nesting w.Return ≡ 0
nesting-Return = ap nesting (sym variants.rolls-Return) ∙ rolled WInstr-F.Return

pub nesting-Br : (n : ℕ) → nesting (w.Br n) ≡ 0
nesting-Br n = ap nesting (sym (variants.rolls-Br n)) ∙ rolled (WInstr-F.Br n)

pub nesting-BrIf : (n : ℕ) → nesting (w.BrIf n) ≡ 0
nesting-BrIf n = ap nesting (sym (variants.rolls-BrIf n)) ∙ rolled (WInstr-F.BrIf n)

pub nesting-I64Load : (a o : ℕ) → nesting (w.I64Load a o) ≡ 0
nesting-I64Load a o = ap nesting (sym (variants.rolls-I64Load a o)) ∙ rolled (WInstr-F.I64Load a o)

pub nesting-I64Store : (a o : ℕ) → nesting (w.I64Store a o) ≡ 0
nesting-I64Store a o = ap nesting (sym (variants.rolls-I64Store a o)) ∙ rolled (WInstr-F.I64Store a o)

pub nesting-Block : (xs : List w.WInstr) → nesting (w.Block None xs) ≡ 1 + greatest nesting xs
nesting-Block xs = ap nesting (sym (variants.rolls-Block None xs)) ∙ rolled (WInstr-F.Block None xs)

pub nesting-Loop : (xs : List w.WInstr) → nesting (w.Loop None xs) ≡ 1 + greatest nesting xs
nesting-Loop xs = ap nesting (sym (variants.rolls-Loop None xs)) ∙ rolled (WInstr-F.Loop None xs)

pub nesting-If : (xs : List w.WInstr) → nesting (w.If None xs) ≡ 1 + greatest nesting xs
nesting-If xs = ap nesting (sym (variants.rolls-If None xs)) ∙ rolled (WInstr-F.If None xs)

pub nesting-IfElse : (xs ys : List w.WInstr) → nesting (w.IfElse None xs ys) ≡ 1 + max (greatest nesting xs) (greatest nesting ys)
nesting-IfElse xs ys = ap nesting (sym (variants.rolls-IfElse None xs ys)) ∙ rolled (WInstr-F.IfElse None xs ys)

pub nesting-number : (n : NumName) → nesting (instruction_of n) ≡ 0
nesting-number name.I32Eqz = ap nesting (sym variants.rolls-I32Eqz) ∙ rolled WInstr-F.I32Eqz
nesting-number name.I32Eq = ap nesting (sym variants.rolls-I32Eq) ∙ rolled WInstr-F.I32Eq
nesting-number name.I32Ne = ap nesting (sym variants.rolls-I32Ne) ∙ rolled WInstr-F.I32Ne
nesting-number name.I32LtS = ap nesting (sym variants.rolls-I32LtS) ∙ rolled WInstr-F.I32LtS
nesting-number name.I32LtU = ap nesting (sym variants.rolls-I32LtU) ∙ rolled WInstr-F.I32LtU
nesting-number name.I32GtS = ap nesting (sym variants.rolls-I32GtS) ∙ rolled WInstr-F.I32GtS
nesting-number name.I32GtU = ap nesting (sym variants.rolls-I32GtU) ∙ rolled WInstr-F.I32GtU
nesting-number name.I32LeS = ap nesting (sym variants.rolls-I32LeS) ∙ rolled WInstr-F.I32LeS
nesting-number name.I32LeU = ap nesting (sym variants.rolls-I32LeU) ∙ rolled WInstr-F.I32LeU
nesting-number name.I32GeS = ap nesting (sym variants.rolls-I32GeS) ∙ rolled WInstr-F.I32GeS
nesting-number name.I32GeU = ap nesting (sym variants.rolls-I32GeU) ∙ rolled WInstr-F.I32GeU
nesting-number name.I64Eqz = ap nesting (sym variants.rolls-I64Eqz) ∙ rolled WInstr-F.I64Eqz
nesting-number name.I64Eq = ap nesting (sym variants.rolls-I64Eq) ∙ rolled WInstr-F.I64Eq
nesting-number name.I64Ne = ap nesting (sym variants.rolls-I64Ne) ∙ rolled WInstr-F.I64Ne
nesting-number name.I64LtS = ap nesting (sym variants.rolls-I64LtS) ∙ rolled WInstr-F.I64LtS
nesting-number name.I64LtU = ap nesting (sym variants.rolls-I64LtU) ∙ rolled WInstr-F.I64LtU
nesting-number name.I64GtS = ap nesting (sym variants.rolls-I64GtS) ∙ rolled WInstr-F.I64GtS
nesting-number name.I64GtU = ap nesting (sym variants.rolls-I64GtU) ∙ rolled WInstr-F.I64GtU
nesting-number name.I64LeS = ap nesting (sym variants.rolls-I64LeS) ∙ rolled WInstr-F.I64LeS
nesting-number name.I64LeU = ap nesting (sym variants.rolls-I64LeU) ∙ rolled WInstr-F.I64LeU
nesting-number name.I64GeS = ap nesting (sym variants.rolls-I64GeS) ∙ rolled WInstr-F.I64GeS
nesting-number name.I64GeU = ap nesting (sym variants.rolls-I64GeU) ∙ rolled WInstr-F.I64GeU
nesting-number name.I32Clz = ap nesting (sym variants.rolls-I32Clz) ∙ rolled WInstr-F.I32Clz
nesting-number name.I32Ctz = ap nesting (sym variants.rolls-I32Ctz) ∙ rolled WInstr-F.I32Ctz
nesting-number name.I32Popcnt = ap nesting (sym variants.rolls-I32Popcnt) ∙ rolled WInstr-F.I32Popcnt
nesting-number name.I32Add = ap nesting (sym variants.rolls-I32Add) ∙ rolled WInstr-F.I32Add
nesting-number name.I32Sub = ap nesting (sym variants.rolls-I32Sub) ∙ rolled WInstr-F.I32Sub
nesting-number name.I32Mul = ap nesting (sym variants.rolls-I32Mul) ∙ rolled WInstr-F.I32Mul
nesting-number name.I32DivS = ap nesting (sym variants.rolls-I32DivS) ∙ rolled WInstr-F.I32DivS
nesting-number name.I32DivU = ap nesting (sym variants.rolls-I32DivU) ∙ rolled WInstr-F.I32DivU
nesting-number name.I32RemS = ap nesting (sym variants.rolls-I32RemS) ∙ rolled WInstr-F.I32RemS
nesting-number name.I32RemU = ap nesting (sym variants.rolls-I32RemU) ∙ rolled WInstr-F.I32RemU
nesting-number name.I32And = ap nesting (sym variants.rolls-I32And) ∙ rolled WInstr-F.I32And
nesting-number name.I32Or = ap nesting (sym variants.rolls-I32Or) ∙ rolled WInstr-F.I32Or
nesting-number name.I32Xor = ap nesting (sym variants.rolls-I32Xor) ∙ rolled WInstr-F.I32Xor
nesting-number name.I32Shl = ap nesting (sym variants.rolls-I32Shl) ∙ rolled WInstr-F.I32Shl
nesting-number name.I32ShrS = ap nesting (sym variants.rolls-I32ShrS) ∙ rolled WInstr-F.I32ShrS
nesting-number name.I32ShrU = ap nesting (sym variants.rolls-I32ShrU) ∙ rolled WInstr-F.I32ShrU
nesting-number name.I32Rotl = ap nesting (sym variants.rolls-I32Rotl) ∙ rolled WInstr-F.I32Rotl
nesting-number name.I32Rotr = ap nesting (sym variants.rolls-I32Rotr) ∙ rolled WInstr-F.I32Rotr
nesting-number name.I64Clz = ap nesting (sym variants.rolls-I64Clz) ∙ rolled WInstr-F.I64Clz
nesting-number name.I64Ctz = ap nesting (sym variants.rolls-I64Ctz) ∙ rolled WInstr-F.I64Ctz
nesting-number name.I64Popcnt = ap nesting (sym variants.rolls-I64Popcnt) ∙ rolled WInstr-F.I64Popcnt
nesting-number name.I64Add = ap nesting (sym variants.rolls-I64Add) ∙ rolled WInstr-F.I64Add
nesting-number name.I64Sub = ap nesting (sym variants.rolls-I64Sub) ∙ rolled WInstr-F.I64Sub
nesting-number name.I64Mul = ap nesting (sym variants.rolls-I64Mul) ∙ rolled WInstr-F.I64Mul
nesting-number name.I64DivS = ap nesting (sym variants.rolls-I64DivS) ∙ rolled WInstr-F.I64DivS
nesting-number name.I64DivU = ap nesting (sym variants.rolls-I64DivU) ∙ rolled WInstr-F.I64DivU
nesting-number name.I64RemS = ap nesting (sym variants.rolls-I64RemS) ∙ rolled WInstr-F.I64RemS
nesting-number name.I64RemU = ap nesting (sym variants.rolls-I64RemU) ∙ rolled WInstr-F.I64RemU
nesting-number name.I64And = ap nesting (sym variants.rolls-I64And) ∙ rolled WInstr-F.I64And
nesting-number name.I64Or = ap nesting (sym variants.rolls-I64Or) ∙ rolled WInstr-F.I64Or
nesting-number name.I64Xor = ap nesting (sym variants.rolls-I64Xor) ∙ rolled WInstr-F.I64Xor
nesting-number name.I64Shl = ap nesting (sym variants.rolls-I64Shl) ∙ rolled WInstr-F.I64Shl
nesting-number name.I64ShrS = ap nesting (sym variants.rolls-I64ShrS) ∙ rolled WInstr-F.I64ShrS
nesting-number name.I64ShrU = ap nesting (sym variants.rolls-I64ShrU) ∙ rolled WInstr-F.I64ShrU
nesting-number name.I64Rotl = ap nesting (sym variants.rolls-I64Rotl) ∙ rolled WInstr-F.I64Rotl
nesting-number name.I64Rotr = ap nesting (sym variants.rolls-I64Rotr) ∙ rolled WInstr-F.I64Rotr
nesting-number name.I32WrapI64 = ap nesting (sym variants.rolls-I32WrapI64) ∙ rolled WInstr-F.I32WrapI64
nesting-number name.I64ExtendI32S = ap nesting (sym variants.rolls-I64ExtendI32S) ∙ rolled WInstr-F.I64ExtendI32S
nesting-number name.I64ExtendI32U = ap nesting (sym variants.rolls-I64ExtendI32U) ∙ rolled WInstr-F.I64ExtendI32U

pub greatest-append : (xs ys : List w.WInstr) → greatest nesting (xs ++ ys) ≡ max (greatest nesting xs) (greatest nesting ys)
greatest-append [] ys = omega arith
greatest-append (x ∷ xs) ys = omega (arith, greatest-append xs ys)

pub flat-gets : (n from : ℕ) → greatest nesting (gets n from) ≡ 0
flat-gets zero from = refl
flat-gets (suc n) from = omega (arith, nesting-LocalGet from, flat-gets n (suc from))

pub flat-moves : (n from to : ℕ) → greatest nesting (moves n from to) ≡ 0
flat-moves zero from to = refl
flat-moves (suc n) from to = omega (arith, nesting-LocalGet from, nesting-LocalSet to, flat-moves n (suc from) (suc to))

pub flat-gives : (n local global : ℕ) → greatest nesting (gives n local global) ≡ 0
flat-gives zero local global = refl
flat-gives (suc n) local global = omega (arith, nesting-LocalGet local, nesting-GlobalSet global, flat-gives n (suc local) (suc global))

pub flat-fetches : (n global local : ℕ) → greatest nesting (fetches n global local) ≡ 0
flat-fetches zero global local = refl
flat-fetches (suc n) global local = omega (arith, nesting-GlobalGet global, nesting-LocalSet local, flat-fetches n (suc global) (suc local))

pub flat-loads : (n base word to : ℕ) → greatest nesting (loads n base word to) ≡ 0
flat-loads zero base word to = refl
flat-loads (suc n) base word to =
    omega (arith, nesting-LocalGet base, nesting-number name.I32WrapI64, nesting-I64Load 3 (8 * word), nesting-LocalSet to, flat-loads n base (suc word) (suc to))

pub flat-stores : (n base word from : ℕ) → greatest nesting (stores n base word from) ≡ 0
flat-stores zero base word from = refl
flat-stores (suc n) base word from =
    omega (arith, nesting-LocalGet base, nesting-number name.I32WrapI64, nesting-LocalGet from, nesting-I64Store 3 (8 * word), flat-stores n base (suc word) (suc from))

flat-numbers_from : (widths : List Width) (local : ℕ) → greatest nesting (numbers_from widths local) ≡ 0
flat-numbers_from [] local = refl
flat-numbers_from (W32 ∷ widths) local = omega (arith, nesting-LocalGet local, nesting-number name.I32WrapI64, flat-numbers_from widths (suc local))
flat-numbers_from (W64 ∷ widths) local = omega (arith, nesting-LocalGet local, flat-numbers_from widths (suc local))

flat-widened : (width : Width) (rest : List w.WInstr) → greatest nesting (widened width ++ rest) ≡ greatest nesting rest
flat-widened W32 rest = omega (arith, nesting-number name.I64ExtendI32U)
flat-widened W64 rest = refl

pub flat-number_code : (n : NumName) (local : ℕ) → greatest nesting (number_code n local) ≡ 0
flat-number_code n local =
    let rest : List w.WInstr = widened (given_by (operator_of n)) ++ w.LocalSet local ∷ [] in
    omega (
      arith,
      greatest-append (numbers_from (takes (operator_of n)) local) (instruction_of n ∷ rest),
      flat-numbers_from (takes (operator_of n)) local,
      nesting-number n,
      flat-widened (given_by (operator_of n)) (w.LocalSet local ∷ []),
      nesting-LocalSet local,
    )
