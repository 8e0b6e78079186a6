-- The code of number instructions: numbers of 32 bits stand as unsigned ones in words. This project's own, in the terms of
-- the WebAssembly Core Specification 1.0, section 2.4.1.
use Rattle.std.specs.Prelude.{ℕ, suc, List, [], ◌∷◌, ◌++◌}
use Rattle.wasm_operators.specs.declared.Width.{Width}
use Rattle.wasm_operators.specs.declared.Width.TheVariants.{W32, W64}
use Rattle.wasm_ast.specs.declared.instructions.WInstr as w
use Rattle.rw_types.specs.declared.numbers.NumName.{NumName}
use Rattle.rw_types.specs.declared.numbers.NumName.TheVariants as name
use Rattle.rich_operators.specs.Operators.{operator_of, takes, gives}

-- the instruction of the same name
abbrev pub instruction_of : NumName → w.WInstr
instruction_of name.I32Eqz = w.I32Eqz
instruction_of name.I32Eq = w.I32Eq
instruction_of name.I32Ne = w.I32Ne
instruction_of name.I32LtS = w.I32LtS
instruction_of name.I32LtU = w.I32LtU
instruction_of name.I32GtS = w.I32GtS
instruction_of name.I32GtU = w.I32GtU
instruction_of name.I32LeS = w.I32LeS
instruction_of name.I32LeU = w.I32LeU
instruction_of name.I32GeS = w.I32GeS
instruction_of name.I32GeU = w.I32GeU
instruction_of name.I64Eqz = w.I64Eqz
instruction_of name.I64Eq = w.I64Eq
instruction_of name.I64Ne = w.I64Ne
instruction_of name.I64LtS = w.I64LtS
instruction_of name.I64LtU = w.I64LtU
instruction_of name.I64GtS = w.I64GtS
instruction_of name.I64GtU = w.I64GtU
instruction_of name.I64LeS = w.I64LeS
instruction_of name.I64LeU = w.I64LeU
instruction_of name.I64GeS = w.I64GeS
instruction_of name.I64GeU = w.I64GeU
instruction_of name.I32Clz = w.I32Clz
instruction_of name.I32Ctz = w.I32Ctz
instruction_of name.I32Popcnt = w.I32Popcnt
instruction_of name.I32Add = w.I32Add
instruction_of name.I32Sub = w.I32Sub
instruction_of name.I32Mul = w.I32Mul
instruction_of name.I32DivS = w.I32DivS
instruction_of name.I32DivU = w.I32DivU
instruction_of name.I32RemS = w.I32RemS
instruction_of name.I32RemU = w.I32RemU
instruction_of name.I32And = w.I32And
instruction_of name.I32Or = w.I32Or
instruction_of name.I32Xor = w.I32Xor
instruction_of name.I32Shl = w.I32Shl
instruction_of name.I32ShrS = w.I32ShrS
instruction_of name.I32ShrU = w.I32ShrU
instruction_of name.I32Rotl = w.I32Rotl
instruction_of name.I32Rotr = w.I32Rotr
instruction_of name.I64Clz = w.I64Clz
instruction_of name.I64Ctz = w.I64Ctz
instruction_of name.I64Popcnt = w.I64Popcnt
instruction_of name.I64Add = w.I64Add
instruction_of name.I64Sub = w.I64Sub
instruction_of name.I64Mul = w.I64Mul
instruction_of name.I64DivS = w.I64DivS
instruction_of name.I64DivU = w.I64DivU
instruction_of name.I64RemS = w.I64RemS
instruction_of name.I64RemU = w.I64RemU
instruction_of name.I64And = w.I64And
instruction_of name.I64Or = w.I64Or
instruction_of name.I64Xor = w.I64Xor
instruction_of name.I64Shl = w.I64Shl
instruction_of name.I64ShrS = w.I64ShrS
instruction_of name.I64ShrU = w.I64ShrU
instruction_of name.I64Rotl = w.I64Rotl
instruction_of name.I64Rotr = w.I64Rotr
instruction_of name.I32WrapI64 = w.I32WrapI64
instruction_of name.I64ExtendI32S = w.I64ExtendI32S
instruction_of name.I64ExtendI32U = w.I64ExtendI32U

-- the word on the Wasm operands becomes a number of this width
abbrev pub narrowed : Width → List w.WInstr
narrowed W32 = w.I32WrapI64 ∷ []
narrowed W64 = []

-- a number of this width on the Wasm operands becomes a word
abbrev pub widened : Width → List w.WInstr
widened W32 = w.I64ExtendI32U ∷ []
widened W64 = []

-- the numbers of these widths in the locals from one on go to the Wasm operands
abbrev pub numbers_from : List Width → ℕ → List w.WInstr
numbers_from [] local = []
numbers_from (width ∷ widths) local = w.LocalGet local ∷ (narrowed width ++ numbers_from widths (suc local))

-- the operands stand in the locals from one on, and the result goes to the first
abbrev pub number_code : NumName → ℕ → List w.WInstr
number_code n local =
    let operator = operator_of n in
    numbers_from (takes operator) local ++ instruction_of n ∷ (widened (gives operator) ++ w.LocalSet local ∷ [])
