-- Labels, places and moves, written out (this project's own rows).
use Rattle.std.specs.Prelude.{◌≡◌, List, [], ◌∷◌}
use Rattle.wasm_ast.specs.declared.instructions.WInstr as w
use Rattle.rw_types.specs.declared.numbers.NumName.TheVariants.{I32DivS, I64Eqz, I64ExtendI32S}
use Rattle.lowering_rows.specs.Moves.{loads, moves, stores}
use Rattle.lowering_rows.specs.Numbers.{number_code}
use Rattle.lowering_rows.specs.Labels.{Label, case_label, label_height, label_index, plain_label}

-- a block within a case within a loop
abbrev pub three_labels : List Label
three_labels = plain_label 7 ∷ case_label 5 ∷ plain_label 2 ∷ []

-- the `if` of a case counts for labels outside of it and for its own; words are moved upwards; operands of 32 bits are wrapped,
-- and a result of 32 bits is extended
pub record WorkedRows : Type 0 where
  pub innermost : label_index three_labels 0 ≡ 0
  pub of_case : label_index three_labels 1 ≡ 2
  pub outermost : label_index three_labels 2 ≡ 3
  pub height : label_height three_labels 1 ≡ 5
  pub upwards : moves 2 4 3 ≡ w.LocalGet 4 ∷ w.LocalSet 3 ∷ w.LocalGet 5 ∷ w.LocalSet 4 ∷ []
  pub load : loads 1 2 3 4 ≡ w.LocalGet 2 ∷ w.I32WrapI64 ∷ w.I64Load 3 24 ∷ w.LocalSet 4 ∷ []
  pub store : stores 1 2 3 4 ≡ w.LocalGet 2 ∷ w.I32WrapI64 ∷ w.LocalGet 4 ∷ w.I64Store 3 24 ∷ []
  pub quotient : number_code I32DivS 6 ≡
      w.LocalGet 6 ∷ w.I32WrapI64 ∷ w.LocalGet 7 ∷ w.I32WrapI64 ∷ w.I32DivS ∷ w.I64ExtendI32U ∷ w.LocalSet 6 ∷ []
  pub test : number_code I64Eqz 6 ≡ w.LocalGet 6 ∷ w.I64Eqz ∷ w.I64ExtendI32U ∷ w.LocalSet 6 ∷ []
  pub extension : number_code I64ExtendI32S 6 ≡ w.LocalGet 6 ∷ w.I32WrapI64 ∷ w.I64ExtendI32S ∷ w.LocalSet 6 ∷ []
