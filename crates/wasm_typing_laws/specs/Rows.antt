-- Bodies that are typed, and bodies with their first violations (this project's own rows).
use Rattle.std.specs.Prelude.{[], ◌∷◌, None, Some}
use Rattle.wasm_ast.specs.declared.types.ValTy.TheVariants.{I64}
use Rattle.wasm_ast.specs.declared.instructions.WInstr as w
use Rattle.wasm_typing.specs.declared.rule.WRule.TheVariants.{EndOperands, OperandType, OperandMissing, LabelIndex}
use Rattle.wasm_typing.specs.Typing.{IsTypedBody}
use Rattle.wasm_typing.specs.Rows.{lone_context}
use Rattle.wasm_typing.specs.Violations.{IsFirstViolation}

pub record WorkedViolations : Type 0 where
  -- i64.const 6, drop, end
  pub dropped : IsFirstViolation lone_context (w.I64Const 6 ∷ w.Drop ∷ []) 2 EndOperands
  -- i32.const 1, if i64, i64.const 2, end, end
  pub no_else : IsFirstViolation lone_context (w.I32Const 1 ∷ w.If (Some I64) (w.I64Const 2 ∷ []) ∷ []) 3 EndOperands
  -- the same where the first arm is dead
  pub dead_no_else : IsFirstViolation lone_context (w.I32Const 1 ∷ w.If (Some I64) (w.Unreachable ∷ []) ∷ []) 3 EndOperands
  -- block, br 0, i32.add, drop, end, i64.const 1, end
  pub dead_code : IsTypedBody lone_context (w.Block None (w.Br 0 ∷ w.I32Add ∷ w.Drop ∷ []) ∷ w.I64Const 1 ∷ [])
  -- block, br 0, i64.const 1, i32.eqz, end, end
  pub dead_wrong : IsFirstViolation lone_context (w.Block None (w.Br 0 ∷ w.I64Const 1 ∷ w.I32Eqz ∷ w.Drop ∷ []) ∷ []) 3 OperandType
  -- unreachable, select, end
  pub select_unknown : IsTypedBody lone_context (w.Unreachable ∷ w.Select ∷ [])
  -- unreachable, i32.const 1, i64.const 2, i32.const 0, select, end
  pub select_wrong : IsFirstViolation lone_context (w.Unreachable ∷ w.I32Const 1 ∷ w.I64Const 2 ∷ w.I32Const 0 ∷ w.Select ∷ []) 4 OperandType
  -- br_table 1, where there are labels 0 alone, before its missing operand
  pub table : IsFirstViolation lone_context (w.BrTable (0 ∷ []) 1 ∷ []) 0 LabelIndex
  pub missing : IsFirstViolation lone_context (w.I64Const 1 ∷ w.I64Add ∷ []) 1 OperandMissing
