-- The first violation of a body: its place, and the rule that is broken there (this project's own order: indices come first, then
-- the other immediates, then operands from the top).
use Rattle.std.specs.Prelude.{◌≡◌, ℕ, List, [], ◌∷◌, ◌++◌, ◌⊎◌, Some, Ok, Err, map, take, slice_get}
use Rattle.wasm_ast.specs.declared.types.ValTy.{ValTy}
use Rattle.wasm_ast.specs.declared.types.ValTy.TheVariants.{I32}
use Rattle.wasm_ast.specs.declared.instructions.WInstr.{WInstr}
use Rattle.wasm_typing.specs.declared.rule.WRule.{WRule}
use Rattle.wasm_typing.specs.declared.rule.WRule.TheVariants.{OperandMissing, OperandType, EndOperands}
use Rattle.wasm_typing.specs.declared.context.Context.{Context}
use Rattle.wasm_typing.specs.Signatures.{Slot, The, Signature, signature_in}
use Rattle.wasm_typing.specs.Typing.{fill}
use Rattle.wasm_typing.specs.Tokens.{Token, Plain, OpensIf, Else, End, code_of}
use Rattle.wasm_typing.specs.Places.{IsFirstPlace}
use Rattle.wasm_typing.specs.ByteOrder.{Open, Leads, start, labels}

-- The first operand from the top that is wrong, where `Stands` says which operands may stand: those above it may be taken, it may
-- not; it is missing where none may stand there.
pub record IsOperandRule (Stands : List ValTy → Type 0) (takes : List Slot) (rule : WRule) : Type 0 where
  pub above : List Slot
  pub slot : Slot
  pub beneath : List Slot
  pub parted : takes ≡ above ++ slot ∷ beneath
  pub taken : (t : ValTy) × (below : List ValTy) × Stands (map (fill t) above ++ below)
  pub wrong : (t : ValTy) (below : List ValTy) → Stands (map (fill t) above ++ fill t slot ∷ below) → ⊥
  pub which : ((rule ≡ OperandMissing) × ((t u : ValTy) (below : List ValTy) → Stands (map (fill t) above ++ u ∷ below) → ⊥))
      ⊎ ((rule ≡ OperandType) × (t : ValTy) × (u : ValTy) × (below : List ValTy) × Stands (map (fill t) above ++ u ∷ below))

module _ (C : Context) where
  -- operands that may stand in the innermost list behind these tokens
  abbrev pub Stands : List Token → List ValTy → Type 0
  Stands front st = (o : Open (List ValTy)) × (os : List (Open (List ValTy))) × Leads C front (start C) (o ∷ os) × (o.operands ≡ st)

  -- an index or another immediate is wrong, or an operand
  abbrev pub IsPlainRule : List Token → WRule → Signature → Type 0
  IsPlainRule front rule s = IsOperandRule (Stands front) s.takes rule

  -- the rule that this token breaks behind those
  abbrev pub IsRuleOf : List Token → Token → WRule → Type 0
  IsRuleOf front (Plain w) rule = (os : List (Open (List ValTy))) → Leads C front (start C) os → (signature_in C (labels os) w ≡ Err rule) ⊎ ((s : Signature) × (signature_in C (labels os) w ≡ Ok s) × IsPlainRule front rule s)
  IsRuleOf front (OpensIf t) rule = IsOperandRule (Stands front) (The I32 ∷ []) rule
  IsRuleOf front Else rule = rule ≡ EndOperands
  IsRuleOf front End rule = rule ≡ EndOperands
  IsRuleOf front _ rule = ⊥

  pub record IsFirstViolation (body : List WInstr) (at : ℕ) (rule : WRule) : Type 0 where
    pub place : IsFirstPlace C body at
    pub token : Token
    pub there : slice_get (code_of body) at ≡ Some token
    pub broken : IsRuleOf (take at (code_of body)) token rule
