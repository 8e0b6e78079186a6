-- Canonical bytes follow the productions of instructions and expressions: by induction on how they fit.
use Rattle.std.proofs.Common.{◌≡◌, ◌∙◌, List, [], ◌∷◌, refl, ap}
use Rattle.std.specs.List.{flat_map}
use Rattle.wasm_leb.specs.Leb.{unsigned_least}
use Rattle.wasm_leb.proofs.Spelled.{u32, s32, s64}
use Rattle.wasm_ast.specs.declared.instructions.WInstr.{WInstr}
use Rattle.wasm_ast.specs.Opcodes.{opcode_of}
use Rattle.wasm_ast.specs.Immediates.{Immediate, Bare, Index, Labels, IndexZero, Zero, MemArg, Const32, Const64, Body, Bodies, immediate_of}
use Rattle.wasm_grammar.specs.CanonicalTypes.{vector_bytes}
use Rattle.wasm_grammar.specs.CanonicalInstructions.{immediate_bytes, instruction_bytes, expression_bytes, constant_bytes}
use Rattle.wasm_grammar.specs.ProfileInstructions.{ImmediateFits, InstructionFits, InstructionsFit, plain_fits, nested_fits, two_arms_fit, none_fit, more_fit, ConstantFits}
use Rattle.wasm_grammar.specs.GrammarInstructions.{IsImmediate, IsInstruction, IsInstructions, plain, nested, two_arms, none, more, IsExpression, IsConstantExpression}
use Rattle.wasm_grammar.proofs.InstructionLayers.{instruction_bytes-layer}
use Rattle.wasm_spelling.proofs.SpelledValues.{joined, unsigneds}

immediate : (i : Immediate WInstr) → ImmediateFits i → IsImmediate i (immediate_bytes instruction_bytes i)
immediate Bare h = refl
immediate (Index n) h = u32 n h
immediate (Labels labels default) h =
    joined (vector_bytes (unsigned_least 5) labels) (unsigned_least 5 default) (unsigneds labels h.0) (u32 default h.1)
immediate (IndexZero n) h = joined (unsigned_least 5 n) (0x00 ∷ []) (u32 n h) refl
immediate Zero h = refl
immediate (MemArg align offset) h =
    joined (unsigned_least 5 align) (unsigned_least 5 offset) (u32 align h.0) (u32 offset h.1)
immediate (Const32 n) h = s32 n h
immediate (Const64 n) h = s64 n h
immediate (Body t xs) h = absurd h
immediate (Bodies t xs ys) h = absurd h

-- the bytes of an instruction from what its immediates are
pub layer : (w : WInstr) (i : Immediate WInstr) → immediate_of w ≡ i → instruction_bytes w ≡ opcode_of w ∷ immediate_bytes instruction_bytes i
layer w i e = instruction_bytes-layer w ∙ ap (λ (j : Immediate WInstr). opcode_of w ∷ immediate_bytes instruction_bytes j) e

mutual
  pub instruction : (w : WInstr) → InstructionFits w → IsInstruction w (instruction_bytes w)
  instruction w (plain_fits h) =
      plain (immediate_bytes instruction_bytes (immediate_of w)) (immediate (immediate_of w) h) (instruction_bytes-layer w)
  instruction w (nested_fits t xs e short h) =
      nested t xs (flat_map instruction_bytes xs) e (instructions xs h) (layer w (Body t xs) e)
  instruction w (two_arms_fit t xs ys e short also h g) =
      two_arms t xs ys (flat_map instruction_bytes xs) (flat_map instruction_bytes ys) e (instructions xs h) (instructions ys g)
      (layer w (Bodies t xs ys) e)

  pub instructions : (ws : List WInstr) → InstructionsFit ws → IsInstructions ws (flat_map instruction_bytes ws)
  instructions ws (none_fit e) = none e (ap (flat_map instruction_bytes) e)
  instructions ws (more_fit x xs e h g) =
      more x xs (instruction_bytes x) (flat_map instruction_bytes xs) e (instruction x h) (instructions xs g)
      (ap (flat_map instruction_bytes) e)

pub expression : (ws : List WInstr) → InstructionsFit ws → IsExpression ws (expression_bytes ws)
expression ws h = joined (flat_map instruction_bytes ws) (0x0B ∷ []) (instructions ws h) refl

pub constant : (w : WInstr) → ConstantFits w → IsConstantExpression w (constant_bytes w)
constant w h = joined (instruction_bytes w) (0x0B ∷ []) (instruction w h.1) refl
