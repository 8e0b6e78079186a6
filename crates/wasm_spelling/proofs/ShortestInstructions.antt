-- The canonical bytes of instructions and expressions are the shortest ones: by induction on the spelling.
use Rattle.std.proofs.Common.{List, [], ◌∷◌, ◌++◌, ℕ, inl, refl, ap}
use Rattle.std.specs.List.{flat_map}
use Rattle.wasm_leb.specs.Leb.{unsigned_least}
use Rattle.wasm_ast.specs.declared.instructions.WInstr.{WInstr}
use Rattle.wasm_ast.specs.Opcodes.{opcode_of}
use Rattle.wasm_ast.specs.Immediates.{Immediate, Bare, Index, Labels, IndexZero, Zero, MemArg, Const32, Const64, Body, Bodies, immediate_of}
use Rattle.wasm_grammar.specs.Tags.{block_type}
use Rattle.wasm_grammar.specs.CanonicalTypes.{vector_bytes}
use Rattle.wasm_grammar.specs.CanonicalInstructions.{immediate_bytes, instruction_bytes, expression_bytes, constant_bytes}
use Rattle.wasm_grammar.specs.GrammarInstructions.{IsImmediate, IsInstruction, IsInstructions, plain, nested, two_arms, none, more, IsExpression, IsConstantExpression}
use Rattle.wasm_grammar.proofs.InstructionLayers.{instruction_bytes-layer}
use Rattle.wasm_spelling.proofs.LeastOrLonger.{IsLeastOrLonger, alike, both, behind, before}
use Rattle.wasm_spelling.proofs.Shortest.{IsShortest, joined, exactly, byte, unsigned, signed32, signed64, unsigneds}
use Rattle.wasm_spelling.proofs.SpelledInstructions.{layer}

immediate-shortest : (i : Immediate WInstr) → IsShortest (IsImmediate i) (immediate_bytes instruction_bytes i)
immediate-shortest Bare = exactly []
immediate-shortest (Index n) = unsigned n
immediate-shortest (Labels labels default) =
    joined (vector_bytes (unsigned_least 5) labels) (unsigned_least 5 default) (unsigneds labels) (unsigned default)
immediate-shortest (IndexZero n) = joined (unsigned_least 5 n) (0x00 ∷ []) (unsigned n) (byte 0x00)
immediate-shortest Zero = byte 0x00
immediate-shortest (MemArg align offset) =
    joined (unsigned_least 5 align) (unsigned_least 5 offset) (unsigned align) (unsigned offset)
immediate-shortest (Const32 n) = signed32 n
immediate-shortest (Const64 n) = signed64 n
immediate-shortest (Body t xs) = record { at = λ bytes p. absurd p }
immediate-shortest (Bodies t xs ys) = record { at = λ bytes p. absurd p }

mutual
  instruction_least : (w : WInstr) (bytes : List ℕ) → IsInstruction w bytes → IsLeastOrLonger (instruction_bytes w) bytes
  instruction_least w bytes (plain rest p e) =
      let least = immediate_bytes instruction_bytes (immediate_of w) in
      alike (instruction_bytes w) bytes (opcode_of w ∷ least) (opcode_of w ∷ rest) (instruction_bytes-layer w) e
      (behind (opcode_of w ∷ []) least rest ((immediate-shortest (immediate_of w)).at rest p))
  instruction_least w bytes (nested t xs inner p q e) =
      let least = flat_map instruction_bytes xs in
      let head = opcode_of w ∷ block_type t ∷ [] in
      let stop = 0x0B ∷ [] in
      alike (instruction_bytes w) bytes (head ++ (least ++ stop)) (head ++ (inner ++ stop)) (layer w (Body t xs) p) e
      (behind head (least ++ stop) (inner ++ stop) (before stop least inner (instructions_least xs inner q)))
  instruction_least w bytes (two_arms t xs ys first second p q r e) =
      let one = flat_map instruction_bytes xs in
      let other = flat_map instruction_bytes ys in
      let head = opcode_of w ∷ block_type t ∷ [] in
      let stop = 0x0B ∷ [] in
      let arm = before stop other second (instructions_least ys second r) in
      let arms = both one (0x05 ∷ (other ++ stop)) first (0x05 ∷ (second ++ stop)) (instructions_least xs first q) (behind (0x05 ∷ []) (other ++ stop) (second ++ stop) arm) in
      alike (instruction_bytes w) bytes (head ++ (one ++ (0x05 ∷ (other ++ stop)))) (head ++ (first ++ (0x05 ∷ (second ++ stop)))) (layer w (Bodies t xs ys) p) e
      (behind head (one ++ (0x05 ∷ (other ++ stop))) (first ++ (0x05 ∷ (second ++ stop))) arms)

  instructions_least : (ws : List WInstr) (bytes : List ℕ) → IsInstructions ws bytes → IsLeastOrLonger (flat_map instruction_bytes ws) bytes
  instructions_least ws bytes (none e f) = alike (flat_map instruction_bytes ws) bytes [] [] (ap (flat_map instruction_bytes) e) f (inl refl)
  instructions_least ws bytes (more x xs front back e p q f) =
      let one = instruction_bytes x in
      let others = flat_map instruction_bytes xs in
      alike (flat_map instruction_bytes ws) bytes (one ++ others) (front ++ back) (ap (flat_map instruction_bytes) e) f
      (both one others front back (instruction_least x front p) (instructions_least xs back q))

instruction-shortest : (w : WInstr) → IsShortest (IsInstruction w) (instruction_bytes w)
instruction-shortest w = record { at = instruction_least w }

instructions-shortest : (ws : List WInstr) → IsShortest (IsInstructions ws) (flat_map instruction_bytes ws)
instructions-shortest ws = record { at = instructions_least ws }

pub expression-shortest : (ws : List WInstr) → IsShortest (IsExpression ws) (expression_bytes ws)
expression-shortest ws = joined (flat_map instruction_bytes ws) (0x0B ∷ []) (instructions-shortest ws) (byte 0x0B)

pub constant-shortest : (w : WInstr) → IsShortest (IsConstantExpression w) (constant_bytes w)
constant-shortest w = joined (instruction_bytes w) (0x0B ∷ []) (instruction-shortest w) (byte 0x0B)
