-- The productions of instructions and expressions (WebAssembly Core Specification 1.0, section 5.4).
-- The opcode of each instruction and the kind of what follows it stand in tables (`opcode_of`, `immediate_of`).
use Rattle.std.specs.Prelude.{◌≡◌, ℕ, List, [], ◌∷◌, ◌++◌, Option}
use Rattle.wasm_ast.specs.declared.types.ValTy.{ValTy}
use Rattle.wasm_ast.specs.declared.instructions.WInstr.{WInstr}
use Rattle.wasm_ast.specs.Opcodes.{opcode_of}
use Rattle.wasm_ast.specs.Immediates.{Immediate, Bare, Index, Labels, IndexZero, Zero, MemArg, Const32, Const64, Body, Bodies, immediate_of}
use Rattle.wasm_grammar.specs.Tags.{block_type}
use Rattle.wasm_grammar.specs.GrammarValues.{◌followed_by◌, IsExactly, IsByte, IsUnsigned, IsSigned32, IsSigned64, IsVector}

-- what follows the opcode of an instruction that nests none: indices, labels, an alignment and an offset, a
-- constant, and the zero bytes of `call_indirect`, `memory.size` and `memory.grow` (5.4.1 to 5.4.5)
abbrev pub IsImmediate : Immediate WInstr → List ℕ → Type 0
IsImmediate Bare = IsExactly []
IsImmediate (Index n) = IsUnsigned n
IsImmediate (Labels labels default) = IsVector IsUnsigned labels followed_by IsUnsigned default
IsImmediate (IndexZero n) = IsUnsigned n followed_by IsByte 0x00
IsImmediate Zero = IsByte 0x00
IsImmediate (MemArg align offset) = IsUnsigned align followed_by IsUnsigned offset
IsImmediate (Const32 n) = IsSigned32 n
IsImmediate (Const64 n) = IsSigned64 n
IsImmediate (Body t xs) = λ bytes. ⊥
IsImmediate (Bodies t xs ys) = λ bytes. ⊥

mutual
  -- an instruction: its opcode and its immediates; or its opcode, its block type, its list and the end; or, where
  -- there is an `else`, its opcode, its block type, one list, the byte of `else`, the other list and the end (5.4.1)
  pub data IsInstruction : WInstr → List ℕ → Type 0 where
    plain : {w : WInstr} {bytes : List ℕ} (rest : List ℕ) → IsImmediate (immediate_of w) rest → bytes ≡ opcode_of w ∷ rest → IsInstruction w bytes
    nested : {w : WInstr} {bytes : List ℕ} (t : Option ValTy) (xs : List WInstr) (inner : List ℕ) → immediate_of w ≡ Body t xs → IsInstructions xs inner → bytes ≡ opcode_of w ∷ block_type t ∷ (inner ++ 0x0B ∷ []) → IsInstruction w bytes
    two_arms : {w : WInstr} {bytes : List ℕ} (t : Option ValTy) (xs ys : List WInstr) (first second : List ℕ) → immediate_of w ≡ Bodies t xs ys → IsInstructions xs first → IsInstructions ys second → bytes ≡ opcode_of w ∷ block_type t ∷ (first ++ (0x05 ∷ (second ++ 0x0B ∷ []))) → IsInstruction w bytes

  -- instructions one after another
  pub data IsInstructions : List WInstr → List ℕ → Type 0 where
    none : {ws : List WInstr} {bytes : List ℕ} → ws ≡ [] → bytes ≡ [] → IsInstructions ws bytes
    more : {ws : List WInstr} {bytes : List ℕ} (x : WInstr) (xs : List WInstr) (front back : List ℕ) → ws ≡ x ∷ xs → IsInstruction x front → IsInstructions xs back → bytes ≡ front ++ back → IsInstructions ws bytes

-- an expression: its instructions and the end (5.4.6)
abbrev pub IsExpression : List WInstr → List ℕ → Type 0
IsExpression xs = IsInstructions xs followed_by IsByte 0x0B

-- a constant expression: its one instruction and the end (5.4.6)
abbrev pub IsConstantExpression : WInstr → List ℕ → Type 0
IsConstantExpression w = IsInstruction w followed_by IsByte 0x0B
