-- The instructions whose numbers fit their fields (WebAssembly Core Specification 1.0, section 5.4).
use Rattle.std.specs.Prelude.{◌≡◌, ℕ, ◌^◌, ◌<◌, List, [], ◌∷◌, length, All, Option}
use Rattle.wasm_ast.specs.declared.types.ValTy.{ValTy}
use Rattle.wasm_ast.specs.declared.instructions.WInstr.{WInstr, out-WInstr}
use Rattle.wasm_ast.specs.declared.instructions.WInstr.TheOpen.{WInstr-F}
use Rattle.wasm_ast.specs.Immediates.{Immediate, Bare, Index, Labels, IndexZero, Zero, MemArg, Const32, Const64, Body, Bodies, immediate_of}

-- a number of a 32-bit field
abbrev pub FitsU32 : ℕ → Type 0
FitsU32 n = n < 2 ^ 32

-- a list that a vector can hold, with `P` of each entry
pub record IsShortListOf {X : Type 0} (P : X → Type 0) (xs : List X) : Type 0 where
  pub short : length xs < 2 ^ 32
  pub each : All P xs

-- immediates that nest no instruction, and whose numbers fit their fields
abbrev pub ImmediateFits : Immediate WInstr → Type 0
ImmediateFits Bare = Unit {0}
ImmediateFits (Index n) = FitsU32 n
ImmediateFits (Labels labels default) = IsShortListOf FitsU32 labels × FitsU32 default
ImmediateFits (IndexZero n) = FitsU32 n
ImmediateFits Zero = Unit {0}
ImmediateFits (MemArg align offset) = FitsU32 align × FitsU32 offset
ImmediateFits (Const32 n) = FitsU32 n
ImmediateFits (Const64 n) = n < 2 ^ 64
ImmediateFits (Body t xs) = ⊥
ImmediateFits (Bodies t xs ys) = ⊥

mutual
  -- the numbers of an instruction, and of those nested in it, fit their fields
  pub data InstructionFits : WInstr → Type 0 where
    plain_fits : {w : WInstr} → ImmediateFits (immediate_of w) → InstructionFits w
    nested_fits : {w : WInstr} (t : Option ValTy) (xs : List WInstr) → immediate_of w ≡ Body t xs → length xs < 2 ^ 32 → InstructionsFit xs → InstructionFits w
    two_arms_fit : {w : WInstr} (t : Option ValTy) (xs ys : List WInstr) → immediate_of w ≡ Bodies t xs ys → length xs < 2 ^ 32 → length ys < 2 ^ 32 → InstructionsFit xs → InstructionsFit ys → InstructionFits w

  -- each instruction fits
  pub data InstructionsFit : List WInstr → Type 0 where
    none_fit : {ws : List WInstr} → ws ≡ [] → InstructionsFit ws
    more_fit : {ws : List WInstr} (x : WInstr) (xs : List WInstr) → ws ≡ x ∷ xs → InstructionFits x → InstructionsFit xs → InstructionsFit ws

-- a constant, or the value of a global
abbrev pub IsConstantIn : {A : Type 0} → WInstr-F A → Type 0
IsConstantIn (WInstr-F.I32Const _) = Unit {0}
IsConstantIn (WInstr-F.I64Const _) = Unit {0}
IsConstantIn (WInstr-F.GlobalGet _) = Unit {0}
IsConstantIn _ = ⊥

-- an instruction that may stand in a constant expression
abbrev pub IsConstant : WInstr → Type 0
IsConstant w = IsConstantIn (out-WInstr w)

-- the one instruction of a constant expression, whose number fits its field
abbrev pub ConstantFits : WInstr → Type 0
ConstantFits w = IsConstant w × InstructionFits w
