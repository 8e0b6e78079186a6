-- The literals of instructions: constants, alignments and offsets, which name nothing, so that typing does not bound them all
-- (WebAssembly Core Specification 1.0, section 5.4). This project's own.
use Rattle.std.specs.Prelude.{◌≡◌, ◌^◌, ◌<◌, List, [], ◌∷◌, length, Option}
use Rattle.wasm_ast.specs.declared.types.ValTy.{ValTy}
use Rattle.wasm_ast.specs.declared.instructions.WInstr.{WInstr}
use Rattle.wasm_ast.specs.Immediates.{Bodies, Body, Const32, Const64, Immediate, IsPlain, Labels, MemArg, immediate_of}
use Rattle.wasm_grammar.specs.ProfileInstructions.{FitsU32}

-- literals fit their fields, and a vector can hold the labels of a table
abbrev pub LiteralFits : Immediate WInstr → Type 0
LiteralFits (Labels labels default) = length labels < 2 ^ 32
LiteralFits (MemArg align offset) = FitsU32 align × FitsU32 offset
LiteralFits (Const32 n) = FitsU32 n
LiteralFits (Const64 n) = n < 2 ^ 64
LiteralFits _ = Unit {0}

mutual
  -- those of an instruction, and of those nested in it
  pub data HasLiterals : WInstr → Type 0 where
    plain_literals : {w : WInstr} → IsPlain (immediate_of w) → LiteralFits (immediate_of w) → HasLiterals w
    nested_literals : {w : WInstr} (t : Option ValTy) (xs : List WInstr) → immediate_of w ≡ Body t xs → HaveLiterals xs → HasLiterals w
    two_arms_literals : {w : WInstr} (t : Option ValTy) (xs ys : List WInstr) → immediate_of w ≡ Bodies t xs ys → HaveLiterals xs → HaveLiterals ys → HasLiterals w

  -- those of each instruction
  pub data HaveLiterals : List WInstr → Type 0 where
    no_literals : {ws : List WInstr} → ws ≡ [] → HaveLiterals ws
    more_literals : {ws : List WInstr} (x : WInstr) (xs : List WInstr) → ws ≡ x ∷ xs → HasLiterals x → HaveLiterals xs → HaveLiterals ws
