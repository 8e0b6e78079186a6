-- The immediates of each instruction: what stands in its bytes after the opcode
-- (WebAssembly Core Specification 1.0, section 5.4), in the order of the opcodes.
use Rattle.std.specs.Prelude.{ℕ, ◌^◌, ◌<◌, List, length, Option, map}
use Rattle.wasm_ast.specs.declared.types.ValTy.{ValTy}
use Rattle.wasm_ast.specs.declared.instructions.WInstr.{WInstr, out-WInstr}
use Rattle.wasm_ast.specs.declared.instructions.WInstr.TheOpen.{WInstr-F}
use Rattle.wasm_ast.specs.Operations.{Operation, operation_in}

-- The ten kinds of immediates, of which `A` stands for the nested instructions. `IndexZero` is an index and a
-- zero byte, `Zero` a zero byte, `Labels` the labels of a table and its default, `MemArg` an alignment exponent
-- and an offset, `Body` a block's result type and its list, `Bodies` the same with a list after `else`.
pub data Immediate (A : Type 0) : Type 0 where
  Bare : Immediate A
  Index : (n : ℕ) → Immediate A
  Labels : (labels : List ℕ) (default : ℕ) → Immediate A
  IndexZero : (n : ℕ) → Immediate A
  Zero : Immediate A
  MemArg : (align offset : ℕ) → Immediate A
  Const32 : (n : ℕ) → Immediate A
  Const64 : (n : ℕ) → Immediate A
  Body : (t : Option ValTy) (xs : List A) → Immediate A
  Bodies : (t : Option ValTy) (xs ys : List A) → Immediate A

-- what follows the opcode, by kind of operation
abbrev pub immediate_by : {A : Type 0} → Operation A → Immediate A
immediate_by Operation.Unreachable = Bare
immediate_by Operation.Nop = Bare
immediate_by (Operation.Block t xs) = Body t xs
immediate_by (Operation.Loop t xs) = Body t xs
immediate_by (Operation.If t xs) = Body t xs
immediate_by (Operation.IfElse t xs ys) = Bodies t xs ys
immediate_by (Operation.Br label) = Index label
immediate_by (Operation.BrIf label) = Index label
immediate_by (Operation.BrTable labels default) = Labels labels default
immediate_by Operation.Return = Bare
immediate_by (Operation.Call function) = Index function
immediate_by (Operation.CallIndirect type_index) = IndexZero type_index
immediate_by Operation.Drop = Bare
immediate_by Operation.Select = Bare
immediate_by (Operation.LocalGet n) = Index n
immediate_by (Operation.LocalSet n) = Index n
immediate_by (Operation.LocalTee n) = Index n
immediate_by (Operation.GlobalGet n) = Index n
immediate_by (Operation.GlobalSet n) = Index n
immediate_by (Operation.Load _ _ align offset) = MemArg align offset
immediate_by (Operation.Store _ _ align offset) = MemArg align offset
immediate_by Operation.MemorySize = Zero
immediate_by Operation.MemoryGrow = Zero
immediate_by (Operation.Const32 bits) = Const32 bits
immediate_by (Operation.Const64 bits) = Const64 bits
immediate_by (Operation.Eqz _) = Bare
immediate_by (Operation.Compare _ _) = Bare
immediate_by (Operation.Unary _ _) = Bare
immediate_by (Operation.Binary _ _) = Bare
immediate_by (Operation.Convert _) = Bare

-- what follows the opcode of a layer, of which `A` stands for the nested instructions
abbrev pub immediate_in : {A : Type 0} → WInstr-F A → Immediate A
immediate_in x = immediate_by (operation_in x)

-- what follows the opcode of an instruction
abbrev pub immediate_of : WInstr → Immediate WInstr
immediate_of w = immediate_in (out-WInstr w)

-- the same immediates, with `f` of each nested instruction
abbrev pub map_nested : {A B : Type 0} → (A → B) → Immediate A → Immediate B
map_nested f Bare = Bare
map_nested f (Index n) = Index n
map_nested f (Labels labels default) = Labels labels default
map_nested f (IndexZero n) = IndexZero n
map_nested f Zero = Zero
map_nested f (MemArg align offset) = MemArg align offset
map_nested f (Const32 n) = Const32 n
map_nested f (Const64 n) = Const64 n
map_nested f (Body t xs) = Body t (map f xs)
map_nested f (Bodies t xs ys) = Bodies t (map f xs) (map f ys)

-- immediates that nest no instruction
abbrev pub IsPlain : {A : Type 0} → Immediate A → Type 0
IsPlain (Body t xs) = ⊥
IsPlain (Bodies t xs ys) = ⊥
IsPlain _ = Unit {0}

-- each list in the immediates has fewer than 2 ^ 32 entries
abbrev pub HasShortLists : {A : Type 0} → Immediate A → Type 0
HasShortLists (Labels labels default) = length labels < 2 ^ 32
HasShortLists (Body t xs) = length xs < 2 ^ 32
HasShortLists (Bodies t xs ys) = (length xs < 2 ^ 32) × (length ys < 2 ^ 32)
HasShortLists _ = Unit {0}
