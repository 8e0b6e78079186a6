-- The canonical text of an instruction: a line for each; this project's own.
use Rattle.std.specs.Prelude.{ℕ, List, [], ◌∷◌, map, codes, decimal}
use Rattle.rw_types.specs.declared.instrs.BlockSig.{BlockSig}
use Rattle.rw_types.specs.declared.instrs.Instr.{Instr, Nop, Unreachable, Drop, Unit, Print, Return, CallIndirect, Qualify, RecUnfold, Ungroup, RefSplit, RefJoin, CapSplit, CapJoin, StructFree, ArrayGet, ArraySet, ArrayLen, ArrayFree, I32Const, I64Const, Num, Block', Loop', If', Br, BrIf, LocalGet, LocalTake, LocalSet, GlobalGet, GlobalSet, Coderef, Inst, Call, RecFold, Group, MemPack, MemUnpack', StructMalloc, StructGet, StructSet, StructSwap, VariantMalloc, VariantCase', ArrayMalloc, ExistPack, ExistUnpack', Row_of-Instr, end_of-Instr, more_of-Instr, Row_of-Instr-VariantCase-1-1, end_of-Instr-VariantCase-1-1, more_of-Instr-VariantCase-1-1}
use Rattle.rich_writing.specs.Pieces.{in_parentheses, qual_text, mem_text, signed_text}
use Rattle.rich_writing.specs.Types.{type_text, argument_text, local_text}
use Rattle.rich_writing.specs.Operators.{operator_text}

-- a word, the signature of a block, and what stands in it
abbrev pub block_text : List ℕ → BlockSig → List (List ℕ) → List ℕ
block_text word sig forms = in_parentheses (word ∷ in_parentheses (map type_text sig.params) ∷ in_parentheses (map type_text sig.results) ∷ in_parentheses (map local_text sig.locals) ∷ forms)

abbrev mutual
  -- an instruction
  pub instruction_text : Instr → List ℕ
  instruction_text Nop = codes "nop"
  instruction_text Unreachable = codes "unreachable"
  instruction_text Drop = codes "drop"
  instruction_text Unit = codes "unit"
  instruction_text Print = codes "print"
  instruction_text (I32Const n) = in_parentheses (codes "i32.const" ∷ signed_text 32 n ∷ [])
  instruction_text (I64Const n) = in_parentheses (codes "i64.const" ∷ signed_text 64 n ∷ [])
  instruction_text (Num n) = operator_text n
  instruction_text (Block' sig m body) = block_text (codes "block") sig (instruction_row_texts body)
  instruction_text (Loop' sig m body) = block_text (codes "loop") sig (instruction_row_texts body)
  instruction_text (If' sig m first n second) = block_text (codes "if") sig (in_parentheses (codes "then" ∷ instruction_row_texts first) ∷ in_parentheses (codes "else" ∷ instruction_row_texts second) ∷ [])
  instruction_text (Br n) = in_parentheses (codes "br" ∷ decimal n ∷ [])
  instruction_text (BrIf n) = in_parentheses (codes "br_if" ∷ decimal n ∷ [])
  instruction_text Return = codes "return"
  instruction_text (LocalGet n) = in_parentheses (codes "local.get" ∷ decimal n ∷ [])
  instruction_text (LocalTake n) = in_parentheses (codes "local.take" ∷ decimal n ∷ [])
  instruction_text (LocalSet n) = in_parentheses (codes "local.set" ∷ decimal n ∷ [])
  instruction_text (GlobalGet n) = in_parentheses (codes "global.get" ∷ decimal n ∷ [])
  instruction_text (GlobalSet n) = in_parentheses (codes "global.set" ∷ decimal n ∷ [])
  instruction_text (Coderef n) = in_parentheses (codes "coderef" ∷ decimal n ∷ [])
  instruction_text (Inst args) = in_parentheses (codes "inst" ∷ map argument_text args)
  instruction_text (Call n args) = in_parentheses (codes "call" ∷ decimal n ∷ map argument_text args)
  instruction_text CallIndirect = codes "call_indirect"
  instruction_text Qualify = codes "qualify"
  instruction_text (RecFold t) = in_parentheses (codes "rec.fold" ∷ type_text t ∷ [])
  instruction_text RecUnfold = codes "rec.unfold"
  instruction_text (Group n q) = in_parentheses (codes "group" ∷ decimal n ∷ qual_text q ∷ [])
  instruction_text Ungroup = codes "ungroup"
  instruction_text (MemPack l t) = in_parentheses (codes "mem.pack" ∷ decimal l ∷ type_text t ∷ [])
  instruction_text (MemUnpack' sig m body) = block_text (codes "mem.unpack") sig (instruction_row_texts body)
  instruction_text RefSplit = codes "ref.split"
  instruction_text RefJoin = codes "ref.join"
  instruction_text CapSplit = codes "cap.split"
  instruction_text CapJoin = codes "cap.join"
  instruction_text (StructMalloc m sizes) = in_parentheses (codes "struct.malloc" ∷ mem_text m ∷ map decimal sizes)
  instruction_text StructFree = codes "struct.free"
  instruction_text (StructGet n) = in_parentheses (codes "struct.get" ∷ decimal n ∷ [])
  instruction_text (StructSet n) = in_parentheses (codes "struct.set" ∷ decimal n ∷ [])
  instruction_text (StructSwap n) = in_parentheses (codes "struct.swap" ∷ decimal n ∷ [])
  instruction_text (VariantMalloc m n ts) = in_parentheses (codes "variant.malloc" ∷ mem_text m ∷ decimal n ∷ map type_text ts)
  instruction_text (VariantCase' sig m arms) = block_text (codes "variant.case") sig (arm_row_texts arms)
  instruction_text (ArrayMalloc m) = in_parentheses (codes "array.malloc" ∷ mem_text m ∷ [])
  instruction_text ArrayGet = codes "array.get"
  instruction_text ArraySet = codes "array.set"
  instruction_text ArrayLen = codes "array.len"
  instruction_text ArrayFree = codes "array.free"
  instruction_text (ExistPack m q s t u) = in_parentheses (codes "exist.pack" ∷ mem_text m ∷ qual_text q ∷ decimal s ∷ type_text t ∷ type_text u ∷ [])
  instruction_text (ExistUnpack' sig m body) = block_text (codes "exist.unpack") sig (instruction_row_texts body)

  -- the instructions of a list within an instruction
  pub instruction_row_texts : {n : _} → Row_of-Instr n → List (List ℕ)
  instruction_row_texts end_of-Instr = []
  instruction_row_texts (more_of-Instr i is) = instruction_text i ∷ instruction_row_texts is

  -- the lists of all cases
  pub arm_row_texts : {n : _} → Row_of-Instr-VariantCase-1-1 n → List (List ℕ)
  arm_row_texts end_of-Instr-VariantCase-1-1 = []
  arm_row_texts (more_of-Instr-VariantCase-1-1 n arm arms) = in_parentheses (instruction_row_texts arm) ∷ arm_row_texts arms

-- the list of a case of a variant
abbrev pub arm_text : List Instr → List ℕ
arm_text arm = in_parentheses (map instruction_text arm)
