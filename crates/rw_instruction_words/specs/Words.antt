-- The instructions that are one word, and the words with which the others begin (this project's own).
use Rattle.std.specs.Prelude.{ℕ, List, codes}
use Rattle.rw_types.specs.declared.instrs.Instr.{Instr}
use Rattle.rw_types.specs.declared.instrs.Instr as instr
use Rattle.rw_instruction_words.specs.declared.tables.BlockHead.{BlockHead}
use Rattle.rw_instruction_words.specs.declared.tables.BlockHead.TheVariants as block
use Rattle.rw_instruction_words.specs.declared.tables.IndexHead.{IndexHead}
use Rattle.rw_instruction_words.specs.declared.tables.IndexHead.TheVariants as index
use Rattle.rw_instruction_words.specs.declared.tables.InstructionHead.{InstructionHead}
use Rattle.rw_instruction_words.specs.declared.tables.InstructionHead.TheVariants.{Block, Index, Plain}
use Rattle.rw_instruction_words.specs.declared.tables.PlainHead.{PlainHead}
use Rattle.rw_instruction_words.specs.declared.tables.PlainHead.TheVariants as plain
use Rattle.rw_instruction_words.specs.declared.tables.WordInstruction.{WordInstruction}
use Rattle.rw_instruction_words.specs.declared.tables.WordInstruction.TheVariants as word

-- the instruction that is one word
abbrev pub instruction_of_word : WordInstruction → Instr
instruction_of_word word.Nop = instr.Nop
instruction_of_word word.Unreachable = instr.Unreachable
instruction_of_word word.Drop = instr.Drop
instruction_of_word word.Unit = instr.Unit
instruction_of_word word.Print = instr.Print
instruction_of_word word.Return = instr.Return
instruction_of_word word.CallIndirect = instr.CallIndirect
instruction_of_word word.Qualify = instr.Qualify
instruction_of_word word.RecUnfold = instr.RecUnfold
instruction_of_word word.Ungroup = instr.Ungroup
instruction_of_word word.RefSplit = instr.RefSplit
instruction_of_word word.RefJoin = instr.RefJoin
instruction_of_word word.CapSplit = instr.CapSplit
instruction_of_word word.CapJoin = instr.CapJoin
instruction_of_word word.StructFree = instr.StructFree
instruction_of_word word.ArrayGet = instr.ArrayGet
instruction_of_word word.ArraySet = instr.ArraySet
instruction_of_word word.ArrayLen = instr.ArrayLen
instruction_of_word word.ArrayFree = instr.ArrayFree
instruction_of_word (word.Num n) = instr.Num n

-- the words with which instructions begin whose one immediate is a number without a sign
abbrev pub index_word : IndexHead → List ℕ
index_word index.Br = codes "br"
index_word index.BrIf = codes "br_if"
index_word index.LocalGet = codes "local.get"
index_word index.LocalTake = codes "local.take"
index_word index.LocalSet = codes "local.set"
index_word index.GlobalGet = codes "global.get"
index_word index.GlobalSet = codes "global.set"
index_word index.Coderef = codes "coderef"
index_word index.StructGet = codes "struct.get"
index_word index.StructSet = codes "struct.set"
index_word index.StructSwap = codes "struct.swap"

-- those of the other instructions that hold no instructions
abbrev pub plain_word : PlainHead → List ℕ
plain_word plain.I32Const = codes "i32.const"
plain_word plain.I64Const = codes "i64.const"
plain_word plain.Inst = codes "inst"
plain_word plain.Call = codes "call"
plain_word plain.RecFold = codes "rec.fold"
plain_word plain.Group = codes "group"
plain_word plain.MemPack = codes "mem.pack"
plain_word plain.StructMalloc = codes "struct.malloc"
plain_word plain.VariantMalloc = codes "variant.malloc"
plain_word plain.ArrayMalloc = codes "array.malloc"
plain_word plain.ExistPack = codes "exist.pack"

-- those of instructions that hold instructions
abbrev pub block_word : BlockHead → List ℕ
block_word block.Block = codes "block"
block_word block.Loop = codes "loop"
block_word block.If = codes "if"
block_word block.MemUnpack = codes "mem.unpack"
block_word block.VariantCase = codes "variant.case"
block_word block.ExistUnpack = codes "exist.unpack"

-- the word with which an instruction begins
abbrev pub head_word : InstructionHead → List ℕ
head_word (Index h) = index_word h
head_word (Plain h) = plain_word h
head_word (Block h) = block_word h
