-- The instructions whose one immediate is a number without a sign (this project's own).
use Rattle.std.specs.Prelude.{ℕ}
use Rattle.rw_types.specs.declared.instrs.Instr.{Instr}
use Rattle.rw_types.specs.declared.instrs.Instr as instr
use Rattle.rw_instruction_words.specs.declared.tables.IndexHead.{IndexHead}
use Rattle.rw_instruction_words.specs.declared.tables.IndexHead.TheVariants as index

abbrev pub index_instruction : IndexHead → ℕ → Instr
index_instruction index.Br i = instr.Br i
index_instruction index.BrIf i = instr.BrIf i
index_instruction index.LocalGet i = instr.LocalGet i
index_instruction index.LocalTake i = instr.LocalTake i
index_instruction index.LocalSet i = instr.LocalSet i
index_instruction index.GlobalGet i = instr.GlobalGet i
index_instruction index.GlobalSet i = instr.GlobalSet i
index_instruction index.Coderef i = instr.Coderef i
index_instruction index.StructGet i = instr.StructGet i
index_instruction index.StructSet i = instr.StructSet i
index_instruction index.StructSwap i = instr.StructSwap i
