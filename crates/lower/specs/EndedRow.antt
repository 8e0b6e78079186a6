-- The code entry of a function that gives one number and whose list is ended at once (this project's own row).
use Rattle.std.specs.Prelude.{◌≡◌, [], ◌∷◌}
use Rattle.wasm_grammar.specs.CanonicalModules.{code_bytes}
use Rattle.rw_types.specs.declared.instrs.Instr.{Unreachable}
use Rattle.rich_typing.specs.Table.{note_of}
use Rattle.rw_program.specs.declared.linked.LinkedFunc.{LinkedFunc}
use Rattle.rw_program.specs.LonePrograms.{lone_func}
use Rattle.lowering_table.specs.Codes.{low_function}

abbrev pub ended_func : LinkedFunc
ended_func = lone_func (Unreachable ∷ []) (note_of [] Unreachable [] ∷ [])

-- two scratch words, the trap code, and the trap
abbrev pub EndedEntry : Type 0
EndedEntry = code_bytes (low_function ended_func) ≡ 0x09 ∷ 0x01 ∷ 0x02 ∷ 0x7E ∷ 0x41 ∷ 0x03 ∷ 0x24 ∷ 0x00 ∷ 0x00 ∷ 0x0B ∷ []
