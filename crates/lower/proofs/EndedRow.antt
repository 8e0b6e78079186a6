-- The code entry of a function whose list is ended at once, instruction by instruction.
use Rattle.std.proofs.Common.{◌≡◌, [], ◌∷◌, ◌++◌}
use Rattle.std.specs.List.{flat_map}
use Rattle.wasm_ast.specs.declared.instructions.WInstr as w
use Rattle.wasm_grammar.specs.CanonicalInstructions.{instruction_bytes}
use Rattle.lower.specs.EndedRow.{EndedEntry}
use Rattle.lower.proofs.SevenRow.{i32-bytes, sized, unreachable-bytes, write-bytes}

ended-bytes : flat_map instruction_bytes (w.I32Const 3 ∷ w.GlobalSet 0 ∷ w.Unreachable ∷ []) ≡ 0x41 ∷ 0x03 ∷ 0x24 ∷ 0x00 ∷ 0x00 ∷ []
ended-bytes = λ i. i32-bytes 3 i ++ (write-bytes 0 i ++ (unreachable-bytes i ++ []))

pub ended-entry : EndedEntry
ended-entry = λ i. sized (0x01 ∷ 0x02 ∷ 0x7E ∷ (ended-bytes i ++ 0x0B ∷ []))
