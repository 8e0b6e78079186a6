-- An instruction that was looked up by its opcode and immediates is what reading makes of them: by cases.
use Rattle.std.proofs.Common.{◌≡◌, ◌∙◌, ℕ, Option, Some, None, refl, ap, sym}
use Rattle.std.specs.Option.{option_map}
use Rattle.wasm_ast.specs.declared.instructions.WInstr.{WInstr, roll-WInstr}
use Rattle.wasm_ast.specs.declared.instructions.WInstr.TheOpen.{WInstr-F}
use Rattle.wasm_reading.specs.ReadInstructions.{made}
use Rattle.wasm_items.specs.ImmediateStates.{made_of}

made_of-option_map : (place : ℕ) (found : Option (WInstr-F WInstr)) → made place found ≡ made_of place (option_map roll-WInstr found)
made_of-option_map place (Some instruction) = refl
made_of-option_map place None = refl

pub made_found : (place : ℕ) (found : Option (WInstr-F WInstr)) {instruction : Option WInstr} → instruction ≡ option_map roll-WInstr found → made place found ≡ made_of place instruction
made_found place found e = made_of-option_map place found ∙ ap (made_of place) (sym e)
