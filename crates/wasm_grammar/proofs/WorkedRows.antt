-- The two worked modules, section by section: each section is computed, and the module joins them.
use Rattle.std.proofs.Common.{◌≡◌, ◌∙◌, ℕ, List, [], ◌∷◌, ◌++◌, length, refl, sym, ap}
use Rattle.wasm_leb.specs.Leb.{unsigned_least}
use Rattle.wasm_ast.specs.declared.instructions.WInstr.{I64Const}
use Rattle.wasm_ast.specs.declared.instructions.WInstr.TheOpen.{WInstr-F}
use Rattle.wasm_ast.specs.declared.instructions.WInstr.TheVariants.{rolls-I64Const}
use Rattle.wasm_grammar.proofs.InstructionLayers.{instruction_bytes-roll}
use Rattle.wasm_grammar.specs.CanonicalInstructions.{instruction_bytes}
use Rattle.wasm_grammar.specs.CanonicalModules.{section_bytes, section_of, start_section, module_bytes, function_bytes, code_bytes, type_content, function_content, export_content, code_content}
use Rattle.wasm_grammar.specs.WorkedModules.{empty_module, empty_module_bytes, six, six_module, six_module_bytes}

pub empty_module-bytes : module_bytes empty_module ≡ empty_module_bytes
unfolding section_of start_section
empty_module-bytes = refl

six-instruction : instruction_bytes (I64Const 6) ≡ 0x42 ∷ 0x06 ∷ []
six-instruction = ap instruction_bytes (sym (rolls-I64Const 6)) ∙ instruction_bytes-roll (WInstr-F.I64Const 6)

six-function : function_bytes six ≡ 0x00 ∷ 0x42 ∷ 0x06 ∷ 0x0B ∷ []
six-function = ap (λ bytes. 0x00 ∷ ((bytes ++ []) ++ 0x0B ∷ [])) six-instruction

six-code : code_bytes six ≡ 0x04 ∷ 0x00 ∷ 0x42 ∷ 0x06 ∷ 0x0B ∷ []
six-code = ap (λ bytes. unsigned_least 5 (length bytes) ++ bytes) six-function

abbrev type_section : List ℕ
type_section = 0x01 ∷ 0x05 ∷ 0x01 ∷ 0x60 ∷ 0x00 ∷ 0x01 ∷ 0x7E ∷ []

abbrev function_section : List ℕ
function_section = 0x03 ∷ 0x02 ∷ 0x01 ∷ 0x00 ∷ []

abbrev export_section : List ℕ
export_section = 0x07 ∷ 0x08 ∷ 0x01 ∷ 0x04 ∷ 0x6D ∷ 0x61 ∷ 0x69 ∷ 0x6E ∷ 0x00 ∷ 0x00 ∷ []

abbrev code_section : List ℕ
code_section = 0x0A ∷ 0x06 ∷ 0x01 ∷ 0x04 ∷ 0x00 ∷ 0x42 ∷ 0x06 ∷ 0x0B ∷ []

six-types : section_of 1 six_module.types (type_content six_module) ≡ type_section
unfolding section_of
six-types = refl

six-functions : section_of 3 six_module.funcs (function_content six_module) ≡ function_section
unfolding section_of
six-functions = refl

six-exports : section_of 7 six_module.exports (export_content six_module) ≡ export_section
unfolding section_of
six-exports = refl

six-codes : section_of 10 six_module.codes (code_content six_module) ≡ code_section
unfolding section_of
six-codes = ap (λ code. section_bytes 10 (0x01 ∷ (code ++ []))) six-code

no_section : (id : ℕ) (X : Type 0) (content : List ℕ) → section_of id {X = X} [] content ≡ []
unfolding section_of
no_section id X content = refl

no_start : start_section six_module.start ≡ []
unfolding start_section
no_start = refl

pub six_module-bytes : module_bytes six_module ≡ six_module_bytes
six_module-bytes = simp (six-types, six-functions, six-exports, six-codes, no_section, no_start) refl
