-- The binary of the program that prints 7 and gives 0, section by section, and that it spells the lowered module.
use Rattle.std.proofs.Common.{◌≡◌, ◌∙◌, ℕ, ◌^◌, List, [], ◌∷◌, ◌++◌, length, refl, ap, subst, lit<, lit≤}
use Rattle.std.specs.Prelude.{Bool, false, ◌==◌, if◌then◌else◌}
use Rattle.std.specs.List.{flat_map}
use Rattle.wasm_leb.specs.Leb.{unsigned_least, signed_least}
use Rattle.wasm_ast.specs.declared.instructions.WInstr as w
use Rattle.wasm_ast.specs.declared.instructions.WInstr.TheOpen.{WInstr-F}
use Rattle.wasm_ast.specs.declared.instructions.WInstr.TheVariants.{rolls-LocalGet, rolls-LocalSet, rolls-GlobalGet, rolls-GlobalSet, rolls-Call, rolls-I64Const, rolls-I32Const, rolls-Unreachable}
use Rattle.wasm_grammar.specs.CanonicalInstructions.{instruction_bytes}
use Rattle.wasm_grammar.specs.CanonicalModules.{section_bytes, section_of, start_section, preamble, type_content, import_content, function_content, table_content, memory_content, global_content, export_content, element_content, code_content, data_content, module_bytes}
use Rattle.wasm_grammar.specs.GrammarModules.{SpellsModule}
use Rattle.wasm_spelling.proofs.KnownInstructions.{known_bytes}
use Rattle.wasm_spelling.proofs.SpelledModules.{canonical_bytes_spell}
use Rattle.rich_typing.specs.Derivations.{done, next}
use Rattle.rich_typing.specs.Table.{unr_i64}
use Rattle.rw_program.specs.LonePrograms.{IsLoneProgram}
use Rattle.lowering_table.specs.Modules.{ArePages}
use Rattle.lower.specs.SevenRow.{seven_body, seven_notes, seven_program, seven_pages, seven_module, seven_types, seven_imports, seven_functions, seven_tables, seven_memories, seven_globals, seven_exports, seven_elements, seven_codes, seven_segments, seven_binary}
use Rattle.lower.proofs.Fitting.{low_is_in_profile}
use Rattle.lower.proofs.ShortContents.{low_has_short_contents}

i64-bytes : (n : ℕ) → instruction_bytes (w.I64Const n) ≡ 0x42 ∷ signed_least 10 (2 ^ 64) n
i64-bytes n = known_bytes (WInstr-F.I64Const n) (w.I64Const n) (rolls-I64Const n)

pub i32-bytes : (n : ℕ) → instruction_bytes (w.I32Const n) ≡ 0x41 ∷ signed_least 5 (2 ^ 32) n
i32-bytes n = known_bytes (WInstr-F.I32Const n) (w.I32Const n) (rolls-I32Const n)

get-bytes : (n : ℕ) → instruction_bytes (w.LocalGet n) ≡ 0x20 ∷ unsigned_least 5 n
get-bytes n = known_bytes (WInstr-F.LocalGet n) (w.LocalGet n) (rolls-LocalGet n)

set-bytes : (n : ℕ) → instruction_bytes (w.LocalSet n) ≡ 0x21 ∷ unsigned_least 5 n
set-bytes n = known_bytes (WInstr-F.LocalSet n) (w.LocalSet n) (rolls-LocalSet n)

read-bytes : (n : ℕ) → instruction_bytes (w.GlobalGet n) ≡ 0x23 ∷ unsigned_least 5 n
read-bytes n = known_bytes (WInstr-F.GlobalGet n) (w.GlobalGet n) (rolls-GlobalGet n)

pub write-bytes : (n : ℕ) → instruction_bytes (w.GlobalSet n) ≡ 0x24 ∷ unsigned_least 5 n
write-bytes n = known_bytes (WInstr-F.GlobalSet n) (w.GlobalSet n) (rolls-GlobalSet n)

call-bytes : (n : ℕ) → instruction_bytes (w.Call n) ≡ 0x10 ∷ unsigned_least 5 n
call-bytes n = known_bytes (WInstr-F.Call n) (w.Call n) (rolls-Call n)

pub unreachable-bytes : instruction_bytes w.Unreachable ≡ 0x00 ∷ []
unreachable-bytes = known_bytes WInstr-F.Unreachable w.Unreachable rolls-Unreachable

-- contents from the bytes of the instructions in them
abbrev globals_of : List ℕ → List ℕ → List ℕ → List ℕ
globals_of code address result =
    0x03 ∷ ((0x7F ∷ 0x01 ∷ (code ++ 0x0B ∷ [])) ++ ((0x7E ∷ 0x01 ∷ (address ++ 0x0B ∷ [])) ++ ((0x7E ∷ 0x01 ∷ (result ++ 0x0B ∷ [])) ++ [])))

abbrev elements_of : List ℕ → List ℕ
elements_of offset = 0x01 ∷ ((0x00 ∷ ((offset ++ 0x0B ∷ []) ++ (0x01 ∷ 0x04 ∷ []))) ++ [])

abbrev pub sized : List ℕ → List ℕ
sized function = unsigned_least 5 (length function) ++ function

abbrev codes_of : List ℕ → List ℕ → List ℕ → List ℕ
codes_of none body start =
    let unreached = sized (0x00 ∷ (none ++ 0x0B ∷ [])) in
    0x05 ∷ (unreached ++ (unreached ++ (unreached ++ (sized (0x01 ∷ 0x03 ∷ 0x7E ∷ (body ++ 0x0B ∷ [])) ++ (sized (0x01 ∷ 0x02 ∷ 0x7E ∷ (start ++ 0x0B ∷ [])) ++ [])))))

abbrev segments_of : List ℕ → List ℕ
segments_of offset =
    0x01 ∷ ((0x00 ∷ ((offset ++ 0x0B ∷ []) ++ (0x10 ∷ 0x18 ∷ 0x00 ∷ 0x00 ∷ 0x00 ∷ 0x00 ∷ 0x00 ∷ 0x00 ∷ 0x00 ∷ 0xFD ∷ 0xFF ∷ 0x01 ∷ 0x00 ∷ 0x00 ∷ 0x00 ∷ 0x00 ∷ 0x00 ∷ []))) ++ [])

-- the body of the linked function, and that of the exported main
abbrev body_bytes : List ℕ
body_bytes = 0x42 ∷ 0x07 ∷ 0x21 ∷ 0x00 ∷ 0x20 ∷ 0x00 ∷ 0x10 ∷ 0x00 ∷ 0x42 ∷ 0x00 ∷ 0x21 ∷ 0x00 ∷ 0x20 ∷ 0x00 ∷ 0x24 ∷ 0x02 ∷ []

body-bytes : flat_map instruction_bytes (w.I64Const 7 ∷ w.LocalSet 0 ∷ w.LocalGet 0 ∷ w.Call 0 ∷ w.I64Const 0 ∷ w.LocalSet 0 ∷ w.LocalGet 0 ∷ w.GlobalSet 2 ∷ []) ≡ body_bytes
body-bytes =
    λ i. i64-bytes 7 i ++ (set-bytes 0 i ++ (get-bytes 0 i ++ (call-bytes 0 i ++ (i64-bytes 0 i ++ (set-bytes 0 i ++ (get-bytes 0 i ++ (write-bytes 2 i ++ [])))))))

start-bytes : flat_map instruction_bytes (w.Call 4 ∷ w.GlobalGet 2 ∷ []) ≡ 0x10 ∷ 0x04 ∷ 0x23 ∷ 0x02 ∷ []
start-bytes = λ i. call-bytes 4 i ++ (read-bytes 2 i ++ [])

none-bytes : flat_map instruction_bytes (w.Unreachable ∷ []) ≡ 0x00 ∷ []
none-bytes = λ i. unreachable-bytes i ++ []

-- a section with entries
present : (id : ℕ) {X : Type 0} (xs : List X) (content : List ℕ) → (length xs == 0) ≡ false → section_of id xs content ≡ section_bytes id content
unfolding section_of
present id xs content some = ap (λ (none : Bool). if none then [] else section_bytes id content) some

absent : start_section seven_module.start ≡ []
unfolding start_section
absent = refl

types-bytes : section_of 1 seven_module.types (type_content seven_module) ≡ seven_types
types-bytes = present 1 _ (type_content seven_module) refl

imports-bytes : section_of 2 seven_module.imports (import_content seven_module) ≡ seven_imports
imports-bytes = present 2 _ (import_content seven_module) refl

functions-bytes : section_of 3 seven_module.funcs (function_content seven_module) ≡ seven_functions
functions-bytes = present 3 _ (function_content seven_module) refl

tables-bytes : section_of 4 seven_module.tables (table_content seven_module) ≡ seven_tables
tables-bytes = present 4 _ (table_content seven_module) refl

memories-bytes : section_of 5 seven_module.memories (memory_content seven_module) ≡ seven_memories
memories-bytes = present 5 _ (memory_content seven_module) refl

globals-bytes : section_of 6 seven_module.globals (global_content seven_module) ≡ seven_globals
globals-bytes =
    present 6 _ (global_content seven_module) refl ∙ (λ i. section_bytes 6 (globals_of (i32-bytes 0 i) (i64-bytes 1048576 i) (i64-bytes 0 i)))

exports-bytes : section_of 7 seven_module.exports (export_content seven_module) ≡ seven_exports
exports-bytes = present 7 _ (export_content seven_module) refl

elements-bytes : section_of 9 seven_module.elements (element_content seven_module) ≡ seven_elements
elements-bytes = present 9 _ (element_content seven_module) refl ∙ (λ i. section_bytes 9 (elements_of (i32-bytes 0 i)))

codes-bytes : section_of 10 seven_module.codes (code_content seven_module) ≡ seven_codes
codes-bytes = present 10 _ (code_content seven_module) refl ∙ (λ i. section_bytes 10 (codes_of (none-bytes i) (body-bytes i) (start-bytes i)))

segments-bytes : section_of 11 seven_module.segments (data_content seven_module) ≡ seven_segments
segments-bytes = present 11 _ (data_content seven_module) refl ∙ (λ i. section_bytes 11 (segments_of (i32-bytes 8 i)))

pub seven_binary-bytes : module_bytes seven_module ≡ seven_binary
seven_binary-bytes =
    λ i.
    preamble
    ++ (types-bytes i
    ++ (imports-bytes i
    ++ (functions-bytes i
    ++ (tables-bytes i
    ++ (memories-bytes i
    ++ (globals-bytes i
    ++ (exports-bytes i
    ++ (absent i
    ++ (elements-bytes i
    ++ (codes-bytes i
    ++ segments-bytes i))))))))))

seven_lone : IsLoneProgram seven_program
seven_lone = record {
  body = seven_body;
  notes = seven_notes;
  is = refl;
  plain = (lit< tt, (tt, (lit< tt, tt)));
  short = lit≤ tt;
  derived = next (unr_i64 ∷ []) _ refl refl (next [] _ refl refl (next (unr_i64 ∷ []) [] refl refl (done refl refl)));
}

seven_pages-are : ArePages seven_pages
seven_pages-are = record { some = lit≤ tt; linear = lit≤ tt; unrestricted = lit≤ tt }

pub seven_binary-spells : SpellsModule seven_binary seven_module
seven_binary-spells =
    subst (λ (bytes : List ℕ). SpellsModule bytes seven_module) seven_binary-bytes
    (canonical_bytes_spell seven_module (low_is_in_profile seven_program seven_pages seven_lone seven_pages-are)
    (low_has_short_contents seven_program seven_pages seven_lone seven_pages-are))
