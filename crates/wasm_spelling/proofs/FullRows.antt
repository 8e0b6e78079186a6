-- The module with a section of each kind: its canonical bytes, section by section, and that they spell it, by the law.
use Rattle.std.proofs.Common.{◌≡◌, ◌∙◌, ℕ, ◌^◌, ◌<◌, ◌≤◌, List, [], ◌∷◌, ◌++◌, length, refl, sym, ap, subst, arith, lit<, lit≤, max}
use Rattle.std.specs.Prelude.{IsUtf8, ◌==◌, None}
use Rattle.std.specs.List.{flat_map}
use Rattle.std.proofs.lemmas.List.Elements.{All-cons, All-nil}
use Rattle.wasm_leb.specs.Leb.{unsigned_least}
use Rattle.wasm_ast.specs.declared.instructions.WInstr.{WInstr, If, IfElse, LocalGet, I32Const, I64Const, GlobalGet}
use Rattle.wasm_ast.specs.declared.instructions.WInstr.TheOpen.{WInstr-F}
use Rattle.wasm_ast.specs.declared.instructions.WInstr.TheVariants.{rolls-If, rolls-IfElse, rolls-LocalGet, rolls-I32Const, rolls-I64Const, rolls-GlobalGet}
use Rattle.wasm_grammar.specs.CanonicalInstructions.{instruction_bytes}
use Rattle.wasm_grammar.specs.CanonicalModules.{HasShortContents, section_bytes, section_of, start_section, preamble, type_content, import_content, function_content, table_content, memory_content, global_content, export_content, element_content, code_content, data_content, module_bytes}
use Rattle.wasm_grammar.specs.Nesting.{nesting, nesting_limit, NestsAtMost, ModuleNestsAtMost}
use Rattle.wasm_grammar.specs.ProfileInstructions.{ConstantFits, InstructionsFit, nested_fits, two_arms_fit, none_fit, more_fit}
use Rattle.wasm_grammar.specs.Profile.{CodeFits, IsInProfile}
use Rattle.wasm_grammar.specs.GrammarModules.{SpellsModule}
use Rattle.wasm_spelling.specs.FullModule.{no_values, imported_global, small_table, small_memory, counter, memory_export, function_element, two_ifs, two_bytes, full_module, full_types, full_imports, full_functions, full_tables, full_memories, full_globals, full_exports, full_start, full_elements, full_codes, full_segments, full_module_bytes}
use Rattle.wasm_spelling.proofs.KnownInstructions.{known_immediate, known_bytes, known_nesting, known_fits, known_constant, one, one_byte, no_byte, chosen}
use Rattle.wasm_spelling.proofs.SpelledModules.{canonical_bytes_spell}

local_get-bytes : (n : ℕ) → instruction_bytes (LocalGet n) ≡ 0x20 ∷ unsigned_least 5 n
local_get-bytes n = known_bytes (WInstr-F.LocalGet n) (LocalGet n) (rolls-LocalGet n)

if-bytes : instruction_bytes (If None []) ≡ 0x04 ∷ 0x40 ∷ 0x0B ∷ []
if-bytes = known_bytes (WInstr-F.If None []) (If None []) (rolls-If None [])

if_else-bytes : instruction_bytes (IfElse None [] []) ≡ 0x04 ∷ 0x40 ∷ 0x05 ∷ 0x0B ∷ []
if_else-bytes = known_bytes (WInstr-F.IfElse None [] []) (IfElse None [] []) (rolls-IfElse None [] [])

initial-bytes : instruction_bytes counter.init ≡ 0x42 ∷ 0x7F ∷ []
initial-bytes = known_bytes (WInstr-F.I64Const 0xFFFFFFFFFFFFFFFF) (I64Const 0xFFFFFFFFFFFFFFFF) (rolls-I64Const 0xFFFFFFFFFFFFFFFF)

place-bytes : instruction_bytes function_element.offset ≡ 0x23 ∷ 0x00 ∷ []
place-bytes = known_bytes (WInstr-F.GlobalGet 0) (GlobalGet 0) (rolls-GlobalGet 0)

address-bytes : instruction_bytes two_bytes.offset ≡ 0x41 ∷ 0xC0 ∷ 0x00 ∷ []
address-bytes = known_bytes (WInstr-F.I32Const 64) (I32Const 64) (rolls-I32Const 64)

body-bytes : flat_map instruction_bytes two_ifs.body ≡ 0x20 ∷ 0x00 ∷ 0x04 ∷ 0x40 ∷ 0x0B ∷ 0x20 ∷ 0x01 ∷ 0x04 ∷ 0x40 ∷ 0x05 ∷ 0x0B ∷ []
body-bytes =
    λ i. local_get-bytes 0 i ++ (if-bytes i ++ (local_get-bytes 1 i ++ (if_else-bytes i ++ [])))

-- contents from the bytes of the instructions in them
abbrev globals_of : List ℕ → List ℕ
globals_of initial = 0x01 ∷ ((0x7E ∷ 0x01 ∷ (initial ++ 0x0B ∷ [])) ++ [])

abbrev elements_of : List ℕ → List ℕ
elements_of offset = 0x01 ∷ ((0x00 ∷ ((offset ++ 0x0B ∷ []) ++ (0x01 ∷ 0x00 ∷ []))) ++ [])

abbrev codes_of : List ℕ → List ℕ
codes_of body =
    let function = 0x01 ∷ 0x02 ∷ 0x7F ∷ (body ++ 0x0B ∷ []) in
    0x01 ∷ ((unsigned_least 5 (length function) ++ function) ++ [])

abbrev segments_of : List ℕ → List ℕ
segments_of offset = 0x01 ∷ ((0x00 ∷ ((offset ++ 0x0B ∷ []) ++ (0x02 ∷ 0x2A ∷ 0xFF ∷ []))) ++ [])

-- a section of one entry
present : (id : ℕ) {X : Type 0} (x : X) (content : List ℕ) → section_of id (x ∷ []) content ≡ section_bytes id content
unfolding section_of
present id x content = refl

types-bytes : section_of 1 full_module.types (type_content full_module) ≡ full_types
types-bytes = present 1 no_values (type_content full_module)

imports-bytes : section_of 2 full_module.imports (import_content full_module) ≡ full_imports
imports-bytes = present 2 imported_global (import_content full_module)

functions-bytes : section_of 3 full_module.funcs (function_content full_module) ≡ full_functions
functions-bytes = present 3 0 (function_content full_module)

tables-bytes : section_of 4 full_module.tables (table_content full_module) ≡ full_tables
tables-bytes = present 4 small_table (table_content full_module)

memories-bytes : section_of 5 full_module.memories (memory_content full_module) ≡ full_memories
memories-bytes = present 5 small_memory (memory_content full_module)

globals-bytes : section_of 6 full_module.globals (global_content full_module) ≡ full_globals
globals-bytes =
    present 6 counter (global_content full_module) ∙ ap (λ (initial : List ℕ). section_bytes 6 (globals_of initial)) initial-bytes

exports-bytes : section_of 7 full_module.exports (export_content full_module) ≡ full_exports
exports-bytes = present 7 memory_export (export_content full_module)

start-bytes : start_section full_module.start ≡ full_start
unfolding start_section
start-bytes = refl

elements-bytes : section_of 9 full_module.elements (element_content full_module) ≡ full_elements
elements-bytes =
    present 9 function_element (element_content full_module) ∙ ap (λ (offset : List ℕ). section_bytes 9 (elements_of offset)) place-bytes

codes-bytes : section_of 10 full_module.codes (code_content full_module) ≡ full_codes
codes-bytes =
    present 10 two_ifs (code_content full_module) ∙ ap (λ (body : List ℕ). section_bytes 10 (codes_of body)) body-bytes

segments-bytes : section_of 11 full_module.segments (data_content full_module) ≡ full_segments
segments-bytes =
    present 11 two_bytes (data_content full_module) ∙ ap (λ (offset : List ℕ). section_bytes 11 (segments_of offset)) address-bytes

pub full_module-bytes : module_bytes full_module ≡ full_module_bytes
full_module-bytes =
    λ i.
    preamble
    ++ (types-bytes i
    ++ (imports-bytes i
    ++ (functions-bytes i
    ++ (tables-bytes i
    ++ (memories-bytes i
    ++ (globals-bytes i
    ++ (exports-bytes i
    ++ (start-bytes i
    ++ (elements-bytes i
    ++ (codes-bytes i
    ++ segments-bytes i))))))))))

-- the contents with instructions are short
globals-short : length (global_content full_module) < 2 ^ 32
globals-short = subst (λ (initial : List ℕ). length (globals_of initial) < 2 ^ 32) (sym initial-bytes) (lit< tt)

elements-short : length (element_content full_module) < 2 ^ 32
elements-short = subst (λ (offset : List ℕ). length (elements_of offset) < 2 ^ 32) (sym place-bytes) (lit< tt)

codes-short : length (code_content full_module) < 2 ^ 32
codes-short = subst (λ (body : List ℕ). length (codes_of body) < 2 ^ 32) (sym body-bytes) (lit< tt)

segments-short : length (data_content full_module) < 2 ^ 32
segments-short = subst (λ (offset : List ℕ). length (segments_of offset) < 2 ^ 32) (sym address-bytes) (lit< tt)

full_module-short : HasShortContents full_module
full_module-short id =
    chosen (id == 1) _ _ (lit< tt) (chosen (id == 2) _ _ (lit< tt) (chosen (id == 3) _ _ (lit< tt) (chosen (id == 4) _ _ (lit< tt)
    (chosen (id == 5) _ _ (lit< tt) (chosen (id == 6) _ _ globals-short (chosen (id == 7) _ _ (lit< tt) (chosen (id == 8) _ _ (lit< tt)
    (chosen (id == 9) _ _ elements-short (chosen (id == 10) _ _ codes-short (chosen (id == 11) _ _ segments-short (lit< tt)))))))))))

initial-fits : ConstantFits counter.init
initial-fits =
    let e = rolls-I64Const 0xFFFFFFFFFFFFFFFF in
    let x : WInstr-F WInstr = WInstr-F.I64Const 0xFFFFFFFFFFFFFFFF in
    (known_constant x counter.init e tt, known_fits x counter.init e (lit< tt))

place-fits : ConstantFits function_element.offset
place-fits =
    let x : WInstr-F WInstr = WInstr-F.GlobalGet 0 in
    (known_constant x (GlobalGet 0) (rolls-GlobalGet 0) tt, known_fits x (GlobalGet 0) (rolls-GlobalGet 0) (lit< tt))

address-fits : ConstantFits two_bytes.offset
address-fits =
    let x : WInstr-F WInstr = WInstr-F.I32Const 64 in
    (known_constant x (I32Const 64) (rolls-I32Const 64) tt, known_fits x (I32Const 64) (rolls-I32Const 64) (lit< tt))

body-fits : InstructionsFit two_ifs.body
body-fits =
    let first = known_fits (WInstr-F.LocalGet 0) (LocalGet 0) (rolls-LocalGet 0) (lit< tt) in
    let second = known_fits (WInstr-F.LocalGet 1) (LocalGet 1) (rolls-LocalGet 1) (lit< tt) in
    let one_arm = nested_fits None [] (known_immediate (WInstr-F.If None []) (If None []) (rolls-If None [])) (lit< tt) (none_fit refl) in
    let both = two_arms_fit None [] [] (known_immediate (WInstr-F.IfElse None [] []) (IfElse None [] []) (rolls-IfElse None [] [])) (lit< tt) (lit< tt) (none_fit refl) (none_fit refl) in
    more_fit (LocalGet 0) _ refl first (more_fit (If None []) _ refl one_arm (more_fit (LocalGet 1) _ refl second (more_fit (IfElse None [] []) [] refl both (none_fit refl))))

code-fits : CodeFits two_ifs
code-fits = record {
  locals = one _ _ (lit< tt);
  local_count = lit≤ tt;
  body_length = lit< tt;
  body = body-fits;
}

-- no more than one if is open at once
local_get-nesting : (n : ℕ) → nesting (LocalGet n) ≡ 0
local_get-nesting n = known_nesting (WInstr-F.LocalGet n) (LocalGet n) (rolls-LocalGet n)

if-nesting : nesting (If None []) ≡ 1
if-nesting = known_nesting (WInstr-F.If None []) (If None []) (rolls-If None [])

if_else-nesting : nesting (IfElse None [] []) ≡ 1
if_else-nesting = known_nesting (WInstr-F.IfElse None [] []) (IfElse None [] []) (rolls-IfElse None [] [])

initial-nesting : nesting counter.init ≡ 0
initial-nesting = known_nesting (WInstr-F.I64Const 0xFFFFFFFFFFFFFFFF) (I64Const 0xFFFFFFFFFFFFFFFF) (rolls-I64Const 0xFFFFFFFFFFFFFFFF)

place-nesting : nesting function_element.offset ≡ 0
place-nesting = known_nesting (WInstr-F.GlobalGet 0) (GlobalGet 0) (rolls-GlobalGet 0)

address-nesting : nesting two_bytes.offset ≡ 0
address-nesting = known_nesting (WInstr-F.I32Const 64) (I32Const 64) (rolls-I32Const 64)

body-shallow : NestsAtMost nesting_limit two_ifs.body
body-shallow =
    subst (λ (n : ℕ). n ≤ nesting_limit) (sym (λ i. max (local_get-nesting 0 i) (max (if-nesting i) (max (local_get-nesting 1 i) (max (if_else-nesting i) 0))))) (lit≤ tt)

at_most : (n : ℕ) → n ≡ 0 → n ≤ nesting_limit
at_most n e = omega arith

full_module-nesting : ModuleNestsAtMost nesting_limit full_module
full_module-nesting = record {
  codes = All-cons (λ c. NestsAtMost nesting_limit c.body) two_ifs [] body-shallow (All-nil _);
  globals = All-cons (λ g. nesting g.init ≤ nesting_limit) counter [] (at_most _ initial-nesting) (All-nil _);
  elements = All-cons (λ s. nesting s.offset ≤ nesting_limit) function_element [] (at_most _ place-nesting) (All-nil _);
  segments = All-cons (λ s. nesting s.offset ≤ nesting_limit) two_bytes [] (at_most _ address-nesting) (All-nil _);
}

a_utf8 : IsUtf8 (0x61 ∷ [])
unfolding lib.Utf8.encode
a_utf8 = (0x61 ∷ [], (refl, refl))

b_utf8 : IsUtf8 (0x62 ∷ [])
unfolding lib.Utf8.encode
b_utf8 = (0x62 ∷ [], (refl, refl))

m_utf8 : IsUtf8 (0x6D ∷ [])
unfolding lib.Utf8.encode
m_utf8 = (0x6D ∷ [], (refl, refl))

full_module-fits : IsInProfile full_module
full_module-fits = record {
  types = one _ no_values (lit< tt);
  imports = one _ imported_global ((a_utf8, lit< tt), (b_utf8, lit< tt), tt);
  funcs = one _ 0 (lit< tt);
  tables = one _ small_table (lit≤ tt, lit< tt);
  memories = one _ small_memory (lit≤ tt, tt);
  globals = one _ counter initial-fits;
  exports = one _ memory_export ((m_utf8, lit< tt), lit< tt);
  start = lit< tt;
  elements = one _ function_element (lit< tt, place-fits, one _ 0 (lit< tt));
  codes = one _ two_ifs code-fits;
  segments = one _ two_bytes (lit< tt, address-fits, record { short = lit< tt; each = one_byte 0x2A (0xFF ∷ []) (lit< tt) (one_byte 0xFF [] (lit< tt) no_byte) });
  counts = refl;
  nesting = full_module-nesting;
}

pub full_module-spelled : SpellsModule full_module_bytes full_module
full_module-spelled =
    subst (λ (bytes : List ℕ). SpellsModule bytes full_module) full_module-bytes (canonical_bytes_spell full_module full_module-fits full_module-short)
