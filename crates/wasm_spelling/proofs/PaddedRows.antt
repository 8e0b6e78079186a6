-- A derivation by hand of the padded module, section by section, and the canonical one by the law.
use Rattle.std.proofs.Common.{◌≡◌, ℕ, ◌+◌, ◌^◌, ◌<◌, List, [], ◌∷◌, ◌++◌, length, inl, inr, refl, sym, ap, subst, arith, lit<, lit≤}
use Rattle.std.specs.Prelude.{All, IsUtf8, ◌==◌}
use Rattle.std.proofs.lemmas.List.Elements.{All-cons, All-nil}
use Rattle.wasm_leb.specs.Leb.{IsU32, IsS64, unsigned_least}
use Rattle.wasm_ast.specs.declared.instructions.WInstr.{WInstr, I64Const}
use Rattle.wasm_ast.specs.declared.instructions.WInstr.TheOpen.{WInstr-F}
use Rattle.wasm_ast.specs.declared.instructions.WInstr.TheVariants.{rolls-I64Const}
use Rattle.wasm_ast.specs.Opcodes.{opcode_of}
use Rattle.wasm_ast.specs.Immediates.{Immediate, Const64, immediate_of}
use Rattle.wasm_grammar.specs.Nesting.{nesting, nesting_limit, NestsAtMost, ModuleNestsAtMost}
use Rattle.wasm_grammar.specs.CanonicalInstructions.{instruction_bytes}
use Rattle.wasm_grammar.specs.CanonicalModules.{HasShortContents, code_content, preamble}
use Rattle.wasm_grammar.specs.WorkedModules.{six, six_module, six_module_bytes, main_export, gives_i64}
use Rattle.wasm_grammar.specs.ProfileInstructions.{none_fit, more_fit}
use Rattle.wasm_grammar.specs.Profile.{CodeFits, IsInProfile}
use Rattle.wasm_grammar.specs.GrammarValues.{IsRaw, IsUnsigned, IsVector}
use Rattle.wasm_grammar.specs.GrammarTypes.{IsFuncType}
use Rattle.wasm_grammar.specs.GrammarInstructions.{IsImmediate, IsInstruction, plain, none, more}
use Rattle.wasm_grammar.specs.GrammarModules.{IsSection, IsOptionalSection, AreCustomSections, IsExport, IsFunction, IsCode, IsModule, SpellsModule}
use Rattle.wasm_grammar.proofs.WorkedRows.{six_module-bytes}
use Rattle.wasm_spelling.specs.PaddedModule.{custom_x, padded_types, padded_functions, custom_abc, padded_exports, padded_codes, padded_module_bytes}
use Rattle.wasm_spelling.proofs.KnownInstructions.{known_opcode, known_immediate, known_bytes, known_nesting, known_fits, one, empty, one_byte, no_byte, chosen}
use Rattle.wasm_spelling.proofs.SpelledValues.{joined}
use Rattle.wasm_spelling.proofs.SpelledModules.{next, no_customs, canonical_bytes_spell}

six-opcode : opcode_of (I64Const 6) ≡ 0x42
six-opcode = known_opcode (WInstr-F.I64Const 6) (I64Const 6) (rolls-I64Const 6)

six-immediate : immediate_of (I64Const 6) ≡ Const64 6
six-immediate = known_immediate (WInstr-F.I64Const 6) (I64Const 6) (rolls-I64Const 6)

six-bytes : instruction_bytes (I64Const 6) ≡ 0x42 ∷ 0x06 ∷ []
six-bytes = known_bytes (WInstr-F.I64Const 6) (I64Const 6) (rolls-I64Const 6)

six-nesting : nesting (I64Const 6) ≡ 0
six-nesting = known_nesting (WInstr-F.I64Const 6) (I64Const 6) (rolls-I64Const 6)

six-fits : CodeFits six
six-fits = record {
  locals = empty _;
  local_count = lit≤ tt;
  body_length = omega arith;
  body = more_fit (I64Const 6) [] refl (known_fits (WInstr-F.I64Const 6) (I64Const 6) (rolls-I64Const 6) (lit< tt)) (none_fit refl);
}

six-shallow : NestsAtMost nesting_limit six.body
six-shallow = rw six-nesting (lit≤ tt)

six_module-nesting : ModuleNestsAtMost nesting_limit six_module
six_module-nesting = record {
  codes = All-cons (λ c. NestsAtMost nesting_limit c.body) six [] six-shallow (All-nil _);
  globals = All-nil _;
  elements = All-nil _;
  segments = All-nil _;
}

main_utf8 : IsUtf8 main_export.name
unfolding lib.Utf8.encode
main_utf8 = (0x6D ∷ 0x61 ∷ 0x69 ∷ 0x6E ∷ [], (refl, refl))

six_module-fits : IsInProfile six_module
six_module-fits = record {
  types = one _ gives_i64 (omega arith);
  imports = empty _;
  funcs = one _ 0 (lit< tt);
  tables = empty _;
  memories = empty _;
  globals = empty _;
  exports = one _ main_export ((main_utf8, omega arith), lit< tt);
  start = tt;
  elements = empty _;
  codes = one _ six six-fits;
  segments = empty _;
  counts = refl;
  nesting = six_module-nesting;
}

-- numbers below 128 in one byte, in two and in five, and a constant in three
short_u32 : (n : ℕ) → n < 128 → IsU32 (n ∷ []) n
short_u32 n h = inl ((h, omega arith, refl), refl)

wide_u32 : (n : ℕ) → n < 128 → IsU32 ((n + 128) ∷ 0 ∷ []) n
wide_u32 n h = inr (omega arith, omega arith, lit< tt, 0, omega arith, inl ((lit< tt, lit< tt, refl), refl))

widest_u32 : (n : ℕ) → n < 128 → IsU32 ((n + 128) ∷ 128 ∷ 128 ∷ 128 ∷ 0 ∷ []) n
widest_u32 n h =
    inr (
      omega arith,
      omega arith,
      lit< tt,
      0,
      omega arith,
      inr (
        lit≤ tt,
        lit< tt,
        lit< tt,
        0,
        refl,
        inr (
          lit≤ tt,
          lit< tt,
          lit< tt,
          0,
          refl,
          inr (lit≤ tt, lit< tt, lit< tt, 0, refl, inl ((lit< tt, lit< tt, refl), refl)),
        ),
      ),
    )

wide_s64 : (n : ℕ) → n < 128 → IsS64 ((n + 128) ∷ 128 ∷ 0 ∷ []) n
wide_s64 n h =
    inr (omega arith, omega arith, lit< tt, 0, omega arith, inr (lit≤ tt, lit< tt, lit< tt, 0, refl, inl (inl (lit< tt, lit< tt, refl), refl)))

section : (id : ℕ) (Content : List ℕ → Type 0) (size content : List ℕ) → IsU32 size (length content) → Content content → IsSection id Content (id ∷ (size ++ content))
section id Content size content p q =
    joined (id ∷ []) (size ++ content) refl (record { size = size; content = content; measured = p; spelled = q; whole = refl })

-- one custom section, whose bytes are below 128
customs : (size content : List ℕ) → IsU32 size (length content) → All (λ b. b < 256) content → AreCustomSections ((0 ∷ (size ++ content)) ++ [])
customs size content p h =
    (content ∷ [], joined (0 ∷ (size ++ content)) [] (section 0 (IsRaw content) size content p (h, refl)) refl)

types : IsSection 1 (IsVector IsFuncType six_module.types) padded_types
types =
    let no_parameter = joined (0x80 ∷ 0x00 ∷ []) [] (wide_u32 0 (lit< tt)) refl in
    let one_result = joined (0x01 ∷ []) (0x7E ∷ []) (short_u32 1 (lit< tt)) (joined (0x7E ∷ []) [] refl refl) in
    let entry : IsFuncType gives_i64 (0x60 ∷ 0x80 ∷ 0x00 ∷ 0x01 ∷ 0x7E ∷ []) = joined (0x60 ∷ []) (0x80 ∷ 0x00 ∷ 0x01 ∷ 0x7E ∷ []) refl (joined (0x80 ∷ 0x00 ∷ []) (0x01 ∷ 0x7E ∷ []) no_parameter one_result) in
    let content = joined (0x81 ∷ 0x00 ∷ []) _ (wide_u32 1 (lit< tt)) (joined _ [] entry refl) in
    section 1 (IsVector IsFuncType six_module.types) (0x87 ∷ 0x80 ∷ 0x80 ∷ 0x80 ∷ 0x00 ∷ []) (0x81 ∷ 0x00 ∷ 0x60 ∷ 0x80 ∷ 0x00 ∷ 0x01 ∷ 0x7E ∷ []) (widest_u32 7 (lit< tt)) content

functions : IsSection 3 (IsVector IsUnsigned six_module.funcs) padded_functions
functions =
    let entries = joined (0x80 ∷ 0x00 ∷ []) [] (wide_u32 0 (lit< tt)) refl in
    let content = joined (0x01 ∷ []) (0x80 ∷ 0x00 ∷ []) (short_u32 1 (lit< tt)) entries in
    section 3 (IsVector IsUnsigned six_module.funcs) (0x03 ∷ []) (0x01 ∷ 0x80 ∷ 0x00 ∷ []) (short_u32 3 (lit< tt)) content

main : IsExport main_export (0x84 ∷ 0x00 ∷ 0x6D ∷ 0x61 ∷ 0x69 ∷ 0x6E ∷ 0x00 ∷ 0x00 ∷ [])
main =
    let characters = joined (0x84 ∷ 0x00 ∷ []) main_export.name (wide_u32 4 (lit< tt)) refl in
    let function = joined (0x00 ∷ []) (0x00 ∷ []) refl (short_u32 0 (lit< tt)) in
    joined (0x84 ∷ 0x00 ∷ 0x6D ∷ 0x61 ∷ 0x69 ∷ 0x6E ∷ []) (0x00 ∷ 0x00 ∷ []) (main_utf8, characters) function

exports : IsSection 7 (IsVector IsExport six_module.exports) padded_exports
exports =
    let content = joined (0x01 ∷ []) _ (short_u32 1 (lit< tt)) (joined _ [] main refl) in
    section 7 (IsVector IsExport six_module.exports) (0x09 ∷ []) (0x01 ∷ 0x84 ∷ 0x00 ∷ 0x6D ∷ 0x61 ∷ 0x69 ∷ 0x6E ∷ 0x00 ∷ 0x00 ∷ []) (short_u32 9 (lit< tt)) content

instruction : IsInstruction (I64Const 6) (0x42 ∷ 0x86 ∷ 0x80 ∷ 0x00 ∷ [])
instruction =
    plain (0x86 ∷ 0x80 ∷ 0x00 ∷ []) (subst (λ (i : Immediate WInstr). IsImmediate i (0x86 ∷ 0x80 ∷ 0x00 ∷ [])) (sym six-immediate) (wide_s64 6 (lit< tt)))
    (ap (λ opcode. opcode ∷ 0x86 ∷ 0x80 ∷ 0x00 ∷ []) (sym six-opcode))

function : IsFunction six (0x00 ∷ 0x42 ∷ 0x86 ∷ 0x80 ∷ 0x00 ∷ 0x0B ∷ [])
function =
    let no_local = joined (0x00 ∷ []) [] (short_u32 0 (lit< tt)) refl in
    let instructions = more (I64Const 6) [] (0x42 ∷ 0x86 ∷ 0x80 ∷ 0x00 ∷ []) [] refl instruction (none refl refl) refl in
    joined (0x00 ∷ []) (0x42 ∷ 0x86 ∷ 0x80 ∷ 0x00 ∷ 0x0B ∷ []) no_local (joined (0x42 ∷ 0x86 ∷ 0x80 ∷ 0x00 ∷ []) (0x0B ∷ []) instructions refl)

code : IsCode six (0x86 ∷ 0x00 ∷ 0x00 ∷ 0x42 ∷ 0x86 ∷ 0x80 ∷ 0x00 ∷ 0x0B ∷ [])
code = record {
  size = 0x86 ∷ 0x00 ∷ [];
  content = 0x00 ∷ 0x42 ∷ 0x86 ∷ 0x80 ∷ 0x00 ∷ 0x0B ∷ [];
  measured = wide_u32 6 (lit< tt);
  spelled = function;
  whole = refl;
}

codes : IsSection 10 (IsVector IsCode six_module.codes) padded_codes
codes =
    let content = joined (0x01 ∷ []) _ (short_u32 1 (lit< tt)) (joined _ [] code refl) in
    section 10 (IsVector IsCode six_module.codes) (0x89 ∷ 0x00 ∷ []) (0x01 ∷ 0x86 ∷ 0x00 ∷ 0x00 ∷ 0x42 ∷ 0x86 ∷ 0x80 ∷ 0x00 ∷ 0x0B ∷ []) (wide_u32 9 (lit< tt)) content

bytes_of_x : All (λ b. b < 256) (0x01 ∷ 0x78 ∷ [])
bytes_of_x = one_byte 0x01 (0x78 ∷ []) (lit< tt) (one_byte 0x78 [] (lit< tt) no_byte)

bytes_of_abc : All (λ b. b < 256) (0x03 ∷ 0x61 ∷ 0x62 ∷ 0x63 ∷ [])
bytes_of_abc =
    one_byte 0x03 (0x61 ∷ 0x62 ∷ 0x63 ∷ []) (lit< tt)
    (one_byte 0x61 (0x62 ∷ 0x63 ∷ []) (lit< tt) (one_byte 0x62 (0x63 ∷ []) (lit< tt) (one_byte 0x63 [] (lit< tt) no_byte)))

first_custom : AreCustomSections custom_x
first_custom = customs (0x82 ∷ 0x00 ∷ []) (0x01 ∷ 0x78 ∷ []) (wide_u32 2 (lit< tt)) bytes_of_x

second_custom : AreCustomSections custom_abc
second_custom = customs (0x04 ∷ []) (0x03 ∷ 0x61 ∷ 0x62 ∷ 0x63 ∷ []) (short_u32 4 (lit< tt)) bytes_of_abc

-- a section that is left out
absent : {id : ℕ} {Content : List ℕ → Type 0} {Nothing : Type 0} → Nothing → IsOptionalSection id Content Nothing []
absent h = inr (h, refl)

padded-productions : IsModule six_module padded_module_bytes
padded-productions =
    joined preamble _ refl
    (joined custom_x _ first_custom (joined padded_types _ (inl types)
    (next [] _ (absent refl)
    (next padded_functions _ (inl functions)
    (joined custom_abc _ second_custom (joined [] _ (absent refl)
    (next [] _ (absent refl)
    (next [] _ (absent refl)
    (next padded_exports _ (inl exports)
    (next [] _ (absent refl)
    (next [] _ (absent refl)
    (next padded_codes _ (inl codes)
    (next [] [] (absent refl) no_customs)))))))))))))

pub padded-spells : SpellsModule padded_module_bytes six_module
padded-spells = record { profile = six_module-fits; productions = padded-productions; counts = refl }

-- the content of the code section, of which `body` is the only instruction
abbrev codes_of : List ℕ → List ℕ
codes_of body =
    let function = 0x00 ∷ ((body ++ []) ++ 0x0B ∷ []) in
    0x01 ∷ ((unsigned_least 5 (length function) ++ function) ++ [])

codes-short : length (code_content six_module) < 2 ^ 32
codes-short = subst (λ (body : List ℕ). length (codes_of body) < 2 ^ 32) (sym six-bytes) (lit< tt)

six_module-short : HasShortContents six_module
six_module-short id =
    chosen (id == 1) _ _ (lit< tt) (chosen (id == 2) _ _ (lit< tt) (chosen (id == 3) _ _ (lit< tt) (chosen (id == 4) _ _ (lit< tt)
    (chosen (id == 5) _ _ (lit< tt) (chosen (id == 6) _ _ (lit< tt) (chosen (id == 7) _ _ (lit< tt) (chosen (id == 8) _ _ (lit< tt)
    (chosen (id == 9) _ _ (lit< tt) (chosen (id == 10) _ _ codes-short (chosen (id == 11) _ _ (lit< tt) (lit< tt)))))))))))

pub canonical-spells : SpellsModule six_module_bytes six_module
canonical-spells =
    subst (λ (bytes : List ℕ). SpellsModule bytes six_module) six_module-bytes (canonical_bytes_spell six_module six_module-fits six_module-short)
