-- The module whose `main` gives 6, with numbers that are longer than they need to be and with two custom sections
-- (this project's own row; WebAssembly Core Specification 1.0, sections 5.2.2 and 5.5).
use Rattle.std.specs.Prelude.{ℕ, List, [], ◌∷◌, ◌++◌}
use Rattle.wasm_grammar.specs.WorkedModules.{empty_module_bytes}

-- a custom section named `x`, its size 2 in two bytes
abbrev pub custom_x : List ℕ
custom_x = 0x00 ∷ 0x82 ∷ 0x00 ∷ 0x01 ∷ 0x78 ∷ []

-- the type section, its size 7 in five bytes, its count 1 and the count of parameters 0 in two
abbrev pub padded_types : List ℕ
padded_types = 0x01 ∷ 0x87 ∷ 0x80 ∷ 0x80 ∷ 0x80 ∷ 0x00 ∷ 0x81 ∷ 0x00 ∷ 0x60 ∷ 0x80 ∷ 0x00 ∷ 0x01 ∷ 0x7E ∷ []

-- the function section, the type index 0 in two bytes
abbrev pub padded_functions : List ℕ
padded_functions = 0x03 ∷ 0x03 ∷ 0x01 ∷ 0x80 ∷ 0x00 ∷ []

-- a custom section named `abc`
abbrev pub custom_abc : List ℕ
custom_abc = 0x00 ∷ 0x04 ∷ 0x03 ∷ 0x61 ∷ 0x62 ∷ 0x63 ∷ []

-- the export section, the length 4 of `main` in two bytes
abbrev pub padded_exports : List ℕ
padded_exports = 0x07 ∷ 0x09 ∷ 0x01 ∷ 0x84 ∷ 0x00 ∷ 0x6D ∷ 0x61 ∷ 0x69 ∷ 0x6E ∷ 0x00 ∷ 0x00 ∷ []

-- the code section, its size 9 and the function's size 6 in two bytes each, and the constant 6 in three
abbrev pub padded_codes : List ℕ
padded_codes = 0x0A ∷ 0x89 ∷ 0x00 ∷ 0x01 ∷ 0x86 ∷ 0x00 ∷ 0x00 ∷ 0x42 ∷ 0x86 ∷ 0x80 ∷ 0x00 ∷ 0x0B ∷ []

-- the whole module
abbrev pub padded_module_bytes : List ℕ
padded_module_bytes =
    empty_module_bytes ++ (custom_x ++ (padded_types ++ (padded_functions ++ (custom_abc ++ (padded_exports ++ padded_codes)))))
