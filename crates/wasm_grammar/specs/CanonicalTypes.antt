-- The canonical bytes of vectors and types: each number in its least spelling
-- (WebAssembly Core Specification 1.0, sections 5.1.3 and 5.3).
use Rattle.std.specs.Prelude.{ℕ, List, [], ◌∷◌, ◌++◌, length, Option, Some, None}
use Rattle.std.specs.List.{flat_map}
use Rattle.wasm_leb.specs.Leb.{unsigned_least}
use Rattle.wasm_ast.specs.declared.types.ValTy.{ValTy}
use Rattle.wasm_ast.specs.declared.types.FuncType.{FuncType}
use Rattle.wasm_ast.specs.declared.types.Limits.{Limits}
use Rattle.wasm_grammar.specs.Tags.{value_type}

-- a vector: the count of its entries, and the entries
abbrev pub vector_bytes : {X : Type 0} → (X → List ℕ) → List X → List ℕ
vector_bytes entry xs = unsigned_least 5 (length xs) ++ flat_map entry xs

-- a vector of bytes, as a name is
abbrev pub byte_vector_bytes : List ℕ → List ℕ
byte_vector_bytes bytes = unsigned_least 5 (length bytes) ++ bytes

-- a value type
abbrev pub value_type_bytes : ValTy → List ℕ
value_type_bytes t = value_type t ∷ []

-- a vector of no result or of one
abbrev pub result_bytes : Option ValTy → List ℕ
result_bytes None = 0x00 ∷ []
result_bytes (Some t) = 0x01 ∷ value_type t ∷ []

-- a function type
abbrev pub func_type_bytes : FuncType → List ℕ
func_type_bytes f = 0x60 ∷ (vector_bytes value_type_bytes f.params ++ result_bytes f.result)

-- a least size, and a greatest where there is one
abbrev pub bounds_bytes : ℕ → Option ℕ → List ℕ
bounds_bytes least None = 0x00 ∷ unsigned_least 5 least
bounds_bytes least (Some most) = 0x01 ∷ (unsigned_least 5 least ++ unsigned_least 5 most)

-- limits, which are also the type of a memory
abbrev pub limits_bytes : Limits → List ℕ
limits_bytes l = bounds_bytes l.min l.max

-- the type of a table of functions
abbrev pub table_type_bytes : Limits → List ℕ
table_type_bytes l = 0x70 ∷ limits_bytes l
