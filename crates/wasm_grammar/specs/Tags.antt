-- The one-byte codes of types and kinds (WebAssembly Core Specification 1.0, sections 5.3, 5.5.5 and 5.5.10).
use Rattle.std.specs.Prelude.{ℕ, Bool, true, false, Option, Some, None}
use Rattle.wasm_ast.specs.declared.types.ValTy.{ValTy}
use Rattle.wasm_ast.specs.declared.types.ValTy.TheVariants.{I32, I64}
use Rattle.wasm_ast.specs.declared.modules.ExportKind.{ExportKind}
use Rattle.wasm_ast.specs.declared.modules.ExportKind.TheVariants.{Func, Table, Memory, Global}

-- a value type
abbrev pub value_type : ValTy → ℕ
value_type I32 = 0x7F
value_type I64 = 0x7E

-- the result type of a block
abbrev pub block_type : Option ValTy → ℕ
block_type None = 0x40
block_type (Some t) = value_type t

-- whether a global may be written
abbrev pub mutability : Bool → ℕ
mutability false = 0x00
mutability true = 0x01

-- what an export is
abbrev pub export_kind : ExportKind → ℕ
export_kind Func = 0x00
export_kind Table = 0x01
export_kind Memory = 0x02
export_kind Global = 0x03
