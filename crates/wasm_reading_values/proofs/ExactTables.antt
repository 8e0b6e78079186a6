-- The tables of one-byte codes are read exactly: each value has its own byte, and no other byte gives it.
use Rattle.std.proofs.Common.{◌≡◌, ◌∙◌, ℕ, Bool, true, false, refl, ap, Option, Some, None, Result, Ok, Err}
use Rattle.std.specs.Prelude.{if◌then◌else◌, ◌||◌, ◌==◌}
use Rattle.std.proofs.lemmas.Bool.{eqb-true}
use Rattle.wasm_ast.specs.declared.types.ValTy.{ValTy}
use Rattle.wasm_ast.specs.declared.types.ValTy.TheVariants.{I32, I64}
use Rattle.wasm_ast.specs.declared.modules.ExportKind.{ExportKind}
use Rattle.wasm_ast.specs.declared.modules.ExportKind.TheVariants.{Func, Table, Memory, Global}
use Rattle.wasm_grammar.specs.Tags.{value_type, block_type, mutability, export_kind}
use Rattle.wasm_grammar.specs.GrammarValues.{IsByte}
use Rattle.wasm_grammar.specs.GrammarTypes.{IsValueType}
use Rattle.wasm_reading.specs.declared.fault.DecodeFault.{DecodeFault}
use Rattle.wasm_reading.specs.declared.fault.DecodeFault.TheVariants.{BadTag, FloatOutside}
use Rattle.wasm_reading.specs.ReadValues.{tag_at}
use Rattle.wasm_reading.specs.ReadTypes.{value_type_of, block_type_of, flag_of}
use Rattle.wasm_reading.specs.ReadModules.{external_kind_of}
use Rattle.wasm_reading_values.specs.Exactness.{Exact}
use Rattle.wasm_reading_values.proofs.ExactNumbers.{tag}

-- a row of a table: its byte has the value, and other bytes are looked up in the rest
row : {A : Type 0} (code : A → ℕ) (test : Bool) (b w : ℕ) (v a : A) (rest : Result A DecodeFault) → (b == w) ≡ test → w ≡ code v → (rest ≡ Ok a → b ≡ code a) → ◌≡◌ {A = Result A DecodeFault} (if test then Ok v else rest) (Ok a) → b ≡ code a
row code true b w v a rest h g k e = eqb-true b w h ∙ g ∙ ap code (cc)
row code false b w v a rest h g k e = k e

-- what no row has
no_row : {A : Type 0} (code : A → ℕ) (test : Bool) (b : ℕ) (a : A) (one other : DecodeFault) → ◌≡◌ {A = Result A DecodeFault} (if test then Err one else Err other) (Ok a) → b ≡ code a
no_row code true b a one other e = absurd (cc)
no_row code false b a one other e = absurd (cc)

value_type_gives : (t : ValTy) → value_type_of (value_type t) ≡ Ok t
value_type_gives I32 = refl
value_type_gives I64 = refl

-- a value type
pub value_type_byte : Exact (tag_at value_type_of) IsValueType
value_type_byte =
    tag value_type_of value_type value_type_gives (λ b t e.
    row value_type (b == 0x7F) b 0x7F I32 t _ refl refl
    (row value_type (b == 0x7E) b 0x7E I64 t _ refl refl
    (no_row value_type ((b == 0x7D) || (b == 0x7C)) b t FloatOutside BadTag)) e)

block_type_gives : (t : Option ValTy) → block_type_of (block_type t) ≡ Ok t
block_type_gives None = refl
block_type_gives (Some I32) = refl
block_type_gives (Some I64) = refl

-- the result type of a block
pub block_type_byte : Exact (tag_at block_type_of) (λ t bytes. IsByte (block_type t) bytes)
block_type_byte =
    tag block_type_of block_type block_type_gives (λ b t e.
    row block_type (b == 0x40) b 0x40 None t _ refl refl
    (row block_type (b == 0x7F) b 0x7F (Some I32) t _ refl refl
    (row block_type (b == 0x7E) b 0x7E (Some I64) t _ refl refl
    (no_row block_type ((b == 0x7D) || (b == 0x7C)) b t FloatOutside BadTag))) e)

flag_gives : (flag : Bool) → flag_of (mutability flag) ≡ Ok flag
flag_gives false = refl
flag_gives true = refl

-- yes or no
pub flag_byte : Exact (tag_at flag_of) (λ flag bytes. IsByte (mutability flag) bytes)
flag_byte =
    tag flag_of mutability flag_gives (λ b flag e.
    row mutability (b == 0x00) b 0x00 false flag _ refl refl
    (row mutability (b == 0x01) b 0x01 true flag _ refl refl (λ f. absurd (cc))) e)

external_kind_gives : (kind : ExportKind) → external_kind_of (export_kind kind) ≡ Ok kind
external_kind_gives Func = refl
external_kind_gives Table = refl
external_kind_gives Memory = refl
external_kind_gives Global = refl

-- the kind of an import or an export
pub external_kind_byte : Exact (tag_at external_kind_of) (λ kind bytes. IsByte (export_kind kind) bytes)
external_kind_byte =
    tag external_kind_of export_kind external_kind_gives (λ b kind e.
    row export_kind (b == 0x00) b 0x00 Func kind _ refl refl
    (row export_kind (b == 0x01) b 0x01 Table kind _ refl refl
    (row export_kind (b == 0x02) b 0x02 Memory kind _ refl refl
    (row export_kind (b == 0x03) b 0x03 Global kind _ refl refl (λ f. absurd (cc))))) e)
