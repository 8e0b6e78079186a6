-- The readers of types read exactly what the grammar spells, within the profile (WebAssembly Core Specification 1.0,
-- sections 5.3, 5.5.5 and 5.5.10).
use Rattle.std.specs.Prelude.{ℕ}
use Rattle.wasm_grammar.specs.Tags.{block_type, mutability, export_kind}
use Rattle.wasm_grammar.specs.Profile.{page_limit, entry_limit, FuncTypeFits, LimitsFit}
use Rattle.wasm_grammar.specs.GrammarValues.{IsByte}
use Rattle.wasm_grammar.specs.GrammarTypes.{IsValueType, IsFuncType, IsLimits, IsTableType}
use Rattle.wasm_reading.specs.ReadValues.{tag_at}
use Rattle.wasm_reading.specs.ReadTypes.{value_type_of, block_type_of, flag_of, func_type_at, limits_at, memory_at, table_at}
use Rattle.wasm_reading.specs.ReadModules.{external_kind_of}
use Rattle.wasm_reading_values.specs.Exactness.{Exact}

-- value types
abbrev pub ValueTypesReadExactly : Type 0
ValueTypesReadExactly = Exact (tag_at value_type_of) IsValueType

-- result types of blocks
abbrev pub BlockTypesReadExactly : Type 0
BlockTypesReadExactly = Exact (tag_at block_type_of) (λ t bytes. IsByte (block_type t) bytes)

-- whether a global may be written
abbrev pub FlagsReadExactly : Type 0
FlagsReadExactly = Exact (tag_at flag_of) (λ flag bytes. IsByte (mutability flag) bytes)

-- kinds of imports and exports
abbrev pub KindsReadExactly : Type 0
KindsReadExactly = Exact (tag_at external_kind_of) (λ kind bytes. IsByte (export_kind kind) bytes)

-- function types
abbrev pub FuncTypesReadExactly : Type 0
FuncTypesReadExactly = Exact func_type_at (λ f bytes. FuncTypeFits f × IsFuncType f bytes)

-- limits whose minimum is at most so much
abbrev pub LimitsReadExactly : Type 0
LimitsReadExactly = (most : ℕ) → Exact (limits_at most) (λ l bytes. LimitsFit most l × IsLimits l bytes)

-- memory types
abbrev pub MemoryTypesReadExactly : Type 0
MemoryTypesReadExactly = Exact memory_at (λ l bytes. LimitsFit page_limit l × IsLimits l bytes)

-- table types
abbrev pub TableTypesReadExactly : Type 0
TableTypesReadExactly = Exact table_at (λ l bytes. LimitsFit entry_limit l × IsTableType l bytes)
