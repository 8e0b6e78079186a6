-- Limits, memory types and table types in the middle (WebAssembly Core Specification 1.0, sections 5.3.4 to 5.3.6).
use Rattle.std.specs.Prelude.{ℕ, Bool, Some}
use Rattle.wasm_ast.specs.declared.types.Limits as ast
use Rattle.wasm_grammar.specs.Profile.{entry_limit}
use Rattle.wasm_reading.specs.Readers.{Reader, ◌>>=◌, give}
use Rattle.wasm_reading.specs.ReadValues.{only}
use Rattle.wasm_reading.specs.ReadTypes.{flag_of, at_most, maximum_at, limits_at, table_at}
use Rattle.wasm_items.specs.declared.limits.LimitsState.{LimitsState}
use Rattle.wasm_items.specs.declared.limits.LimitsState.TheVariants.{Flag, Minimum, Maximum}
use Rattle.wasm_items.specs.declared.limits.TableState.{TableState}
use Rattle.wasm_items.specs.declared.limits.TableState.TheVariants.{EntryType, Limits}
use Rattle.wasm_items.specs.BoundedStates.{rest_of_bounded, wants_bounded}
use Rattle.wasm_items.specs.Residuals.{WantsAByte}
use Rattle.wasm_items.specs.WantsBytes.{wants_then, wants_leb, wants_tag}
use Rattle.wasm_items.specs.LebStates.{rest_of_leb}

-- what is read behind a minimum
abbrev pub behind_minimum : Bool → ℕ → Reader ast.Limits
behind_minimum has_maximum minimum = do
  maximum ← maximum_at has_maximum
  give (record { min = minimum; max = maximum })

-- limits in the middle
abbrev pub rest_of_limits : LimitsState → Reader ast.Limits
rest_of_limits (Flag most) = limits_at most
rest_of_limits (Minimum minimum has_maximum) = rest_of_bounded minimum >>= behind_minimum has_maximum
rest_of_limits (Maximum minimum number) = do
  n ← rest_of_leb number
  give (record { min = minimum; max = Some n })

-- limits want a byte
pub wants_limits : (state : LimitsState) → WantsAByte (rest_of_limits state)
wants_limits (Flag most) = wants_then (λ has_maximum. at_most most >>= behind_minimum has_maximum) (wants_tag flag_of)
wants_limits (Minimum minimum has_maximum) = wants_then (behind_minimum has_maximum) (wants_bounded minimum)
wants_limits (Maximum minimum number) = wants_then (λ n. give (record { min = minimum; max = Some n })) (wants_leb number)

-- a table type in the middle
abbrev pub rest_of_table : TableState → Reader ast.Limits
rest_of_table EntryType = table_at
rest_of_table (Limits limits) = rest_of_limits limits

-- a table type wants a byte
pub wants_table : (state : TableState) → WantsAByte (rest_of_table state)
wants_table EntryType = wants_then (λ _. limits_at entry_limit) (wants_tag (only 0x70))
wants_table (Limits limits) = wants_limits limits
