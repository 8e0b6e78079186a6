-- Reading types (WebAssembly Core Specification 1.0, section 5.3), in the integer profile: other types are known and refused.
use Rattle.std.specs.Prelude.{ℕ, ◌==◌, ◌||◌, nat_lt, Bool, true, false, if◌then◌else◌, Option, None, Some, Result, Ok, Err}
use Rattle.wasm_ast.specs.declared.types.ValTy.{ValTy}
use Rattle.wasm_ast.specs.declared.types.ValTy.TheVariants.{I32, I64}
use Rattle.wasm_ast.specs.declared.types.FuncType.{FuncType}
use Rattle.wasm_ast.specs.declared.types.Limits.{Limits}
use Rattle.wasm_grammar.specs.Profile.{page_limit, entry_limit}
use Rattle.wasm_reading.specs.declared.fault.DecodeFault.{DecodeFault}
use Rattle.wasm_reading.specs.declared.fault.DecodeFault.TheVariants.{BadTag, FloatOutside, LimitOutside}
use Rattle.wasm_reading.specs.Readers.{Reader, ◌>>=◌, give, fail, here}
use Rattle.wasm_reading.specs.ReadValues.{tag_at, only, u32_at, vector_at}

-- the value type of a byte; the types of floating point are known
abbrev pub value_type_of : ℕ → Result ValTy DecodeFault
value_type_of b =
    if b == 0x7F then Ok I32
    else (if b == 0x7E then Ok I64
    else (if (b == 0x7D) || (b == 0x7C) then Err FloatOutside
    else Err BadTag))

-- the result type of a block, of a byte
abbrev pub block_type_of : ℕ → Result (Option ValTy) DecodeFault
block_type_of b =
    if b == 0x40 then Ok None
    else (if b == 0x7F then Ok (Some I32)
    else (if b == 0x7E then Ok (Some I64)
    else (if (b == 0x7D) || (b == 0x7C) then Err FloatOutside
    else Err BadTag)))

-- yes or no, of a byte: whether limits have a maximum, and whether a global may be written
abbrev pub flag_of : ℕ → Result Bool DecodeFault
flag_of b =
    if b == 0x00 then Ok false
    else (if b == 0x01 then Ok true
    else Err BadTag)

-- a number that is at most so much
abbrev pub at_most : ℕ → Reader ℕ
at_most most = do
  place ← here
  n ← u32_at
  if nat_lt most n then fail LimitOutside place else give n

-- a result type, where there is one
abbrev pub results_at : ℕ → Reader (Option ValTy)
results_at count = if count == 0 then give None else (do t ← tag_at value_type_of; give (Some t))

-- a function type: its parameters and its results, of which there is one at most
abbrev pub func_type_at : Reader FuncType
func_type_at = do
  _ ← tag_at (only 0x60)
  params ← vector_at (tag_at value_type_of)
  count ← at_most 1
  result ← results_at count
  give (record { params = params; result = result })

-- the maximum of limits, where there is one
abbrev pub maximum_at : Bool → Reader (Option ℕ)
maximum_at false = give None
maximum_at true = do n ← u32_at; give (Some n)

-- limits whose minimum is at most so much
abbrev pub limits_at : ℕ → Reader Limits
limits_at most = do
  has_maximum ← tag_at flag_of
  minimum ← at_most most
  maximum ← maximum_at has_maximum
  give (record { min = minimum; max = maximum })

-- a memory type: limits of its pages
abbrev pub memory_at : Reader Limits
memory_at = limits_at page_limit

-- a table type: functions, and limits
abbrev pub table_at : Reader Limits
table_at = do
  _ ← tag_at (only 0x70)
  limits_at entry_limit
