-- Names in the middle (WebAssembly Core Specification 1.0, section 5.2.4); the states are this project's own.
use Rattle.std.specs.Prelude.{ℕ, ◌-◌, if◌then◌else◌, List, length}
use Rattle.std.specs.Str.{is_utf8}
use Rattle.wasm_reading.specs.declared.fault.DecodeFault.TheVariants.{BadUtf8}
use Rattle.wasm_reading.specs.Readers.{Reader, ◌>>=◌, give, fail, here, byte_at}
use Rattle.wasm_items.specs.declared.name.NameState.{NameState}
use Rattle.wasm_items.specs.Residuals.{WantsAByte}
use Rattle.wasm_items.specs.WantsBytes.{wants_then, wants_byte}
use Rattle.wasm_items.specs.Vectors.{rest_of_vector, wants_vector}

-- a name, or bytes that are none, of which the first stands at `place`
abbrev pub checked : ℕ → List ℕ → Reader (List ℕ)
checked place bytes = if is_utf8 bytes then give bytes else fail BadUtf8 place

-- the same where reading stands behind the bytes
abbrev pub checked_behind : List ℕ → Reader (List ℕ)
checked_behind bytes = do
  after ← here
  checked (after - length bytes) bytes

-- a name in the middle
abbrev pub rest_of_name : NameState → Reader (List ℕ)
rest_of_name name = rest_of_vector byte_at (λ _. byte_at) name.bytes >>= checked_behind

-- a name wants a byte
pub wants_name : (name : NameState) → WantsAByte (rest_of_name name)
wants_name name = wants_then checked_behind (wants_vector byte_at (λ _. byte_at) (λ _. wants_byte) name.bytes)
