-- A module in the middle of its bytes (WebAssembly Core Specification 1.0, section 5.5); the states are this project's own.
use Rattle.std.specs.Prelude.{◌≡◌, ℕ, ◌+◌, ◌-◌, ◌==◌, ◌⊎◌, if◌then◌else◌, List, [], ◌∷◌, length, drop, None, Result, Ok, Err}
use Rattle.wasm_ast.specs.declared.modules.WModule.{WModule}
use Rattle.wasm_grammar.specs.CanonicalModules.{preamble}
use Rattle.wasm_reading.specs.declared.fault.DecodeError.{DecodeError}
use Rattle.wasm_reading.specs.declared.fault.DecodeFault.TheVariants.{Truncated}
use Rattle.wasm_reading.specs.Readers.{Reader, ◌>>=◌, here, byte_at, each_at, within}
use Rattle.wasm_reading.specs.ReadModules.{preamble_at, sections_at, content_at}
use Rattle.wasm_items.specs.LebStates.{rest_of_leb}
use Rattle.wasm_items.specs.Residuals.{stop, no_memory}
use Rattle.wasm_decode.specs.declared.steps.Step.{Step}
use Rattle.wasm_decode.specs.declared.steps.Step.TheVariants as steps
use Rattle.wasm_contents.specs.Contents.{rest_of_content}

-- sections and the end of the input, behind those that stand in `m`, of which the last has the id `last`
abbrev pub sections_left : ℕ → WModule → Reader WModule
sections_left last m = λ input. sections_at (length input.rest) last m input

-- so many bytes of a custom section, and the sections behind them
abbrev pub custom_left : ℕ → ℕ → WModule → Reader WModule
custom_left n last m = do
  _ ← each_at byte_at n
  sections_left last m

-- the content of a section, which ends at `end`, and the sections behind it
abbrev pub content_left : ℕ → Reader WModule → ℕ → Reader WModule
content_left end content id = do
  m ← within end content
  sections_left id m

-- what stands behind the size of a section
abbrev pub sized_left : ℕ → ℕ → WModule → ℕ → Reader WModule
sized_left id last m size =
    if id == 0 then custom_left size last m
    else (do place ← here; content_left (place + size) (content_at id m) id)

-- what is still read, at the place `at`, where the last section had the id `last` and the module is `m` so far
abbrev pub rest_of_step : ℕ → ℕ → WModule → Step → Reader WModule
rest_of_step at last m (steps.Preamble k) = do _ ← preamble_at k (drop k preamble); sections_left last m
rest_of_step at last m steps.Between = sections_left last m
rest_of_step at last m (steps.Size id number) = do size ← rest_of_leb number; sized_left id last m size
rest_of_step at last m (steps.Custom behind) = custom_left (behind + 1) last m
rest_of_step at last m (steps.Content behind content) = content_left (at + (behind + 1)) (rest_of_content m content) last

-- Outside of any declared end, the reader `old` takes the byte `b` at the place `at` and reads on as `new`.
pub record TakesAtTop (old : Reader WModule) (b at : ℕ) (new : Reader WModule) : Type 0 where
  pub same : (bs : List ℕ) → old (record { at = at; end = None; rest = b ∷ bs }) ≡ new (record { at = at + 1; end = None; rest = bs })

-- the answer to a byte is what the residual `old` makes of it, or want of memory
abbrev pub Advances : Reader WModule → ℕ → ℕ → ℕ → WModule → Result Step DecodeError → Type 0
Advances old b at last m (Ok step) = TakesAtTop old b at (rest_of_step (at + 1) last m step)
Advances old b at last m (Err e) = (e ≡ no_memory) ⊎ TakesAtTop old b at (stop e)

-- the id of the last section behind the size of one
abbrev pub last_behind : ℕ → ℕ → ℕ
last_behind id last = if id == 0 then last else id

-- the answer at a place is what the residual `old` reads there, or want of memory
abbrev pub Enters : Reader WModule → ℕ → ℕ → WModule → Result Step DecodeError → Type 0
Enters old at last m (Ok step) = (bs : List ℕ) → old (record { at = at; end = None; rest = bs }) ≡ rest_of_step at last m step (record { at = at; end = None; rest = bs })
Enters old at last m (Err e) = (e ≡ no_memory) ⊎ ((bs : List ℕ) → old (record { at = at; end = None; rest = bs }) ≡ Err e)

-- what is read behind a byte of a custom section, before so many others
abbrev pub custom_step : ℕ → Step
custom_step behind = if behind == 0 then steps.Between else steps.Custom (behind - 1)

-- how many bytes of the content of a custom section are left
abbrev pub custom_bytes : Step → ℕ
custom_bytes (steps.Custom behind) = behind + 1
custom_bytes _ = 0

-- an input that ends at this place ends inside the preamble or a section
abbrev pub IsTruncated : Reader WModule → ℕ → Type 0
IsTruncated reader at = reader (record { at = at; end = None; rest = [] }) ≡ Err (record { at = at; fault = Truncated })
