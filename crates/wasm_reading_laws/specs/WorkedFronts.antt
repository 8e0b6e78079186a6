-- Two inputs that are written out, with the first fault of each of their fronts; this project's own rows.
use Rattle.std.specs.Prelude.{◌≡◌, ℕ, List, [], ◌∷◌, ◌++◌, Option, None, Some, Result, Ok, Err}
use Rattle.wasm_ast.specs.declared.modules.WModule.{WModule}
use Rattle.wasm_reading.specs.declared.fault.DecodeError.{DecodeError}
use Rattle.wasm_reading.specs.declared.fault.DecodeFault.{DecodeFault}
use Rattle.wasm_reading.specs.declared.fault.DecodeFault.TheVariants.{Truncated, BadLength, CountMismatch}
use Rattle.wasm_reading.specs.ReadModules.{reading_of}
use Rattle.wasm_reading.specs.WorkedReadings.{behind_preamble}

-- the first fault of what was read, where no module was
abbrev fault_in : Result WModule DecodeError → Option DecodeError
fault_in (Ok m) = None
fault_in (Err e) = Some e

-- the first faults of a front and of those that begin with it, byte by byte
abbrev pub faults_from : List ℕ → List ℕ → List (Option DecodeError)
faults_from front [] = fault_in (reading_of front) ∷ []
faults_from front (b ∷ bytes) = fault_in (reading_of front) ∷ faults_from (front ++ b ∷ []) bytes

-- a fault at a place
abbrev fault_at : ℕ → DecodeFault → Option DecodeError
fault_at place fault = Some (record { at = place; fault = fault })

-- fronts that end in the preamble, and a module of no section
abbrev in_preamble : List (Option DecodeError)
in_preamble =
    fault_at 0 Truncated ∷ fault_at 1 Truncated ∷ fault_at 2 Truncated ∷ fault_at 3 Truncated ∷ fault_at 4 Truncated ∷ fault_at 5 Truncated
    ∷ fault_at 6 Truncated ∷ fault_at 7 Truncated ∷ None ∷ []

-- a section of one type that declares more bytes than the type has: the front that ends behind the type decides
abbrev pub ContentStopsFront : Type 0
ContentStopsFront =
    faults_from [] (behind_preamble (0x01 ∷ 0x7F ∷ 0x01 ∷ 0x60 ∷ 0x00 ∷ 0x00 ∷ 0x00 ∷ []))
    ≡ in_preamble ++ (fault_at 9 Truncated ∷ fault_at 10 Truncated ∷ fault_at 11 Truncated ∷ fault_at 12 Truncated ∷ fault_at 13 Truncated ∷ fault_at 14 BadLength ∷ fault_at 14 BadLength ∷ [])

-- a function, and no code for it: the end of the function section is too early, and the front that ends behind the count of
-- codes decides
abbrev pub CountFront : Type 0
CountFront =
    faults_from [] (behind_preamble (0x03 ∷ 0x02 ∷ 0x01 ∷ 0x00 ∷ 0x0A ∷ 0x01 ∷ 0x00 ∷ []))
    ≡ in_preamble ++ (fault_at 9 Truncated ∷ fault_at 10 Truncated ∷ fault_at 11 Truncated ∷ fault_at 12 CountMismatch ∷ fault_at 13 Truncated ∷ fault_at 14 Truncated ∷ fault_at 14 CountMismatch ∷ [])
