-- What an answer about the entries of sections tells (this project's own).
use Rattle.std.specs.Prelude.{◌≡◌, Option, Some, None, Result, Ok, Err, ⊤}
use Rattle.wasm_typing.specs.Modules.{Fault}
use Rattle.wasm_fields.specs.declared.error.FieldError.{FieldError}
use Rattle.wasm_fields.specs.declared.error.FieldError.TheVariants.{Invalid, Memory}

-- whether there is a first fault, and which; want of memory alone tells nothing
abbrev pub Tells : Option Fault → Result ⊤ FieldError → Type 0
Tells first (Ok _) = first ≡ None
Tells first (Err (Invalid at rule)) = first ≡ Some (record { at = at; rule = rule })
Tells first (Err Memory) = Unit {0}
