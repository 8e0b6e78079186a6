-- Pieces of bytes that a shelf or a sink takes; this project's own.
use Rattle.std.specs.Prelude.{ℕ, List, ◌++◌}
use Rattle.std.specs.declared.result.Result.{Result}
use Rattle.std.specs.declared.result.Result.TheVariants.{Ok, Err}
use Rattle.std.specs.declared.option.Option.{Option}
use Rattle.std.specs.Option.{option_map}
use Rattle.rw_io.specs.declared.error.PutError.{PutError}
use Rattle.rw_io.specs.Files.{NamedFile}

-- what a put or an append answers: how many bytes it took, or an error
abbrev pub Answer : Type 0
Answer = Result ℕ PutError

-- how many bytes a call took
abbrev pub taken : {E : Type 0} → Result ℕ E → ℕ
taken (Ok count) = count
taken (Err _) = 0

-- a file with further bytes at its end, where it is told
abbrev pub append_created : Option NamedFile → List ℕ → Option NamedFile
append_created created piece = option_map (λ file. (file.0, file.1 ++ piece)) created
