-- What the answers of a link say of the files. This project's own.
use Rattle.std.specs.Prelude.{◌≡◌, ◌⊎◌, ℕ, List, [], ◌∷◌, Some}
use Rattle.rw_program.specs.Linking.{program_of}
use Rattle.rw_program.specs.Modules.{TypedModule}
use Rattle.rw_program.specs.Programs.{Program}
use Rattle.rw_link.specs.declared.error.LinkError.{LinkError}
use Rattle.rw_link.specs.declared.error.LinkError.TheVariants.{NoMain, Memory}

-- there is one file, of this name, and the program is that of the file
pub record LinksTo (files : List (List ℕ × TypedModule)) (program : Program) : Type 0 where
  pub name : List ℕ
  pub file : TypedModule
  pub one : files ≡ (name, file) ∷ []
  pub is : program_of file ≡ Some program

-- there is no `main`, or memory is wanting
abbrev pub IsNoMainOrMemory : LinkError → Type 0
IsNoMainOrMemory e = (e ≡ NoMain) ⊎ (e ≡ Memory)
