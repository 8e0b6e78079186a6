-- What the forms in memory hold, and how they are told to fail; this project's own.
use Rattle.std.specs.Prelude.{ℕ, List, [], ◌∷◌, Vec, string_bytes}
use Rattle.std.specs.declared.alloc.Global.{Global}
use Rattle.std.specs.declared.option.Option.{Option}
use Rattle.std.specs.declared.option.Option.TheVariants.{None, Some}
use Rattle.std.specs.declared.string.String.{String}
use Rattle.rw_io.specs.Counts.{raised}
use Rattle.rw_io.specs.Files.{NamedFile}

abbrev pub Owned : Type 0
Owned = String Global × Vec ℕ Global

-- a name and its bytes
abbrev pub named : Owned → NamedFile
named file = (string_bytes file.0, file.1.items)

abbrev pub named_files : List Owned → List NamedFile
named_files [] = []
named_files (file ∷ files) = named file ∷ named_files files

-- what was created last, both empty where nothing was
abbrev pub created_last : Option Owned → NamedFile
created_last None = ([], [])
created_last (Some file) = named file

-- the numbers of the calls that are to fail, how many bytes of a piece are taken at most, and how many calls there were
pub record Plan : Type 0 where
  pub fails : List ℕ
  pub most : ℕ
  pub calls : ℕ

-- the plan after one more call
abbrev pub next_plan : Plan → Plan
next_plan plan = record { fails = plan.fails; most = plan.most; calls = raised plan.calls }
