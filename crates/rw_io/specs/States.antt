-- What a shelf and a sink are, as far as they tell; this project's own.
use Rattle.std.specs.Prelude.{◌≡◌, ℕ, ◌≤◌, ◌<◌, Bool, true, List, [], length, ⊤, Vec}
use Rattle.std.specs.declared.alloc.Global.{Global}
use Rattle.std.specs.declared.option.Option.{Option}
use Rattle.std.specs.declared.option.Option.TheVariants.{None, Some}
use Rattle.std.specs.declared.result.Result.{Result}
use Rattle.std.specs.declared.result.Result.TheVariants.{Ok, Err}
use Rattle.std.specs.Option.{option_map}
use Rattle.rw_io.specs.declared.error.LoadError.{LoadError}
use Rattle.rw_io.specs.declared.error.LoadError.TheVariants.{Missing, TooLong, Failed, Memory}
use Rattle.rw_io.specs.Files.{NamedFile, content_of}
use Rattle.rw_io.specs.Pieces.{append_created}

-- what stands on a shelf
pub record Holding : Type 0 where
  -- the files, where the shelf tells them; of two with one name the first counts
  pub files : Option (List NamedFile)
  -- the name and the bytes created last, where the shelf tells them; both empty where nothing was
  pub created : Option NamedFile
  -- whether something was created
  pub has_created : Bool

-- what stands on a shelf, and how often its loads, its creates and appends failed, and its appends stalled
pub record ShelfState : Type 0 where
  pub holding : Holding
  pub load_faults : ℕ
  pub put_faults : ℕ
  pub stalls : ℕ

-- the bytes of a sink, where it tells them, and how often its puts failed and stalled
pub record SinkState : Type 0 where
  pub bytes : Option (List ℕ)
  pub faults : ℕ
  pub stalls : ℕ

-- a file begun anew, empty, under a name
abbrev pub begun : List ℕ → Holding → Holding
begun name holding = record { files = holding.files; created = option_map (λ _. (name, [])) holding.created; has_created = true }

-- a piece behind what was created
abbrev pub appended : List ℕ → Holding → Holding
appended piece holding = record { files = holding.files; created = append_created holding.created piece; has_created = holding.has_created }

-- no count of a shelf has fallen
pub record NoShelfCountFell (before now : ShelfState) : Type 0 where
  pub loads : before.load_faults ≤ now.load_faults
  pub puts : before.put_faults ≤ now.put_faults
  pub stalled : before.stalls ≤ now.stalls

-- no count of a sink has fallen
pub record NoSinkCountFell (before now : SinkState) : Type 0 where
  pub puts : before.faults ≤ now.faults
  pub stalled : before.stalls ≤ now.stalls

-- what loading a name from told files, up to a limit, may answer
abbrev pub IsLoaded : List NamedFile → List ℕ → ℕ → Result (Vec ℕ Global) LoadError → Type 0
IsLoaded files name limit (Ok bytes) = content_of files name ≡ Some bytes.items
IsLoaded files name limit (Err Missing) = content_of files name ≡ None
IsLoaded files name limit (Err TooLong) = (bytes : List ℕ) × (content_of files name ≡ Some bytes) × (limit < length bytes)
IsLoaded files name limit (Err Failed) = ⊤
IsLoaded files name limit (Err Memory) = ⊤
