-- Which names are those of source files, and of which modules; this project's own.
use Rattle.std.specs.Prelude.{◌≡◌, ◌↔◌, ◌⊎◌, ℕ, List, [], ◌++◌, true, codes}
use Rattle.std.specs.declared.option.Option.TheVariants.{Some}
use Rattle.rw_types.specs.Names.{IsName}
use Rattle.words.specs.Files.{is_source_file, module_name_of}

-- nothing, or bytes that end with a slash
abbrev pub IsFolder : List ℕ → Type 0
IsFolder folder = (folder ≡ []) ⊎ ((path : List ℕ) × (folder ≡ path ++ codes "/"))

-- a folder, a module's name and `.rich`, which together do not begin with a dash
pub record IsSourceFile (file : List ℕ) : Type 0 where
  pub folder : List ℕ
  pub name : List ℕ
  pub is : file ≡ folder ++ (name ++ codes ".rich")
  pub within : IsFolder folder
  pub named : IsName name
  pub undashed : (rest : List ℕ) → file ≡ codes "-" ++ rest → ⊥

-- the test passes the names of source files, and no others
abbrev pub TellsSources : Type 0
TellsSources = (file : List ℕ) → (is_source_file file ≡ true) ↔ IsSourceFile file

-- the module that is found is the one that the file is named after
abbrev pub NamesModules : Type 0
NamesModules = (file : List ℕ) (source : IsSourceFile file) → module_name_of file ≡ Some source.name
