-- The plain form of the words of the command line: the command, then options in any order, each at most once and as
-- two words, then files; this project's own. A further command is a case more of each definition below `Command`.
use Rattle.std.specs.Prelude.{◌≡◌, ℕ, ◌≤◌, List, [], ◌∷◌, ◌++◌, true, if◌then◌else◌, codes, decimal}
use Rattle.std.specs.List.{list_any, list_all}
use Rattle.std.specs.declared.option.Option.{Option}
use Rattle.std.specs.declared.option.Option.TheVariants.{Some}
use Rattle.std.specs.Str.{bytes_eq}
use Rattle.words.specs.declared.SourceKind.{SourceKind}
use Rattle.words.specs.declared.SourceKind.TheVariants.{Rich}
use Rattle.words.specs.Files.{is_plain_name, is_source_file, module_name_of}
use Rattle.words.specs.Found.{Finds}

-- an option as it is given: its flag and its value, a word each
pub record Setting : Type 0 where
  pub flag : List ℕ
  pub value : List ℕ

-- the words of options: the flag of each, then its value
abbrev pub words_of_settings : List Setting → List (List ℕ)
words_of_settings [] = []
words_of_settings (setting ∷ settings) = setting.flag ∷ setting.value ∷ words_of_settings settings

-- the values that are given for a flag
abbrev pub values_for : List ℕ → List Setting → List (List ℕ)
values_for flag [] = []
values_for flag (setting ∷ settings) =
    if bytes_eq setting.flag flag then setting.value ∷ values_for flag settings else values_for flag settings

-- each option is one of these
abbrev pub HaveFlags : List (List ℕ) → List Setting → Type 0
HaveFlags flags settings = list_all (λ setting. list_any (bytes_eq setting.flag) flags) settings ≡ true

-- a number in decimal digits without leading zeros, in a range
pub record IsNumber (least greatest : ℕ) (text : List ℕ) (n : ℕ) : Type 0 where
  pub text_is : text ≡ decimal n
  pub low : least ≤ n
  pub high : n ≤ greatest

-- the number of an option that is given once; where it is not given, the default
abbrev pub GivesNumber : ℕ → ℕ → ℕ → List (List ℕ) → ℕ → Type 0
GivesNumber least greatest default [] n = n ≡ default
GivesNumber least greatest default (text ∷ []) n = IsNumber least greatest text n
GivesNumber least greatest default (text ∷ other ∷ more) n = ⊥

-- the name of an option that is given once, and has to be
abbrev pub GivesName : List (List ℕ) → List ℕ → Type 0
GivesName values name = (values ≡ name ∷ []) × (is_plain_name name ≡ true)

-- a source file: the word that names it, the name of its module, and its language
pub record Source : Type 0 where
  pub file : List ℕ
  pub name : List ℕ
  pub kind : SourceKind

-- it is the source file of this name
pub record IsSourceNamed (file : List ℕ) (source : Source) : Type 0 where
  pub same : source.file ≡ file
  pub plain : is_source_file file ≡ true
  pub named : module_name_of file ≡ Some source.name
  pub language : source.kind ≡ Rich

-- the pages that options give: 1 to 512 of the linear part, 0 to 512 of the unrestricted region, or 16 of each
abbrev pub GivesPages : List Setting → ℕ → ℕ → Type 0
GivesPages settings lin unr =
    GivesNumber 1 512 16 (values_for (codes "--lin") settings) lin × GivesNumber 0 512 16 (values_for (codes "--unr") settings) unr

-- the steps that options give: 1 to 1,000,000,000,000, or 100,000,000
abbrev pub GivesSteps : List Setting → ℕ → Type 0
GivesSteps settings steps = GivesNumber 1 1000000000000 100000000 (values_for (codes "--steps") settings) steps

-- one command with its options and files
pub data Command : Type 0 where
  -- a binary under a name of a file, with so many pages of the linear part and of the unrestricted region
  build : (lin unr : ℕ) (name : List ℕ) (source : Source) → Command
  -- a run of a file, with so many pages of each, of so many steps at most
  run : (lin unr steps : ℕ) (source : Source) → Command
  -- a run of a binary, of so many steps at most
  exec : (steps : ℕ) (file : List ℕ) → Command
  -- the canonical text of a file
  show : (source : Source) → Command
  -- the counts of a binary
  dump : (file : List ℕ) → Command

-- the first word
abbrev pub command_word : Command → List ℕ
command_word (build lin unr name source) = codes "build"
command_word (run lin unr steps source) = codes "run"
command_word (exec steps file) = codes "exec"
command_word (show source) = codes "show"
command_word (dump file) = codes "dump"

-- the options that a command may have
abbrev pub flags_of : Command → List (List ℕ)
flags_of (build lin unr name source) = codes "-o" ∷ codes "--lin" ∷ codes "--unr" ∷ []
flags_of (run lin unr steps source) = codes "--lin" ∷ codes "--unr" ∷ codes "--steps" ∷ []
flags_of (exec steps file) = codes "--steps" ∷ []
flags_of (show source) = []
flags_of (dump file) = []

-- what its options give
abbrev pub HasSettings : Command → List Setting → Type 0
HasSettings (build lin unr name source) settings = GivesPages settings lin unr × GivesName (values_for (codes "-o") settings) name
HasSettings (run lin unr steps source) settings = GivesPages settings lin unr × GivesSteps settings steps
HasSettings (exec steps file) settings = GivesSteps settings steps
HasSettings (show source) settings = Unit {0}
HasSettings (dump file) settings = Unit {0}

-- the words after the options
abbrev pub files_of : Command → List (List ℕ)
files_of (build lin unr name source) = source.file ∷ []
files_of (run lin unr steps source) = source.file ∷ []
files_of (exec steps file) = file ∷ []
files_of (show source) = source.file ∷ []
files_of (dump file) = file ∷ []

-- which files a command takes
abbrev pub HasFiles : Command → Type 0
HasFiles (build lin unr name source) = IsSourceNamed source.file source
HasFiles (run lin unr steps source) = IsSourceNamed source.file source
HasFiles (exec steps file) = is_plain_name file ≡ true
HasFiles (show source) = IsSourceNamed source.file source
HasFiles (dump file) = is_plain_name file ≡ true

-- words of the plain form spell a command
pub record SpellsCommand (words : List (List ℕ)) (command : Command) : Type 0 where
  pub settings : List Setting
  pub are : words ≡ command_word command ∷ (words_of_settings settings ++ files_of command)
  pub flags : HaveFlags (flags_of command) settings
  pub given : HasSettings command settings
  pub files : HasFiles command

-- words spell at most one command
abbrev pub OneCommand : Type 0
OneCommand = (words : List (List ℕ)) (a b : Command) → SpellsCommand words a → SpellsCommand words b → a ≡ b

-- words spell a command, or they spell none
abbrev pub CommandOrNone : Type 0
CommandOrNone = (words : List (List ℕ)) → (command : Option Command) × Finds (SpellsCommand words) command

-- words that are not of the plain form
abbrev pub SpellNothing : List (List ℕ) → Type 0
SpellNothing words = (command : Command) → SpellsCommand words command → ⊥
