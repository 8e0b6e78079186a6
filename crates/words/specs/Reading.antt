-- How words are taken apart from the front: options while a word begins with a dash, and then files; which files they are.
use Rattle.std.specs.Prelude.{◌≡◌, ℕ, List, [], ◌∷◌, Bool, true, false, if◌then◌else◌, ◌==◌, map, string_bytes}
use Rattle.std.specs.declared.option.Option.{Option}
use Rattle.std.specs.declared.option.Option.TheVariants.{None, Some}
use Rattle.words.specs.Files.{is_plain_name}
use Rattle.words.specs.Words.{Setting, Source, IsSourceNamed}
use Rattle.words.specs.declared.options.Front.{Front}
use Rattle.words.specs.declared.options.Given.{Given}
use Rattle.words.specs.declared.options.Given.TheVariants.{Never, Once, Often}

abbrev pub begins_with_dash : List ℕ → Bool
begins_with_dash [] = false
begins_with_dash (first ∷ rest) = first == 45

-- the first option and the words after it
abbrev pub front_of : List (List ℕ) → Option (Setting × List (List ℕ))
front_of [] = None
front_of (flag ∷ []) = None
front_of (flag ∷ value ∷ rest) = if begins_with_dash flag then Some (record { flag = flag; value = value }, rest) else None

-- the options at the front
abbrev pub settings_of : List (List ℕ) → List Setting
settings_of [] = []
settings_of (flag ∷ []) = []
settings_of (flag ∷ value ∷ rest) = if begins_with_dash flag then record { flag = flag; value = value } ∷ settings_of rest else []

-- the words after the options
abbrev pub files_after : List (List ℕ) → List (List ℕ)
files_after [] = []
files_after (flag ∷ []) = flag ∷ []
files_after (flag ∷ value ∷ rest) = if begins_with_dash flag then files_after rest else flag ∷ value ∷ rest

-- the only one of the words is a source
abbrev pub IsOnlySource : List (List ℕ) → Source → Type 0
IsOnlySource words source = (words ≡ source.file ∷ []) × IsSourceNamed source.file source

-- the only one of the words is a name
abbrev pub IsOnlyName : List (List ℕ) → List ℕ → Type 0
IsOnlyName words name = (words ≡ name ∷ []) × (is_plain_name name ≡ true)

-- what the code's front says
abbrev pub shown_front : Front → Setting × List (List ℕ)
shown_front front = (record { flag = front.flag.now; value = front.value.now }, map string_bytes front.rest.now)

-- the values that the code has met: none, one, or more
abbrev pub AreGiven : Given → List (List ℕ) → Type 0
AreGiven Never values = values ≡ []
AreGiven (Once value) values = values ≡ value.now ∷ []
AreGiven Often values = (first second : List ℕ) × (more : List (List ℕ)) × (values ≡ first ∷ second ∷ more)
