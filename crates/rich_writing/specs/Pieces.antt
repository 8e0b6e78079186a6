-- The pieces of canonical texts: one space between forms, none behind `(` and none before `)`; words and numbers. This project's own.
use Rattle.std.specs.Prelude.{ℕ, ◌-◌, ◌^◌, nat_lt, if◌then◌else◌, Bool, true, false, List, [], ◌∷◌, ◌++◌, codes, decimal}
use Rattle.rw_types.specs.declared.types.Mem.{Mem}
use Rattle.rw_types.specs.declared.types.Mem.TheVariants.{L, U}
use Rattle.rw_types.specs.declared.types.Priv.{Priv}
use Rattle.rw_types.specs.declared.types.Priv.TheVariants.{Rw, R}
use Rattle.rw_types.specs.declared.types.Qual.{Qual}
use Rattle.rw_types.specs.declared.types.Qual.TheVariants.{Unr, Lin}

-- forms, each behind a space
abbrev pub spaced : List (List ℕ) → List ℕ
spaced [] = []
spaced (form ∷ forms) = codes " " ++ (form ++ spaced forms)

-- forms in parentheses
abbrev pub in_parentheses : List (List ℕ) → List ℕ
in_parentheses [] = codes "()"
in_parentheses (form ∷ forms) = codes "(" ++ (form ++ (spaced forms ++ codes ")"))

-- a name in quotes
abbrev pub quoted : List ℕ → List ℕ
quoted name = codes "\"" ++ (name ++ codes "\"")

abbrev pub qual_text : Qual → List ℕ
qual_text Unr = codes "unr"
qual_text Lin = codes "lin"

abbrev pub mem_text : Mem → List ℕ
mem_text L = codes "L"
mem_text U = codes "U"

abbrev pub priv_text : Priv → List ℕ
priv_text Rw = codes "rw"
priv_text R = codes "r"

abbrev pub mutability_text : Bool → List ℕ
mutability_text true = codes "mut"
mutability_text false = codes "const"

-- a pattern of so many bits as a signed number in two's complement
abbrev pub signed_text : ℕ → ℕ → List ℕ
signed_text bits n = if nat_lt n (2 ^ (bits - 1)) then decimal n else codes "-" ++ decimal (2 ^ bits - n)
