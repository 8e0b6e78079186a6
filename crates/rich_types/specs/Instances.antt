-- Types raised past binders, and instances of types: arguments in the places of the binders around a type.
-- This project's own.
use Rattle.std.specs.Prelude.{ℕ, ◌+◌, ◌-◌, nat_lt, if◌then◌else◌, List, [], ◌∷◌, length, Option, Some, None, slice_get}
use Rattle.rw_types.specs.declared.types.Arg.{Arg}
use Rattle.rw_types.specs.declared.types.Arg.TheVariants.{Loc, Given}
use Rattle.rw_types.specs.declared.types.Ty.{Ty, Var}
use Rattle.rich_types.specs.declared.depth.Depth.{Depth}
use Rattle.rich_types.specs.Walks.{Leaves, outside, walk}

-- a number that is bound outside `depth` binders is raised by `by`
abbrev pub raise_number : ℕ → ℕ → ℕ → ℕ
raise_number depth by n = if nat_lt n depth then n else n + by

-- all free numbers are raised by so many binders
abbrev pub raising : Depth → Leaves
raising by = record {
  location = λ d n. raise_number d.locations by.locations n;
  variable = λ d n. Var (raise_number d.variables by.variables n);
}

-- a type where so many binders more stand around it
abbrev pub raise : Depth → Ty → Ty
raise by t = walk (raising by) outside t

-- what stands for the numbers of the innermost binders: of each kind a list, that of the innermost first
pub record Substitution : Type 0 where
  pub locations : List ℕ
  pub variables : List Ty

-- what becomes of what is found, or of a number past the end
abbrev pub found_or : {A B : Type 0} → Option A → (A → B) → B → B
found_or (Some x) hit past = hit x
found_or None hit past = past

-- what becomes of the number n below `depth` binders, where xs stand for the next numbers: what is bound within
-- stays, one of the next is looked up, and what is free is lowered by their count
abbrev pub look : {A B : Type 0} → List A → (A → B) → (ℕ → B) → ℕ → ℕ → B
look xs hit free depth n = if nat_lt n depth then free n else found_or (slice_get xs (n - depth)) hit (free (n - length xs))

-- a substitution below binders: what it puts in is raised by them
abbrev pub substituting : Substitution → Leaves
substituting g = record {
  location = λ d n. look g.locations (λ l. l + d.locations) (λ m. m) d.locations n;
  variable = λ d n. look g.variables (λ t. raise d t) (λ m. Var m) d.variables n;
}

-- these arguments, the last of which answers the innermost binder, within a substitution
abbrev pub substitution_within : List Arg → Substitution → Substitution
substitution_within [] g = g
substitution_within (Loc l ∷ args) g = substitution_within args (record { locations = l ∷ g.locations; variables = g.variables })
substitution_within (Given t ∷ args) g = substitution_within args (record { locations = g.locations; variables = t ∷ g.variables })

-- the substitution of nothing
abbrev pub no_substitution : Substitution
no_substitution = record { locations = []; variables = [] }

-- these arguments alone
abbrev pub substitution_of : List Arg → Substitution
substitution_of args = substitution_within args no_substitution

-- the instance of a type that stands under one binder for each argument, of the argument's kind
abbrev pub instance : Ty → List Arg → Ty
instance t args = walk (substituting (substitution_of args)) outside t
