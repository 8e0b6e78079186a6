-- What a row of open lists means (WebAssembly Core Specification 1.0, section 4.2.12): each list keeps how many operands lie beneath
-- the list around it, so the operands of that one are those between.
use Rattle.std.specs.Prelude.{ℕ, ◌-◌, ◌≤◌, Bool, true, false, List, [], ◌∷◌, length, take, drop}
use Rattle.wasm_execution.specs.Configurations as machine
use Rattle.wasm_levels.specs.declared.row.Aim.{Aim}
use Rattle.wasm_levels.specs.declared.row.Aim.TheVariants.{Past, Back}
use Rattle.wasm_levels.specs.declared.row.OpenList.{OpenList}

-- where a branch leads
abbrev pub aim_of : Aim → machine.Aim
aim_of Past = machine.Past
aim_of (Back body) = machine.Back body.now

-- how many values a list gives
abbrev pub count_of : Bool → ℕ
count_of false = 0
count_of true = 1

-- how many operands a branch takes
abbrev pub takes_of : Aim → Bool → ℕ
takes_of Past gives = count_of gives
takes_of (Back body) gives = 0

-- of the operands beneath a list, those of the list around it
abbrev pub around : OpenList → List ℕ → List ℕ
around l beneath = take (length beneath - l.base) beneath

-- and those beneath that one
abbrev pub outer : OpenList → List ℕ → List ℕ
outer l beneath = drop (length beneath - l.base) beneath

abbrev pub level_of : OpenList → List ℕ → machine.Level
level_of l beneath = record { aim = aim_of l.aim; takes = takes_of l.aim l.gives; gives = count_of l.gives; beneath = around l beneath; rest = l.rest.now }

-- the open lists, the innermost first, over these operands beneath it
abbrev pub levels_of : List OpenList → List ℕ → List machine.Level
levels_of [] beneath = []
levels_of (l ∷ ls) beneath = level_of l beneath ∷ levels_of ls (outer l beneath)

-- the operands beneath all of them
abbrev pub beneath_all : List OpenList → List ℕ → List ℕ
beneath_all [] beneath = beneath
beneath_all (l ∷ ls) beneath = beneath_all ls (outer l beneath)

-- no list is said to lie on more operands than there are
abbrev pub AreLaid : List OpenList → List ℕ → Type 0
AreLaid [] beneath = Unit {0}
AreLaid (l ∷ ls) beneath = (l.base ≤ length beneath) × AreLaid ls (outer l beneath)
