-- Rights to linear locations, and how many of them stand in a configuration. This project's own.
use Rattle.std.specs.Prelude.{◌≡◌, ◌==◌, cond, ℕ, ◌+◌, List, [], ◌∷◌, Option, Some, None, slice_get}
use Rattle.rw_types.specs.declared.types.Mem.{Mem}
use Rattle.rw_types.specs.declared.types.Mem.TheVariants.{L, U}
use Rattle.rw_types.specs.declared.types.Priv.{Priv}
use Rattle.rw_types.specs.declared.types.Priv.TheVariants.{Rw, R}
use Rattle.rich_reduction.specs.Configurations.{Val, Number, Empty, Tuple, Ref, Ptr, Cap, Own, Fold, Pack, Code, Vals, none, more, Location, Slot, Content, Slots, Case, Elements, Hidden, Cell, Stores, Level, Here, Config}

-- what a reference or a capability counts for, and what the right to write again does
pub record Counter : Type 0 where
  pub holds : Location → Priv → ℕ
  pub owns : Location → ℕ

abbrev mutual
  -- the count of a value
  pub count : Counter → Val → ℕ
  count c (Number n) = 0
  count c Empty = 0
  count c (Tuple vs) = count_parts c vs
  count c (Ref l p) = c.holds l p
  count c (Ptr l) = 0
  count c (Cap l p) = c.holds l p
  count c (Own l) = c.owns l
  count c (Fold v) = count c v
  count c (Pack v) = count c v
  count c (Code f) = 0

  -- of the parts of a tuple together
  pub count_parts : Counter → Vals → ℕ
  count_parts c none = 0
  count_parts c (more v vs) = count c v + count_parts c vs

-- of values together
abbrev pub count_all : Counter → List Val → ℕ
count_all c [] = 0
count_all c (v ∷ vs) = count c v + count_all c vs

-- of slots together
abbrev pub count_slots : Counter → List Slot → ℕ
count_slots c [] = 0
count_slots c (s ∷ ss) = count c s.value + count_slots c ss

-- of what a cell holds
abbrev pub count_content : Counter → Content → ℕ
count_content c (Slots ss) = count_slots c ss
count_content c (Case n v) = count c v
count_content c (Elements vs) = count_all c vs
count_content c (Hidden size v) = count c v

-- of a place of the linear store
abbrev pub count_place : Counter → Option Cell → ℕ
count_place c (Some cell) = count_content c cell.content
count_place c None = 0

-- of the linear store
abbrev pub count_places : Counter → List (Option Cell) → ℕ
count_places c [] = 0
count_places c (o ∷ os) = count_place c o + count_places c os

-- of the unrestricted store
abbrev pub count_cells : Counter → List Cell → ℕ
count_cells c [] = 0
count_cells c (cell ∷ cells) = count_content c cell.content + count_cells c cells

-- of the operands beneath open lists
abbrev pub count_levels : Counter → List Level → ℕ
count_levels c [] = 0
count_levels c (l ∷ ls) = count_all c l.beneath + count_levels c ls

-- of a call: its operands, its locals, and the operands beneath its open lists
abbrev pub count_call : Counter → Here → ℕ
count_call c h = count_all c h.operands + (count_all c h.locals + count_levels c h.levels)

-- of calls that wait
abbrev pub count_calls : Counter → List Here → ℕ
count_calls c [] = 0
count_calls c (h ∷ hs) = count_call c h + count_calls c hs

-- of both stores
abbrev pub count_stores : Counter → Stores → ℕ
count_stores c s = count_places c s.linear + count_cells c s.unrestricted

-- of a configuration: its calls, its globals, and both stores
abbrev pub total : Counter → Config → ℕ
total c k = count_call c k.here + (count_calls c k.callers + (count_all c k.globals + count_stores c k.stores))

-- one for the linear location of this number
abbrev pub is_linear : ℕ → Mem → ℕ → ℕ
is_linear n L m = cond (m == n) 1 0
is_linear n U m = 0

abbrev pub is_at : ℕ → Location → ℕ
is_at n l = is_linear n l.mem l.number

-- what is counted of rights to read, and of rights to write
abbrev pub if_writing : Priv → ℕ → ℕ
if_writing Rw k = k
if_writing R k = 0

pub data Right : Type 0 where
  Reading : Right
  Writing : Right

-- the rights of a kind to the linear location of this number: a reference and a capability have the right to read, and where they
-- write the right to write; the right to write again has the right to write
abbrev pub rights_to : Right → ℕ → Counter
rights_to Reading n = record { holds = λ l p. is_at n l; owns = λ l. 0 }
rights_to Writing n = record { holds = λ l p. if_writing p (is_at n l); owns = λ l. is_at n l }

-- one for a linear location where a cell is
abbrev pub is_live : Option (Option Cell) → ℕ
is_live (Some (Some cell)) = 1
is_live (Some None) = 0
is_live None = 0

-- each linear location where a cell is has one right of each kind, and every other none
abbrev pub IsKept : Config → Type 0
IsKept k = (r : Right) (n : ℕ) → total (rights_to r n) k ≡ is_live (slice_get k.stores.linear n)
