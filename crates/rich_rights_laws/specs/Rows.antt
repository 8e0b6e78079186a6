-- Rights that are counted, in values and in programs that run (this project's own rows).
use Rattle.std.specs.Prelude.{◌≡◌, ℕ}
use Rattle.rw_types.specs.declared.types.Priv.TheVariants.{Rw, R}
use Rattle.rw_program.specs.Programs.{Program}
use Rattle.rich_reduction.specs.Configurations.{Val, Tuple, Ref, Ptr, Cap, Own, Fold, Pack, none, more}
use Rattle.rich_reduction_rows.specs.Programs.{linear, unrestricted, config_after}
use Rattle.rich_reduction_rows.specs.CellRows.{swapping, splitting}
use Rattle.rich_rights.specs.Rights.{count, total, Right, Reading, Writing, rights_to}

-- a reference to location 0, and behind a fold and a package a reading capability of location 1 and the right to write there
-- again
abbrev pub rights : Val
rights = Tuple (more (Ref (linear 0) Rw) (more (Fold (Pack (Cap (linear 1) R))) (more (Own (linear 1)) (more (Ref (unrestricted 0) Rw) (more (Ptr (linear 0)) none)))))

-- the rights of a kind to locations 0, 1 and 2
abbrev pub CountedInRights : Right → ℕ → ℕ → ℕ → Type 0
CountedInRights r a b c = (count (rights_to r 0) rights ≡ a) × (count (rights_to r 1) rights ≡ b) × (count (rights_to r 2) rights ≡ c)

abbrev pub ValuesCount : Type 0
ValuesCount = CountedInRights Reading 1 1 0 × CountedInRights Writing 1 1 0

-- the rights of both kinds to locations 0, 1 and 2 after so many steps
abbrev pub Counted : Program → ℕ → ℕ → ℕ → ℕ → Type 0
Counted p n a b c =
    (total (rights_to Reading 0) (config_after p n) ≡ a)
    × (total (rights_to Writing 0) (config_after p n) ≡ a)
    × (total (rights_to Reading 1) (config_after p n) ≡ b)
    × (total (rights_to Writing 1) (config_after p n) ≡ b)
    × (total (rights_to Reading 2) (config_after p n) ≡ c)
    × (total (rights_to Writing 2) (config_after p n) ≡ c)

-- cells within a cell, before and after a swap, and when each was freed
abbrev pub SwappedCount : Type 0
SwappedCount = Counted swapping 7 1 1 1 × Counted swapping 8 1 1 1 × Counted swapping 10 0 1 1 × Counted swapping 15 0 1 0 × Counted swapping 17 0 0 0

-- a reference that was taken apart, whose address is a local, and put together
abbrev pub SplitCount : Type 0
SplitCount = Counted splitting 5 1 0 0 × Counted splitting 8 1 0 0 × Counted splitting 9 0 0 0
