-- Laws on rights (this project's own).
use Rattle.std.specs.Prelude.{◌≡◌, ℕ, ◌+◌}
use Rattle.rw_types.specs.declared.types.Priv.{Priv}
use Rattle.rw_types.specs.declared.types.Priv.TheVariants.{Rw, R}
use Rattle.rw_program.specs.Programs.{Program}
use Rattle.rich_reduction.specs.Configurations.{Ref, Ptr, Cap, Own, Location}
use Rattle.rich_reduction.specs.Starts.{first}
use Rattle.rich_rights.specs.Rights.{count, Right, rights_to, IsKept}

-- the rights are kept where a program begins
abbrev pub StartsKept : Type 0
StartsKept = (p : Program) → IsKept (first p)

-- what a reference has, its capability and its address have together; and what a capability has that writes, one that reads alone
-- and the right to write again
abbrev pub AreDivided : Type 0
AreDivided =
    (r : Right) (n : ℕ) (l : Location)
    → ((p : Priv) → count (rights_to r n) (Ref l p) ≡ count (rights_to r n) (Cap l p) + count (rights_to r n) (Ptr l))
    × (count (rights_to r n) (Cap l Rw) ≡ count (rights_to r n) (Cap l R) + count (rights_to r n) (Own l))
