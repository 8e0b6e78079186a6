-- Calls that go on, whatever comes to stand where they have no right to read. This project's own.
use Rattle.std.specs.Prelude.{◌≡◌, ℕ, List}
use Rattle.rw_types.specs.declared.types.Ty.{Ty}
use Rattle.rw_program.specs.Programs.{Program}
use Rattle.rich_rules.specs.Points.{Owner}
use Rattle.rich_reduction.specs.Configurations.{Here}
use Rattle.rich_rights.specs.Rights.{Reading, rights_to, count_calls}
use Rattle.rich_soundness_values.specs.Heaps.{Heaps}
use Rattle.rich_soundness_values.specs.Laws.{Keeps}
use Rattle.rich_soundness_points.specs.Points.{Callers}

-- calls that wait and have no right to read at a linear location
abbrev pub CallsAreFramed : Type 0
CallsAreFramed =
    (p : Program) (n : ℕ) (hs hs' : Heaps) → Keeps n hs hs' → (owner : Owner) (results : List Ty) (callers : List Here)
    → Callers p hs owner results callers → count_calls (rights_to Reading n) callers ≡ 0 → Callers p hs' owner results callers
