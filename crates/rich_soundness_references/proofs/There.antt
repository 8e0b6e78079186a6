-- Cells that are there, in each memory.
use Rattle.std.proofs.Common.{◌≡◌, ◌≤◌, ℕ, Option, Some, None, cond, refl, ap, subst, arith}
use Rattle.std.specs.Prelude.{slice_get}
use Rattle.std.proofs.lemmas.Bool.{eq-eqb}
use Rattle.rw_types.specs.declared.types.Heap.{Heap}
use Rattle.rw_types.specs.declared.types.Mem.{Mem}
use Rattle.rw_types.specs.declared.types.Mem.TheVariants.{L, U}
use Rattle.rich_reduction.specs.Configurations.{Cell, Stores}
use Rattle.rich_reduction.specs.Cells.{still_there, cell_in}
use Rattle.rich_rights.specs.Rights.{is_linear, is_live}
use Rattle.rich_soundness_values.specs.Heaps.{Heaps, StandsIn}
use Rattle.rich_soundness_values.specs.Cells.{Holds, Stored}
use Rattle.rich_soundness_references.specs.Laws.{CellsAreThere}

pub at_self : (n : ℕ) → is_linear n L n ≡ 1
at_self n = ap (λ b. cond b 1 0) (eq-eqb n n refl)

live_cell : (o : Option (Option Cell)) → 1 ≤ is_live o → (cell : Cell) × (o ≡ Some (Some cell))
live_cell (Some (Some cell)) l = (cell, refl)
live_cell (Some None) l = absurd (omega arith)
live_cell None l = absurd (omega arith)

there_in : (hs : Heaps) (s : Stores) (m : Mem) (n : ℕ) (h : Heap) → Stored hs s → StandsIn hs m n h → (m ≡ L → 1 ≤ is_live (slice_get s.linear n)) → (cell : Cell) × (cell_in m n s ≡ Some cell) × Holds hs m h cell.content
there_in hs s L n h st stands live = let c = live_cell (slice_get s.linear n) (live refl) in
    (c.0, ap still_there c.1, subst (λ (k : Heap). Holds hs L k c.0.content) stands (st.linear n c.0 c.1))
there_in hs s U n h st stands live = st.unrestricted n h stands

pub there : CellsAreThere
there hs s l h st stands live = there_in hs s l.mem l.number h st stands live
