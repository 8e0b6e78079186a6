-- How what stands in the stores turns. This project's own.
use Rattle.std.specs.Prelude.{ℕ, ◌==◌, cond, [], ◌∷◌, ◌++◌}
use Rattle.rw_types.specs.declared.types.Heap.{Heap}
use Rattle.rich_soundness_values.specs.Heaps.{Heaps}

-- this stands at the linear location of this number
abbrev pub put_heap : (ℕ → Heap) → ℕ → Heap → ℕ → Heap
put_heap f n h m = cond (m == n) h (f m)

abbrev pub turned : ℕ → Heap → Heaps → Heaps
turned n h hs = record hs { linear = put_heap hs.linear n h }

-- this stands at a new location of the unrestricted store
abbrev pub grown : Heap → Heaps → Heaps
grown h hs = record hs { unrestricted = hs.unrestricted ++ h ∷ [] }
