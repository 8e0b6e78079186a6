-- A program begins in a good configuration.
use Rattle.std.proofs.Common.{◌≡◌, ℕ, zero, suc, List, [], ◌∷◌, inr, map, Some, refl, arith}
use Rattle.std.specs.Prelude.{slice_get}
use Rattle.std.proofs.lemmas.List.{length-map}
use Rattle.rw_program.specs.declared.linked.LinkedGlobal.{LinkedGlobal}
use Rattle.rw_types.specs.declared.types.Heap.TheVariants.{Struct}
use Rattle.rw_program.specs.Programs.{Program}
use Rattle.rich_linking.specs.TypedPrograms.{types_of_functions}
use Rattle.rich_reduction.specs.Configurations.{Val, Empty}
use Rattle.rich_soundness_values.specs.Heaps.{Heaps}
use Rattle.rich_rights.proofs.Kept.{starts}
use Rattle.rich_soundness_points.specs.Good.{in_own_list, StartsGood}

-- nothing stands in the stores yet
abbrev nothing_stands : Program → Heaps
nothing_stands p = record { linear = λ n. Struct []; unrestricted = []; functions = types_of_functions p.funcs }

all_unit : (gs : List LinkedGlobal) (n : ℕ) (v : Val) → slice_get (map (λ g. Empty) gs) n ≡ Some v → v ≡ Empty
all_unit [] n v e = cc
all_unit (g ∷ gs) zero v e = cc
all_unit (g ∷ gs) (suc n) v e = all_unit gs n v e

pub starts_good : StartsGood
starts_good p = record {
  heaps = nothing_stands p;
  functions = refl;
  set = 0;
  runs = in_own_list refl refl;
  globals_typed = record { same_length = length-map p.globals (λ g. Empty); each = λ n v g is is'. inr (all_unit p.globals n v is, omega arith) };
  stored = record { linear = λ n cell e. cc; unrestricted = λ n h e. cc; same_length = refl };
  kept = starts p;
}
