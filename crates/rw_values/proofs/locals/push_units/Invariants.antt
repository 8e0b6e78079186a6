-- So many units stand behind the locals, which lie where they lay.
use Rattle.std.proofs.Common.{◌≡◌, ◌++◌, ◌+◌, map, replicate, vec_len, vec_capacity}
use Rattle.rich_reduction.specs.Configurations.{Empty}
use Rattle.rw_values.specs.Values.{value_of}
use Rattle.rw_values.proofs.locals.push_units.Given as goal

abbrev pub invariant-loop : goal.invariant-loop
invariant-loop l = (map value_of l.items.items ≡ map value_of l.fn.items.items ++ replicate l.counter Empty)
    × (vec_len l.items ≡ vec_len l.fn.items + l.counter) × (vec_capacity l.items ≡ vec_capacity l.fn.items)
