-- The ends of lists, at which a step is safe. This project's own.
use Rattle.std.specs.Prelude.{◌≡◌, []}
use Rattle.rw_program.specs.Programs.{Program}
use Rattle.rich_reduction.specs.Configurations.{Config}
use Rattle.rich_reduction.specs.Steps.{step}
use Rattle.rich_reduction_calls.specs.Calls.{IsOnOwn}
use Rattle.rich_soundness_points.specs.Programs.{IsSound}
use Rattle.rich_soundness_points.specs.Good.{Good, Fine}

-- where nothing is left of the list in a good configuration of a sound program, whose own list lies beneath all calls, there is a
-- step, and it keeps what is good
abbrev pub EndsAreSafe : Type 0
EndsAreSafe = (p : Program) (c : Config) → IsSound p → Good p c → IsOnOwn c → c.here.rest ≡ [] → Fine p (step p.funcs c)
