-- Type safety with rights. This project's own.
use Rattle.std.specs.Prelude.{◌≡◌, List, Ok}
use Rattle.rw_program.specs.Programs.{Program}
use Rattle.rich_linking.specs.Linked.{File, linked}
use Rattle.rich_linking.specs.TypedPrograms.{AreWellTyped}
use Rattle.rich_linking_sound.specs.Laws.{AreFit}
use Rattle.rich_reduction.specs.Configurations.{Config}
use Rattle.rich_reduction.specs.Steps.{step}
use Rattle.rich_reduction_calls.specs.Calls.{IsOnOwn, IsOnOwnAfter}
use Rattle.rich_soundness_points.specs.Programs.{IsSound}
use Rattle.rich_soundness_points.specs.Good.{Good, Fine}
use Rattle.rich_soundness_runs.specs.Laws.{RunsSafely}

-- from each good configuration of a sound program, whose own list lies beneath all calls, there is a step to another such, or to an
-- end where the rights are kept
abbrev pub StepsAreSafe : Type 0
StepsAreSafe = (p : Program) (c : Config) → IsSound p → Good p c → IsOnOwn c → Fine p (step p.funcs c) × IsOnOwnAfter (step p.funcs c)

-- the run of a sound program is never stuck, keeps the rights, and has good configurations while it goes on
abbrev pub SoundRunsAreSafe : Type 0
SoundRunsAreSafe = (p : Program) → IsSound p → RunsSafely p

-- and so is that of the program that well-typed files link to, whose constants are within the widths of their types
abbrev pub LinkedRunsAreSafe : Type 0
LinkedRunsAreSafe = (files : List File) (p : Program) → AreWellTyped files → AreFit files → linked files ≡ Ok p → RunsSafely p
