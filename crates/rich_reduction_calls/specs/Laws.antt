-- Laws on the calls of a run. This project's own.
use Rattle.std.specs.Prelude.{List}
use Rattle.rw_program.specs.declared.linked.LinkedFunc.{LinkedFunc}
use Rattle.rw_program.specs.Programs.{Program}
use Rattle.rich_reduction.specs.Configurations.{Config}
use Rattle.rich_reduction.specs.Starts.{first}
use Rattle.rich_reduction.specs.Steps.{step}
use Rattle.rich_reduction_calls.specs.Calls.{TurnsCallsBy, IsOnOwn, IsOnOwnAfter}

-- each step goes on in the call that runs, makes a call over it, or leaves it
abbrev pub StepsTurnCalls : Type 0
StepsTurnCalls = (funcs : List LinkedFunc) (c : Config) → TurnsCallsBy c (step funcs c)

-- the program's own list lies beneath all calls at the start
abbrev pub StartsOnOwn : Type 0
StartsOnOwn = (p : Program) → IsOnOwn (first p)

-- and after each step, where it did before
abbrev pub StaysOnOwn : Type 0
StaysOnOwn = (funcs : List LinkedFunc) (c : Config) → IsOnOwn c → IsOnOwnAfter (step funcs c)
