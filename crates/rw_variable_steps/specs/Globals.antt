-- What an instruction does to the operands and the globals, whatever else there is. This project's own.
use Rattle.std.specs.Prelude.{◌≡◌, List, []}
use Rattle.machine_steps.specs.Steps.{Went}
use Rattle.rich_reduction.specs.Configurations.{Val, Here, Config}
use Rattle.rw_plain_steps.specs.Effects.{Act}

-- on these operands and globals it goes on with those
abbrev pub LeavesGlobals : Act → List Val → List Val → List Val → List Val → Type 0
LeavesGlobals act old globals new globals' = (here : Here) (c : Config) →
    act (record here { operands = old }) (record c { globals = globals }) ≡ Went [] (record c { here = record here { operands = new }; globals = globals' })
