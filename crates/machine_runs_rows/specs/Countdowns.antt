-- A step of a machine that counts down (this project's own).
use Rattle.std.specs.Prelude.{ℕ, ◌+◌, ◌-◌, ◌==◌, if◌then◌else◌, [], ◌∷◌, Some, pos}
use Rattle.machine_steps.specs.declared.End.TheVariants.{Value}
use Rattle.machine_steps.specs.Steps.{Turn, Went, Ended}
use Rattle.machine_runs_rows.specs.declared.countdown.Countdown.{Countdown}

abbrev pub next_of : Countdown → Turn ℕ Countdown
next_of c =
    if c.left == 0 then Ended [] (Value (pos 0)) (record { left = 0; count = c.count + 1; end = Some (Value (pos 0)) })
    else Went (c.left ∷ []) (record { left = c.left - 1; count = c.count + 1; end = c.end })
