-- The end of a list within a body. This project's own.
use Rattle.std.specs.Prelude.{◌≡◌, List, [], ◌∷◌}
use Rattle.wasm_execution.specs.Configurations as w
use Rattle.wasm_execution.specs.Environments.{Environment}
use Rattle.rich_reduction.specs.Configurations as r
use Rattle.rw_program.specs.Programs.{Program}
use Rattle.lowering_rows.specs.Labels.{Label}
use Rattle.simulation_relation.specs.Bodies.{Body, IsRunning}
use Rattle.simulation_relation.specs.Words.{Book}
use Rattle.simulation_frames.specs.Steps.{StepsAlike}

-- where nothing is left of a list that has a label, both leave it by one step
abbrev pub EndsStepAlike : Type 0
EndsStepAlike = (p : Program) (e : Environment) (b : Body) (book : Book) (a : r.Config) (c : w.Config) (label : Label) (labels : List Label) → (run : IsRunning b book a.here c.here) → run.stands.labels ≡ label ∷ labels → a.here.rest ≡ [] →
    (l : r.Level) × (levels : List r.Level) × (a.here.levels ≡ l ∷ levels) × StepsAlike p e b book a c l.rest 1
