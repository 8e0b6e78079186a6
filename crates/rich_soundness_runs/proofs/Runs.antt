-- Each step of a good configuration is one at an instruction, or at the end of a list.
use Rattle.std.proofs.Common.{◌≡◌, ◌≢◌, ℕ, zero, suc, List, [], ◌∷◌, refl}
use Rattle.rw_types.specs.declared.instrs.Instr.{Instr}
use Rattle.rw_program.specs.Programs.{Program}
use Rattle.machine_steps.specs.Steps.{Turn, Went, Ended, NoStep, Going, Stuck, Reached, reached, reached_by}
use Rattle.rich_reduction.specs.Configurations.{Config, Event}
use Rattle.rich_reduction.specs.Starts.{first}
use Rattle.rich_reduction.specs.Steps.{step}
use Rattle.rich_reduction_calls.specs.Calls.{IsOnOwn, IsOnOwnAfter}
use Rattle.rich_reduction_calls.proofs.Steps.{started, stayed}
use Rattle.rich_rights.specs.Rights.{IsKept}
use Rattle.rich_soundness_points.specs.Programs.{IsSound}
use Rattle.rich_soundness_points.specs.Good.{Good, Fine}
use Rattle.rich_soundness_points.proofs.Started.{starts_good}
use Rattle.rich_soundness_ends.proofs.Ends.{ends}
use Rattle.rich_soundness_runs.specs.Laws.{RowsAreSafe, StepsStayGood, RunsAreSafe}

module _ (rows : RowsAreSafe) (p : Program) (sound : IsSound p) where
  by_rest : (c : Config) → Good p c → IsOnOwn c → (is : List Instr) → c.here.rest ≡ is → Fine p (step p.funcs c)
  by_rest c good own [] at = ends p c sound good own at
  by_rest c good own (i ∷ rest) at = rows i p c rest sound good at

  fine : (c : Config) → Good p c → IsOnOwn c → Fine p (step p.funcs c) × IsOnOwnAfter (step p.funcs c)
  fine c good own = (by_rest c good own c.here.rest refl, stayed p.funcs c own)

  -- not stuck, with the rights kept, and good while it goes on
  abbrev Safe : Reached Event Config → Type 0
  Safe r = (r.stand ≢ Stuck) × IsKept r.at × (r.stand ≡ Going → Good p r.at)

  by_turn : (n : ℕ) (c : Config) (turn : Turn Event Config) → Fine p turn → IsOnOwnAfter turn → ((b : Config) → Good p b → IsOnOwn b → Safe (reached (step p.funcs) n b)) → Safe (reached_by turn c (reached (step p.funcs) n))
  by_turn n c (Went es b) f own on = on b f own
  by_turn n c (Ended es e b) f own on = (λ is. cc, f, λ is. cc)
  by_turn n c NoStep f own on = absurd f

  safe : (n : ℕ) (c : Config) → Good p c → IsOnOwn c → Safe (reached (step p.funcs) n c)
  safe zero c good own = (λ is. cc, good.kept, λ is. good)
  safe (suc n) c good own = let f = fine c good own in by_turn n c (step p.funcs c) f.0 f.1 (safe n)

pub steps_good : StepsStayGood
steps_good rows p c sound good own = fine rows p sound c good own

pub runs_safe : RunsAreSafe
runs_safe rows p sound = record { stuck = λ n. (from_start n).0; kept = λ n. (from_start n).1; good = λ n. (from_start n).2 }
  where
    from_start : (n : ℕ) → Safe rows p sound (reached (step p.funcs) n (first p))
    from_start n = safe rows p sound n (first p) (starts_good p) (started p)
