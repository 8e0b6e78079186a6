-- From any configuration on a machine comes to what its module comes to.
use Rattle.std.proofs.Common.{◌≡◌, ◌≢◌, ◌∙◌, ℕ, zero, suc, ◌+◌, List, ◌++◌, refl, sym, ap, arith}
use Rattle.std.specs.Prelude.{None}
use Rattle.std.specs.List.{flat_map}
use Rattle.std.proofs.lemmas.Grind.{flat_map-append}
use Rattle.machine_runs.specs.Runs.{end_of}
use Rattle.machine_steps.specs.Agreement.{Seen}
use Rattle.machine_steps.specs.Steps.{Turn, Went, Ended, NoStep, Stand, Reached, Stuck, onward, reached, reached_by}
use Rattle.wasm_ast.specs.declared.modules.WModule.{WModule}
use Rattle.wasm_grammar.specs.Profile.{IsInProfile}
use Rattle.wasm_typing.specs.Modules.{IsValid}
use Rattle.wasm_execution.specs.Behaviour.{wasm, seen_from}
use Rattle.wasm_execution.specs.Configurations.{Config, Event, prints}
use Rattle.wasm_execution.specs.Environments.{environment_of}
use Rattle.wasm_execution.specs.Starts.{Begins, start_of}
use Rattle.wasm_execution.specs.Steps.{step}
use Rattle.wasm_soundness.proofs.Starts.{valid_never_stuck}
use Rattle.wasm_run.specs.Laws.{IsAs, seen_of}
use Rattle.wasm_run.specs.Progress.{Progress, begun, next_of, counted_turn}
use Rattle.wasm_run.proofs.Turning.{progress}

module _ (m : WModule) where
  go_on : (es : List Event) (c : Config) (made : ℕ) (r : Reached Event Config) (s : Reached ℕ Progress)
      → IsAs m (made + 1) r s → IsAs m made (onward es r) (onward (flat_map prints es) s)
  go_on es c made r s k = record {
    said = ap (λ (ns : List ℕ). flat_map prints es ++ ns) k.said ∙ sym (flat_map-append prints es r.said);
    stand = k.stand;
    steps = ap suc k.steps;
    at = k.at ∙ ap (λ (n : ℕ). progress m r.at n (end_of r.stand)) (omega arith);
  }

  pub goes_as : (first : Config) (made n : ℕ) → IsAs m made (reached (step (environment_of m)) n first) (reached next_of n (progress m first made None))
  goes_as first made zero = record { said = refl; stand = refl; steps = refl; at = ap (λ (n : ℕ). progress m first n None) (omega arith) }
  goes_as first made (suc n) = by_turn (λ (c : Config). goes_as c (made + 1) n) (step (environment_of m) first)
    where
      by_turn : ((c : Config) → IsAs m (made + 1) (reached (step (environment_of m)) n c) (reached next_of n (progress m c (made + 1) None))) → (t : Turn Event Config)
          → IsAs m made (reached_by t first (reached (step (environment_of m)) n)) (reached_by (counted_turn m made t) (progress m first made None) (reached next_of n))
      by_turn later (Went es c) = go_on es c made (reached (step (environment_of m)) n c) (reached next_of n (progress m c (made + 1) None)) (later c)
      by_turn later (Ended es e c) = record { said = refl; stand = refl; steps = refl; at = refl }
      by_turn later NoStep = record { said = refl; stand = refl; steps = refl; at = ap (λ (k : ℕ). progress m first k None) (omega arith) }

  abbrev seen_so : List ℕ → Stand → Seen
  seen_so ns stand = record { printed = ns; stand = stand }

  pub seen_as : (first : Config) → start_of m ≡ Begins first → (n : ℕ) → seen_of (reached next_of n (begun m first)) ≡ wasm m n
  seen_as first q n =
      let k = goes_as first 0 n in
      ap (λ (ns : List ℕ). seen_so ns (reached next_of n (begun m first)).stand) k.said
      ∙ ap (seen_so (flat_map prints (reached (step (environment_of m)) n first).said)) k.stand
      ∙ sym (ap (seen_from m n) q)

  pub never_stuck : (first : Config) → IsValid m → IsInProfile m → start_of m ≡ Begins first → (n : ℕ) → (reached next_of n (begun m first)).stand ≢ Stuck
  never_stuck first valid profile q n e = valid_never_stuck m first valid profile q n (sym (ap (λ (s : Seen). s.stand) (seen_as first q n)) ∙ e)
