-- What a machine's calls say of it, by its configuration.
use Rattle.std.proofs.Common.{◌≡◌, ◌≢◌, ◌∙◌, ℕ, List, [], ◌∷◌, length, ap, ◌≤◌, Bor, true, refl, sym, subst, inl, inr, ltb, arith, rules, ◌⊎◌}
use Rattle.std.specs.Prelude.{Option, Some, None, Result, Ok, Err, OnErr, IfOk, IsNone, is_some, ◌↔◌}
use Rattle.std.specs.Option.{option_copied}
use Rattle.std.proofs.lemmas.Bool.{ltb-true}
use Rattle.std.proofs.lemmas.Bool.Decides.{nat_tests}
use Rattle.machine_steps.specs.declared.End.{End}
use Rattle.machine_runs.specs.declared.answers.Turn.{Turn}
use Rattle.machine_runs.specs.declared.answers.Turn.TheVariants.{Went, Printed, Ended}
use Rattle.wasm_ast.specs.declared.instructions.WInstr.{WInstr}
use Rattle.wasm_ast.specs.declared.modules.WModule.{WModule}
use Rattle.wasm_ast.specs.Operations.{operation_of}
use Rattle.wasm_execution.specs.Configurations.{ThenCall, Config, Event, prints}
use Rattle.wasm_execution.specs.Environments.{environment_of, most_pages_of}
use Rattle.wasm_execution.specs.Steps.{step}
use Rattle.wasm_run_state.specs.Tells.{Tells, turn_of}
use Rattle.wasm_run.proofs.Memoryless.{Stays, stays_empty}
use Rattle.wasm_run_state.specs.States.{bottom_of, config_of}
use Rattle.wasm_run_state.specs.declared.state.State.{State}
use Rattle.wasm_run_dispatch.specs.Finding.{Allocates}
use Rattle.wasm_run_calls.specs.Parts.{IsBeforeNext}
use Rattle.wasm_machine.specs.Leaving.{LeavesNext}
use Rattle.wasm_run.specs.Progress.{MayAllocate, Progress}

abbrev pub progress : WModule → Config → ℕ → Option End → Progress
progress m c made ended = record { source = m; config = c; steps = made; ended = ended }

in_start : (o : Option ℕ) → o ≢ None → (n : ℕ) × (bottom_of o ≡ ThenCall n)
in_start None k = absurd (k refl)
in_start (Some n) k = (n, refl)

pub may_allocate : (s : State)
    → (LeavesNext s.frames.code.now × IsBeforeNext s) ⊎ ((i : WInstr) × (rest : List WInstr) × (s.frames.code.now ≡ i ∷ rest) × Allocates (operation_of i)) → MayAllocate (config_of s)
may_allocate s k = elim k [ inl (leaves, (next, none)) ↦ inl (in_start s.next_call next, none, leaves) | inr h ↦ inr h ]

pub on_err : {A E : Type 0} {P : Type 0} → (r : Result A E) → P → OnErr r P
on_err (Ok x) p = tt
on_err (Err e) p = p

-- what was looked up is not there exactly where its place is past the end
pub past_end : (o : Option (Bor ℕ)) (r : Option ℕ) (k n m : ℕ) → r ≡ option_copied o → is_some o ≡ ltb k n → n ≡ m → IsNone r ↔ (m ≤ k)
past_end None r k n m q e s = subst (λ (x : Option ℕ). IsNone x ↔ (m ≤ k)) (sym q) (λ _. grind (arith, nat_tests), λ _. search rules)
past_end (Some b) r k n m q e s = subst (λ (x : Option ℕ). IsNone x ↔ (m ≤ k)) (sym q) (λ h. absurd (cc), λ le. let past : ltb k n ≡ true = sym e in absurd (omega (arith, ltb-true k n past)))

turn_stays : (told : Turn) (events : List Event) (after : Config) → Stays (turn_of told events after after) → length after.store.memory ≡ 0
turn_stays Went events after k = k
turn_stays (Printed z) events after k = k
turn_stays (Ended e) events after k = k

-- a step of a module without a memory leaves no byte of one
pub kept_empty : {E : Type 0} (m : WModule) (before after : State) (r : Result Turn E) → (m.memories ≡ [] → length before.memory ≡ 0)
    → IfOk r (λ told. Tells prints (step (environment_of m) (config_of before)) told (config_of after) (config_of after)) → OnErr r (config_of after ≡ config_of before)
    → m.memories ≡ [] → length after.memory ≡ 0
kept_empty m before after (Ok told) h t u none =
    turn_stays told t.events (config_of after) (subst Stays t.is (stays_empty (environment_of m) (ap most_pages_of none) (config_of before) (h none)))
kept_empty m before after (Err e) h t u none = ap (λ (c : Config). length c.store.memory) u ∙ h none

pub no_bytes : (xs : List ℕ) → length xs ≡ 0 → xs ≡ []
no_bytes [] q = refl
no_bytes (x ∷ xs) q = absurd (omega (arith, q))
