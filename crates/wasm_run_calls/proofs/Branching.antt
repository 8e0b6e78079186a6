-- Branches and ends of lists.
use Rattle.std.proofs.Common.{◌≡◌, ◌≢◌, ◌∙◌, ℕ, zero, suc, ◌+◌, ◌≤◌, List, [], ◌∷◌, length, take, drop, slice_get, Some, refl, sym, ap, subst, arith, length-drop}
use Rattle.machine_steps.specs.Steps.{Turn, Went, NoStep}
use Rattle.machine_runs.specs.declared.answers.Turn as answers
use Rattle.machine_runs.specs.declared.answers.Turn.TheVariants as answer
use Rattle.wasm_ast.specs.declared.instructions.WInstr.{WInstr}
use Rattle.wasm_execution.specs.Configurations.{Here, Config, Event, prints}
use Rattle.wasm_execution.specs.Environments.{Environment}
use Rattle.wasm_execution.specs.Calls.{return_now, return_at_end}
use Rattle.wasm_execution.specs.Control.{branch, branch_to, leave}
use Rattle.wasm_levels.specs.declared.row.OpenList.{OpenList}
use Rattle.wasm_levels.specs.Lists.{count_of, takes_of, outer, levels_of}
use Rattle.wasm_frames.specs.declared.frames.Frames.{Frames}
use Rattle.wasm_frames.specs.Frames.{here_now, Moves}
use Rattle.wasm_run_state.specs.declared.state.State.{State}
use Rattle.wasm_run_state.specs.Tells.{Tells}
use Rattle.wasm_run_state.specs.States.{bottom_of, store_of, config_of}
use Rattle.wasm_run_calls.specs.Parts.{Part, start_at, LeadsOn}
use Rattle.wasm_run_calls.proofs.Leading.{top_step, all_step}

pub can : (e : Environment) (n : ℕ) (ls : List OpenList) (b : List ℕ) (here : Here) (c : Config) → branch e n (levels_of ls b) here c ≢ NoStep → (l : OpenList) → slice_get ls n ≡ Some l → takes_of l.aim l.gives ≤ length here.operands
can e zero [] b here c h l g = absurd (cc)
can e (suc n) [] b here c h l g = absurd (cc)
can e zero (x ∷ xs) b here c h l g =
    let same : x ≡ l = (cc) in
    subst (λ (y : OpenList). takes_of y.aim y.gives ≤ length here.operands) same (top_step (takes_of x.aim x.gives) here.operands _ h).0
can e (suc n) (x ∷ xs) b here c h l g = can e n xs (outer x b) here c h l g

past : (e : Environment) (n : ℕ) (ls : List OpenList) (b : List ℕ) (here : Here) (c : Config) → length ls ≤ n → branch e n (levels_of ls b) here c ≢ NoStep → n ≡ length ls
past e zero [] b here c le h = refl
past e (suc n) [] b here c le h = absurd (h refl)
past e zero (x ∷ xs) b here c le h = absurd (omega (arith, le))
past e (suc n) (x ∷ xs) b here c le h = let i = past e n xs (outer x b) here c (omega (arith, le)) h in omega (arith, i)

past_is : (e : Environment) (n : ℕ) (ls : List OpenList) (b : List ℕ) (here : Here) (c : Config) → n ≡ length ls → branch e n (levels_of ls b) here c ≡ return_now e here c
past_is e zero [] b here c q = refl
past_is e (suc n) [] b here c q = absurd (omega (arith, q))
past_is e zero (x ∷ xs) b here c q = absurd (omega (arith, q))
past_is e (suc n) (x ∷ xs) b here c q = past_is e n xs (outer x b) here c (omega (arith, q))

module _ (e : Environment) (n : ℕ) (s : State) (le : length s.frames.levels.own ≤ n) (rest : List WInstr) (h : LeadsOn (branch_to e n) rest s) where
  exact : n ≡ length s.frames.levels.own
  exact = past e n s.frames.levels.own s.frames.values.beneath (record (here_now s.frames) { rest = rest }) (start_at h.0 s) le h.1

  pub branch_returns : (more : List WInstr) (start : Here) → branch_to e n (record (here_now s.frames) { rest = more }) (start_at start s) ≡ return_now e (record (here_now s.frames) { rest = [] }) (start_at start s)
  branch_returns more start = past_is e n s.frames.levels.own s.frames.values.beneath (record (here_now s.frames) { rest = more }) (start_at start s) exact

  pub return_leads : LeadsOn (return_now e) [] s
  return_leads = (h.0, subst (λ (t : Turn Event Config). t ≢ NoStep) (branch_returns rest h.0) h.1)

-- a part that goes on
pub went : (e : Environment) (part : Environment → Part) (rest : List WInstr) (s : State) (g : Frames) → Moves part rest s.frames g → (start : Here)
    → Tells prints (part e (record (here_now s.frames) { rest = rest }) (start_at start s)) answer.Went (start_at start s) (config_of (record s { frames = g }))
went e part rest s g h start = record { events = []; printed = refl; is = h e start (bottom_of s.next_call) (store_of s) }

pub ready : (e : Environment) (ls : List OpenList) (b : List ℕ) (here : Here) (c : Config) → leave e (levels_of ls b) here c ≢ NoStep → (l : OpenList) → slice_get ls 0 ≡ Some l → length here.operands ≡ count_of l.gives
ready e [] b here c h l g = absurd (cc)
ready e (x ∷ xs) b here c h l g =
    let same : x ≡ l = (cc) in
    let t = all_step (count_of x.gives) here.operands _ h in
    let few = t.0 in
    let none = ap length t.1 in
    let d = length-drop (count_of x.gives) here.operands in
    subst (λ (y : OpenList). length here.operands ≡ count_of y.gives) same (omega (arith, few, none, d))

empty_is : (e : Environment) (ls : List OpenList) (b : List ℕ) (here : Here) (c : Config) → length ls ≡ 0 → leave e (levels_of ls b) here c ≡ return_at_end e here c
empty_is e [] b here c q = refl
empty_is e (x ∷ xs) b here c q = absurd (omega (arith, q))

pub end_is : (e : Environment) (s : State) (none : length s.frames.levels.own ≡ 0) (start : Here)
    → leave e (levels_of s.frames.levels.own s.frames.values.beneath) (record (here_now s.frames) { rest = [] }) (start_at start s) ≡ return_at_end e (record (here_now s.frames) { rest = [] }) (start_at start s)
end_is e s none start = empty_is e s.frames.levels.own s.frames.values.beneath (record (here_now s.frames) { rest = [] }) (start_at start s) none
