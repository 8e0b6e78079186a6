-- Steps of a run, from their parts.
use Rattle.std.proofs.Common.{◌≡◌, ◌≢◌, ◌∙◌, ℕ, ◌+◌, ◌-◌, ◌<◌, ◌≤◌, List, [], ◌∷◌, length, take, drop, slice_get, refl, sym, ap, subst, Bor, arith}
use Rattle.std.proofs.Math.Seq.{take-length}
use Rattle.std.specs.Prelude.{Option, Some, None, Result, Ok, Err, IfOk, OnErr, get_or}
use Rattle.machine_steps.specs.Steps.{Turn, Went, Ended, NoStep}
use Rattle.machine_runs.specs.declared.answers.Turn as answers
use Rattle.machine_runs.specs.declared.answers.Turn.TheVariants as answer
use Rattle.wasm_ast.specs.declared.types.ValTy.{ValTy}
use Rattle.wasm_ast.specs.declared.modules.WModule.{WModule}
use Rattle.wasm_ast.specs.declared.instructions.WInstr.{WInstr}
use Rattle.wasm_ast.specs.declared.operation.OperationRef.{OperationRef}
use Rattle.wasm_ast.specs.declared.operation.OperationRef.TheVariants as ref
use Rattle.wasm_ast.specs.Operations.{Operation, operation_of}
use Rattle.wasm_ast.specs.Operations as op
use Rattle.wasm_execution.specs.Calls.{return_now}
use Rattle.wasm_ast.specs.OperationViews.{operation_seen}
use Rattle.wasm_typing.specs.Contexts.{context_of}
use Rattle.wasm_execution.specs.Configurations.{Here, Config, Event, prints}
use Rattle.wasm_execution.specs.Environments.{Environment, Function, environment_of, function_at}
use Rattle.wasm_execution.specs.Steps.{act, step, step_at}
use Rattle.wasm_machine_typing.specs.Configurations.{IsTypedEnvironment, IsTypedConfig, IsTypedTurn}
use Rattle.wasm_machine_typing.proofs.Steps.{goes}
use Rattle.wasm_run_dispatch.specs.Finding.{FindsInCall}
use Rattle.wasm_run_calls.proofs.Popping.{one_there}
use Rattle.wasm_machine_finds.specs.Laws.{Finds}
use Rattle.wasm_machine_finds.proofs.Finding.{typed_finds}
use Rattle.wasm_frames.specs.Frames.{here_now}
use Rattle.wasm_run_state.specs.declared.state.State.{State}
use Rattle.wasm_run_state.specs.Tells.{Tells, turn_of}
use Rattle.wasm_run_state.specs.States.{config_of, plain_now, Acts, Keeps}
use Rattle.wasm_run_calls.specs.Parts.{Part, PartActs, EndsAsBefore, GoesOn, LeadsOn, leaving}
use Rattle.wasm_execution.specs.Control.{leave}
use Rattle.wasm_machine.specs.Running.{IsRunning}

-- an instruction that is such a part
pub acts : {E : Type 0} (e : Environment) (o : Operation WInstr) (part : Part) (rest : List WInstr) (a b : State) (r : Result answers.Turn E)
    → ((here : Here) (c : Config) → act e o here c ≡ part here c) → PartActs part rest a r b → EndsAsBefore r a b → Acts e o rest a r b
acts e o part rest a b (Ok answer.Went) q h k = let t = h (here_now a.frames) in record { events = t.events; printed = t.printed; is = q (record (here_now a.frames) { rest = rest }) (config_of a) ∙ t.is }
acts e o part rest a b (Ok (answer.Printed n)) q h k = let t = h (here_now a.frames) in record { events = t.events; printed = t.printed; is = q (record (here_now a.frames) { rest = rest }) (config_of a) ∙ t.is }
acts e o part rest a b (Ok (answer.Ended why)) q h k =
    let t = h (here_now a.frames) in
    record { events = t.events; printed = t.printed; is = q (record (here_now a.frames) { rest = rest }) (config_of a) ∙ t.is ∙ ap (λ (c : Config). Ended t.events why c) (sym k.0) }
acts e o part rest a b (Err why) q h k = k.0

-- a return, of which it does not matter what is left of the list
pub acts_return : {E : Type 0} (e : Environment) (rest : List WInstr) (a b : State) (r : Result answers.Turn E) → PartActs (return_now e) [] a r b → EndsAsBefore r a b → Acts e op.Return rest a r b
acts_return e rest a b (Ok answer.Went) h k = let t = h (here_now a.frames) in record { events = t.events; printed = t.printed; is = t.is }
acts_return e rest a b (Ok (answer.Printed n)) h k = let t = h (here_now a.frames) in record { events = t.events; printed = t.printed; is = t.is }
acts_return e rest a b (Ok (answer.Ended why)) h k =
    let t = h (here_now a.frames) in record { events = t.events; printed = t.printed; is = t.is ∙ ap (λ (c : Config). Ended t.events why c) (sym k.0) }
acts_return e rest a b (Err why) h k = k.0

-- a call does not end the run
pub goes_on : {E : Type 0} (r : Result answers.Turn E) (a b : State) → GoesOn r a b → EndsAsBefore r a b
goes_on (Ok answer.Went) a b h = tt
goes_on (Ok (answer.Printed n)) a b h = tt
goes_on (Ok (answer.Ended why)) a b h = absurd h
goes_on (Err why) a b h = h

-- an operation that is seen so
pub seen : {E : Type 0} (e : Environment) (o p : OperationRef) (rest : List WInstr) (a b : State) (r : Result answers.Turn E) → o ≡ p → Acts e (operation_seen p) rest a r b → Acts e (operation_seen o) rest a r b
seen e o p rest a b r q h = subst (λ (x : OperationRef). Acts e (operation_seen x) rest a r b) (sym q) h

pub leads_as : (e : Environment) (o p : OperationRef) (rest : List WInstr) (a : State) → o ≡ p → act e (operation_seen o) (record (here_now a.frames) { rest = rest }) (config_of a) ≢ NoStep
    → act e (operation_seen p) (record (here_now a.frames) { rest = rest }) (config_of a) ≢ NoStep
leads_as e o p rest a q h = subst (λ (x : OperationRef). act e (operation_seen x) (record (here_now a.frames) { rest = rest }) (config_of a) ≢ NoStep) q h

pub leads : (part : Part) (rest : List WInstr) (a : State) → part (record (here_now a.frames) { rest = rest }) (config_of a) ≢ NoStep → LeadsOn part rest a
leads part rest a h = (here_now a.frames, h)

module _ (m : WModule) (trap_code : Option ℕ) (most : ℕ) (s : State) (h : IsRunning m trap_code most s) where
  abbrev e : Environment
  e = environment_of m

  typed_step : (t : Turn Event Config) → IsTypedTurn (context_of m) e t → t ≢ NoStep
  typed_step (Went es c) k q = absurd (cc)
  typed_step (Ended es why c) k q = absurd (cc)
  typed_step NoStep k q = k

  pub has_step : step e (config_of s) ≢ NoStep
  has_step = typed_step (step e (config_of s)) (goes (context_of m) e h.environment (config_of s) h.config)

  after : (t : Turn Event Config) (told : answers.Turn) (es : List Event) (d : Config) → IsTypedTurn (context_of m) e t → t ≡ turn_of told es d d → IsTypedConfig (context_of m) e d
  after t answer.Went es d k q = subst (IsTypedTurn (context_of m) e) q k
  after t (answer.Printed n) es d k q = subst (IsTypedTurn (context_of m) e) q k
  after t (answer.Ended why) es d k q = subst (IsTypedTurn (context_of m) e) q k

  pub stays_typed : (told : answers.Turn) (d : Config) → Tells prints (step e (config_of s)) told d d → IsTypedConfig (context_of m) e d
  stays_typed told d t = after (step e (config_of s)) told t.events d (goes (context_of m) e h.environment (config_of s) h.config) t.is

  pub entries : (i n : ℕ) → slice_get s.table.items i ≡ Some (Some n) → function_at e n ≢ None
  entries i n q none = let f = h.config.store.table i n q in let k : ◌≡◌ {A = Option Function} (Some f.0) None = sym f.1 ∙ none in absurd (cc)

  module _ (i : WInstr) (rest : List WInstr) (code : s.frames.code.now ≡ i ∷ rest) where
    pub step_is : step e (config_of s) ≡ act e (operation_of i) (record (here_now s.frames) { rest = rest }) (config_of s)
    step_is = ap (λ (r : List WInstr). step_at e r (config_of s)) code

    pub finds : (o : OperationRef) → operation_seen o ≡ operation_of i → Finds (operation_seen o) (plain_now s) s.frames.values.room
    finds o q =
        subst (λ (x : Operation WInstr). Finds x (plain_now s) s.frames.values.room) (sym q)
        (typed_finds (context_of m) e (config_of s) i rest s.frames.values.room h.environment h.config h.room.0 code)

-- what stays in its call finds what it has to find
pub in_call_found : (e : Environment) (o : OperationRef) (rest : List WInstr) (s : State) → ((n : ℕ) → o ≡ ref.Br n → ⊥) → ((n : ℕ) → o ≡ ref.BrIf n → ⊥) → ((ls : Bor (List ℕ)) (d : ℕ) → o ≡ ref.BrTable ls d → ⊥) → (o ≡ ref.Return → ⊥)
    → ((n : ℕ) → o ≡ ref.Call n → ⊥) → ((n : ℕ) → o ≡ ref.CallIndirect n → ⊥) → act e (operation_seen o) (record (here_now s.frames) { rest = rest }) (config_of s) ≢ NoStep
    → Finds (operation_seen o) (plain_now s) s.frames.values.room → FindsInCall (operation_seen o) (plain_now s) s.frames.values.room
in_call_found e (ref.Br n) rest s h j k l q r steps found = absurd (h n refl)
in_call_found e (ref.BrIf n) rest s h j k l q r steps found = absurd (j n refl)
in_call_found e (ref.BrTable ls n) rest s h j k l q r steps found = absurd (k ls n refl)
in_call_found e ref.Return rest s h j k l q r steps found = absurd (l refl)
in_call_found e (ref.Call n) rest s h j k l q r steps found = absurd (q n refl)
in_call_found e (ref.CallIndirect n) rest s h j k l q r steps found = absurd (r n refl)
in_call_found e (ref.If t xs) rest s h j k l q r steps found = one_there s.frames.values.own _ steps
in_call_found e (ref.IfElse t xs ys) rest s h j k l q r steps found = one_there s.frames.values.own _ steps
in_call_found e _ rest s h j k l q r steps found = found

module _ (m : WModule) (trap_code : Option ℕ) (most : ℕ) (s : State) (h : IsRunning m trap_code most s) where
  -- the end of a list
  pub end_is : s.frames.code.now ≡ [] → step (environment_of m) (config_of s) ≡ leaving (environment_of m) (record (here_now s.frames) { rest = [] }) (config_of s)
  end_is code =
      ap (λ (r : List WInstr). step_at (environment_of m) r (config_of s)) code
      ∙ ap (λ (r : List WInstr). leave (environment_of m) (here_now s.frames).levels (record (here_now s.frames) { rest = r }) (config_of s)) code

  pub end_leads : s.frames.code.now ≡ [] → LeadsOn (leaving (environment_of m)) [] s
  end_leads code = (here_now s.frames, subst (λ (t : Turn Event Config). t ≢ NoStep) (end_is code) (has_step m trap_code most s h))

  abbrev Told : {E : Type 0} → Result answers.Turn E → State → Type 0
  Told r b = IfOk r (λ told. Tells prints (step (environment_of m) (config_of s)) told (config_of b) (config_of b))

  pub end_told : {E : Type 0} (r : Result answers.Turn E) (b : State) → s.frames.code.now ≡ [] → PartActs (leaving (environment_of m)) [] s r b → EndsAsBefore r s b → Told r b
  end_told (Ok answer.Went) b code p k = let t = p (here_now s.frames) in record { events = t.events; printed = t.printed; is = end_is code ∙ t.is }
  end_told (Ok (answer.Printed n)) b code p k = let t = p (here_now s.frames) in record { events = t.events; printed = t.printed; is = end_is code ∙ t.is }
  end_told (Ok (answer.Ended why)) b code p k =
      let t = p (here_now s.frames) in
      record { events = t.events; printed = t.printed; is = end_is code ∙ t.is ∙ ap (λ (c : Config). Ended t.events why c) (sym k.0) }
  end_told (Err why) b code p k = tt

  pub end_unchanged : {E : Type 0} (r : Result answers.Turn E) (b : State) → EndsAsBefore r s b → OnErr r (config_of b ≡ config_of s)
  end_unchanged (Ok told) b k = tt
  end_unchanged (Err why) b k = k.0

  -- an instruction
  pub act_told : {E : Type 0} (i : WInstr) (rest : List WInstr) (o : OperationRef) (r : Result answers.Turn E) (b : State) → s.frames.code.now ≡ i ∷ rest → operation_seen o ≡ operation_of i
      → Acts (environment_of m) (operation_seen o) rest s r b → Told r b
  act_told i rest o (Ok told) b code seen k =
      let t = subst (λ (x : Operation WInstr). Acts {E = Unit {0}} (environment_of m) x rest s (Ok told) b) seen k in
      record { events = t.events; printed = t.printed; is = step_is m trap_code most s h i rest code ∙ t.is }
  act_told i rest o (Err why) b code seen k = tt

  pub act_unchanged : {E : Type 0} (o : Operation WInstr) (rest : List WInstr) (r : Result answers.Turn E) (b : State) → Acts (environment_of m) o rest s r b → OnErr r (config_of b ≡ config_of s)
  act_unchanged o rest (Ok told) b k = tt
  act_unchanged o rest (Err why) b k = k

  pub act_leads : (i : WInstr) (rest : List WInstr) (o : OperationRef) → s.frames.code.now ≡ i ∷ rest → operation_seen o ≡ operation_of i
      → act (environment_of m) (operation_seen o) (record (here_now s.frames) { rest = rest }) (config_of s) ≢ NoStep
  act_leads i rest o code seen =
      subst (λ (x : Operation WInstr). act (environment_of m) x (record (here_now s.frames) { rest = rest }) (config_of s) ≢ NoStep) (sym seen)
      (subst (λ (t : Turn Event Config). t ≢ NoStep) (step_is m trap_code most s h i rest code) (has_step m trap_code most s h))

  -- what holds of the state then
  pub running_after : {E : Type 0} (r : Result answers.Turn E) (b : State) → Told r b → OnErr r (config_of b ≡ config_of s) → Keeps (context_of m) (environment_of m) s.frames b.frames → IsRunning m trap_code most b
  running_after (Ok told) b t u k = record {
    environment = h.environment;
    trap_code = h.trap_code;
    most = h.most;
    config = stays_typed m trap_code most s h told (config_of b) t;
    calls = k.calls h.calls;
    room = k.room h.room;
  }
  running_after (Err why) b t u k = record {
    environment = h.environment;
    trap_code = h.trap_code;
    most = h.most;
    config = subst (IsTypedConfig (context_of m) (environment_of m)) (sym u) h.config;
    calls = k.calls h.calls;
    room = k.room h.room;
  }

pub none_left : {A : Type 0} (xs : List A) → length xs < 1 → xs ≡ []
none_left [] lt = refl
none_left (x ∷ xs) lt = absurd (omega (arith, lt))

pub first_left : {A : Type 0} (xs : List A) (x : A) → 1 ≤ length xs → x ≡ get_or xs 0 x → xs ≡ x ∷ take (length xs - 1) (drop 1 xs)
first_left [] x le q = absurd (omega (arith, le))
first_left {A} (y ∷ ys) x le q =
    let e : length (y ∷ ys) - 1 ≡ length ys = omega arith in
    ap (λ (z : A). z ∷ ys) (sym q) ∙ ap (λ (zs : List A). x ∷ zs) (sym (ap (λ (n : ℕ). take n ys) e ∙ take-length ys))
