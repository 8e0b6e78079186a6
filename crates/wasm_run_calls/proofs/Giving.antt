-- Returns and what follows the first call.
use Rattle.std.proofs.Common.{◌≡◌, ◌≢◌, ◌∙◌, ℕ, zero, suc, ◌+◌, ◌≤◌, Bool, List, [], ◌∷◌, ◌++◌, length, take, drop, refl, sym, ap, ap₂, subst, subst₂, arith, length-append}
use Rattle.std.proofs.lemmas.List.{take-append-drop, length-take-le}
use Rattle.std.specs.Prelude.{Option, Some, None, Result}
use Rattle.std.specs.Int.{cast_signed, w64}
use Rattle.machine_steps.specs.Steps.{Turn, Went, Ended, NoStep, with_top}
use Rattle.machine_steps.specs.declared.End.TheVariants as end
use Rattle.machine_runs.specs.declared.answers.Turn as answers
use Rattle.machine_runs.specs.declared.answers.Turn.TheVariants as answer
use Rattle.wasm_ast.specs.declared.modules.Code.{Code}
use Rattle.wasm_ast.specs.declared.modules.WModule.{WModule}
use Rattle.wasm_ast.specs.declared.types.FuncType.{FuncType}
use Rattle.wasm_typing.specs.Contexts.{context_of}
use Rattle.wasm_typing.specs.declared.context.Context.{Context}
use Rattle.wasm_execution.specs.Types.{results_of}
use Rattle.wasm_execution.specs.Configurations.{Here, Bottom, TheEnd, ThenCall, Store, Config, Event, prints}
use Rattle.wasm_execution.specs.Environments.{Environment, Function, environment_of, function_at}
use Rattle.wasm_execution.specs.Turns.{first_or_zero}
use Rattle.machine_steps.specs.Steps.{with_found, with_all}
use Rattle.wasm_execution.specs.Calls.{entered, returns, give, return_now, return_at_end, ends_with}
use Rattle.wasm_machine_typing.specs.Lists.{count_beneath}
use Rattle.wasm_machine_typing.specs.Configurations.{of_code}
use Rattle.wasm_levels.specs.Lists.{count_of}
use Rattle.wasm_frames.specs.declared.frames.Frames.{Frames}
use Rattle.wasm_frames.specs.declared.calls.Called.{Called}
use Rattle.wasm_frames.specs.Frames.{here_now, callers_now, config, reach, HasCode, EntersLastCall, LeavesCallFor}
use Rattle.wasm_run_state.specs.declared.state.State.{State}
use Rattle.wasm_run_state.specs.Tells.{Tells}
use Rattle.wasm_run_state.specs.States.{bottom_of, store_of, config_of, AreRoomy, Keeps}
use Rattle.wasm_run_calls.specs.Parts.{Part, start_at, giving, following, IsCalled, IsNext, LeadsOn, PartActs}
use Rattle.wasm_run_calls.proofs.Leading.{found_step, top_step, top_is, all_step, all_is, ends_step, returns_silent, retold, room_for}

-- the function that follows begins
module _ (m : WModule) (n : ℕ) (s : State) (called entry : Called) (g : Frames) (is : IsCalled m n called) (same : entry.function ≡ called.function) (has : HasCode entry is.code) (room : entry.room ≡ called.room) (h : EntersLastCall entry s.frames g) where
  pub begun : (vs : List ℕ) → s.next_call ≡ Some n → (start : Here)
      → Tells prints (following (environment_of m) vs (record (here_now s.frames) { rest = [] }) (start_at start s)) answer.Went (start_at start s) (config_of (record s { frames = g; next_call = None }))
  begun vs q start =
      let e = environment_of m in
      let c = start_at start s in record {
        events = [];
        printed = refl;
        is =
            ap (λ (b : Bottom). give e vs [] b c) (ap bottom_of q)
            ∙ ap (λ (o : Option Function). with_found o (λ f. with_found f.code (λ code. Went [] (entered n code [] [] TheEnd c.store)))) is.there
            ∙ ap (λ (k : ℕ). Went [] (entered k is.code [] [] TheEnd c.store)) (sym (same ∙ is.number))
            ∙ ap (λ (x : Config). Went [] x) (sym (h.entered is.code has TheEnd (store_of s)));
      }

  pub begun_keeps : Keeps (context_of m) (environment_of m) s.frames g
  begun_keeps =
      let made = h.entered is.code has TheEnd (store_of s) in
      let here = ap (λ (c : Config). c.here) made in
      let nobody : callers_now g ≡ [] = ap (λ (c : Config). c.callers) made in
      let le = h.room in
      let r = is.room in
      record {
        calls = λ k. h.calls;
        room = λ k. (
          room_for (context_of m) (environment_of m) n is.ty is.code g.values.room (here_now g) is.there (ap (λ (x : Here). x.function) here ∙ same ∙ is.number) (omega (arith, le, r, room)),
          subst (λ (hs : List Here). AreRoomy (context_of m) (environment_of m) (g.values.room + (length g.values.own + count_beneath (here_now g).levels)) hs) (sym nobody) tt,
        );
      }

module _ (e : Environment) (gives : Bool) (s : State) (g : Frames) (given : count_of gives ≤ length s.frames.values.own) where
  abbrev vs : List ℕ
  vs = take (count_of gives) s.frames.values.own

  split : s.frames.values.own ≡ vs ++ drop (count_of gives) s.frames.values.own
  split = sym (take-append-drop (count_of gives) s.frames.values.own)

  long : length vs ≡ count_of gives
  long = length-take-le (count_of gives) s.frames.values.own given

  -- a call waits for the one that is over
  pub given_back : LeavesCallFor gives s.frames g → (start : Here) → Tells prints (giving e gives s (record (here_now s.frames) { rest = [] }) (start_at start s)) answer.Went (start_at start s) (config_of (record s { frames = g }))
  given_back h start =
      let c = start_at start s in record {
        events = returns e start.function (first_or_zero vs) c.store;
        printed = returns_silent e start.function (first_or_zero vs) c.store;
        is =
            ap (λ (cs : List Here). give e vs cs c.bottom c) h.callers
            ∙ ap (λ (x : Here). Went (returns e start.function (first_or_zero vs) c.store) (record c { here = x; callers = callers_now g })) (sym (h.here vs (drop (count_of gives) s.frames.values.own) split long));
      }

  pub back_keeps : (C : Context) → LeavesCallFor gives s.frames g → Keeps C e s.frames g
  back_keeps C h =
      let here = h.here vs (drop (count_of gives) s.frames.values.own) split long in
      let r = h.room in
      let l = long in
      let a = length-append vs h.caller.operands in
      let caller = h.caller in
      let later : Here = record caller { operands = vs ++ caller.operands } in
      record {
        calls = λ k. h.calls;
        room = λ k.
            let roomy = subst (λ (hs : List Here). AreRoomy C e (reach s.frames) hs) h.callers k.1 in
            let same : reach s.frames + (length caller.operands + count_beneath caller.levels) ≡ g.values.room + (length (vs ++ caller.operands) + count_beneath caller.levels) = omega (arith, r, l, a) in
            subst (λ (x : Here). AreRoomy C e g.values.room (x ∷ callers_now g)) (sym here)
            ((λ ty code there. let most = roomy.0 ty code there in omega (arith, most, r, l, a)), subst (λ (n : ℕ). AreRoomy C e n (callers_now g)) same roomy.1);
      }

top_of : (k : ℕ) (own : List ℕ) (v : ℕ) → take k own ≡ v ∷ [] → first_or_zero (take 1 own) ≡ v
top_of zero own v q = absurd (cc)
top_of (suc k) [] v q = absurd (cc)
top_of (suc k) (x ∷ xs) v q = (cc)

some_of : (k : ℕ) (own : List ℕ) (v : ℕ) → take k own ≡ v ∷ [] → 1 ≤ length own
some_of zero own v q = absurd (cc)
some_of (suc k) [] v q = absurd (cc)
some_of (suc k) (x ∷ xs) v q = omega arith

module _ (e : Environment) (gives : Bool) (s : State) (nobody : callers_now s.frames ≡ []) where
  abbrev given : List ℕ
  given = take (count_of gives) s.frames.values.own

  behind_is : (start : Here) → give e given (callers_now s.frames) (bottom_of s.next_call) (start_at start s) ≡ give e given [] (bottom_of s.next_call) (start_at start s)
  behind_is start = ap (λ (cs : List Here). give e given cs (bottom_of s.next_call) (start_at start s)) nobody

  last_is : s.next_call ≡ None → (start : Here) → give e given (callers_now s.frames) (bottom_of s.next_call) (start_at start s) ≡ ends_with given (start_at start s)
  last_is none start = behind_is start ∙ ap (λ (o : Option ℕ). give e given [] (bottom_of o) (start_at start s)) none

  value : s.next_call ≡ None → LeadsOn (giving e gives s) [] s → (v : ℕ) × (given ≡ v ∷ [])
  value none h = ends_step given (start_at h.0 s) (subst (λ (t : Turn Event Config). t ≢ NoStep) (last_is none h.0) h.1)

  pub has_value : s.next_call ≡ None → LeadsOn (giving e gives s) [] s → 1 ≤ length s.frames.values.own
  has_value none h = let v = value none h in some_of (count_of gives) s.frames.values.own v.0 v.1

  pub given_last : (g : Frames) (number : ℕ) → s.next_call ≡ None → LeadsOn (giving e gives s) [] s → g ≡ s.frames → number ≡ first_or_zero (take 1 s.frames.values.own) → (start : Here)
      → Tells prints (giving e gives s (record (here_now s.frames) { rest = [] }) (start_at start s)) (answer.Ended (end.Value (cast_signed w64 number))) (start_at start s) (config_of (record s { frames = g }))
  given_last g number none h q is start =
      let v = value none h in
      let same : number ≡ v.0 = is ∙ top_of (count_of gives) s.frames.values.own v.0 v.1 in record {
        events = [];
        printed = refl;
        is =
            last_is none start ∙ ap (λ (vs : List ℕ). ends_with vs (start_at start s)) v.1
            ∙ ap (λ (n : ℕ). Ended [] (end.Value (cast_signed w64 n)) (start_at start s)) (sym same);
      }

  pub next_there : (n : ℕ) → s.next_call ≡ Some n → LeadsOn (giving e gives s) [] s → IsNext e n
  next_there n q h =
      let c = start_at h.0 s in
      let t = subst (λ (x : Turn Event Config). x ≢ NoStep) (behind_is h.0 ∙ ap (λ (o : Option ℕ). give e given [] (bottom_of o) c) q) h.1 in
      let f = found_step (function_at e n) (λ f. with_found f.code (λ code. Went [] (entered n code [] [] TheEnd c.store))) t in
      let d = found_step f.0.code (λ code. Went [] (entered n code [] [] TheEnd c.store)) f.2 in
      (f.0.ty, d.0, f.1 ∙ ap (λ (o : Option Code). Some (of_code f.0.ty o)) d.1)

  pub given_next : {E : Type 0} (g : Frames) (r : Result answers.Turn E) (b : State) → g ≡ s.frames → PartActs (following e given) [] (record s { frames = g }) r b → PartActs (giving e gives s) [] s r b
  given_next g r b q h =
      retold (following e given) (giving e gives s) [] [] s b r behind_is
      (subst (λ (f : Frames). PartActs (following e given) [] (record s { frames = f }) r b) q h)

-- returns, by what the call that runs gives
module _ (e : Environment) (gives : Bool) (s : State) (known : (f : Function) → function_at e s.frames.function ≡ Some f → results_of f.ty.result ≡ count_of gives) where
  abbrev own : List ℕ
  own = s.frames.values.own

  pub record Ready (part : Part) : Type 0 where
    pub given : count_of gives ≤ length own
    pub steps : LeadsOn (giving e gives s) [] s
    pub same : (start : Here) → part (record (here_now s.frames) { rest = [] }) (start_at start s) ≡ giving e gives s (record (here_now s.frames) { rest = [] }) (start_at start s)

  pub return_ready : LeadsOn (return_now e) [] s → Ready (return_now e)
  return_ready h =
      let c = start_at h.0 s in
      let f = found_step (function_at e s.frames.function) (λ f. with_top (results_of f.ty.result) own (λ vs beneath. give e vs c.callers c.bottom c)) h.1 in
      let k = known f.0 f.1 in
      let t = top_step (results_of f.0.ty.result) own (λ vs beneath. give e vs c.callers c.bottom c) f.2 in
      record {
        given = subst (λ (n : ℕ). n ≤ length own) k t.0;
        steps = (h.0, subst (λ (n : ℕ). give e (take n own) c.callers c.bottom c ≢ NoStep) k t.1);
        same = λ start.
            let d = start_at start s in
            ap (λ (o : Option Function). with_found o (λ f. with_top (results_of f.ty.result) own (λ vs beneath. give e vs d.callers d.bottom d))) f.1
            ∙ top_is (results_of f.0.ty.result) own (λ vs beneath. give e vs d.callers d.bottom d) t.0
            ∙ ap (λ (n : ℕ). give e (take n own) d.callers d.bottom d) k;
      }

  pub end_ready : LeadsOn (return_at_end e) [] s → Ready (return_at_end e)
  end_ready h =
      let c = start_at h.0 s in
      let f = found_step (function_at e s.frames.function) (λ f. with_all (results_of f.ty.result) own (λ vs. give e vs c.callers c.bottom c)) h.1 in
      let k = known f.0 f.1 in
      let t = all_step (results_of f.0.ty.result) own (λ vs. give e vs c.callers c.bottom c) f.2 in
      record {
        given = subst (λ (n : ℕ). n ≤ length own) k t.0;
        steps = (h.0, subst (λ (n : ℕ). give e (take n own) c.callers c.bottom c ≢ NoStep) k t.2);
        same = λ start.
            let d = start_at start s in
            ap (λ (o : Option Function). with_found o (λ f. with_all (results_of f.ty.result) own (λ vs. give e vs d.callers d.bottom d))) f.1
            ∙ all_is (results_of f.0.ty.result) own (λ vs. give e vs d.callers d.bottom d) t.0 t.1
            ∙ ap (λ (n : ℕ). give e (take n own) d.callers d.bottom d) k;
      }
