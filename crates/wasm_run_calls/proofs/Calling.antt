-- Calls by number.
use Rattle.std.proofs.Common.{◌≡◌, ◌≢◌, ◌∙◌, ℕ, ◌+◌, ◌≤◌, List, [], ◌∷◌, length, take, drop, reverse, refl, sym, ap, ap₂, subst, subst₂, Bor, arith, length-drop}
use Rattle.std.specs.Prelude.{Option, Some, None}
use Rattle.std.specs.Int.{cast_signed, w64}
use Rattle.machine_steps.specs.Steps.{Turn, Went, NoStep, with_top}
use Rattle.machine_runs.specs.declared.answers.Turn.TheVariants as answer
use Rattle.wasm_ast.specs.declared.types.FuncType.{FuncType}
use Rattle.wasm_ast.specs.declared.modules.Code.{Code}
use Rattle.wasm_ast.specs.declared.modules.WModule.{WModule}
use Rattle.wasm_ast.specs.declared.instructions.WInstr.{WInstr}
use Rattle.wasm_typing.specs.Contexts.{context_of}
use Rattle.wasm_typing.specs.declared.context.Context.{Context}
use Rattle.wasm_execution.specs.Configurations.{Here, TheEnd, Config, Event, Print, prints}
use Rattle.wasm_execution.specs.Environments.{Environment, Function, environment_of, function_at}
use Rattle.wasm_execution.specs.Turns.{first_or_zero}
use Rattle.machine_steps.specs.Steps.{with_found}
use Rattle.wasm_execution.specs.Calls.{entered, calls, call, call_direct}
use Rattle.wasm_machine_typing.specs.Lists.{count_beneath}
use Rattle.wasm_machine_typing.specs.Configurations.{of_code}
use Rattle.wasm_values.specs.Stacked.{Stacked}
use Rattle.wasm_levels.specs.Lists.{levels_of, beneath_all}
use Rattle.wasm_call_steps.specs.Callers.{callers_of}
use Rattle.wasm_frames.specs.declared.frames.Frames.{Frames}
use Rattle.wasm_frames.specs.declared.calls.Called.{Called}
use Rattle.wasm_frames.specs.Frames.{here_now, callers_now, EntersCall, IsAsBefore}
use Rattle.wasm_run_state.specs.declared.state.State.{State}
use Rattle.wasm_run_state.specs.Tells.{Tells}
use Rattle.wasm_run_state.specs.States.{bottom_of, store_of, config_of, AreRoomy, Keeps}
use Rattle.wasm_run_calls.specs.Parts.{start_at, IsCalled, LeadsOn, prints_top}
use Rattle.wasm_run_calls.proofs.Leading.{found_step, top_step, top_is, calls_silent, room_for}

-- a call that leads on finds its function and its arguments
pub call_found : (e : Environment) (n : ℕ) (rest : List WInstr) (s : State) → LeadsOn (call_direct e n) rest s → (f : Function) × (function_at e n ≡ Some f) × (length f.ty.params ≤ length s.frames.values.own)
call_found e n rest s h =
    let c = start_at h.0 s in
    let here = record (here_now s.frames) { rest = rest } in
    let f = found_step (function_at e n) (λ f. call e n f here c) h.1 in
    (f.0, f.1, (top_step (length f.0.ty.params) s.frames.values.own _ f.2).0)

pub arguments_there : (f g : Function) (o : Option Function) (k n params : ℕ) → o ≡ Some f → o ≡ Some g → params ≡ length g.ty.params → length f.ty.params ≤ n → params ≤ n
arguments_there f g o k n params p q r le =
    let s : ◌≡◌ {A = Option Function} (Some f) (Some g) = sym p ∙ q in
    let t : f ≡ g = (cc) in
    let u = ap (λ (x : Function). length x.ty.params) t in
    omega (arith, r, le, u)

roomier : (C : Context) (e : Environment) (hs : List Here) (n m : ℕ) → n ≤ m → AreRoomy C e n hs → AreRoomy C e m hs
roomier C e [] n m le k = tt
roomier C e (h ∷ hs) n m le k =
    let x = length h.operands + count_beneath h.levels in
    ((λ ty code q. let b = k.0 ty code q in omega (arith, b, le)), roomier C e hs (n + x) (m + x) (omega (arith, le)) k.1)

pub as_before_keeps : (C : Context) (e : Environment) (f g : Frames) → IsAsBefore f g → Keeps C e f g
as_before_keeps C e f g h = record {
  calls = h.calls;
  room = λ k. subst₂ (λ (x : Here) (hs : List Here). AreRoomy C e g.values.room (x ∷ hs)) (sym h.here) (sym h.callers) (roomier C e (here_now f ∷ callers_now f) f.values.room g.values.room h.room k);
}

module _ (m : WModule) (n : ℕ) (s : State) (called : Called) (rest : List WInstr) (g : Frames) (is : IsCalled m n called) (h : EntersCall called rest s.frames g) where
  abbrev e : Environment
  e = environment_of m

  abbrev own : List ℕ
  own = s.frames.values.own

  pub called_on : called.params ≤ length own → (start : Here) → Tells prints (call_direct e n (record (here_now s.frames) { rest = rest }) (start_at start s)) answer.Went (start_at start s) (config_of (record s { frames = g }))
  called_on le start =
      let c = start_at start s in
      let here = record (here_now s.frames) { rest = rest } in
      let say = calls e n (first_or_zero (reverse (take called.params own))) c.store in
      let go : List ℕ → List ℕ → Turn Event Config = λ arguments beneath. Went (calls e n (first_or_zero (reverse arguments)) c.store) (entered n is.code arguments (record here { operands = beneath } ∷ c.callers) c.bottom c.store) in
      record {
        events = say;
        printed = calls_silent e n (first_or_zero (reverse (take called.params own))) c.store;
        is =
            ap (λ (o : Option Function). with_found o (λ f. call e n f here c)) is.there
            ∙ ap (λ (k : ℕ). with_top k own go) (sym is.params)
            ∙ top_is called.params own go le
            ∙ ap (λ (k : ℕ). Went say (entered k is.code (take called.params own) (record here { operands = drop called.params own } ∷ c.callers) c.bottom c.store)) (sym is.number)
            ∙ ap (λ (x : Config). Went say x) (sym (h.entered is.code is.has (bottom_of s.next_call) (store_of s)));
      }

  pub called_keeps : Keeps (context_of m) e s.frames g
  called_keeps =
      let C = context_of m in
      let made = ap (λ (c : Config). c.here) (h.entered is.code is.has (bottom_of s.next_call) (store_of s)) in
      let le = h.room in
      let more = h.more in
      let r = is.room in
      let x = g.values.room + (length g.values.own + count_beneath (here_now g).levels) in
      let l = length-drop called.params own in
      record {
        calls = h.calls;
        room = λ k. (
          room_for C e n is.ty is.code g.values.room (here_now g) is.there (ap (λ (y : Here). y.function) made ∙ is.number) (omega (arith, le, r)),
          subst (λ (hs : List Here). AreRoomy C e x hs) (sym h.callers) (
            (λ ty code q. let b = k.0 ty code q in omega (arith, b, more, l)),
            roomier C e (callers_now s.frames) (s.frames.values.room + (length own + count_beneath (here_now s.frames).levels)) (x + (length (drop called.params own) + count_beneath (here_now s.frames).levels)) (omega (arith, more, l)) k.1,
          ),
        );
      }

-- a call of the host's function
pub print_is : (e : Environment) (n : ℕ) (ty : FuncType) (params : ℕ) (rest : List WInstr) (s : State) → function_at e n ≡ Some (of_code ty None) → params ≡ length ty.params → params ≤ length s.frames.values.own → (start : Here)
    → call_direct e n (record (here_now s.frames) { rest = rest }) (start_at start s) ≡ prints_top params (record (here_now s.frames) { rest = rest }) (start_at start s)
print_is e n ty params rest s there q le start =
    let c = start_at start s in
    let here = record (here_now s.frames) { rest = rest } in
    let go : List ℕ → List ℕ → Turn Event Config = λ arguments beneath. Went (Print (first_or_zero arguments) ∷ []) (record c { here = record here { operands = beneath } }) in
    ap (λ (o : Option Function). with_found o (λ f. call e n f here c)) there ∙ ap (λ (k : ℕ). with_top k s.frames.values.own go) (sym q) ∙ top_is params s.frames.values.own go le

pub printed : (s : State) (params number : ℕ) (values : Stacked) (rest : Bor (List WInstr)) → number ≡ first_or_zero (take params s.frames.values.own) → values.own ≡ drop params s.frames.values.own → values.beneath ≡ s.frames.values.beneath → (start : Here)
    → Tells prints (prints_top params (record (here_now s.frames) { rest = rest.now }) (start_at start s)) (answer.Printed (cast_signed w64 number)) (start_at start s) (config_of (record s { frames = record s.frames { code = rest; values = values } }))
printed s params number values rest q own beneath start =
    let c = start_at start s in record {
      events = Print number ∷ [];
      printed = (number, refl, refl);
      is =
          ap (λ (n : ℕ). Went (Print n ∷ []) (record c { here = record (here_now s.frames) { operands = drop params s.frames.values.own; rest = rest.now } })) (sym q)
          ∙ ap₂ (λ (os bs : List ℕ). Went (Print number ∷ []) (record {
            here = record { function = s.frames.function; argument = s.frames.argument; locals = s.frames.locals.own; operands = os; rest = rest.now; levels = levels_of s.frames.levels.own bs };
            callers = callers_of s.frames.callers s.frames.levels.beneath (beneath_all s.frames.levels.own bs) s.frames.locals.beneath;
            bottom = bottom_of s.next_call;
            store = store_of s;
          })) (sym own) (sym beneath);
    }
