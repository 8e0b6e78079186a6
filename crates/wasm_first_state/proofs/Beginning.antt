-- The first state of a module, from the frames of its first call.
use Rattle.std.proofs.Common.{◌≡◌, ◌≢◌, ◌∙◌, ℕ, ◌+◌, ◌≤◌, [], length, refl, sym, ap, subst, arith}
use Rattle.std.specs.Prelude.{Option, Some, None}
use Rattle.wasm_ast.specs.declared.types.FuncType.{FuncType}
use Rattle.wasm_ast.specs.declared.modules.Code.{Code}
use Rattle.wasm_ast.specs.declared.modules.WModule.{WModule}
use Rattle.wasm_grammar.specs.Profile.{IsInProfile}
use Rattle.wasm_typing.specs.Contexts.{body_context, context_of}
use Rattle.wasm_typing.specs.Heights.{height_of}
use Rattle.wasm_typing.specs.Modules.{IsValid}
use Rattle.wasm_execution.specs.Calls.{entered}
use Rattle.wasm_execution.specs.Configurations.{Bottom, TheEnd, Store, Config}
use Rattle.wasm_execution.specs.Environments.{Environment, Function, environment_of, function_at}
use Rattle.wasm_execution.specs.Starts.{Start, Begins, start_of}
use Rattle.wasm_machine_typing.specs.Configurations.{of_code}
use Rattle.wasm_machine_typing.specs.Lists.{count_beneath}
use Rattle.wasm_soundness.proofs.Starts.{valid_starts_typed}
use Rattle.wasm_frames.specs.declared.calls.Called.{Called}
use Rattle.wasm_frames.specs.declared.frames.Frames.{Frames}
use Rattle.wasm_frames.specs.Frames.{here_now, callers_now}
use Rattle.wasm_run_calls.specs.Parts.{IsCalled}
use Rattle.wasm_run_state.specs.declared.state.State.{State}
use Rattle.wasm_run_state.specs.States.{AreRoomy, IsRoomFor, IsRoomy, bottom_of, config_of, store_of}
use Rattle.wasm_machine.specs.Running.{IsRunning}
use Rattle.wasm_first_state.specs.First.{IsFirst}
use Rattle.wasm_first_state.proofs.Codes.{HasOwn, first_code}

some_is : {A : Type 0} (x y : A) → Some x ≡ Some y → x ≡ y
some_is x y q = cc

same_types : (f g : FuncType) (a b : Code) → Some (of_code f (Some a)) ≡ Some (of_code g (Some b)) → f ≡ g
same_types f g a b q = ap (λ (x : Function). x.ty) (some_is (of_code f (Some a)) (of_code g (Some b)) q)

same_codes : (f g : FuncType) (a b : Code) → Some (of_code f (Some a)) ≡ Some (of_code g (Some b)) → a ≡ b
same_codes f g a b q = some_is a b (ap (λ (x : Function). x.code) (some_is (of_code f (Some a)) (of_code g (Some b)) q))

module _ (m : WModule) (n : ℕ) (code : Code) (bottom : Bottom) (store : Store) (h : start_of m ≡ Begins (entered n code [] [] bottom store)) where
  abbrev e : Environment
  e = environment_of m

  pub is_there : function_at e n ≢ None
  is_there none =
      let w = first_code m n code bottom store h in
      let k : ◌≡◌ {A = Option Function} (Some (of_code w.own.ty (Some w.code))) None = sym w.own.there ∙ none in
      absurd (cc)

  pub not_of_host : (ty : FuncType) → function_at e n ≡ Some (of_code ty None) → ⊥
  not_of_host ty q =
      let w = first_code m n code bottom store h in
      let k : ◌≡◌ {A = Option Code} (Some w.code) None = ap (λ (x : Function). x.code) (some_is (of_code w.own.ty (Some w.code)) (of_code ty None) (sym w.own.there ∙ q)) in
      absurd (cc)

  module _ (called : Called) (k : IsCalled m n called) (a : State) (first : IsFirst called a.frames) where
    pub begins_so : bottom_of a.next_call ≡ bottom → store_of a ≡ store → start_of m ≡ Begins (config_of a)
    begins_so bottoms stores =
        let w = first_code m n code bottom store h in
        let same : w.code ≡ k.code = same_codes w.own.ty k.ty w.code k.code (sym w.own.there ∙ k.there) in
        h
        ∙ ap (λ (c : Config). Begins c)
        (sym w.is
        ∙ ap (λ (x : Code). entered n x [] [] bottom store) same
        ∙ ap (λ (f : ℕ). entered f k.code [] [] bottom store) (sym k.number)
        ∙ ap (λ (b : Bottom). entered called.function k.code [] [] b store) (sym bottoms)
        ∙ ap (λ (x : Store). entered called.function k.code [] [] (bottom_of a.next_call) x) (sym stores)
        ∙ sym (first.entered k.code k.has (bottom_of a.next_call) (store_of a)))

    numbered : (here_now a.frames).function ≡ n
    numbered = ap (λ (c : Config). c.here.function) (first.entered k.code k.has TheEnd (store_of a)) ∙ k.number

    has_room : IsRoomFor (context_of m) e (here_now a.frames) a.frames.values.room
    has_room ty x q =
        let there : Some (of_code ty (Some x)) ≡ Some (of_code k.ty (Some k.code)) = sym q ∙ ap (function_at e) numbered ∙ k.there in
        let tall : height_of (body_context (context_of m) ty x) x.body ≡ height_of (body_context (context_of m) k.ty k.code) k.code.body =
        ap (λ (t : FuncType). height_of (body_context (context_of m) t x) x.body) (same_types ty k.ty x k.code there)
        ∙ ap (λ (y : Code). height_of (body_context (context_of m) k.ty y) y.body) (same_codes ty k.ty x k.code there) in
        let needs = k.room in
        let room = first.room in
        omega (arith, tall, needs, room)

    roomy : IsRoomy (context_of m) e a.frames
    roomy = (has_room, subst (AreRoomy (context_of m) e (a.frames.values.room + (length (here_now a.frames).operands + count_beneath (here_now a.frames).levels))) (sym first.callers) tt)

    pub runs_so : IsValid m → IsInProfile m → start_of m ≡ Begins (config_of a) → IsRunning m e.trap_code e.most_pages a
    runs_so valid profile begins =
        let t = valid_starts_typed m (config_of a) valid profile begins in
        record {
          environment = t.environment;
          trap_code = refl;
          most = refl;
          config = t.config;
          calls = first.calls;
          room = roomy;
        }
