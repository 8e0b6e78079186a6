-- What a part of a step finds where it leads on.
use Rattle.std.proofs.Common.{◌≡◌, ◌≢◌, ◌∙◌, ℕ, zero, suc, ◌+◌, ◌<◌, ◌≤◌, Bool, true, false, List, [], ◌∷◌, ◌++◌, length, take, drop, slice_get, reverse, refl, sym, ap, subst, arith}
use Rattle.std.specs.Prelude.{Option, Some, None, Result, Ok, Err, if◌then◌else◌}
use Rattle.std.specs.List.{flat_map}
use Rattle.machine_steps.specs.Steps.{Turn, Went, NoStep, with_top}
use Rattle.machine_runs.specs.declared.answers.Turn as answer
use Rattle.wasm_ast.specs.declared.types.FuncType.{FuncType}
use Rattle.wasm_ast.specs.declared.modules.Code.{Code}
use Rattle.wasm_ast.specs.declared.instructions.WInstr.{WInstr}
use Rattle.wasm_typing.specs.declared.context.Context.{Context}
use Rattle.wasm_typing.specs.Contexts.{body_context}
use Rattle.wasm_typing.specs.Heights.{height_of}
use Rattle.wasm_execution.specs.Types.{results_of}
use Rattle.wasm_execution.specs.Configurations.{Here, Store, Config, Event, Called, Returned, prints}
use Rattle.wasm_execution.specs.Environments.{Environment, Function, function_at, is_allocator}
use Rattle.machine_steps.specs.Steps.{with_found, with_none, with_all}
use Rattle.wasm_execution.specs.Calls.{calls, returns, give, return_now, return_at_end, ends_with}
use Rattle.wasm_machine_typing.specs.Configurations.{of_code}
use Rattle.wasm_run_state.specs.declared.state.State.{State}
use Rattle.wasm_run_state.specs.States.{IsRoomFor}
use Rattle.wasm_frames.specs.Frames.{here_now}
use Rattle.wasm_run_state.specs.Tells.{Tells}
use Rattle.wasm_run_calls.specs.Parts.{Part, PartActs, start_at}

module _ {Y : Type 0} where
  pub found_step : {X : Type 0} (o : Option X) (k : X → Turn Event Y) → with_found o k ≢ NoStep → (x : X) × (o ≡ Some x) × (k x ≢ NoStep)
  found_step None k h = absurd (h refl)
  found_step (Some x) k h = (x, refl, h)

  pub top_step : (n : ℕ) (vs : List ℕ) (k : List ℕ → List ℕ → Turn Event Y) → with_top n vs k ≢ NoStep → (n ≤ length vs) × (k (take n vs) (drop n vs) ≢ NoStep)
  top_step zero vs k h = (omega arith, h)
  top_step (suc n) [] k h = absurd (h refl)
  top_step (suc n) (v ∷ vs) k h = let i = top_step n vs (λ taken beneath. k (v ∷ taken) beneath) h in let le = i.0 in (omega (arith, le), i.1)

  pub top_is : (n : ℕ) (vs : List ℕ) (k : List ℕ → List ℕ → Turn Event Y) → n ≤ length vs → with_top n vs k ≡ k (take n vs) (drop n vs)
  top_is zero vs k le = refl
  top_is (suc n) [] k le = absurd (omega (arith, le))
  top_is (suc n) (v ∷ vs) k le = top_is n vs (λ taken beneath. k (v ∷ taken) beneath) (omega (arith, le))

  none_step : (vs : List ℕ) (t : Turn Event Y) → with_none vs t ≢ NoStep → (vs ≡ []) × (t ≢ NoStep)
  none_step [] t h = (refl, h)
  none_step (v ∷ vs) t h = absurd (h refl)

  pub all_step : (n : ℕ) (vs : List ℕ) (k : List ℕ → Turn Event Y) → with_all n vs k ≢ NoStep → (n ≤ length vs) × (drop n vs ≡ []) × (k (take n vs) ≢ NoStep)
  all_step n vs k h =
      let t = top_step n vs (λ taken beneath. with_none beneath (k taken)) h in
      let e = none_step (drop n vs) (k (take n vs)) t.1 in
      (t.0, e.0, e.1)

  pub all_is : (n : ℕ) (vs : List ℕ) (k : List ℕ → Turn Event Y) → n ≤ length vs → drop n vs ≡ [] → with_all n vs k ≡ k (take n vs)
  all_is n vs k le e = top_is n vs (λ taken beneath. with_none beneath (k taken)) le ∙ ap (λ (bs : List ℕ). with_none bs (k (take n vs))) e

pub ends_step : (vs : List ℕ) (c : Config) → ends_with vs c ≢ NoStep → (v : ℕ) × (vs ≡ v ∷ [])
ends_step [] c h = absurd (h refl)
ends_step (v ∷ []) c h = (v, refl)
ends_step (v ∷ (w ∷ vs)) c h = absurd (h refl)

returned_silent : (b : Bool) (n r : ℕ) (s : Store) → flat_map prints (if b then Returned n r s ∷ [] else []) ≡ []
returned_silent true n r s = refl
returned_silent false n r s = refl

pub returns_silent : (e : Environment) (n r : ℕ) (s : Store) → flat_map prints (returns e n r s) ≡ []
returns_silent e n r s = returned_silent (is_allocator e n) n r s

called_silent : (b : Bool) (n r : ℕ) (s : Store) → flat_map prints (if b then Called n r s ∷ [] else []) ≡ []
called_silent true n r s = refl
called_silent false n r s = refl

pub calls_silent : (e : Environment) (n r : ℕ) (s : Store) → flat_map prints (calls e n r s) ≡ []
calls_silent e n r s = called_silent (is_allocator e n) n r s

-- a part that comes to the same
pub retold : {E : Type 0} (part other : Part) (rest more : List WInstr) (a b : State) (r : Result answer.Turn E)
    → ((start : Here) → other (record (here_now a.frames) { rest = more }) (start_at start a) ≡ part (record (here_now a.frames) { rest = rest }) (start_at start a)) → PartActs part rest a r b → PartActs other more a r b
retold part other rest more a b (Ok told) q h = λ start. let t = h start in record { events = t.events; printed = t.printed; is = q start ∙ t.is }
retold part other rest more a b (Err why) q h = tt

pub same_function : (ty u : FuncType) (code d : Code) → ◌≡◌ {A = Option Function} (Some (of_code ty (Some code))) (Some (of_code u (Some d))) → (ty ≡ u) × (code ≡ d)
same_function ty u code d q =
    let f : of_code ty (Some code) ≡ of_code u (Some d) = (cc) in
    let k : ◌≡◌ {A = Option Code} (Some code) (Some d) = ap (λ (x : Function). x.code) f in
    (ap (λ (x : Function). x.ty) f, (cc))

-- there is room for a call that begins
pub room_for : (C : Context) (e : Environment) (n : ℕ) (ty : FuncType) (code : Code) (room : ℕ) (h : Here) → function_at e n ≡ Some (of_code ty (Some code)) → h.function ≡ n
    → height_of (body_context C ty code) code.body ≤ room → IsRoomFor C e h room
room_for C e n ty code room h there q le ty' code' there' =
    let p = same_function ty ty' code code' (sym there ∙ ap (function_at e) (sym q) ∙ there') in
    let k = subst (λ (t : FuncType). height_of (body_context C t code) code.body ≤ room) p.0 le in
    let l = subst (λ (d : Code). height_of (body_context C ty' d) d.body ≤ room) p.1 k in
    omega (arith, l)
