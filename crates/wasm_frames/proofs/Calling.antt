-- Calls that are entered and left, as configurations.
use Rattle.std.proofs.Common.{◌≡◌, ◌∙◌, ℕ, ◌+◌, Bool, List, [], ◌∷◌, length, take, refl, sym, ap, ap₂, subst, arith}
use Rattle.std.specs.Prelude.{Option, Some, None, MatchOption}
use Rattle.wasm_ast.specs.declared.instructions.WInstr.{WInstr}
use Rattle.wasm_ast.specs.declared.modules.Code.{Code}
use Rattle.wasm_execution.specs.Configurations.{Here, Bottom, Store, Config}
use Rattle.wasm_execution.specs.Calls.{entered}
use Rattle.wasm_levels.specs.declared.row.OpenList.{OpenList}
use Rattle.wasm_levels.specs.Lists.{count_of, beneath_all}
use Rattle.wasm_call_steps.specs.declared.callers.Waiting.{Waiting}
use Rattle.wasm_call_steps.specs.Callers.{Run, callers_of, AreWaiting, AreCalls, IsReturned}
use Rattle.wasm_frames.specs.declared.frames.Frames.{Frames}
use Rattle.wasm_frames.specs.declared.calls.Called.{Called}
use Rattle.wasm_frames.specs.Frames.{rows, here_now, callers_now, reach, EntersCall, EntersLastCall}
use Rattle.wasm_frames.proofs.Moving.{parts_long}

pub room_left : (gives : Bool) (w : Waiting) (f : Frames) (after : Run) (r : IsReturned gives w (rows f) after) → after.values.room + count_of gives ≡ reach f
room_left gives w f after r = let p = parts_long f.levels.own f.values.beneath in let k = r.room in omega (arith, p, k)

abbrev behind : List Here → List Here
behind [] = []
behind (h ∷ hs) = hs

none_waits : (ws : List Waiting) (ls : List OpenList) (b l : List ℕ) → callers_of ws ls b l ≡ [] → ws ≡ []
none_waits [] ls b l q = refl
none_waits (w ∷ ws) ls b l q = absurd (cc)

module _ (called : Called) (rest : List WInstr) (f g : Frames) (last : callers_now f ≡ []) (none : called.params ≡ 0) (h : EntersCall called rest f g) (calls : AreCalls (rows f)) where
  emptied : (popped : Option Waiting) (cs : List Waiting) → MatchOption popped ((g.callers ≡ []) × (cs ≡ [])) (λ w. g.callers ≡ w ∷ cs) → cs ≡ []
  emptied None cs m = m.1
  emptied (Some w) cs m =
      let under = beneath_all g.levels.own g.values.beneath in
      let all = ap (λ (ws : List Waiting). behind (callers_of ws g.levels.beneath under g.locals.beneath)) m in
      none_waits cs _ _ _ (sym all ∙ ap behind h.callers ∙ last)

  pub last_entered : (popped : Option Waiting) (cs : List Waiting) → MatchOption popped ((g.callers ≡ []) × (cs ≡ [])) (λ w. g.callers ≡ w ∷ cs) → EntersLastCall called f (record g { callers = cs })
  last_entered popped cs m =
      let nobody = emptied popped cs m in
      let under = beneath_all g.levels.own g.values.beneath in
      record {
        entered = λ code has bottom store.
            let here = ap (λ (c : Config). c.here) (h.entered code has bottom store) in
            let nothing : take called.params f.values.own ≡ [] = ap (λ (n : ℕ). take n f.values.own) none in
            ap₂ (λ (x : Here) (ws : List Waiting). record { here = x; callers = callers_of ws g.levels.beneath under g.locals.beneath; bottom = bottom; store = store }) here nobody
            ∙ ap (λ (args : List ℕ). entered called.function code args [] bottom store) nothing;
        calls = record {
          laid = (h.calls calls).laid;
          waiting = subst (λ (ws : List Waiting). AreWaiting ws g.levels.beneath under g.locals.beneath) (sym nobody) tt;
        };
        room = h.room;
      }
