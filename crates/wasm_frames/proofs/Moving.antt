-- Lists that are opened, left and branched to, as configurations.
use Rattle.std.proofs.Common.{◌≡◌, ◌∙◌, ℕ, ◌+◌, Bool, List, [], ◌∷◌, length, refl, sym, ap, ap₂, subst₂, Bor, arith, length-append}
use Rattle.std.specs.Prelude.{Option, Some, None, is_some}
use Rattle.wasm_ast.specs.declared.types.ValTy.{ValTy}
use Rattle.wasm_ast.specs.declared.instructions.WInstr.{WInstr}
use Rattle.machine_steps.specs.Steps.{Turn, Went}
use Rattle.wasm_execution.specs.Types.{results_of}
use Rattle.wasm_execution.specs.Configurations.{Here, Config, Event}
use Rattle.wasm_execution.specs.Environments.{Environment}
use Rattle.wasm_execution.specs.Turns.{goes_on}
use Rattle.wasm_execution.specs.Control as machine
use Rattle.wasm_machine_typing.specs.Lists.{count_beneath}
use Rattle.wasm_values.specs.Stacked.{Stacked}
use Rattle.wasm_levels.specs.declared.row.Aim.{Aim}
use Rattle.wasm_levels.specs.declared.row.OpenList.{OpenList}
use Rattle.wasm_levels.specs.Rows.{Rows}
use Rattle.wasm_levels.specs.Lists.{aim_of, takes_of, count_of, around, outer, levels_of, beneath_all}
use Rattle.wasm_list_steps.specs.Moves.{capacity, shown, Stays, EntersList}
use Rattle.wasm_list_steps.proofs.Landing.{around-outer}
use Rattle.wasm_call_steps.specs.Callers.{callers_of, AreWaiting}
use Rattle.wasm_frames.specs.declared.frames.Frames.{Frames}
use Rattle.wasm_frames.specs.Frames.{here_now, config_at, StaysInCall, Moves}

-- what lies beneath a list is that of the lists around it and what lies beneath the call
pub parts_long : (ls : List OpenList) (b : List ℕ) → length b ≡ count_beneath (levels_of ls b) + length (beneath_all ls b)
parts_long [] b = omega arith
parts_long (l ∷ ls) b =
    let i = parts_long ls (outer l b) in
    let s = ap length (around-outer l b) ∙ length-append (around l b) (outer l b) in
    omega (arith, i, s)

module _ (f : Frames) (values : Stacked) (levels : Rows) (code : Bor (List WInstr)) (s : Stays f.values f.levels values levels) where
  abbrev after : Frames
  after = record f { code = code; values = values; levels = levels }

  pub stays_in_call : capacity values ≡ capacity f.values → StaysInCall f (record f { code = code; values = values; levels = levels })
  stays_in_call q =
      let a = parts_long f.levels.own f.values.beneath in
      let b = parts_long levels.own values.beneath in
      let u = ap length s.operands in
      record {
        function = refl;
        callers = ap₂ (λ (ls : List OpenList) (bs : List ℕ). callers_of f.callers ls bs f.locals.beneath) s.lists s.operands;
        reach = omega (arith, a, b, u, q);
        calls = λ k. record { laid = s.laid k.laid; waiting = subst₂ (λ (ls : List OpenList) (bs : List ℕ). AreWaiting f.callers ls bs f.locals.beneath) (sym s.lists) (sym s.operands) k.waiting };
      }

  pub moved : (part : Environment → Here → Config → Turn Event Config) (rest : List WInstr)
      → ((e : Environment) (here : Here) (c : Config) → part e (shown f.values f.levels here) c ≡ goes_on (record (shown values levels here) { rest = code.now }) c)
      → Moves part rest f (record f { code = code; values = values; levels = levels })
  moved part rest h e start bottom store =
      h e (record (here_now f) { rest = rest }) (config_at start f bottom store)
      ∙ ap (λ (cs : List Here). Went [] (record { here = here_now after; callers = cs; bottom = bottom; store = store }))
      (sym (ap₂ (λ (ls : List OpenList) (bs : List ℕ). callers_of f.callers ls bs f.locals.beneath) s.lists s.operands))

  pub opened : (aim : Aim) (gives : Bool) (k : ℕ) (rest : List WInstr) (t : Option ValTy) → results_of t ≡ count_of gives → takes_of aim gives ≡ k → EntersList aim gives rest f.values f.levels values levels
      → Moves (λ e here c. machine.enter (aim_of aim) k t code.now here c) rest f (record f { code = code; values = values; levels = levels })
  opened aim gives k rest t given taken h e start bottom store =
      ap (λ (n : ℕ). machine.enter (aim_of aim) n t code.now (record (here_now f) { rest = rest }) (config_at start f bottom store)) (sym taken)
      ∙ h (record (here_now f) { rest = rest }) (config_at start f bottom store) t code.now given refl
      ∙ ap (λ (cs : List Here). Went [] (record { here = here_now after; callers = cs; bottom = bottom; store = store }))
      (sym (ap₂ (λ (ls : List OpenList) (bs : List ℕ). callers_of f.callers ls bs f.locals.beneath) s.lists s.operands))

pub given : (t : Option ValTy) (gives : Bool) → gives ≡ is_some t → results_of t ≡ count_of gives
given None gives q = ap count_of (sym q)
given (Some t) gives q = ap count_of (sym q)
