-- Ifs: a condition that is taken, and put back where memory is short.
use Rattle.std.proofs.Common.{◌≡◌, ◌≢◌, ◌∙◌, ℕ, zero, suc, ◌+◌, List, [], ◌∷◌, length, refl, sym, ap, ap₂, subst, Bor, arith}
use Rattle.std.specs.Prelude.{Option, Result, Ok, Err, OnOk}
use Rattle.wasm_ast.specs.declared.types.ValTy.{ValTy}
use Rattle.wasm_ast.specs.declared.instructions.WInstr.{WInstr}
use Rattle.wasm_ast.specs.Operations as op
use Rattle.machine_steps.specs.Steps.{Turn, Went}
use Rattle.wasm_execution.specs.Configurations.{Here, Bottom, Store, Config, Event}
use Rattle.wasm_execution.specs.Control.{enter_if, enter_either}
use Rattle.wasm_machine_typing.specs.Lists.{count_beneath}
use Rattle.wasm_values.specs.Stacked.{Stacked}
use Rattle.wasm_levels.specs.Lists.{levels_of, beneath_all, AreLaid}
use Rattle.wasm_call_steps.specs.Callers.{callers_of, AreWaiting}
use Rattle.wasm_frames.specs.declared.frames.Frames.{Frames}
use Rattle.wasm_frames.specs.Frames.{here_now, config_at, StaysInCall, Goes, PutsBack}

pub same_stacked : (a b : Stacked) → a.own ≡ b.own → a.beneath ≡ b.beneath → a.room ≡ b.room → a ≡ b
same_stacked a b p q r =
    let mk : List ℕ → List ℕ → ℕ → Stacked = λ own beneath room. record { own = own; beneath = beneath; room = room } in
    ap (λ (x : List ℕ). mk x a.beneath a.room) p ∙ ap (λ (x : List ℕ). mk b.own x a.room) q ∙ ap (λ (x : ℕ). mk b.own b.beneath x) r

pub stays_then : (a b d : Frames) → StaysInCall a b → StaysInCall b d → StaysInCall a d
stays_then a b d s t = record { function = t.function ∙ s.function; callers = t.callers ∙ s.callers; reach = t.reach ∙ s.reach; calls = λ k. t.calls (s.calls k) }

module _ (f : Frames) (values : Stacked) (v : ℕ) (own : f.values.own ≡ v ∷ values.own) (beneath : values.beneath ≡ f.values.beneath) where
  pub popped_stays : (code : Bor (List WInstr)) → values.room ≡ f.values.room + 1 → StaysInCall f (record f { code = code; values = values })
  popped_stays code room =
      let l = ap length own in
      let b = ap (λ (bs : List ℕ). count_beneath (levels_of f.levels.own bs)) beneath in
      record {
        function = refl;
        callers = ap (λ (bs : List ℕ). callers_of f.callers f.levels.beneath (beneath_all f.levels.own bs) f.locals.beneath) beneath;
        reach = omega (arith, l, b, room);
        calls = λ k. record {
          laid = subst (λ (bs : List ℕ). AreLaid f.levels.own bs) (sym beneath) k.laid;
          waiting = subst (λ (bs : List ℕ). AreWaiting f.callers f.levels.beneath (beneath_all f.levels.own bs) f.locals.beneath) (sym beneath) k.waiting;
        };
      }

  -- what follows from the operands with the number on top
  pub taken : (part : Here → Config → Turn Event Config) (rest : List WInstr) (start : Here) (bottom : Bottom) (store : Store)
      → part (record (here_now f) { rest = rest }) (config_at start f bottom store)
      ≡ part (record (here_now (record f { values = values })) { operands = v ∷ values.own; rest = rest }) (config_at start (record f { values = values }) bottom store)
  taken part rest start bottom store =
      ap₂ (λ (os bs : List ℕ). part (record { function = f.function; argument = f.argument; locals = f.locals.own; operands = os; rest = rest; levels = levels_of f.levels.own bs })
      (record { here = start; callers = callers_of f.callers f.levels.beneath (beneath_all f.levels.own bs) f.locals.beneath; bottom = bottom; store = store })) own (sym beneath)

  module _ (t : Option ValTy) where
    pub if_zero : (arm : List WInstr) (code : Bor (List WInstr)) → v ≡ 0 → Goes (op.If t arm) code.now f (record f { code = code; values = values })
    if_zero arm code q e start bottom store =
        taken (enter_if t arm) code.now start bottom store
        ∙ ap (λ (n : ℕ). enter_if t arm (record (here_now (record f { values = values })) { operands = n ∷ values.own; rest = code.now }) (config_at start (record f { values = values }) bottom store)) q

    if_more : (n : ℕ) (arm rest : List WInstr) (new : Frames) → v ≡ suc n → Goes (op.Block t arm) rest (record f { values = values }) new → Goes (op.If t arm) rest f new
    if_more n arm rest new q h e start bottom store =
        taken (enter_if t arm) rest start bottom store
        ∙ ap (λ (m : ℕ). enter_if t arm (record (here_now (record f { values = values })) { operands = m ∷ values.own; rest = rest }) (config_at start (record f { values = values }) bottom store)) q
        ∙ h e start bottom store

    pub either_zero : (first second rest : List WInstr) (new : Frames) → v ≡ 0 → Goes (op.Block t second) rest (record f { values = values }) new → Goes (op.IfElse t first second) rest f new
    either_zero first second rest new q h e start bottom store =
        taken (enter_either t first second) rest start bottom store
        ∙ ap (λ (m : ℕ). enter_either t first second (record (here_now (record f { values = values })) { operands = m ∷ values.own; rest = rest }) (config_at start (record f { values = values }) bottom store)) q
        ∙ h e start bottom store

    either_more : (n : ℕ) (first second rest : List WInstr) (new : Frames) → v ≡ suc n → Goes (op.Block t first) rest (record f { values = values }) new → Goes (op.IfElse t first second) rest f new
    either_more n first second rest new q h e start bottom store =
        taken (enter_either t first second) rest start bottom store
        ∙ ap (λ (m : ℕ). enter_either t first second (record (here_now (record f { values = values })) { operands = m ∷ values.own; rest = rest }) (config_at start (record f { values = values }) bottom store)) q
        ∙ h e start bottom store

    pub if_other : (arm rest : List WInstr) (new : Frames) → (n : ℕ) → v ≡ n → n ≢ 0 → Goes (op.Block t arm) rest (record f { values = values }) new → Goes (op.If t arm) rest f new
    if_other arm rest new zero q n h = absurd (n refl)
    if_other arm rest new (suc n) q other h = if_more n arm rest new q h

    pub either_other : (first second rest : List WInstr) (new : Frames) → (n : ℕ) → v ≡ n → n ≢ 0 → Goes (op.Block t first) rest (record f { values = values }) new → Goes (op.IfElse t first second) rest f new
    either_other first second rest new zero q n h = absurd (n refl)
    either_other first second rest new (suc n) q other h = either_more n first second rest new q h

  pub put_back : (new : Frames) → values.room ≡ f.values.room + 1 → PutsBack v (record f { values = values }) new → new ≡ f
  put_back new room p =
      let r = p.room in
      p.others ∙ ap (λ (x : Stacked). record f { values = x }) (same_stacked new.values f.values (p.own ∙ sym own) (p.beneath ∙ beneath) (omega (arith, r, room)))

pub on_ok : {T E : Type 0} {A B : Type 0} (r : Result T E) → OnOk r A → (A → B) → OnOk r B
on_ok (Ok t) h k = k h
on_ok (Err e) h k = h
