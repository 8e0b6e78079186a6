-- What instructions do that stay in the call, as steps.
use Rattle.std.proofs.Common.{◌≡◌, ◌∙◌, ℕ, List, [], ◌∷◌, refl, sym, ap, ap₂, subst₂, Bor}
use Rattle.std.specs.Prelude.{Result, Ok, Err, Vec}
use Rattle.std.specs.declared.alloc.Global.{Global}
use Rattle.machine_steps.specs.Steps.{Turn, Went, Ended}
use Rattle.machine_steps.specs.declared.Trap.{Trap}
use Rattle.machine_steps.specs.declared.End.TheVariants as end
use Rattle.machine_runs.specs.declared.answers.Turn.TheVariants as answer
use Rattle.wasm_ast.specs.declared.instructions.WInstr.{WInstr}
use Rattle.wasm_ast.specs.Operations.{Operation}
use Rattle.wasm_ast.specs.Operations as op
use Rattle.wasm_execution.specs.Configurations.{Here, Config, Event}
use Rattle.wasm_execution.specs.Environments.{Environment}
use Rattle.wasm_values.specs.Stacked.{Stacked, Framed}
use Rattle.wasm_levels.specs.Lists.{levels_of, beneath_all}
use Rattle.wasm_memory_steps.specs.Accesses.{GrowsMemory}
use Rattle.wasm_plain_dispatch.specs.Plain.{Plain, plain, DoesPlain}
use Rattle.wasm_call_steps.specs.Callers.{callers_of}
use Rattle.wasm_frames.specs.declared.frames.Frames.{Frames}
use Rattle.wasm_frames.specs.Frames.{here_now, Goes}
use Rattle.wasm_run_state.specs.declared.state.State.{State}
use Rattle.wasm_run_state.specs.States.{bottom_of, store_of, config_of, plain_now, ActsTo}

pub went : (e : Environment) (o : Operation WInstr) (rest : List WInstr) (s : State) (f : Frames) → Goes o rest s.frames f → ActsTo e o rest s answer.Went (record s { frames = f })
went e o rest s f h = record { events = []; printed = refl; is = h e (here_now s.frames) (bottom_of s.next_call) (store_of s) }

-- the configuration of a state, by the operands and the locals that lie beneath
abbrev beneath_at : State → List ℕ → List ℕ → Config
beneath_at s bs ms = record {
  here = record { function = s.frames.function; argument = s.frames.argument; locals = s.frames.locals.own; operands = s.frames.values.own; rest = s.frames.code.now; levels = levels_of s.frames.levels.own bs };
  callers = callers_of s.frames.callers s.frames.levels.beneath (beneath_all s.frames.levels.own bs) ms;
  bottom = bottom_of s.next_call;
  store = store_of s;
}

pub grown : (e : Environment) (s : State) (values : Stacked) (memory : List ℕ) (rest : Bor (List WInstr)) (most : ℕ) → e.most_pages ≡ most → values.beneath ≡ s.frames.values.beneath
    → GrowsMemory most s.memory s.frames.values.own memory values.own
    → ActsTo e op.MemoryGrow rest.now s answer.Went (record s { frames = record s.frames { values = values; code = rest }; memory = memory })
grown e s values memory rest most q beneath h = record {
  events = [];
  printed = refl;
  is =
      h e (record (here_now s.frames) { rest = rest.now }) (config_of s) q
      ∙ ap (λ (bs : List ℕ). Went [] (beneath_at (record s { frames = record s.frames { values = values; code = rest }; memory = memory }) bs s.frames.locals.beneath)) (sym beneath);
}

module _ (e : Environment) (o : Operation WInstr) (s : State) (values : Stacked) (locals : Framed) (memory : List ℕ) (beneath : values.beneath ≡ s.frames.values.beneath) (under : locals.beneath ≡ s.frames.locals.beneath) (rest : Bor (List WInstr))
    (globals : Vec ℕ Global) (gs after : List ℕ) (read : gs ≡ s.globals.items) (back : globals.items ≡ after) where
  there : (r : Result (Unit {0}) Trap) → DoesPlain o (plain s.frames.values.own s.frames.locals.own s.memory gs) r (plain values.own locals.own memory after) → DoesPlain o (plain_now s) r (plain values.own locals.own memory globals.items)
  there r h = subst₂ (λ (x y : List ℕ). DoesPlain o (plain s.frames.values.own s.frames.locals.own s.memory x) r (plain values.own locals.own memory y)) read (sym back) h

  pub plain_went : DoesPlain o (plain s.frames.values.own s.frames.locals.own s.memory gs) (Ok tt) (plain values.own locals.own memory after)
      → ActsTo e o rest.now s answer.Went (record s { frames = record s.frames { values = values; locals = locals; code = rest }; memory = memory; globals = globals })
  plain_went h =
      let d = there (Ok tt) h e (record (here_now s.frames) { rest = rest.now }) (config_of s) in
      record {
        events = d.events;
        printed = d.silent;
        is = d.turn ∙ ap₂ (λ (bs ms : List ℕ). Went d.events (beneath_at (record s { frames = record s.frames { values = values; locals = locals; code = rest }; memory = memory; globals = globals }) bs ms)) (sym beneath) (sym under);
      }

  -- where a trap leaves the numbers as they were
  pub plain_trapped : (why : Trap) → DoesPlain o (plain s.frames.values.own s.frames.locals.own s.memory gs) (Err why) (plain values.own locals.own memory after)
      → plain values.own locals.own memory after ≡ plain s.frames.values.own s.frames.locals.own s.memory gs
      → ActsTo e o rest.now s (answer.Ended (end.Trap why)) (record s { frames = record s.frames { values = values; locals = locals }; memory = memory; globals = globals })
  plain_trapped why h kept =
      let same : plain values.own locals.own memory globals.items ≡ plain_now s =
      ap (plain values.own locals.own memory) back ∙ kept ∙ ap (plain s.frames.values.own s.frames.locals.own s.memory) read in
      let d = there (Err why) h e (record (here_now s.frames) { rest = rest.now }) (config_of s) in
      let numbers : Plain → List ℕ → List ℕ → Config = λ p bs ms. record {
        here = record { function = s.frames.function; argument = s.frames.argument; locals = p.locals; operands = p.operands; rest = s.frames.code.now; levels = levels_of s.frames.levels.own bs };
        callers = callers_of s.frames.callers s.frames.levels.beneath (beneath_all s.frames.levels.own bs) ms;
        bottom = bottom_of s.next_call;
        store = record { memory = p.memory; table = s.table.items; globals = p.globals };
      } in
      record {
        events = d.events;
        printed = d.silent;
        is =
            d.turn ∙ ap₂ (λ (bs ms : List ℕ). Ended d.events (end.Trap why) (numbers (plain_now s) bs ms)) (sym beneath) (sym under)
            ∙ ap (λ (p : Plain). Ended d.events (end.Trap why) (numbers p values.beneath locals.beneath)) (sym same);
      }
