-- Each step leaves a memory of bytes where there was one: only a store and a growth change it.
use Rattle.std.proofs.Common.{ℕ, zero, suc, ◌+◌, ◌*◌, ◌^◌, Bool, true, false, List, [], ◌∷◌, length, slice_get}
use Rattle.std.specs.Prelude.{Option, Some, None, Ok, Err, Result, nat_le, reverse}
use Rattle.wasm_ast.specs.declared.instructions.WInstr.{WInstr, out-WInstr}
use Rattle.wasm_ast.specs.declared.types.ValTy.{ValTy}
use Rattle.wasm_ast.specs.declared.modules.Code.{Code}
use Rattle.wasm_ast.specs.Operations.{Operation, operation_in}
use Rattle.wasm_ast.specs.Operations as op
use Rattle.machine_steps.specs.Steps.{Turn, Went, Ended, NoStep, with_top, with_found, with_one, with_all, with_none, reached, reached_by}
use Rattle.wasm_execution.specs.Configurations.{Aim, Past, Back, Level, Here, Bottom, TheEnd, ThenCall, Config, Event, Print}
use Rattle.machine_steps.specs.declared.Trap.TheVariants.{TableBounds, Uninitialised}
use Rattle.wasm_ast.specs.SameTypes.{is_same_type}
use Rattle.wasm_num.specs.Operators.{binary}
use Rattle.wasm_num.specs.declared.NumTrap.{NumTrap}
use Rattle.wasm_execution.specs.Types.{width_of}
use Rattle.wasm_execution.specs.Numbers.{trap_of}
use Rattle.wasm_execution.specs.Environments.{Environment, Function, function_at}
use Rattle.wasm_execution.specs.Turns.{with_two, first_or_zero, leaves, traps}
use Rattle.wasm_execution.specs.Types.{results_of}
use Rattle.wasm_execution.specs.Calls.{calls, entered, call, call_typed, call_indirect, give, ends_with, return_now}
use Rattle.wasm_execution.specs.Control.{branch, branch_to, branch_if, branch_table, arrive, leave, enter_block, enter_if, enter_either}
use Rattle.wasm_execution.specs.Memories.{pages_of, access_at}
use Rattle.wasm_execution.specs.Steps.{act, step, step_at}
use Rattle.memory_bytes.specs.Bytes.{HasBytes, LeadsToBytes}
use Rattle.memory_bytes.specs.Laws.{StepKeepsBytes, StepsKeepBytes}
use Rattle.memory_bytes.proofs.Bytes.{write_keeps, growth_keeps}

abbrev Good : Turn Event Config → Type 0
Good t = LeadsToBytes t

on_found : {X : Type 0} (o : Option X) (then : X → Turn Event Config) → ((x : X) → Good (then x)) → Good (with_found o then)
on_found None then h = tt
on_found (Some x) then h = h x

on_one : (vs : List ℕ) (then : ℕ → List ℕ → Turn Event Config) → ((v : ℕ) (b : List ℕ) → Good (then v b)) → Good (with_one vs then)
on_one [] then h = tt
on_one (v ∷ vs) then h = h v vs

on_two : (vs : List ℕ) (then : ℕ → ℕ → List ℕ → Turn Event Config) → ((x y : ℕ) (b : List ℕ) → Good (then x y b)) → Good (with_two vs then)
on_two [] then h = tt
on_two (v ∷ []) then h = tt
on_two (v ∷ w ∷ vs) then h = h w v vs

on_top : (n : ℕ) (vs : List ℕ) (then : List ℕ → List ℕ → Turn Event Config) → ((t b : List ℕ) → Good (then t b)) → Good (with_top n vs then)
on_top zero vs then h = h [] vs
on_top (suc n) [] then h = tt
on_top (suc n) (v ∷ vs) then h = on_top n vs (λ t b. then (v ∷ t) b) (λ t b. h (v ∷ t) b)

on_none : (vs : List ℕ) (then : Turn Event Config) → Good then → Good (with_none vs then)
on_none [] then h = h
on_none (v ∷ vs) then h = tt

on_all : (n : ℕ) (vs : List ℕ) (then : List ℕ → Turn Event Config) → ((t : List ℕ) → Good (then t)) → Good (with_all n vs then)
on_all n vs then h = on_top n vs (λ t b. with_none b (then t)) (λ t b. on_none b (then t) (h t))

on_flag : (b : Bool) (x y : Turn Event Config) → Good x → Good y → Good (elim b [ true ↦ x | false ↦ y ])
on_flag true x y h k = h
on_flag false x y h k = k

module _ (e : Environment) (c : Config) (h : HasBytes c) where
  ending : (vs : List ℕ) → Good (ends_with vs c)
  ending [] = tt
  ending (v ∷ []) = h
  ending (v ∷ w ∷ vs) = tt

  giving : (vs : List ℕ) (callers : List Here) (bottom : Bottom) → Good (give e vs callers bottom c)
  giving vs (x ∷ callers) bottom = h
  giving vs [] TheEnd = ending vs
  giving vs [] (ThenCall n) = on_found (function_at e n) _ (λ f. on_found f.code _ (λ code. h))

  returning : (here : Here) → Good (return_now e here c)
  returning here = on_found (function_at e here.function) _ (λ f. on_top (results_of f.ty.result) here.operands _ (λ vs b. giving vs c.callers c.bottom))

  leaving : (here : Here) (levels : List Level) → Good (leave e levels here c)
  leaving here [] = on_found (function_at e here.function) _ (λ f. on_all (results_of f.ty.result) here.operands _ (λ vs. giving vs c.callers c.bottom))
  leaving here (l ∷ levels) = on_all l.gives here.operands _ (λ vs. h)

  arriving : (aim : Aim) (vs : List ℕ) (l : Level) (levels : List Level) (here : Here) → Good (arrive aim vs l levels here c)
  arriving Past vs l levels here = h
  arriving (Back body) vs l levels here = h

  branching : (n : ℕ) (levels : List Level) (here : Here) → Good (branch e n levels here c)
  branching zero [] here = returning here
  branching (suc n) [] here = tt
  branching zero (l ∷ levels) here = on_top l.takes here.operands _ (λ vs b. arriving l.aim vs l levels here)
  branching (suc n) (l ∷ levels) here = branching n levels here

  branching_if : (label : ℕ) (here : Here) → Good (branch_if e label here c)
  branching_if label here = on_one here.operands _ (λ n b. taken n b)
    where
      taken : (n : ℕ) (b : List ℕ) → Good (elim n [ zero ↦ leaves b here c | suc _ ↦ branch_to e label (record here { operands = b }) c ])
      taken zero b = h
      taken (suc n) b = branching label here.levels (record here { operands = b })

  branching_table : (labels : List ℕ) (default : ℕ) (here : Here) → Good (branch_table e labels default here c)
  branching_table labels default here = on_one here.operands _ (λ n b. taken (slice_get labels n) b)
    where
      taken : (o : Option ℕ) (b : List ℕ) → Good (elim o [ Some label ↦ branch_to e label (record here { operands = b }) c | None ↦ branch_to e default (record here { operands = b }) c ])
      taken None b = branching default here.levels (record here { operands = b })
      taken (Some label) b = branching label here.levels (record here { operands = b })

  arm : (t : Option ValTy) (xs : List WInstr) (here : Here) → Good (enter_if t xs here c)
  arm t xs here = on_one here.operands _ (λ n b. taken n b)
    where
      taken : (n : ℕ) (b : List ℕ) → Good (elim n [ zero ↦ leaves b here c | suc _ ↦ enter_block t xs (record here { operands = b }) c ])
      taken zero b = h
      taken (suc n) b = h

  arms : (t : Option ValTy) (xs ys : List WInstr) (here : Here) → Good (enter_either t xs ys here c)
  arms t xs ys here = on_one here.operands _ (λ n b. taken n b)
    where
      taken : (n : ℕ) (b : List ℕ)
          → Good (elim n [ zero ↦ enter_block t ys (record here { operands = b }) c | suc _ ↦ enter_block t xs (record here { operands = b }) c ])
      taken zero b = h
      taken (suc n) b = h

  calling : (n : ℕ) (f : Function) (here : Here) → Good (call e n f here c)
  calling n f here = on_top (length f.ty.params) here.operands _ (λ vs b. coded f.code vs b)
    where
      coded : (o : Option Code) (vs b : List ℕ)
          → Good (elim o [
            | None ↦ Went (Print (first_or_zero vs) ∷ []) (record c { here = record here { operands = b } })
            | Some code ↦ Went (calls e n (first_or_zero (reverse vs)) c.store) (entered n code vs (record here { operands = b } ∷ c.callers) c.bottom c.store)
          ])
      coded None vs b = h
      coded (Some code) vs b = h

  calling_typed : (type_index n : ℕ) (here : Here) → Good (call_typed e type_index n here c)
  calling_typed type_index n here =
      on_found (function_at e n) _ (λ f. on_found (slice_get e.types type_index) _ (λ ty. on_flag (is_same_type f.ty ty) _ _ (calling n f here) h))

  calling_indirect : (type_index : ℕ) (here : Here) → Good (call_indirect e type_index here c)
  calling_indirect type_index here = on_one here.operands _ (λ at b. looked (slice_get c.store.table at) b)
    where
      looked : (o : Option (Option ℕ)) (b : List ℕ)
          → Good (elim o [
            | None ↦ traps TableBounds c
            | Some entry ↦ elim entry [
              | None ↦ traps Uninitialised c
              | Some n ↦ call_typed e type_index n (record here { operands = b }) c
            ]
          ])
      looked None b = h
      looked (Some None) b = h
      looked (Some (Some n)) b = calling_typed type_index n (record here { operands = b })

  accessing : (address count : ℕ) (here : Here) (after : Config) → HasBytes after → Good (access_at e address count here c after)
  accessing address count here after k = on_flag (nat_le (address + count) (length c.store.memory)) _ _ k h

  combined : (r : Result ℕ NumTrap) (b : List ℕ) (here : Here) → Good (elim r [ Ok n ↦ leaves (n ∷ b) here c | Err why ↦ traps (trap_of why) c ])
  combined (Ok n) b here = h
  combined (Err why) b here = h

  acts : (o : Operation WInstr) (here : Here) → Good (act e o here c)
  acts op.Unreachable here = h
  acts op.Nop here = h
  acts (op.Block t xs) here = h
  acts (op.Loop t xs) here = h
  acts (op.If t xs) here = arm t xs here
  acts (op.IfElse t xs ys) here = arms t xs ys here
  acts (op.Br label) here = branching label here.levels here
  acts (op.BrIf label) here = branching_if label here
  acts (op.BrTable labels default) here = branching_table labels default here
  acts op.Return here = returning here
  acts (op.Call n) here = on_found (function_at e n) _ (λ f. calling n f here)
  acts (op.CallIndirect n) here = calling_indirect n here
  acts op.Drop here = on_one here.operands _ (λ v b. h)
  acts op.Select here = on_one here.operands _ (λ n b. on_two b _ (λ x y below. h))
  acts (op.LocalGet n) here = on_found (slice_get here.locals n) _ (λ v. h)
  acts (op.LocalSet n) here = on_one here.operands _ (λ v b. on_found (slice_get here.locals n) _ (λ old. h))
  acts (op.LocalTee n) here = on_one here.operands _ (λ v b. on_found (slice_get here.locals n) _ (λ old. h))
  acts (op.GlobalGet n) here = on_found (slice_get c.store.globals n) _ (λ v. h)
  acts (op.GlobalSet n) here = on_one here.operands _ (λ v b. on_found (slice_get c.store.globals n) _ (λ old. h))
  acts (op.Load t access align offset) here = on_one here.operands _ (λ base b. accessing (base + offset) (2 ^ access.log_width) here _ h)
  acts (op.Store t log_width align offset) here =
      on_two here.operands _ (λ base n b. accessing (base + offset) (2 ^ log_width) here _ (write_keeps (2 ^ log_width) c.store.memory (base + offset) n h))
  acts op.MemorySize here = h
  acts op.MemoryGrow here = on_one here.operands _ (λ n b. on_flag (nat_le (pages_of c.store.memory + n) e.most_pages) _ _ (growth_keeps c.store.memory (65536 * n) h) h)
  acts (op.Const32 bits) here = h
  acts (op.Const64 bits) here = h
  acts (op.Eqz t) here = on_one here.operands _ (λ v b. h)
  acts (op.Compare t operator) here = on_two here.operands _ (λ x y b. h)
  acts (op.Unary t operator) here = on_one here.operands _ (λ v b. h)
  acts (op.Binary t operator) here = on_two here.operands _ (λ x y b. combined (binary operator (width_of t) x y) b here)
  acts (op.Convert operator) here = on_one here.operands _ (λ v b. h)

  at_list : (is : List WInstr) → Good (step_at e is c)
  at_list [] = leaving c.here c.here.levels
  at_list (i ∷ rest) = acts (operation_in (out-WInstr i)) (record c.here { rest = rest })

pub step_keeps : StepKeepsBytes
step_keeps e c h = at_list e c h c.here.rest

onward_from : (e : Environment) (c : Config) (n : ℕ) (t : Turn Event Config) → HasBytes c → Good t → ((d : Config) → HasBytes d → HasBytes (reached (step e) n d).at) → HasBytes (reached_by t c (reached (step e) n)).at
onward_from e c n (Went es d) h k go = go d k
onward_from e c n (Ended es end d) h k go = k
onward_from e c n NoStep h k go = h

pub steps_keep : StepsKeepBytes
steps_keep e c h zero = h
steps_keep e c h (suc n) = onward_from e c n (step e c) h (step_keeps e c h) (λ d k. steps_keep e d k n)
