-- What each step of any module is, in a few cases.
use Rattle.std.proofs.Common.{◌≡◌, ℕ, zero, suc, ◌+◌, ◌*◌, ◌^◌, ◌≤◌, Bool, true, false, List, [], ◌∷◌, ◌++◌, length, slice_get, slice_set, refl}
use Rattle.std.specs.Prelude.{Option, Some, None, Ok, Err, Result, nat_le, reverse}
use Rattle.std.specs.Int.{cast_signed, w64}
use Rattle.std.proofs.lemmas.Bool.{leb-true}
use Rattle.memory_words.specs.Memories.{zeros, write}
use Rattle.wasm_ast.specs.declared.instructions.WInstr.{WInstr, out-WInstr}
use Rattle.wasm_ast.specs.declared.types.ValTy.{ValTy}
use Rattle.wasm_ast.specs.declared.modules.Code.{Code}
use Rattle.wasm_ast.specs.Operations.{Operation, operation_in}
use Rattle.wasm_ast.specs.Operations as op
use Rattle.wasm_ast.specs.SameTypes.{is_same_type}
use Rattle.wasm_num.specs.Operators.{binary}
use Rattle.wasm_num.specs.declared.NumTrap.{NumTrap}
use Rattle.wasm_num.specs.declared.NumTrap.TheVariants as num
use Rattle.machine_steps.specs.declared.End.TheVariants.{Value, Trap}
use Rattle.machine_steps.specs.declared.Trap as machine
use Rattle.machine_steps.specs.declared.Trap.TheVariants.{Exhausted, DivideByZero, Overflow, MemoryBounds, TableBounds, Uninitialised, Signature}
use Rattle.machine_steps.specs.Steps.{Turn, Went, Ended, NoStep, with_top, with_found, with_one, with_all, with_none}
use Rattle.wasm_execution.specs.Types.{width_of, results_of}
use Rattle.wasm_execution.specs.Configurations.{Aim, Past, Back, Level, Here, Bottom, TheEnd, ThenCall, Config, Event, Print}
use Rattle.wasm_execution.specs.Environments.{Environment, Function, function_at}
use Rattle.wasm_execution.specs.Numbers.{trap_of}
use Rattle.wasm_execution.specs.Turns.{with_two, first_or_zero, leaves, traps}
use Rattle.wasm_execution.specs.Calls.{calls, returns, entered, call, call_typed, call_indirect, give, ends_with, return_now}
use Rattle.wasm_execution.specs.Control.{stop, branch, branch_to, branch_if, branch_table, arrive, leave, enter_block, enter_if, enter_either}
use Rattle.wasm_execution.specs.Memories.{pages_of, touches, access_at}
use Rattle.wasm_execution.specs.Steps.{act, step, step_at}

-- the call of the same function with the same first argument
abbrev pub SameCall : Here → Here → Type 0
SameCall here there = (here.function ≡ there.function) × (here.argument ≡ there.argument)

-- no trap for want of room
abbrev pub IsOrdinary : machine.Trap → Type 0
IsOrdinary Exhausted = ⊥
IsOrdinary _ = Unit {0}

-- what has to hold so that this holds of a step
pub record Cases (e : Environment) (c : Config) (P : Turn Event Config → Type 0) : Type 0 where
  pub none : P NoStep
  pub goes : (here : Here) → SameCall here c.here → P (Went [] (record c { here = here }))
  pub trapped : (t : machine.Trap) → IsOrdinary t → P (Ended [] (Trap t) c)
  pub stopped : P (stop e c)
  pub ended : (v : ℕ) → P (Ended [] (Value (cast_signed w64 v)) c)
  pub sets : (here : Here) → SameCall here c.here → (n v : ℕ) → P (Went [] (record c { here = here; store = record c.store { globals = slice_set c.store.globals n v } }))
  pub loads : (here there : Here) → SameCall here c.here → SameCall there c.here → (address count : ℕ) → P (Went (touches e here.function address count) (record c { here = there }))
  pub stores : (here there : Here) → SameCall here c.here → SameCall there c.here → (address count v : ℕ) → address + count ≤ length c.store.memory → P (Went (touches e here.function address count) (record c { here = there; store = record c.store { memory = write count c.store.memory address v } }))
  pub misses : (here : Here) → SameCall here c.here → (address count : ℕ) → P (Ended (touches e here.function address count) (Trap MemoryBounds) c)
  pub grows : (here : Here) → SameCall here c.here → (n : ℕ) → P (Went [] (record c { here = here; store = record c.store { memory = c.store.memory ++ zeros (65536 * n) } }))
  pub prints : (here : Here) → SameCall here c.here → (n : ℕ) → P (Went (Print n ∷ []) (record c { here = here }))
  pub enters : (waiting : Here) → SameCall waiting c.here → (n : ℕ) (code : Code) (vs : List ℕ) → P (Went (calls e n (first_or_zero (reverse vs)) c.store) (entered n code vs (waiting ∷ c.callers) c.bottom c.store))
  pub gives : (vs : List ℕ) (caller : Here) (callers : List Here) → c.callers ≡ caller ∷ callers
      → P (Went (returns e c.here.function (first_or_zero vs) c.store) (record c { here = record caller { operands = vs ++ caller.operands }; callers = callers }))
  pub goes_to_main : (n : ℕ) (code : Code) → c.callers ≡ [] → c.bottom ≡ ThenCall n → P (Went [] (entered n code [] [] TheEnd c.store))

module _ (e : Environment) (c : Config) (P : Turn Event Config → Type 0) (k : Cases e c P) where
  on_found : {X : Type 0} (o : Option X) (then : X → Turn Event Config) → ((x : X) → P (then x)) → P (with_found o then)
  on_found None then h = k.none
  on_found (Some x) then h = h x

  on_one : (vs : List ℕ) (then : ℕ → List ℕ → Turn Event Config) → ((v : ℕ) (b : List ℕ) → P (then v b)) → P (with_one vs then)
  on_one [] then h = k.none
  on_one (v ∷ vs) then h = h v vs

  on_two : (vs : List ℕ) (then : ℕ → ℕ → List ℕ → Turn Event Config) → ((x y : ℕ) (b : List ℕ) → P (then x y b)) → P (with_two vs then)
  on_two [] then h = k.none
  on_two (v ∷ []) then h = k.none
  on_two (v ∷ w ∷ vs) then h = h w v vs

  on_top : (n : ℕ) (vs : List ℕ) (then : List ℕ → List ℕ → Turn Event Config) → ((t b : List ℕ) → P (then t b)) → P (with_top n vs then)
  on_top zero vs then h = h [] vs
  on_top (suc n) [] then h = k.none
  on_top (suc n) (v ∷ vs) then h = on_top n vs (λ t b. then (v ∷ t) b) (λ t b. h (v ∷ t) b)

  on_none : (vs : List ℕ) (then : Turn Event Config) → P then → P (with_none vs then)
  on_none [] then h = h
  on_none (v ∷ vs) then h = k.none

  on_all : (n : ℕ) (vs : List ℕ) (then : List ℕ → Turn Event Config) → ((t : List ℕ) → P (then t)) → P (with_all n vs then)
  on_all n vs then h = on_top n vs (λ t b. with_none b (then t)) (λ t b. on_none b (then t) (h t))

  on_flag : (b : Bool) (x y : Turn Event Config) → (b ≡ true → P x) → P y → P (elim b [ true ↦ x | false ↦ y ])
  on_flag true x y h i = h refl
  on_flag false x y h i = i

  ending : (vs : List ℕ) → P (ends_with vs c)
  ending [] = k.none
  ending (v ∷ []) = k.ended v
  ending (v ∷ w ∷ vs) = k.none

  giving : (vs : List ℕ) (callers : List Here) (bottom : Bottom) → c.callers ≡ callers → c.bottom ≡ bottom → P (give e vs callers bottom c)
  giving vs (x ∷ callers) bottom q r = k.gives vs x callers q
  giving vs [] TheEnd q r = ending vs
  giving vs [] (ThenCall n) q r = on_found (function_at e n) _ (λ f. on_found f.code _ (λ code. k.goes_to_main n code q r))

  returning : (here : Here) → P (return_now e here c)
  returning here = on_found (function_at e here.function) _ (λ f. on_top (results_of f.ty.result) here.operands _ (λ vs b. giving vs c.callers c.bottom refl refl))

  leaving : (here : Here) → SameCall here c.here → (levels : List Level) → P (leave e levels here c)
  leaving here s [] = on_found (function_at e here.function) _ (λ f. on_all (results_of f.ty.result) here.operands _ (λ vs. giving vs c.callers c.bottom refl refl))
  leaving here s (l ∷ levels) = on_all l.gives here.operands _ (λ vs. k.goes _ s)

  arriving : (aim : Aim) (vs : List ℕ) (l : Level) (levels : List Level) (here : Here) → SameCall here c.here → P (arrive aim vs l levels here c)
  arriving Past vs l levels here s = k.goes _ s
  arriving (Back body) vs l levels here s = k.goes _ s

  branching : (n : ℕ) (levels : List Level) (here : Here) → SameCall here c.here → P (branch e n levels here c)
  branching zero [] here s = returning here
  branching (suc n) [] here s = k.none
  branching zero (l ∷ levels) here s = on_top l.takes here.operands _ (λ vs b. arriving l.aim vs l levels here s)
  branching (suc n) (l ∷ levels) here s = branching n levels here s

  branching_if : (label : ℕ) (here : Here) → SameCall here c.here → P (branch_if e label here c)
  branching_if label here s = on_one here.operands _ (λ n b. taken n b)
    where
      taken : (n : ℕ) (b : List ℕ) → P (elim n [ zero ↦ leaves b here c | suc _ ↦ branch_to e label (record here { operands = b }) c ])
      taken zero b = k.goes _ s
      taken (suc n) b = branching label here.levels (record here { operands = b }) s

  branching_table : (labels : List ℕ) (default : ℕ) (here : Here) → SameCall here c.here → P (branch_table e labels default here c)
  branching_table labels default here s = on_one here.operands _ (λ n b. taken (slice_get labels n) b)
    where
      taken : (o : Option ℕ) (b : List ℕ) → P (elim o [ Some label ↦ branch_to e label (record here { operands = b }) c | None ↦ branch_to e default (record here { operands = b }) c ])
      taken None b = branching default here.levels (record here { operands = b }) s
      taken (Some label) b = branching label here.levels (record here { operands = b }) s

  arm : (t : Option ValTy) (xs : List WInstr) (here : Here) → SameCall here c.here → P (enter_if t xs here c)
  arm t xs here s = on_one here.operands _ (λ n b. taken n b)
    where
      taken : (n : ℕ) (b : List ℕ) → P (elim n [ zero ↦ leaves b here c | suc _ ↦ enter_block t xs (record here { operands = b }) c ])
      taken zero b = k.goes _ s
      taken (suc n) b = k.goes _ s

  arms : (t : Option ValTy) (xs ys : List WInstr) (here : Here) → SameCall here c.here → P (enter_either t xs ys here c)
  arms t xs ys here s = on_one here.operands _ (λ n b. taken n b)
    where
      taken : (n : ℕ) (b : List ℕ)
          → P (elim n [ zero ↦ enter_block t ys (record here { operands = b }) c | suc _ ↦ enter_block t xs (record here { operands = b }) c ])
      taken zero b = k.goes _ s
      taken (suc n) b = k.goes _ s

  calling : (n : ℕ) (f : Function) (here : Here) → SameCall here c.here → P (call e n f here c)
  calling n f here s = on_top (length f.ty.params) here.operands _ (λ vs b. coded f.code vs b)
    where
      coded : (o : Option Code) (vs b : List ℕ)
          → P (elim o [
            | None ↦ Went (Print (first_or_zero vs) ∷ []) (record c { here = record here { operands = b } })
            | Some code ↦ Went (calls e n (first_or_zero (reverse vs)) c.store) (entered n code vs (record here { operands = b } ∷ c.callers) c.bottom c.store)
          ])
      coded None vs b = k.prints _ s (first_or_zero vs)
      coded (Some code) vs b = k.enters (record here { operands = b }) s n code vs

  calling_typed : (type_index n : ℕ) (here : Here) → SameCall here c.here → P (call_typed e type_index n here c)
  calling_typed type_index n here s =
      on_found (function_at e n) _ (λ f. on_found (slice_get e.types type_index) _ (λ ty. on_flag (is_same_type f.ty ty) _ _ (λ q. calling n f here s) (k.trapped Signature tt)))

  calling_indirect : (type_index : ℕ) (here : Here) → SameCall here c.here → P (call_indirect e type_index here c)
  calling_indirect type_index here s = on_one here.operands _ (λ at b. looked (slice_get c.store.table at) b)
    where
      looked : (o : Option (Option ℕ)) (b : List ℕ)
          → P (elim o [
            | None ↦ traps TableBounds c
            | Some entry ↦ elim entry [
              | None ↦ traps Uninitialised c
              | Some n ↦ call_typed e type_index n (record here { operands = b }) c
            ]
          ])
      looked None b = k.trapped TableBounds tt
      looked (Some None) b = k.trapped Uninitialised tt
      looked (Some (Some n)) b = calling_typed type_index n (record here { operands = b }) s

  accessing : (address count : ℕ) (here : Here) (after : Config) → SameCall here c.here
      → (address + count ≤ length c.store.memory → P (Went (touches e here.function address count) after)) → P (access_at e address count here c after)
  accessing address count here after s h =
      on_flag (nat_le (address + count) (length c.store.memory)) _ _ (λ q. h (leb-true (address + count) (length c.store.memory) q)) (k.misses here s address count)

  combined : (r : Result ℕ NumTrap) (b : List ℕ) (here : Here) → SameCall here c.here → P (elim r [ Ok n ↦ leaves (n ∷ b) here c | Err why ↦ traps (trap_of why) c ])
  combined (Ok n) b here s = k.goes _ s
  combined (Err num.DivideByZero) b here s = k.trapped DivideByZero tt
  combined (Err num.Overflow) b here s = k.trapped Overflow tt

  acts : (o : Operation WInstr) (here : Here) → SameCall here c.here → P (act e o here c)
  acts op.Unreachable here s = k.stopped
  acts op.Nop here s = k.goes _ s
  acts (op.Block t xs) here s = k.goes _ s
  acts (op.Loop t xs) here s = k.goes _ s
  acts (op.If t xs) here s = arm t xs here s
  acts (op.IfElse t xs ys) here s = arms t xs ys here s
  acts (op.Br label) here s = branching label here.levels here s
  acts (op.BrIf label) here s = branching_if label here s
  acts (op.BrTable labels default) here s = branching_table labels default here s
  acts op.Return here s = returning here
  acts (op.Call n) here s = on_found (function_at e n) _ (λ f. calling n f here s)
  acts (op.CallIndirect n) here s = calling_indirect n here s
  acts op.Drop here s = on_one here.operands _ (λ v b. k.goes _ s)
  acts op.Select here s = on_one here.operands _ (λ n b. on_two b _ (λ x y below. k.goes _ s))
  acts (op.LocalGet n) here s = on_found (slice_get here.locals n) _ (λ v. k.goes _ s)
  acts (op.LocalSet n) here s = on_one here.operands _ (λ v b. on_found (slice_get here.locals n) _ (λ old. k.goes _ s))
  acts (op.LocalTee n) here s = on_one here.operands _ (λ v b. on_found (slice_get here.locals n) _ (λ old. k.goes _ s))
  acts (op.GlobalGet n) here s = on_found (slice_get c.store.globals n) _ (λ v. k.goes _ s)
  acts (op.GlobalSet n) here s = on_one here.operands _ (λ v b. on_found (slice_get c.store.globals n) _ (λ old. k.sets (record here { operands = b }) s n v))
  acts (op.Load t access align offset) here s = on_one here.operands _ (λ base b. accessing (base + offset) (2 ^ access.log_width) here _ s (λ le. k.loads here _ s s (base + offset) (2 ^ access.log_width)))
  acts (op.Store t log_width align offset) here s =
      on_two here.operands _ (λ base n b. accessing (base + offset) (2 ^ log_width) here _ s (λ le. k.stores here (record here { operands = b }) s s (base + offset) (2 ^ log_width) n le))
  acts op.MemorySize here s = k.goes _ s
  acts op.MemoryGrow here s = on_one here.operands _ (λ n b. on_flag (nat_le (pages_of c.store.memory + n) e.most_pages) _ _ (λ q. k.grows (record here { operands = pages_of c.store.memory ∷ b }) s n) (k.goes _ s))
  acts (op.Const32 bits) here s = k.goes _ s
  acts (op.Const64 bits) here s = k.goes _ s
  acts (op.Eqz t) here s = on_one here.operands _ (λ v b. k.goes _ s)
  acts (op.Compare t operator) here s = on_two here.operands _ (λ x y b. k.goes _ s)
  acts (op.Unary t operator) here s = on_one here.operands _ (λ v b. k.goes _ s)
  acts (op.Binary t operator) here s = on_two here.operands _ (λ x y b. combined (binary operator (width_of t) x y) b here s)
  acts (op.Convert operator) here s = on_one here.operands _ (λ v b. k.goes _ s)

  at_list : (is : List WInstr) → P (step_at e is c)
  at_list [] = leaving c.here (refl, refl) c.here.levels
  at_list (i ∷ rest) = acts (operation_in (out-WInstr i)) (record c.here { rest = rest }) (refl, refl)

  -- this holds of the step
  pub by_cases : P (step e c)
  by_cases = at_list c.here.rest
