-- A module without a memory has no byte of it, whatever it does.
use Rattle.std.proofs.Common.{◌≡◌, ◌∙◌, ℕ, zero, suc, ◌+◌, ◌-◌, ◌*◌, ◌^◌, ◌≤◌, Bool, true, false, List, [], ◌∷◌, ◌++◌, length, refl, arith, length-append}
use Rattle.std.specs.Prelude.{Option, Some, None, Result, Ok, Err, nat_le, slice_get}
use Rattle.std.proofs.lemmas.Bool.{leb-true}
use Rattle.memory_words.specs.Memories.{zeros}
use Rattle.memory_words.proofs.Bytes.{length-zeros}
use Rattle.memory_words.proofs.Words.{length-write}
use Rattle.machine_steps.specs.declared.End.TheVariants.{Trap}
use Rattle.machine_steps.specs.declared.Trap.TheVariants.{MemoryBounds}
use Rattle.machine_steps.specs.Steps.{Turn, Went, Ended, NoStep, with_top, with_found, with_one, with_none, with_all}
use Rattle.wasm_num.specs.declared.NumTrap.{NumTrap}
use Rattle.wasm_ast.specs.declared.instructions.WInstr.{WInstr, out-WInstr}
use Rattle.wasm_ast.specs.Operations.{Operation, operation_in}
use Rattle.wasm_ast.specs.Operations as operation
use Rattle.wasm_execution.specs.Configurations.{Aim, Past, Back, Level, Here, Bottom, TheEnd, ThenCall, Config, Event}
use Rattle.wasm_execution.specs.Environments.{Environment, Function, function_at}
use Rattle.wasm_execution.specs.Calls.{call, call_direct, call_indirect, call_typed, give, return_now, ends_with}
use Rattle.wasm_execution.specs.Control.{arrive, branch, leave}
use Rattle.wasm_execution.specs.Turns.{leaves, traps}
use Rattle.wasm_execution.specs.Numbers.{trap_of}
use Rattle.wasm_execution.specs.Types.{results_of, width_of}
use Rattle.wasm_execution.specs.Variables.{put_local}
use Rattle.wasm_num.specs.Operators.{binary}
use Rattle.wasm_ast.specs.SameTypes.{is_same_type}
use Rattle.wasm_execution.specs.Memories.{pages_of}
use Rattle.wasm_execution.specs.Steps.{act, step, step_at}

-- a turn leads to a configuration without bytes
abbrev pub Stays : Turn Event Config → Type 0
Stays (Went es d) = length d.store.memory ≡ 0
Stays (Ended es end d) = length d.store.memory ≡ 0
Stays NoStep = Unit {0}

one : (vs : List ℕ) (then : ℕ → List ℕ → Turn Event Config) → ((v : ℕ) (rest : List ℕ) → Stays (then v rest)) → Stays (with_one vs then)
one [] then k = tt
one (v ∷ vs) then k = k v vs

found : {X : Type 0} (o : Option X) (then : X → Turn Event Config) → ((x : X) → Stays (then x)) → Stays (with_found o then)
found None then k = tt
found (Some x) then k = k x

none : (vs : List ℕ) (then : Turn Event Config) → Stays then → Stays (with_none vs then)
none [] then k = k
none (v ∷ vs) then k = tt

top : (n : ℕ) (vs : List ℕ) (then : List ℕ → List ℕ → Turn Event Config) → ((taken rest : List ℕ) → Stays (then taken rest)) → Stays (with_top n vs then)
top zero vs then k = k [] vs
top (suc n) [] then k = tt
top (suc n) (v ∷ vs) then k = top n vs (λ taken beneath. then (v ∷ taken) beneath) (λ taken beneath. k (v ∷ taken) beneath)

all_of : (n : ℕ) (vs : List ℕ) (then : List ℕ → Turn Event Config) → ((taken : List ℕ) → Stays (then taken)) → Stays (with_all n vs then)
all_of n vs then k = top n vs (λ taken beneath. with_none beneath (then taken)) (λ taken beneath. none beneath (then taken) (k taken))

if_some : {X : Type 0} (o : Option X) (t : Turn Event Config) (go : X → Turn Event Config) → Stays t → ((x : X) → Stays (go x)) → Stays (elim o [ None ↦ t | Some x ↦ go x ])
if_some None t go k l = k
if_some (Some x) t go k l = l x

if_true : (b : Bool) (t u : Turn Event Config) → Stays t → Stays u → Stays (elim b [ true ↦ t | false ↦ u ])
if_true true t u k l = k
if_true false t u k l = l

if_zero : (n : ℕ) (t : Turn Event Config) (go : ℕ → Turn Event Config) → Stays t → ((k : ℕ) → Stays (go k)) → Stays (elim n [ zero ↦ t | suc k ↦ go k ])
if_zero zero t go k l = k
if_zero (suc n) t go k l = l n

module _ (e : Environment) (few : e.most_pages ≡ 0) (c : Config) (empty : length c.store.memory ≡ 0) where
  access : (b : Bool) (es : List Event) (after : Config) → (b ≡ true → length after.store.memory ≡ 0)
      → Stays (elim b [ true ↦ Went es after | false ↦ Ended es (Trap MemoryBounds) c ])
  access true es after k = k refl
  access false es after k = empty

  calculated : (r : Result ℕ NumTrap) (beneath : List ℕ) (here : Here) → Stays (elim r [ Ok n ↦ leaves (n ∷ beneath) here c | Err why ↦ traps (trap_of why) c ])
  calculated (Ok n) beneath here = empty
  calculated (Err why) beneath here = empty

  calls : (n : ℕ) (f : Function) (here : Here) → Stays (call e n f here c)
  calls n f here = top (length f.ty.params) here.operands _ (λ arguments beneath. if_some f.code _ _ empty (λ code. empty))

  direct : (n : ℕ) (here : Here) → Stays (call_direct e n here c)
  direct n here = found (function_at e n) _ (λ f. calls n f here)

  typed : (t n : ℕ) (here : Here) → Stays (call_typed e t n here c)
  typed t n here = found (function_at e n) _ (λ f. found (slice_get e.types t) _ (λ ty. if_true (is_same_type f.ty ty) _ _ (calls n f here) empty))

  indirect : (t : ℕ) (here : Here) → Stays (call_indirect e t here c)
  indirect t here =
      one here.operands _ (λ at beneath. if_some (slice_get c.store.table at) _ _ empty (λ entry. if_some entry _ _ empty (λ n. typed t n (record here { operands = beneath }))))

  ends : (vs : List ℕ) → Stays (ends_with vs c)
  ends [] = tt
  ends (v ∷ []) = empty
  ends (v ∷ w ∷ vs) = tt

  gives : (vs : List ℕ) (callers : List Here) (bottom : Bottom) → Stays (give e vs callers bottom c)
  gives vs (caller ∷ callers) bottom = empty
  gives vs [] TheEnd = ends vs
  gives vs [] (ThenCall n) = found (function_at e n) _ (λ f. found f.code _ (λ code. empty))

  returns_now : (here : Here) → Stays (return_now e here c)
  returns_now here = found (function_at e here.function) _ (λ f. top (results_of f.ty.result) here.operands _ (λ vs beneath. gives vs c.callers c.bottom))

  arrives : (aim : Aim) (vs : List ℕ) (l : Level) (levels : List Level) (here : Here) → Stays (arrive aim vs l levels here c)
  arrives Past vs l levels here = empty
  arrives (Back body) vs l levels here = empty

  branches : (n : ℕ) (levels : List Level) (here : Here) → Stays (branch e n levels here c)
  branches zero [] here = returns_now here
  branches (suc n) [] here = tt
  branches zero (l ∷ levels) here = top l.takes here.operands _ (λ vs beneath. arrives l.aim vs l levels here)
  branches (suc n) (l ∷ levels) here = branches n levels here

  leaves_list : (levels : List Level) (here : Here) → Stays (leave e levels here c)
  leaves_list [] here = found (function_at e here.function) _ (λ f. all_of (results_of f.ty.result) here.operands _ (λ vs. gives vs c.callers c.bottom))
  leaves_list (l ∷ levels) here = all_of l.gives here.operands _ (λ vs. empty)

  puts_local : (n v : ℕ) (operands : List ℕ) (here : Here) → Stays (put_local n v operands here c)
  puts_local n v operands here = found (slice_get here.locals n) _ (λ old. empty)

  grows : (b : Bool) (n : ℕ) → nat_le (pages_of c.store.memory + n) e.most_pages ≡ b → (beneath : List ℕ) (here : Here) → Stays (elim b [
    | true ↦ Went [] (record c {
      here = record here { operands = pages_of c.store.memory ∷ beneath };
      store = record c.store { memory = c.store.memory ++ zeros (65536 * n) };
    })
    | false ↦ leaves ((2 ^ 32 - 1) ∷ beneath) here c
  ])
  grows false n q beneath here = empty
  grows true n q beneath here =
      let le : pages_of c.store.memory + n ≤ e.most_pages = leb-true (pages_of c.store.memory + n) e.most_pages q in
      let none : n ≡ 0 = omega (arith, le, few) in
      length-append c.store.memory (zeros (65536 * n)) ∙ omega (arith, length-zeros (65536 * n), empty, none)

  acts : (o : Operation WInstr) (here : Here) → Stays (act e o here c)
  acts operation.Unreachable here = empty
  acts operation.Nop here = empty
  acts (operation.Block t xs) here = empty
  acts (operation.Loop t xs) here = empty
  acts (operation.If t xs) here = one here.operands _ (λ n beneath. if_zero n _ _ empty (λ k. empty))
  acts (operation.IfElse t xs ys) here = one here.operands _ (λ n beneath. if_zero n _ _ empty (λ k. empty))
  acts (operation.Br label) here = branches label here.levels here
  acts (operation.BrIf label) here = one here.operands _ (λ n beneath. if_zero n _ _ empty (λ k. branches label here.levels (record here { operands = beneath })))
  acts (operation.BrTable labels default) here =
      one here.operands _ (λ n beneath. if_some (slice_get labels n) _ _ (branches default here.levels (record here { operands = beneath })) (λ label. branches label here.levels (record here { operands = beneath })))
  acts operation.Return here = returns_now here
  acts (operation.Call n) here = direct n here
  acts (operation.CallIndirect n) here = indirect n here
  acts operation.Drop here = one here.operands _ (λ v beneath. empty)
  acts operation.Select here = one here.operands _ (λ n rest. one rest _ (λ second beneath. one beneath _ (λ first others. empty)))
  acts (operation.LocalGet n) here = found (slice_get here.locals n) _ (λ v. empty)
  acts (operation.LocalSet n) here = one here.operands _ (λ v beneath. puts_local n v beneath here)
  acts (operation.LocalTee n) here = one here.operands _ (λ v beneath. puts_local n v (v ∷ beneath) here)
  acts (operation.GlobalGet n) here = found (slice_get c.store.globals n) _ (λ v. empty)
  acts (operation.GlobalSet n) here = one here.operands _ (λ v beneath. found (slice_get c.store.globals n) _ (λ old. empty))
  acts (operation.Load t a align offset) here = one here.operands _ (λ base beneath. access (nat_le (base + offset + 2 ^ a.log_width) (length c.store.memory)) _ _ (λ _. empty))
  acts (operation.Store t log_width align offset) here =
      one here.operands _ (λ n beneath. one beneath _ (λ base rest. access (nat_le (base + offset + 2 ^ log_width) (length c.store.memory)) _ _
      (λ within. length-write (2 ^ log_width) c.store.memory (base + offset) n (leb-true (base + offset + 2 ^ log_width) (length c.store.memory) within) ∙ empty)))
  acts operation.MemorySize here = empty
  acts operation.MemoryGrow here = one here.operands _ (λ n beneath. grows (nat_le (pages_of c.store.memory + n) e.most_pages) n refl beneath here)
  acts (operation.Const32 bits) here = empty
  acts (operation.Const64 bits) here = empty
  acts (operation.Eqz t) here = one here.operands _ (λ v beneath. empty)
  acts (operation.Compare t o) here = one here.operands _ (λ w beneath. one beneath _ (λ v rest. empty))
  acts (operation.Unary t o) here = one here.operands _ (λ v beneath. empty)
  acts (operation.Binary t o) here = one here.operands _ (λ w beneath. one beneath _ (λ v rest. calculated (binary o (width_of t) v w) rest here))
  acts (operation.Convert o) here = one here.operands _ (λ v beneath. empty)

  by_rest : (rest : List WInstr) → Stays (step_at e rest c)
  by_rest [] = leaves_list c.here.levels c.here
  by_rest (i ∷ rest) = acts (operation_in (out-WInstr i)) (record c.here { rest = rest })

  pub stays_empty : Stays (step e c)
  stays_empty = by_rest c.here.rest
