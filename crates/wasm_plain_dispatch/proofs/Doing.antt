-- What plain instructions do, from what each of them does to the operands, the variables and the memory.
use Rattle.std.proofs.Common.{◌≡◌, ◌∙◌, ℕ, zero, suc, ◌+◌, ◌<◌, ◌≤◌, ◌^◌, Bool, true, false, List, [], ◌∷◌, length, slice_get, refl, sym, ap, subst, arith}
use Rattle.std.specs.Prelude.{Option, Some, Result, Ok, Err, drop, if◌then◌else◌}
use Rattle.std.specs.List.{flat_map}
use Rattle.machine_steps.specs.declared.Trap.{Trap}
use Rattle.wasm_ast.specs.declared.types.ValTy.{ValTy}
use Rattle.wasm_ast.specs.declared.operation.Access.{Access}
use Rattle.wasm_ast.specs.declared.operation.OperationRef.{OperationRef}
use Rattle.wasm_ast.specs.declared.instructions.WInstr.{WInstr}
use Rattle.wasm_ast.specs.Operations.{Operation}
use Rattle.wasm_ast.specs.Operations as op
use Rattle.wasm_ast.specs.OperationViews.{operation_seen}
use Rattle.wasm_execution.specs.Configurations.{Event, Touch, prints}
use Rattle.wasm_execution.specs.Environments.{Environment, is_allocator}
use Rattle.wasm_execution.specs.Turns.{first_or_zero}
use Rattle.wasm_execution.specs.Memories.{touches}
use Rattle.wasm_execution.specs.Variables.{chosen}
use Rattle.wasm_plain_steps.specs.Effects.{Act, Does, DoesOrTraps, DoesOnGlobals}
use Rattle.wasm_memory_steps.specs.Accesses.{LoadsNumber, StoresNumber, TellsSize}
use Rattle.wasm_plain_dispatch.specs.Plain.{Plain, plain, FindsPlain, DoesPlain}

-- an operation that is seen so
pub seen_as : (o p : OperationRef) (before after : Plain) (answer : Result (Unit {0}) Trap) → o ≡ p → DoesPlain (operation_seen p) before answer after → DoesPlain (operation_seen o) before answer after
seen_as o p before after answer q h = subst (λ (x : OperationRef). DoesPlain (operation_seen x) before answer after) (sym q) h

pub found_as : (o p : OperationRef) (before : Plain) (room : ℕ) → o ≡ p → FindsPlain (operation_seen o) before room → FindsPlain (operation_seen p) before room
found_as o p before room q h = subst (λ (x : OperationRef). FindsPlain (operation_seen x) before room) q h

touch_silent : (b : Bool) (a n : ℕ) → flat_map prints (if b then [] else Touch a n ∷ []) ≡ []
touch_silent true a n = refl
touch_silent false a n = refl

silent : (e : Environment) (function a n : ℕ) → flat_map prints (touches e function a n) ≡ []
silent e function a n = touch_silent (is_allocator e function) a n

module _ (old new ls m gs : List ℕ) where
  pub select_does : Does Rattle.wasm_execution.specs.Variables.select_one old new → DoesPlain op.Select (plain old ls m gs) (Ok tt) (plain new ls m gs)
  select_does h e here c = record { events = []; silent = refl; turn = h (record here { locals = ls }) (record c { store = record c.store { memory = m; globals = gs } }) }

  pub zero_does : (t : ValTy) → Does Rattle.wasm_execution.specs.Numbers.test_zero old new → DoesPlain (op.Eqz t) (plain old ls m gs) (Ok tt) (plain new ls m gs)
  zero_does t h e here c = record { events = []; silent = refl; turn = h (record here { locals = ls }) (record c { store = record c.store { memory = m; globals = gs } }) }

  pub compare_does : (t : ValTy) (o : _) → Does (Rattle.wasm_execution.specs.Numbers.apply_compare t o) old new → DoesPlain (op.Compare t o) (plain old ls m gs) (Ok tt) (plain new ls m gs)
  compare_does t o h e here c = record { events = []; silent = refl; turn = h (record here { locals = ls }) (record c { store = record c.store { memory = m; globals = gs } }) }

  pub unary_does : (t : ValTy) (o : _) → Does (Rattle.wasm_execution.specs.Numbers.apply_unary t o) old new → DoesPlain (op.Unary t o) (plain old ls m gs) (Ok tt) (plain new ls m gs)
  unary_does t o h e here c = record { events = []; silent = refl; turn = h (record here { locals = ls }) (record c { store = record c.store { memory = m; globals = gs } }) }

  pub convert_does : (o : _) → Does (Rattle.wasm_execution.specs.Numbers.apply_convert o) old new → DoesPlain (op.Convert o) (plain old ls m gs) (Ok tt) (plain new ls m gs)
  convert_does o h e here c = record { events = []; silent = refl; turn = h (record here { locals = ls }) (record c { store = record c.store { memory = m; globals = gs } }) }

  pub binary_does : (t : ValTy) (o : _) (answer : Result (Unit {0}) Trap) → DoesOrTraps (Rattle.wasm_execution.specs.Numbers.apply_binary t o) old answer new → DoesPlain (op.Binary t o) (plain old ls m gs) answer (plain new ls m gs)
  binary_does t o (Ok u) h e here c = record { events = []; silent = refl; turn = h (record here { locals = ls }) (record c { store = record c.store { memory = m; globals = gs } }) }
  binary_does t o (Err why) h e here c = record { events = []; silent = refl; turn = h (record here { locals = ls }) (record c { store = record c.store { memory = m; globals = gs } }) }

  pub global_does : (n : ℕ) → DoesOnGlobals (Rattle.wasm_execution.specs.Variables.get_global n) old gs new gs → DoesPlain (op.GlobalGet n) (plain old ls m gs) (Ok tt) (plain new ls m gs)
  global_does n h e here c = record { events = []; silent = refl; turn = h (record here { locals = ls }) (record c { store = record c.store { memory = m } }) }

  pub set_does : (n : ℕ) (gs' : List ℕ) → DoesOnGlobals (Rattle.wasm_execution.specs.Variables.set_global n) old gs new gs' → DoesPlain (op.GlobalSet n) (plain old ls m gs) (Ok tt) (plain new ls m gs')
  set_does n gs' h e here c = record { events = []; silent = refl; turn = h (record here { locals = ls }) (record c { store = record c.store { memory = m } }) }

  pub size_does : TellsSize m old new → DoesPlain op.MemorySize (plain old ls m gs) (Ok tt) (plain new ls m gs)
  size_does h e here c = record { events = []; silent = refl; turn = h e (record here { locals = ls }) (record c { store = record c.store { globals = gs } }) }

  pub load_does : (t : ValTy) (access : Access) (align offset : ℕ) (answer : Result (Unit {0}) Trap) → LoadsNumber t access offset m old answer new → DoesPlain (op.Load t access align offset) (plain old ls m gs) answer (plain new ls m gs)
  load_does t access align offset (Ok u) h e here c = record {
    events = touches e here.function (first_or_zero old + offset) (2 ^ access.log_width);
    silent = silent e here.function (first_or_zero old + offset) (2 ^ access.log_width);
    turn = h e (record here { locals = ls }) (record c { store = record c.store { globals = gs } });
  }
  load_does t access align offset (Err why) h e here c = record {
    events = touches e here.function (first_or_zero old + offset) (2 ^ access.log_width);
    silent = silent e here.function (first_or_zero old + offset) (2 ^ access.log_width);
    turn = h e (record here { locals = ls }) (record c { store = record c.store { globals = gs } });
  }

  pub store_does : (t : ValTy) (log_width align offset : ℕ) (answer : Result (Unit {0}) Trap) (m' : List ℕ) → StoresNumber log_width offset m old answer m' new
      → DoesPlain (op.Store t log_width align offset) (plain old ls m gs) answer (plain new ls m' gs)
  store_does t log_width align offset (Ok u) m' h e here c = record {
    events = touches e here.function (first_or_zero (drop 1 old) + offset) (2 ^ log_width);
    silent = silent e here.function (first_or_zero (drop 1 old) + offset) (2 ^ log_width);
    turn = h e (record here { locals = ls }) (record c { store = record c.store { globals = gs } });
  }
  store_does t log_width align offset (Err why) m' h e here c = record {
    events = touches e here.function (first_or_zero (drop 1 old) + offset) (2 ^ log_width);
    silent = silent e here.function (first_or_zero (drop 1 old) + offset) (2 ^ log_width);
    turn = h e (record here { locals = ls }) (record c { store = record c.store { globals = gs } });
  }

-- a number that is there
got : (xs : List ℕ) (n : ℕ) → n < length xs → (v : ℕ) × (slice_get xs n ≡ Some v)
got [] n lt = absurd (omega (arith, lt))
got (x ∷ xs) zero lt = (x, refl)
got (x ∷ xs) (suc n) lt = got xs n (omega (arith, lt))

pub put_room : (xs old new : List ℕ) (n room room' : ℕ) → n < length xs → ((v : ℕ) → slice_get xs n ≡ Some v → new ≡ v ∷ old) → room' + 1 ≡ room → room' + length new ≡ room + length old
put_room xs old new n room room' lt top one = let v = got xs n lt in let l = ap length (top v.0 v.1) in omega (arith, l, one)

pub select_room : (old new : List ℕ) (room room' : ℕ) → 3 ≤ length old → ((condition second first : ℕ) (rest : List ℕ) → old ≡ condition ∷ (second ∷ (first ∷ rest)) → new ≡ chosen condition first second ∷ rest)
    → room' ≡ room + 2 → room' + length new ≡ room + length old
select_room [] new room room' le top two = absurd (omega (arith, le))
select_room (x ∷ []) new room room' le top two = absurd (omega (arith, le))
select_room (x ∷ (y ∷ [])) new room room' le top two = absurd (omega (arith, le))
select_room (x ∷ (y ∷ (z ∷ zs))) new room room' le top two = let l = ap length (top x y z zs refl) in omega (arith, l, two)
