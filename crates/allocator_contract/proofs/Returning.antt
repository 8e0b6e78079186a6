-- How the call of an allocator is over: it returns to its caller, or memory is spent.
use Rattle.std.proofs.Common.{◌≡◌, ◌∙◌, ℕ, Bool, true, List, [], ◌∷◌, ◌++◌, Option, Some, None, refl, ap}
use Rattle.std.specs.Prelude.{slice_get, slice_set, if◌then◌else◌}
use Rattle.wasm_ast.specs.declared.instructions.WInstr as w
use Rattle.wasm_ast.specs.declared.instructions.WInstr.{WInstr}
use Rattle.wasm_ast.specs.declared.instructions.WInstr.TheOpen.{WInstr-F}
use Rattle.wasm_ast.specs.declared.instructions.WInstr.TheVariants as v
use Rattle.wasm_ast.specs.declared.modules.Code.{Code}
use Rattle.machine_steps.specs.declared.End.TheVariants.{Trap}
use Rattle.machine_steps.specs.declared.Trap as machine
use Rattle.machine_steps.specs.declared.Trap.TheVariants.{Exhausted, Unreachable}
use Rattle.machine_steps.specs.Steps.{Went, Ended}
use Rattle.wasm_execution.specs.Types.{results_of}
use Rattle.machine_steps.specs.Steps.{with_found, with_all}
use Rattle.wasm_execution.specs.Configurations.{Level, Store, Config, Returned, Stopped}
use Rattle.wasm_execution.specs.Environments.{Environment, Function, function_at, is_allocator}
use Rattle.wasm_execution.specs.Control.{told_reason}
use Rattle.wasm_execution.specs.Calls.{give}
use Rattle.wasm_execution.specs.Steps.{step}
use Rattle.allocator_contract.specs.Heaps.{linear_words}
use Rattle.allocator_contract.specs.Contract.{alloc_type, free_type, Caller, Returns}
use Rattle.allocator_contract.proofs.Instructions.{Call, at, acts}

-- the call of an allocator by this caller
abbrev pub call_of : (e : Environment) (linear n x : ℕ) → Caller → List (Option ℕ) → is_allocator e n ≡ true → Call
call_of e linear n x caller table quiet = record {
  environment = e;
  words = linear_words linear;
  function = n;
  argument = x;
  callers = caller.waiting ∷ caller.callers;
  bottom = caller.bottom;
  table = table;
  quiet = quiet;
}

pub set_zeroth : (gl : List ℕ) (old y : ℕ) → slice_get gl 0 ≡ Some old → slice_get (slice_set gl 0 y) 0 ≡ Some y
set_zeroth [] old y e = absurd cc
set_zeroth (g ∷ gs) old y e = refl

module _ (e : Environment) (linear n x : ℕ) (caller : Caller) (table : List (Option ℕ)) (quiet : is_allocator e n ≡ true) where
  abbrev a : Call
  a = call_of e linear n x caller table quiet

  abbrev over : List ℕ → Store → Config
  over vs store = record { here = record caller.waiting { operands = vs ++ caller.waiting.operands }; callers = caller.callers; bottom = caller.bottom; store = store }

  -- the end of the body of a function that gives nothing
  pub returns_nothing : (code : Code) (m gl lo : List ℕ) → function_at e n ≡ Some (record { ty = free_type; code = Some code }) → Returns e n [] caller (at a m gl lo [] [] [])
  returns_nothing code m gl lo is =
      let c = at a m gl lo [] [] [] in
      ap (λ (o : Option Function). with_found o (λ f. with_all (results_of f.ty.result) c.here.operands (λ vs. give e vs c.callers c.bottom c))) is
      ∙ ap (λ (b : Bool). Went (if b then Returned n 0 c.store ∷ [] else []) (over [] c.store)) quiet

  -- the end of the body of one that gives a number
  pub returns_one : (code : Code) (m gl lo : List ℕ) (y : ℕ) → function_at e n ≡ Some (record { ty = alloc_type; code = Some code }) → Returns e n (y ∷ []) caller (at a m gl lo (y ∷ []) [] [])
  returns_one code m gl lo y is =
      let c = at a m gl lo (y ∷ []) [] [] in
      ap (λ (o : Option Function). with_found o (λ f. with_all (results_of f.ty.result) c.here.operands (λ vs. give e vs c.callers c.bottom c))) is
      ∙ ap (λ (b : Bool). Went (if b then Returned n y c.store ∷ [] else []) (over (y ∷ []) c.store)) quiet

  -- `unreachable`, where global 0 tells that memory is spent
  pub ends_spent : (m gl lo st : List ℕ) (is : List WInstr) (ls : List Level) (old : ℕ) → e.trap_code ≡ Some 0 → slice_get gl 0 ≡ Some old →
      (let c = at a m (slice_set gl 0 1) lo st (w.Unreachable ∷ is) ls in step e c ≡ Ended (Stopped Exhausted ∷ []) (Trap Exhausted) c)
  ends_spent m gl lo st is ls old trap_code stands =
      let c = at a m (slice_set gl 0 1) lo st (w.Unreachable ∷ is) ls in
      acts a WInstr-F.Unreachable w.Unreachable v.rolls-Unreachable is c refl
      ∙ ap (λ (o : Option ℕ). let why : machine.Trap = (elim o [ None ↦ Unreachable | Some k ↦ told_reason (slice_get (slice_set gl 0 1) k) ]) in Ended (Stopped why ∷ []) (Trap why) c) trap_code
      ∙ ap (λ (o : Option ℕ). Ended (Stopped (told_reason o) ∷ []) (Trap (told_reason o)) c) (set_zeroth gl old 1 stands)
