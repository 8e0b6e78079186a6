-- Lists of events, and a run that allocates, touches and frees, computed (this project's own rows).
use Rattle.std.specs.Prelude.{◌≡◌, ℕ, true, [], ◌∷◌, Some, None, codes, replicate}
use Rattle.memory_words.specs.Memories.{write}
use Rattle.wasm_ast.specs.declared.instructions.WInstr as w
use Rattle.wasm_ast.specs.declared.types.ValTy.TheVariants.{I32, I64}
use Rattle.wasm_ast.specs.declared.modules.Code.{Code}
use Rattle.wasm_ast.specs.declared.modules.ExportKind.TheVariants as export_kind
use Rattle.wasm_ast.specs.declared.modules.WModule.{WModule}
use Rattle.machine_steps.specs.declared.End.TheVariants.{Trap}
use Rattle.machine_steps.specs.declared.Trap.TheVariants.{Exhausted}
use Rattle.machine_steps.specs.Steps.{Reached, Over, reached}
use Rattle.wasm_execution.specs.Configurations.{Store, Config, Event, Called, Returned, TheEnd}
use Rattle.wasm_execution.specs.Environments.{environment_of}
use Rattle.wasm_execution.specs.Calls.{entered}
use Rattle.wasm_execution.specs.Steps.{step}
use Rattle.wasm_execution.specs.EventRows.{allocating}
use Rattle.allocator_codes.specs.Codes.{alloc_lin_code, free_lin_code}
use Rattle.heap_events.specs.Events.{Alloc, Free, Grant, Touch, open_calls, heap_events}
use Rattle.heap_events.specs.Heaps.{Extent, blocks_of, grants_of}
use Rattle.heap_events.specs.Safety.{IsMemorySafe}
use Rattle.heap_events.specs.Honesty.{OfInnermost, LacksRoom}

abbrev pub extent : ℕ → ℕ → Extent
extent a n = record { address = a; words = n }

-- an address is given twice: the first block there is gone
pub record WorkedBlocks : Type 0 where
  pub again : blocks_of (Alloc 24 2 ∷ Alloc 48 1 ∷ Free 24 ∷ Alloc 24 1 ∷ []) ≡ None ∷ Some (extent 48 1) ∷ Some (extent 24 1) ∷ []
  pub grants : grants_of (Grant 65536 3 ∷ Alloc 24 1 ∷ Grant 65560 1 ∷ []) ≡ extent 65536 3 ∷ extent 65560 1 ∷ []

-- calls that run, and a request for no word, in any store
pub record WorkedCalls : Type 0 where
  pub running : (s : Store) → open_calls (Called 1 5 s ∷ Returned 1 24 s ∷ Called 3 7 s ∷ []) ≡ record { function = 3; argument = 7; entry = s } ∷ []
  pub least : (s : Store) → heap_events (Called 1 0 s ∷ Returned 1 24 s ∷ Called 3 0 s ∷ Returned 3 65536 s ∷ []) ≡ Alloc 24 1 ∷ Grant 65536 1 ∷ []
  pub entry : (s : Store) → heap_events (Called 2 24 s ∷ []) ≡ Free 24 ∷ []

-- the region's next address is given, without a look at its end
abbrev pub next_code : Code
next_code = record { locals = []; body = w.GlobalGet 1 ∷ w.GlobalGet 1 ∷ w.LocalGet 0 ∷ w.I64Const 8 ∷ w.I64Mul ∷ w.I64Add ∷ w.GlobalSet 1 ∷ [] }

-- a block of two words and one of one word are asked for, and the first is stored to; both are released, five words of the region
-- are asked for, and then a block that is too large
abbrev pub worked_code : Code
worked_code = record {
  locals = record { count = 1; ty = I64 } ∷ [];
  body =
      w.I64Const 2 ∷ w.Call 1 ∷ w.LocalSet 0
      ∷ w.LocalGet 0 ∷ w.I32WrapI64 ∷ w.I64Const 9 ∷ w.I64Store32 2 8
      ∷ w.I64Const 0 ∷ w.Call 1 ∷ w.Call 2
      ∷ w.LocalGet 0 ∷ w.Call 2
      ∷ w.I64Const 5 ∷ w.Call 3 ∷ w.Drop
      ∷ w.I64Const 7 ∷ w.Call 1
      ∷ [];
}

-- functions 1 to 4 have these codes, and global 0 tells why `unreachable` was reached
abbrev pub worked_module : WModule
worked_module = record (allocating 2 []) {
  globals = record { ty = I32; mutable = true; init = w.I32Const 0 } ∷ record { ty = I64; mutable = true; init = w.I64Const 96 } ∷ [];
  exports = record { name = codes "trap_code"; kind = export_kind.Global; index = 0 } ∷ [];
  codes = alloc_lin_code ∷ free_lin_code ∷ next_code ∷ worked_code ∷ [];
}

-- a memory of twelve words, of which one free block has nine
abbrev pub worked_store : Store
worked_store = record { memory = write 8 (write 8 (replicate 96 0) 8 24) 16 9; table = []; globals = 0 ∷ 96 ∷ [] }

-- what is reached from the call of function 4 after 400 steps
abbrev pub worked_run : Reached Event Config
worked_run = reached (step (environment_of worked_module)) 400 (entered 4 worked_code [] [] TheEnd worked_store)

pub record WorkedRun : Type 0 where
  pub events : heap_events worked_run.said ≡ Alloc 24 2 ∷ Touch 32 4 ∷ Alloc 48 1 ∷ Free 48 ∷ Free 24 ∷ Grant 96 5 ∷ []
  pub ended : worked_run.stand ≡ Over (Trap Exhausted)
  pub honest : OfInnermost (LacksRoom 1 0) (open_calls worked_run.said)

-- a list is safe, and one is not: a block is freed twice, touched when it was freed, touched past its end; grants overlap, or lie
-- past the region's end
pub record WorkedSafety : Type 0 where
  pub safe : IsMemorySafe 1 1 (Alloc 24 2 ∷ Touch 32 8 ∷ Free 24 ∷ Alloc 24 1 ∷ Touch 24 8 ∷ Grant 65536 2 ∷ Touch 65544 8 ∷ [])
  pub freed_twice : IsMemorySafe 1 1 (Alloc 24 2 ∷ Free 24 ∷ Free 24 ∷ []) → ⊥
  pub touched_late : IsMemorySafe 1 1 (Alloc 24 2 ∷ Free 24 ∷ Touch 24 8 ∷ []) → ⊥
  pub touched_past : IsMemorySafe 1 1 (Alloc 24 2 ∷ Touch 36 8 ∷ []) → ⊥
  pub overlapping : IsMemorySafe 1 1 (Grant 65536 2 ∷ Grant 65544 2 ∷ []) → ⊥
  pub past_region : IsMemorySafe 1 1 (Grant 131064 2 ∷ []) → ⊥
