-- What memory instructions do (WebAssembly Core Specification 1.0, section 4.4.4).
use Rattle.std.specs.Prelude.{ℕ, ◌+◌, ◌-◌, ◌*◌, ◌/◌, ◌^◌, true, false, nat_le, nat_lt, cond, if◌then◌else◌, List, [], ◌∷◌, ◌++◌, length}
use Rattle.memory_words.specs.Memories.{zeros, read, write}
use Rattle.wasm_operators.specs.declared.Width.{Width}
use Rattle.wasm_num.specs.Widths.{modulus}
use Rattle.wasm_ast.specs.declared.types.ValTy.{ValTy}
use Rattle.wasm_ast.specs.declared.operation.Access.{Access}
use Rattle.machine_steps.specs.declared.End.TheVariants.{Trap}
use Rattle.machine_steps.specs.declared.Trap.TheVariants.{MemoryBounds}
use Rattle.machine_steps.specs.Steps.{Turn, Went, Ended}
use Rattle.wasm_execution.specs.Types.{width_of}
use Rattle.wasm_execution.specs.Configurations.{Here, Config, Event, Touch}
use Rattle.wasm_execution.specs.Environments.{Environment, is_allocator}
use Rattle.wasm_execution.specs.Turns.{with_two, leaves}
use Rattle.machine_steps.specs.Steps.{with_one}

-- a number of so many bits, its sign carried on to a width (4.3.2, "extend_s")
abbrev pub with_sign_of : ℕ → Width → ℕ → ℕ
with_sign_of bits w n = cond (nat_lt n (2 ^ (bits - 1))) n (n + (modulus w - 2 ^ bits))

-- the number that a load gives, from that of its bytes
abbrev pub loaded : ValTy → Access → ℕ → ℕ
loaded t access n = if access.signed then with_sign_of (8 * 2 ^ access.log_width) (width_of t) n else n

-- the pages of a memory
abbrev pub pages_of : List ℕ → ℕ
pages_of memory = length memory / 65536

module _ (e : Environment) where
  -- what a load or store says: its address and its count of bytes, outside the allocators (this project's own)
  abbrev pub touches : ℕ → ℕ → ℕ → List Event
  touches function address count = if is_allocator e function then [] else Touch address count ∷ []

  -- what follows where so many bytes at an address lie within the memory; else the run is over
  abbrev pub access_at : ℕ → ℕ → Here → Config → Config → Turn Event Config
  access_at address count here c after = elim (nat_le (address + count) (length c.store.memory)) [
    | true ↦ Went (touches here.function address count) after
    | false ↦ Ended (touches here.function address count) (Trap MemoryBounds) c
  ]

  -- t.load and t.loadN_sx (4.4.4.1)
  abbrev pub load_number : ValTy → Access → ℕ → Here → Config → Turn Event Config
  load_number t access offset here c = with_one here.operands (λ base beneath. access_at (base + offset) (2 ^ access.log_width) here c
      (record c { here = record here { operands = loaded t access (read (2 ^ access.log_width) c.store.memory (base + offset)) ∷ beneath } }))

  -- t.store and t.storeN (4.4.4.2)
  abbrev pub store_number : ℕ → ℕ → Here → Config → Turn Event Config
  store_number log_width offset here c = with_two here.operands (λ base n beneath. access_at (base + offset) (2 ^ log_width) here c (record c {
    here = record here { operands = beneath };
    store = record c.store { memory = write (2 ^ log_width) c.store.memory (base + offset) n };
  }))

  -- memory.size (4.4.4.3)
  abbrev pub size_of_memory : Here → Config → Turn Event Config
  size_of_memory here c = leaves (pages_of c.store.memory ∷ here.operands) here c

  -- memory.grow, which succeeds exactly where the new size is at most the most pages (4.4.4.4; the choice is this project's own)
  abbrev pub grow_memory : Here → Config → Turn Event Config
  grow_memory here c = with_one here.operands (λ n beneath. elim (nat_le (pages_of c.store.memory + n) e.most_pages) [
    | true ↦ Went [] (record c {
      here = record here { operands = pages_of c.store.memory ∷ beneath };
      store = record c.store { memory = c.store.memory ++ zeros (65536 * n) };
    })
    | false ↦ leaves ((2 ^ 32 - 1) ∷ beneath) here c
  ])
