-- Loads, stores and growth of a memory, by whether they lie within it; and a step that is known, before others.
use Rattle.std.proofs.Common.{◌≡◌, ℕ, suc, ◌+◌, ◌*◌, ◌-◌, ◌^◌, ◌<◌, ◌≤◌, Bool, true, false, List, [], ◌∷◌, ◌++◌, length, ap}
use Rattle.std.proofs.lemmas.Bool.{le-leb, lt-leb}
use Rattle.memory_words.specs.Memories.{zeros}
use Rattle.machine_steps.specs.declared.End.{End}
use Rattle.machine_steps.specs.declared.End.TheVariants.{Trap}
use Rattle.machine_steps.specs.declared.Trap.TheVariants.{MemoryBounds}
use Rattle.machine_steps.specs.Steps.{Went, Ended, onward, over, reached_by, reached}
use Rattle.wasm_execution.specs.Configurations.{Here, Config, Event}
use Rattle.wasm_execution.specs.Environments.{Environment}
use Rattle.wasm_execution.specs.Turns.{leaves}
use Rattle.wasm_execution.specs.Memories.{touches, access_at, pages_of, grow_memory}
use Rattle.wasm_execution.specs.Steps.{step}

module _ (e : Environment) where
  -- an access within the memory
  pub accesses : (address count : ℕ) (here : Here) (c after : Config) → address + count ≤ length c.store.memory → access_at e address count here c after ≡ Went (touches e here.function address count) after
  accesses address count here c after le = ap (λ (b : Bool). elim b [
    | true ↦ Went (touches e here.function address count) after
    | false ↦ Ended (touches e here.function address count) (Trap MemoryBounds) c
  ]) (le-leb (address + count) (length c.store.memory) le)

  -- an access of which a byte is out of bounds
  pub access_traps : (address count : ℕ) (here : Here) (c after : Config) → length c.store.memory < address + count →
      access_at e address count here c after ≡ Ended (touches e here.function address count) (Trap MemoryBounds) c
  access_traps address count here c after lt = ap (λ (b : Bool). elim b [
    | true ↦ Went (touches e here.function address count) after
    | false ↦ Ended (touches e here.function address count) (Trap MemoryBounds) c
  ]) (lt-leb (address + count) (length c.store.memory) lt)

  -- a memory after so many pages more
  abbrev pub grown : ℕ → List ℕ → Here → Config → Config
  grown n beneath here c = record c {
    here = record here { operands = pages_of c.store.memory ∷ beneath };
    store = record c.store { memory = c.store.memory ++ zeros (65536 * n) };
  }

  -- a growth within the most pages
  pub grows : (n : ℕ) (beneath : List ℕ) (here : Here) (c : Config) → pages_of c.store.memory + n ≤ e.most_pages →
      grow_memory e (record here { operands = n ∷ beneath }) c ≡ Went [] (grown n beneath here c)
  grows n beneath here c le = ap (λ (b : Bool). elim b [
    | true ↦ Went [] (grown n beneath here c)
    | false ↦ leaves ((2 ^ 32 - 1) ∷ beneath) here c
  ]) (le-leb (pages_of c.store.memory + n) e.most_pages le)

  -- a growth past them
  pub grows_not : (n : ℕ) (beneath : List ℕ) (here : Here) (c : Config) → e.most_pages < pages_of c.store.memory + n →
      grow_memory e (record here { operands = n ∷ beneath }) c ≡ leaves ((2 ^ 32 - 1) ∷ beneath) here c
  grows_not n beneath here c lt = ap (λ (b : Bool). elim b [
    | true ↦ Went [] (grown n beneath here c)
    | false ↦ leaves ((2 ^ 32 - 1) ∷ beneath) here c
  ]) (lt-leb (pages_of c.store.memory + n) e.most_pages lt)

  -- a step that is known, before others
  pub went : (n : ℕ) (c c' : Config) (es : List Event) → step e c ≡ Went es c' → reached (step e) (suc n) c ≡ onward es (reached (step e) n c')
  went n c c' es s = ap (λ o. reached_by o c (reached (step e) n)) s

  pub ended : (n : ℕ) (c c' : Config) (es : List Event) (x : End) → step e c ≡ Ended es x c' → reached (step e) (suc n) c ≡ over 1 es x c'
  ended n c c' es x s = ap (λ o. reached_by o c (reached (step e) n)) s
