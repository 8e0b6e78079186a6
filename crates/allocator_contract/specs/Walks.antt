-- Steps of a call of an allocator: they say nothing, and at each of them the free list can be read. This project's own.
use Rattle.std.specs.Prelude.{◌≡◌, ℕ, zero, suc, ◌<◌, ◌≤◌, [], ◌∷◌}
use Rattle.memory_words.specs.Memories.{word}
use Rattle.machine_steps.specs.Steps.{Turn, Went, Ended, NoStep, going, reached}
use Rattle.wasm_execution.specs.Configurations.{Config, Event}
use Rattle.wasm_execution.specs.Environments.{Environment}
use Rattle.wasm_execution.specs.Steps.{step}
use Rattle.heap_blocks.specs.Blocks.{IsReadable}

-- the free list of a linear part of so many words can be read
abbrev pub CanBeRead : ℕ → Config → Type 0
CanBeRead words c = IsReadable words (word c.store.memory)

-- what holds after a step that says nothing
abbrev pub on_quiet : Turn Event Config → (Config → Type 0) → Type 0
on_quiet (Went [] c) go = go c
on_quiet (Went (x ∷ xs) c) go = ⊥
on_quiet (Ended xs x c) go = ⊥
on_quiet NoStep go = ⊥

module _ (e : Environment) (words : ℕ) (K : Config → Type 0) where
  -- so many steps that say nothing, to a configuration at which this holds
  abbrev pub Quietly : ℕ → Config → Type 0
  Quietly zero c = CanBeRead words c × K c
  Quietly (suc n) c = CanBeRead words c × on_quiet (step e c) (Quietly n)

  -- fewer than so many such steps
  pub record Within (n : ℕ) (c : Config) : Type 0 where
    pub steps : ℕ
    pub few : steps < n
    pub quietly : Quietly steps c

  -- the same by what is reached
  pub record Reaches (n : ℕ) (c : Config) : Type 0 where
    pub steps : ℕ
    pub few : steps < n
    pub to : Config
    pub by : reached (step e) steps c ≡ going steps [] to
    pub there : K to
    pub way : (m : ℕ) → m ≤ steps → CanBeRead words (reached (step e) m c).at
