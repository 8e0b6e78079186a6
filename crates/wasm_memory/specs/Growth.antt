-- What a growth of a memory answers and leaves (WebAssembly Core Specification 1.0, section 4.4.4.4).
use Rattle.std.specs.Prelude.{◌≡◌, ℕ, ◌+◌, ◌*◌, ◌≤◌, ◌<◌, List, ◌++◌, Option, Some, None}
use Rattle.memory_words.specs.Memories.{zeros}
use Rattle.wasm_execution.specs.Memories.{pages_of}

-- a memory grows by so many pages, up to the most; or it stays, where there would be more
abbrev pub Grows : ℕ → ℕ → List ℕ → Option ℕ → List ℕ → Type 0
Grows most pages before None after = (most < pages_of before + pages) × (after ≡ before)
Grows most pages before (Some n) after = (n ≡ pages_of before) × (pages_of before + pages ≤ most) × (after ≡ before ++ zeros (65536 * pages))
